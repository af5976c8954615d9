-- The first group of a new manifest names what it is written from.
use Rattle.std.proofs.Common.{◌≡◌, ℕ, Bool, true, false, cond, ◌&&◌, ◌||◌, not, List, [], ◌∷◌, ◌++◌, map, flat_map, reverse, Option, Some, None, Ok, refl, sym, ap, ◌∙◌, is_eq, append-nil, arith}
use Rattle.std.specs.Prelude.{IsTrue, nat_lt, ◌==◌, max, is_some}
use Rattle.std.specs.Ordering.{match_ordering}
use Rattle.std.specs.declared.cmp.Ordering.TheVariants.{Greater}
use Rattle.std.specs.List.{list_any, AllByRecursion as Each}
use Rattle.std.proofs.lemmas.Bool.{false≢true}
use Rattle.std.proofs.lemmas.List.{reverse-append, reverse-reverse}
use Rattle.st_base.specs.Bytes.{bytes_cmp}
use Rattle.st_base.specs.Map.{value_at, set_at}
use Rattle.base_laws.proofs.Lists.{each_join}
use Rattle.manifest_edits.specs.Edits.{Placement, Edit, AddFamily, Flushed, AddLog, Last, NamedFamily, Named, named_none, manifest_reading_none, read_records, changed_named, has_id, is_file, is_last_edit, ends_with_last, edited_all, with_table, with_flushed_number, may_place}
use Rattle.manifest_edits.proofs.Cut.{cut_group}
use Rattle.image_laws.proofs.RightEdits.{IsNewTable, FilesDiffer, one_right, any_append, tables_added, last_ends}
use Rattle.manifest_edits.specs.Groups.{IsGroup, group_of_edits}
use Rattle.manifest_edits.proofs.Reading.{read_whole}
use Rattle.manifest_edits.specs.CallEdits.{add_table_edit, with_files_named, placed_for_family, family_edits, families_edits, first_edits}
use Rattle.store_image.specs.Calls.{IsNextFamily, AreNextFamilies}
use Rattle.st_order.specs.Columns.{Pairwise}

-- ---- the edits: families, each with its tables from the oldest; the log; the last number

-- ---- families in their order, of which no two have an id or a file

-- ---- at the end of the families

value_none : {X : Type 0} (name : List ℕ) (done : List (List ℕ × X)) → Each (λ before. bytes_cmp name before.0 ≡ Greater) done → value_at done name ≡ None
value_none name [] h = refl
value_none name (one ∷ done) h = ap (λ r. cond (is_eq r) (Some one.1) (value_at done name)) h.0 ∙ value_none name done h.1

set_end : {X : Type 0} (name : List ℕ) (x : X) (done : List (List ℕ × X)) → Each (λ before. bytes_cmp name before.0 ≡ Greater) done → set_at done name x ≡ done ++ (name, x) ∷ []
set_end name x [] h = refl
set_end name x (one ∷ done) h = ap (λ r. match_ordering r ((name, x) ∷ one ∷ done) ((one.0, x) ∷ done) (one ∷ set_at done name x)) h.0 ∙ ap (λ l. one ∷ l) (set_end name x done h.1)

itself : (n : ℕ) → (n == n) ≡ true
itself n = grind arith

either : (a b : Bool) → (a || b) ≡ false → (a ≡ false) × (b ≡ false)
either true b e = absurd (false≢true (sym e))
either false b e = (refl, e)

change_end : (change : NamedFamily → NamedFamily) (name : List ℕ) (id : ℕ) (family : NamedFamily) (done : List (List ℕ × NamedFamily)) → has_id id done ≡ false → (family.id == id) ≡ true
    → changed_named id change (done ++ (name, family) ∷ []) ≡ done ++ (name, change family) ∷ []
change_end change name id family [] none own = ap {B = List (List ℕ × NamedFamily)} (λ b. (name, cond b (change family) family) ∷ []) own
change_end change name id family (one ∷ done) none own =
    let two = either (one.1.id == id) (has_id id done) none in
    ap (λ b. (one.0, cond b (change one.1) one.1) ∷ changed_named id change (done ++ (name, family) ∷ [])) two.0 ∙ ap (λ l. one ∷ l) (change_end change name id family done two.1 own)

has_end : (name : List ℕ) (id : ℕ) (family : NamedFamily) (done : List (List ℕ × NamedFamily)) → (family.id == id) ≡ true → has_id id (done ++ (name, family) ∷ []) ≡ true
has_end name id family [] own = ap (λ b. b || false) own
has_end name id family (one ∷ done) own = ap (λ b. (one.1.id == id) || b) (has_end name id family done own) ∙ right (one.1.id == id)
  where
    right : (b : Bool) → (b || true) ≡ true
    right true = refl
    right false = refl

assoc : {X : Type 0} (a b c : List X) → (a ++ b) ++ c ≡ a ++ (b ++ c)
assoc [] b c = refl
assoc (x ∷ a) b c = ap (λ l. x ∷ l) (assoc a b c)

-- tables one by one
tables_end : (name : List ℕ) (id : ℕ) (placed : List Placement) (family : NamedFamily) (done : List (List ℕ × NamedFamily)) → has_id id done ≡ false → (family.id == id) ≡ true
    → with_files_named (placed_for_family id placed) (done ++ (name, family) ∷ []) ≡ done ++ (name, record family { tables = reverse placed ++ family.tables }) ∷ []
tables_end name id [] family done none own = refl
tables_end name id (one ∷ placed) family done none own =
    ap (with_files_named (placed_for_family id placed)) (change_end (with_table one) name id family done none own)
    ∙ tables_end name id placed (with_table one family) done none own
    ∙ ap (λ tables. done ++ (name, record family { tables = tables }) ∷ []) (sym (ap (λ l. l ++ family.tables) (reverse-append (one ∷ []) placed) ∙ assoc (reverse placed) (one ∷ []) family.tables))

flat_end : (name : List ℕ) (family : NamedFamily) (file : ℕ) (done : List (List ℕ × NamedFamily)) → family.tables ≡ [] → list_any (is_file file) (flat_map (λ one. one.1.tables) (done ++ (name, family) ∷ [])) ≡ list_any (is_file file) (flat_map (λ one. one.1.tables) done)
flat_end name family file [] e = ap (λ tables. list_any (is_file file) (tables ++ [])) e
flat_end name family file (one ∷ done) e =
    any_append (is_file file) one.1.tables (flat_map (λ one. one.1.tables) (done ++ (name, family) ∷ []))
    ∙ ap (λ b. list_any (is_file file) one.1.tables || b) (flat_end name family file done e) ∙ sym (any_append (is_file file) one.1.tables (flat_map (λ one. one.1.tables) done))

-- ---- one family

family_right : (done : List (List ℕ × NamedFamily)) (logs : List ℕ) (last : ℕ) (family : List ℕ × NamedFamily) (rest : List Edit) → IsNextFamily done family
    → edited_all (record { families = done; logs = logs; last = last }) (family_edits family ++ rest) ≡ edited_all (record { families = done ++ family ∷ []; logs = logs; last = last }) rest
family_right done logs last family rest is =
    one_right (record { families = done; logs = logs; last = last }) (AddFamily family.1.id family.0) ((map add_table_edit (placed_for_family family.1.id (reverse family.1.tables)) ++ Flushed family.1.id family.1.flushed ∷ []) ++ rest)
    (ap (λ b. not b && not (is_some (value_at done family.0))) is.id ∙ ap (λ found. not (is_some found)) (value_none family.0 done is.name))
    ∙ ap (λ families. edited_all (at families) ((map add_table_edit (placed_for_family family.1.id (reverse family.1.tables)) ++ Flushed family.1.id family.1.flushed ∷ []) ++ rest)) (set_end family.0 new done is.name)
    ∙ ap (edited_all (at (done ++ (family.0, new) ∷ []))) (assoc (map add_table_edit (placed_for_family family.1.id (reverse family.1.tables))) (Flushed family.1.id family.1.flushed ∷ []) rest)
    ∙ tables_added (at (done ++ (family.0, new) ∷ [])) (placed_for_family family.1.id (reverse family.1.tables)) (Flushed family.1.id family.1.flushed ∷ rest) (news (reverse family.1.tables) is.new) (differs (reverse family.1.tables) is.differ)
    ∙ ap (λ families. edited_all (at families) (Flushed family.1.id family.1.flushed ∷ rest)) (tables_end family.0 family.1.id (reverse family.1.tables) new done is.id (itself family.1.id)
    ∙ ap (λ tables. done ++ (family.0, record new { tables = tables }) ∷ []) (append-nil (reverse (reverse family.1.tables)) ∙ reverse-reverse family.1.tables))
    ∙ one_right (at (done ++ (family.0, filled) ∷ [])) (Flushed family.1.id family.1.flushed) rest (has_end family.0 family.1.id filled done (itself family.1.id))
    ∙ ap (λ families. edited_all (at families) rest) (change_end (with_flushed_number family.1.flushed) family.0 family.1.id filled done is.id (itself family.1.id))
  where
    at : List (List ℕ × NamedFamily) → Named
    at families = record { families = families; logs = logs; last = last }

    new : NamedFamily
    new = record { id = family.1.id; flushed = 0; tables = [] }

    filled : NamedFamily
    filled = record { id = family.1.id; flushed = 0; tables = family.1.tables }

    news : (placed : List Placement) → Each (λ one. (list_any (is_file one.file) (flat_map (λ one. one.1.tables) done) ≡ false) × (may_place one ≡ true)) placed → Each (IsNewTable (at (done ++ (family.0, new) ∷ []))) (placed_for_family family.1.id placed)
    news [] h = tt
    news (one ∷ placed) h = (record { there = has_end family.0 family.1.id new done (itself family.1.id); new = flat_end family.0 new one.file done refl ∙ h.0.0; above = h.0.1 }, news placed h.1)

    each_differs : (one : Placement) (placed : List Placement) → Each (λ other. (one.file == other.file) ≡ false) placed → Each (λ (other : ℕ × Placement). (one.file == other.1.file) ≡ false) (placed_for_family family.1.id placed)
    each_differs one [] h = tt
    each_differs one (other ∷ placed) h = (h.0, each_differs one placed h.1)

    differs : (placed : List Placement) → Pairwise (λ one other. (one.file == other.file) ≡ false) placed → FilesDiffer (placed_for_family family.1.id placed)
    differs [] h = tt
    differs (one ∷ placed) h = (each_differs one placed h.0, differs placed h.1)

-- ---- all of them

families_right : (done families : List (List ℕ × NamedFamily)) (logs : List ℕ) (last : ℕ) (rest : List Edit) → AreNextFamilies done families
    → edited_all (record { families = done; logs = logs; last = last }) (families_edits families ++ rest) ≡ edited_all (record { families = done ++ families; logs = logs; last = last }) rest
families_right done [] logs last rest all = ap (λ families. edited_all (record { families = families; logs = logs; last = last }) rest) (sym (append-nil done))
families_right done (family ∷ families) logs last rest all =
    ap (edited_all (record { families = done; logs = logs; last = last })) (assoc (family_edits family) (families_edits families) rest)
    ∙ family_right done logs last family (families_edits families ++ rest) all.0
    ∙ families_right (done ++ family ∷ []) families logs last rest all.1
    ∙ ap (λ families. edited_all (record { families = families; logs = logs; last = last }) rest) (assoc done (family ∷ []) families)

pub first_right : (families : List (List ℕ × NamedFamily)) (log last : ℕ) → AreNextFamilies [] families → nat_lt 1 log ≡ true → edited_all named_none (first_edits families log last) ≡ Some (record { families = families; logs = log ∷ []; last = last })
first_right families log last all high =
    families_right [] families [] 0 (AddLog log ∷ Last last ∷ []) all
    ∙ one_right (record { families = families; logs = []; last = 0 }) (AddLog log) (Last last ∷ []) high
    ∙ ap {B = Option Named} (λ n. Some (record { families = families; logs = log ∷ []; last = n })) (zero_max last)
  where
    zero_max : (n : ℕ) → max 0 n ≡ n
    zero_max n = omega arith

-- the first group, cut into records that count down
pub first_is_group : (at : ℕ → ℕ) (families : List (List ℕ × NamedFamily)) (log last : ℕ) → AreNextFamilies [] families → nat_lt 1 log ≡ true → IsGroup named_none (record { families = families; logs = log ∷ []; last = last }) (group_of_edits at (first_edits families log last))
first_is_group at families log last all high =
    cut_group named_none (record { families = families; logs = log ∷ []; last = last }) at (first_edits families log last) (first_right families log last all high) ends
  where
    adds : (id : ℕ) (placed : List Placement) → Each (λ edit. is_last_edit edit ≡ false) (map add_table_edit (placed_for_family id placed))
    adds id [] = tt
    adds id (one ∷ placed) = (refl, adds id placed)

    none : (families : List (List ℕ × NamedFamily)) → Each (λ edit. is_last_edit edit ≡ false) (families_edits families)
    none [] = tt
    none (family ∷ families) = each_join (λ edit. is_last_edit edit ≡ false) (family_edits family) (families_edits families)
        (refl, each_join (λ edit. is_last_edit edit ≡ false) (map add_table_edit (placed_for_family family.1.id (reverse family.1.tables))) (Flushed family.1.id family.1.flushed ∷ []) (adds family.1.id (reverse family.1.tables)) (refl, tt)) (none families)

    ends : IsTrue (ends_with_last (first_edits families log last))
    ends = ap ends_with_last (sym (assoc (families_edits families) (AddLog log ∷ []) (Last last ∷ []))) ∙ last_ends (families_edits families ++ AddLog log ∷ []) last (each_join (λ edit. is_last_edit edit ≡ false) (families_edits families) (AddLog log ∷ []) (none families) (refl, tt))

-- so a manifest that has this group alone names what it was written from
pub first_reads : (at : ℕ → ℕ) (families : List (List ℕ × NamedFamily)) (log last : ℕ) → AreNextFamilies [] families → nat_lt 1 log ≡ true
    → read_records manifest_reading_none (group_of_edits at (first_edits families log last)) ≡ Ok (record { named = record { families = families; logs = log ∷ []; last = last }; begun = [] })
first_reads at families log last all high =
    let is = first_is_group at families log last all high in
    read_whole named_none (record { families = families; logs = log ∷ []; last = last }) [] (group_of_edits at (first_edits families log last)) (λ one rest e. refl) is.counts is.edits is.last
