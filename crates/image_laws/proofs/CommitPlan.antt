-- The edits of a commit's files: they are right, and they place what the plan places.
use Rattle.std.proofs.Common.{◌≡◌, ℕ, ◌+◌, ◌≤◌, Bool, true, false, cond, ◌&&◌, ◌||◌, not, List, [], ◌∷◌, map, length, Option, Some, None, is_some, unwrap_or, option_map, refl, sym, ap, subst, ◌∙◌, is_eq, arith}
use Rattle.std.specs.Prelude.{IsTrue, nat_le, ◌==◌, max}
use Rattle.std.specs.declared.cmp.Ordering.{Ordering}
use Rattle.std.specs.declared.cmp.Ordering.TheVariants.{Less, Equal, Greater}
use Rattle.std.specs.List.{AllByRecursion as Each, AllZip}
use Rattle.std.proofs.lemmas.Bool.{false≢true, eqb-true, le-leb}
use Rattle.st_base.specs.Bytes.{below, same, bytes_cmp}
use Rattle.st_base.specs.Map.{value_at}
use Rattle.st_base.specs.Order.{rises, rises_behind}
use Rattle.st_base.proofs.Same.{same_is_eq, same_true, same_self}
use Rattle.st_base.specs.declared.entry.Entry.{Entry}
use Rattle.st_base.specs.declared.entry.KeyRange.{KeyRange}
use Rattle.st_model.specs.declared.refusal.Why.{Why}
use Rattle.st_base.specs.Range.{has_key, under_number}
use Rattle.st_model.specs.Refusals.{sure_cause}
use Rattle.base_laws.proofs.Keys.{below_trans, less_of}
use Rattle.base_laws.proofs.Lists.{each_join}
use Rattle.core_model.specs.Commit.{RequestFile, Planned, outline, comes_behind, family_at, request_files_of, request_files_after, request_files, plan_file, plan_behind, plan_by_rule, put_planned, plan_from, plan}
use Rattle.core_model.specs.Event.{argument_of_part}
use Rattle.core_model.specs.Level.{level_rule}
use Rattle.core_model.specs.Pick.{busy}
use Rattle.job_laws.proofs.Rules.{walk_within}
use Rattle.core_model.specs.Picture.{FileEntries, FamilyView, Job, Part, Core, lowest_level, runs_of, running_of, table_range}
use Rattle.core_model.specs.Request.{IsStagedTable}
use Rattle.core_model.specs.RelationParts.{files_in_parts}
use Rattle.core_laws.specs.Underway.{files_left}
use Rattle.core_laws.proofs.CommitBegins.{all_pieces_tables, place_piece}
use Rattle.manifest_edits.specs.Edits.{Placement, Last, NamedFamily, Named, has_id, edited_all, is_last_edit, ends_with_last}
use Rattle.store_image.specs.Opens.{holds_table, is_table}
use Rattle.store_image.specs.Parts.{HasTableFile, ImageParts, entries_acting, file_entries, has_twice}
use Rattle.store_image.specs.Tie.{IsTiedFamily}
use Rattle.image_laws.proofs.Committed.{AreEdits}
use Rattle.image_laws.proofs.RightEdits.{IsNewTable, FilesDiffer, tables_added, last_ends}
use Rattle.image_laws.proofs.StandsNames.{FamiliesApart, names_family}
use Rattle.manifest_edits.specs.Logs.{LogOp}
use Rattle.manifest_edits.specs.CallEdits.{add_table_edit, with_files_named, commit_edits}
use Rattle.store_image.specs.Calls.{file_edits, IsNewFile}
use Rattle.st_order.specs.Columns.{Pairwise}

-- ---- what a plan has: of each file of the request, its family and a level

pub record IsPlan (cs : List (List ℕ × FamilyView)) (planned : Planned) : Type 0 where
  pub family : FamilyView
  pub there : value_at cs planned.wanted.part.family ≡ Some family
  pub small : planned.level ≤ 6

lowest_small : (core : Core) → lowest_level core ≤ 6
lowest_small core = go core.behind
  where
    go : (b : Bool) → cond b 5 6 ≤ 6
    go true = omega arith
    go false = omega arith

rule_small : (levels : List (List FileEntries)) (running : List Job) (range : KeyRange) (bottom : ℕ) → bottom ≤ 6 → (level_rule levels running range bottom).level ≤ 6
rule_small levels running range bottom le = let within = walk_within (map runs_of levels) (map busy running) range bottom in omega (arith, within)

abbrev pub IsOf : List (List ℕ × FamilyView) → (FileEntries → Type 0) → Planned → Type 0
IsOf cs P planned = IsPlan cs planned × P planned.wanted.table

-- the piece's family is there
abbrev IsThere : List (List ℕ × FamilyView) → Part → Type 0
IsThere cs part = is_some (value_at cs part.family) ≡ true

part_there : (cs : List (List ℕ × FamilyView)) (sure : Option Why) (part : Part) (a i : ℕ) (tables : List FileEntries) → IsThere cs part → Each (λ wanted. IsThere cs wanted.part) (request_files_of sure part a i tables)
part_there cs sure part a i [] h = tt
part_there cs sure part a i (table ∷ tables) h = (h, part_there cs sure part a (i + 1) tables h)

pieces_there : (core : Core) (cs : List (List ℕ × FamilyView)) (a : ℕ) (parts : List Part) → Each (IsThere cs) parts → Each (λ wanted. IsThere cs wanted.part) (request_files_after core a parts)
pieces_there core cs a [] h = tt
pieces_there core cs a (part ∷ parts) h =
    each_join (λ (wanted : RequestFile). IsThere cs wanted.part) (request_files_of (sure_cause (outline core) (argument_of_part a part)) part a 1 part.files) (request_files_after core (a + 1) parts)
    (part_there cs (sure_cause (outline core) (argument_of_part a part)) part a 1 part.files h.0) (pieces_there core cs (a + 1) parts h.1)

place_small : (core : Core) (wanted : RequestFile) → (plan_file core wanted).level ≤ 6
place_small core wanted = go (comes_behind wanted.part)
  where
    go : (b : Bool) → (cond b (plan_behind wanted) (plan_by_rule core wanted)).level ≤ 6
    go true = omega arith
    go false = rule_small (family_at core wanted.part.family).levels (running_of core (family_at core wanted.part.family)) (table_range wanted.table) (lowest_level core) (lowest_small core)

placed_each : (cs : List (List ℕ × FamilyView)) (P : FileEntries → Type 0) (core : Core) (rest : List RequestFile) → Each (λ wanted. IsThere cs wanted.part) rest → Each P (files_left rest) → Each (IsOf cs P) (plan_from core rest)
placed_each cs P core [] there h = tt
placed_each cs P core (wanted ∷ rest) there h = (
  (record { family = found.0; there = ap (λ (one : RequestFile). value_at cs one.part.family) (place_piece core wanted) ∙ found.1; small = place_small core wanted }, subst (λ (one : RequestFile). P one.table) (sym (place_piece core wanted)) h.0),
  placed_each cs P (put_planned core (plan_file core wanted)) rest there.1 h.1,
)
  where
    some_of : (found : Option FamilyView) → is_some found ≡ true → (family : FamilyView) × (found ≡ Some family)
    some_of None e = absurd (false≢true e)
    some_of (Some family) e = (family, refl)

    found : (family : FamilyView) × (value_at cs wanted.part.family ≡ Some family)
    found = some_of (value_at cs wanted.part.family) there.0

-- what holds of each file of the request holds of each that is planned
pub plan_each : (core : Core) (P : FileEntries → Type 0) (parts : List Part) → Each (IsThere core.families) parts → Each P (files_in_parts parts) → Each (IsOf core.families P) (plan core parts)
plan_each core P parts there h = placed_each core.families P core (request_files core parts) (pieces_there core core.families 1 parts there) (subst (Each P) (sym (all_pieces_tables core 1 parts)) h)

-- ---- and of each pair

placed_tables : (P : FileEntries → Type 0) (core : Core) (rest : List RequestFile) → Each P (files_left rest) → Each (λ planned. P planned.wanted.table) (plan_from core rest)
placed_tables P core [] h = tt
placed_tables P core (wanted ∷ rest) h = (subst (λ (one : RequestFile). P one.table) (sym (place_piece core wanted)) h.0, placed_tables P (put_planned core (plan_file core wanted)) rest h.1)

placed_pairs : (R : FileEntries → FileEntries → Type 0) (core : Core) (rest : List RequestFile) → Pairwise R (files_left rest) → Pairwise (λ one other. R one.wanted.table other.wanted.table) (plan_from core rest)
placed_pairs R core [] h = tt
placed_pairs R core (wanted ∷ rest) h = (
  subst (λ (one : RequestFile). Each (λ other. R one.table other.wanted.table) (plan_from (put_planned core (plan_file core wanted)) rest)) (sym (place_piece core wanted)) (placed_tables (R wanted.table) (put_planned core (plan_file core wanted)) rest h.0),
  placed_pairs R (put_planned core (plan_file core wanted)) rest h.1,
)

pub plan_pairs : (core : Core) (R : FileEntries → FileEntries → Type 0) (parts : List Part) → Pairwise R (files_in_parts parts) → Pairwise (λ one other. R one.wanted.table other.wanted.table) (plan core parts)
plan_pairs core R parts h = placed_pairs R core (request_files core parts) (subst (Pairwise R) (sym (all_pieces_tables core 1 parts)) h)

-- ---- the edits

-- the staged file is on the disk with its entries, as an own table or an external one
pub record IsStagedFile (parts : ImageParts) (table : FileEntries) : Type 0 where
  pub staged : IsStagedTable table
  pub found : HasTableFile parts table

-- ---- a staged file under a number

under_zero : (entries : List Entry) → Each (λ entry. entry.number ≡ 0) entries → under_number 0 entries ≡ entries
under_zero [] h = refl
under_zero (entry ∷ entries) h = ap (λ n. record entry { number = n } ∷ under_number 0 entries) (sym h.0) ∙ ap (λ l. entry ∷ l) (under_zero entries h.1)

acting_under : (n : ℕ) (entries : List Entry) → Each (λ entry. entry.number ≡ 0) entries → entries_acting n entries ≡ under_number n entries
acting_under n entries h = go (n == 0) refl
  where
    go : (b : Bool) → (n == 0) ≡ b → cond b entries (under_number n entries) ≡ under_number n entries
    go true e = sym (ap (λ m. under_number m entries) (eqb-true n 0 e) ∙ under_zero entries h)
    go false e = refl

not_same : (a b : List ℕ) → IsTrue (below a b) → same b a ≡ false
not_same a b h = go (same b a) refl
  where
    never : (r : Ordering) → r ≡ Less → is_eq r ≡ true → same b a ≡ false
    never Less e f = absurd (false≢true f)
    never Equal e f = absurd (cc e)
    never Greater e f = absurd (cc e)

    go : (t : Bool) → same b a ≡ t → same b a ≡ false
    go false e = e
    go true e = never (bytes_cmp a b) (less_of (bytes_cmp a b) h) (sym (same_is_eq a b) ∙ ap (same a) (same_true b a e) ∙ same_self a)

both_true : (b c : Bool) → (b && c) ≡ true → (b ≡ true) × (c ≡ true)
both_true true c e = (refl, e)
both_true false c e = absurd (false≢true e)

abbrev KeyBefore : Entry → Entry → Bool
KeyBefore one other = below one.key other.key

absent : (key : List ℕ) (entry : Entry) (entries : List Entry) → IsTrue (below key entry.key) → rises_behind KeyBefore entry entries ≡ true → has_key (entry ∷ entries) key ≡ false
absent key entry [] h rise = ap (λ b. b || false) (not_same key entry.key h)
absent key entry (other ∷ entries) h rise =
    let two = both_true (below entry.key other.key) (rises_behind KeyBefore other entries) rise in
    ap (λ b. b || has_key (other ∷ entries) key) (not_same key entry.key h) ∙ absent key other entries (below_trans key entry.key other.key h two.0) two.1

never_twice : (entry : Entry) (entries : List Entry) → rises_behind KeyBefore entry entries ≡ true → has_twice (entry ∷ entries) ≡ false
never_twice entry [] rise = refl
never_twice entry (other ∷ entries) rise =
    let two = both_true (below entry.key other.key) (rises_behind KeyBefore other entries) rise in
    ap (λ b. b || has_twice (other ∷ entries)) (absent entry.key other entries two.0 two.1) ∙ never_twice other entries two.1

staged_table : (n : ℕ) (table : FileEntries) → IsStagedTable table → IsTrue (is_table n table.entries)
staged_table n table staged = go table.entries staged.some staged.keys
  where
    either : (b c : Bool) → c ≡ false → (b || not c) ≡ true
    either true c e = refl
    either false c e = ap not e

    go : (entries : List Entry) → 1 ≤ length entries → IsTrue (rises KeyBefore entries) → IsTrue (is_table n entries)
    go [] some keys = absurd (omega arith)
    go (entry ∷ entries) some keys = either (n == 0) (has_twice (entry ∷ entries)) (never_twice entry entries keys)

itself : (n : ℕ) → (n == n) ≡ true
itself n = grind arith

-- ---- they place what the plan places

pub edits_are : (parts : ImageParts) (cs : List (List ℕ × FamilyView)) (more : List Planned) → FamiliesApart cs → Each (λ planned. IsPlan cs planned × IsStagedFile parts planned.wanted.table) more → AreEdits parts cs more (file_edits cs more)
edits_are parts cs [] apart h = tt
edits_are parts cs (planned ∷ more) apart h = (
  record {
    names = subst (λ id. Each (λ here. same here.0 planned.wanted.part.family ≡ (id == here.1.id)) cs) (sym (ap (λ found. unwrap_or (option_map (λ (family : FamilyView). family.id) found) 0) h.0.0.there)) (names_family cs planned.wanted.part.family h.0.0.family apart h.0.0.there);
    small = h.0.0.small;
    level = refl;
    table = ap {B = FileEntries} (λ found. record { file = planned.wanted.table.file; length = planned.wanted.table.length; entries = entries_acting planned.number (file_entries found) }) h.0.1.found
        ∙ ap {B = FileEntries} (λ entries. record { file = planned.wanted.table.file; length = planned.wanted.table.length; entries = entries }) (acting_under planned.number planned.wanted.table.entries h.0.1.staged.zero);
    sound = ap (holds_table (record { level = planned.level; file = planned.wanted.table.file; length = planned.wanted.table.length; number = planned.number })) h.0.1.found
        ∙ ap (λ b. b && is_table planned.number planned.wanted.table.entries) (itself planned.wanted.table.length) ∙ staged_table planned.number planned.wanted.table h.0.1.staged;
  },
  edits_are parts cs more apart h.1,
)

-- ---- they are right

id_there : (parts : ImageParts) (ops : List LogOp) (last : ℕ) (cs : List (List ℕ × FamilyView)) (ns : List (List ℕ × NamedFamily)) (name : List ℕ) (family : FamilyView) → AllZip (IsTiedFamily parts ops last) cs ns → value_at cs name ≡ Some family → has_id family.id ns ≡ true
id_there parts ops last [] ns name family tied e = absurd (cc e)
id_there parts ops last (c ∷ cs) [] name family tied e = absurd tied
id_there parts ops last (c ∷ cs) (n ∷ ns) name family tied e = step (is_eq (bytes_cmp name c.0)) e (id_there parts ops last cs ns name family tied.1)
  where
    some_is : Some c.1 ≡ Some family → c.1 ≡ family
    some_is e = cc e

    right : (b : Bool) → (b || true) ≡ true
    right true = refl
    right false = refl

    step : (b : Bool) → cond b (Some c.1) (value_at cs name) ≡ Some family → (value_at cs name ≡ Some family → has_id family.id ns ≡ true) → ((n.1.id == family.id) || has_id family.id ns) ≡ true
    step true e rest = ap (λ m. (m == family.id) || has_id family.id ns) (tied.0.id ∙ ap (λ (v : FamilyView). v.id) (some_is e)) ∙ ap (λ b. b || has_id family.id ns) (itself family.id)
    step false e rest = ap (λ b. (n.1.id == family.id) || b) (rest e) ∙ right (n.1.id == family.id)

edits_new : (parts : ImageParts) (ops : List LogOp) (bound : ℕ) (named : Named) (cs : List (List ℕ × FamilyView)) (more : List Planned) → AllZip (IsTiedFamily parts ops bound) cs named.families
    → Each (λ planned. IsPlan cs planned × IsNewFile named planned.wanted.table) more → Each (IsNewTable named) (file_edits cs more)
edits_new parts ops bound named cs [] tied h = tt
edits_new parts ops bound named cs (planned ∷ more) tied h = (
  record {
    there = ap (λ id. has_id id named.families) (ap (λ found. unwrap_or (option_map (λ (family : FamilyView). family.id) found) 0) h.0.0.there) ∙ id_there parts ops bound cs named.families planned.wanted.part.family h.0.0.family tied h.0.0.there;
    new = h.0.1.new;
    above = ap (λ b. b && nat_le planned.level 6) h.0.1.above ∙ le-leb planned.level 6 h.0.0.small;
  },
  edits_new parts ops bound named cs more tied h.1,
)

differs : (n m : ℕ) → (n ≡ m → ⊥) → (n == m) ≡ false
differs n m h = go (n == m) refl
  where
    go : (b : Bool) → (n == m) ≡ b → (n == m) ≡ false
    go true e = absurd (h (eqb-true n m e))
    go false e = e

edits_differ : (cs : List (List ℕ × FamilyView)) (more : List Planned) → Pairwise (λ one other. one.wanted.table.file ≡ other.wanted.table.file → ⊥) more → FilesDiffer (file_edits cs more)
edits_differ cs [] h = tt
edits_differ cs (planned ∷ more) h = (each more h.0, edits_differ cs more h.1)
  where
    each : (more : List Planned) → Each (λ other. planned.wanted.table.file ≡ other.wanted.table.file → ⊥) more → Each (λ (other : ℕ × Placement). (planned.wanted.table.file == other.1.file) ≡ false) (file_edits cs more)
    each [] h = tt
    each (other ∷ more) h = (differs planned.wanted.table.file other.wanted.table.file h.0, each more h.1)

pub commit_ends : (edits : List (ℕ × Placement)) (last : ℕ) → IsTrue (ends_with_last (commit_edits edits last))
commit_ends edits last = last_ends (map add_table_edit edits) last (none edits)
  where
    none : (edits : List (ℕ × Placement)) → Each (λ edit. is_last_edit edit ≡ false) (map add_table_edit edits)
    none [] = tt
    none (edit ∷ edits) = (refl, none edits)

pub commit_right : (parts : ImageParts) (ops : List LogOp) (bound : ℕ) (named : Named) (core : Core) (request : List Part) → AllZip (IsTiedFamily parts ops bound) core.families named.families
    → Each (λ part. is_some (value_at core.families part.family) ≡ true) request → Each (IsNewFile named) (files_in_parts request) → Pairwise (λ one other. one.file ≡ other.file → ⊥) (files_in_parts request) → (last : ℕ)
    → edited_all named (commit_edits (file_edits core.families (plan core request)) last) ≡ Some (record { families = with_files_named (file_edits core.families (plan core request)) named.families; logs = named.logs; last = max named.last last })
commit_right parts ops bound named core request tied there new differ last =
    tables_added named (file_edits core.families (plan core request)) (Last last ∷ [])
    (edits_new parts ops bound named core.families (plan core request) tied (plan_each core (IsNewFile named) request there new))
    (edits_differ core.families (plan core request) (plan_pairs core (λ one other. one.file ≡ other.file → ⊥) request differ))
