-- An installed flush keeps the tie, also where logs go with it.
use Rattle.std.proofs.Common.{◌≡◌, ℕ, ◌<◌, ◌≤◌, Bool, true, false, cond, ◌&&◌, List, [], ◌∷◌, ◌++◌, map, filter, reverse, refl, sym, ap, subst, ◌∙◌, append-nil, arith}
use Rattle.std.specs.Prelude.{nat_lt, ◌==◌, max, length, IsTrue, set, unwrap_or, slice_get, if◌then◌else◌}
use Rattle.std.specs.List.{AllByRecursion as Each, AllZip}
use Rattle.std.proofs.lemmas.Bool.{eqb-true, lt-ltb, le-ltb, ltb-true, false≢true}
use Rattle.std.proofs.lemmas.List.{reverse-append}
use Rattle.st_base.specs.Bytes.{same}
use Rattle.st_base.proofs.Same.{same_self}
use Rattle.st_base.specs.declared.entry.Entry.{Entry}
use Rattle.base_laws.proofs.Lists.{each_as, each_back, each_filter, each_front, each_join, filter_none, filter_whole}
use Rattle.core_laws.proofs.Lists.{filter_join}
use Rattle.core_model.specs.Compaction.{without_last, with_flushed as flushed_view}
use Rattle.core_model.specs.Picture.{FileEntries, FamilyView, Core, Job, level_at, runs_of, tables_in}
use Rattle.core_model.specs.RelationParts.{NumbersWithin}
use Rattle.manifest_edits.specs.Edits.{Placement, NamedFamily, Named, changed_named}
use Rattle.store_image.specs.Parts.{ImageParts, log_ops_of, counts_for, counted_entries, table_at, image_levels, placed_at, by_key}
use Rattle.store_image.specs.Opens.{is_sound, last_op}
use Rattle.store_image.specs.Steps.{greatest_of, with_flush, without_logs, flushed_named}
use Rattle.store_image.specs.Tie.{HoldsNamed, IsTiedFamily}
use Rattle.image_laws.proofs.Lists.{filter_map}
use Rattle.image_laws.proofs.Best.{column_append}
use Rattle.image_laws.proofs.Logs.{logs_stay, counts_stay, each_stays}
use Rattle.manifest_edits.specs.Logs.{LogOp, log_op_entry, records_in}
use Rattle.st_order.specs.Columns.{Pairwise, column, of_key}
use Rattle.core_laws.proofs.ById.{changed_id, installed_by_id}

-- ---- filters

pub filters_swap : {X : Type 0} (p q : X → Bool) (xs : List X) → filter p (filter q xs) ≡ filter q (filter p xs)
filters_swap p q [] = refl
filters_swap p q (x ∷ xs) = go (p x) refl (q x) refl (filters_swap p q xs)
  where
    go : (b : Bool) → p x ≡ b → (c : Bool) → q x ≡ c → filter p (filter q xs) ≡ filter q (filter p xs) → filter p (cond c (x ∷ filter q xs) (filter q xs)) ≡ filter q (cond b (x ∷ filter p xs) (filter p xs))
    go true e true f rest = ap (λ b. cond b (x ∷ filter p (filter q xs)) (filter p (filter q xs))) e ∙ ap (λ l. x ∷ l) rest ∙ sym (ap (λ b. cond b (x ∷ filter q (filter p xs)) (filter q (filter p xs))) f)
    go true e false f rest = rest ∙ sym (ap (λ b. cond b (x ∷ filter q (filter p xs)) (filter q (filter p xs))) f)
    go false e true f rest = ap (λ b. cond b (x ∷ filter p (filter q xs)) (filter p (filter q xs))) e ∙ rest
    go false e false f rest = rest

filter_reverse : {X : Type 0} (p : X → Bool) (xs : List X) → filter p (reverse xs) ≡ reverse (filter p xs)
filter_reverse p [] = refl
filter_reverse p (x ∷ xs) =
    ap (filter p) (reverse-append (x ∷ []) xs)
    ∙ filter_join p (reverse xs) (x ∷ []) ∙ ap (λ l. l ++ cond (p x) (x ∷ []) []) (filter_reverse p xs) ∙ go (p x)
  where
    go : (b : Bool) → reverse (filter p xs) ++ cond b (x ∷ []) [] ≡ reverse (cond b (x ∷ filter p xs) (filter p xs))
    go true = sym (reverse-append (x ∷ []) (filter p xs))
    go false = append-nil (reverse (filter p xs))

-- a filter that holds of less
filter_less : {X : Type 0} (p q r : X → Bool) → ((x : X) → cond (q x) (p x) false ≡ r x) → (xs : List X) → filter p (filter q xs) ≡ filter r xs
filter_less p q r h [] = refl
filter_less p q r h (x ∷ xs) = go (q x) (h x) (filter_less p q r h xs)
  where
    go : (c : Bool) → cond c (p x) false ≡ r x → filter p (filter q xs) ≡ filter r xs → filter p (cond c (x ∷ filter q xs) (filter q xs)) ≡ cond (r x) (x ∷ filter r xs) (filter r xs)
    go true e rest = ap (λ l. cond (p x) (x ∷ l) l) rest ∙ ap (λ b. cond b (x ∷ filter r xs) (filter r xs)) e
    go false e rest = rest ∙ ap (λ b. cond b (x ∷ filter r xs) (filter r xs)) e

-- ---- numbers of memtables

each_below : (n : ℕ) (entries : List Entry) → 0 < n → Each (λ entry. entry.number < n) entries → greatest_of entries < n
each_below n [] some h = some
each_below n (entry ∷ entries) some h = let rest = each_below n entries some h.1 in let first = h.0 in omega arith

each_at_most : (n : ℕ) (entries : List Entry) → greatest_of entries ≤ n → Each (λ entry. entry.number ≤ n) entries
each_at_most n [] h = tt
each_at_most n (entry ∷ entries) h = (omega arith, each_at_most n entries (omega arith))

above_greatest : (n : ℕ) (first : Entry) (rest : List Entry) → Each (λ entry. entry.number < n) (first ∷ rest) → greatest_of (first ∷ rest) < n
above_greatest n first rest h = each_below n (first ∷ rest) (let less = h.0 in omega arith) h

-- ---- the counted operations after a flush

abbrev is_newer : ℕ → Entry → Bool
is_newer n entry = nat_lt n entry.number

count_more : (family : NamedFamily) (n : ℕ) → family.flushed ≤ n → (op : LogOp) → cond (counts_for family op) (nat_lt n op.number) false ≡ counts_for (record family { flushed = n }) op
count_more family n le op = go (op.family == family.id) (nat_lt family.flushed op.number) refl (nat_lt n op.number) refl
  where
    go : (a b : Bool) → nat_lt family.flushed op.number ≡ b → (c : Bool) → nat_lt n op.number ≡ c → cond (a && b) c false ≡ (a && c)
    go true true e c f = refl
    go true false e true f = absurd (false≢true (sym e ∙ lt-ltb family.flushed op.number (omega (arith, ltb-true n op.number f))))
    go true false e false f = refl
    go false b e c f = refl

-- the counted operations above the number
counted_newer : (family : NamedFamily) (n : ℕ) (ops : List LogOp) → family.flushed ≤ n → filter (is_newer n) (counted_entries family ops) ≡ counted_entries (record family { flushed = n }) ops
counted_newer family n ops le =
    filter_reverse (is_newer n) (map log_op_entry (filter (counts_for family) ops))
    ∙ ap (λ (l : List Entry). reverse l)
    (filter_map log_op_entry (is_newer n) (filter (counts_for family) ops)
    ∙ ap (map log_op_entry) (filter_less (λ (op : LogOp). nat_lt n op.number) (counts_for family) (counts_for (record family { flushed = n })) (count_more family n le) ops))

-- a column of runs above the number, in front of one that isn't
column_newer : (n : ℕ) (key : List ℕ) (upper : List (List Entry)) (oldest : List Entry) → Each (Each (λ entry. n < entry.number)) upper → Each (λ entry. entry.number ≤ n) oldest
    → filter (is_newer n) (column key (upper ++ oldest ∷ [])) ≡ column key upper
column_newer n key upper oldest above below =
    ap (filter (is_newer n)) (column_append key upper (oldest ∷ []))
    ∙ filter_join (is_newer n) (column key upper) (of_key key oldest ++ [])
    ∙ ap (λ l. l ++ filter (is_newer n) (of_key key oldest ++ [])) (filter_whole (is_newer n) (column key upper) (each_as (λ (entry : Entry). n < entry.number) (λ entry. is_newer n entry ≡ true) (λ entry h. lt-ltb n entry.number h) (column key upper) (each_of_column upper above)))
    ∙ ap (λ l. column key upper ++ filter (is_newer n) l) (append-nil (of_key key oldest))
    ∙ ap (λ l. column key upper ++ l) (filter_none (is_newer n) (of_key key oldest) (each_as (λ (entry : Entry). entry.number ≤ n) (λ entry. is_newer n entry ≡ false) (λ entry h. le-ltb n entry.number h) (of_key key oldest) (each_filter (λ (entry : Entry). entry.number ≤ n) (λ (entry : Entry). same entry.key key) oldest below)))
    ∙ append-nil (column key upper)
  where
    each_of_column : (runs : List (List Entry)) → Each (Each (λ (entry : Entry). n < entry.number)) runs → Each (λ (entry : Entry). n < entry.number) (column key runs)
    each_of_column [] h = tt
    each_of_column (run ∷ runs) h = each_join (λ (entry : Entry). n < entry.number) (of_key key run) (column key runs) (each_filter (λ (entry : Entry). n < entry.number) (λ (entry : Entry). same entry.key key) run h.0) (each_of_column runs h.1)

-- the memtables that stay have what counts above the flushed number
pub flush_memory : (family : NamedFamily) (ops : List LogOp) (upper : List (List Entry)) (oldest : List Entry) (n : ℕ) → family.flushed ≤ n
    → Each (Each (λ entry. n < entry.number)) upper → Each (λ entry. entry.number ≤ n) oldest
    → ((key : List ℕ) → column key (upper ++ oldest ∷ []) ≡ of_key key (counted_entries family ops))
    → (key : List ℕ) → column key upper ≡ of_key key (counted_entries (record family { flushed = n }) ops)
flush_memory family ops upper oldest n le above below memory key =
    sym (column_newer n key upper oldest above below)
    ∙ ap (filter (is_newer n)) (memory key)
    ∙ filters_swap (is_newer n) (λ (entry : Entry). same entry.key key) (counted_entries family ops)
    ∙ ap (of_key key) (counted_newer family n ops le)

each_counted : (family : NamedFamily) (ops : List LogOp) → Each (λ (entry : Entry). family.flushed < entry.number) (map log_op_entry (filter (counts_for family) ops))
each_counted family [] = tt
each_counted family (op ∷ ops) = go (op.family == family.id) (nat_lt family.flushed op.number) refl (each_counted family ops)
  where
    go : (a b : Bool) → nat_lt family.flushed op.number ≡ b → Each (λ (entry : Entry). family.flushed < entry.number) (map log_op_entry (filter (counts_for family) ops))
        → Each (λ (entry : Entry). family.flushed < entry.number) (map log_op_entry (cond (a && b) (op ∷ filter (counts_for family) ops) (filter (counts_for family) ops)))
    go true true e rest = (ltb-true family.flushed op.number e, rest)
    go true false e rest = rest
    go false b e rest = rest

each_reverse : (P : Entry → Type 0) (entries : List Entry) → Each P entries → Each P (reverse entries)
each_reverse P [] h = tt
each_reverse P (entry ∷ entries) h = subst (Each P) (sym (reverse-append (entry ∷ []) entries)) (each_join P (reverse entries) (entry ∷ []) (each_reverse P entries h.1) (h.0, tt))

-- an entry of a memtable counts
pub above_flushed : (family : NamedFamily) (ops : List LogOp) (upper : List (List Entry)) (first : Entry) (rest : List Entry)
    → ((key : List ℕ) → column key (upper ++ (first ∷ rest) ∷ []) ≡ of_key key (counted_entries family ops)) → family.flushed < first.number
above_flushed family ops upper first rest memory =
    first_of (same first.key first.key) (same_self first.key)
    (each_front (λ (entry : Entry). family.flushed < entry.number) (of_key first.key (first ∷ rest)) []
    (each_back (λ (entry : Entry). family.flushed < entry.number) (column first.key upper) (of_key first.key (first ∷ rest) ++ [])
    (subst (Each (λ (entry : Entry). family.flushed < entry.number)) (sym (memory first.key) ∙ column_append first.key upper ((first ∷ rest) ∷ []))
    (each_filter (λ (entry : Entry). family.flushed < entry.number) (λ (entry : Entry). same entry.key first.key) (counted_entries family ops) all))))
  where
    first_of : (b : Bool) → b ≡ true → Each (λ (entry : Entry). family.flushed < entry.number) (cond b (first ∷ of_key first.key rest) (of_key first.key rest)) → family.flushed < first.number
    first_of true e h = h.0
    first_of false e h = absurd (false≢true e)

    all : Each (λ (entry : Entry). family.flushed < entry.number) (counted_entries family ops)
    all = each_reverse (λ (entry : Entry). family.flushed < entry.number) (map log_op_entry (filter (counts_for family) ops)) (each_counted family ops)

-- ---- memtables in order

without_each : {X : Type 0} (P : X → Type 0) (xs : List X) → Each P xs → Each P (without_last xs)
without_each P [] h = tt
without_each P (x ∷ []) h = tt
without_each P (x ∷ y ∷ xs) h = (h.0, without_each P (y ∷ xs) h.1)

without_pairs : {X : Type 0} (R : X → X → Type 0) (xs : List X) → Pairwise R xs → Pairwise R (without_last xs)
without_pairs R [] h = tt
without_pairs R (x ∷ []) h = tt
without_pairs R (x ∷ y ∷ xs) h = (without_each (R x) (y ∷ xs) h.0, without_pairs R (y ∷ xs) h.1)

-- all runs in front stand above the last
pairs_last : {X : Type 0} (R : X → X → Type 0) (xs : List X) (y : X) → Pairwise R (xs ++ y ∷ []) → Each (λ x. R x y) xs
pairs_last R [] y h = tt
pairs_last R (x ∷ xs) y h = ((each_back (R x) xs (y ∷ []) h.0).0, pairs_last R xs y h.1)

above_all : (newer : List Entry) (first : Entry) (rest : List Entry) → Each (λ one. Each (λ other. other.number < one.number) (first ∷ rest)) newer → Each (λ one. greatest_of (first ∷ rest) < one.number) newer
above_all newer first rest h = each_as (λ (one : Entry). Each (λ (other : Entry). other.number < one.number) (first ∷ rest)) (λ one. greatest_of (first ∷ rest) < one.number) (λ one less. above_greatest one.number first rest less) newer h

above_runs : (runs : List (List Entry)) (first : Entry) (rest : List Entry) → Each (λ newer. Each (λ one. Each (λ other. other.number < one.number) (first ∷ rest)) newer) runs → Each (Each (λ one. greatest_of (first ∷ rest) < one.number)) runs
above_runs [] first rest h = tt
above_runs (newer ∷ runs) first rest h = (above_all newer first rest h.0, above_runs runs first rest h.1)

-- ---- the family

-- the family whose oldest memtable is flushed to the table that is placed
pub record Flushes (parts : ImageParts) (family : FamilyView) (oldest : List Entry) (placed : Placement) (output : FileEntries) : Type 0 where
  pub oldest_is : family.sealed ≡ without_last family.sealed ++ oldest ∷ []
  pub some : 1 ≤ length oldest
  pub at_zero : placed.level ≡ 0
  pub table : table_at parts placed ≡ output
  pub sound : IsTrue (is_sound parts placed)

pub level_front : (parts : ImageParts) (placed : Placement) (tables : List Placement) (output : FileEntries) (family : FamilyView) → placed.level ≡ 0 → table_at parts placed ≡ output → image_levels parts tables ≡ family.levels
    → image_levels parts (placed ∷ tables) ≡ set family.levels 0 (output ∷ level_at family 0)
level_front parts placed tables output family zero_ table levels =
    front placed.level zero_ ∙ ap (λ one. set (image_levels parts tables) 0 (one ∷ unwrap_or (slice_get (image_levels parts tables) 0) [])) table
    ∙ ap (λ levels. set levels 0 (output ∷ unwrap_or (slice_get levels 0) [])) levels
  where
    front : (n : ℕ) → n ≡ 0
        → (let at = λ (k : ℕ). cond (n == k) (placed ∷ placed_at k tables) (placed_at k tables) in
        map (table_at parts) (at 0) ∷ by_key (map (table_at parts) (at 1)) ∷ by_key (map (table_at parts) (at 2)) ∷ by_key (map (table_at parts) (at 3)) ∷ by_key (map (table_at parts) (at 4)) ∷ by_key (map (table_at parts) (at 5)) ∷ by_key (map (table_at parts) (at 6)) ∷ [])
        ≡ set (image_levels parts tables) 0 (table_at parts placed ∷ unwrap_or (slice_get (image_levels parts tables) 0) [])
    front n e = ap (λ k. let at = λ (j : ℕ). cond (k == j) (placed ∷ placed_at j tables) (placed_at j tables) in
        map (table_at parts) (at 0) ∷ by_key (map (table_at parts) (at 1)) ∷ by_key (map (table_at parts) (at 2)) ∷ by_key (map (table_at parts) (at 3)) ∷ by_key (map (table_at parts) (at 4)) ∷ by_key (map (table_at parts) (at 5)) ∷ by_key (map (table_at parts) (at 6)) ∷ []) e

-- newer memtables have greater numbers
abbrev IsNewer : List Entry → List Entry → Type 0
IsNewer newer older = Each (λ one. Each (λ other. other.number < one.number) older) newer

greatest_within : (last : ℕ) (entries : List Entry) → Each (λ entry. entry.number ≤ last) entries → greatest_of entries ≤ last
greatest_within last [] h = omega arith
greatest_within last (entry ∷ entries) h = let rest = greatest_within last entries h.1 in let first = h.0 in omega arith

flush_tied : (parts : ImageParts) (ops after : List LogOp) (last : ℕ) (here : List ℕ × FamilyView) (there : List ℕ × NamedFamily) (first : Entry) (rest : List Entry) (placed : Placement) (output : FileEntries)
    → IsTiedFamily parts ops last here there → Flushes parts here.1 (first ∷ rest) placed output
    → filter (counts_for (record there.1 { flushed = greatest_of (first ∷ rest) })) after ≡ filter (counts_for (record there.1 { flushed = greatest_of (first ∷ rest) })) ops
    → ((key : List ℕ) → column key ((here.1.mem ∷ without_last here.1.sealed) ++ (first ∷ rest) ∷ []) ≡ of_key key (counted_entries there.1 ops))
    → Pairwise IsNewer ((here.1.mem ∷ without_last here.1.sealed) ++ (first ∷ rest) ∷ [])
    → greatest_of (first ∷ rest) ≤ last
    → IsTiedFamily parts after last (here.0, flushed_view output here.1) (there.0, with_flush placed (greatest_of (first ∷ rest)) there.1)
flush_tied parts ops after last here there first rest placed output tied flush stays memory order within = record {
  name = tied.name;
  id = tied.id;
  levels = level_front parts placed there.1.tables output here.1 flush.at_zero flush.table tied.levels;
  memory = λ key. flush_memory there.1 ops (here.1.mem ∷ without_last here.1.sealed) (first ∷ rest) (greatest_of (first ∷ rest)) (let more = above_flushed there.1 ops (here.1.mem ∷ without_last here.1.sealed) first rest memory in omega arith)
      (above_runs (here.1.mem ∷ without_last here.1.sealed) first rest (pairs_last IsNewer (here.1.mem ∷ without_last here.1.sealed) (first ∷ rest) order))
      (each_at_most (greatest_of (first ∷ rest)) (first ∷ rest) (omega arith)) memory key
      ∙ sym (ap (λ found. of_key key (reverse (map log_op_entry found))) stays);
  order = (without_each (IsNewer here.1.mem) here.1.sealed tied.order.0, without_pairs IsNewer here.1.sealed tied.order.1);
  flushed = within;
  tables = (flush.sound, tied.tables);
}

pub flush_family : (parts : ImageParts) (ops after : List LogOp) (last : ℕ) (here : List ℕ × FamilyView) (there : List ℕ × NamedFamily) (oldest : List Entry) (placed : Placement) (output : FileEntries)
    → IsTiedFamily parts ops last here there → Flushes parts here.1 oldest placed output → NumbersWithin last here.1
    → filter (counts_for (record there.1 { flushed = greatest_of oldest })) after ≡ filter (counts_for (record there.1 { flushed = greatest_of oldest })) ops
    → IsTiedFamily parts after last (here.0, flushed_view output here.1) (there.0, with_flush placed (greatest_of oldest) there.1)
flush_family parts ops after last here there [] placed output tied flush within stays = let some : 1 ≤ 0 = flush.some in absurd (omega arith)
flush_family parts ops after last here there (first ∷ rest) placed output tied flush within stays =
    flush_tied parts ops after last here there first rest placed output tied flush stays
    (λ key. ap (λ sealed. column key (here.1.mem ∷ sealed)) (sym flush.oldest_is) ∙ tied.memory key)
    (subst (λ sealed. Pairwise IsNewer (here.1.mem ∷ sealed)) flush.oldest_is tied.order)
    (greatest_within last (first ∷ rest)
    (each_back (Each (λ (entry : Entry). entry.number ≤ last)) (here.1.mem ∷ without_last here.1.sealed) ((first ∷ rest) ∷ [])
    (subst (λ sealed. Each (Each (λ (entry : Entry). entry.number ≤ last)) (here.1.mem ∷ sealed)) flush.oldest_is (each_front (Each (λ (entry : Entry). entry.number ≤ last)) (here.1.mem ∷ here.1.sealed) (runs_of (tables_in here.1.levels)) within))).0)

-- ---- another family

pub other_family : (parts : ImageParts) (ops after : List LogOp) (last : ℕ) (here : List ℕ × FamilyView) (there : List ℕ × NamedFamily) → IsTiedFamily parts ops last here there
    → filter (counts_for there.1) after ≡ filter (counts_for there.1) ops → IsTiedFamily parts after last here there
other_family parts ops after last here there tied stays = record {
  name = tied.name;
  id = tied.id;
  levels = tied.levels;
  memory = λ key. tied.memory key ∙ sym (ap (λ found. of_key key (reverse (map log_op_entry found))) stays);
  order = tied.order;
  flushed = tied.flushed;
  tables = tied.tables;
}

-- ---- the store

-- the job's oldest memtable, where its family is there, and the logs that go
pub record IsFlushGroup (core : Core) (parts : ImageParts) (named : Named) (id : ℕ) (oldest : List Entry) (placed : Placement) (output : FileEntries) (gone : ℕ → Bool) : Type 0 where
  pub family : Each (λ one. one.1.id ≡ id → Flushes parts one.1 oldest placed output) core.families
  -- no operation of a log that goes counts any more, for any family
  pub spent : Each (λ file. gone file ≡ true → Each (λ one. filter (counts_for one.1) (records_in (parts.log file)) ≡ []) (changed_named id (with_flush placed (greatest_of oldest)) named.families)) named.logs

abbrev NewFamily : ℕ → (NamedFamily → NamedFamily) → List ℕ × NamedFamily → List ℕ × NamedFamily
NewFamily id change named = (named.0, (if named.1.id == id then change named.1 else named.1))

abbrev NewView : ℕ → (FamilyView → FamilyView) → List ℕ × FamilyView → List ℕ × FamilyView
NewView id change named = (named.0, (if named.1.id == id then change named.1 else named.1))

same_id : (n m : ℕ) → (n == m) ≡ true → n ≡ m
same_id n m e = eqb-true n m e

one_family : (parts : ImageParts) (ops after : List LogOp) (last id : ℕ) (here : List ℕ × FamilyView) (there : List ℕ × NamedFamily) (oldest : List Entry) (placed : Placement) (output : FileEntries)
    → IsTiedFamily parts ops last here there → (here.1.id ≡ id → Flushes parts here.1 oldest placed output) → NumbersWithin last here.1
    → filter (counts_for (NewFamily id (with_flush placed (greatest_of oldest)) there).1) after ≡ filter (counts_for (NewFamily id (with_flush placed (greatest_of oldest)) there).1) ops
    → IsTiedFamily parts after last (NewView id (flushed_view output) here) (NewFamily id (with_flush placed (greatest_of oldest)) there)
one_family parts ops after last id here there oldest placed output tied flush within stays = go (here.1.id == id) refl (there.1.id == id) (ap (λ n. n == id) tied.id) stays
  where
    go : (b : Bool) → (here.1.id == id) ≡ b → (c : Bool) → c ≡ (here.1.id == id)
        → filter (counts_for (cond c (with_flush placed (greatest_of oldest) there.1) there.1)) after ≡ filter (counts_for (cond c (with_flush placed (greatest_of oldest) there.1) there.1)) ops
        → IsTiedFamily parts after last (here.0, cond b (flushed_view output here.1) here.1) (there.0, cond c (with_flush placed (greatest_of oldest) there.1) there.1)
    go true e true f stays = flush_family parts ops after last here there oldest placed output tied (flush (same_id here.1.id id e)) within stays
    go true e false f stays = absurd (false≢true (f ∙ e))
    go false e true f stays = absurd (false≢true (sym e ∙ sym f))
    go false e false f stays = other_family parts ops after last here there tied stays

-- of the first family, and of the others
spent_first : (parts : ImageParts) (gone : ℕ → Bool) (family : List ℕ × NamedFamily) (families : List (List ℕ × NamedFamily)) (logs : List ℕ)
    → Each (λ file. gone file ≡ true → Each (λ one. filter (counts_for one.1) (records_in (parts.log file)) ≡ []) (family ∷ families)) logs
    → Each (λ file. gone file ≡ true → filter (counts_for family.1) (records_in (parts.log file)) ≡ []) logs
spent_first parts gone family families [] h = tt
spent_first parts gone family families (file ∷ logs) h = ((λ is. (h.0 is).0), spent_first parts gone family families logs h.1)

spent_rest : (parts : ImageParts) (gone : ℕ → Bool) (family : List ℕ × NamedFamily) (families : List (List ℕ × NamedFamily)) (logs : List ℕ)
    → Each (λ file. gone file ≡ true → Each (λ one. filter (counts_for one.1) (records_in (parts.log file)) ≡ []) (family ∷ families)) logs
    → Each (λ file. gone file ≡ true → Each (λ one. filter (counts_for one.1) (records_in (parts.log file)) ≡ []) families) logs
spent_rest parts gone family families [] h = tt
spent_rest parts gone family families (file ∷ logs) h = ((λ is. (h.0 is).1), spent_rest parts gone family families logs h.1)

all_families : (parts : ImageParts) (logs : List ℕ) (gone : ℕ → Bool) (last id : ℕ) (oldest : List Entry) (placed : Placement) (output : FileEntries) (cs : List (List ℕ × FamilyView)) (ns : List (List ℕ × NamedFamily))
    → AllZip (IsTiedFamily parts (log_ops_of parts logs) last) cs ns → Each (λ one. one.1.id ≡ id → Flushes parts one.1 oldest placed output) cs → Each (λ named. NumbersWithin last named.1) cs
    → Each (λ file. gone file ≡ true → Each (λ one. filter (counts_for one.1) (records_in (parts.log file)) ≡ []) (changed_named id (with_flush placed (greatest_of oldest)) ns)) logs
    → AllZip (IsTiedFamily parts (log_ops_of parts (without_logs gone logs)) last) (changed_id id (flushed_view output) cs) (changed_named id (with_flush placed (greatest_of oldest)) ns)
all_families parts logs gone last id oldest placed output [] [] tied flush within spent = tt
all_families parts logs gone last id oldest placed output [] (n ∷ ns) tied flush within spent = absurd tied
all_families parts logs gone last id oldest placed output (c ∷ cs) [] tied flush within spent = absurd tied
all_families parts logs gone last id oldest placed output (c ∷ cs) (n ∷ ns) tied flush within spent = (
  one_family parts (log_ops_of parts logs) (log_ops_of parts (without_logs gone logs)) last id c n oldest placed output tied.0 flush.0 within.0
      (counts_stay parts gone (NewFamily id (with_flush placed (greatest_of oldest)) n).1 logs
      (spent_first parts gone (NewFamily id (with_flush placed (greatest_of oldest)) n) (changed_named id (with_flush placed (greatest_of oldest)) ns) logs spent)),
  all_families parts logs gone last id oldest placed output cs ns tied.1 flush.1 within.1
      (spent_rest parts gone (NewFamily id (with_flush placed (greatest_of oldest)) n) (changed_named id (with_flush placed (greatest_of oldest)) ns) logs spent),
)

-- an installed flush keeps the tie
pub flush_holds : (core : Core) (parts : ImageParts) (named : Named) (job : Job) (oldest : List Entry) (placed : Placement) (output : FileEntries) (gone : ℕ → Bool)
    → HoldsNamed core parts named → Each (λ one. NumbersWithin core.last one.1) core.families → IsFlushGroup core parts named job.family oldest placed output gone
    → HoldsNamed (installed_by_id core job (flushed_view output)) parts (flushed_named job.family placed (greatest_of oldest) gone core.last named)
flush_holds core parts named job oldest placed output gone holds within group = record {
  families = all_families parts named.logs gone core.last job.family oldest placed output core.families named.families holds.families group.family within group.spent;
  logs = (logs_stay parts gone named.logs 0 0 (omega arith) holds.logs).none;
  given = each_stays (λ op. op.family < core.next_family) parts gone named.logs holds.given;
  last = numbers (last_op 0 (log_ops_of parts named.logs)) (last_op 0 (log_ops_of parts (without_logs gone named.logs))) holds.last (logs_stay parts gone named.logs 0 0 (omega arith) holds.logs).last_of;
}
  where
    numbers : (ops after : ℕ) → max named.last ops ≡ core.last → after ≤ ops → max (max named.last core.last) after ≡ core.last
    numbers ops after e le = omega arith
