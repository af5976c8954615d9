-- A file that is put at a level leaves running jobs as they are.
use Rattle.std.proofs.Common.{◌≡◌, ℕ, zero, suc, ◌+◌, ◌<◌, ◌≤◌, Bool, true, false, cond, ◌&&◌, List, [], ◌∷◌, ◌++◌, map, take, drop, length, filter, Option, Some, None, unwrap_or, refl, sym, ap, subst, ◌∙◌, inl, inr, arith, get_or}
use Rattle.std.specs.Prelude.{slice_get, Contains}
use Rattle.std.specs.List.{AllByRecursion as Each}
use Rattle.std.proofs.lemmas.Bool.{false≢true, or_cases, and_parts, cond-false, cases_lt}
use Rattle.std.proofs.lemmas.List.{drop-set-lt, take-set-le}
use Rattle.st_base.specs.Bytes.{below, same}
use Rattle.st_base.specs.declared.entry.Entry.{Entry}
use Rattle.st_base.specs.declared.entry.KeyRange.{KeyRange}
use Rattle.st_base.proofs.Same.{same_true}
use Rattle.st_base.specs.Range.{is_in_range, meet, key_at_front, has_key}
use Rattle.base_laws.proofs.Lists.{each_join}
use Rattle.base_laws.proofs.Ranges.{same_range}
use Rattle.core_laws.specs.Claims.{FileLeavesRunning, FileLeavesReads, BehindLeavesRunning}
use Rattle.core_model.specs.Commit.{put_table, put_file, renumbered}
use Rattle.core_model.specs.Level.{level_rule}
use Rattle.core_model.specs.Picture.{FileEntries, FamilyView, Job, Core, lowest_level, level_at, runs_of, tables_in, table_range, put_by_key, is_input}
use Rattle.core_model.specs.RelationParts.{IsCompacting, KeepsReads, ShareNoKey, IsInputLevel}
use Rattle.core_laws.proofs.FileColumns.{put_at, each_append, staged_within, each_entries}
use Rattle.core_laws.proofs.LevelRule.{rule_passes, rule_within, stop_no_entry, stop_no_output}
use Rattle.job_laws.proofs.RangeKeys.{nothing_within, meet_within}
use Rattle.core_laws.proofs.Lists.{filter_join, pairs_join}
use Rattle.core_laws.proofs.InstalledLevels.{put_each, put_filter}
use Rattle.st_order.specs.Columns.{Pairwise}

-- ---- one table more, among those of a level

pub each_with : {X : Type 0} (P Q S : X → Type 0) (xs : List X) → ((x : X) → P x → Q x → S x) → Each P xs → Each Q xs → Each S xs
each_with P Q S [] f p q = tt
each_with P Q S (x ∷ xs) f p q = (f x p.0 q.0, each_with P Q S xs f p.1 q.1)

pub each_of : {X : Type 0} (P Q : X → Type 0) (xs : List X) → ((x : X) → P x → Q x) → Each P xs → Each Q xs
each_of P Q [] f p = tt
each_of P Q (x ∷ xs) f p = (f x p.0, each_of P Q xs f p.1)

-- at each level, where it holds of the new table if that is its level
at_each : (P : FileEntries → Type 0) (table : FileEntries) (level : ℕ) (levels : List (List FileEntries)) (n : ℕ) → (level ≡ n → P table) → Each P (unwrap_or (slice_get levels n) []) → Each P (unwrap_or (slice_get (put_at level table levels) n) [])
at_each P table level [] n here each = each
at_each P table zero (tables ∷ levels) zero here each = put_each P table tables (here refl) each
at_each P table zero (tables ∷ levels) (suc n) here each = each
at_each P table (suc level) (tables ∷ levels) zero here each = each
at_each P table (suc level) (tables ∷ levels) (suc n) here each = at_each P table level levels n (λ e. here (ap suc e)) each

pub table_each : (P : FileEntries → Type 0) (table : FileEntries) (level : ℕ) (levels : List (List FileEntries)) (n : ℕ) → (level ≡ n → P table) → Each P (unwrap_or (slice_get levels n) []) → Each P (unwrap_or (slice_get (put_table level table levels) n) [])
table_each P table zero [] n here each = each
table_each P table zero (tables ∷ levels) zero here each = (here refl, each)
table_each P table zero (tables ∷ levels) (suc n) here each = each
table_each P table (suc level) levels n here each = at_each P table (suc level) levels n here each

-- of all tables, of those above a level, of those from a level on
at_all : (P : FileEntries → Type 0) (table : FileEntries) (level : ℕ) (levels : List (List FileEntries)) → P table → Each P (tables_in levels) → Each P (tables_in (put_at level table levels))
at_all P table level [] here each = each
at_all P table zero (tables ∷ levels) here each = let parts = each_append P tables (tables_in levels) each in each_join P (put_by_key table tables) (tables_in levels) (put_each P table tables here parts.0) parts.1
at_all P table (suc level) (tables ∷ levels) here each = let parts = each_append P tables (tables_in levels) each in each_join P tables (tables_in (put_at level table levels)) parts.0 (at_all P table level levels here parts.1)

pub table_all : (P : FileEntries → Type 0) (table : FileEntries) (level : ℕ) (levels : List (List FileEntries)) → P table → Each P (tables_in levels) → Each P (tables_in (put_table level table levels))
table_all P table zero [] here each = each
table_all P table zero (tables ∷ levels) here each = (here, each)
table_all P table (suc level) levels here each = at_all P table (suc level) levels here each

at_take : (P : FileEntries → Type 0) (table : FileEntries) (level k : ℕ) (levels : List (List FileEntries)) → P table → Each P (tables_in (take k levels)) → Each P (tables_in (take k (put_at level table levels)))
at_take P table level zero levels here each = each
at_take P table level (suc k) [] here each = each
at_take P table zero (suc k) (tables ∷ levels) here each =
    let parts = each_append P tables (tables_in (take k levels)) each in each_join P (put_by_key table tables) (tables_in (take k levels)) (put_each P table tables here parts.0) parts.1
at_take P table (suc level) (suc k) (tables ∷ levels) here each =
    let parts = each_append P tables (tables_in (take k levels)) each in each_join P tables (tables_in (take k (put_at level table levels))) parts.0 (at_take P table level k levels here parts.1)

at_drop : (P : FileEntries → Type 0) (table : FileEntries) (level k : ℕ) (levels : List (List FileEntries)) → P table → Each P (tables_in (drop k levels)) → Each P (tables_in (drop k (put_at level table levels)))
at_drop P table level zero levels here each = at_all P table level levels here each
at_drop P table level (suc k) [] here each = each
at_drop P table zero (suc k) (tables ∷ levels) here each = each
at_drop P table (suc level) (suc k) (tables ∷ levels) here each = at_drop P table level k levels here each

-- from a level on, where it holds of the new table if that is at it or below it
pub table_drop : (P : FileEntries → Type 0) (table : FileEntries) (level k : ℕ) (levels : List (List FileEntries)) → (k ≤ level → P table) → Each P (tables_in (drop k levels)) → Each P (tables_in (drop k (put_table level table levels)))
table_drop P table level k levels here each = elim (cases_lt level k) [
  | inl lt ↦ subst (λ some. Each P (tables_in some)) (sym (same_drop level lt)) each
  | inr le ↦ put level (here le)
]
  where
    same_drop : (at : ℕ) → at < k → drop k (put_table at table levels) ≡ drop k levels
    same_drop zero lt = drop-set-lt k levels 0 (table ∷ unwrap_or (slice_get levels 0) []) lt
    same_drop (suc at) lt = drop-set-lt k levels (suc at) (put_by_key table (unwrap_or (slice_get levels (suc at)) [])) lt

    put_zero : (n : ℕ) (some : List (List FileEntries)) → P table → Each P (tables_in (drop n some)) → Each P (tables_in (drop n (put_table 0 table some)))
    put_zero zero some ok all = table_all P table 0 some ok all
    put_zero (suc n) [] ok all = all
    put_zero (suc n) (tables ∷ some) ok all = all

    put : (at : ℕ) → P table → Each P (tables_in (drop k (put_table at table levels)))
    put zero ok = put_zero k levels ok each
    put (suc at) ok = at_drop P table (suc at) k levels ok each

-- ---- tables that pass a test

at_filter : (p : FileEntries → Bool) (table : FileEntries) (level : ℕ) (levels : List (List FileEntries)) → p table ≡ false → filter p (tables_in (put_at level table levels)) ≡ filter p (tables_in levels)
at_filter p table level [] out = refl
at_filter p table zero (tables ∷ levels) out =
    filter_join p (put_by_key table tables) (tables_in levels) ∙ ap (λ front. front ++ filter p (tables_in levels)) (put_filter p table tables out) ∙ sym (filter_join p tables (tables_in levels))
at_filter p table (suc level) (tables ∷ levels) out =
    filter_join p tables (tables_in (put_at level table levels)) ∙ ap (λ behind. filter p tables ++ behind) (at_filter p table level levels out) ∙ sym (filter_join p tables (tables_in levels))

pub table_filter : (p : FileEntries → Bool) (table : FileEntries) (level : ℕ) (levels : List (List FileEntries)) → p table ≡ false → filter p (tables_in (put_table level table levels)) ≡ filter p (tables_in levels)
table_filter p table zero [] out = refl
table_filter p table zero (tables ∷ levels) out = cond-false (p table) (table ∷ filter p (tables ++ tables_in levels)) (filter p (tables ++ tables_in levels)) out
table_filter p table (suc level) levels out = at_filter p table (suc level) levels out

-- ---- pairs

pub pairs_append : {X : Type 0} (R : X → X → Type 0) (xs ys : List X) → Pairwise R (xs ++ ys) → Pairwise R xs × Pairwise R ys × Each (λ x. Each (R x) ys) xs
pairs_append R [] ys pairs = (tt, pairs, tt)
pairs_append R (x ∷ xs) ys pairs =
    let rest = pairs_append R xs ys pairs.1 in
    let parts = each_append (R x) xs ys pairs.0 in
    ((parts.0, rest.0), rest.1, (parts.1, rest.2))

-- the new table has the relation to every table, and those before it have it to the new one
key_pairs : (R : FileEntries → FileEntries → Type 0) (table : FileEntries) (tables : List FileEntries) → ((other : FileEntries) → R table other) → Each (λ one. R one table) tables → Pairwise R tables → Pairwise R (put_by_key table tables)
key_pairs R table [] first others pairs = (tt, tt)
key_pairs R table (other ∷ tables) first others pairs = step (below (key_at_front table.entries) (key_at_front other.entries)) (key_pairs R table tables first others.1 pairs.1)
  where
    all : (some : List FileEntries) → Each (R table) some
    all [] = tt
    all (one ∷ some) = (first one, all some)

    step : (b : Bool) → Pairwise R (put_by_key table tables) → Pairwise R (cond b (table ∷ other ∷ tables) (other ∷ put_by_key table tables))
    step true rest = (all (other ∷ tables), pairs)
    step false rest = (put_each (R other) table tables others.0 pairs.0, rest)

at_pairs : (R : FileEntries → FileEntries → Type 0) (table : FileEntries) (level k : ℕ) (levels : List (List FileEntries)) → ((other : FileEntries) → R table other)
    → ((m : ℕ) → m ≤ level → m < k → Each (λ one. R one table) (unwrap_or (slice_get levels m) []))
    → Pairwise R (tables_in (take k levels)) → Pairwise R (tables_in (take k (put_at level table levels)))
at_pairs R table level zero levels first others pairs = pairs
at_pairs R table level (suc k) [] first others pairs = pairs
at_pairs R table zero (suc k) (tables ∷ levels) first others pairs =
    let parts = pairs_append R tables (tables_in (take k levels)) pairs in
    pairs_join R (put_by_key table tables) (tables_in (take k levels)) (key_pairs R table tables first (others 0 (omega arith) (omega arith)) parts.0) parts.1
    (put_each (λ one. Each (R one) (tables_in (take k levels))) table tables (all (tables_in (take k levels))) parts.2)
  where
    all : (some : List FileEntries) → Each (R table) some
    all [] = tt
    all (one ∷ some) = (first one, all some)
at_pairs R table (suc level) (suc k) (tables ∷ levels) first others pairs =
    let parts = pairs_append R tables (tables_in (take k levels)) pairs in
    pairs_join R tables (tables_in (take k (put_at level table levels))) parts.0 (at_pairs R table level k levels first (λ m le lt. others (suc m) (omega arith) (omega arith)) parts.1)
    (each_with (λ one. R one table) (λ one. Each (R one) (tables_in (take k levels))) (λ one. Each (R one) (tables_in (take k (put_at level table levels)))) tables
    (λ one here each. at_take (R one) table level k levels here each) (others 0 (omega arith) (omega arith)) parts.2)

pub table_pairs : (R : FileEntries → FileEntries → Type 0) (table : FileEntries) (level k : ℕ) (levels : List (List FileEntries)) → ((other : FileEntries) → R table other)
    → (0 < level → (m : ℕ) → m ≤ level → m < k → Each (λ one. R one table) (unwrap_or (slice_get levels m) []))
    → Pairwise R (tables_in (take k levels)) → Pairwise R (tables_in (take k (put_table level table levels)))
table_pairs R table zero zero levels first others pairs = pairs
table_pairs R table zero (suc k) [] first others pairs = pairs
table_pairs R table zero (suc k) (tables ∷ levels) first others pairs = (all (tables ++ tables_in (take k levels)), pairs)
  where
    all : (some : List FileEntries) → Each (R table) some
    all [] = tt
    all (one ∷ some) = (first one, all some)
table_pairs R table (suc level) k levels first others pairs = at_pairs R table (suc level) k levels first (others (omega arith)) pairs

-- ---- keys

pub has_key_of : (P : List ℕ → Type 0) (key : List ℕ) (entries : List Entry) → Each (λ entry. P entry.key) entries → has_key entries key ≡ true → P key
has_key_of P key [] each e = absurd (false≢true e)
has_key_of P key (x ∷ xs) each e = elim (or_cases (same x.key key) (has_key xs key) e) [
  | inl here ↦ subst P (same_true x.key key here) each.0
  | inr later ↦ has_key_of P key xs each.1 later
]

-- the file's keys lie in its range, and those of a passed level don't
apart_keys : (range : KeyRange) (one other : List Entry) → Each (λ entry. is_in_range range entry.key ≡ false) one → Each (λ entry. is_in_range range entry.key ≡ true) other → ShareNoKey one other
apart_keys range one other out inside key here = step (has_key other key) refl
  where
    step : (b : Bool) → has_key other key ≡ b → b ≡ false
    step true there = absurd (false≢true (sym (has_key_of (λ key. is_in_range range key ≡ false) key one out here) ∙ has_key_of (λ key. is_in_range range key ≡ true) key other inside there))
    step false there = refl

-- ---- a file of the rule's level

-- no entry of a passed level in the range
passed_out : (levels : List (List FileEntries)) (running : List Job) (range : KeyRange) (lowest_level m : ℕ) → 0 < (level_rule levels running range lowest_level).level → m ≤ (level_rule levels running range lowest_level).level
    → Each (λ table. Each (λ entry. is_in_range range entry.key ≡ false) table.entries) (unwrap_or (slice_get levels m) [])
passed_out levels running range lowest_level m positive le = step (slice_get levels m) refl
  where
    of_tables : (here : List FileEntries) → Each (Each (λ entry. is_in_range range entry.key ≡ false)) (runs_of here) → Each (λ table. Each (λ entry. is_in_range range entry.key ≡ false) table.entries) here
    of_tables [] each = tt
    of_tables (table ∷ here) each = (each.0, of_tables here each.1)

    step : (found : Option (List FileEntries)) → slice_get levels m ≡ found → Each (λ table. Each (λ entry. is_in_range range entry.key ≡ false) table.entries) (unwrap_or found [])
    step None is = tt
    step (Some tables) is = of_tables tables (nothing_within range (runs_of tables) (stop_no_entry running m range tables (rule_passes levels running range lowest_level m tables positive le is)))

-- a level of a list that is longer is there
there_is : (levels : List (List FileEntries)) (n : ℕ) → n < length levels → (tables : List FileEntries) × (slice_get levels n ≡ Some tables)
there_is [] n lt = absurd (omega arith)
there_is (tables ∷ levels) zero lt = (tables, refl)
there_is (tables ∷ levels) (suc n) lt = there_is levels n (omega arith)

-- no output of a running job at a passed level meets the file
passed_output : (levels : List (List FileEntries)) (running : List Job) (range : KeyRange) (lowest_level : ℕ) (job : Job) → Contains running job → 0 < (level_rule levels running range lowest_level).level → job.level ≤ (level_rule levels running range lowest_level).level
    → lowest_level < length levels → meet job.range range ≡ false
passed_output levels running range lowest_level job there positive le long =
    let found = there_is levels job.level (omega (arith, rule_within levels running range lowest_level)) in
    stop_no_output running job.level range found.0 job (rule_passes levels running range lowest_level job.level found.0 positive le found.1) there refl

input_at : (jobs : List Job) (table : FileEntries) (k : ℕ) (d : Job) → Each (λ other. is_input other table ≡ false) jobs → k < length jobs → is_input (get_or jobs k d) table ≡ false
input_at [] table k d each lt = absurd (omega arith)
input_at (job ∷ jobs) table zero d each lt = each.0
input_at (job ∷ jobs) table (suc k) d each lt = input_at jobs table k d each.1 (omega arith)

pub no_input : (jobs : List Job) (job : Job) (table : FileEntries) → Each (λ other. is_input other table ≡ false) jobs → Contains jobs job → is_input job table ≡ false
no_input jobs job table each there = subst (λ one. is_input one table ≡ false) there.2 (input_at jobs table there.0 job each there.1)

pub file_leaves_running : FileLeavesRunning
file_leaves_running lowest_level number family jobs job table view staged compacts there fresh memory = record {
  level = running.level;
  some = running.some;
  files = ap (map (λ (one : FileEntries). one.file)) same_inputs ∙ running.files;
  inputs = ap runs_of same_inputs ∙ running.inputs;
  levels = λ n. table_each (λ one. is_input job one ≡ true → IsInputLevel lowest_level job.level n) new level family.levels n (λ e is. absurd (false≢true (sym out ∙ is))) (running.levels n);
  clear = table_each (λ one. is_input job one ≡ false → meet job.range (table_range one) ≡ false) new level family.levels job.level
      (λ at is. subst (λ range. meet job.range range ≡ false) (sym (same_range number table.entries))
      (passed_output family.levels jobs (table_range table) lowest_level job there (omega (arith, compacts.positive)) (omega arith) (omega (arith, view.levels, compacts.bottom))))
      running.clear;
  below = table_pairs (λ one other. is_input job one ≡ true → is_input job other ≡ false → ShareNoKey one.entries other.entries) new level job.level family.levels (λ other is. absurd (false≢true (sym out ∙ is)))
      (λ positive m le lt. each_of (λ one. Each (λ entry. is_in_range (table_range table) entry.key ≡ false) one.entries) (λ one. is_input job one ≡ true → is_input job new ≡ false → ShareNoKey one.entries new.entries)
      (unwrap_or (slice_get family.levels m) []) (λ one none is not_is. apart_keys (table_range table) one.entries new.entries none (staged_within table number staged))
      (passed_out family.levels jobs (table_range table) lowest_level m positive le))
      running.below;
}
  where
    running : IsCompacting lowest_level family job
    running = compacts.running

    level : ℕ
    level = (level_rule family.levels jobs (table_range table) lowest_level).level

    new : FileEntries
    new = renumbered number table

    out : is_input job table ≡ false
    out = no_input jobs job table fresh there

    same_inputs : filter (is_input job) (tables_in (put_table level new family.levels)) ≡ filter (is_input job) (tables_in family.levels)
    same_inputs = table_filter (is_input job) new level family.levels out

-- tables and their entries
pub entries_all : (P : List Entry → Type 0) (tables : List FileEntries) → Each (λ table. P table.entries) tables → Each P (runs_of tables)
entries_all P [] each = tt
entries_all P (table ∷ tables) each = (each.0, entries_all P tables each.1)

pub file_leaves_reads : FileLeavesReads
file_leaves_reads core number family jobs job table view staged compacts there keeps = record {
  live = keeps.live;
  began = keeps.began;
  numbers = keeps.numbers;
  within = keeps.within;
  nothing = each_with (λ range. (is_in_range job.range range.first && is_in_range job.range range.last) ≡ true)
      (λ range. Each (Each (λ entry. is_in_range range entry.key ≡ false)) (runs_of (tables_in (drop (job.level + 1) family.levels))))
      (λ range. Each (Each (λ entry. is_in_range range entry.key ≡ false)) (runs_of (tables_in (drop (job.level + 1) (put_table level new family.levels)))))
      job.drops (λ range within none. entries_all (Each (λ entry. is_in_range range entry.key ≡ false)) (tables_in (drop (job.level + 1) (put_table level new family.levels)))
      (table_drop (λ one. Each (λ entry. is_in_range range entry.key ≡ false) one.entries) new level (job.level + 1) family.levels (λ le. apart range within le)
      (each_entries (Each (λ entry. is_in_range range entry.key ≡ false)) (tables_in (drop (job.level + 1) family.levels)) none)))
      keeps.within keeps.nothing;
  flag = keeps.flag;
}
  where
    level : ℕ
    level = (level_rule family.levels jobs (table_range table) (lowest_level core)).level

    new : FileEntries
    new = renumbered number table

    outside : (range : KeyRange) → (is_in_range job.range range.first && is_in_range job.range range.last) ≡ true → meet job.range (table_range table) ≡ false → (key : List ℕ) → is_in_range (table_range table) key ≡ true → is_in_range range key ≡ false
    outside range within no_meet key here = step (is_in_range range key) refl
      where
        step : (b : Bool) → is_in_range range key ≡ b → b ≡ false
        step true is = let parts = and_parts (is_in_range job.range range.first) (is_in_range job.range range.last) within in absurd (false≢true (sym no_meet ∙ meet_within job.range range (table_range table) key parts.0 parts.1 is here))
        step false is = refl

    apart : (range : KeyRange) → (is_in_range job.range range.first && is_in_range job.range range.last) ≡ true → job.level + 1 ≤ level → Each (λ entry. is_in_range range entry.key ≡ false) new.entries
    apart range within le =
        each_of (λ (entry : Entry). is_in_range (table_range table) entry.key ≡ true) (λ entry. is_in_range range entry.key ≡ false) new.entries
        (λ entry here. outside range within (passed_output family.levels jobs (table_range table) (lowest_level core) job there (omega arith) (omega arith) (omega (arith, view.levels, compacts.bottom))) entry.key here)
        (staged_within table number staged)

-- ---- a file behind

pub behind_leaves_running : BehindLeavesRunning
behind_leaves_running family job table compacts out = record {
  level = running.level;
  some = running.some;
  files = ap (map (λ (one : FileEntries). one.file)) same_inputs ∙ running.files;
  inputs = ap runs_of same_inputs ∙ running.inputs;
  levels = λ n. table_each (λ one. is_input job one ≡ true → IsInputLevel 5 job.level n) new 6 family.levels n (λ e is. absurd (false≢true (sym out ∙ is))) (running.levels n);
  clear = table_each (λ one. is_input job one ≡ false → meet job.range (table_range one) ≡ false) new 6 family.levels job.level (λ at. absurd (omega (arith, running.level))) running.clear;
  below = subst (λ levels. Pairwise (λ one other. is_input job one ≡ true → is_input job other ≡ false → ShareNoKey one.entries other.entries) (tables_in levels))
      (sym (take-set-le job.level family.levels 6 (put_by_key new (level_at family 6)) (omega (arith, running.level)))) running.below;
}
  where
    running : IsCompacting 5 family job
    running = compacts.running

    new : FileEntries
    new = renumbered 0 table

    same_inputs : filter (is_input job) (tables_in (put_table 6 new family.levels)) ≡ filter (is_input job) (tables_in family.levels)
    same_inputs = table_filter (is_input job) new 6 family.levels out

-- with the flag a job drops no tombstone
pub behind_leaves_reads : (core : Core) (family : FamilyView) (job : Job) (table : FileEntries) → core.behind ≡ true → KeepsReads core family job → KeepsReads core (put_file 6 0 table family) job
behind_leaves_reads core family job table flag keeps = record {
  live = keeps.live;
  began = keeps.began;
  numbers = keeps.numbers;
  within = keeps.within;
  nothing = subst (λ drops. Each (λ range. Each (Each (λ entry. is_in_range range entry.key ≡ false)) (runs_of (tables_in (drop (job.level + 1) (put_file 6 0 table family).levels)))) drops) (sym (keeps.flag flag)) tt;
  flag = keeps.flag;
}
