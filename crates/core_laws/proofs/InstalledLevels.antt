-- A compaction that is installed: what the levels have then, and that a job beside it runs on and keeps reads.
use Rattle.std.proofs.Common.{◌≡◌, ℕ, ◌<◌, Bool, true, false, cond, not, List, [], ◌∷◌, map, length, refl, sym, ap, subst, ◌∙◌, inl, inr}
use Rattle.std.proofs.lemmas.List.{length-map}
use Rattle.std.specs.Prelude.{◌==◌}
use Rattle.std.specs.List.{filter, list_any, AllByRecursion as Each}
use Rattle.std.proofs.Math.ListN.{length-set}
use Rattle.std.proofs.lemmas.Bool.{cases_Bool, eqb-true, not-true, not_from_false}
use Rattle.st_base.specs.Bytes.{below, same}
use Rattle.st_base.specs.Order.{in_order}
use Rattle.st_base.specs.declared.entry.Entry.{Entry}
use Rattle.st_base.specs.declared.entry.KeyRange.{KeyRange}
use Rattle.st_base.proofs.Same.{same_true, same_self}
use Rattle.st_base.specs.Range.{is_in_range, has_key, key_at_front}
use Rattle.base_laws.proofs.Lists.{each_all, each_any, each_as, each_back, each_filter, each_flat_map, each_map, each_passing, flat_map_each, map_each}
use Rattle.core_laws.specs.Claims.{Compacts}
use Rattle.core_model.specs.Compaction.{staying, put_all, with_compacted}
use Rattle.core_model.specs.Picture.{FileEntries, FamilyView, Job, runs_of, tables_in, level_at, memories, is_input, put_by_key}
use Rattle.core_model.specs.RelationParts.{IsView, IsCompacting, JobsApart, input_tables, IsSortedRun}
use Rattle.core_model.specs.Step.{joined_entries}
use Rattle.core_laws.proofs.Columns.{compacted_each}
use Rattle.core_laws.proofs.Lists.{at_set, at_map, filter_flat, filter_twice}
use Rattle.core_laws.proofs.JointRange.{Has, joint_has}
use Rattle.st_order.specs.Columns.{Pairwise, of_key, column}
use Rattle.job_model.specs.Compaction.{IsCompaction}
use Rattle.job_model.specs.Drops.{covers}

-- ---- outputs

pub from_columns : (P : Entry → Type 0) (entries : List Entry) → ((key : List ℕ) → Each P (of_key key entries)) → Each P entries
from_columns P [] each = tt
from_columns P (e ∷ es) each = (first.0, from_columns P es (λ key. rest key (same e.key key) (each key)))
  where
    first : Each P (e ∷ of_key e.key es)
    first = subst (λ (b : Bool). Each P (cond b (e ∷ of_key e.key es) (of_key e.key es))) (same_self e.key) (each e.key)

    rest : (key : List ℕ) (b : Bool) → Each P (cond b (e ∷ of_key key es) (of_key key es)) → Each P (of_key key es)
    rest key true holds = holds.1
    rest key false holds = holds

pub column_each : (P : Entry → Type 0) (key : List ℕ) (runs : List (List Entry)) → Each (Each P) runs → Each P (column key runs)
column_each P key runs each =
    each_flat_map P (of_key key) runs (each_as (Each P) (λ run. Each P (of_key key run)) (λ run holds. each_filter P (λ entry. same entry.key key) run holds) runs each)

-- what holds of each entry of the inputs holds of each of their compaction
pub compaction_each : (P : Entry → Type 0) (inputs : List (List Entry)) (live : List ℕ) (drops : List KeyRange) (entries : List Entry) → IsCompaction inputs live drops entries → Each (Each P) inputs → Each P entries
compaction_each P inputs live drops entries is each =
    from_columns P entries (λ key. subst (Each P) (sym (is.columns key)) (compacted_each P live (covers drops key) (column key inputs) (column_each P key inputs each)))

pub outputs_each : (P : Entry → Type 0) (job : Job) (outputs : List FileEntries) → IsCompaction job.inputs job.live job.drops (joined_entries outputs) → Each (Each P) job.inputs → Each (λ (table : FileEntries). Each P table.entries) outputs
outputs_each P job outputs is each = flat_map_each P (λ table. table.entries) outputs (compaction_each P job.inputs job.live job.drops (joined_entries outputs) is each)

-- ---- tables and inputs

pub tables_rows : (family : FamilyView) → IsView family → Each (λ (table : FileEntries). IsSortedRun table.entries) (tables_in family.levels)
tables_rows family view = map_each IsSortedRun (λ table. table.entries) (tables_in family.levels) (each_back IsSortedRun (memories family) (runs_of (tables_in family.levels)) view.rows)

pub input_each : (P : List Entry → Type 0) (lowest : ℕ) (family : FamilyView) (job : Job) → IsCompacting lowest family job → Each (λ (table : FileEntries). is_input job table ≡ true → P table.entries) (tables_in family.levels) → Each P job.inputs
input_each P lowest family job runs each =
    subst (Each P) runs.inputs (each_map P (λ table. table.entries) (input_tables family job) (each_passing (λ table. P table.entries) (is_input job) (tables_in family.levels) each))

-- the joint range has the inputs' keys
pub inputs_has : (lowest : ℕ) (family : FamilyView) (job : Job) → Compacts lowest family job → Each (Has job.range) job.inputs
inputs_has lowest family job c =
    subst (λ (range : KeyRange). Each (Has range) job.inputs) (sym c.range)
    (joint_has job.inputs (input_each (λ entries. in_order entries ≡ true) lowest family job c.running (each_as (λ table. IsSortedRun table.entries) (λ table. is_input job table ≡ true → in_order table.entries ≡ true) (λ table rows is. rows.ordered) (tables_in family.levels) (tables_rows family c.view))))

pub has_within : (range : KeyRange) (entries : List Entry) (key : List ℕ) → Has range entries → has_key entries key ≡ true → is_in_range range key ≡ true
has_within range entries key has there =
    each_any (λ (e : Entry). is_in_range range e.key ≡ true) (is_in_range range key ≡ true) (λ entry. same entry.key key) entries
    (λ e is within. subst (λ (k : List ℕ). is_in_range range k ≡ true) (same_true e.key key is) within) has there

-- no table is an input of both
pub disjoint : (lowest : ℕ) (one other : Job) (table : FileEntries) → JobsApart lowest one other → is_input one table ≡ true → is_input other table ≡ false
disjoint lowest one other table apart is =
    each_any (λ (file : ℕ). list_any (λ taken. taken == file) other.files ≡ false) (is_input other table ≡ false) (λ file. file == table.file) one.files
    (λ file e none. subst (λ (f : ℕ). list_any (λ taken. taken == f) other.files ≡ false) (eqb-true file table.file e) none) apart.files is

-- ---- putting

pub put_each : (P : FileEntries → Type 0) (table : FileEntries) (tables : List FileEntries) → P table → Each P tables → Each P (put_by_key table tables)
put_each P table [] holds each = (holds, tt)
put_each P table (other ∷ others) holds each = put (below (key_at_front table.entries) (key_at_front other.entries)) (put_each P table others holds each.1)
  where
    put : (b : Bool) → Each P (put_by_key table others) → Each P (cond b (table ∷ other ∷ others) (other ∷ put_by_key table others))
    put true rest = (holds, each)
    put false rest = (each.0, rest)

pub put_all_each : (P : FileEntries → Type 0) (outputs tables : List FileEntries) → Each P outputs → Each P tables → Each P (put_all outputs tables)
put_all_each P [] tables each old = old
put_all_each P (table ∷ outputs) tables each old = put_all_each P outputs (put_by_key table tables) each.1 (put_each P table tables each.0 old)

put_pairs : (R : FileEntries → FileEntries → Type 0) (table : FileEntries) (tables : List FileEntries) → Each (R table) tables → Each (λ other. R other table) tables → Pairwise R tables → Pairwise R (put_by_key table tables)
put_pairs R table [] after before pairs = (tt, tt)
put_pairs R table (other ∷ others) after before pairs = put (below (key_at_front table.entries) (key_at_front other.entries)) (put_pairs R table others after.1 before.1 pairs.1)
  where
    put : (b : Bool) → Pairwise R (put_by_key table others) → Pairwise R (cond b (table ∷ other ∷ others) (other ∷ put_by_key table others))
    put true rest = (after, pairs)
    put false rest = (put_each (R other) table others before.0 pairs.0, rest)

-- outputs that stand well before anything
pub put_all_pairs : (R : FileEntries → FileEntries → Type 0) (outputs tables : List FileEntries) → Each (λ output. (other : FileEntries) → R output other) outputs → Each (λ other. Each (R other) outputs) tables → Pairwise R tables → Pairwise R (put_all outputs tables)
put_all_pairs R [] tables free after pairs = pairs
put_all_pairs R (table ∷ outputs) tables free after pairs =
    put_all_pairs R outputs (put_by_key table tables) free.1
    (put_each (λ other. Each (R other) outputs) table tables (each_all (R table) free.0 outputs) (each_as (λ other. Each (R other) (table ∷ outputs)) (λ other. Each (R other) outputs) (λ other each. each.1) tables after))
    (put_pairs R table tables (each_all (R table) free.0 tables) (each_as (λ other. Each (R other) (table ∷ outputs)) (λ other. R other table) (λ other each. each.0) tables after) pairs)

pub put_filter : (test : FileEntries → Bool) (table : FileEntries) (tables : List FileEntries) → test table ≡ false → filter test (put_by_key table tables) ≡ filter test tables
put_filter test table [] fails = ap (λ (b : Bool). cond b (table ∷ []) []) fails
put_filter test table (other ∷ others) fails = put (below (key_at_front table.entries) (key_at_front other.entries)) (put_filter test table others fails)
  where
    put : (b : Bool) → filter test (put_by_key table others) ≡ filter test others → filter test (cond b (table ∷ other ∷ others) (other ∷ put_by_key table others)) ≡ filter test (other ∷ others)
    put true e = ap (λ (t : Bool). cond t (table ∷ filter test (other ∷ others)) (filter test (other ∷ others))) fails
    put false e = ap (λ rest. cond (test other) (other ∷ rest) rest) e

put_all_filter : (test : FileEntries → Bool) (outputs tables : List FileEntries) → Each (λ table. test table ≡ false) outputs → filter test (put_all outputs tables) ≡ filter test tables
put_all_filter test [] tables fail = refl
put_all_filter test (table ∷ outputs) tables fail = put_all_filter test outputs (put_by_key table tables) fail.1 ∙ put_filter test table tables fail.0

-- ---- levels

-- a level after the installation: with the outputs, or without inputs
pub installed_at : (P : List FileEntries → Type 0) (family : FamilyView) (job : Job) (outputs : List FileEntries) (n : ℕ) → job.level < length family.levels
    → (n ≡ job.level → P (put_all outputs (staying job.files (level_at family job.level)))) → ((n ≡ job.level → ⊥) → P (staying job.files (level_at family n))) → P (level_at (with_compacted job outputs family) n)
installed_at P family job outputs n lt here there =
    at_set P (map (staying job.files) family.levels) job.level n (put_all outputs (staying job.files (level_at family job.level)))
    (subst (λ (k : ℕ). job.level < k) (sym (length-map family.levels (staying job.files))) lt)
    here (λ differ. at_map P (staying job.files) family.levels n refl (there differ))

pub staying_each : (P : FileEntries → Type 0) (job : Job) (tables : List FileEntries) → Each (λ table. is_input job table ≡ false → P table) tables → Each P (staying job.files tables)
staying_each P job tables each = each_passing P (λ table. not (is_input job table)) tables
    (each_as (λ table. is_input job table ≡ false → P table) (λ table. not (is_input job table) ≡ true → P table) (λ table holds is. holds (not-true (is_input job table) is)) tables each)

pub installed_each : (P : FileEntries → Type 0) (family : FamilyView) (job : Job) (outputs : List FileEntries) (n : ℕ) → job.level < length family.levels
    → Each (λ table. is_input job table ≡ false → P table) (level_at family n) → (n ≡ job.level → Each P outputs) → Each P (level_at (with_compacted job outputs family) n)
installed_each P family job outputs n lt old new =
    installed_at (Each P) family job outputs n lt
    (λ e. put_all_each P outputs (staying job.files (level_at family job.level)) (new e) (staying_each P job (level_at family job.level) (subst (λ (k : ℕ). Each (λ table. is_input job table ≡ false → P table) (level_at family k)) e old)))
    (λ differ. staying_each P job (level_at family n) old)

pub installed_length : (family : FamilyView) (job : Job) (outputs : List FileEntries) → length (with_compacted job outputs family).levels ≡ length family.levels
installed_length family job outputs =
    length-set (map (staying job.files) family.levels) job.level (put_all outputs (staying job.files (level_at family job.level))) ∙ length-map family.levels (staying job.files)

-- the other job's inputs stand as they stood
pub installed_inputs : (lowest : ℕ) (family : FamilyView) (job other : Job) (outputs : List FileEntries) → job.level < length family.levels → JobsApart lowest job other
    → Each (λ table. is_input other table ≡ false) outputs → input_tables (with_compacted job outputs family) other ≡ input_tables family other
installed_inputs lowest family job other outputs lt apart fresh =
    filter_flat (is_input other) (with_compacted job outputs family).levels family.levels (installed_length family job outputs)
    (λ n. installed_at (λ tables. filter (is_input other) tables ≡ filter (is_input other) (level_at family n)) family job outputs n lt
    (λ e. put_all_filter (is_input other) outputs (staying job.files (level_at family job.level)) fresh ∙ stays job.level ∙ ap (λ (k : ℕ). filter (is_input other) (level_at family k)) (sym e))
    (λ differ. stays n))
  where
    stays : (n : ℕ) → filter (is_input other) (staying job.files (level_at family n)) ≡ filter (is_input other) (level_at family n)
    stays n = filter_twice (is_input other) (λ table. not (is_input job table)) (level_at family n)
        (each_all (λ table. is_input other table ≡ true → not (is_input job table) ≡ true) (λ table is. elim (cases_Bool (is_input job table)) [
          | inl yes_so ↦ absurd (let w : true ≡ false = sym is ∙ disjoint lowest job other table apart yes_so in cc)
          | inr not_so ↦ not_from_false (is_input job table) not_so
        ]) (level_at family n))
