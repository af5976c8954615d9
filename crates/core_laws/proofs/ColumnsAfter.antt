-- After an installation: reads, marks, numbers and known keys, from the lemmas on the middle of a column.
use Rattle.std.proofs.Common.{◌≡◌, ℕ, zero, suc, ◌<◌, ◌≤◌, Bool, true, false, List, [], ◌∷◌, ◌++◌, length, refl, sym, ap, subst, ◌∙◌, inl, inr, arith, append-nil}
use Rattle.std.specs.Prelude.{Contains, get_or}
use Rattle.std.specs.List.{AllByRecursion as Each}
use Rattle.st_base.specs.declared.entry.Entry.{Entry}
use Rattle.st_base.specs.declared.entry.KeyRange.{KeyRange}
use Rattle.st_model.specs.Read.{value_of}
use Rattle.base_laws.proofs.Lists.{each_as, each_back, each_front, each_join, each_map, map_each}
use Rattle.core_laws.specs.Claims.{Compacts, AreOutputsOf, IsReadAt, upper_runs, lower_runs}
use Rattle.core_model.specs.Compaction.{with_compacted, with_flushed, without_last}
use Rattle.core_model.specs.Picture.{FileEntries, FamilyView, Job, Core, lowest_level, runs_of, tables_in, level_at, memories, walk, find_mark, is_input, live_numbers}
use Rattle.core_model.specs.RelationParts.{IsView, IsFlush, IsKept, KeepsReads}
use Rattle.core_model.specs.Step.{joined_entries}
use Rattle.core_laws.proofs.Columns.{middle_reads, middle_marks}
use Rattle.core_laws.proofs.Lists.{flat_at, at_flat}
use Rattle.core_laws.proofs.InstalledLevels.{outputs_each, input_each, column_each, installed_each}
use Rattle.core_laws.proofs.Middle.{inputs_are_middle, outputs_are_middle, drops_have_nothing_below, flush_is_middle, level_lt}
use Rattle.core_laws.proofs.FlushedOwn.{each_without_last, flat_more}
use Rattle.st_order.specs.Columns.{column}
use Rattle.job_model.specs.Column.{found_at, compacted}
use Rattle.job_model.specs.Compaction.{IsCompaction}
use Rattle.job_model.specs.Drops.{covers}

-- ---- what holds of each entry

pub compact_each : (P : Entry → Type 0) (lowest_level : ℕ) (family : FamilyView) (job : Job) (outputs : List FileEntries) → Compacts lowest_level family job → AreOutputsOf job outputs → Each (Each P) (walk family) → Each (Each P) (walk (with_compacted job outputs family))
compact_each P lowest_level family job outputs c outs each =
    each_join (Each P) (memories family) (runs_of (tables_in (with_compacted job outputs family).levels)) (each_front (Each P) (memories family) (runs_of (tables_in family.levels)) each)
    (each_map (Each P) (λ (table : FileEntries). table.entries) (tables_in (with_compacted job outputs family).levels)
    (at_flat (λ (table : FileEntries). Each P table.entries) (with_compacted job outputs family).levels
    (λ n. installed_each (λ (table : FileEntries). Each P table.entries) family job outputs n (level_lt lowest_level family job c)
    (each_as (λ (table : FileEntries). Each P table.entries) (λ table. is_input job table ≡ false → Each P table.entries) (λ table holds stays. holds) (level_at family n) (flat_at (λ (table : FileEntries). Each P table.entries) family.levels tables n))
    (λ e. outputs_each P job outputs outs.joined (input_each (Each P) lowest_level family job c.running
    (each_as (λ (table : FileEntries). Each P table.entries) (λ table. is_input job table ≡ true → Each P table.entries) (λ table holds is. holds) (tables_in family.levels) tables))))))
  where
    tables : Each (λ (table : FileEntries). Each P table.entries) (tables_in family.levels)
    tables = map_each (Each P) (λ (table : FileEntries). table.entries) (tables_in family.levels) (each_back (Each P) (memories family) (runs_of (tables_in family.levels)) each)

pub flush_each : (P : Entry → Type 0) (family : FamilyView) (job : Job) (output : FileEntries) → IsView family → IsFlush family job → IsCompaction job.inputs job.live job.drops (joined_entries (output ∷ [])) → Each (Each P) (walk family) → Each (Each P) (walk (with_flushed output family))
flush_each P family job output view flush is each =
    let front : Each (Each P) (memories family) = each_front (Each P) (memories family) (runs_of (tables_in family.levels)) each in
    let back : Each (Each P) (runs_of (tables_in family.levels)) = each_back (Each P) (memories family) (runs_of (tables_in family.levels)) each in
    let new : Each P output.entries = (outputs_each P job (output ∷ []) is (each_back (Each P) (without_last family.sealed) job.inputs (subst (Each (Each P)) flush.oldest front.1))).0 in
    each_join (Each P) (memories (with_flushed output family)) (runs_of (tables_in (with_flushed output family).levels)) (front.0, each_without_last (Each P) family.sealed front.1)
    (subst (λ (tables : List FileEntries). Each (Each P) (runs_of tables)) (sym (flat_more output family.levels (let e : length family.levels ≡ 7 = view.levels in omega arith))) (new, back))

-- ---- reads

-- a number that the job keeps is one at which its inputs are read rightly
kept_at : (core : Core) (family : FamilyView) (job : Job) (key : List ℕ) (number : ℕ) → KeepsReads core family job → IsKept job number → IsReadAt job.live (column key job.inputs) number
kept_at core family job key number keeps (inl there) = inl there
kept_at core family job key number keeps (inr began) =
    inr (column_each (λ entry. entry.number ≤ number) key job.inputs
    (each_as (Each (λ (entry : Entry). entry.number ≤ job.began)) (Each (λ (entry : Entry). entry.number ≤ number))
    (λ entries each. each_as (λ (entry : Entry). entry.number ≤ job.began) (λ (entry : Entry). entry.number ≤ number) (λ entry le. omega arith) entries each) job.inputs keeps.numbers))

pub each_at_number : (P : ℕ → Type 0) (numbers : List ℕ) (number : ℕ) → Each P numbers → Contains numbers number → P number
each_at_number P numbers number each there = go numbers there.0 there.1 there.2 each
  where
    go : (ns : List ℕ) (k : ℕ) → k < length ns → get_or ns k number ≡ number → Each P ns → P number
    go [] k lt e each = absurd (omega arith)
    go (n ∷ ns) zero lt e each = subst P e each.0
    go (n ∷ ns) (suc k) lt e each = go ns k (omega arith) e each.1

-- each number that is read is kept
pub read_kept : (core : Core) (family : FamilyView) (job : Job) → KeepsReads core family job → Each (IsKept job) (core.last ∷ live_numbers core)
read_kept core family job keeps = (inr keeps.began, keeps.live)

pub compact_reads : (core : Core) (family : FamilyView) (job : Job) (outputs : List FileEntries) → Compacts (lowest_level core) family job → AreOutputsOf job outputs → KeepsReads core family job
    → (number : ℕ) (key : List ℕ) → IsKept job number → value_of (find_mark (with_compacted job outputs family) number key) ≡ value_of (find_mark family number key)
compact_reads core family job outputs c outs keeps number key there =
    ap (λ found. value_of (found_at number found)) (outputs_are_middle (lowest_level core) family job outputs key c outs)
    ∙ middle (column key job.inputs) refl
    ∙ sym (ap (λ found. value_of (found_at number found)) (inputs_are_middle (lowest_level core) family job key c))
  where
    upper : List Entry
    upper = column key (upper_runs family job)

    under : List Entry
    under = column key (lower_runs family job)

    -- where the key has no input, nothing is there to drop
    none : (b : Bool) → compacted job.live b [] ≡ []
    none true = refl
    none false = refl

    middle : (entries : List Entry) → column key job.inputs ≡ entries
        → value_of (found_at number (upper ++ (compacted job.live (covers job.drops key) entries ++ under))) ≡ value_of (found_at number (upper ++ (entries ++ under)))
    middle [] e = ap (λ found. value_of (found_at number (upper ++ (found ++ under)))) (none (covers job.drops key))
    middle (entry ∷ entries) e =
        middle_reads upper (entry ∷ entries) under job.live (covers job.drops key) number (subst (λ found. IsReadAt job.live found number) e (kept_at core family job key number keeps there))
        (λ may. drops_have_nothing_below core family job key c keeps may (subst (λ found. 1 ≤ length found) (sym e) (omega arith)))

pub compact_marks : (core : Core) (family : FamilyView) (job : Job) (outputs : List FileEntries) → Compacts (lowest_level core) family job → AreOutputsOf job outputs → KeepsReads core family job → core.behind ≡ true
    → (number : ℕ) (key : List ℕ) → IsKept job number → find_mark (with_compacted job outputs family) number key ≡ find_mark family number key
compact_marks core family job outputs c outs keeps flag number key there =
    ap (found_at number) (outputs_are_middle (lowest_level core) family job outputs key c outs)
    ∙ ap (λ (drops : List KeyRange). found_at number (column key (upper_runs family job) ++ (compacted job.live (covers drops key) (column key job.inputs) ++ column key (lower_runs family job)))) (keeps.flag flag)
    ∙ middle_marks (column key (upper_runs family job)) (column key job.inputs) (column key (lower_runs family job)) job.live number (kept_at core family job key number keeps there)
    ∙ sym (ap (found_at number) (inputs_are_middle (lowest_level core) family job key c))

-- of a flush marks stay, with the flag or without
pub flush_marks : (core : Core) (family : FamilyView) (job : Job) (output : FileEntries) → IsView family → IsFlush family job → IsCompaction job.inputs job.live [] output.entries → KeepsReads core family job
    → (number : ℕ) (key : List ℕ) → IsKept job number → find_mark (with_flushed output family) number key ≡ find_mark family number key
flush_marks core family job output view flush is keeps number key there =
    let m = flush_is_middle family job output key view flush is in
    ap (found_at number) m.1
    ∙ middle_marks (column key (family.mem ∷ without_last family.sealed)) (column key job.inputs) (column key (runs_of (tables_in family.levels))) job.live number (kept_at core family job key number keeps there)
    ∙ sym (ap (found_at number) m.0)

-- the one output of a flush
pub flush_compaction : (family : FamilyView) (job : Job) (output : FileEntries) → IsFlush family job → IsCompaction job.inputs job.live job.drops (joined_entries (output ∷ [])) → IsCompaction job.inputs job.live [] output.entries
flush_compaction family job output flush is =
    subst (IsCompaction job.inputs job.live []) (append-nil output.entries) (subst (λ (drops : List KeyRange). IsCompaction job.inputs job.live drops (output.entries ++ [])) flush.drops is)
