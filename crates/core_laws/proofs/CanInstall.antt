-- Each noted job has outputs that can be installed: its compaction, cut by any target, under fresh file numbers.
use Rattle.std.proofs.Common.{◌≡◌, ℕ, suc, ◌+◌, ◌<◌, ◌≤◌, cond, List, [], ◌∷◌, ◌++◌, length, Option, Some, refl, sym, ap, subst, ◌∙◌, arith, append-nil}
use Rattle.std.specs.Prelude.{Bool, true, false, ◌==◌, IsTrue, IsFalse, IsSomeAnd, find, flat_map}
use Rattle.std.specs.List.{AllByRecursion as Each}
use Rattle.st_base.specs.declared.entry.Entry.{Entry}
use Rattle.st_base.proofs.Same.{same_self}
use Rattle.st_base.specs.Range.{meet, range_of}
use Rattle.base_laws.proofs.Lists.{each_as, each_back, each_front, map_each}
use Rattle.core_model.specs.Picture.{FileEntries, Job, Core, is_flush, all_tables, runs_of}
use Rattle.core_model.specs.RelationParts.{HasOutputs}
use Rattle.core_model.specs.Step.{AreOutputs, AreFresh, joined_entries, turn_files}
use Rattle.core_laws.proofs.TableParts.{Differ}
use Rattle.core_laws.proofs.OutputsExist.{compaction_exists, fall_weakly}
use Rattle.core_laws.proofs.Members.{map_pairs}
use Rattle.core_laws.specs.Laws.{CompactionCanBeInstalled, FlushCanBeInstalled, FlushOutputCanBeInstalled, OutputsCanBeInstalled}
use Rattle.core_laws.proofs.Cuts.{cut_joined, cut_some, cut_apart}
use Rattle.st_order.specs.Columns.{Pairwise, of_key, column}
use Rattle.job_model.specs.Column.{kept}
use Rattle.job_model.specs.Compaction.{IsCompaction, cut_tables}

-- lists of entries as tables of no length, with file numbers from this one on
abbrev pub tables_from : ℕ → List (List Entry) → List FileEntries
tables_from first [] = []
tables_from first (entries ∷ more) = record { file = first; length = 0; entries = entries } ∷ tables_from (suc first) more

joined_from : (first : ℕ) (lists : List (List Entry)) → joined_entries (tables_from first lists) ≡ flat_map (λ one. one) lists
joined_from first [] = refl
joined_from first (entries ∷ more) = ap (λ rest. entries ++ rest) (joined_from (suc first) more)

each_from : (P : List Entry → Type 0) (first : ℕ) (lists : List (List Entry)) → Each P lists → Each (λ table. P table.entries) (tables_from first lists)
each_from P first [] each = tt
each_from P first (entries ∷ more) each = (each.0, each_from P (suc first) more each.1)

pairs_from : (R : List Entry → List Entry → Type 0) (first : ℕ) (lists : List (List Entry)) → Pairwise R lists → Pairwise (λ one other. R one.entries other.entries) (tables_from first lists)
pairs_from R first [] pairs = tt
pairs_from R first (entries ∷ more) pairs = (each_from (R entries) (suc first) more pairs.0, pairs_from R (suc first) more pairs.1)

files_from : (low first : ℕ) (lists : List (List Entry)) → low ≤ first → Each (λ table. low ≤ table.file) (tables_from first lists)
files_from low first [] le = tt
files_from low first (entries ∷ more) le = (le, files_from low (suc first) more (omega arith))

differ_from : (first : ℕ) (lists : List (List Entry)) → Pairwise Differ (tables_from first lists)
differ_from first [] = tt
differ_from first (entries ∷ more) = (
  each_as (λ table. suc first ≤ table.file) (λ table. first ≡ table.file → ⊥) (λ table le e. omega arith) (tables_from (suc first) more) (files_from (suc first) (suc first) more (omega arith)),
  differ_from (suc first) more,
)

-- a number above the file numbers of these tables
above_files : (tables : List FileEntries) → (n : ℕ) × Each (λ table. table.file < n) tables
above_files [] = (0, tt)
above_files (table ∷ tables) =
    let rest = above_files tables in
    (rest.0 + table.file + 1, (omega arith, each_as (λ one. one.file < rest.0) (λ one. one.file < rest.0 + table.file + 1) (λ one lt. omega arith) tables rest.1))

fresh_from : (core : Core) (lists : List (List Entry)) → (first : ℕ) × AreFresh core (tables_from first lists)
fresh_from core lists =
    let bound = above_files (turn_files core ++ all_tables core) in (
      bound.0,
      record {
        differ = differ_from bound.0 lists;
        turn = above bound.0 (turn_files core) (each_front (λ (one : FileEntries). one.file < bound.0) (turn_files core) (all_tables core) bound.1);
        placed = above bound.0 (all_tables core) (each_back (λ (one : FileEntries). one.file < bound.0) (turn_files core) (all_tables core) bound.1);
      },
    )
  where
    above : (first : ℕ) (tables : List FileEntries) → Each (λ one. one.file < first) tables → Each (λ table. Each (Differ table) tables) (tables_from first lists)
    above first tables low = each_as (λ table. first ≤ table.file) (λ table. Each (Differ table) tables)
        (λ table le. each_as (λ one. one.file < first) (Differ table) (λ one lt e. omega arith) tables low) (tables_from first lists) (files_from first first lists (omega arith))

runs_from : (first : ℕ) (lists : List (List Entry)) → runs_of (tables_from first lists) ≡ lists
runs_from first [] = refl
runs_from first (entries ∷ more) = ap (λ rest. entries ∷ rest) (runs_from (suc first) more)

joined_runs : (tables : List FileEntries) → joined_entries tables ≡ flat_map (λ one. one) (runs_of tables)
joined_runs [] = refl
joined_runs (table ∷ tables) = ap (λ rest. table.entries ++ rest) (joined_runs tables)

-- a job's compaction, cut at any target, under fresh file numbers
outputs_are : (core : Core) (job : Job) (target : ℕ) (entries : List Entry) (outputs : List FileEntries) → IsCompaction job.inputs job.live job.drops entries → runs_of outputs ≡ cut_tables target entries → AreFresh core outputs → AreOutputs core job outputs
outputs_are core job target entries outputs is cut fresh = record {
  joined = subst (IsCompaction job.inputs job.live job.drops) (sym (joined_runs outputs ∙ ap (flat_map (λ one. one)) cut ∙ cut_joined target entries)) is;
  some = map_each (λ run. 1 ≤ length run) (λ (table : FileEntries). table.entries) outputs (subst (Each (λ run. 1 ≤ length run)) (sym cut) (cut_some target entries));
  apart = map_pairs (λ one other. IsFalse (meet (range_of one) (range_of other))) (λ (table : FileEntries). table.entries) outputs
      (subst (Pairwise (λ one other. IsFalse (meet (range_of one) (range_of other)))) (sym cut) (cut_apart target entries is.ordered));
  fresh = fresh;
}

-- what a noted job keeps
noted_outputs : (number : ℕ) (job : Job) (jobs : List Job) → Each HasOutputs jobs → find (λ (one : Job). one.number == number) jobs ≡ Some job → HasOutputs job
noted_outputs number job [] each is = absurd cc
noted_outputs number job (one ∷ jobs) each is = go (one.number == number) is (noted_outputs number job jobs each.1)
  where
    go : (b : Bool) → cond b (Some one) (find (λ (one : Job). one.number == number) jobs) ≡ Some job → (find (λ (one : Job). one.number == number) jobs ≡ Some job → HasOutputs job) → HasOutputs job
    go true e rest = let w : one ≡ job = cc in subst HasOutputs w each.0
    go false e rest = rest e

-- such outputs of a noted compaction can be installed
pub outputs_can_be_installed : OutputsCanBeInstalled
outputs_can_be_installed core number job target entries outputs is compaction compacted_is cut fresh =
    subst (λ (o : Option Job). IsSomeAnd o (λ one. IsFalse (is_flush one) × AreOutputs core one outputs)) (sym is) (compaction, outputs_are core job target entries outputs compacted_is cut fresh)

-- and each noted compaction has such
pub compaction_can_be_installed : CompactionCanBeInstalled
compaction_can_be_installed core state number job target stands is compaction =
    let found = compaction_exists job.inputs job.live job.drops (fall_weakly job.inputs (noted_outputs number job core.jobs stands.noted.outputs is).columns) in
    let fresh = fresh_from core (cut_tables target found.0) in
    let outputs = tables_from fresh.0 (cut_tables target found.0) in
    (found.0, found.1, outputs, runs_from fresh.0 (cut_tables target found.0), outputs_can_be_installed core number job target found.0 outputs is compaction found.1 (runs_from fresh.0 (cut_tables target found.0)) fresh.1)

-- a flush has one output, which isn't empty
not_empty : (inputs : List (List Entry)) (live : List ℕ) (entries : List Entry) → IsCompaction inputs live [] entries → (key : List ℕ) → 1 ≤ length (column key inputs) → 1 ≤ length entries
not_empty inputs live [] is key some = absurd (no (column key inputs) some (is.columns key))
  where
    no : (found : List Entry) → 1 ≤ length found → [] ≡ kept live found → ⊥
    no [] none e = omega arith
    no (entry ∷ found) here e = cc
not_empty inputs live (entry ∷ entries) is key some = omega arith

one_input : (inputs : List (List Entry)) → length inputs ≡ 1 → Each (λ entries. 1 ≤ length entries) inputs → (entry : Entry) × (entries : List Entry) × (inputs ≡ (entry ∷ entries) ∷ [])
one_input [] one each = absurd (omega arith)
one_input ([] ∷ inputs) one each = absurd (omega (arith, each.0))
one_input ((entry ∷ entries) ∷ []) one each = (entry, entries, refl)
one_input ((entry ∷ entries) ∷ other ∷ inputs) one each = absurd (omega arith)

has_one : (entry : Entry) (entries : List Entry) → 1 ≤ length (column entry.key ((entry ∷ entries) ∷ []))
has_one entry entries = subst (λ b. 1 ≤ length (cond b (entry ∷ of_key entry.key entries) (of_key entry.key entries) ++ [])) (sym (same_self entry.key)) (omega arith)

-- the output of a noted flush can be installed
pub flush_output_can_be_installed : FlushOutputCanBeInstalled
flush_output_can_be_installed core state number job entries file size stands is flush compacted_is fresh =
    let facts = (noted_outputs number job core.jobs stands.noted.outputs is).flush flush in
    let one = one_input job.inputs facts.0 facts.1 in
    subst (λ (o : Option Job). IsSomeAnd o (λ one. IsTrue (is_flush one) × AreOutputs core one (record { file = file; length = size; entries = entries } ∷ []))) (sym is) (
      flush,
      record {
        joined = subst (IsCompaction job.inputs job.live job.drops) (sym (append-nil entries)) compacted_is;
        some = (not_empty job.inputs job.live entries (subst (λ ranges. IsCompaction job.inputs job.live ranges entries) facts.2 compacted_is) one.0.key (subst (λ runs. 1 ≤ length (column one.0.key runs)) (sym one.2) (has_one one.0 one.1)), tt);
        apart = (tt, tt);
        fresh = fresh;
      },
    )

-- and each noted flush has one
pub flush_can_be_installed : FlushCanBeInstalled
flush_can_be_installed core state number job stands is flush =
    let found = compaction_exists job.inputs job.live job.drops (fall_weakly job.inputs (noted_outputs number job core.jobs stands.noted.outputs is).columns) in
    let fresh = fresh_from core (found.0 ∷ []) in
    (record { file = fresh.0; length = 0; entries = found.0 }, found.1, flush_output_can_be_installed core state number job found.0 fresh.0 0 stands is flush found.1 fresh.1)
