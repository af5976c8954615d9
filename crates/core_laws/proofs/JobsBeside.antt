-- An installed compaction or flush leaves each other job running, and keeping reads.
use Rattle.std.proofs.Common.{◌≡◌, ℕ, ◌+◌, ◌<◌, ◌≤◌, true, false, not, List, [], map, length, take, sym, subst, ◌∙◌, inl, inr, arith}
use Rattle.std.specs.List.{AllByRecursion as Each}
use Rattle.std.proofs.lemmas.Bool.{cases_Bool, cases_eq, cases_lt}
use Rattle.st_base.specs.declared.entry.Entry.{Entry}
use Rattle.st_base.specs.declared.entry.KeyRange.{KeyRange}
use Rattle.st_base.specs.Range.{is_in_range, meet, has_key}
use Rattle.base_laws.proofs.Lists.{each_all, each_as, each_both}
use Rattle.base_laws.proofs.Ranges.{meet_swaps, range_has_keys}
use Rattle.core_laws.specs.Claims.{Compacts, AreOutputsOf, InstalledLeavesRunning}
use Rattle.core_model.specs.Compaction.{staying, with_compacted}
use Rattle.core_model.specs.Picture.{FileEntries, FamilyView, Job, tables_in, level_at, table_range, is_input}
use Rattle.core_model.specs.RelationParts.{IsCompacting, IsInputLevel, JobsApart, ShareNoKey, HasEntry, IsSortedRun}
use Rattle.core_laws.proofs.Lists.{pairs_filter, pairs_within, pairs_between, pairs_flat, at, at_take, at_taken, flat_at}
use Rattle.core_laws.proofs.JointRange.{Has, apart_at, meet_less, front_holds, end_holds}
use Rattle.core_laws.proofs.InstalledLevels.{outputs_each, tables_rows, inputs_has, has_within, disjoint, put_all_pairs, installed_at, installed_each, installed_inputs}
use Rattle.core_laws.proofs.Middle.{level_lt}
use Rattle.st_order.specs.Columns.{Pairwise}

-- a table's entries lie in its range
pub table_has : (table : FileEntries) → IsSortedRun table.entries → Has (table_range table) table.entries
table_has table rows = range_has_keys table.entries rows.ordered

-- outputs lie in the job's range
pub outputs_has : (lowest : ℕ) (family : FamilyView) (job : Job) (outputs : List FileEntries) → Compacts lowest family job → AreOutputsOf job outputs → Each (λ (table : FileEntries). Has job.range table.entries) outputs
outputs_has lowest family job outputs c outs = outputs_each (λ e. is_in_range job.range e.key ≡ true) job outputs outs.joined (inputs_has lowest family job c)

-- what doesn't meet the job's range, no output meets
pub outputs_clear : (lowest : ℕ) (family : FamilyView) (job : Job) (outputs : List FileEntries) (range : KeyRange) → Compacts lowest family job → AreOutputsOf job outputs → meet job.range range ≡ false
    → Each (λ (table : FileEntries). meet (table_range table) range ≡ false) outputs
outputs_clear lowest family job outputs range c outs apart =
    each_both (λ table. Has job.range table.entries) HasEntry (λ table. meet (table_range table) range ≡ false)
    (λ table has some. meet_less job.range (table_range table) range
    (front_holds (λ key. is_in_range job.range key ≡ true) table.entries some has) (end_holds (λ key. is_in_range job.range key ≡ true) table.entries some has) apart)
    outputs (outputs_has lowest family job outputs c outs) outs.some

-- tables whose entries lie in ranges that don't meet share no key
share_none : (one other : KeyRange) (here there : List Entry) → meet one other ≡ false → Has one here → Has other there → ShareNoKey there here
share_none one other here there apart has_here has_there key is_there = elim (cases_Bool (has_key here key)) [
  | inl is_here ↦ absurd (apart_at one other key apart (has_within one here key has_here is_here) (has_within other there key has_there is_there))
  | inr none ↦ none
]

module _ (lowest : ℕ) (family : FamilyView) (job other : Job) (outputs : List FileEntries) (c : Compacts lowest family job) (d : Compacts lowest family other) (one : JobsApart lowest job other) (two : JobsApart lowest other job)
    (outs : AreOutputsOf job outputs) (fresh : Each (λ table. is_input other table ≡ false) outputs) where
  abbrev after : FamilyView
  after = with_compacted job outputs family

  abbrev Before : FileEntries → FileEntries → Type 0
  Before x y = is_input other x ≡ true → is_input other y ≡ false → ShareNoKey x.entries y.entries

  lt : job.level < length family.levels
  lt = level_lt lowest family job c

  -- outputs stand before all inputs of the other job, or share no key with them
  sources_apart : (n : ℕ) → n ≤ job.level → job.level < other.level → Each (λ x. Each (Before x) outputs) (level_at family n)
  sources_apart n le above = elim (cases_lt n job.level) [
    | inl less ↦ each_as (λ x. is_input other x ≡ true → IsInputLevel lowest other.level n) (λ x. Each (Before x) outputs)
        (λ x near. each_all (Before x) (λ y is not_so. absurd (far n (near is) less)) outputs) (level_at family n) (d.running.levels n)
    | inr more ↦ let e : job.level ≡ n = omega arith in
        subst (λ (k : ℕ). Each (λ x. Each (Before x) outputs) (level_at family k)) e
        (each_both (λ x. is_input job x ≡ false → meet job.range (table_range x) ≡ false) (λ x. IsSortedRun x.entries) (λ x. Each (Before x) outputs)
        (λ x clear rows. each_as (λ y. Has job.range y.entries) (Before x)
        (λ y has is not_so. share_none job.range (table_range x) y.entries x.entries (clear (disjoint lowest other job x two is)) has (table_has x rows))
        outputs (outputs_has lowest family job outputs c outs))
        (level_at family job.level) c.running.clear (flat_at (λ x. IsSortedRun x.entries) family.levels (tables_rows family c.view) job.level))
  ]
    where
      far : (n : ℕ) → IsInputLevel lowest other.level n → n < job.level → ⊥
      far n near less = elim near.near [
        | inl bottom ↦ let p = two.lone (omega arith) c.positive in let q : other.level < lowest = p.0 in let b : other.level ≡ lowest = bottom in absurd (omega arith)
        | inr close ↦ let b : other.level ≤ n + 1 = close in absurd (omega arith)
      ]

  before_within : (n : ℕ) → n < other.level → Pairwise Before (level_at after n)
  before_within n less =
      installed_at (Pairwise Before) family job outputs n lt
      (λ e. put_all_pairs Before outputs (staying job.files (level_at family job.level))
      (each_as (λ y. is_input other y ≡ false) (λ y. (z : FileEntries) → Before y z) (λ y fails z is. absurd (let w : true ≡ false = sym is ∙ fails in cc)) outputs fresh)
      (each_filter_here job.level (sources_apart job.level (omega arith) (omega arith)))
      (old job.level (omega arith)))
      (λ differ. old n less)
    where
      old : (n : ℕ) → n < other.level → Pairwise Before (staying job.files (level_at family n))
      old n less = pairs_filter Before (λ table. not (is_input job table)) (level_at family n)
          (at_taken (Pairwise Before) family.levels other.level n less (pairs_within Before (take other.level family.levels) d.running.below n))

      each_filter_here : (n : ℕ) → Each (λ x. Each (Before x) outputs) (level_at family n) → Each (λ x. Each (Before x) outputs) (staying job.files (level_at family n))
      each_filter_here n each = Rattle.base_laws.proofs.Lists.each_filter (λ x. Each (Before x) outputs) (λ table. not (is_input job table)) (level_at family n) each

  before_between : (n m : ℕ) → n < m → m < other.level → Each (λ x. Each (Before x) (level_at after m)) (level_at after n)
  before_between n m less more =
      installed_each (λ x. Each (Before x) (level_at after m)) family job outputs n lt
      (elim (cases_eq m job.level) [
        | inl e ↦ each_both (λ x. Each (Before x) (level_at family m)) (λ x. Each (Before x) outputs) (λ x. is_input job x ≡ false → Each (Before x) (level_at after m))
            (λ x olds news stays. installed_each (Before x) family job outputs m lt (each_as (Before x) (λ y. is_input job y ≡ false → Before x y) (λ y holds here. holds) (level_at family m) olds) (λ here. news))
            (level_at family n) old (sources_apart n (omega arith) (omega arith))
        | inr differ ↦ each_as (λ x. Each (Before x) (level_at family m)) (λ x. is_input job x ≡ false → Each (Before x) (level_at after m))
            (λ x olds stays. installed_each (Before x) family job outputs m lt (each_as (Before x) (λ y. is_input job y ≡ false → Before x y) (λ y holds here. holds) (level_at family m) olds) (λ here. absurd (differ here)))
            (level_at family n) old
      ])
      (λ e. each_as (λ y. is_input other y ≡ false) (λ y. Each (Before y) (level_at after m))
      (λ y fails. each_all (Before y) (λ z is. absurd (let w : true ≡ false = sym is ∙ fails in cc)) (level_at after m)) outputs fresh)
    where
      old : Each (λ x. Each (Before x) (level_at family m)) (level_at family n)
      old =
          at_taken (λ ys. Each (λ x. Each (Before x) ys) (level_at family n)) family.levels other.level m more
          (at_taken (λ xs. Each (λ x. Each (Before x) (at (take other.level family.levels) m)) xs) family.levels other.level n (omega arith)
          (pairs_between Before (take other.level family.levels) d.running.below n m less))

  below_after : Pairwise Before (tables_in (take other.level after.levels))
  below_after =
      pairs_flat Before (take other.level after.levels)
      (λ n. at_take (Pairwise Before) after.levels other.level n tt (λ less. before_within n less))
      (λ n m less. at_take (λ xs. Each (λ x. Each (Before x) (at (take other.level after.levels) m)) xs) after.levels other.level n tt
      (λ low. at_take (λ ys. Each (λ x. Each (Before x) ys) (level_at after n)) after.levels other.level m (each_all (λ x. Each (Before x) []) (λ x. tt) (level_at after n))
      (λ high. before_between n m less high)))

  clear_after : Each (λ table. is_input other table ≡ false → meet other.range (table_range table) ≡ false) (level_at after other.level)
  clear_after =
      installed_each (λ table. is_input other table ≡ false → meet other.range (table_range table) ≡ false) family job outputs other.level lt
      (each_as (λ table. is_input other table ≡ false → meet other.range (table_range table) ≡ false) (λ table. is_input job table ≡ false → is_input other table ≡ false → meet other.range (table_range table) ≡ false) (λ table holds here. holds) (level_at family other.level) d.running.clear)
      (λ e. each_as (λ table. meet (table_range table) other.range ≡ false) (λ table. is_input other table ≡ false → meet other.range (table_range table) ≡ false)
      (λ table holds here. meet_swaps other.range (table_range table) ∙ holds) outputs
      (outputs_clear lowest family job outputs other.range c outs (one.outputs c.positive (sym e))))

  runs_after : IsCompacting lowest after other
  runs_after = record {
    level = d.running.level;
    some = d.running.some;
    files = subst (λ (tables : List FileEntries). map (λ table. table.file) tables ≡ other.files) (sym (installed_inputs lowest family job other outputs lt one fresh)) d.running.files;
    inputs = subst (λ (tables : List FileEntries). map (λ table. table.entries) tables ≡ other.inputs) (sym (installed_inputs lowest family job other outputs lt one fresh)) d.running.inputs;
    levels = λ n. installed_each (λ table. is_input other table ≡ true → IsInputLevel lowest other.level n) family job outputs n lt
        (each_as (λ table. is_input other table ≡ true → IsInputLevel lowest other.level n) (λ table. is_input job table ≡ false → is_input other table ≡ true → IsInputLevel lowest other.level n) (λ table holds here. holds) (level_at family n) (d.running.levels n))
        (λ e. each_as (λ table. is_input other table ≡ false) (λ table. is_input other table ≡ true → IsInputLevel lowest other.level n) (λ table fails is. absurd (let w : true ≡ false = sym is ∙ fails in cc)) outputs fresh);
    clear = clear_after;
    below = below_after;
  }

pub installed_leaves_running : InstalledLeavesRunning
installed_leaves_running lowest family job other outputs c d one two outs fresh = runs_after lowest family job other outputs c d one two outs fresh
