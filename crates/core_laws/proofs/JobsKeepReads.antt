-- An installed compaction leaves each other job keeping reads, and the levels apart; a flush leaves a compaction running.
use Rattle.std.proofs.Common.{◌≡◌, ℕ, ◌+◌, ◌<◌, ◌≤◌, Bool, true, false, cond, not, ◌&&◌, List, [], ◌∷◌, map, length, take, drop, refl, sym, ap, subst, ◌∙◌, inl, inr, arith}
use Rattle.std.specs.List.{filter, AllByRecursion as Each}
use Rattle.std.proofs.Math.ListN.{length-set}
use Rattle.std.proofs.lemmas.Bool.{cases_Bool, cases_eq, cases_lt, and_parts, and_from, and_cases}
use Rattle.st_base.specs.Bytes.{below, at_most}
use Rattle.st_base.specs.Order.{in_order}
use Rattle.st_base.specs.declared.entry.Entry.{Entry}
use Rattle.st_base.specs.declared.entry.KeyRange.{KeyRange}
use Rattle.st_base.specs.Range.{is_in_range, meet}
use Rattle.base_laws.proofs.Keys.{at_most_trans, below_at_most, below_at_most_below, not_at_most, not_below}
use Rattle.base_laws.proofs.Lists.{each_all, each_as, each_both, each_filter, each_map, map_each}
use Rattle.base_laws.proofs.Ranges.{meet_swaps}
use Rattle.core_laws.specs.Claims.{Compacts, AreOutputsOf, InstalledLeavesReads, InstalledLevelsApart, FlushLeavesRunning}
use Rattle.core_model.specs.Compaction.{staying, put_all, with_compacted, with_flushed}
use Rattle.core_model.specs.Picture.{FileEntries, FamilyView, Job, Core, lowest_level, runs_of, tables_in, level_at, table_range, is_input, put_by_key}
use Rattle.core_model.specs.RelationParts.{IsLevel, LevelsApart, IsCompacting, IsInputLevel, JobsApart, ShareNoKey, HasEntry, input_tables, IsSortedRun}
use Rattle.core_laws.proofs.Lists.{pairs_filter, pairs_within, pairs_between, pairs_flat, at, at_set, at_take, at_taken, at_drop, at_dropped, each_at, at_each, flat_at, at_flat, filter_flat}
use Rattle.core_laws.proofs.JointRange.{apart_at, front_le_end}
use Rattle.core_laws.proofs.InstalledLevels.{outputs_each, tables_rows, input_each, disjoint, installed_at, installed_each, put_each}
use Rattle.core_laws.proofs.JobsBeside.{table_has, outputs_clear}
use Rattle.core_laws.proofs.Middle.{level_lt, parts_in_order}
use Rattle.st_order.specs.Columns.{Pairwise}

-- ---- keeping reads

pub within_more : (big small : KeyRange) (key : List ℕ) → (is_in_range big small.first && is_in_range big small.last) ≡ true → is_in_range small key ≡ true → is_in_range big key ≡ true
within_more big small key ends here =
    let both = and_parts (is_in_range big small.first) (is_in_range big small.last) ends in
    let p = and_parts (at_most big.first small.first) (at_most small.first big.last) both.0 in
    let q = and_parts (at_most big.first small.last) (at_most small.last big.last) both.1 in
    let h = and_parts (at_most small.first key) (at_most key small.last) here in
    and_from (at_most big.first key) (at_most key big.last) (at_most_trans big.first small.first key p.0 h.0) (at_most_trans key small.last big.last h.1 q.1)

module _ (core : Core) (family : FamilyView) (job other : Job) (outputs : List FileEntries) (c : Compacts (lowest_level core) family job) (d : Compacts (lowest_level core) family other)
    (one : JobsApart (lowest_level core) job other) (two : JobsApart (lowest_level core) other job) (outs : AreOutputsOf job outputs) where
  abbrev Free : KeyRange → List Entry → Type 0
  Free range entries = Each (λ (e : Entry). is_in_range range e.key ≡ false) entries

  abbrev Nothing : KeyRange → FamilyView → Type 0
  Nothing range view = Each (Free range) (runs_of (tables_in (drop (other.level + 1) view.levels)))

  lower_free : (range : KeyRange) → Nothing range family → (n : ℕ) → other.level + 1 ≤ n → Each (λ (table : FileEntries). Free range table.entries) (level_at family n)
  lower_free range nothing n le =
      at_dropped (Each (λ (table : FileEntries). Free range table.entries)) family.levels (other.level + 1) n le
      (flat_at (λ (table : FileEntries). Free range table.entries) (drop (other.level + 1) family.levels) (map_each (Free range) (λ (table : FileEntries). table.entries) (tables_in (drop (other.level + 1) family.levels)) nothing))

  -- an input of the job that stands at the other's output level or below has no key in the range
  inputs_free : (range : KeyRange) → (is_in_range other.range range.first && is_in_range other.range range.last) ≡ true → Nothing range family → other.level + 1 ≤ job.level
      → (n : ℕ) → Each (λ (table : FileEntries). is_input job table ≡ true → Free range table.entries) (level_at family n)
  inputs_free range within nothing above n = elim (cases_lt n other.level) [
    | inl low ↦ each_as (λ table. is_input job table ≡ true → IsInputLevel (lowest_level core) job.level n) (λ table. is_input job table ≡ true → Free range table.entries)
        (λ table near is. absurd (far n (near is) low)) (level_at family n) (c.running.levels n)
    | inr high ↦ elim (cases_eq n other.level) [
      | inl e ↦ subst (λ (k : ℕ). Each (λ (table : FileEntries). is_input job table ≡ true → Free range table.entries) (level_at family k)) (sym e) here
      | inr differ ↦ each_as (λ table. Free range table.entries) (λ table. is_input job table ≡ true → Free range table.entries) (λ table free is. free) (level_at family n) (lower_free range nothing n (omega arith))
    ]
  ]
    where
      far : (n : ℕ) → IsInputLevel (lowest_level core) job.level n → n < other.level → ⊥
      far n near less = elim near.near [
        | inl bottom ↦ let p = one.lone c.positive d.positive in let q : job.level < lowest_level core = p.0 in let b : job.level ≡ lowest_level core = bottom in absurd (omega arith)
        | inr close ↦ let b : job.level ≤ n + 1 = close in absurd (omega arith)
      ]

      here : Each (λ (table : FileEntries). is_input job table ≡ true → Free range table.entries) (level_at family other.level)
      here =
          each_both (λ table. is_input other table ≡ false → meet other.range (table_range table) ≡ false) (λ table. IsSortedRun table.entries) (λ table. is_input job table ≡ true → Free range table.entries)
          (λ table clear rows is. each_as (λ e. is_in_range (table_range table) e.key ≡ true) (λ e. is_in_range range e.key ≡ false)
          (λ e has. elim (cases_Bool (is_in_range range e.key)) [
            | inl lies ↦ absurd (apart_at other.range (table_range table) e.key (clear (disjoint (lowest_level core) job other table one is)) (within_more other.range range e.key within lies) has)
            | inr free ↦ free
          ]) table.entries (table_has table rows))
          (level_at family other.level) d.running.clear (flat_at (λ table. IsSortedRun table.entries) family.levels (tables_rows family d.view) other.level)

  still_nothing : (range : KeyRange) → (is_in_range other.range range.first && is_in_range other.range range.last) ≡ true → Nothing range family → Nothing range (with_compacted job outputs family)
  still_nothing range within nothing =
      each_map (Free range) (λ (table : FileEntries). table.entries) (tables_in (drop (other.level + 1) (with_compacted job outputs family).levels))
      (at_flat (λ (table : FileEntries). Free range table.entries) (drop (other.level + 1) (with_compacted job outputs family).levels)
      (λ n. at_drop (Each (λ (table : FileEntries). Free range table.entries)) (with_compacted job outputs family).levels (other.level + 1) n tt
      (λ m le. installed_each (λ (table : FileEntries). Free range table.entries) family job outputs m (level_lt (lowest_level core) family job c)
      (each_as (λ table. Free range table.entries) (λ table. is_input job table ≡ false → Free range table.entries) (λ table free stays. free) (level_at family m) (lower_free range nothing m le))
      (λ e. outputs_each (λ entry. is_in_range range entry.key ≡ false) job outputs outs.joined
      (input_each (Free range) (lowest_level core) family job c.running
      (at_flat (λ (table : FileEntries). is_input job table ≡ true → Free range table.entries) family.levels (inputs_free range within nothing (omega arith))))))))

pub installed_leaves_reads : InstalledLeavesReads
installed_leaves_reads core family job other outputs c d one two outs keeps = record {
  live = keeps.live;
  began = keeps.began;
  numbers = keeps.numbers;
  within = keeps.within;
  nothing = each_both (λ range. (is_in_range other.range range.first && is_in_range other.range range.last) ≡ true)
      (λ range. Each (Each (λ entry. is_in_range range entry.key ≡ false)) (runs_of (tables_in (drop (other.level + 1) family.levels))))
      (λ range. Each (Each (λ entry. is_in_range range entry.key ≡ false)) (runs_of (tables_in (drop (other.level + 1) (with_compacted job outputs family).levels))))
      (λ range within nothing. still_nothing core family job other outputs c d one two outs range within nothing) other.drops keeps.within keeps.nothing;
  flag = keeps.flag;
}

-- ---- levels

abbrev Proper : FileEntries → Type 0
Proper table = at_most (table_range table).first (table_range table).last ≡ true

abbrev Above : FileEntries → FileEntries → Type 0
Above one other = below (table_range one).last (table_range other).first ≡ true

abbrev Misses : FileEntries → FileEntries → Type 0
Misses one other = meet (table_range one) (table_range other) ≡ false

put_level : (table : FileEntries) (tables : List FileEntries) → Proper table → Each Proper tables → Each (Misses table) tables → Pairwise Above tables → Pairwise Above (put_by_key table tables)
put_level table [] proper propers miss pairs = (tt, tt)
put_level table (other ∷ others) proper propers miss pairs = put (below a.first b.first) refl (put_level table others proper propers.1 miss.1 pairs.1)
  where
    a : KeyRange
    a = table_range table

    b : KeyRange
    b = table_range other

    before : below a.first b.first ≡ true → Above table other
    before e = elim (and_cases (at_most a.first b.last) (at_most b.first a.last) miss.0) [
      | inl no_so ↦ absurd (let w : true ≡ false = sym (at_most_trans a.first b.first b.last (below_at_most a.first b.first e) propers.0) ∙ no_so in cc)
      | inr no_so ↦ not_at_most b.first a.last no_so
    ]

    after : below a.first b.first ≡ false → Above other table
    after e = elim (and_cases (at_most a.first b.last) (at_most b.first a.last) miss.0) [
      | inl no_so ↦ not_at_most a.first b.last no_so
      | inr no_so ↦ absurd (let w : true ≡ false = sym (at_most_trans b.first a.first a.last (not_below a.first b.first e) proper) ∙ no_so in cc)
    ]

    put : (t : Bool) → below a.first b.first ≡ t → Pairwise Above (put_by_key table others) → Pairwise Above (cond t (table ∷ other ∷ others) (other ∷ put_by_key table others))
    put true e rest =
        ((before e, each_as (Above other) (Above table) (λ one up. below_at_most_below a.last b.first (table_range one).first (before e) (at_most_trans b.first b.last (table_range one).first propers.0 (below_at_most b.last (table_range one).first up))) others pairs.0), pairs)
    put false e rest = (put_each (Above other) table others (after e) pairs.0, rest)

put_all_level : (outputs tables : List FileEntries) → Each Proper outputs → Each Proper tables → Pairwise Misses outputs → Each (λ output. Each (Misses output) tables) outputs → Pairwise Above tables → Pairwise Above (put_all outputs tables)
put_all_level [] tables propers old apart miss pairs = pairs
put_all_level (output ∷ outputs) tables propers old apart miss pairs =
    put_all_level outputs (put_by_key output tables) propers.1 (put_each Proper output tables propers.0 old) apart.1
    (each_both (Misses output) (λ one. Each (Misses one) tables) (λ one. Each (Misses one) (put_by_key output tables))
    (λ one apart misses. put_each (Misses one) output tables (meet_swaps (table_range one) (table_range output) ∙ apart) misses) outputs apart.0 miss.1)
    (put_level output tables propers.0 old miss.0 pairs)

propers : (tables : List FileEntries) → Each HasEntry tables → Each (λ (table : FileEntries). in_order table.entries ≡ true) tables → Each Proper tables
propers tables some ordered = each_both HasEntry (λ table. in_order table.entries ≡ true) Proper (λ table one other. front_le_end table.entries one other) tables some ordered

pub level_old : (family : FamilyView) → LevelsApart family → (n : ℕ) → 1 ≤ n → IsLevel (level_at family n)
level_old family apart n le = at_dropped IsLevel family.levels 1 n le (λ m. each_at IsLevel (drop 1 family.levels) m tt apart)

pub installed_levels_apart : InstalledLevelsApart
installed_levels_apart lowest_level family job outputs c outs =
    at_each IsLevel (drop 1 (with_compacted job outputs family).levels) (λ n. at_drop IsLevel (with_compacted job outputs family).levels 1 n tt
    (λ m le. installed_at IsLevel family job outputs m (level_lt lowest_level family job c) (λ e. here) (λ differ. stays m le)))
  where
    stays : (m : ℕ) → 1 ≤ m → IsLevel (staying job.files (level_at family m))
    stays m le = pairs_filter Above (λ table. not (is_input job table)) (level_at family m) (level_old family c.apart m le)

    left : List FileEntries
    left = staying job.files (level_at family job.level)

    old_propers : Each Proper left
    old_propers = each_filter Proper (λ table. not (is_input job table)) (level_at family job.level)
        (propers (level_at family job.level) (flat_at HasEntry family.levels c.view.filled job.level)
        (each_as (λ (table : FileEntries). IsSortedRun table.entries) (λ table. in_order table.entries ≡ true) (λ table rows. rows.ordered) (level_at family job.level) (flat_at (λ (table : FileEntries). IsSortedRun table.entries) family.levels (tables_rows family c.view) job.level)))

    clear : Each (λ (table : FileEntries). meet job.range (table_range table) ≡ false) left
    clear = Rattle.core_laws.proofs.InstalledLevels.staying_each (λ table. meet job.range (table_range table) ≡ false) job (level_at family job.level) c.running.clear

    misses : (tables : List FileEntries) → Each (λ (table : FileEntries). meet job.range (table_range table) ≡ false) tables → Each (λ output. Each (Misses output) tables) outputs
    misses [] each = each_all (λ output. Each (Misses output) []) (λ output. tt) outputs
    misses (table ∷ tables) each = each_both (λ output. Misses output table) (λ output. Each (Misses output) tables) (λ output. Each (Misses output) (table ∷ tables)) (λ output one more. (one, more)) outputs
        (outputs_clear lowest_level family job outputs (table_range table) c outs each.0) (misses tables each.1)

    here : IsLevel (put_all outputs left)
    here = put_all_level outputs left (propers outputs outs.some (parts_in_order outputs outs.joined.ordered)) old_propers outs.apart (misses left clear) (stays job.level c.positive)

-- ---- a flush

module _ (lowest_level : ℕ) (family : FamilyView) (job : Job) (output : FileEntries) (c : Compacts lowest_level family job) (fresh : is_input job output ≡ false) where
  abbrev flushed : FamilyView
  flushed = with_flushed output family

  abbrev Before : FileEntries → FileEntries → Type 0
  Before x y = is_input job x ≡ true → is_input job y ≡ false → ShareNoKey x.entries y.entries

  flushed_at : (P : List FileEntries → Type 0) (n : ℕ) → (n ≡ 0 → P (output ∷ level_at family 0)) → ((n ≡ 0 → ⊥) → P (level_at family n)) → P (level_at flushed n)
  flushed_at P n here there = at_set P family.levels 0 n (output ∷ level_at family 0) (let e : length family.levels ≡ 7 = c.view.levels in omega arith) here there

  flushed_each : (P : FileEntries → Type 0) (n : ℕ) → P output → Each P (level_at family n) → Each P (level_at flushed n)
  flushed_each P n new old = flushed_at (Each P) n (λ e. (new, subst (λ (k : ℕ). Each P (level_at family k)) e old)) (λ differ. old)

  flushed_inputs : input_tables flushed job ≡ input_tables family job
  flushed_inputs = filter_flat (is_input job) flushed.levels family.levels (length-set family.levels 0 (output ∷ level_at family 0))
      (λ n. flushed_at (λ tables. filter (is_input job) tables ≡ filter (is_input job) (level_at family n)) n
      (λ e. ap (λ (b : Bool). cond b (output ∷ filter (is_input job) (level_at family 0)) (filter (is_input job) (level_at family 0))) fresh ∙ ap (λ (k : ℕ). filter (is_input job) (level_at family k)) (sym e))
      (λ differ. refl))

  free : (table : FileEntries) → Before output table
  free table is = absurd (let w : true ≡ false = sym is ∙ fresh in cc)

  old_within : (n : ℕ) → n < job.level → Pairwise Before (level_at family n)
  old_within n less = at_taken (Pairwise Before) family.levels job.level n less (pairs_within Before (take job.level family.levels) c.running.below n)

  old_between : (n m : ℕ) → n < m → m < job.level → Each (λ x. Each (Before x) (level_at family m)) (level_at family n)
  old_between n m less more =
      at_taken (λ ys. Each (λ x. Each (Before x) ys) (level_at family n)) family.levels job.level m more
      (at_taken (λ xs. Each (λ x. Each (Before x) (at (take job.level family.levels) m)) xs) family.levels job.level n (omega arith)
      (pairs_between Before (take job.level family.levels) c.running.below n m less))

  flushed_below : Pairwise Before (tables_in (take job.level flushed.levels))
  flushed_below =
      pairs_flat Before (take job.level flushed.levels)
      (λ n. at_take (Pairwise Before) flushed.levels job.level n tt
      (λ less. flushed_at (Pairwise Before) n (λ e. (each_all (Before output) free (level_at family 0), old_within 0 (omega arith))) (λ differ. old_within n less)))
      (λ n m less. at_take (λ xs. Each (λ x. Each (Before x) (at (take job.level flushed.levels) m)) xs) flushed.levels job.level n tt
      (λ low. at_take (λ ys. Each (λ x. Each (Before x) ys) (level_at flushed n)) flushed.levels job.level m (each_all (λ x. Each (Before x) []) (λ x. tt) (level_at flushed n))
      (λ high. flushed_each (λ x. Each (Before x) (level_at flushed m)) n (each_all (Before output) free (level_at flushed m))
      (flushed_at (λ ys. Each (λ x. Each (Before x) ys) (level_at family n)) m (λ e. absurd (omega arith)) (λ differ. old_between n m less high)))))

  flushed_runs : IsCompacting lowest_level flushed job
  flushed_runs = record {
    level = c.running.level;
    some = c.running.some;
    files = subst (λ (tables : List FileEntries). map (λ table. table.file) tables ≡ job.files) (sym flushed_inputs) c.running.files;
    inputs = subst (λ (tables : List FileEntries). map (λ table. table.entries) tables ≡ job.inputs) (sym flushed_inputs) c.running.inputs;
    levels = λ n. flushed_each (λ table. is_input job table ≡ true → IsInputLevel lowest_level job.level n) n (λ is. absurd (let w : true ≡ false = sym is ∙ fresh in cc)) (c.running.levels n);
    clear = flushed_at (Each (λ table. is_input job table ≡ false → meet job.range (table_range table) ≡ false)) job.level (λ e. let p : 1 ≤ job.level = c.positive in absurd (omega arith)) (λ differ. c.running.clear);
    below = flushed_below;
  }

pub flush_leaves_running : FlushLeavesRunning
flush_leaves_running lowest_level family flush job output is c fresh = flushed_runs lowest_level family job output c fresh
