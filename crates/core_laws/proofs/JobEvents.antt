-- Picking and installing are steps of the model: the whole `Represents` after them, where columns are as they must be.
use Rattle.std.proofs.Common.{◌≡◌, ℕ, ◌+◌, ◌<◌, ◌≤◌, Bool, true, false, cond, not, List, [], ◌∷◌, ◌++◌, map, length, Option, Some, None, refl, sym, ap, subst, ◌∙◌, inl, inr, arith}
use Rattle.std.specs.Prelude.{◌==◌, IfSome, IsTrue}
use Rattle.std.specs.List.{filter, AllByRecursion as Each}
use Rattle.std.specs.BTreeMap.{is_at}
use Rattle.std.proofs.lemmas.Bool.{cases_Bool, cases_eq, eqb-true, eqb-false, not_from_false, cond-true, cond-false}
use Rattle.st_base.specs.Bytes.{bytes_cmp}
use Rattle.st_base.specs.Map.{value_at}
use Rattle.st_base.specs.declared.entry.Entry.{Entry}
use Rattle.st_model.specs.declared.state.ModelFamily.{ModelFamily}
use Rattle.st_model.specs.declared.state.ModelState.{ModelState}
use Rattle.st_model.specs.Answer.{unknown_families}
use Rattle.st_base.specs.Range.{has_key}
use Rattle.st_model.specs.Refusals.{behind_refusals}
use Rattle.st_model.specs.State.{new_family}
use Rattle.base_laws.proofs.Lists.{each_as, each_filter, each_map, filter_whole, map_each}
use Rattle.core_model.specs.Commit.{outline}
use Rattle.core_model.specs.Compaction.{with_flushed, with_compacted}
use Rattle.core_model.specs.Event.{Event, FlushPicked, FlushInstalled, CompactPicked, CompactInstalled, JobGivenUp, request_of_parts}
use Rattle.core_model.specs.declared.reply.CoreReply.{CoreReply}
use Rattle.core_model.specs.declared.reply.CoreReply.TheVariants.{Done, FamilyGone, NotNow}
use Rattle.core_model.specs.Relation.{Represents}
use Rattle.core_laws.specs.SoundCore.{IsSoundCore, RepresentsSound, HasColumns, EventRefines, FlushPickedRefines, CompactPickedRefines, FlushInstalledRefines, CompactInstalledRefines}
use Rattle.core_model.specs.Pick.{job_count}
use Rattle.core_model.specs.Picture.{FileEntries, FamilyView, Job, Turn, Core, lowest_level, level_at, memories, tables_in, table_range, is_input, is_flush, jobs_of, all_tables}
use Rattle.core_model.specs.Request.{IsRequest, NamesThere}
use Rattle.core_model.specs.Run.{IsCoreStep, Refines, accepts, EventDoes}
use Rattle.core_model.specs.RelationParts.{ForBoth, HasRanges, HasWritten, IsView, IsRunning, IsCompacting, IsInputLevel, IsTurn, JobsRun, KeepsReads, HasOutputs, files_in_parts}
use Rattle.core_model.specs.Step.{installed, noted_job, is_there, AreOutputs, AreFresh, IsNow, without_job, turn_files, flush_job, compact_job}
use Rattle.core_laws.proofs.Lists.{pairs_filter, at_set}
use Rattle.core_laws.proofs.Members.{In, filter_swap, each_in, in_filter, found_in, pairs_of_all, pairs_map, map_pairs, Differ, hits}
use Rattle.core_laws.proofs.InstalledLevels.{installed_at}
use Rattle.core_laws.proofs.AfterInstall.{fewer_run, some_both, turn_next, taken_differ}
use Rattle.core_laws.proofs.CompactedOwn.{compact_installed_own, compacted_hits}
use Rattle.core_laws.proofs.FlushedOwn.{flush_installed_own, flushed_hits, each_without_last}
use Rattle.core_laws.proofs.PickedOwn.{flush_picked_own, compact_picked_own, noted_some}
use Rattle.st_order.specs.Columns.{Pairwise}
use Rattle.core_laws.proofs.ById.{changed_id, installed_by_id, installed_same}
use Rattle.core_laws.proofs.FamilyEvents.{core_names}

-- ---- of `Represents`

pub stands_own : RepresentsSound
stands_own core state s = (
  record { apart = s.apart; jobs = s.jobs; kept = s.kept; views = s.views; files = s.files; noted = s.noted },
  map_pairs (λ (one other : List ℕ × ℕ). one.1 ≡ other.1 → ⊥) (λ named. (named.0, named.1.id)) core.families
      (subst (Pairwise (λ (one other : List ℕ × ℕ). one.1 ≡ other.1 → ⊥)) (sym s.same.families)
      (pairs_map (λ (one other : List ℕ × ℕ). one.1 ≡ other.1 → ⊥) (λ (named : List ℕ × ModelFamily). (named.0, named.1.id)) state.families
      (pairs_of_all (λ one other. one.1.id ≡ other.1.id → ⊥) state.families s.sound.ids))),
  map_each (λ (pair : List ℕ × ℕ). pair.1 < core.next_family) (λ named. (named.0, named.1.id)) core.families
      (subst (Each (λ (pair : List ℕ × ℕ). pair.1 < core.next_family)) (sym s.same.families)
      (each_map (λ (pair : List ℕ × ℕ). pair.1 < core.next_family) (λ (named : List ℕ × ModelFamily). (named.0, named.1.id)) state.families
      (subst (λ (n : ℕ). Each (λ (named : List ℕ × ModelFamily). named.1.id < n) state.families) (sym s.same.next_family) s.sound.next))),
)

-- an event that doesn't hold changes nothing
pub not_now : (event : Event) (core : Core) (state : ModelState) (answer : CoreReply) (after : Core) → Represents core state → (IsNow core event → ⊥) × (answer ≡ NotNow) × (after ≡ core) → Refines core state event answer after
not_now event core state answer after s none = record {
  answer_of = λ now. absurd (none.0 now);
  stands = subst (λ (reply : CoreReply). Represents after (Rattle.core_model.specs.Run.next_state core state event reply)) (sym none.1) (subst (λ (next : Core). Represents next state) (sym none.2) s);
}

either : (b : Bool) (state : ModelState) → cond b state state ≡ state
either true state = refl
either false state = refl

turn_as : (P Q : Turn → Type 0) (o : Option Turn) → ((turn : Turn) → o ≡ Some turn → P turn → Q turn) → IfSome o P → IfSome o Q
turn_as P Q None as_well holds = holds
turn_as P Q (Some turn) as_well holds = as_well turn refl holds

-- ---- picking

-- a core with other jobs
jobs_stands : (core : Core) (state : ModelState) (jobs : List Job) (made : ℕ) → Represents core state → IsSoundCore (record core { jobs = jobs; jobs_made = made }) → Represents (record core { jobs = jobs; jobs_made = made }) state
jobs_stands core state jobs made s own = record {
  same = record { place = s.same.place; last = s.same.last; charge = s.same.charge; behind = s.same.behind; families = s.same.families; next_family = s.same.next_family; live = s.same.live };
  reads = s.reads;
  falls = s.falls;
  within = s.within;
  apart = own.apart;
  ranges = s.ranges;
  marks = s.marks;
  known = s.known;
  written = s.written;
  jobs = own.jobs;
  kept = own.kept;
  turn = turn_as (λ turn. IsTurn core turn × NamesThere core turn.parts × IsRequest turn.parts)
      (λ turn. IsTurn (record core { jobs = jobs; jobs_made = made }) turn × NamesThere (record core { jobs = jobs; jobs_made = made }) turn.parts × IsRequest turn.parts) core.turn
      (λ turn e t. (record { place = t.0.place; fresh = t.0.fresh }, record { families = t.1.families; behind = t.1.behind }, t.2)) s.turn;
  views = own.views;
  files = own.files;
  noted = own.noted;
  sound = s.sound;
}

pub flush_picked_refines : FlushPickedRefines
flush_picked_refines name core state answer after s (inr none) = not_now (FlushPicked name) core state answer after s none
flush_picked_refines name core state answer after s (inl does) =
    let o = stands_own core state s in
    let n = noted_some core (flush_job core name) answer after does.1 in
    let own : IsSoundCore after = flush_picked_own core name answer after o.0 o.1 o.2 s.within does.1 in
    record {
      answer_of = λ now. tt;
      stands = subst (Represents after) (sym (either (accepts answer) state)) (subst (λ (next : Core). Represents next state) (sym n.2) (jobs_stands core state (core.jobs ++ n.0 ∷ []) (job_count core) s (subst IsSoundCore n.2 own)));
    }

pub compact_picked_refines : CompactPickedRefines
compact_picked_refines name whole core state answer after s (inr none) = not_now (CompactPicked name whole) core state answer after s none
compact_picked_refines name whole core state answer after s (inl does) =
    let o = stands_own core state s in
    let n = noted_some core (compact_job core name whole) answer after does.1 in
    let own : IsSoundCore after = compact_picked_own core name whole answer after o.0 o.1 o.2 s.within s.falls does.1 in
    record {
      answer_of = λ now. tt;
      stands = subst (Represents after) (sym (either (accepts answer) state)) (subst (λ (next : Core). Represents next state) (sym n.2) (jobs_stands core state (core.jobs ++ n.0 ∷ []) (job_count core) s (subst IsSoundCore n.2 own)));
    }

-- ---- giving up

fewer_own : (core : Core) (test : Job → Bool) → IsSoundCore core → IsSoundCore (record core { jobs = filter test core.jobs })
fewer_own core test own = record {
  apart = own.apart;
  jobs = each_as (λ (named : List ℕ × FamilyView). JobsRun (lowest_level core) (jobs_of core named.1) named.1) (λ (named : List ℕ × FamilyView). JobsRun (lowest_level core) (jobs_of less named.1) named.1)
      (λ named run. subst (λ (jobs : List Job). JobsRun (lowest_level core) jobs named.1) (left named.1) (fewer_run (lowest_level core) (jobs_of core named.1) named.1 test run)) core.families own.jobs;
  kept = each_as (λ (named : List ℕ × FamilyView). Each (KeepsReads core named.1) (jobs_of core named.1)) (λ (named : List ℕ × FamilyView). Each (KeepsReads less named.1) (jobs_of less named.1))
      (λ named keeps. subst (Each (KeepsReads less named.1)) (left named.1) (each_filter (KeepsReads less named.1) test (jobs_of core named.1)
      (each_as (KeepsReads core named.1) (KeepsReads less named.1) (λ job k. record { live = k.live; began = k.began; numbers = k.numbers; within = k.within; nothing = k.nothing; flag = k.flag }) (jobs_of core named.1) keeps)))
      core.families own.kept;
  views = own.views;
  files = own.files;
  noted = record {
    numbers = pairs_filter (λ (one other : Job). one.number ≡ other.number → ⊥) test core.jobs own.noted.numbers;
    made = λ more. each_filter (λ (job : Job). job.number ≤ core.jobs_made) test core.jobs (own.noted.made more);
    families = each_filter (λ (job : Job). job.family < core.next_family) test core.jobs own.noted.families;
    outputs = each_filter HasOutputs test core.jobs own.noted.outputs;
    live = own.noted.live;
  };
}
  where
    less : Core
    less = record core { jobs = filter test core.jobs }

    left : (family : FamilyView) → filter test (jobs_of core family) ≡ jobs_of less family
    left family = filter_swap test (λ (job : Job). job.family == family.id) core.jobs

pub given_up_refines : (number : ℕ) → EventRefines (JobGivenUp number)
given_up_refines number core state answer after s (inr none) = not_now (JobGivenUp number) core state answer after s none
given_up_refines number core state answer after s (inl does) = record {
  answer_of = λ now. tt;
  stands = subst (Represents after) (sym (either (accepts answer) state)) (subst (λ (next : Core). Represents next state) (sym does.1.1)
      (jobs_stands core state (without_job number core.jobs) core.jobs_made s (fewer_own core (λ job. not (job.number == number)) (stands_own core state s).0)));
}

-- ---- installing

changed_value : (families : List (List ℕ × FamilyView)) (id : ℕ) (change : FamilyView → FamilyView) (name : List ℕ) (after : FamilyView) → value_at (changed_id id change families) name ≡ Some after
    → (named : List ℕ × FamilyView) × In named families × (value_at families name ≡ Some named.1) × (after ≡ cond (named.1.id == id) (change named.1) named.1)
changed_value [] id change name after e = absurd cc
changed_value (named ∷ families) id change name after e = go (is_at (bytes_cmp name) named.0) refl e (λ f. changed_value families id change name after f)
  where
    go : (b : Bool) → is_at (bytes_cmp name) named.0 ≡ b → cond b (Some (cond (named.1.id == id) (change named.1) named.1)) (value_at (changed_id id change families) name) ≡ Some after
        → (value_at (changed_id id change families) name ≡ Some after → (one : List ℕ × FamilyView) × In one families × (value_at families name ≡ Some one.1) × (after ≡ cond (one.1.id == id) (change one.1) one.1))
        → (one : List ℕ × FamilyView) × In one (named ∷ families) × (value_at (named ∷ families) name ≡ Some one.1) × (after ≡ cond (one.1.id == id) (change one.1) one.1)
    go true is e more =
        let w : cond (named.1.id == id) (change named.1) named.1 ≡ after = cc in
        (named, inl refl, cond-true (is_at (bytes_cmp name) named.0) (Some named.1) (value_at families name) is, sym w)
    go false is e more =
        let m = more e in
        (m.0, inr m.1, cond-false (is_at (bytes_cmp name) named.0) (Some named.1) (value_at families name) is ∙ m.2, m.3)

module _ (core : Core) (state : ModelState) (job : Job) (change : FamilyView → FamilyView) (id_stays : (family : FamilyView) → (change family).id ≡ family.id) where
  abbrev next : Core
  next = installed_by_id core job change

  pub both_next : (R : FamilyView → ModelFamily → Type 0) → ((named : List ℕ × FamilyView) (kept : ModelFamily) → In named core.families → (named.1.id == job.family) ≡ true → R named.1 kept → R (change named.1) kept)
      → ForBoth core state R → ForBoth next state R
  both_next R changed holds name family kept here there =
      let v = changed_value core.families job.family change name family here in
      let old : R v.0.1 kept = holds name v.0.1 kept v.2 there in
      subst (λ (view : FamilyView). R view kept) (sym v.3) (elim (cases_Bool (v.0.1.id == job.family)) [
        | inl is ↦ subst (λ (view : FamilyView). R view kept) (sym (cond-true (v.0.1.id == job.family) (change v.0.1) v.0.1 is)) (changed v.0 kept v.1 is old)
        | inr differ ↦ subst (λ (view : FamilyView). R view kept) (sym (cond-false (v.0.1.id == job.family) (change v.0.1) v.0.1 differ)) old
      ])

  one_id : (named : List ℕ × FamilyView) → (cond (named.1.id == job.family) (change named.1) named.1).id ≡ named.1.id
  one_id named = go (named.1.id == job.family)
    where
      go : (b : Bool) → (cond b (change named.1) named.1).id ≡ named.1.id
      go true = id_stays named.1
      go false = refl

  -- what looks at names and ids alone
  names_stay : {Y : Type 0} (f : ℕ → Y) (families : List (List ℕ × FamilyView)) → map {B = List ℕ × Y} (λ named. (named.0, f named.1.id)) (changed_id job.family change families) ≡ map {B = List ℕ × Y} (λ named. (named.0, f named.1.id)) families
  names_stay f [] = refl
  names_stay {Y} f (named ∷ families) =
      ap {B = List (List ℕ × Y)} (λ (id : ℕ). (named.0, f id) ∷ map {B = List ℕ × Y} (λ one. (one.0, f one.1.id)) (changed_id job.family change families)) (one_id named)
      ∙ ap {B = List (List ℕ × Y)} (λ rest. (named.0, f named.1.id) ∷ rest) (names_stay f families)

  outline_stays : outline next ≡ outline core
  outline_stays = ap (λ (families : List (List ℕ × ModelFamily)). let o : ModelState = record {
    place = core.place;
    last = core.last;
    charge = core.charge;
    behind = core.behind;
    families = families;
    next_family = core.next_family;
    live = core.live;
  } in o) (names_stay new_family core.families)

  installed_stands : (outputs : List FileEntries) → Represents core state → IsSoundCore next → HasColumns next state → AreFresh core outputs → ((f : ℕ) (family : FamilyView) → hits f (tables_in (change family).levels) ≤ hits f outputs + hits f (tables_in family.levels))
      → ((named : List ℕ × FamilyView) → In named core.families → (named.1.id == job.family) ≡ true → core.behind ≡ true → level_at (change named.1) 6 ≡ level_at named.1 6)
      → ((P : List Entry → Type 0) (family : FamilyView) → Each P (memories family) → Each P (memories (change family)))
      → Represents next state
  installed_stands outputs s own columns fresh more last fewer = record {
    same = record { place = s.same.place; last = s.same.last; charge = s.same.charge; behind = s.same.behind; families = names_stay (λ id. id) core.families ∙ s.same.families; next_family = s.same.next_family; live = s.same.live };
    reads = columns.reads;
    falls = columns.falls;
    within = columns.within;
    apart = own.apart;
    ranges = λ flag. both_next HasRanges (λ named kept there is holds. ap (map table_range) (last named there is flag) ∙ holds) (s.ranges flag);
    marks = columns.marks;
    known = columns.known;
    written = both_next HasWritten (λ named kept there is holds. fewer (Each (λ (entry : Entry). has_key kept.writes entry.key ≡ true)) named.1 holds) s.written;
    jobs = own.jobs;
    kept = own.kept;
    turn = turn_as (λ turn. IsTurn core turn × NamesThere core turn.parts × IsRequest turn.parts) (λ turn. IsTurn next turn × NamesThere next turn.parts × IsRequest turn.parts) core.turn
        (λ turn e t. (
          record { place = t.0.place; fresh = subst (λ (tables : List FileEntries). Pairwise Differ (tables ++ all_tables next)) (files_are turn e) (turn_next core job change outputs (stands_own core state s).1 (taken_differ core s.turn s.files) fresh more) },
          record {
            families = subst (λ (seen : ModelState). unknown_families seen (map (λ part. part.family) turn.parts) ≡ []) (sym outline_stays) t.1.families;
            behind = subst (λ (seen : ModelState). behind_refusals seen (request_of_parts turn.parts) ≡ []) (sym outline_stays) t.1.behind;
          },
          t.2,
        )) s.turn;
    views = own.views;
    files = own.files;
    noted = own.noted;
    sound = s.sound;
  }
    where
      files_are : (turn : Turn) → core.turn ≡ Some turn → turn_files core ≡ files_in_parts turn.parts
      files_are turn e = ap (λ (o : Option Turn). Rattle.std.specs.Prelude.unwrap_or (Rattle.std.specs.Option.option_map (λ (one : Turn). files_in_parts one.parts) o) []) e

flush_level : (family : FamilyView) (output : FileEntries) → length family.levels ≡ 7 → level_at (with_flushed output family) 6 ≡ level_at family 6
flush_level family output seven = at_set (λ tables. tables ≡ level_at family 6) family.levels 0 6 (output ∷ level_at family 0) (omega arith) (λ e. absurd (omega arith)) (λ differ. refl)

-- with the flag no compaction touches level 6
compact_level : (lowest_level : ℕ) (family : FamilyView) (job : Job) (outputs : List FileEntries) → length family.levels ≡ 7 → lowest_level ≡ 5 → IsCompacting lowest_level family job → level_at (with_compacted job outputs family) 6 ≡ level_at family 6
compact_level lowest_level family job outputs seven five runs =
    let le : job.level ≤ lowest_level = runs.level in
    installed_at (λ tables. tables ≡ level_at family 6) family job outputs 6 (omega arith) (λ e. absurd (omega arith))
    (λ differ. filter_whole (λ table. not (is_input job table)) (level_at family 6)
    (each_as (λ table. is_input job table ≡ true → IsInputLevel lowest_level job.level 6) (λ table. not (is_input job table) ≡ true)
    (λ table near. elim (cases_Bool (is_input job table)) [
      | inl is ↦ absurd (let up : 6 ≤ job.level = (near is).above in omega arith)
      | inr none ↦ not_from_false (is_input job table) none
    ]) (level_at family 6) (runs.levels 6)))

pub flush_installed_refines : FlushInstalledRefines
flush_installed_refines number output leaves core state answer after s (inr none) = not_now (FlushInstalled number output) core state answer after s none
flush_installed_refines number output leaves core state answer after s (inl does) =
    let o = stands_own core state s in
    let both = some_both (noted_job core number) (λ job. (is_flush job ≡ true) × AreOutputs core job (output ∷ [])) (λ job. (answer ≡ cond (is_there core job) Done FamilyGone) × (after ≡ installed core job (with_flushed output))) does.0 does.1 in
    let own : IsSoundCore after = flush_installed_own core number output answer after o.0 o.1 (core_names core state s) does.0 does.1 in
    let at : after ≡ installed_by_id core both.0 (with_flushed output) = both.3.1 ∙ installed_same core both.0 (with_flushed output) (core_names core state s) o.1 in
    record {
      answer_of = λ now. tt;
      stands = subst (Represents after) (sym (either (accepts answer) state)) (subst (λ (next : Core). Represents next state) (sym at)
          (installed_stands core state both.0 (with_flushed output) (λ family. refl) (output ∷ []) s (subst IsSoundCore at own)
          (subst (λ (next : Core). HasColumns next state) at (leaves core state answer after s does.0 does.1)) both.2.1.fresh (flushed_hits output)
          (λ named there is flag. flush_level named.1 output (each_in (λ (one : List ℕ × FamilyView). IsView one.1) named core.families s.views there).levels)
          (λ P family each. (each.0, each_without_last P family.sealed each.1))));
    }

pub compact_installed_refines : CompactInstalledRefines
compact_installed_refines number outputs leaves core state answer after s (inr none) = not_now (CompactInstalled number outputs) core state answer after s none
compact_installed_refines number outputs leaves core state answer after s (inl does) =
    let o = stands_own core state s in
    let both = some_both (noted_job core number) (λ job. (is_flush job ≡ false) × AreOutputs core job outputs) (λ job. (answer ≡ cond (is_there core job) Done FamilyGone) × (after ≡ installed core job (with_compacted job outputs))) does.0 does.1 in
    let own : IsSoundCore after = compact_installed_own core number outputs answer after o.0 o.1 (core_names core state s) does.0 does.1 in
    let at : after ≡ installed_by_id core both.0 (with_compacted both.0 outputs) = both.3.1 ∙ installed_same core both.0 (with_compacted both.0 outputs) (core_names core state s) o.1 in
    let there : In both.0 core.jobs = (found_in (λ (job : Job). job.number == number) both.0 core.jobs both.1).0 in
    record {
      answer_of = λ now. tt;
      stands = subst (Represents after) (sym (either (accepts answer) state)) (subst (λ (next : Core). Represents next state) (sym at)
          (installed_stands core state both.0 (with_compacted both.0 outputs) (λ family. refl) outputs s (subst IsSoundCore at own)
          (subst (λ (next : Core). HasColumns next state) at (leaves core state answer after s does.0 does.1)) both.2.1.fresh (compacted_hits both.0 outputs)
          (λ named here is flag. compact_level (lowest_level core) named.1 both.0 outputs (each_in (λ (one : List ℕ × FamilyView). IsView one.1) named core.families s.views here).levels
          (cond-true core.behind 5 6 flag)
          ((each_in (IsRunning (lowest_level core) named.1) both.0 (jobs_of core named.1)
          (each_in (λ (one : List ℕ × FamilyView). JobsRun (lowest_level core) (jobs_of core one.1) one.1) named core.families s.jobs here).each
          (in_filter (λ (job : Job). job.family == named.1.id) both.0 core.jobs (Rattle.std.proofs.lemmas.Bool.eq-eqb both.0.family named.1.id (sym (eqb-true named.1.id both.0.family is))) there)).1
          (some_level both.0 both.2.0)))
          (λ P family each. each)));
    }
  where
    some_level : (job : Job) → is_flush job ≡ false → 1 ≤ job.level
    some_level job e = elim (cases_eq job.level 0) [ inl none ↦ absurd (eqb-false job.level 0 e none) | inr some ↦ omega arith ]
