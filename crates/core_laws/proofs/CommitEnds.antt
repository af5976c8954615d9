-- The induction over the plan, and the end of a commit.
use Rattle.std.proofs.Common.{◌≡◌, ℕ, ◌+◌, ◌≤◌, List, [], ◌∷◌, map, None, refl, sym, ap, subst, ◌∙◌, arith}
use Rattle.std.specs.Prelude.{fold}
use Rattle.std.specs.List.{AllByRecursion as Each}
use Rattle.st_model.specs.declared.change.Change.TheVariants.{Ingest}
use Rattle.st_model.specs.declared.change.Taken.{Taken}
use Rattle.st_model.specs.declared.state.ModelState.{ModelState}
use Rattle.st_model.specs.declared.state.Snapshot.{Snapshot}
use Rattle.st_model.specs.Apply.{apply, apply_file}
use Rattle.core_model.specs.Commit.{RequestFile, Planned, request_files, plan_file, plan_from, put_planned, taken_in_plan, plan, files_taken, committed}
use Rattle.core_model.specs.Relation.{Represents}
use Rattle.core_model.specs.Picture.{Core, FamilyView, Turn, jobs_of}
use Rattle.core_model.specs.RelationParts.{KeepsReads}
use Rattle.core_laws.specs.Underway.{IsUnderway}
use Rattle.core_laws.proofs.FileJobs.{each_of}
use Rattle.core_laws.proofs.FileStep.{file_keeps_underway}

-- file by file
pub plan_keeps : (core : Core) (state : ModelState) (rest : List RequestFile) → IsUnderway core state rest
    → IsUnderway (fold put_planned core (plan_from core rest)) (fold apply_file state (map taken_in_plan (plan_from core rest))) []
plan_keeps core state [] under = under
plan_keeps core state (wanted ∷ rest) under =
    plan_keeps (put_planned core (plan_file core wanted)) (apply_file state (taken_in_plan (plan_file core wanted))) rest (file_keeps_underway core state wanted rest under)

-- the turn doesn't matter to the plan
pub plan_turn : (core : Core) (rest : List RequestFile) → plan_from (record core { turn = None }) rest ≡ plan_from core rest
plan_turn core [] = refl
plan_turn core (wanted ∷ rest) = ap (λ more. plan_file core wanted ∷ more) (plan_turn (put_planned core (plan_file core wanted)) rest)

put_turn : (core : Core) (planned : List Planned) → fold put_planned (record core { turn = None }) planned ≡ record (fold put_planned core planned) { turn = None }
put_turn core [] = refl
put_turn core (one ∷ planned) = put_turn (put_planned core one) planned

files_place : (state : ModelState) (files : List Taken) → (fold apply_file state files).place ≡ state.place
files_place state [] = refl
files_place state (file ∷ files) = files_place (apply_file state file) files

-- one place on
next_place : (core : Core) (state : ModelState) (plan_file : ℕ) → Represents core state → core.turn ≡ None → plan_file ≡ state.place → Represents (record core { place = plan_file + 1; turn = None }) (record state { place = plan_file + 1 })
next_place core state plan_file stands none is = record {
  same = record { place = refl; last = stands.same.last; charge = stands.same.charge; behind = stands.same.behind; families = stands.same.families; next_family = stands.same.next_family; live = stands.same.live };
  reads = stands.reads;
  falls = stands.falls;
  within = stands.within;
  apart = stands.apart;
  ranges = stands.ranges;
  marks = stands.marks;
  known = stands.known;
  written = stands.written;
  jobs = stands.jobs;
  kept = keep_all core.families stands.kept;
  turn = tt;
  views = stands.views;
  files = stands.files;
  noted = record { numbers = stands.noted.numbers; outputs = stands.noted.outputs; made = stands.noted.made; families = stands.noted.families; live = stands.noted.live };
  sound = record {
    names = stands.sound.names;
    bases = stands.sound.bases;
    writes = stands.sound.writes;
    live = stands.sound.live;
    snapshots = stands.sound.snapshots;
    taken = later state.live stands.sound.taken;
    above = stands.sound.above;
    ids = stands.sound.ids;
    next = stands.sound.next;
    unranged = stands.sound.unranged;
  };
}
  where
    keep_all : (families : List (List ℕ × FamilyView)) → Each (λ named. Each (KeepsReads core named.1) (jobs_of core named.1)) families → Each (λ named. Each (KeepsReads (record core { place = plan_file + 1; turn = None }) named.1) (jobs_of core named.1)) families
    keep_all [] each = tt
    keep_all (named ∷ families) each = (
      each_of (KeepsReads core named.1) (KeepsReads (record core { place = plan_file + 1; turn = None }) named.1) (jobs_of core named.1)
          (λ job keeps. record { live = keeps.live; began = keeps.began; numbers = keeps.numbers; within = keeps.within; nothing = keeps.nothing; flag = keeps.flag }) each.0,
      keep_all families each.1,
    )

    later : (live : List Snapshot) → Each (λ snapshot. snapshot.id ≤ state.place) live → Each (λ snapshot. snapshot.id ≤ plan_file + 1) live
    later [] each = tt
    later (one ∷ live) each = (omega (arith, each.0), later live each.1)

-- a core without a turn stands as the one with it
pub turn_ends : (core : Core) (state : ModelState) → Represents core state → Represents (record core { turn = None }) state
turn_ends core state stands = record {
  same = record { place = stands.same.place; last = stands.same.last; charge = stands.same.charge; behind = stands.same.behind; families = stands.same.families; next_family = stands.same.next_family; live = stands.same.live };
  reads = stands.reads;
  falls = stands.falls;
  within = stands.within;
  apart = stands.apart;
  ranges = stands.ranges;
  marks = stands.marks;
  known = stands.known;
  written = stands.written;
  jobs = stands.jobs;
  kept = keep_all core.families stands.kept;
  turn = tt;
  views = stands.views;
  files = stands.files;
  noted = record { numbers = stands.noted.numbers; outputs = stands.noted.outputs; made = stands.noted.made; families = stands.noted.families; live = stands.noted.live };
  sound = stands.sound;
}
  where
    keep_all : (families : List (List ℕ × FamilyView)) → Each (λ named. Each (KeepsReads core named.1) (jobs_of core named.1)) families → Each (λ named. Each (KeepsReads (record core { turn = None }) named.1) (jobs_of core named.1)) families
    keep_all [] each = tt
    keep_all (named ∷ families) each = (
      each_of (KeepsReads core named.1) (KeepsReads (record core { turn = None }) named.1) (jobs_of core named.1)
          (λ job keeps. record { live = keeps.live; began = keeps.began; numbers = keeps.numbers; within = keeps.within; nothing = keeps.nothing; flag = keeps.flag }) each.0,
      keep_all families each.1,
    )

-- a commit that has begun ends in a core that stands
pub commit_ends : (core : Core) (state : ModelState) (turn : Turn) → core.place ≡ state.place → IsUnderway (record core { turn = None }) state (request_files core turn.parts)
    → Represents (committed core turn.parts) (apply state (Ingest (files_taken (plan core turn.parts))))
commit_ends core state turn same under =
    subst (λ plan_file. Represents (committed core turn.parts) (record (fold apply_file state (files_taken (plan core turn.parts))) { place = plan_file + 1 })) same
    (next_place (record (fold put_planned core (plan core turn.parts)) { turn = None }) (fold apply_file state (files_taken (plan core turn.parts))) core.place ended.stands refl
    (same ∙ sym (files_place state (files_taken (plan core turn.parts)))))
  where
    ended : IsUnderway (record (fold put_planned core (plan core turn.parts)) { turn = None }) (fold apply_file state (files_taken (plan core turn.parts))) []
    ended =
        subst (λ one. IsUnderway one (fold apply_file state (files_taken (plan core turn.parts))) []) (put_turn core (plan core turn.parts))
        (subst (λ planned. IsUnderway (fold put_planned (record core { turn = None }) planned) (fold apply_file state (map taken_in_plan planned)) []) (plan_turn core (request_files core turn.parts))
        (plan_keeps (record core { turn = None }) state (request_files core turn.parts) under))
