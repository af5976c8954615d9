-- Each event of the core is a step of the model.
use Rattle.std.proofs.Common.{inl, inr}
use Rattle.core_model.specs.Event.{Write, Snap, Release, MakeFamily, DropFamily, Seal, FlushPicked, FlushInstalled, CompactPicked, CompactInstalled, JobGivenUp, TurnTaken, IngestCommitted, TurnReturned, Crashed}
use Rattle.core_model.specs.Run.{StepRefines, EveryRunRefines}
use Rattle.core_laws.proofs.CrashEvent.{crashed_refines}
use Rattle.core_laws.proofs.InstallEvents.{flush_installed_is_step, compact_installed_is_step}
use Rattle.core_laws.proofs.JobEvents.{not_now, flush_picked_refines, compact_picked_refines, given_up_refines}
use Rattle.core_laws.proofs.PlainEvents.{write_refines, snap_refines, release_refines, turn_returned_refines}
use Rattle.core_laws.proofs.FamilyEvents.{seal_refines, make_refines, drop_refines}
use Rattle.core_laws.proofs.CommitEvent.{commit_refines}
use Rattle.core_laws.proofs.RefusedLevel.{refused_by_level}
use Rattle.core_laws.proofs.RefusedNumber.{refused_by_number, unnumbered_has_no_cause}
use Rattle.core_laws.proofs.Runs.{every_run}
use Rattle.core_laws.proofs.TurnEvents.{turn_taken_refines}

pub step_refines : StepRefines
step_refines core state (Write batch) answer after s h = write_refines core state batch answer after s h
step_refines core state Snap answer after s h = snap_refines core state answer after s h
step_refines core state (Release id) answer after s h = release_refines core state id answer after s h
step_refines core state (MakeFamily name) answer after s h = make_refines core state name answer after s h
step_refines core state (DropFamily name) answer after s h = drop_refines core state name answer after s h
step_refines core state (Seal name) answer after s h = seal_refines core state name answer after s h
step_refines core state (FlushPicked name) answer after s h = flush_picked_refines name core state answer after s h
step_refines core state (FlushInstalled number output) answer after s h = flush_installed_is_step number output core state answer after s h
step_refines core state (CompactPicked name whole) answer after s h = compact_picked_refines name whole core state answer after s h
step_refines core state (CompactInstalled number outputs) answer after s h = compact_installed_is_step number outputs core state answer after s h
step_refines core state (JobGivenUp number) answer after s h = given_up_refines number core state answer after s h
step_refines core state (TurnTaken parts) answer after s h = turn_taken_refines core state parts answer after s h
step_refines core state IngestCommitted answer after s (inl (now, does)) = commit_refines refused_by_number refused_by_level unnumbered_has_no_cause core state answer after s now does
step_refines core state IngestCommitted answer after s (inr none) = not_now IngestCommitted core state answer after s none
step_refines core state TurnReturned answer after s h = turn_returned_refines core state answer after s h
step_refines core state (Crashed first) answer after s h = crashed_refines core state first answer after s h

-- and so does every list of events, from a new core
pub every_run_refines : EveryRunRefines
every_run_refines = every_run step_refines
