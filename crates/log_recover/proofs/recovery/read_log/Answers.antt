use Rattle.std.proofs.Common.{◌≡◌, None, ap, sym, ◌∙◌, subst}
use Rattle.st_wal.specs.Logged.{read_as_log}
use Rattle.st_wal.specs.Wal.{IsWalOf, operations_ended}
use Rattle.log_recover.specs.Opens.{first_log_fault}
use Rattle.log_recover.proofs.Replay.{replayed_store}
use Rattle.log_recover.proofs.recovery.read_log.Goals as goal

pub returns-in-Gate-clause-store : goal.returns-in-Gate-clause-store
returns-in-Gate-clause-store g c = λ honest.
    let read = c.in_ok-scanned.ensures in
    let ops = c.in_ok-scanned.scanned.operations in
    let of_file = subst (λ end. IsWalOf 3 end) c.in-Gate.is read.log in
    let sound : first_log_fault 0 ops ≡ None = ap (first_log_fault 0) (sym c.as_slice.ensures) ∙ sym c.first_fault.ensures ∙ c.in_default.is in
    (replayed_store c.in-Gate.wal ops read.disk.passes read.disk.untouched of_file.0 of_file.1 (read.told honest ∙ ap (operations_ended ops) c.in-Gate.is) (c.requires.settled honest) (c.requires.marked honest) sound).0
