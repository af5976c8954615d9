use Rattle.std.proofs.Common.{◌≡◌, ◌⊎◌, inl, inr, ⊎_elim, Bool, List, Ok}
use Rattle.st_device.specs.Disk.{Image}
use Rattle.st_wal.specs.declared.logged.Logged.{Logged}
use Rattle.st_wal.specs.declared.wal.Wal.{Wal}
use Rattle.log_recover.specs.Contents.{SameContents, disk_contents, opened_contents}
use Rattle.log_recover.specs.Opens.{IsDamageOf, opens}
use Rattle.log_recover.specs.declared.fault.OpenFault.{OpenFault}
use Rattle.log_recover.proofs.Same.{if_err, if_ok, on_ok, opened_damage, opened_ok, same_contents}
use Rattle.log_recover.proofs.recovery.recover.Goals as goal

pub returns-clause-ok : goal.returns-clause-ok
returns-clause-ok g c = λ honest.
    let reads = (g.D.Disk.tells c.args.disk.now).reads in
    if_ok (λ (read : List Logged × Wal). opens reads ≡ Ok read.0) (λ (read : List Logged × Wal). (behind : Bool) → disk_contents behind reads ≡ Ok (opened_contents behind read.0)) c.read_store.result
    (λ read is behind. opened_ok (opens reads) read.0 behind is) (c.read_store.ensures.ok honest)

pub returns-clause-damage : goal.returns-clause-damage
returns-clause-damage g c = λ honest.
    let reads = (g.D.Disk.tells c.args.disk.now).reads in
    if_err (λ (fault : OpenFault). IsDamageOf (opens reads) fault) (λ (fault : OpenFault). (behind : Bool) → IsDamageOf (disk_contents behind reads) fault) c.read_store.result
    (λ fault is behind. opened_damage (opens reads) fault behind is) (c.read_store.ensures.damage honest)

pub returns-clause-crash : goal.returns-clause-crash
returns-clause-crash g c = λ honest image left.
    let before = g.D.Disk.tells c.args.disk.now in
    ⊎_elim (λ (now : before.now image). inl now) (λ (same : opens image ≡ opens before.reads). inr (same_contents image before.reads same)) (c.read_store.ensures.crash honest image left)

pub returns-clause-after : goal.returns-clause-after
returns-clause-after g c = λ honest.
    let before = g.D.Disk.tells c.args.disk.now in
    on_ok c.read_store.result (λ same image now. same_contents image before.reads (same image now)) (c.read_store.ensures.after honest)
