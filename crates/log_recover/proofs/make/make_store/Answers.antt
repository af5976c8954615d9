use Rattle.std.proofs.Common.{◌≡◌, [], Ok, ap}
use Rattle.std.specs.Result.{is_ok}
use Rattle.st_device.specs.Disk.{Image}
use Rattle.st_device.proofs.Moments.{leaves_then, passes_then}
use Rattle.log_recover.specs.Opens.{opens}
use Rattle.log_recover.proofs.Store.{log_leaves, mark_absent, mark_leaves, made_store}
use Rattle.log_recover.proofs.make.make_store.Goals as goal

abbrev IsNew : Image → Type 0
IsNew image = opens image ≡ Ok []

pub returns-in_err-create-clause-crash : goal.returns-in_err-create-clause-crash
returns-in_err-create-clause-crash g c = λ honest.
    let absent = c.requires honest in
    let p1 = c.clear_log.ensures.disk.passes in
    let p2 = c.make.ensures.disk.passes in
    let honest1 = p1.honest_on honest in
    let honest2 = p2.honest_on honest1 in
    let only1 = c.clear_log.ensures.only honest in
    let first = log_leaves _ honest absent only1 in
    let second = log_leaves _ honest1 (mark_absent _ absent only1) (c.make.ensures.crash honest1) in
    let ok = c.in_ok-wal.ensures.ok honest1 in
    leaves_then IsNew (passes_then p1 p2) c.create.ensures.disk.passes (leaves_then IsNew p1 p2 first second)
    (mark_leaves c.in_ok-wal.wal c.in_ok-wal.ensures.file ok.0 ok.1 (c.create.ensures.told honest2))

pub returns-clause-crash : goal.returns-clause-crash
returns-clause-crash g c = λ honest.
    let absent = c.requires honest in
    let p1 = c.clear_log.ensures.disk.passes in
    let p2 = c.make.ensures.disk.passes in
    let honest1 = p1.honest_on honest in
    let honest2 = p2.honest_on honest1 in
    let only1 = c.clear_log.ensures.only honest in
    let first = log_leaves _ honest absent only1 in
    let second = log_leaves _ honest1 (mark_absent _ absent only1) (c.make.ensures.crash honest1) in
    let ok = c.in_ok-wal.ensures.ok honest1 in
    leaves_then IsNew (passes_then p1 p2) c.create.ensures.disk.passes (leaves_then IsNew p1 p2 first second)
    (mark_leaves c.in_ok-wal.wal c.in_ok-wal.ensures.file ok.0 ok.1 (c.create.ensures.told honest2))

pub returns-clause-store : goal.returns-clause-store
returns-clause-store g c = λ honest.
    let honest1 = c.clear_log.ensures.disk.passes.honest_on honest in
    let honest2 = c.make.ensures.disk.passes.honest_on honest1 in
    let ok = c.in_ok-wal.ensures.ok honest1 in
    (made_store _ c.in_ok-wal.wal c.create.ensures.disk.passes c.in_ok-wal.ensures.file ok.0 ok.1 (ap is_ok c.in_ok-create.was) (c.create.ensures.told honest2)).0
