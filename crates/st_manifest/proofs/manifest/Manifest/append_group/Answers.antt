use Rattle.std.proofs.Common.{◌∙◌, ap, subst, List, ℕ}
use Rattle.std.specs.Prelude.{◌++◌}
use Rattle.std.specs.List.{AllByRecursion as Each}
use Rattle.std.proofs.Common.{◌≤◌, length, sym}
use Rattle.st_device.specs.Disk.{OnlyFile}
use Rattle.st_gate.specs.Kind.{kind_bytes}
use Rattle.st_gate.specs.Log.{replayed}
use Rattle.st_gate.specs.Rest.{records}
use Rattle.st_manifest.specs.Behind.{HasLaid}
use Rattle.st_manifest.specs.Laid.{laid_records}
use Rattle.st_manifest.proofs.Fits.{on_ok}
use Rattle.st_manifest.proofs.Groups.{group_small}
use Rattle.st_manifest.proofs.Ready.{group_done, group_some}
use Rattle.st_manifest.proofs.manifest.Manifest.append_group.Goals as goal

pub append_all-requires-clause-small : goal.append_all-requires-clause-small
append_all-requires-clause-small g c = subst (λ (l : List (List ℕ)). Each (λ payload. length payload ≤ 4194304) l) (sym c.payloads.ensures.value) (group_small c.args.group.now c.payloads.ensures.group)

pub returns-clause-crash : goal.returns-clause-crash
returns-clause-crash g c = λ honest.
    let log = c.args.self.now.log in
    let a = g.D.Disk.tells c.args.disk.now in
    group_some c.args.self.now a (c.requires.rest honest) c.args.group.now c.payloads.ensures.group (c.requires.right honest)
    (subst (λ (l : List (List ℕ)). OnlyFile log.file (λ this. HasLaid (records log a) log.at l (replayed (kind_bytes log.kind) this)) a (g.D.Disk.tells c.append_all.new.disk)) c.payloads.ensures.value (c.append_all.ensures.crash honest))

pub returns-clause-ok : goal.returns-clause-ok
returns-clause-ok g c = λ honest.
    let log = c.args.self.now.log in
    let a = g.D.Disk.tells c.args.disk.now in
    on_ok c.append_all.result
    (λ both. (group_done c.args.self.now a (c.requires.rest honest) c.args.group.now c.payloads.ensures.group (c.requires.right honest) (record { log = c.append_all.new.log }) c.append_all.ensures.kind c.append_all.ensures.file both.0
    (both.1 ∙ ap (λ (l : List (List ℕ)). records log a ++ laid_records log.at l) c.payloads.ensures.value)).0)
    (c.append_all.ensures.ok honest)

pub returns-clause-ready : goal.returns-clause-ready
returns-clause-ready g c = λ honest.
    let log = c.args.self.now.log in
    let a = g.D.Disk.tells c.args.disk.now in
    on_ok c.append_all.result
    (λ both. (group_done c.args.self.now a (c.requires.rest honest) c.args.group.now c.payloads.ensures.group (c.requires.right honest) (record { log = c.append_all.new.log }) c.append_all.ensures.kind c.append_all.ensures.file both.0
    (both.1 ∙ ap (λ (l : List (List ℕ)). records log a ++ laid_records log.at l) c.payloads.ensures.value)).1)
    (c.append_all.ensures.ok honest)

pub returns-clause-named : goal.returns-clause-named
returns-clause-named g c = λ honest.
    let log = c.args.self.now.log in
    let a = g.D.Disk.tells c.args.disk.now in
    on_ok c.append_all.result
    (λ both. (group_done c.args.self.now a (c.requires.rest honest) c.args.group.now c.payloads.ensures.group (c.requires.right honest) (record { log = c.append_all.new.log }) c.append_all.ensures.kind c.append_all.ensures.file both.0
    (both.1 ∙ ap (λ (l : List (List ℕ)). records log a ++ laid_records log.at l) c.payloads.ensures.value)).2)
    (c.append_all.ensures.ok honest)
