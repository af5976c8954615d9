use Rattle.std.proofs.Common.{◌∙◌, ap, subst, List, ℕ}
use Rattle.std.specs.Prelude.{◌++◌, ◌∷◌, []}
use Rattle.st_device.specs.Disk.{OnlyFile}
use Rattle.st_gate.specs.Kind.{kind_bytes}
use Rattle.st_gate.specs.Log.{IsBeforeOrAfter, gate_record, replayed}
use Rattle.st_gate.specs.Rest.{records}
use Rattle.st_manifest.proofs.Fits.{on_ok}
use Rattle.st_manifest.proofs.Rooting.{root_done, root_some}
use Rattle.st_manifest.proofs.root.root_append.Goals as goal

pub returns-clause-crash : goal.returns-clause-crash
returns-clause-crash g c = λ honest.
    let root = c.args.root.now in
    let a = g.D.Disk.tells c.args.disk.now in
    root_some root a (c.requires.ready honest) c.args.manifest c.args.behind c.requires.file
    (subst (λ (p : List ℕ). OnlyFile root.file (λ this. IsBeforeOrAfter (records root a) p root.at (replayed (kind_bytes root.kind) this)) a (g.D.Disk.tells c.append_one.new.disk)) c.root_bytes.ensures (c.append_one.ensures.crash honest))

pub returns-clause-ok : goal.returns-clause-ok
returns-clause-ok g c = λ honest.
    let root = c.args.root.now in
    let a = g.D.Disk.tells c.args.disk.now in
    on_ok c.append_one.result
    (λ both. (root_done root a (c.requires.ready honest) c.args.manifest c.args.behind c.requires.file c.append_one.new.log c.append_one.ensures.kind c.append_one.ensures.file both.0 (both.1 ∙ ap (λ (p : List ℕ). records root a ++ gate_record root.at p ∷ []) c.root_bytes.ensures)).0)
    (c.append_one.ensures.ok honest)

pub returns-clause-ready : goal.returns-clause-ready
returns-clause-ready g c = λ honest.
    let root = c.args.root.now in
    let a = g.D.Disk.tells c.args.disk.now in
    on_ok c.append_one.result
    (λ both. (root_done root a (c.requires.ready honest) c.args.manifest c.args.behind c.requires.file c.append_one.new.log c.append_one.ensures.kind c.append_one.ensures.file both.0 (both.1 ∙ ap (λ (p : List ℕ). records root a ++ gate_record root.at p ∷ []) c.root_bytes.ensures)).1)
    (c.append_one.ensures.ok honest)
