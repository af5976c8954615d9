use Rattle.std.proofs.Common.{◌∙◌, ap, sym, None, List, Bool, not}
use Rattle.st_gate.specs.Damage.{ended}
use Rattle.st_gate.specs.Kind.{kind_bytes}
use Rattle.st_gate.specs.Log.{replayed}
use Rattle.st_gate.specs.declared.kind.LogKind.TheVariants.{Root}
use Rattle.st_gate.specs.declared.record.Record.{Record}
use Rattle.st_manifest.specs.Readings.{records_read}
use Rattle.st_manifest.specs.Root.{root_last, root_record}
use Rattle.st_manifest.proofs.Rooting.{bad_root, broken_root, root_damage}
use Rattle.st_manifest.proofs.root.root_replay.Goals as goal

pub returns-in-Err-default-clause-damage : goal.returns-in-Err-default-clause-damage
returns-in-Err-default-clause-damage g c = λ honest.
    let a = g.D.Disk.tells c.args.disk.now in
    let same = c.in_ok-length.ensures.disk.untouched.reads in
    let scanned = c.in_ok-scanned.scanned in
    let told = (λ i. replayed (kind_bytes Root) (sym same i 0)) ∙ c.in_ok-scanned.ensures.told (c.in_ok-length.ensures.disk.passes.honest_on honest) in
    let bad = ap (λ (l : List Record). root_last (records_read root_record l None)) (sym c.as_slice.ensures) ∙ sym c.last_root.ensures ∙ c.in-Err-default.is-0 in
    root_damage a.reads (a.reads 1) c.in_ok-length.field-0 c.in-Err-default.at (c.in_ok-length.ensures.told honest) (ap not c.is_none.ensures ∙ ap (λ (b : Bool). not (not b)) c.if-is_none.false)
    (bad_root (a.reads 0) scanned.records scanned.end c.in-Err-default.at told bad)

pub returns-in-Ok-Damage-clause-damage : goal.returns-in-Ok-Damage-clause-damage
returns-in-Ok-Damage-clause-damage g c = λ honest.
    let a = g.D.Disk.tells c.args.disk.now in
    let same = c.in_ok-length.ensures.disk.untouched.reads in
    let scanned = c.in_ok-scanned.scanned in
    let told = (λ i. replayed (kind_bytes Root) (sym same i 0)) ∙ c.in_ok-scanned.ensures.told (c.in_ok-length.ensures.disk.passes.honest_on honest) in
    let good = ap (λ (l : List Record). root_last (records_read root_record l None)) (sym c.as_slice.ensures) ∙ sym c.last_root.ensures ∙ c.in-Ok-Damage.is-0 in
    root_damage a.reads (a.reads 1) c.in_ok-length.field-0 c.in-Ok-Damage.at (c.in_ok-length.ensures.told honest) (ap not c.is_none.ensures ∙ ap (λ (b : Bool). not (not b)) c.if-is_none.false)
    (broken_root (a.reads 0) scanned.records c.in-Ok-Damage.field-0-0 c.in-Ok-Damage.at (told ∙ ap (ended scanned.records) c.in-Ok-Damage.is-1) good)
