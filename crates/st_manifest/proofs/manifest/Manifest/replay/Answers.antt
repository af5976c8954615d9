use Rattle.std.proofs.Common.{◌≡◌, None, Ok, IfErr, IfOk, List, Result, map, refl, subst}
use Rattle.st_gate.specs.declared.fault.ReplayFault.{ReplayFault}
use Rattle.st_gate.specs.declared.record.Record.{Record}
use Rattle.st_manifest.specs.Edit.{as_edit}
use Rattle.st_manifest.specs.Manifest.{group_record, manifest_replayed}
use Rattle.st_manifest.specs.Readings.{records_read}
use Rattle.st_manifest.specs.Replaying.{IsManifestDamage}
use Rattle.st_manifest.specs.declared.edit.Edit.{Edit}
use Rattle.st_manifest.proofs.Replayed.{bad_records, broken_file}
use Rattle.st_manifest.proofs.manifest.Manifest.replay.Goals as goal

pub returns-in-Err-default-clause-damage : goal.returns-in-Err-default-clause-damage
returns-in-Err-default-clause-damage g c = λ honest.
    let a = g.D.Disk.tells c.args.disk.now in
    let scanned = c.in_ok-scanned.scanned in
    bad_records (a.reads c.args.file) scanned.records scanned.end (c.in_ok-scanned.ensures.told honest) c.args.file c.in-Err-default.fault
    (subst (λ (l : List Record). IsManifestDamage c.args.file (records_read group_record l None) c.in-Err-default.fault) c.as_slice.ensures
    (subst (λ (r : Result (List Edit) ReplayFault). IfErr r (IsManifestDamage c.args.file (records_read group_record c.as_slice.result.now None))) c.in-Err-default.is-0 c.replay_records-replayed.ensures.damage))

pub returns-in-Ok-Damage-clause-damage : goal.returns-in-Ok-Damage-clause-damage
returns-in-Ok-Damage-clause-damage g c = λ honest.
    let a = g.D.Disk.tells c.args.disk.now in
    let scanned = c.in_ok-scanned.scanned in (
      refl,
      broken_file (a.reads c.args.file) scanned.records scanned.end (c.in_ok-scanned.ensures.told honest) c.in-Ok-Damage.at c.in-Ok-Damage.is-1 (map as_edit c.in-Ok-Damage.field-0-0)
          (subst (λ (l : List Record). manifest_replayed (records_read group_record l None) ≡ Ok (map as_edit c.in-Ok-Damage.field-0-0)) c.as_slice.ensures
          (subst (λ (r : Result (List Edit) ReplayFault). IfOk r (λ edits. manifest_replayed (records_read group_record c.as_slice.result.now None) ≡ Ok (map as_edit edits))) c.in-Ok-Damage.is-0 c.replay_records-replayed.ensures.ok)),
    )
