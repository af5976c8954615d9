use Rattle.std.proofs.Common.{refl}
use Rattle.st_manifest.proofs.Taking.{record_shows}
use Rattle.st_manifest.proofs.replay.replay_records.Goals as goal

pub returns-in-Some-clause-damage : goal.returns-in-Some-clause-damage
returns-in-Some-clause-damage c =
    let on = c.loop-one.invariant in (
      refl,
      (record_shows c.args.records.now c.loop-one.one-index c.loop-one.replaying on c.one-item.result c.loop-one-test.true c.one-item.is c.take.new.self c.in_ok-at.field-0
          (c.in_ok-at.ensures on.reading on.found on.so_far)).0 c.in-Some.at c.in-Some.is,
    )

pub loop-one-preserved : goal.loop-one-preserved
loop-one-preserved c =
    let on = c.loop-one.invariant in
    (record_shows c.args.records.now c.loop-one.one-index c.loop-one.replaying on c.one-item.result c.loop-one-test.true c.one-item.is c.take.new.self c.in_ok-at.field-0
    (c.in_ok-at.ensures on.reading on.found on.so_far)).1 c.in-None.is
