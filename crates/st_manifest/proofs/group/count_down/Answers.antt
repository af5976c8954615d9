use Rattle.std.proofs.Common.{◌≡◌, ◌+◌, ◌-◌, ◌++◌, ◌∙◌, ap, arith, length, List, ℕ}
use Rattle.st_code.specs.Fixed.{fixed32}
use Rattle.st_manifest.proofs.Laying.{numbered_all, numbered_more}
use Rattle.st_manifest.proofs.group.count_down.Goals as goal

pub loop-body-preserved : goal.loop-body-preserved
loop-body-preserved c =
    let before = c.loop-body.invariant.left in
    let left : c.loop-body.left - 1 ≡ length c.args.bodies.now - (c.loop-body.body-index + 1) = omega (arith, before) in
    record {
      so_far = numbered_more c.args.bodies.now c.loop-body.payloads c.push.new.self c.loop-body.body-index (c.loop-body.left - 1) c.body-item.result c.extend_from_slice.new.self c.loop-body-test.true c.body-item.is c.loop-body.invariant.so_far left
          (c.in_ok-extend_from_slice.ensures.ok ∙ (λ i. (c.in_ok-push_fixed32.ensures.ok ∙ ap (λ (l : List ℕ). l ++ fixed32 (c.loop-body.left - 1)) c.new-payload.ensures) i ++ c.as_slice.ensures i)) c.in_ok-push.ensures.ok;
      left = left;
    }

pub returns-clause-payloads : goal.returns-clause-payloads
returns-clause-payloads c = numbered_all c.args.bodies.now c.loop-body.payloads c.loop-body.body-index c.loop-body.invariant.so_far (omega arith)
