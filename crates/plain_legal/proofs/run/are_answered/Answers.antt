use Rattle.std.proofs.Common.{arith, ℕ, ◌≡◌, ◌<◌, length, take, fold, subst, IsTrue}
use Rattle.std.specs.Prelude.{◌↔◌}
use Rattle.std.specs.List.{AllByRecursion as Each}
use Rattle.std.proofs.lemmas.Result.{IfOk-weaker}
use Rattle.st_model.specs.declared.command.Call.{Call}
use Rattle.st_model.specs.History.{after_call}
use Rattle.plain_legal.specs.Runs.{IsAnsweredThere, IsAnsweredAlong}
use Rattle.plain_legal.proofs.Along.{state_more, turn_more, changes_more, answered_here, answered_more, answered_all}
use Rattle.plain_legal.proofs.run.are_answered.Goals as goal

pub loop-place-preserved : goal.loop-place-preserved
loop-place-preserved c = record {
  state = state_more c.args.opening.now c.loop-place.state c.in_ok-state-2.state c.args.capacity c.args.accepted.now c.loop-place.place c.index-accepted-place.result c.loop-place-test.true c.index-accepted-place.is
      c.in_ok-state-2.ensures c.loop-place.invariant.state;
  changes = changes_more c.args.accepted.now c.loop-place.place c.index-accepted-place.result c.loop-place-test.true c.index-accepted-place.is c.loop-place.invariant.changes;
  turn = turn_more c.args.opening.now c.loop-place.state c.in_ok-state-2.state c.args.capacity c.args.accepted.now c.loop-place.place c.index-accepted-place.result c.loop-place-test.true c.index-accepted-place.is
      c.in_ok-state-2.ensures c.loop-place.invariant.turn;
  answered = answered_more c.args.opening.now c.loop-place.state c.args.capacity c.args.calls.now c.args.accepted.now c.loop-place.place c.loop-place.invariant.state c.loop-place.invariant.answered
      (c.in_ok-are_answered_at.ensures.0 c.if-not-branch.false);
}

pub returns : goal.returns
returns c =
    let end : c.loop-place.place ≡ length c.args.accepted.now = omega (arith, c.loop-place.auto.place-end, c.loop-place-test.false) in
    let state = subst (λ (n : ℕ). c.loop-place.state ≡ fold after_call c.args.opening.now (take n c.args.accepted.now)) end c.loop-place.invariant.state in
    let before = subst (λ (n : ℕ). Each (λ (call : Call). call.place < n → IsAnsweredAlong c.args.opening.now c.args.capacity c.args.accepted.now call) c.args.calls.now) end c.loop-place.invariant.answered in
    IfOk-weaker c.are_answered_at-2.result
    (λ holds. IsTrue holds ↔ Each (IsAnsweredThere c.loop-place.state c.args.capacity (length c.args.accepted.now)) c.args.calls.now)
    (λ holds. IsTrue holds ↔ Each (IsAnsweredAlong c.args.opening.now c.args.capacity c.args.accepted.now) c.args.calls.now)
    (λ holds h. (
      (λ t. answered_all c.args.opening.now c.loop-place.state c.args.capacity c.args.calls.now c.args.accepted.now (length c.args.accepted.now) state c.requires.within before (h.0 t)),
      (λ all. h.1 (answered_here c.args.opening.now c.loop-place.state c.args.capacity c.args.calls.now c.args.accepted.now (length c.args.accepted.now) state all)),
    ))
    c.are_answered_at-2.ensures
