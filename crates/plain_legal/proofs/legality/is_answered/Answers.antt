use Rattle.std.proofs.Common.{IsTrue}
use Rattle.std.specs.Prelude.{◌↔◌}
use Rattle.std.specs.List.{AllByRecursion as Each}
use Rattle.std.proofs.lemmas.Result.{IfOk-weaker}
use Rattle.st_model.specs.declared.command.Call.{Call}
use Rattle.plain_legal.specs.Runs.{IsAnsweredAlong, IsAnsweredInRun}
use Rattle.plain_legal.proofs.Whole.{changes_there, within_there, turn_there, answered_there}
use Rattle.plain_legal.proofs.legality.is_answered.Goals as goal

pub are_accepted_in_turn-requires : goal.are_accepted_in_turn-requires
are_accepted_in_turn-requires c = changes_there c.args.opening.now c.args.transcripts.now c.args.calls.now c.args.accepted.now c.requires.all c.requires.accepted

pub are_answered-requires-clause-changes : goal.are_answered-requires-clause-changes
are_answered-requires-clause-changes c = changes_there c.args.opening.now c.args.transcripts.now c.args.calls.now c.args.accepted.now c.requires.all c.requires.accepted

pub are_answered-requires-clause-within : goal.are_answered-requires-clause-within
are_answered-requires-clause-within c =
    (within_there c.args.opening.now c.args.transcripts.now c.args.calls.now c.args.accepted.now c.requires.all c.requires.accepted).1 c.requires.placed.within

pub returns : goal.returns
returns c =
    let turn = (turn_there c.args.opening.now c.args.transcripts.now c.args.calls.now c.args.accepted.now c.requires.all c.requires.accepted c.args.capacity).0
    (c.in_ok-are_accepted_in_turn.ensures.0 c.if-not-branch.false) in
    let same = answered_there c.args.opening.now c.args.transcripts.now c.args.calls.now c.args.accepted.now c.requires.all c.requires.accepted c.args.capacity in
    IfOk-weaker c.are_answered.result
    (λ holds. IsTrue holds ↔ Each (IsAnsweredAlong c.args.opening.now c.args.capacity c.args.accepted.now) c.args.calls.now)
    (λ holds. IsTrue holds ↔ IsAnsweredInRun c.args.opening.now c.args.capacity c.args.transcripts.now)
    (λ holds h. ((λ t. record { accepted = turn; answered = same.0 (h.0 t) }), (λ is. h.1 (same.1 is.answered))))
    c.are_answered.ensures
