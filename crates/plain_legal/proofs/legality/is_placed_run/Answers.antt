use Rattle.plain_legal.proofs.Whole.{placed_from, once_there, awaits_there, within_there}
use Rattle.plain_legal.proofs.legality.is_placed_run.Goals as goal

pub returns-then-are_awaits_right : goal.returns-then-are_awaits_right
returns-then-are_awaits_right c = (
  (λ h. placed_from c.args.opening.now c.args.transcripts.now c.args.calls.now c.args.accepted.now c.requires.all c.requires.accepted
      (c.is_opening.ensures.0 c.if-not-is_opening.false) (c.ask_rightly.ensures.0 c.if-not-ask_rightly.false)
      (c.are_places_once.ensures.0 c.if-not-are_places_once.false) (c.are_in_order.ensures.0 c.if-not-are_in_order.false)
      (c.are_awaits_right.ensures.0 c.if-are_awaits_right.true) (c.are_within.ensures.0 h)),
  (λ placed. c.are_within.ensures.1
      ((within_there c.args.opening.now c.args.transcripts.now c.args.calls.now c.args.accepted.now c.requires.all c.requires.accepted).1 placed.within)),
)
