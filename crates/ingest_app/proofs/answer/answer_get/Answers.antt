use Rattle.std.proofs.Common.{◌∷◌, [], ap, sym, ◌∙◌}
use Rattle.st_model.specs.declared.reply.Reply.TheVariants.{Refused}
use Rattle.st_model.specs.Answer.{unknown_families}
use Rattle.st_model.specs.Reads.{found, read_in}
use Rattle.ingest_app.proofs.Answering.{first_reply}
use Rattle.ingest_app.proofs.answer.answer_get.Goals as goal

pub returns-in-Ok-Some-clause-answered : goal.returns-in-Ok-Some-clause-answered
returns-in-Ok-Some-clause-answered g c = λ state h. (
  c.place-place.ensures state h,
  sym (c.in-Ok-Some.ensures.ok state h ∙ ap found c.in-Ok-Some.field-0-is),
)

pub returns-in-Ok-None-clause-answered : goal.returns-in-Ok-None-clause-answered
returns-in-Ok-None-clause-answered g c = λ state h. (
  c.place-place.ensures state h,
  sym (c.in-Ok-None.ensures.ok state h ∙ ap found c.in-Ok-None.field-0-is),
)

pub returns-in_ok-shown-in-Err-clause-answered : goal.returns-in_ok-shown-in-Err-clause-answered
returns-in_ok-shown-in-Err-clause-answered g c = λ state h. (
  c.place-place.ensures state h,
  ap Refused c.in_ok-shown-in-Err.ensures.same
      ∙ first_reply (unknown_families state (c.args.family.now ∷ [])) c.in-Err.refusal (found (read_in state state.last c.args.family.now c.args.key.now)) (c.in-Err.ensures.refused state h) c.in-Err.ensures.no_stop c.in_ok-shown-in-Err.ensures.memory,
)
