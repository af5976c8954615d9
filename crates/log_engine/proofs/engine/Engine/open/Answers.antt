use Rattle.log_recover.specs.Contents.{opened_contents}
use Rattle.log_engine.proofs.engine.Engine.open.Goals as goal

pub returns-in-Err-clause-damage : goal.returns-in-Err-clause-damage
returns-in-Err-clause-damage g c = λ honest. c.in-Err.ensures.damage honest c.args.options.behind

pub returns-in-Ok-open-clause-opened : goal.returns-in-Ok-open-clause-opened
returns-in-Ok-open-clause-opened g c = record {
  from = opened_contents c.args.options.behind c.in-Ok.operations;
  read = λ honest. c.in-Ok.ensures.ok honest c.args.options.behind;
  stands = c.in-Ok-open.ensures.stands;
}
