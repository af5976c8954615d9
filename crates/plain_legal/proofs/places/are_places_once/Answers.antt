use Rattle.std.proofs.Common.{map}
use Rattle.std.proofs.lemmas.Bool.Decides.{Decides-at}
use Rattle.st_model.specs.declared.command.Call.{Call}
use Rattle.plain_legal.proofs.Decide.{next_decides}
use Rattle.plain_legal.proofs.places.are_places_once.Goals as goal

pub returns : goal.returns
returns c = Decides-at _ _ c.are_numbered.ensures (next_decides 0 (map (λ (call : Call). call.place) c.args.accepted.now))
