use Rattle.std.proofs.Common.{◌≡◌, drop, map}
use Rattle.plain_legal.specs.Runs.{are_places_next, are_numbered}
use Rattle.plain_legal.proofs.places.are_numbered.Given as goal

abbrev pub invariant-loop-call : goal.invariant-loop-call
invariant-loop-call l = are_numbered l.calls ≡ are_places_next l.last (map (λ call. call.place) (drop l.call-index l.calls))
