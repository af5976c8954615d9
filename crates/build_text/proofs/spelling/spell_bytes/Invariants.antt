use Rattle.std.proofs.Common.{◌≡◌, ◌++◌, length}
use Rattle.std.specs.Option.{option_map}
use Rattle.build_text.specs.Words.{spelled_bytes}
use Rattle.build_text.proofs.spelling.spell_bytes.Given as goal

abbrev pub invariant-loop-rest : goal.invariant-loop-rest
invariant-loop-rest l = option_map (λ left. l.scratch ++ left) (spelled_bytes l.rest) ≡ spelled_bytes l.spelling

abbrev pub decreases-loop-rest : goal.decreases-loop-rest
decreases-loop-rest l = length l.rest
