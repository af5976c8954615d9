use Rattle.std.proofs.Common.{◌≡◌, ◌+◌, drop, Some}
use Rattle.st_model.specs.Asked.{names_files}
use Rattle.plain_legal.proofs.asks.names_files.Given as goal

abbrev pub invariant-loop-argument : goal.invariant-loop-argument
invariant-loop-argument l = names_files (Some l.arguments) + l.left ≡ l.count + names_files (Some (drop l.argument-index l.arguments))
