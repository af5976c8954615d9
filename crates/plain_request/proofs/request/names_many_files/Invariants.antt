use Rattle.std.proofs.Common.{◌≡◌, ◌+◌, drop, Some}
use Rattle.st_model.specs.Asked.{names_files}
use Rattle.plain_request.proofs.request.names_many_files.Given as goal

abbrev pub invariant-loop-argument : goal.invariant-loop-argument
invariant-loop-argument l = names_files (Some l.arguments) + l.left ≡ 1024 + names_files (Some (drop l.argument-index l.arguments))
