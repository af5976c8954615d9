use Rattle.std.proofs.Common.{◌≡◌, ◌+◌, ◌++◌, ◌≤◌, drop, Some}
use Rattle.st_model.specs.Asked.{names_files}
use Rattle.st_model.specs.Request.{arguments_from}
use Rattle.plain_request.proofs.request.request_of.Given as goal

abbrev pub invariant-loop-argument : goal.invariant-loop-argument
invariant-loop-argument l = record {
  number : l.number ≡ l.argument-index + 1;
  few : names_files (Some (drop l.argument-index l.arguments)) ≤ 1024;
  made : arguments_from 1 l.arguments l.seen ≡ l.request ++ arguments_from l.number (drop l.argument-index l.arguments) l.left;
}
