use Rattle.std.proofs.Common.{◌≡◌, ◌+◌, drop}
use Rattle.st_model.specs.Request.{files_named}
use Rattle.plain_request.proofs.exact.has_many_files.Given as goal

abbrev pub invariant-loop-argument : goal.invariant-loop-argument
invariant-loop-argument l = files_named l.request + l.left ≡ 1024 + files_named (drop l.argument-index l.request)
