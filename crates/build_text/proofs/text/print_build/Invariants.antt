use Rattle.std.proofs.Common.{◌≡◌, take}
use Rattle.build_text.specs.Build.{build_text}
use Rattle.build_text.proofs.text.print_build.Given as goal

abbrev pub invariant-loop-entry : goal.invariant-loop-entry
invariant-loop-entry l = l.text ≡ build_text (take l.entry-index l.entry-items)
