use Rattle.std.proofs.Common.{◌≡◌, ◌+◌, ◌≤◌, length}
use Rattle.cmd_text.specs.Lines.{lines}
use Rattle.cmd_text.specs.Script.{script_of}
use Rattle.cmd_text.proofs.Behind.{whole}
use Rattle.cmd_text.proofs.script.read_script.Given as goal

abbrev pub invariant-loop-rest : goal.invariant-loop-rest
invariant-loop-rest l = record {
  counted : l.line + length l.rest ≤ length l.text;
  read : whole l.commands (l.line + 1) (lines l.rest) ≡ script_of l.text;
  within : length l.commands ≤ 20000;
}

abbrev pub decreases-loop-rest : goal.decreases-loop-rest
decreases-loop-rest l = length l.rest
