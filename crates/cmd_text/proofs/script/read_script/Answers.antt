use Rattle.std.proofs.Common.{◌+◌, length, sym}
use Rattle.std.proofs.lemmas.Bool.{eqb-true}
use Rattle.cmd_text.proofs.Behind.{whole_end}
use Rattle.cmd_text.proofs.EachCommand.{each_of_one_key}
use Rattle.cmd_text.proofs.script.read_script.Goals as goal

pub returns-clause-commands : goal.returns-clause-commands
returns-clause-commands c =
    let read = c.loop-rest in
    let none = eqb-true (length read.rest.now) 0 (sym c.loop-rest-test.ensures) in
    each_of_one_key c.args.text.now read.commands (whole_end c.args.text.now read.commands (read.line + 1) read.rest.now none read.invariant.read)
