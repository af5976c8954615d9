use Rattle.std.proofs.Common.{◌≡◌, ◌+◌, ◌/◌, ◌%◌, ◌∷◌, [], ◌++◌, append_assoc, arith}
use Rattle.std.specs.Fmt.{decimal}
use Rattle.std.proofs.lemmas.Fmt.{decimal_step}
use Rattle.cmd_text.proofs.print.+push_number.Goals as goal

pub returns-clause-ok : goal.returns-clause-ok
returns-clause-ok t c =
    let n = c.args.number in
    let last : decimal n ≡ decimal (n / 10) ++ (48 + n % 10) ∷ [] = decimal_step n (omega arith) (omega arith) in
    rw (last, ← append_assoc, ← c.in_ok-push_number.ensures.ok) c.push-2.ensures.ok
