use Rattle.build_text.proofs.Building.{key_too_large}
use Rattle.build_text.proofs.line.put_fault.Goals as goal

pub returns-in-Ok : goal.returns-in-Ok
returns-in-Ok c = λ key_read value_read k v.
    let long = rw c.in-TooLong.is at k in
    let other = rw c.in-Ok.is at v in
    key_too_large key_read value_read long.0 _ long.1 long.2 other.0
