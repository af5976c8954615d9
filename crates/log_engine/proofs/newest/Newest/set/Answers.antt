use Rattle.std.proofs.Common.{is_eq, rules, sym}
use Rattle.std.specs.BTreeMap.{get}
use Rattle.st_base.specs.Bytes.{bytes_cmp, same}
use Rattle.st_base.proofs.Same.{same_is_eq}
use Rattle.log_engine.proofs.Rooms.{room_keeps, set_there}
use Rattle.log_engine.proofs.newest.Newest.set.Goals as goal

pub returns-in-Some-clause-set : goal.returns-in-Some-clause-set
returns-in-Some-clause-set c = λ room other.
    let updates = (c.get_mut.follows.holds c.args.mark).3 (search rules) in
    set_there (get bytes_cmp c.args.self.now.map other) (get bytes_cmp (c.get_mut.follows.lender c.args.mark) other) c.args.mark (is_eq (bytes_cmp c.args.key.now other)) (same c.args.key.now other) (sym (same_is_eq c.args.key.now other)) (updates.0 other)

pub returns-in-Some-clause-rooms : goal.returns-in-Some-clause-rooms
returns-in-Some-clause-rooms c = λ other some.
    let updates = (c.get_mut.follows.holds c.args.mark).3 (search rules) in
    room_keeps (get bytes_cmp c.args.self.now.map other) (get bytes_cmp (c.get_mut.follows.lender c.args.mark) other) c.args.mark (is_eq (bytes_cmp c.args.key.now other)) (updates.0 other) some
