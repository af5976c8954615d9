use Rattle.std.proofs.Common.{◌≡◌, ◌∙◌, Option, None, List, ℕ, ap, is_eq}
use Rattle.std.specs.BTreeMap.{get}
use Rattle.st_base.specs.Bytes.{bytes_cmp}
use Rattle.st_base.specs.declared.entry.Mark.{Mark}
use Rattle.log_engine.proofs.Rooms.{room_same, room_keeps, found_alike, none_there}
use Rattle.log_engine.proofs.newest.Newest.make_room.Goals as goal

pub returns-in_ok-insert-clause-unchanged : goal.returns-in_ok-insert-clause-unchanged
returns-in_ok-insert-clause-unchanged c = λ other.
    let old : List ℕ → Option (Option Mark) = get bytes_cmp c.args.self.now.map in
    let none : old c.args.key.now ≡ None = none_there (old c.args.key.now) c.contains_key.result c.contains_key.ensures c.if-not-contains_key.true in
    room_same (old other) (get bytes_cmp c.insert.new.self other) (is_eq (bytes_cmp c.in_ok-clone.field-0 other)) (c.in_ok-insert.ensures.updates.0 other)
    (λ is. found_alike old c.in_ok-clone.field-0 other (ap old c.in_ok-clone.ensures.cases ∙ none) is)

pub returns-in_ok-insert-clause-rooms : goal.returns-in_ok-insert-clause-rooms
returns-in_ok-insert-clause-rooms c = λ other some.
    room_keeps (get bytes_cmp c.args.self.now.map other) (get bytes_cmp c.insert.new.self other) None (is_eq (bytes_cmp c.in_ok-clone.field-0 other)) (c.in_ok-insert.ensures.updates.0 other) some
