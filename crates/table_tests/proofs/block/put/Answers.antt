use Rattle.table_tests.proofs.block.put.Goals as goal

pub add-requires : goal.add-requires
add-requires c = record {
  key = c.has_room.ensures.key c.if-not-has_room.false;
  value = c.has_room.ensures.value c.if-not-has_room.false;
  room = c.has_room.ensures.room c.if-not-has_room.false;
}
