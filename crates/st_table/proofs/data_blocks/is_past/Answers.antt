use Rattle.st_table.proofs.data_blocks.is_past.Goals as goal

pub read-requires : goal.read-requires
read-requires c = c.start-start.ensures.stands c.args.scratch.now
