use Rattle.table_tests.proofs.block.reads_first.Goals as goal

pub read-requires : goal.read-requires
read-requires c = c.start-start.ensures.stands c.args.scratch.now
