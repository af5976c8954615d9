use Rattle.st_block.proofs.block.Block.lower.Given as goal

abbrev pub ghosts-lower_from : goal.ghosts-lower_from
ghosts-lower_from a = record { name = a.blank.name; parts = a.blank.parts }
