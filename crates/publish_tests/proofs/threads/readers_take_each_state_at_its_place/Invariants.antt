use Rattle.publish_tests.proofs.threads.readers_take_each_state_at_its_place.Given as goal

abbrev pub ghosts-read_while_written : goal.ghosts-read_while_written
ghosts-read_while_written g a = record { book = a.blank.seen.book }
