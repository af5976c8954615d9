use Rattle.publish_tests.proofs.calls.a_snapshot_is_taken_behind_a_stop.Given as goal

abbrev pub ghosts-go_on_stopped : goal.ghosts-go_on_stopped
ghosts-go_on_stopped g a = record { book = a.blank.seen.book }
