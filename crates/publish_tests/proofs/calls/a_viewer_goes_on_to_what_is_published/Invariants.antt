use Rattle.publish_tests.proofs.calls.a_viewer_goes_on_to_what_is_published.Given as goal

abbrev pub ghosts-go_on : goal.ghosts-go_on
ghosts-go_on g a = record { book = a.blank.seen.book }
