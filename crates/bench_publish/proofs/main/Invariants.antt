use Rattle.bench_publish.proofs.main.Given as goal

abbrev pub ghosts-measured : goal.ghosts-measured
ghosts-measured g a = record { book = a.blank.seen.book }
