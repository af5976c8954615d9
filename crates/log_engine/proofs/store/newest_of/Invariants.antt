use Rattle.std.proofs.Common.{◌≡◌, ℕ, List}
use Rattle.st_base.specs.Map.{value_at}
use Rattle.log_recover.specs.Contents.{written_marks}
use Rattle.log_engine.specs.Newest.{newest_at, shown}
use Rattle.log_engine.proofs.store.newest_of.Given as goal

abbrev pub invariant-loop-logged : goal.invariant-loop-logged
invariant-loop-logged l = (key : List ℕ) → newest_at l.newest key ≡ shown l.behind (value_at (written_marks l.yielded) key)
