use Rattle.std.proofs.Common.{◌≡◌, ℕ, List}
use Rattle.std.specs.List.{AllByRecursion as Each}
use Rattle.st_wal.specs.Batch.{Operation}
use Rattle.log_engine.specs.Newest.{HasRoom, newest_at}
use Rattle.log_engine.specs.Op.{marks_after_all}
use Rattle.log_engine.proofs.newest.Newest.set_all.Given as goal

abbrev pub invariant-loop-key : goal.invariant-loop-key
invariant-loop-key l = record {
  keeps : (key : List ℕ) → HasRoom l.initial.self key → HasRoom l.self key;
  marks : Each (λ (operation : Operation). HasRoom l.initial.self operation.1) l.yielded → (key : List ℕ) → newest_at l.self key ≡ marks_after_all (newest_at l.initial.self) l.yielded key;
}
