use Rattle.std.proofs.Common.{◌≡◌, map}
use Rattle.st_model.specs.Contents.{as_entry, marks_charge}
use Rattle.log_engine.specs.Newest.{present}
use Rattle.log_engine.proofs.newest.Newest.charge.Given as goal

abbrev pub invariant-loop-key : goal.invariant-loop-key
invariant-loop-key l = marks_charge 0 (map as_entry (present l.self.map.entries)) ≡ marks_charge l.sum (map as_entry (present l.key-iterator))
