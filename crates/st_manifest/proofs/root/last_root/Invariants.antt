use Rattle.std.proofs.Common.{◌≡◌, None, drop}
use Rattle.st_manifest.specs.Readings.{records_read}
use Rattle.st_manifest.specs.Root.{root_last, root_last_after, root_record}
use Rattle.st_manifest.proofs.root.last_root.Given as goal

abbrev pub invariant-loop-one : goal.invariant-loop-one
invariant-loop-one l = root_last (records_read root_record l.records None) ≡ root_last_after l.last (records_read root_record (drop l.one-index l.records) None)
