-- The numbers of the statuses.
use Rattle.std.specs.Prelude.{ℕ}
use Rattle.ingest_app.specs.declared.status.Status.{Status}
use Rattle.ingest_app.specs.declared.status.Status.TheVariants.{Done, Refused, Memory, InputFault, DiskFault, SinkFault, Script, Damaged, NotYet}

abbrev pub status_number : Status → ℕ
status_number Done = 0
status_number Refused = 1
status_number Memory = 3
status_number InputFault = 4
status_number DiskFault = 5
status_number SinkFault = 6
status_number Script = 7
status_number Damaged = 8
status_number NotYet = 9
