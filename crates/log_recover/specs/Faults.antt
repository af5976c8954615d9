-- Faults of the layers below, as faults of an opening.
use Rattle.st_outside.specs.declared.read_fault.ReadFault.{ReadFault}
use Rattle.st_outside.specs.declared.read_fault.ReadFault.TheVariants.{Failed, OutOfMemory as ReadMemory}
use Rattle.log_recover.specs.declared.fault.OpenFault.{OpenFault}
use Rattle.log_recover.specs.declared.fault.OpenFault.TheVariants.{Damaged, DiskFault, OutOfMemory}

abbrev pub of_read : ReadFault → OpenFault
of_read Failed = DiskFault
of_read ReadMemory = OutOfMemory
