use Rattle.st_device.specs.Files.{image_of}
use Rattle.st_device.proofs.Record.{honest_told}
use Rattle.st_device.proofs.laws.memory_disks_are_honest.Goals as goal

pub returns : goal.returns
returns c = λ disk. honest_told (image_of disk.first) disk.steps.items disk.top disk.calls.faults
