use Rattle.st_merge.proofs.Readable.{found_in_scan, scan_rises}
use Rattle.st_merge.proofs.laws.scans_find_what_reads_find.Goals as goal

pub returns-clause-found : goal.returns-clause-found
returns-clause-found c = found_in_scan

pub returns-clause-rise : goal.returns-clause-rise
returns-clause-rise c = scan_rises
