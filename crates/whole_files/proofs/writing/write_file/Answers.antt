use Rattle.std.proofs.Common.{List, ℕ, Option}
use Rattle.st_device.proofs.File.{only_start, only_then, only_twice, only_synced}
use Rattle.st_device.proofs.Moments.{passes_start, passes_then}
use Rattle.whole_files.proofs.writing.write_file.Goals as goal

abbrev Any : Option (List ℕ) → Type 0
Any this = Unit {0}

pub returns-in_err-write_pieces-clause-only : goal.returns-in_err-write_pieces-clause-only
returns-in_err-write_pieces-clause-only g c = λ honest.
    let file = c.args.file in
    let clock = g.met.D.Disk.clock c.args.disk.now in
    let p1 = c.create.ensures.disk.passes in
    let made = c.create.ensures.told honest in
    let o1 = only_then file Any _ (passes_start clock) p1 (only_start file Any clock (λ x now. tt)) made.others made.crash (λ d this now was how. tt) in
    only_twice file Any Any p1 c.write_pieces.ensures.disk.passes o1 (c.write_pieces.ensures.only (p1.honest_on honest)) (λ o any. tt)

pub returns-in_err-sync-clause-only : goal.returns-in_err-sync-clause-only
returns-in_err-sync-clause-only g c = λ honest.
    let file = c.args.file in
    let clock = g.met.D.Disk.clock c.args.disk.now in
    let p1 = c.create.ensures.disk.passes in
    let p2 = passes_then p1 c.write_pieces.ensures.disk.passes in
    let made = c.create.ensures.told honest in
    let o1 = only_then file Any _ (passes_start clock) p1 (only_start file Any clock (λ x now. tt)) made.others made.crash (λ d this now was how. tt) in
    let o2 = only_twice file Any Any p1 c.write_pieces.ensures.disk.passes o1 (c.write_pieces.ensures.only (p1.honest_on honest)) (λ o any. tt) in
    only_synced file Any p2 c.sync.ensures.disk.passes o2 (c.sync.ensures.told (p2.honest_on honest))

pub returns-clause-only : goal.returns-clause-only
returns-clause-only g c = λ honest.
    let file = c.args.file in
    let clock = g.met.D.Disk.clock c.args.disk.now in
    let p1 = c.create.ensures.disk.passes in
    let p2 = passes_then p1 c.write_pieces.ensures.disk.passes in
    let made = c.create.ensures.told honest in
    let o1 = only_then file Any _ (passes_start clock) p1 (only_start file Any clock (λ x now. tt)) made.others made.crash (λ d this now was how. tt) in
    let o2 = only_twice file Any Any p1 c.write_pieces.ensures.disk.passes o1 (c.write_pieces.ensures.only (p1.honest_on honest)) (λ o any. tt) in
    only_synced file Any p2 c.sync.ensures.disk.passes o2 (c.sync.ensures.told (p2.honest_on honest))
