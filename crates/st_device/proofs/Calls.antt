-- What is said of one call of a disk, after another call.
use Rattle.std.proofs.Common.{◌≡◌, ℕ, ◌+◌, ◌≤◌, min, refl, sym, ◌∙◌, arith}
use Rattle.st_base.specs.Count.{Rose, greatest_count}
use Rattle.st_device.specs.Disk.{DiskTold, Clock, Passes, ChangesDisk, ReadsDisk}
use Rattle.st_device.proofs.Moments.{passes_start, passes_then, untouched_start, untouched_then}

-- the count rose then, or had risen before
pub rose_then : (a b c : ℕ) → a ≤ b → Rose b c → Rose a c
rose_then a b c le rose = omega (arith, rose)

pub rose_later : (a b c : ℕ) → b ≤ c → Rose a b → Rose a c
rose_later a b c le rose = omega (arith, rose)

-- before the first call
pub changes_start : {a : DiskTold} {F : Type 0} → Clock a → (F → ⊥) → ChangesDisk a a a.top F
changes_start clock never = record { passes = passes_start clock; top = refl; cause = λ failed. absurd (never failed) }

pub reads_start : {a : DiskTold} {F : Type 0} → Clock a → (F → ⊥) → ReadsDisk a a F
reads_start clock never = record { untouched = untouched_start clock; passes = passes_start clock; top = refl; cause = λ failed. absurd (never failed) }

-- a call that only reads is one that may change the disk
pub changes_reads : {a b : DiskTold} {F : Type 0} → ReadsDisk a b F → ChangesDisk a b a.top F
changes_reads reads = record { passes = reads.passes; top = reads.top; cause = reads.cause }

-- the same of another number and another answer, which is a failure only where the first one is
pub changes_as : {a b : DiskTold} {t most : ℕ} {F G : Type 0} → ChangesDisk a b t F → t ≡ most → (G → F) → ChangesDisk a b most G
changes_as call is fails = record { passes = call.passes; top = call.top ∙ is; cause = λ failed. call.cause (fails failed) }

pub reads_as : {a b : DiskTold} {F G : Type 0} → ReadsDisk a b F → (G → F) → ReadsDisk a b G
reads_as call fails = record { untouched = call.untouched; passes = call.passes; top = call.top; cause = λ failed. call.cause (fails failed) }

-- one call more; the answer is a failure only where that of the last call is
pub changes_then : {a b c : DiskTold} {t u most : ℕ} {F G H : Type 0} → ChangesDisk a b t F → ChangesDisk b c u G → u ≡ most → (H → G) → ChangesDisk a c most H
changes_then {a} {b} {c} first call is fails = record {
  passes = passes_then first.passes call.passes;
  top = call.top ∙ is;
  cause = λ failed. rose_then a.faults b.faults c.faults first.passes.faults (call.cause (fails failed));
}

pub reads_then : {a b c : DiskTold} {F G H : Type 0} → ReadsDisk a b F → ReadsDisk b c G → (H → G) → ReadsDisk a c H
reads_then {a} {b} {c} first call fails = record {
  untouched = untouched_then first.passes call.passes first.untouched call.untouched;
  passes = passes_then first.passes call.passes;
  top = call.top ∙ first.top;
  cause = λ failed. rose_then a.faults b.faults c.faults first.passes.faults (call.cause (fails failed));
}
