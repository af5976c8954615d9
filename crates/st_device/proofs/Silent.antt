-- Calls of a disk that tells nothing of what it holds.
use Rattle.std.proofs.Common.{◌≡◌, ℕ, ◌≤◌, refl, arith}
use Rattle.st_base.specs.Count.{Rose}
use Rattle.st_device.specs.Disk.{ChangesDisk, Passes, ReadsDisk, Untouched}
use Rattle.st_device.specs.Silent.{silent}

module _ (top top' faults faults' : ℕ) (tops : top ≤ top') (rises : faults ≤ faults') where
  silent_passes : Passes (silent top faults) (silent top' faults')
  silent_passes = record {
    later = omega arith;
    faults = rises;
    top = tops;
    honest_on = λ h. h;
    honest_back = λ h. h;
    ends = λ x now. now;
    was = λ t x le left. absurd left;
    keeps = λ t x le left. left;
    adds = λ t x le left. left;
  }

  pub silent_untouched : Untouched (silent top faults) (silent top' faults')
  silent_untouched = record { reads = refl; now = λ x. (λ now. now, λ now. now); crash = λ x left. left }

  pub silent_changes : {F : Type 0} {most : ℕ} → top' ≡ most → (F → Rose faults faults') → ChangesDisk (silent top faults) (silent top' faults') most F
  silent_changes is cause = record { passes = silent_passes; top = is; cause = cause }

  pub silent_reads : {F : Type 0} → top' ≡ top → (F → Rose faults faults') → ReadsDisk (silent top faults) (silent top' faults') F
  silent_reads is cause = record { untouched = silent_untouched; passes = silent_passes; top = is; cause = cause }
