-- Rows are a sorted run, and a sorted run whose numbers have 64 bits is rows.
use Rattle.std.proofs.Common.{◌<◌, ◌^◌, List}
use Rattle.std.specs.List.{AllByRecursion as Each}
use Rattle.st_base.specs.Rows.{AreRows, Fits}
use Rattle.st_base.specs.declared.entry.Entry.{Entry}
use Rattle.base_laws.proofs.Lists.{each_as, each_both}
use Rattle.core_model.specs.RelationParts.{FitsSizes, IsSortedRun}

pub rows_sorted : (entries : List Entry) → AreRows entries → IsSortedRun entries
rows_sorted entries rows = record {
  ordered = rows.ordered;
  within = each_as Fits FitsSizes (λ entry fit. (fit.key, fit.mark)) entries rows.within;
}

pub sorted_rows : (entries : List Entry) → IsSortedRun entries → Each (λ entry. entry.number < 2 ^ 64) entries → AreRows entries
sorted_rows entries run small = record {
  ordered = run.ordered;
  within = each_both FitsSizes (λ entry. entry.number < 2 ^ 64) Fits
      (λ entry sizes lt. record { key = sizes.0; mark = sizes.1; number = lt }) entries run.within small;
}
