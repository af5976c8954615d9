-- Entries whose keys rise are in order under one number.
use Rattle.std.proofs.Common.{◌≡◌, ◌<◌, ◌^◌, ℕ, true, List, [], ◌∷◌, Ordering, Less, Equal, Greater, refl}
use Rattle.std.specs.List.{AllByRecursion}
use Rattle.std.specs.Ordering.{nat_cmp, ordering_then, is_lt}
use Rattle.std.proofs.lemmas.Bool.{and_parts, and_from}
use Rattle.st_base.specs.Bytes.{below, bytes_cmp}
use Rattle.st_base.specs.Order.{comes_before, rises_behind, in_order}
use Rattle.st_base.specs.Range.{keys_rise, under_number, with_number}
use Rattle.st_base.specs.Rows.{AreRows, Fits}
use Rattle.st_base.specs.declared.entry.Entry.{Entry}

less_first : (o p : Ordering) → is_lt o ≡ true → is_lt (ordering_then o p) ≡ true
less_first Less p e = refl
less_first Equal p e = cc
less_first Greater p e = cc

rise_behind : (number : ℕ) (entry : Entry) (entries : List Entry) → rises_behind (λ one other. below one.key other.key) entry entries ≡ true
    → rises_behind comes_before (with_number number entry) (under_number number entries) ≡ true
rise_behind number entry [] e = refl
rise_behind number entry (other ∷ entries) e =
    let both = and_parts (below entry.key other.key) (rises_behind (λ one other. below one.key other.key) other entries) e in
    and_from (comes_before (with_number number entry) (with_number number other)) (rises_behind comes_before (with_number number other) (under_number number entries))
    (less_first (bytes_cmp entry.key other.key) (nat_cmp number number) both.0) (rise_behind number other entries both.1)

pub in_order_under : (number : ℕ) (entries : List Entry) → keys_rise entries ≡ true → in_order (under_number number entries) ≡ true
in_order_under number [] e = refl
in_order_under number (entry ∷ entries) e = rise_behind number entry entries e

pub fit_under : (number : ℕ) (entries : List Entry) → number < 2 ^ 64 → AllByRecursion Fits entries → AllByRecursion Fits (under_number number entries)
fit_under number [] small fit = tt
fit_under number (entry ∷ entries) small fit = (record { key = fit.0.key; mark = fit.0.mark; number = small }, fit_under number entries small fit.1)

-- they are rows again
pub rows_under : (number : ℕ) (entries : List Entry) → number < 2 ^ 64 → AreRows entries → keys_rise entries ≡ true → AreRows (under_number number entries)
rows_under number entries small rows rise = record { ordered = in_order_under number entries rise; within = fit_under number entries small rows.within }
