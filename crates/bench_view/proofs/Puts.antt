-- What each entry keeps when one is put.
use Rattle.std.proofs.Common.{ℕ, ◌+◌, ◌≤◌, Bool, true, false, cond, List, [], ◌∷◌, arith}
use Rattle.std.specs.List.{AllByRecursion as Each}
use Rattle.st_base.specs.Order.{comes_before}
use Rattle.st_base.specs.declared.entry.Entry.{Entry}
use Rattle.st_memtable.specs.Memtable.{put_in_memory}

pub put_within : (last : ℕ) (entry : Entry) (others : List Entry) → entry.number ≤ last + 1 → Each (λ (other : Entry). other.number ≤ last) others → Each (λ (other : Entry). other.number ≤ last + 1) (put_in_memory entry others)
put_within last entry [] this each = (this, tt)
put_within last entry (other ∷ others) this each = step (comes_before entry other) (put_within last entry others this each.1)
  where
    all : (some : List Entry) → Each (λ (x : Entry). x.number ≤ last) some → Each (λ (x : Entry). x.number ≤ last + 1) some
    all [] each = tt
    all (x ∷ some) each = (let le = each.0 in omega arith, all some each.1)

    step : (b : Bool) → Each (λ (x : Entry). x.number ≤ last + 1) (put_in_memory entry others) → Each (λ (x : Entry). x.number ≤ last + 1) (cond b (entry ∷ other ∷ others) (other ∷ put_in_memory entry others))
    step true rest = (this, all (other ∷ others) each)
    step false rest = (let le = each.0 in omega arith, rest)
