-- Numbers of a memtable that stay below the next one.
use Rattle.std.proofs.Common.{◌≡◌, ℕ, ◌+◌, ◌<◌, ◌≤◌, Bool, true, false, cond, List, [], ◌∷◌, refl, sym, ◌∙◌, ap, subst, arith}
use Rattle.std.specs.List.{AllByRecursion as Each}
use Rattle.st_base.specs.Order.{comes_before}
use Rattle.st_base.specs.declared.entry.Entry.{Entry}
use Rattle.st_memtable.specs.Memtable.{put_in_memory, with_memory_entries}

higher : (next more : ℕ) → next ≤ more → (entries : List Entry) → Each (λ one. one.number < next) entries → Each (λ one. one.number < more + 1) entries
higher next more le [] each = tt
higher next more le (one ∷ others) each = (omega (arith, le, each.0), higher next more le others each.1)

put_below : (entry : Entry) (next : ℕ) → next ≤ entry.number → (entries : List Entry) → Each (λ one. one.number < next) entries → Each (λ one. one.number < entry.number + 1) (put_in_memory entry entries)
put_below entry next le [] each = (omega arith, tt)
put_below entry next le (one ∷ others) each = at (comes_before entry one) (put_below entry next le others each.1)
  where
    at : (b : Bool) → Each (λ one. one.number < entry.number + 1) (put_in_memory entry others) → Each (λ one. one.number < entry.number + 1) (cond b (entry ∷ one ∷ others) (one ∷ put_in_memory entry others))
    at true rest = (omega arith, higher next entry.number le (one ∷ others) each)
    at false rest = (omega (arith, le, each.0), rest)

-- of a memtable that takes one entry more
pub stays_below : (entry : Entry) (next : ℕ) (before more after : List Entry) → next ≤ entry.number → more ≡ entry ∷ [] → after ≡ with_memory_entries before more
    → Each (λ one. one.number < next) before → Each (λ one. one.number < entry.number + 1) after
stays_below entry next before more after le one is each =
    subst (Each (λ one. one.number < entry.number + 1)) (sym (is ∙ ap (with_memory_entries before) one)) (put_below entry next le before each)
