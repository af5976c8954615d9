-- How far, from a key on, the ranges of tables cover keys.
use Rattle.std.specs.Prelude.{ℕ, ◌&&◌, ◌||◌, IsTrue, List}
use Rattle.std.specs.List.{list_any, AllByRecursion as Each}
use Rattle.st_base.specs.Bytes.{at_most, below, same}
use Rattle.st_base.specs.Range.{is_in_range}
use Rattle.st_base.specs.declared.entry.KeyRange.{KeyRange}
use Rattle.st_drops.specs.declared.cover.Cover.{Cover}
use Rattle.st_drops.specs.declared.cover.Cover.TheVariants.{Through, NoneBefore, Never}

-- the key lies in a range with this last key
abbrev pub CoversThrough : List KeyRange → List ℕ → List ℕ → Type 0
CoversThrough ranges key last = IsTrue (list_any (λ range. is_in_range range key && same range.last last) ranges)

-- a proper range begins with this key, which is above the other, and each range ends below that or begins at or after this
pub record CoversNoneBefore (ranges : List KeyRange) (key first : List ℕ) : Type 0 where
  pub begins : IsTrue (list_any (λ range. same range.first first && at_most range.first range.last) ranges)
  pub above : IsTrue (below key first)
  pub clear : Each (λ range. IsTrue (below range.last key || at_most first range.first)) ranges

-- each range ends below the key
abbrev pub EndBelow : List KeyRange → List ℕ → Type 0
EndBelow ranges key = Each (λ range. IsTrue (below range.last key)) ranges

abbrev pub TellsCover : List KeyRange → List ℕ → Cover → Type 0
TellsCover ranges key (Through last) = CoversThrough ranges key last.now
TellsCover ranges key (NoneBefore first) = CoversNoneBefore ranges key first.now
TellsCover ranges key Never = EndBelow ranges key
