-- Which levels and numbers the files of an accepted request may get.
use Rattle.std.specs.Prelude.{ℕ, Bool, ◌&&◌, ◌||◌, not, ◌+◌, ◌≤◌, ◌<◌, ◌≡◌, ◌==◌, IsTrue, length, take, drop, List}
use Rattle.std.specs.Prelude.{[], ◌∷◌, map, filter, fold, is_some, MatchBool, IsSomeAnd, ⊤}
use Rattle.std.specs.List.{list_any, AllZip}
use Rattle.st_base.specs.Bytes.{at_most}
use Rattle.st_base.specs.declared.entry.KeyRange.{KeyRange}
use Rattle.st_model.specs.declared.reply.Placed.{Placed}
use Rattle.st_model.specs.declared.state.ModelFamily.{ModelFamily}
use Rattle.st_model.specs.declared.state.ModelState.{ModelState}
use Rattle.st_model.specs.State.{family_of, lowest}
use Rattle.st_model.specs.Early.{MayBeEarly}
use Rattle.st_model.specs.Refusals.{sure_cause}
use Rattle.st_model.specs.Request.{File, Argument, entries_of_file, range_of_file, asks_behind}

-- a known key stands at or before the file's last key, and one at or after its first
abbrev pub is_among_known : ModelFamily → KeyRange → Bool
is_among_known family range =
    list_any (λ known. at_most known range.last) family.known && list_any (at_most range.first) family.known

-- a file behind goes to the last level, without a number
pub record IsPlacedBehind (file : File) (placed : Placed) : Type 0 where
  pub level : placed.level ≡ 6
  pub number : placed.number ≡ 0

-- any other file of the argument
pub record IsPlacedFile (state : ModelState) (family : ModelFamily) (argument : Argument) (file : File)
    (placed : Placed) : Type 0 where
  pub level : placed.level ≤ lowest state
  pub bottom : IsTrue argument.options.fail_if_not_bottommost_level → placed.level ≡ lowest state
  -- where a cause is sure, it is numbered
  pub sure : IsTrue (is_some (sure_cause state argument)) → 0 < placed.number
  -- it is numbered only for that, or for known keys around it, and only where the argument lets it
  pub caused : 0 < placed.number
      → IsTrue (is_some (sure_cause state argument) || is_among_known family (range_of_file file))
  pub allowed : 0 < placed.number → IsTrue argument.options.allow_global_seqno
  -- without a number its pairs come below all others
  pub early : placed.number ≡ 0 → MayBeEarly state family (entries_of_file file) argument.options

-- the numbers that were given, in order
abbrev pub numbers_of : List Placed → List ℕ
numbers_of placed = filter (λ number. not (number == 0)) (map (λ one. one.number) placed)

-- each number is the next one, the first behind `last`
abbrev pub AreNext : ℕ → List ℕ → Type 0
AreNext last [] = ⊤
AreNext last (number ∷ numbers) = (number ≡ last + 1) × AreNext number numbers

-- the files of one argument
abbrev pub IsPlacedArgument : ModelState → ℕ → Argument → List Placed → Type 0
IsPlacedArgument state last argument placed =
    MatchBool (asks_behind argument)
    (AllZip IsPlacedBehind argument.files placed)
    (AreNext last (numbers_of placed)
    × IsSomeAnd (family_of state argument.family)
    (λ family. AllZip (IsPlacedFile state family argument) argument.files placed))

abbrev pub last_number_after : ℕ → List Placed → ℕ
last_number_after last placed = fold (λ before number. number) last (numbers_of placed)

-- the files of all arguments, in the order of the request
abbrev pub ArePlaced : ModelState → ℕ → List Argument → List Placed → Type 0
ArePlaced state last [] placed = placed ≡ []
ArePlaced state last (argument ∷ arguments) placed =
    IsPlacedArgument state last argument (take (length argument.files) placed)
    × ArePlaced state (last_number_after last (take (length argument.files) placed)) arguments
    (drop (length argument.files) placed)
