-- A scan over the merged walk of a family, and the model's.
use Rattle.std.specs.Prelude.{ℕ, ◌≡◌, Contains, List, Some, length}
use Rattle.core_model.specs.Picture.{FamilyView, find_mark, walk}
use Rattle.core_model.specs.RelationParts.{NumbersFall}
use Rattle.core_model.specs.StatePicture.{RepresentsState, StatePicture}
use Rattle.st_base.specs.Map.{value_at}
use Rattle.st_base.specs.declared.entry.KeyRange.{KeyRange}
use Rattle.st_merge.specs.Scan.{cut_pairs, live_pairs}
use Rattle.st_model.specs.Early.{read_numbers}
use Rattle.st_model.specs.Read.{read, value_of}
use Rattle.st_model.specs.Scan.{pairs_in, pairs_within, scanned}
use Rattle.st_model.specs.Sound.{KeysRise}
use Rattle.st_model.specs.State.{family_of}
use Rattle.st_model.specs.declared.state.ModelFamily.{ModelFamily}
use Rattle.st_model.specs.declared.state.ModelState.{ModelState}
use Rattle.st_order.specs.Sorted.{merged}

-- of a family of seven levels that reads as the model's at a number
abbrev pub ScansReadTheWalk : Type 0
ScansReadTheWalk = (family : FamilyView) (kept : ModelFamily) (number : ℕ) (range : KeyRange) (limit : ℕ)
    → length family.levels ≡ 7 → NumbersFall family → KeysRise kept.base
    → ((key : List ℕ) → value_of (find_mark family number key) ≡ read kept number key)
    → cut_pairs limit 0 (live_pairs range number (merged (walk family)))
    ≡ scanned limit 0 (pairs_within kept number range)

-- of a family of a picture that stands for the model's state, at a number at which that is read
abbrev pub ScansAreTheModels : Type 0
ScansAreTheModels = (picture : StatePicture) (place : ℕ) (state : ModelState) (name : List ℕ) (family : FamilyView)
    (kept : ModelFamily) (number : ℕ) (range : KeyRange) (limit : ℕ)
    → RepresentsState picture place state → value_at picture.families name ≡ Some family
    → family_of state name ≡ Some kept → Contains (read_numbers state) number
    → cut_pairs limit 0 (live_pairs range number (merged (walk family)))
    ≡ scanned limit 0 (pairs_in state number name range)
