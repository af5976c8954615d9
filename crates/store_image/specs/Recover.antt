-- An opening of any image: the core that it reads, before the counted operations become tables, and the state that it
-- stands for.
use Rattle.std.specs.Prelude.{Some, true, ℕ, Bool, ◌≡◌, ◌+◌, max, List, [], ◌∷◌, map, fold, reverse, None}
use Rattle.st_base.specs.declared.entry.Entry.{Entry}
use Rattle.std.specs.List.{AllByRecursion as Each}
use Rattle.st_model.specs.declared.state.ModelFamily.{ModelFamily}
use Rattle.st_model.specs.declared.state.ModelState.{ModelState}
use Rattle.st_model.specs.Contents.{contents}
use Rattle.core_model.specs.Crash.{newest_of, opened_charge}
use Rattle.core_model.specs.Relation.{Represents}
use Rattle.core_model.specs.Picture.{FamilyView, Core, runs_of, tables_in}
use Rattle.core_model.specs.Step.{put_in_memory}
use Rattle.st_model.specs.Sound.{KeysRise}
use Rattle.manifest_edits.specs.Edits.{Edit, Named, may_place, tables_named, edited_all}
use Rattle.store_image.specs.Image.{image_contents, image_keys, image_ranges}
use Rattle.store_image.specs.Opens.{OpenedImageFamily, OpenedImage, image_opened, image_damage}
use Rattle.store_image.specs.Parts.{ImageParts}
use Rattle.st_order.specs.Columns.{Pairwise}
use Rattle.core_model.specs.RelationParts.{IsSortedRun}

-- the entries, of which the newest come first, in entry order
abbrev pub mem_of : List Entry → List Entry
mem_of [] = []
mem_of (entry ∷ entries) = put_in_memory entry (mem_of entries)

-- one memtable has the counted operations
abbrev pub recovered_view : OpenedImageFamily → FamilyView
recovered_view family = record { id = family.id; mem = mem_of family.counted; sealed = []; levels = family.levels }

-- the greatest id of these families
abbrev pub greatest_id : List (List ℕ × OpenedImageFamily) → ℕ
greatest_id families = fold (λ greatest named. max greatest named.1.id) 0 families

-- the core of what was opened, with this charge and capacity
abbrev pub core_with : ℕ → ℕ → OpenedImage → Core
core_with charge capacity opened = record {
  behind = opened.behind;
  capacity = capacity;
  place = 0;
  last = opened.last;
  charge = charge;
  families = map {B = List ℕ × FamilyView} (λ named. (named.0, recovered_view named.1)) opened.families;
  next_family = greatest_id opened.families + 1;
  live = [];
  jobs = [];
  jobs_made = 0;
  turn = None;
}

-- the core that an opening reads: its memtables have the counted operations
abbrev pub recovered_core : ℕ → OpenedImage → Core
recovered_core capacity opened = core_with (opened_charge (core_with 0 capacity opened)) capacity opened

-- the counted operations are writes over what the tables have
abbrev pub recovered_family : Bool → OpenedImageFamily → ModelFamily
recovered_family behind family = record {
  id = family.id;
  base = newest_of (runs_of (tables_in family.levels));
  writes = reverse family.counted;
  ranges = image_ranges behind family;
  known = image_keys family;
}

-- a state that this core stands for
abbrev pub recovered_state : ℕ → OpenedImage → ModelState
recovered_state capacity opened = record {
  place = 0;
  last = opened.last;
  charge = (recovered_core capacity opened).charge;
  behind = opened.behind;
  families = map {B = List ℕ
      × ModelFamily} (λ named. (named.0, recovered_family opened.behind named.1)) opened.families;
  next_family = greatest_id opened.families + 1;
  live = [];
}

-- what the table layer gives of each table: rows within the limits
abbrev pub HasRows : OpenedImage → Type 0
HasRows opened = Each (λ named. Each IsSortedRun (runs_of (tables_in named.1.levels))) opened.families

-- what the log layer gives of operations
abbrev pub HasOps : OpenedImage → Type 0
HasOps opened = Each (λ named. Each (λ entry. IsSortedRun (entry ∷ [])) named.1.counted) opened.families

-- What right edits keep: no two tables have one file, no two families one id, names rise, and each table is placed as
-- it may be.
pub record IsNamed (named : Named) : Type 0 where
  pub files : Pairwise (λ one other. one.file ≡ other.file → ⊥) (tables_named named)
  pub ids : Pairwise (λ one other. one.1.id ≡ other.1.id → ⊥) named.families
  pub names : KeysRise named.families
  pub placed : Each (λ one. may_place one ≡ true) (tables_named named)

-- right edits keep it
abbrev pub EditsKeepNamed : Type 0
EditsKeepNamed = (named after : Named) (edits : List Edit) → IsNamed named → edited_all named edits ≡ Some after
    → IsNamed after

-- whatever opens is a core that stands for a state with these contents
abbrev pub RecoveredStands : Type 0
RecoveredStands = (flag behind : Bool) (parts : ImageParts) (named : Named) (capacity : ℕ) → IsNamed named
    → image_damage parts named (image_opened behind parts named) ≡ None → HasRows (image_opened behind parts named)
    → HasOps (image_opened behind parts named)
    → Represents (recovered_core capacity (image_opened behind parts named))
    (recovered_state capacity (image_opened behind parts named))
    × (contents (recovered_state capacity (image_opened behind parts named))
    ≡ image_contents (image_opened behind parts named))
