-- What a write does to the memtable of each family: it puts the family's operations there, one after the other.
use Rattle.std.specs.Prelude.{ℕ, ◌≡◌, ◌+◌, List, [], ◌∷◌, if◌then◌else◌}
use Rattle.std.specs.Option.{option_map}
use Rattle.core_model.specs.Picture.{FamilyView}
use Rattle.core_model.specs.Step.{with_operations}
use Rattle.st_base.specs.Bytes.{same}
use Rattle.st_base.specs.Map.{value_at}
use Rattle.st_base.specs.declared.entry.Entry.{Entry}
use Rattle.st_memtable.specs.Memtable.{with_memory_entries}
use Rattle.st_model.specs.Apply.{op_entry, op_family}
use Rattle.st_model.specs.declared.change.Op.{Op}

-- the operations of this family as entries, in their order; the first operation of all takes the number after `last`
abbrev pub family_entries : List ℕ → ℕ → List Op → List Entry
family_entries name last [] = []
family_entries name last (op ∷ ops) =
    if same name (op_family op) then op_entry (last + 1) op ∷ family_entries name (last + 1) ops
    else family_entries name (last + 1) ops

-- the family with these entries put into its memtable
abbrev pub with_entries_in_memory : List Entry → FamilyView → FamilyView
with_entries_in_memory entries family = record family { mem = with_memory_entries family.mem entries }

-- what stands at a name after the operations of a write
abbrev pub WritesFillMemtables : Type 0
WritesFillMemtables = (last : ℕ) (ops : List Op) (families : List (List ℕ × FamilyView)) (name : List ℕ)
    → value_at (with_operations last ops families) name
    ≡ option_map (with_entries_in_memory (family_entries name last ops)) (value_at families name)
