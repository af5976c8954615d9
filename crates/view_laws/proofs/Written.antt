-- Each operation of a write is put into the memtable of its family alone.
use Rattle.std.proofs.Common.{◌≡◌, ℕ, ◌+◌, Bool, true, false, cond, List, [], ◌∷◌, Option, Some, None, option_map, refl, sym, ap, ◌∙◌}
use Rattle.core_model.specs.Picture.{FamilyView}
use Rattle.core_model.specs.Step.{put_in_memory as put_by_core, with_memory_entry, with_operations}
use Rattle.st_base.specs.Bytes.{same}
use Rattle.st_base.specs.Map.{changed_at, value_at}
use Rattle.st_base.specs.Order.{comes_before}
use Rattle.st_base.specs.declared.entry.Entry.{Entry}
use Rattle.base_laws.proofs.Maps.{changed_value}
use Rattle.st_memtable.specs.Memtable.{put_in_memory, with_memory_entries}
use Rattle.st_model.specs.Apply.{op_entry, op_family}
use Rattle.st_model.specs.declared.change.Op.{Op}
use Rattle.view_laws.specs.Writes.{family_entries, with_entries_in_memory}

-- the core puts an entry where a memtable puts it
puts_are_one : (entry : Entry) (mem : List Entry) → put_by_core entry mem ≡ put_in_memory entry mem
puts_are_one entry [] = refl
puts_are_one entry (other ∷ others) = ap (λ rest. cond (comes_before entry other) (entry ∷ other ∷ others) (other ∷ rest)) (puts_are_one entry others)

-- one operation, and then what follows
put_first : (same_name : Bool) (entry : Entry) (rest : List Entry) (found : Option FamilyView)
    → option_map (with_entries_in_memory rest) (option_map (λ family. cond same_name (with_memory_entry entry family) family) found)
    ≡ option_map (with_entries_in_memory (cond same_name (entry ∷ rest) rest)) found
put_first same_name entry rest None = refl
put_first true entry rest (Some family) =
    ap (λ mem. Some (record family { mem = with_memory_entries mem rest })) (puts_are_one entry family.mem)
put_first false entry rest (Some family) = refl

nothing_put : (found : Option FamilyView) → found ≡ option_map (with_entries_in_memory []) found
nothing_put None = refl
nothing_put (Some family) = refl

pub memtables_are_filled : (last : ℕ) (ops : List Op) (families : List (List ℕ × FamilyView)) (name : List ℕ)
    → value_at (with_operations last ops families) name ≡ option_map (with_entries_in_memory (family_entries name last ops)) (value_at families name)
memtables_are_filled last [] families name = nothing_put (value_at families name)
memtables_are_filled last (op ∷ ops) families name =
    let entry = op_entry (last + 1) op in
    memtables_are_filled (last + 1) ops (changed_at families (op_family op) (with_memory_entry entry)) name
    ∙ ap (option_map (with_entries_in_memory (family_entries name (last + 1) ops))) (changed_value families (op_family op) (with_memory_entry entry) name)
    ∙ put_first (same name (op_family op)) entry (family_entries name (last + 1) ops) (value_at families name)
