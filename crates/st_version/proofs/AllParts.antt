-- The merged list of all parts of a family is that of its memtables and tables.
use Rattle.std.proofs.Common.{◌≡◌, ℕ, List, [], ◌∷◌, ◌++◌, map, refl, sym, ap, ◌∙◌, append_assoc}
use Rattle.std.specs.Prelude.{flat_map}
use Rattle.std.specs.List.{AllByRecursion as Each}
use Rattle.st_base.specs.declared.entry.Entry.{Entry}
use Rattle.st_memtable.proofs.Joins.{sorted_back, sorted_front}
use Rattle.st_memtable.specs.Memtable.{MemView}
use Rattle.core_model.specs.Picture.{FamilyView, FileEntries, runs_of, tables_in, walk}
use Rattle.st_order.specs.Sorted.{joined, merged, sorted}
use Rattle.st_version.specs.Held.{SharedMem, entries_in, runs_of_memtables}

joined_append : (xs ys : List (List Entry)) → joined (xs ++ ys) ≡ joined xs ++ joined ys
joined_append [] ys = refl
joined_append (x ∷ xs) ys = ap (λ rest. x ++ rest) (joined_append xs ys) ∙ sym (append_assoc x (joined xs) (joined ys))

-- runs in front of others may be merged before
one_merged : (runs others more : List (List Entry)) (entries : List Entry) → sorted (joined runs) ≡ entries → sorted (joined others) ≡ sorted (joined more) → sorted (joined (runs ++ others)) ≡ sorted (entries ++ joined more)
one_merged runs others more entries is rest =
    ap sorted (joined_append runs others)
    ∙ sym (sorted_front (joined runs) (joined others))
    ∙ ap (λ some. sorted (some ++ joined others)) is
    ∙ sorted_back entries (joined others) (joined more) rest

pub merged_one : (runs others more : List (List Entry)) (entries : List Entry) → merged runs ≡ entries → merged others ≡ merged more → merged (runs ++ others) ≡ merged (entries ∷ more)
unfolding merged
merged_one = one_merged

pub merged_memtables : (memtables : List SharedMem) (others : List (List Entry)) → Each (λ mem. merged mem.value.runs ≡ mem.value.entries) memtables → merged (runs_of_memtables memtables ++ others) ≡ merged (entries_in memtables ++ others)
merged_memtables [] others whole = refl
merged_memtables (mem ∷ memtables) others whole =
    ap merged (append_assoc mem.value.runs (runs_of_memtables memtables) others)
    ∙ merged_one mem.value.runs (runs_of_memtables memtables ++ others) (entries_in memtables ++ others) mem.value.entries whole.0 (merged_memtables memtables others whole.1)

-- all parts: the memtable's, those of the sealed ones, and the tables
pub all_parts : (family : FamilyView) (id : ℕ) (mem : MemView) (sealed : List SharedMem) (levels : List (List FileEntries)) (one two three : List (List Entry))
    → record { id = id; mem = mem.entries; sealed = entries_in sealed; levels = levels } ≡ family
    → one ≡ mem.runs → merged mem.runs ≡ mem.entries → two ≡ one ++ runs_of_memtables sealed → Each (λ (shared : SharedMem). merged shared.value.runs ≡ shared.value.entries) sealed → three ≡ two ++ runs_of (tables_in levels)
    → merged three ≡ merged (walk family)
all_parts family id mem sealed levels one two three is first whole second each third =
    ap merged (third ∙ ap (λ some. some ++ runs_of (tables_in levels)) (second ∙ ap (λ some. some ++ runs_of_memtables sealed) first) ∙ append_assoc mem.runs (runs_of_memtables sealed) (runs_of (tables_in levels)))
    ∙ merged_one mem.runs (runs_of_memtables sealed ++ runs_of (tables_in levels)) (entries_in sealed ++ runs_of (tables_in levels)) mem.entries whole (merged_memtables sealed (runs_of (tables_in levels)) each)
    ∙ ap (λ (one : FamilyView). merged (walk one)) is
