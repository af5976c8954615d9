-- Operations put one after the other, and what memtables keep.
use Rattle.std.proofs.Common.{◌≡◌, ℕ, suc, ◌+◌, ◌<◌, ◌≤◌, Bool, true, false, cond, not, List, [], ◌∷◌, length, get_or, drop, map, Option, Some, None, is_some, ◌==◌, refl, sym, ap, subst, ◌∙◌, add-one, drop-cons, arith}
use Rattle.std.specs.List.{AllByRecursion as Each}
use Rattle.std.specs.Prelude.{IfSome}
use Rattle.std.proofs.lemmas.Bool.{eqb-true}
use Rattle.st_base.specs.Bytes.{same}
use Rattle.st_base.specs.Map.{value_at, set_at, without, changed_at}
use Rattle.st_base.specs.Order.{comes_before}
use Rattle.st_base.specs.declared.entry.Entry.{Entry}
use Rattle.st_model.specs.declared.change.Op.{Op}
use Rattle.st_model.specs.Apply.{op_family, op_entry}
use Rattle.core_model.specs.Picture.{FamilyView, new_view}
use Rattle.core_model.specs.Step.{put_in_memory, with_memory_entry, with_operations}
use Rattle.st_memtable.specs.Memtable as memtable
use Rattle.base_laws.proofs.Lists.{each_as, each_filter, each_map}
use Rattle.base_laws.proofs.Maps.{each_set, found_each}
use Rattle.st_core.specs.Written.{IsWithin, AreWithin}

-- an entry is put among those of a memtable as the core puts it
pub put_is : (entry : Entry) (entries : List Entry) → memtable.put_in_memory entry entries ≡ put_in_memory entry entries
put_is entry [] = refl
put_is entry (other ∷ others) = ap (λ (rest : List Entry). cond (comes_before entry other) (entry ∷ other ∷ others) (other ∷ rest)) (put_is entry others)

-- what holds of the entry and of the others holds of each
put_each : (P : Entry → Type 0) (entry : Entry) (entries : List Entry) → P entry → Each P entries → Each P (put_in_memory entry entries)
put_each P entry [] p each = (p, tt)
put_each P entry (other ∷ others) p each = step (comes_before entry other) (put_each P entry others p each.1)
  where
    step : (b : Bool) → Each P (put_in_memory entry others) → Each P (cond b (entry ∷ other ∷ others) (other ∷ put_in_memory entry others))
    step true rest = (p, each)
    step false rest = (each.0, rest)

-- the family that is found has what each family has
pub found_below : (number : ℕ) (families : List (List ℕ × FamilyView)) (name : List ℕ) (family : FamilyView) → Each (λ named. Each (λ entry. entry.number < number) named.1.mem) families
    → value_at families name ≡ Some family → Each (λ entry. entry.number < number) family.mem
found_below number families name family each is = found_each (λ one. Each (λ entry. entry.number < number) one.mem) families name family each is

-- one operation more
pub next_op : (number i : ℕ) (ops : List Op) (op : Op) (families new : List (List ℕ × FamilyView)) → i < length ops → op ≡ get_or ops i op
    → new ≡ changed_at families (op_family op) (with_memory_entry (op_entry (number + 1) op)) → with_operations (number + 1) (drop (i + 1) ops) new ≡ with_operations number (drop i ops) families
next_op number i ops op families new l at is =
    let front : drop i ops ≡ op ∷ drop (i + 1) ops = rw (add-one i) (drop-cons ops i op l ∙ ap (λ (one : Op). one ∷ drop (suc i) ops) (sym at)) in
    rw (front, is) refl

-- the memtable's numbers grow by one at most
within_entry : (last : ℕ) (op : Op) (family : FamilyView) → IsWithin last family.mem → IsWithin (last + 1) (with_memory_entry (op_entry (last + 1) op) family).mem
within_entry last op family h = put_each (λ entry. entry.number ≤ last + 1) (op_entry (last + 1) op) family.mem (omega arith) (each_as (λ entry. entry.number ≤ last) (λ entry. entry.number ≤ last + 1) (λ entry l. omega arith) family.mem h)

within_more : (last : ℕ) (entries : List Entry) → IsWithin last entries → IsWithin (last + 1) entries
within_more last entries h = each_as (λ entry. entry.number ≤ last) (λ entry. entry.number ≤ last + 1) (λ entry l. omega arith) entries h

pub below_next : (last : ℕ) (families : List (List ℕ × FamilyView)) → AreWithin last families → Each (λ named. Each (λ entry. entry.number < last + 1) named.1.mem) families
below_next last families h =
    each_as (λ named. IsWithin last named.1.mem) (λ named. Each (λ entry. entry.number < last + 1) named.1.mem)
    (λ named within. each_as (λ entry. entry.number ≤ last) (λ entry. entry.number < last + 1) (λ entry l. omega arith) named.1.mem within) families h

-- a change of a family's memtable
within_changed : (last more : ℕ) (change : FamilyView → FamilyView) → ((family : FamilyView) → IsWithin last family.mem → IsWithin more (change family).mem)
    → ((family : FamilyView) → IsWithin last family.mem → IsWithin more family.mem) → (families : List (List ℕ × FamilyView)) (name : List ℕ) → AreWithin last families → AreWithin more (changed_at families name change)
within_changed last more change changed stays families name h =
    each_map (λ named. IsWithin more named.1.mem) (λ (pair : List ℕ × FamilyView). (pair.0, cond (same pair.0 name) (change pair.1) pair.1)) families
    (each_as (λ named. IsWithin last named.1.mem) (λ pair. IsWithin more (cond (same pair.0 name) (change pair.1) pair.1).mem) (λ pair within. at (same pair.0 name) pair.1 within) families h)
  where
    at : (b : Bool) (family : FamilyView) → IsWithin last family.mem → IsWithin more (cond b (change family) family).mem
    at true family within = changed family within
    at false family within = stays family within

pub written_within : (last : ℕ) (op : Op) (families : List (List ℕ × FamilyView)) → AreWithin last families
    → AreWithin (last + 1) (changed_at families (op_family op) (with_memory_entry (op_entry (last + 1) op)))
written_within last op families h = within_changed last (last + 1) (with_memory_entry (op_entry (last + 1) op)) (λ family. within_entry last op family) (λ family. within_more last family.mem) families (op_family op) h

pub within_ops : (last : ℕ) (ops : List Op) (families : List (List ℕ × FamilyView)) → AreWithin last families → AreWithin (last + length ops) (with_operations last ops families)
within_ops last [] families h = subst (λ (n : ℕ). AreWithin n families) (omega arith) h
within_ops last (op ∷ ops) families h =
    subst (λ (n : ℕ). AreWithin n (with_operations last (op ∷ ops) families)) (sum last (length ops))
    (within_ops (last + 1) ops (changed_at families (op_family op) (with_memory_entry (op_entry (last + 1) op))) (written_within last op families h))
  where
    sum : (a b : ℕ) → a + 1 + b ≡ a + suc b
    sum a b = omega arith

-- a family comes, goes, or another view stands in its place
pub within_made : (last : ℕ) (families : List (List ℕ × FamilyView)) (name : List ℕ) (id : ℕ) → AreWithin last families → AreWithin last (set_at families name (new_view id))
within_made last families name id h = each_set (λ named. IsWithin last named.1.mem) families name (new_view id) (λ other old within. tt) h tt

pub within_without : (last : ℕ) (families : List (List ℕ × FamilyView)) (name : List ℕ) → AreWithin last families → AreWithin last (without families name)
within_without last families name h = each_filter (λ named. IsWithin last named.1.mem) (λ named. not (same named.0 name)) families h

pub within_view : (last : ℕ) (families : List (List ℕ × FamilyView)) (name : List ℕ) (view : FamilyView) → IsWithin last view.mem → AreWithin last families
    → AreWithin last (changed_at families name (λ _. view))
within_view last families name view within h = within_changed last last (λ _. view) (λ family _. within) (λ family stays. stays) families name h

pub always_same : {X Y : Type 0} (option : Option X) (y : Y) → IfSome option (λ _. y ≡ y)
always_same None y = tt
always_same (Some x) y = refl

-- ---- a memtable without entries

flipped : (one other : Bool) → not one ≡ other → one ≡ not other
flipped true other is = ap not is
flipped false other is = ap not is

lesser_there : (number : ℕ) (other : Option ℕ) → is_some (memtable.lesser (Some number) other) ≡ true
lesser_there number None = refl
lesser_there number (Some other) = refl

more_than_none : (n : ℕ) → (suc n == 0) ≡ false
more_than_none n = step (suc n == 0) refl
  where
    step : (b : Bool) → (suc n == 0) ≡ b → (suc n == 0) ≡ false
    step false e = e
    step true e = absurd (let none : suc n ≡ 0 = eqb-true (suc n) 0 e in omega (arith, none))

-- it has no least number, and else it has one
pub unwritten_is : (entries : List Entry) (least : Option ℕ) (none : Bool) → least ≡ memtable.least_number entries → is_some least ≡ not none → none ≡ (length entries == 0)
unwritten_is [] least none is some = flipped none false (sym some ∙ ap is_some is)
unwritten_is (entry ∷ entries) least none is some = flipped none true (sym some ∙ (ap is_some is ∙ lesser_there entry.number (memtable.least_number entries))) ∙ sym (more_than_none (length entries))
