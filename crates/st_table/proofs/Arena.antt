-- Entries in an arena stay where they are as it grows.
use Rattle.std.proofs.Common.{◌≡◌, ℕ, ◌+◌, ◌-◌, ◌*◌, ◌≤◌, List, [], ◌∷◌, ◌++◌, length, take, drop, Option, Some, None, refl, sym, ap, subst, ◌∙◌, arith}
use Rattle.std.specs.Prelude.{map, slice_range, sum_by}
use Rattle.std.specs.List.{AllByRecursion}
use Rattle.std.proofs.Math.Seq.{drop-append_seam}
use Rattle.std.proofs.lemmas.List.Sums.{sum_by_push}
use Rattle.std.proofs.lemmas.List.{drop-take, length-append, map-append, take-append-drop, take-append-le}
use Rattle.st_base.specs.declared.entry.Entry.{Entry}
use Rattle.st_base.specs.declared.entry.Mark.{Mark}
use Rattle.st_base.specs.declared.entry.Mark.TheVariants.{Put}
use Rattle.st_base.specs.Entries.{entry_charge}
use Rattle.st_table.specs.EntryArena.{AddsEntry, EndsValue, Fill, Lies, entry_in, mark_in}
use Rattle.st_table.specs.declared.entry_arena.EntrySlot.{EntrySlot}

-- ---- growing: what the old arena held is the front of the new one

grown : (old new : List ℕ) → take (length old) new ≡ old → new ≡ old ++ drop (length old) new
grown old new e = sym (take-append-drop (length old) new) ∙ ap (λ (l : List ℕ). l ++ drop (length old) new) e

longer : (old new : List ℕ) → take (length old) new ≡ old → length old ≤ length new
longer old new e = omega (arith, ap length (grown old new e), length-append old (drop (length old) new))

slice_is : (xs : List ℕ) (from to : ℕ) → from ≤ to → slice_range xs from to ≡ drop from (take to xs)
slice_is xs from to le = sym (drop-take from (to - from) xs) ∙ ap (λ (k : ℕ). drop from (take k xs)) (let k : from + (to - from) ≡ to = omega (arith, le) in k)

slice_kept : (old new : List ℕ) (from to : ℕ) → take (length old) new ≡ old → from ≤ to → to ≤ length old → slice_range new from to ≡ slice_range old from to
slice_kept old new from to e le end =
    slice_is new from to le
    ∙ ap (λ (l : List ℕ). drop from (take to l)) (grown old new e)
    ∙ ap (λ (l : List ℕ). drop from l) (take-append-le to old (drop (length old) new) end)
    ∙ sym (slice_is old from to le)

mark_kept : (old new : List ℕ) (start : ℕ) (end : Option ℕ) → take (length old) new ≡ old → EndsValue (length old) start end → mark_in new start end ≡ mark_in old start end
mark_kept old new start None e h = refl
mark_kept old new start (Some end) e h = ap (λ (l : List ℕ). Put l) (slice_kept old new start end e h.0 h.1)

start_within : (size start : ℕ) (end : Option ℕ) → EndsValue size start end → start ≤ size
start_within size start None h = h
start_within size start (Some end) h = omega (arith, h.0, h.1)

entry_kept : (old new : List ℕ) (slot : EntrySlot) → take (length old) new ≡ old → Lies (length old) slot → entry_in new slot ≡ entry_in old slot
entry_kept old new slot e h =
    let at = slot.key_end in
    ap (λ (l : List ℕ). let x : Entry = record { key = l; number = slot.number; mark = mark_in new at slot.value_end } in x)
    (slice_kept old new slot.start at e h.key_ends (start_within (length old) at slot.value_end h.value_ends))
    ∙ ap (λ (m : Mark). let x : Entry = record { key = slice_range old slot.start at; number = slot.number; mark = m } in x) (mark_kept old new at slot.value_end e h.value_ends)

entries_kept : (old new : List ℕ) (slots : List EntrySlot) → take (length old) new ≡ old → AllByRecursion (Lies (length old)) slots → map (entry_in new) slots ≡ map (entry_in old) slots
entries_kept old new [] e h = refl
entries_kept old new (slot ∷ slots) e h =
    ap (λ (x : Entry). x ∷ map (entry_in new) slots) (entry_kept old new slot e h.0)
    ∙ ap (λ (l : List Entry). entry_in old slot ∷ l) (entries_kept old new slots e h.1)

value_ends_more : (less more start : ℕ) (end : Option ℕ) → less ≤ more → EndsValue less start end → EndsValue more start end
value_ends_more less more start None le h = omega (arith, le, h)
value_ends_more less more start (Some end) le h = (h.0, omega (arith, le, h.1))

lies_more : (less more : ℕ) (slots : List EntrySlot) → less ≤ more → AllByRecursion (Lies less) slots → AllByRecursion (Lies more) slots
lies_more less more [] le h = tt
lies_more less more (slot ∷ slots) le h =
    (record { key_ends = h.0.key_ends; value_ends = value_ends_more less more slot.key_end slot.value_end le h.0.value_ends }, lies_more less more slots le h.1)

-- ---- an entry more

-- its key lies behind what was there, and its mark behind the key
pub entry_is : (old key middle new : List ℕ) (start key_end number : ℕ) (end : Option ℕ) (mark : Mark) → start ≡ length old → middle ≡ old ++ key → key_end ≡ length middle → take (length middle) new ≡ middle
    → mark_in new (length middle) end ≡ mark
    → entry_in new (record { start = start; key_end = key_end; value_end = end; number = number }) ≡ record { key = key; number = number; mark = mark }
entry_is old key middle new start key_end number end mark s i k e m =
    let key_is : slice_range new start key_end ≡ key =
    slice_is new start key_end (omega (arith, s, k, ap length i, length-append old key))
    ∙ ap (λ (n : ℕ). drop start (take n new)) k
    ∙ ap (λ (l : List ℕ). drop start l) (e ∙ i)
    ∙ ap (λ (n : ℕ). drop n (old ++ key)) s
    ∙ drop-append_seam old key in
    ap (λ (l : List ℕ). let x : Entry = record { key = l; number = number; mark = mark_in new key_end end } in x) key_is
    ∙ ap (λ (n : ℕ). let x : Entry = record { key = key; number = number; mark = mark_in new n end } in x) k
    ∙ ap (λ (x : Mark). let y : Entry = record { key = key; number = number; mark = x } in y) m

entries_more : (old new : List ℕ) (slots : List EntrySlot) (slot : EntrySlot) (entry : Entry) → take (length old) new ≡ old → AllByRecursion (Lies (length old)) slots → entry_in new slot ≡ entry
    → map (entry_in new) (slots ++ slot ∷ []) ≡ map (entry_in old) slots ++ entry ∷ []
entries_more old new slots slot entry e h is =
    map-append (entry_in new) slots (slot ∷ [])
    ∙ ap (λ (l : List Entry). l ++ entry_in new slot ∷ []) (entries_kept old new slots e h)
    ∙ ap (λ (x : Entry). map (entry_in old) slots ++ x ∷ []) is

lie_more : (old new : List ℕ) (slots : List EntrySlot) → take (length old) new ≡ old → AllByRecursion (Lies (length old)) slots → AllByRecursion (Lies (length new)) slots
lie_more old new slots e h = lies_more (length old) (length new) slots (longer old new e) h

lie_with : (size : ℕ) (slots : List EntrySlot) (slot : EntrySlot) → AllByRecursion (Lies size) slots → Lies size slot → AllByRecursion (Lies size) (slots ++ slot ∷ [])
lie_with size [] slot h l = (l, tt)
lie_with size (one ∷ slots) slot h l = (h.0, lie_with size slots slot h.1 l)

-- what an entry more leaves
pub record HoldsMore (old new : List ℕ) (slots more : List EntrySlot) (entry : Entry) : Type 0 where
  pub entries : map (entry_in new) more ≡ map (entry_in old) slots ++ entry ∷ []
  pub fill : Fill new more

abbrev charge_of : Entry → ℕ
charge_of entry = entry_charge entry.key entry.mark

pub holds_more : (old new : List ℕ) (slots more : List EntrySlot) (entry : Entry) → take (length old) new ≡ old → Fill old slots → AddsEntry old new slots more entry → HoldsMore old new slots more entry
holds_more old new slots more entry kept fill adds =
    let entries : map (entry_in new) more ≡ map (entry_in old) slots ++ entry ∷ [] = ap (map (entry_in new)) adds.appended ∙ entries_more old new slots adds.at entry kept fill.lie adds.is in
    let sum : sum_by charge_of (map (entry_in new) more) ≡ sum_by charge_of (map (entry_in old) slots) + charge_of entry = ap (sum_by charge_of) entries ∙ sum_by_push charge_of (map (entry_in old) slots) entry in
    let count : length more ≡ length slots + 1 = omega (arith, ap length adds.appended, length-append slots (adds.at ∷ [])) in
    record {
      entries = entries;
      fill = record {
        lie = subst (λ (l : List EntrySlot). AllByRecursion (Lies (length new)) l) (sym adds.appended) (lie_with (length new) slots adds.at (lie_more old new slots kept fill.lie) adds.lies);
        full = sum ∙ (let e : sum_by charge_of (map (entry_in old) slots) + charge_of entry ≡ 32 * length more + length new = omega (arith, fill.full, count, adds.longer) in e);
      };
    }
