-- What parts have from a key on, and that a scan looks at nothing before.
use Rattle.std.proofs.Common.{◌≡◌, ℕ, zero, suc, ◌<◌, ◌≤◌, Bool, true, false, cond, ◌&&◌, List, [], ◌∷◌, ◌++◌, length, get_or, drop, filter, map, Option, Some, None, refl, sym, ap, ap₂, ◌∙◌, arith}
use Rattle.std.specs.Prelude.{nat_le}
use Rattle.std.specs.List.{AllByRecursion as Each}
use Rattle.std.proofs.lemmas.List.Sums.{prefix_len-le-length}
use Rattle.st_base.specs.Bytes.{at_most}
use Rattle.st_base.specs.Order.{in_order, is_before}
use Rattle.st_base.specs.Rows.{AreRows, lower_index}
use Rattle.st_base.specs.declared.entry.Entry.{Entry}
use Rattle.st_base.specs.declared.entry.Mark.TheVariants.{Gone}
use Rattle.st_base.specs.declared.entry.KeyRange.{KeyRange}
use Rattle.base_laws.proofs.Keys.{below_not, rest_in_order}
use Rattle.st_order.specs.Sorted.{merged}
use Rattle.st_order.proofs.Columns.{passing_merged}
use Rattle.st_order.proofs.Halves.{back_reaches, front_below}
use Rattle.st_merge.specs.Heads.{rests}
use Rattle.st_merge.specs.Scan.{is_read_before, is_seen, live_behind, live_pairs, reaching, shown_pair}

abbrev most : ℕ
most = 18446744073709551615

-- those from an index on, where none in front of it passes and all behind do
filter_drop : {X : Type 0} (test : X → Bool) (xs : List X) (n : ℕ) (d : X) → n ≤ length xs → ((i : ℕ) → i < n → test (get_or xs i d) ≡ false) → ((i : ℕ) → n ≤ i → i < length xs → test (get_or xs i d) ≡ true) → drop n xs ≡ filter test xs
filter_drop test [] zero d le front back = refl
filter_drop test [] (suc n) d le front back = refl
filter_drop test (x ∷ xs) zero d le front back =
    let rest : xs ≡ filter test xs = filter_drop test xs zero d (omega arith) (λ i lt. absurd (omega arith)) (λ i ge lt. back (suc i) (omega arith) (omega arith)) in
    ap (λ some. x ∷ some) rest ∙ sym (ap (λ b. cond b (x ∷ filter test xs) (filter test xs)) (back 0 (omega arith) (omega arith)))
filter_drop test (x ∷ xs) (suc n) d le front back =
    filter_drop test xs n d (omega arith) (λ i lt. front (suc i) (omega arith)) (λ i ge lt. back (suc i) (omega arith) (omega arith))
    ∙ sym (ap (λ b. cond b (x ∷ filter test xs) (filter test xs)) (front 0 (omega arith)))

abbrev none : Entry
none = record { key = []; number = 0; mark = Gone }

drop_reaches : (first : List ℕ) (entries : List Entry) → AreRows entries → drop (lower_index entries first most) entries ≡ reaching first entries
drop_reaches first entries rows =
    filter_drop (λ (entry : Entry). at_most first entry.key) entries (lower_index entries first most) none (prefix_len-le-length (is_before first most) entries)
    (λ i lt. below_not (get_or entries i none).key first (front_below entries first i none rows.within lt))
    (λ i ge lt. back_reaches entries first most i none rows.ordered ge lt)

drop_ordered : (n : ℕ) (entries : List Entry) → in_order entries ≡ true → in_order (drop n entries) ≡ true
drop_ordered zero entries e = e
drop_ordered (suc n) [] e = refl
drop_ordered (suc n) (entry ∷ entries) e = drop_ordered n entries (rest_in_order entry entries e)

module _ {T : Type 0} (rows : T → List Entry) where
  pub rests_ordered : (parts : List T) (indexes : List ℕ) → Each AreRows (map rows parts) → Each (λ run. in_order run ≡ true) (rests rows parts indexes)
  rests_ordered [] indexes each = tt
  rests_ordered (part ∷ parts) [] each = tt
  rests_ordered (part ∷ parts) (index ∷ indexes) each = (drop_ordered index (rows part) each.0.ordered, rests_ordered parts indexes each.1)

  pub rests_lower : (first : List ℕ) (parts : List T) → Each AreRows (map rows parts) → rests rows parts (map (λ (part : T). lower_index (rows part) first most) parts) ≡ map (reaching first) (map rows parts)
  rests_lower first [] each = refl
  rests_lower first (part ∷ parts) each =
      ap₂ (λ (run : List Entry) (runs : List (List Entry)). run ∷ runs) (drop_reaches first (rows part) each.0) (rests_lower first parts each.1)

-- entries before the range show nothing
live_reaching : (range : KeyRange) (number : ℕ) (before : Option (List ℕ)) (entries : List Entry) → live_behind range number before (reaching range.first entries) ≡ live_behind range number before entries
live_reaching range number before [] = refl
live_reaching range number before (entry ∷ entries) =
    step (at_most range.first entry.key) refl (live_reaching range number before entries) (live_reaching range number (Some entry.key) entries)
  where
    step : (b : Bool) → at_most range.first entry.key ≡ b
        → live_behind range number before (reaching range.first entries) ≡ live_behind range number before entries
        → live_behind range number (Some entry.key) (reaching range.first entries) ≡ live_behind range number (Some entry.key) entries
        → live_behind range number before (cond b (entry ∷ reaching range.first entries) (reaching range.first entries)) ≡ live_behind range number before (entry ∷ entries)
    step true is one other =
        ap₂ (λ rest behind. cond (is_seen range number entry) (cond (is_read_before before entry.key) rest (shown_pair entry.key entry.mark ++ behind)) rest) one other
    step false is one other =
        one ∙ sym (ap (λ b. cond ((b && at_most entry.key range.last) && nat_le entry.number number)
        (cond (is_read_before before entry.key) (live_behind range number before entries) (shown_pair entry.key entry.mark ++ live_behind range number (Some entry.key) entries))
        (live_behind range number before entries)) is)

-- what parts have from the first key of the range on shows the same pairs
pub live_from_first : (range : KeyRange) (number : ℕ) (runs : List (List Entry)) → live_pairs range number (merged (map (reaching range.first) runs)) ≡ live_pairs range number (merged runs)
live_from_first range number runs =
    ap (live_pairs range number) (sym (passing_merged (λ (entry : Entry). at_most range.first entry.key) runs)) ∙ live_reaching range number None (merged runs)
