-- Cutting by the target: the tables are the entries, none is empty, and none meets another.
use Rattle.std.proofs.Common.{◌≡◌, ℕ, ◌+◌, ◌≤◌, Bool, true, false, cond, ◌&&◌, List, [], ◌∷◌, ◌++◌, length, Ordering, Less, Equal, Greater, refl, sym, ap, subst, ◌∙◌, arith, append_assoc}
use Rattle.std.specs.Prelude.{flat_map, nat_le, IsFalse}
use Rattle.std.specs.Ordering.{is_lt, is_le, is_eq}
use Rattle.std.specs.List.{AllByRecursion as Each}
use Rattle.std.proofs.lemmas.Bool.{false≢true}
use Rattle.std.proofs.lemmas.List.{length-append}
use Rattle.st_base.specs.Bytes.{bytes_cmp, at_most, below, same}
use Rattle.st_base.specs.Entries.{entry_charge}
use Rattle.st_base.specs.Order.{in_order}
use Rattle.st_base.specs.declared.entry.Entry.{Entry}
use Rattle.st_base.proofs.Same.{same_is_eq}
use Rattle.st_base.specs.Range.{meet, range_of, key_at_front, key_at_end}
use Rattle.base_laws.proofs.Keys.{at_most_itself, below_at_most_below, below_not, rest_in_order}
use Rattle.base_laws.proofs.Lists.{each_as}
use Rattle.base_laws.proofs.Ranges.{front_least}
use Rattle.core_laws.proofs.Lists.{pairs_as}
use Rattle.st_order.specs.Columns.{Pairwise}
use Rattle.job_model.specs.Compaction.{cut_behind, cut_tables}

joined_behind : (target charge : ℕ) (key : List ℕ) (table entries : List Entry) → flat_map (λ one. one) (cut_behind target charge key table entries) ≡ table ++ entries
joined_behind target charge key table [] = refl
joined_behind target charge key table (entry ∷ entries) =
    split (nat_le target charge) (same key entry.key) (joined_behind target (charge + entry_charge entry.key entry.mark) entry.key (table ++ entry ∷ []) entries)
    (joined_behind target (entry_charge entry.key entry.mark) entry.key (entry ∷ []) entries)
  where
    more : List (List Entry)
    more = cut_behind target (charge + entry_charge entry.key entry.mark) entry.key (table ++ entry ∷ []) entries

    anew : List (List Entry)
    anew = cut_behind target (entry_charge entry.key entry.mark) entry.key (entry ∷ []) entries

    split : (b c : Bool) → flat_map (λ one. one) more ≡ (table ++ entry ∷ []) ++ entries → flat_map (λ one. one) anew ≡ (entry ∷ []) ++ entries
        → flat_map (λ one. one) (cond b (cond c more (table ∷ anew)) more) ≡ table ++ entry ∷ entries
    split true true e f = e ∙ append_assoc table (entry ∷ []) entries
    split true false e f = ap (λ rest. table ++ rest) f
    split false c e f = e ∙ append_assoc table (entry ∷ []) entries

-- joined, the tables are the entries
pub cut_joined : (target : ℕ) (entries : List Entry) → flat_map (λ one. one) (cut_tables target entries) ≡ entries
cut_joined target [] = refl
cut_joined target (entry ∷ entries) = joined_behind target (entry_charge entry.key entry.mark) entry.key (entry ∷ []) entries

some_behind : (target charge : ℕ) (key : List ℕ) (table entries : List Entry) → 1 ≤ length table → Each (λ one. 1 ≤ length one) (cut_behind target charge key table entries)
some_behind target charge key table [] some = (some, tt)
some_behind target charge key table (entry ∷ entries) some =
    split (nat_le target charge) (same key entry.key) (some_behind target (charge + entry_charge entry.key entry.mark) entry.key (table ++ entry ∷ []) entries (omega (arith, length-append table (entry ∷ []))))
    (some_behind target (entry_charge entry.key entry.mark) entry.key (entry ∷ []) entries (omega arith))
  where
    more : List (List Entry)
    more = cut_behind target (charge + entry_charge entry.key entry.mark) entry.key (table ++ entry ∷ []) entries

    anew : List (List Entry)
    anew = cut_behind target (entry_charge entry.key entry.mark) entry.key (entry ∷ []) entries

    split : (b c : Bool) → Each (λ one. 1 ≤ length one) more → Each (λ one. 1 ≤ length one) anew → Each (λ one. 1 ≤ length one) (cond b (cond c more (table ∷ anew)) more)
    split true true e f = e
    split true false e f = (some, f)
    split false c e f = e

pub cut_some : (target : ℕ) (entries : List Entry) → Each (λ one. 1 ≤ length one) (cut_tables target entries)
cut_some target [] = tt
cut_some target (entry ∷ entries) = some_behind target (entry_charge entry.key entry.mark) entry.key (entry ∷ []) entries (omega arith)

-- tables begin at or behind a key where the entries do
firsts_behind : (low : List ℕ) (target charge : ℕ) (key : List ℕ) (table entries : List Entry) → 1 ≤ length table → at_most low (key_at_front table) ≡ true → Each (λ entry. at_most low entry.key ≡ true) entries
    → Each (λ one. at_most low (key_at_front one) ≡ true) (cut_behind target charge key table entries)
firsts_behind low target charge key table [] some first each = (first, tt)
firsts_behind low target charge key table (entry ∷ entries) some first each =
    split (nat_le target charge) (same key entry.key)
    (firsts_behind low target (charge + entry_charge entry.key entry.mark) entry.key (table ++ entry ∷ []) entries (omega (arith, length-append table (entry ∷ []))) (subst (λ k. at_most low k ≡ true) (sym (front_stays table some)) first) each.1)
    (firsts_behind low target (entry_charge entry.key entry.mark) entry.key (entry ∷ []) entries (omega arith) each.0 each.1)
  where
    more : List (List Entry)
    more = cut_behind target (charge + entry_charge entry.key entry.mark) entry.key (table ++ entry ∷ []) entries

    anew : List (List Entry)
    anew = cut_behind target (entry_charge entry.key entry.mark) entry.key (entry ∷ []) entries

    front_stays : (xs : List Entry) → 1 ≤ length xs → key_at_front (xs ++ entry ∷ []) ≡ key_at_front xs
    front_stays [] none = absurd (omega arith)
    front_stays (x ∷ xs) is = refl

    split : (b c : Bool) → Each (λ one. at_most low (key_at_front one) ≡ true) more → Each (λ one. at_most low (key_at_front one) ≡ true) anew → Each (λ one. at_most low (key_at_front one) ≡ true) (cond b (cond c more (table ∷ anew)) more)
    split true true e f = e
    split true false e f = (first, f)
    split false c e f = e

-- at most, and not the same: below
strictly : (key other : List ℕ) → at_most key other ≡ true → same key other ≡ false → below key other ≡ true
strictly key other most differs = go (bytes_cmp key other) most (sym (same_is_eq key other) ∙ differs)
  where
    go : (o : Ordering) → is_le o ≡ true → is_eq o ≡ false → is_lt o ≡ true
    go Less e f = refl
    go Equal e f = absurd (false≢true (sym f))
    go Greater e f = absurd (false≢true e)

end_of_push : (xs : List Entry) (entry : Entry) → key_at_end (xs ++ entry ∷ []) ≡ entry.key
end_of_push [] entry = refl
end_of_push (x ∷ []) entry = refl
end_of_push (x ∷ y ∷ xs) entry = end_of_push (y ∷ xs) entry

-- each table ends before the later ones begin
abbrev pub Ends : List Entry → List Entry → Type 0
Ends one other = below (key_at_end one) (key_at_front other) ≡ true

apart_behind : (target charge : ℕ) (key : List ℕ) (table entries : List Entry) → 1 ≤ length table → key_at_end table ≡ key → Each (λ entry. at_most key entry.key ≡ true) entries → in_order entries ≡ true
    → Pairwise Ends (cut_behind target charge key table entries)
apart_behind target charge key table [] some is each ordered = (tt, tt)
apart_behind target charge key table (entry ∷ entries) some is each ordered =
    split (nat_le target charge) (same key entry.key) refl
    (apart_behind target (charge + entry_charge entry.key entry.mark) entry.key (table ++ entry ∷ []) entries (omega (arith, length-append table (entry ∷ []))) (end_of_push table entry) (behind.1) (rest_in_order entry entries ordered))
    (apart_behind target (entry_charge entry.key entry.mark) entry.key (entry ∷ []) entries (omega arith) refl (behind.1) (rest_in_order entry entries ordered))
  where
    more : List (List Entry)
    more = cut_behind target (charge + entry_charge entry.key entry.mark) entry.key (table ++ entry ∷ []) entries

    anew : List (List Entry)
    anew = cut_behind target (entry_charge entry.key entry.mark) entry.key (entry ∷ []) entries

    behind : Each (λ one. at_most entry.key one.key ≡ true) (entry ∷ entries)
    behind = front_least entry.key entry entries ordered (at_most_itself entry.key)

    split : (b c : Bool) → same key entry.key ≡ c → Pairwise Ends more → Pairwise Ends anew → Pairwise Ends (cond b (cond c more (table ∷ anew)) more)
    split true true differs e f = e
    split true false differs e f = (
      each_as (λ one. at_most entry.key (key_at_front one) ≡ true) (Ends table)
          (λ one first. below_at_most_below (key_at_end table) entry.key (key_at_front one) (subst (λ k. below k entry.key ≡ true) (sym is) (strictly key entry.key each.0 differs)) first) anew
          (firsts_behind entry.key target (entry_charge entry.key entry.mark) entry.key (entry ∷ []) entries (omega arith) (at_most_itself entry.key) behind.1),
      f,
    )
    split false c differs e f = e

pub cut_ends : (target : ℕ) (entries : List Entry) → in_order entries ≡ true → Pairwise Ends (cut_tables target entries)
cut_ends target [] ordered = tt
cut_ends target (entry ∷ entries) ordered =
    apart_behind target (entry_charge entry.key entry.mark) entry.key (entry ∷ []) entries (omega arith) refl (front_least entry.key entry entries ordered (at_most_itself entry.key)).1 (rest_in_order entry entries ordered)

-- none meets another
pub cut_apart : (target : ℕ) (entries : List Entry) → in_order entries ≡ true → Pairwise (λ one other. IsFalse (meet (range_of one) (range_of other))) (cut_tables target entries)
cut_apart target entries ordered =
    pairs_as Ends (λ one other. IsFalse (meet (range_of one) (range_of other)))
    (λ one other ends. second (at_most (key_at_front one) (key_at_end other)) (at_most (key_at_front other) (key_at_end one)) (below_not (key_at_end one) (key_at_front other) ends)) (cut_tables target entries) (cut_ends target entries ordered)
  where
    second : (x y : Bool) → y ≡ false → (x && y) ≡ false
    second true y e = e
    second false y e = refl
