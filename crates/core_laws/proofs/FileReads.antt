-- What the model reads after a file.
use Rattle.std.proofs.Common.{◌≡◌, ℕ, ◌+◌, ◌<◌, ◌≤◌, Bool, true, false, cond, not, ◌&&◌, ◌||◌, List, [], ◌∷◌, ◌++◌, filter, Option, Some, None, is_some, is_lt, refl, sym, ap, ap₂, ◌∙◌, inl, inr, ◌⊎◌, arith}
use Rattle.std.specs.Prelude.{nat_le}
use Rattle.std.specs.Option.{option_or}
use Rattle.std.specs.List.{AllByRecursion as Each}
use Rattle.std.proofs.lemmas.Bool.{false≢true, or_parts, or_from, and_parts, cond-true, cond-false, le-leb, lt-leb}
use Rattle.std.proofs.lemmas.Cmp.{nat_list_cmp_total, tied_itself}
use Rattle.st_base.specs.Bytes.{same, below}
use Rattle.st_base.specs.Entries.{last_mark}
use Rattle.st_base.specs.Map.{value_at, set_at}
use Rattle.st_base.specs.Order.{rises, rises_behind}
use Rattle.st_base.specs.declared.entry.Mark.{Mark}
use Rattle.st_base.specs.declared.entry.Entry.{Entry}
use Rattle.st_base.proofs.Same.{same_true}
use Rattle.st_model.specs.declared.state.ModelFamily.{ModelFamily}
use Rattle.st_model.specs.Apply.{with_marks}
use Rattle.st_base.specs.Range.{under_number, has_key}
use Rattle.st_model.specs.Read.{last_write, mark_at}
use Rattle.st_model.specs.Sound.{WritesWithin}
use Rattle.base_laws.proofs.Keys.{below_trans}
use Rattle.base_laws.proofs.Maps.{value_set}
use Rattle.core_laws.specs.Claims.{NumberedReads, NumberedReadsNow, EarlyReads, BehindReads, CoveredHasMark, mark_of_key, mark_or}
use Rattle.core_laws.proofs.ToldByColumns.{none_of_key, or_assoc}
use Rattle.st_order.specs.Columns.{of_key}
use Rattle.job_model.specs.Column.{found_at}

-- ---- maps

-- ---- the last mark of a list

last_append : (xs ys : List Entry) → last_mark (xs ++ ys) ≡ option_or (last_mark ys) (last_mark xs)
last_append [] ys = none_right (last_mark ys)
  where
    none_right : (o : Option Mark) → o ≡ option_or o None
    none_right None = refl
    none_right (Some mark) = refl
last_append (x ∷ xs) ys = ap (λ found. option_or found (Some x.mark)) (last_append xs ys) ∙ assoc (last_mark ys) (last_mark xs) (Some x.mark)
  where
    assoc : (a b c : Option Mark) → option_or (option_or a b) c ≡ option_or a (option_or b c)
    assoc None b c = refl
    assoc (Some mark) b c = refl

last_none : (xs : List Entry) → last_mark xs ≡ None → xs ≡ []
last_none [] e = refl
last_none (x ∷ xs) e = step (last_mark xs) e
  where
    step : (found : Option Mark) → option_or found (Some x.mark) ≡ None → x ∷ xs ≡ []
    step None e = absurd cc
    step (Some mark) e = absurd cc

pub mark_or_is : (a b : Option Mark) → mark_or a b ≡ option_or a b
mark_or_is None b = refl
mark_or_is (Some mark) b = refl

-- ---- a map after marks

pub marks_value : (entries : List Entry) (base : List (List ℕ × Mark)) (key : List ℕ) → value_at (with_marks base entries) key ≡ option_or (last_mark (of_key key entries)) (value_at base key)
marks_value [] base key = refl
marks_value (x ∷ xs) base key =
    marks_value xs (set_at base x.key x.mark) key
    ∙ ap (option_or (last_mark (of_key key xs))) (value_set base x.key x.mark key)
    ∙ step (same x.key key)
  where
    over : (found : Option Mark) → option_or found (Some x.mark) ≡ option_or (option_or found (Some x.mark)) (value_at base key)
    over None = refl
    over (Some mark) = refl

    step : (b : Bool) → option_or (last_mark (of_key key xs)) (cond b (Some x.mark) (value_at base key)) ≡ option_or (last_mark (cond b (x ∷ of_key key xs) (of_key key xs))) (value_at base key)
    step true = over (last_mark (of_key key xs))
    step false = refl

-- ---- the entry of a key in a file

pub not_below_self : (a : List ℕ) → below a a ≡ false
not_below_self a = ap is_lt (tied_itself nat_list_cmp_total a)

abbrev by_key : Entry → Entry → Bool
by_key one other = below one.key other.key

all_above : (x : Entry) (key : List ℕ) (xs : List Entry) → (key ≡ x.key) ⊎ (below key x.key ≡ true) → rises_behind by_key x xs ≡ true → Each (λ entry. below key entry.key ≡ true) xs
all_above x key [] at e = tt
all_above x key (y ∷ ys) at e = let parts = and_parts (by_key x y) (rises_behind by_key y ys) e in (next at parts.0, all_above y key ys (inr (next at parts.0)) parts.1)
  where
    next : (key ≡ x.key) ⊎ (below key x.key ≡ true) → below x.key y.key ≡ true → below key y.key ≡ true
    next (inl is) lt = ap (λ k. below k y.key) is ∙ lt
    next (inr lower) lt = below_trans key x.key y.key lower lt

rest_rises : (x : Entry) (xs : List Entry) → rises_behind by_key x xs ≡ true → rises by_key xs ≡ true
rest_rises x [] e = refl
rest_rises x (y ∷ ys) e = (and_parts (by_key x y) (rises_behind by_key y ys) e).1

-- a file has at most one entry of a key
pub of_key_one : (key : List ℕ) (entries : List Entry) → rises by_key entries ≡ true → (of_key key entries ≡ []) ⊎ ((entry : Entry) × (of_key key entries ≡ entry ∷ []))
of_key_one key [] e = inl refl
of_key_one key (x ∷ xs) e = step (same x.key key) refl (of_key_one key xs (rest_rises x xs e))
  where
    step : (b : Bool) → same x.key key ≡ b → (of_key key xs ≡ []) ⊎ ((entry : Entry) × (of_key key xs ≡ entry ∷ [])) → (cond b (x ∷ of_key key xs) (of_key key xs) ≡ []) ⊎ ((entry : Entry) × (cond b (x ∷ of_key key xs) (of_key key xs) ≡ entry ∷ []))
    step true is rest = inr (x, ap (λ more. x ∷ more) (none_of_key key xs (all_above x key xs (inl (sym (same_true x.key key is))) e)))
    step false is rest = rest

pub of_under : (key : List ℕ) (number : ℕ) (entries : List Entry) → of_key key (under_number number entries) ≡ under_number number (of_key key entries)
of_under key number [] = refl
of_under key number (x ∷ xs) = step (same x.key key) (of_under key number xs)
  where
    step : (b : Bool) → of_key key (under_number number xs) ≡ under_number number (of_key key xs)
        → cond b (record x { number = number } ∷ of_key key (under_number number xs)) (of_key key (under_number number xs)) ≡ under_number number (cond b (x ∷ of_key key xs) (of_key key xs))
    step true rest = ap (λ more. record x { number = number } ∷ more) rest
    step false rest = rest

last_under : (number : ℕ) (entries : List Entry) → last_mark (under_number number entries) ≡ last_mark entries
last_under number [] = refl
last_under number (x ∷ xs) = ap (λ found. option_or found (Some x.mark)) (last_under number xs)

-- its mark
pub last_of_key : (key : List ℕ) (entries : List Entry) → rises by_key entries ≡ true → last_mark (of_key key entries) ≡ mark_of_key entries key
last_of_key key entries e = step (of_key_one key entries e)
  where
    step : (of_key key entries ≡ []) ⊎ ((entry : Entry) × (of_key key entries ≡ entry ∷ [])) → last_mark (of_key key entries) ≡ mark_of_key entries key
    step (inl none) = ap last_mark none ∙ sym (ap (found_at 0) (of_under key 0 entries ∙ ap (under_number 0) none))
    step (inr one) = ap last_mark one.1 ∙ sym (ap (found_at 0) (of_under key 0 entries ∙ ap (under_number 0) one.1))

-- ---- writes up to a number

abbrev up_to : ℕ → List ℕ → List Entry → List Entry
up_to number key writes = filter (λ write. same write.key key && nat_le write.number number) writes

up_append : (number : ℕ) (key : List ℕ) (xs ys : List Entry) → up_to number key (xs ++ ys) ≡ up_to number key xs ++ up_to number key ys
up_append number key [] ys = refl
up_append number key (x ∷ xs) ys = step (same x.key key && nat_le x.number number) (up_append number key xs ys)
  where
    step : (b : Bool) → up_to number key (xs ++ ys) ≡ up_to number key xs ++ up_to number key ys → cond b (x ∷ up_to number key (xs ++ ys)) (up_to number key (xs ++ ys)) ≡ cond b (x ∷ up_to number key xs) (up_to number key xs) ++ up_to number key ys
    step true e = ap (λ rest. x ∷ rest) e
    step false e = e

-- a file above the number has none of them
up_above : (number : ℕ) (key : List ℕ) (other : ℕ) (entries : List Entry) → number < other → up_to number key (under_number other entries) ≡ []
up_above number key other [] lt = refl
up_above number key other (x ∷ xs) lt = step (same x.key key) (nat_le other number) (lt-leb other number lt) (up_above number key other xs lt)
  where
    step : (a b : Bool) → b ≡ false → up_to number key (under_number other xs) ≡ [] → cond (a && b) (record x { number = other } ∷ up_to number key (under_number other xs)) (up_to number key (under_number other xs)) ≡ []
    step true b e rest = ap (λ c. cond c (record x { number = other } ∷ up_to number key (under_number other xs)) (up_to number key (under_number other xs))) e ∙ rest
    step false b e rest = rest

-- one at the number has all of the key
up_at : (number : ℕ) (key : List ℕ) (entries : List Entry) → up_to number key (under_number number entries) ≡ of_key key (under_number number entries)
up_at number key [] = refl
up_at number key (x ∷ xs) = step (same x.key key) (nat_le number number) (le-leb number number (omega arith)) (up_at number key xs)
  where
    step : (a b : Bool) → b ≡ true → up_to number key (under_number number xs) ≡ of_key key (under_number number xs)
        → cond (a && b) (record x { number = number } ∷ up_to number key (under_number number xs)) (up_to number key (under_number number xs)) ≡ cond a (record x { number = number } ∷ of_key key (under_number number xs)) (of_key key (under_number number xs))
    step true b e rest = ap (λ c. cond c (record x { number = number } ∷ up_to number key (under_number number xs)) (up_to number key (under_number number xs))) e ∙ ap (λ more. record x { number = number } ∷ more) rest
    step false b e rest = rest

-- where no write is above the last number, all are up to it
up_within : (last number : ℕ) (key : List ℕ) (writes : List Entry) → Each (λ write. write.number ≤ last) writes → last ≤ number → up_to number key writes ≡ of_key key writes
up_within last number key [] each le = refl
up_within last number key (x ∷ xs) each le = step (same x.key key) (nat_le x.number number) (le-leb x.number number (omega (arith, each.0))) (up_within last number key xs each.1 le)
  where
    step : (a b : Bool) → b ≡ true → up_to number key xs ≡ of_key key xs → cond (a && b) (x ∷ up_to number key xs) (up_to number key xs) ≡ cond a (x ∷ of_key key xs) (of_key key xs)
    step true b e rest = ap (λ c. cond c (x ∷ up_to number key xs) (up_to number key xs)) e ∙ ap (λ more. x ∷ more) rest
    step false b e rest = rest

-- later numbers read as the last one
pub mark_last : (family : ModelFamily) (last s : ℕ) (key : List ℕ) → WritesWithin last family → last ≤ s → mark_at family s key ≡ mark_at family last key
mark_last family last s key within le =
    ap (λ found. option_or (last_mark found) (value_at family.base key)) (up_within last s key family.writes within le ∙ sym (up_within last last key family.writes within (omega arith)))

-- ---- a numbered file

pub numbered_reads : NumberedReads
numbered_reads family table last number key staged le =
    ap (λ found. option_or (last_mark found) (value_at family.base key))
    (up_append number key family.writes (under_number (last + 1) table.entries)
    ∙ ap (λ more. up_to number key family.writes ++ more) (up_above number key (last + 1) table.entries (omega arith))
    ∙ append_none (up_to number key family.writes))
  where
    append_none : (xs : List Entry) → xs ++ [] ≡ xs
    append_none [] = refl
    append_none (x ∷ xs) = ap (λ more. x ∷ more) (append_none xs)

pub numbered_reads_now : NumberedReadsNow
numbered_reads_now family table last key staged within =
    ap (λ found. option_or found (value_at family.base key))
    (ap last_mark (up_append (last + 1) key family.writes (under_number (last + 1) table.entries))
    ∙ last_append (up_to (last + 1) key family.writes) (up_to (last + 1) key (under_number (last + 1) table.entries))
    ∙ ap₂ option_or
    (ap last_mark (up_at (last + 1) key table.entries ∙ of_under key (last + 1) table.entries) ∙ last_under (last + 1) (of_key key table.entries) ∙ last_of_key key table.entries staged.keys)
    (ap last_mark (up_within last (last + 1) key family.writes within (omega arith) ∙ sym (up_within last last key family.writes within (omega arith)))))
    ∙ or_assoc (mark_of_key table.entries key) (last_write family.writes last key) (value_at family.base key)
    ∙ sym (mark_or_is (mark_of_key table.entries key) (mark_at family last key))

-- ---- an early file

same_both : {X : Type 0} (b : Bool) (x : X) → x ≡ cond b x x
same_both true x = refl
same_both false x = refl

-- what an early file leaves of the writes of a key
up_early : (number : ℕ) (key : List ℕ) (entries writes : List Entry) → up_to number key (filter (λ write. not (has_key entries write.key)) writes) ≡ cond (has_key entries key) [] (up_to number key writes)
up_early number key entries [] = same_both (has_key entries key) []
up_early number key entries (x ∷ xs) = step (same x.key key) refl (has_key entries x.key) refl (up_early number key entries xs)
  where
    kept : List Entry
    kept = filter (λ write. not (has_key entries write.key)) xs

    step : (a : Bool) → same x.key key ≡ a → (h : Bool) → has_key entries x.key ≡ h → up_to number key kept ≡ cond (has_key entries key) [] (up_to number key xs)
        → up_to number key (cond (not h) (x ∷ kept) kept) ≡ cond (has_key entries key) [] (cond (a && nat_le x.number number) (x ∷ up_to number key xs) (up_to number key xs))
    step a is true has rest = rest ∙ gone a is
      where
        gone : (a : Bool) → same x.key key ≡ a → cond (has_key entries key) [] (up_to number key xs) ≡ cond (has_key entries key) [] (cond (a && nat_le x.number number) (x ∷ up_to number key xs) (up_to number key xs))
        gone true is = let there : has_key entries key ≡ true = ap (has_key entries) (sym (same_true x.key key is)) ∙ has in
            cond-true (has_key entries key) [] (up_to number key xs) there ∙ sym (cond-true (has_key entries key) [] (cond (nat_le x.number number) (x ∷ up_to number key xs) (up_to number key xs)) there)
        gone false is = refl
    step a is false has rest = ap (λ t. cond (t && nat_le x.number number) (x ∷ up_to number key kept) (up_to number key kept)) is ∙ stays a is
      where
        stays : (a : Bool) → same x.key key ≡ a → cond (a && nat_le x.number number) (x ∷ up_to number key kept) (up_to number key kept) ≡ cond (has_key entries key) [] (cond (a && nat_le x.number number) (x ∷ up_to number key xs) (up_to number key xs))
        stays true is = let out : has_key entries key ≡ false = ap (has_key entries) (sym (same_true x.key key is)) ∙ has in
            ap (λ more. cond (nat_le x.number number) (x ∷ more) more) (rest ∙ cond-false (has_key entries key) [] (up_to number key xs) out)
            ∙ sym (cond-false (has_key entries key) [] (cond (nat_le x.number number) (x ∷ up_to number key xs) (up_to number key xs)) out)
        stays false is = rest

-- a key is there exactly where it has an entry
has_none : (key : List ℕ) (entries : List Entry) → has_key entries key ≡ false → of_key key entries ≡ []
has_none key [] e = refl
has_none key (x ∷ xs) e = let parts = or_parts (same x.key key) (has_key xs key) e in cond-false (same x.key key) (x ∷ of_key key xs) (of_key key xs) parts.0 ∙ has_none key xs parts.1

has_some : (key : List ℕ) (entries : List Entry) → has_key entries key ≡ true → last_mark (of_key key entries) ≡ None → ⊥
has_some key entries e none = empty entries e (last_none (of_key key entries) none)
  where
    empty : (xs : List Entry) → has_key xs key ≡ true → of_key key xs ≡ [] → ⊥
    empty [] e none = false≢true e
    empty (x ∷ xs) e none = step (same x.key key) e none (empty xs)
      where
        step : (b : Bool) → (b || has_key xs key) ≡ true → cond b (x ∷ of_key key xs) (of_key key xs) ≡ [] → (has_key xs key ≡ true → of_key key xs ≡ [] → ⊥) → ⊥
        step true e none rest = cc
        step false e none rest = rest e none

pub early_reads : EarlyReads
early_reads family table number key staged =
    ap₂ option_or
    (ap last_mark (up_early number key table.entries family.writes))
    (marks_value table.entries family.base key)
    ∙ step (has_key table.entries key) refl
    ∙ ap (λ found. mark_or found (mark_at family number key)) (last_of_key key table.entries staged.keys)
  where
    step : (b : Bool) → has_key table.entries key ≡ b
        → option_or (last_mark (cond b [] (up_to number key family.writes))) (option_or (last_mark (of_key key table.entries)) (value_at family.base key))
        ≡ mark_or (last_mark (of_key key table.entries)) (mark_at family number key)
    step true is = over (last_mark (of_key key table.entries)) refl
      where
        over : (found : Option Mark) → last_mark (of_key key table.entries) ≡ found → option_or found (value_at family.base key) ≡ mark_or found (mark_at family number key)
        over None none = absurd (has_some key table.entries is none)
        over (Some mark) some = refl
    step false is = ap (λ found. option_or (last_write family.writes number key) (option_or found (value_at family.base key))) none ∙ sym (ap (λ found. mark_or found (mark_at family number key)) none)
      where
        none : last_mark (of_key key table.entries) ≡ None
        none = ap last_mark (has_none key table.entries is)

-- ---- a file behind

-- what fills the base
of_key_lacking : (P : List ℕ → Bool) (key : List ℕ) (entries : List Entry) → of_key key (filter (λ entry. P entry.key) entries) ≡ cond (P key) (of_key key entries) []
of_key_lacking P key [] = same_both (P key) []
of_key_lacking P key (x ∷ xs) = step (P x.key) refl (same x.key key) refl (of_key_lacking P key xs)
  where
    kept : List Entry
    kept = filter (λ entry. P entry.key) xs

    step : (p : Bool) → P x.key ≡ p → (a : Bool) → same x.key key ≡ a → of_key key kept ≡ cond (P key) (of_key key xs) []
        → of_key key (cond p (x ∷ kept) kept) ≡ cond (P key) (cond a (x ∷ of_key key xs) (of_key key xs)) []
    step true is true at rest =
        let here : P key ≡ true = ap P (sym (same_true x.key key at)) ∙ is in
        cond-true (same x.key key) (x ∷ of_key key kept) (of_key key kept) at ∙ ap (λ more. x ∷ more) (rest ∙ cond-true (P key) (of_key key xs) [] here) ∙ sym (cond-true (P key) (x ∷ of_key key xs) [] here)
    step true is false at rest = cond-false (same x.key key) (x ∷ of_key key kept) (of_key key kept) at ∙ rest
    step false is true at rest =
        let out : P key ≡ false = ap P (sym (same_true x.key key at)) ∙ is in
        rest ∙ cond-false (P key) (of_key key xs) [] out ∙ sym (cond-false (P key) (x ∷ of_key key xs) [] out)
    step false is false at rest = rest

pub behind_reads : BehindReads
behind_reads family table number key staged =
    ap (option_or (last_write family.writes number key))
    (marks_value (filter (λ entry. not (is_some (value_at family.base entry.key))) table.entries) family.base key
    ∙ ap (λ found. option_or (last_mark found) (value_at family.base key)) (of_key_lacking (λ k. not (is_some (value_at family.base k))) key table.entries)
    ∙ step (value_at family.base key))
    ∙ sym (or_assoc (last_write family.writes number key) (value_at family.base key) (mark_of_key table.entries key))
    ∙ sym (mark_or_is (mark_at family number key) (mark_of_key table.entries key))
  where
    step : (base : Option Mark) → option_or (last_mark (cond (not (is_some base)) (of_key key table.entries) [])) base ≡ option_or base (mark_of_key table.entries key)
    step (Some mark) = refl
    step None = or_none (last_mark (of_key key table.entries)) ∙ last_of_key key table.entries staged.keys
      where
        or_none : (o : Option Mark) → option_or o None ≡ o
        or_none None = refl
        or_none (Some mark) = refl

-- ---- a key without a mark isn't covered

pub covered_has_mark : CoveredHasMark
covered_has_mark family last key within none = both (last_write family.writes last key) refl (value_at family.base key) refl none
  where
    no_writes : (writes : List Entry) → of_key key writes ≡ [] → has_key writes key ≡ false
    no_writes [] e = refl
    no_writes (x ∷ xs) e = step (same x.key key) e (no_writes xs)
      where
        step : (b : Bool) → cond b (x ∷ of_key key xs) (of_key key xs) ≡ [] → (of_key key xs ≡ [] → has_key xs key ≡ false) → (b || has_key xs key) ≡ false
        step true e rest = absurd cc
        step false e rest = rest e

    both : (write : Option Mark) → last_write family.writes last key ≡ write → (base : Option Mark) → value_at family.base key ≡ base → option_or write base ≡ None → (has_key family.writes key || is_some (value_at family.base key)) ≡ false
    both (Some mark) is base is_base none = absurd cc
    both None is (Some mark) is_base none = absurd cc
    both None is None is_base none =
        or_from (has_key family.writes key) (is_some (value_at family.base key))
        (no_writes family.writes (sym (up_within last last key family.writes within (omega arith)) ∙ last_none (up_to last key family.writes) is))
        (ap is_some is_base)
