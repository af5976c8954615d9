-- The first entry that passes, in one run and in runs that are joined.
use Rattle.std.proofs.Common.{◌≡◌, ℕ, zero, suc, ◌+◌, ◌-◌, ◌<◌, ◌≤◌, Bool, true, false, cond, ◌&&◌, ltb, List, [], ◌∷◌, ◌++◌, length, get_or, take, Option, Some, None, refl, sym, ap, ap₂, subst, ◌∙◌, inl, inr, arith}
use Rattle.std.specs.Prelude.{find, slice_get, option_map, fold}
use Rattle.std.specs.List.{position, position_or_len, AllByRecursion as Each}
use Rattle.std.proofs.lemmas.Bool.{and_parts, cases_lt, false≢true, le-ltb, lt-ltb}
use Rattle.std.proofs.lemmas.List.Folds.{find_at}
use Rattle.std.proofs.lemmas.List.Sums.{prefix_len_passes}
use Rattle.st_base.specs.Bytes.{same}
use Rattle.st_base.specs.Order.{comes_before, in_order, is_before}
use Rattle.st_base.specs.Rows.{lower_index, newest_there}
use Rattle.st_base.specs.declared.entry.Entry.{Entry}
use Rattle.st_base.specs.declared.entry.Mark.{Mark}
use Rattle.st_base.specs.declared.entry.Mark.TheVariants.{Gone}
use Rattle.st_base.specs.declared.entry.KeyRange.{KeyRange}
use Rattle.st_base.proofs.Ordered.{newest_at, not_before}
use Rattle.st_base.proofs.Same.{same_true}
use Rattle.st_order.specs.Least.{lesser_key, least_within}
use Rattle.st_order.proofs.Halves.{get_there}
use Rattle.st_order.specs.Sorted.{joined, put_in, sorted}
use Rattle.st_order.proofs.Columns.{Weak, behind_chain, sorted_falls, sorted_weak}
use Rattle.st_order.proofs.Sorted.{NotBefore, chain, first_before, not_back, rest_ordered}
use Rattle.st_order.proofs.Least.{run_none, run_takes}
use Rattle.st_memtable.specs.Runs.{lies_in, sooner, suits}
use Rattle.st_memtable.proofs.Positions.{joined_push}

-- ---- by halves

pub half_before : (entries : List Entry) (key : List ℕ) (number i : ℕ) (entry : Entry) → in_order entries ≡ true → i < length entries → get_or entries i entry ≡ entry → is_before key number entry ≡ true → i < lower_index entries key number
half_before entries key number i entry ordered lt at before = elim (cases_lt i (lower_index entries key number)) [
  | inl less ↦ less
  | inr more ↦ absurd (false≢true (sym (not_before entries key number i entry ordered more lt) ∙ ap (is_before key number) at ∙ before))
]

pub half_behind : (entries : List Entry) (key : List ℕ) (number i : ℕ) (entry : Entry) → get_or entries i entry ≡ entry → is_before key number entry ≡ false → lower_index entries key number ≤ i
half_behind entries key number i entry at behind = elim (cases_lt i (lower_index entries key number)) [
  | inl less ↦ absurd (false≢true (sym behind ∙ ap (is_before key number) (sym at) ∙ prefix_len_passes (is_before key number) entries i entry less))
  | inr more ↦ more
]

-- ---- in one run

module _ {X : Type 0} (p : X → Bool) where
  found_passes : (xs : List X) (x : X) → find p xs ≡ Some x → p x ≡ true
  found_passes [] x e = absurd cc
  found_passes (y ∷ ys) x e = step (p y) refl e (λ f. found_passes ys x f)
    where
      step : (b : Bool) → p y ≡ b → cond b (Some y) (find p ys) ≡ Some x → (find p ys ≡ Some x → p x ≡ true) → p x ≡ true
      step true here f more = subst (λ (z : X). p z ≡ true) (let g : y ≡ x = cc in g) here
      step false here f more = more f

past_end : {X : Type 0} (xs : List X) (i : ℕ) → length xs ≤ i → slice_get xs i ≡ None
past_end [] i le = refl
past_end (x ∷ xs) zero le = absurd (omega arith)
past_end (x ∷ xs) (suc i) le = past_end xs i (omega arith)

in_front : {X : Type 0} (xs : List X) (i : ℕ) → slice_get xs i ≡ None → length xs ≤ i
in_front [] i e = omega arith
in_front (x ∷ xs) zero e = absurd cc
in_front (x ∷ xs) (suc i) e = let le = in_front xs i e in omega arith

same_entry : (one other : Entry) → one.key ≡ other.key → one.number ≡ other.number → one.mark ≡ other.mark → one ≡ other
same_entry one other e f g =
    ap (λ key. record { key = key; number = one.number; mark = one.mark }) e ∙ ap (λ number. record { key = other.key; number = number; mark = one.mark }) f
    ∙ ap (λ mark. record { key = other.key; number = other.number; mark = mark }) g

abbrev none : ℕ × Mark
none = (0, Gone)

abbrev shown : Entry → Option (ℕ × Mark)
shown entry = Some (entry.number, entry.mark)

number_is : (one other : Entry) → shown one ≡ shown other → one.number ≡ other.number
number_is one other e = ap (λ (o : Option (ℕ × Mark)). (Rattle.std.proofs.Common.unwrap_or o none).0) e

mark_is : (one other : Entry) → shown one ≡ shown other → one.mark ≡ other.mark
mark_is one other e = ap (λ (o : Option (ℕ × Mark)). (Rattle.std.proofs.Common.unwrap_or o none).1) e

module _ (entries : List Entry) (key : List ℕ) (number : ℕ) (ordered : in_order entries ≡ true) where
  told : option_map (λ (entry : Entry). (entry.number, entry.mark)) (find (suits key number) entries) ≡ newest_there key (slice_get entries (lower_index entries key number))
  told = newest_at key number entries ordered

  pub newest_here : (index : ℕ) (entry : Entry) → index ≡ lower_index entries key number → slice_get entries index ≡ Some entry → same entry.key key ≡ true → Some entry ≡ find (suits key number) entries
  newest_here index entry at there is = step (find (suits key number) entries) refl
    where
      seen : newest_there key (slice_get entries (lower_index entries key number)) ≡ Some (entry.number, entry.mark)
      seen = ap (λ i. newest_there key (slice_get entries i)) (sym at) ∙ ap (newest_there key) there ∙ ap (λ b. cond b (Some (entry.number, entry.mark)) None) is

      step : (found : Option Entry) → find (suits key number) entries ≡ found → Some entry ≡ found
      step None e = absurd (let f : None ≡ Some (entry.number, entry.mark) = sym (ap (option_map (λ (x : Entry). (x.number, x.mark))) e) ∙ told ∙ seen in cc)
      step (Some other) e =
          let f : shown other ≡ shown entry = sym (ap (option_map (λ (x : Entry). (x.number, x.mark))) e) ∙ told ∙ seen in
          let has = (and_parts (same other.key key) (Rattle.std.specs.Prelude.nat_le other.number number) (found_passes (suits key number) entries other e)).0 in
          ap Some (same_entry entry other (same_true entry.key key is ∙ sym (same_true other.key key has)) (sym (number_is other entry f)) (sym (mark_is other entry f)))

  newest_not : newest_there key (slice_get entries (lower_index entries key number)) ≡ None → None ≡ find (suits key number) entries
  newest_not none = step (find (suits key number) entries) refl
    where
      step : (found : Option Entry) → find (suits key number) entries ≡ found → None ≡ found
      step None e = refl
      step (Some other) e = absurd (let f : Some (other.number, other.mark) ≡ None = sym (ap (option_map (λ (x : Entry). (x.number, x.mark))) e) ∙ told ∙ none in cc)

  pub newest_other : (index : ℕ) (entry : Entry) → index ≡ lower_index entries key number → slice_get entries index ≡ Some entry → same entry.key key ≡ false → None ≡ find (suits key number) entries
  newest_other index entry at there is =
      newest_not (ap (λ i. newest_there key (slice_get entries i)) (sym at) ∙ ap (newest_there key) there ∙ ap (λ b. cond b (Some (entry.number, entry.mark)) None) is)

  pub newest_past : (index : ℕ) → index ≡ lower_index entries key number → index ≡ length entries → None ≡ find (suits key number) entries
  newest_past index at end = newest_not (ap (λ i. newest_there key (slice_get entries i)) (sym at) ∙ ap (newest_there key) (past_end entries index (omega arith)))

module _ {X : Type 0} (p : X → Bool) (xs : List X) where
  pub position_finds : (index : ℕ) (x : X) → Some index ≡ position p xs → slice_get xs index ≡ Some x → Some x ≡ find p xs
  position_finds index x e there = step (ltb (position_or_len p xs) (length xs)) e
    where
      step : (b : Bool) → Some index ≡ cond b (Some (position_or_len p xs)) None → Some x ≡ find p xs
      step true f = sym there ∙ ap (slice_get xs) (let g : index ≡ position_or_len p xs = cc in g) ∙ sym (find_at p xs)
      step false f = absurd cc

  pub position_misses : None ≡ position p xs → None ≡ find p xs
  position_misses e = step (ltb (position_or_len p xs) (length xs)) refl e
    where
      step : (b : Bool) → ltb (position_or_len p xs) (length xs) ≡ b → None ≡ cond b (Some (position_or_len p xs)) None → None ≡ find p xs
      step true is f = absurd cc
      step false is f = sym (find_at p xs ∙ past_end xs (position_or_len p xs) (elim (cases_lt (position_or_len p xs) (length xs)) [
        | inl less ↦ absurd (false≢true (sym is ∙ lt-ltb (position_or_len p xs) (length xs) less))
        | inr more ↦ more
      ]))

  pub finds_position : (x : X) → find p xs ≡ Some x → (Some (position_or_len p xs) ≡ position p xs) × (slice_get xs (position_or_len p xs) ≡ Some x)
  finds_position x e =
      let there : slice_get xs (position_or_len p xs) ≡ Some x = sym (find_at p xs) ∙ e in
      (sym (ap (λ b. cond b (Some (position_or_len p xs)) None) (lt-ltb (position_or_len p xs) (length xs) (get_there xs (position_or_len p xs) x x there).0)), there)

  pub misses_position : find p xs ≡ None → None ≡ position p xs
  misses_position e = sym (ap (λ b. cond b (Some (position_or_len p xs)) None) (le-ltb (position_or_len p xs) (length xs) (in_front xs (position_or_len p xs) (sym (find_at p xs) ∙ e))))

-- the key of the first entry in a range is the least
pub least_is_first : (range : KeyRange) (entries : List Entry) → in_order entries ≡ true → option_map (λ (entry : Entry). entry.key) (find (lies_in range) entries) ≡ least_within range (entries ∷ [])
least_is_first range entries ordered = step (find (lies_in range) entries) refl
  where
    flat : Rattle.std.specs.List.flat_map Rattle.st_base.specs.Range.keys_of (entries ∷ []) ≡ Rattle.st_base.specs.Range.keys_of entries
    flat = Rattle.std.proofs.Common.append-nil (Rattle.st_base.specs.Range.keys_of entries)

    one : least_within range (entries ∷ []) ≡ fold lesser_key None (Rattle.std.specs.Prelude.filter (Rattle.st_base.specs.Range.is_in_range range) (Rattle.st_base.specs.Range.keys_of entries))
    one = ap (λ keys. fold lesser_key None (Rattle.std.specs.Prelude.filter (Rattle.st_base.specs.Range.is_in_range range) keys)) flat

    step : (found : Option Entry) → find (lies_in range) entries ≡ found → option_map (λ (entry : Entry). entry.key) found ≡ least_within range (entries ∷ [])
    step None e = sym (one ∙ run_none range entries None (misses_position (lies_in range) entries e))
    step (Some entry) e =
        let at = finds_position (lies_in range) entries entry e in
        sym (one ∙ run_takes range entries ordered (position_or_len (lies_in range) entries) entry at.0 at.1 None tt)

-- ---- in runs that are joined

sooner_again : (a b c : Option Entry) → sooner a (sooner b c) ≡ sooner (sooner a b) c
sooner_again None b c = refl
sooner_again (Some x) None c = refl
sooner_again (Some x) (Some y) None = turn (comes_before y x)
  where
    turn : (b : Bool) → cond b (Some y) (Some x) ≡ sooner (cond b (Some y) (Some x)) None
    turn true = refl
    turn false = refl
sooner_again (Some x) (Some y) (Some z) = step (comes_before z y) refl (comes_before y x) refl
  where
    step : (b : Bool) → comes_before z y ≡ b → (c : Bool) → comes_before y x ≡ c → sooner (Some x) (cond b (Some z) (Some y)) ≡ sooner (cond c (Some y) (Some x)) (Some z)
    step true e true f = ap (λ b. cond b (Some z) (Some x)) (chain z y x e f) ∙ sym (ap (λ b. cond b (Some z) (Some y)) e)
    step true e false f = refl
    step false e true f = ap (λ b. cond b (Some y) (Some x)) f ∙ sym (ap (λ b. cond b (Some z) (Some y)) e)
    step false e false f = ap (λ b. cond b (Some y) (Some x)) f ∙ sym (ap (λ b. cond b (Some z) (Some x)) (behind_chain x y z f e))

pub weak_of : (xs : List Entry) → in_order xs ≡ true → Weak xs
weak_of [] ordered = tt
weak_of (x ∷ xs) ordered = (behind xs (first_before x xs ordered), weak_of xs (rest_ordered x xs ordered))
  where
    behind : (ys : List Entry) → Each (λ y. comes_before x y ≡ true) ys → Each (NotBefore x) ys
    behind [] each = tt
    behind (y ∷ ys) each = (not_back x y each.0, behind ys each.1)

module _ (p : Entry → Bool) where
  -- none in front comes before
  sooner_stays : (x : Entry) (ys : List Entry) → Each (NotBefore x) ys → sooner (Some x) (find p ys) ≡ Some x
  sooner_stays x [] each = refl
  sooner_stays x (y ∷ ys) each = step (p y) (sooner_stays x ys each.1)
    where
      step : (b : Bool) → sooner (Some x) (find p ys) ≡ Some x → sooner (Some x) (cond b (Some y) (find p ys)) ≡ Some x
      step true rest = ap (λ b. cond b (Some y) (Some x)) each.0
      step false rest = rest

  find_put : (x : Entry) (ys : List Entry) → Weak ys → find p (put_in x ys) ≡ cond (p x) (sooner (Some x) (find p ys)) (find p ys)
  find_put x [] weak = refl
  find_put x (y ∷ ys) weak = step (comes_before y x) refl (find_put x ys weak.1)
    where
      each_as : (zs : List Entry) → NotBefore x y → Each (NotBefore y) zs → Each (NotBefore x) zs
      each_as [] e each = tt
      each_as (z ∷ zs) e each = (behind_chain x y z e each.0, each_as zs e each.1)

      inner : (c : Bool) → comes_before y x ≡ true → (d : Bool) → cond c (Some y) (cond d (sooner (Some x) (find p ys)) (find p ys)) ≡ cond d (sooner (Some x) (cond c (Some y) (find p ys))) (cond c (Some y) (find p ys))
      inner true e true = sym (ap (λ b. cond b (Some y) (Some x)) e)
      inner true e false = refl
      inner false e true = refl
      inner false e false = refl

      step : (b : Bool) → comes_before y x ≡ b → find p (put_in x ys) ≡ cond (p x) (sooner (Some x) (find p ys)) (find p ys)
          → find p (cond b (y ∷ put_in x ys) (x ∷ y ∷ ys)) ≡ cond (p x) (sooner (Some x) (cond (p y) (Some y) (find p ys))) (cond (p y) (Some y) (find p ys))
      step true e rest = ap (λ found. cond (p y) (Some y) found) rest ∙ inner (p y) e (p x)
      step false e rest = ap (λ some. cond (p x) some (cond (p y) (Some y) (find p ys))) (sym (sooner_stays x (y ∷ ys) (e, each_as ys e weak.0)))

  find_sorted : (xs ys : List Entry) → find p (sorted (xs ++ ys)) ≡ sooner (find p (sorted xs)) (find p (sorted ys))
  find_sorted [] ys = refl
  find_sorted (x ∷ xs) ys =
      find_put x (sorted (xs ++ ys)) (sorted_weak (xs ++ ys)) ∙ ap (λ found. cond (p x) (sooner (Some x) found) found) (find_sorted xs ys) ∙ step (p x)
      ∙ sym (ap (λ found. sooner found (find p (sorted ys))) (find_put x (sorted xs) (sorted_weak xs)))
    where
      step : (b : Bool) → cond b (sooner (Some x) (sooner (find p (sorted xs)) (find p (sorted ys)))) (sooner (find p (sorted xs)) (find p (sorted ys)))
          ≡ sooner (cond b (sooner (Some x) (find p (sorted xs))) (find p (sorted xs))) (find p (sorted ys))
      step true = sooner_again (Some x) (find p (sorted xs)) (find p (sorted ys))
      step false = refl

  -- one run more
  pub found_more : (runs : List (List Entry)) (i : ℕ) (run : List Entry) (so_far here after : Option Entry) → i < length runs → get_or runs i [] ≡ run → in_order run ≡ true
      → so_far ≡ find p (sorted (joined (take i runs))) → here ≡ find p run → after ≡ sooner so_far here → after ≡ find p (sorted (joined (take (i + 1) runs)))
  found_more runs i run so_far here after lt at ordered front this is =
      is ∙ ap₂ sooner front (this ∙ ap (find p) (sym (sorted_falls run (weak_of run ordered))))
      ∙ sym (find_sorted (joined (take i runs)) run)
      ∙ ap (λ all. find p (sorted all)) (sym (joined_push (take i runs) run))
      ∙ ap (λ some. find p (sorted (joined some))) (sym (Rattle.std.proofs.lemmas.List.take_more runs i [] lt ∙ ap (λ one. take i runs ++ one ∷ []) at))
