-- What the pass leaves of each column, and that it stays in order.
use Rattle.std.proofs.Common.{◌≡◌, ℕ, Bool, true, false, cond, ◌&&◌, List, [], ◌∷◌, ◌++◌, Ordering, Less, Equal, Greater, refl, sym, ap, subst, ◌∙◌, append-nil}
use Rattle.std.specs.List.{AllByRecursion as Each}
use Rattle.std.specs.Ordering.{is_lt, is_le, is_eq}
use Rattle.std.proofs.lemmas.Bool.{false≢true, and_from}
use Rattle.std.proofs.lemmas.Cmp.{nat_list_cmp_total, tied_itself}
use Rattle.st_base.specs.Bytes.{bytes_cmp, same, at_most, below}
use Rattle.st_base.specs.Order.{comes_before, in_order, rises_behind}
use Rattle.st_base.specs.declared.entry.Entry.{Entry}
use Rattle.st_base.specs.declared.entry.KeyRange.{KeyRange}
use Rattle.st_base.proofs.Same.{same_true, same_self, same_is_eq}
use Rattle.st_order.specs.Columns.{Pairwise, of_key}
use Rattle.job_model.specs.Column.{compacted, kept_behind, without_tombstone, is_gone, is_read_between}
use Rattle.st_order.specs.Columns.{IsJoined}
use Rattle.job_model.specs.Compaction.{IsCompaction}
use Rattle.job_model.specs.Drops.{covers}
use Rattle.base_laws.proofs.Keys.{below_at_most_below, comes_before_key}
use Rattle.st_order.proofs.Sorted.{first_before, rest_ordered}
use Rattle.st_compact.specs.Pass.{finished, pass, pass_all}

-- ---- pairs of entries in order

abbrev Before : Entry → Entry → Type 0
Before one other = comes_before one other ≡ true

pub pairs_of : (entries : List Entry) → in_order entries ≡ true → Pairwise Before entries
pairs_of [] e = tt
pairs_of (x ∷ xs) e = (first_before x xs e, pairs_of xs (rest_ordered x xs e))

behind_of : (x : Entry) (xs : List Entry) → Pairwise Before (x ∷ xs) → rises_behind comes_before x xs ≡ true
behind_of x [] pairs = refl
behind_of x (y ∷ ys) pairs = and_from (comes_before x y) (rises_behind comes_before y ys) pairs.0.0 (behind_of y ys pairs.1)

pub order_of : (entries : List Entry) → Pairwise Before entries → in_order entries ≡ true
order_of [] pairs = refl
order_of (x ∷ xs) pairs = behind_of x xs pairs

each_as : {X : Type 0} (P Q : X → Type 0) → ((x : X) → P x → Q x) → (xs : List X) → Each P xs → Each Q xs
each_as P Q more [] each = tt
each_as P Q more (x ∷ xs) each = (more x each.0, each_as P Q more xs each.1)

each_join : {X : Type 0} (P : X → Type 0) (xs ys : List X) → Each P xs → Each P ys → Each P (xs ++ ys)
each_join P [] ys front back = back
each_join P (x ∷ xs) ys front back = (front.0, each_join P xs ys front.1 back)

module _ (live : List ℕ) (drops : List KeyRange) where
  -- ---- what is left is a part, in its order

  finished_each : (P : Entry → Type 0) (held : Entry) → P held → Each P (finished drops held)
  finished_each P held holds = step (is_gone held.mark && covers drops held.key)
    where
      step : (b : Bool) → Each P (cond b [] (held ∷ []))
      step true = tt
      step false = (holds, tt)

  pass_each : (P : Entry → Type 0) (held : Entry) (before : ℕ) (entries : List Entry) → P held → Each P entries → Each P (pass live drops held before entries)
  pass_each P held before [] this each = finished_each P held this
  pass_each P held before (entry ∷ entries) this each =
      step (same held.key entry.key) (is_read_between live entry.number before) (pass_each P entry entry.number entries each.0 each.1) (pass_each P held entry.number entries this each.1)
    where
      step : (b c : Bool) → Each P (pass live drops entry entry.number entries) → Each P (pass live drops held entry.number entries)
          → Each P (cond b (cond c (held ∷ pass live drops entry entry.number entries) (pass live drops held entry.number entries)) (finished drops held ++ pass live drops entry entry.number entries))
      step true true next stay = (this, next)
      step true false next stay = stay
      step false c next stay = each_join P (finished drops held) (pass live drops entry entry.number entries) (finished_each P held this) next

  pass_pairs : (R : Entry → Entry → Type 0) (held : Entry) (before : ℕ) (entries : List Entry) → Each (R held) entries → Pairwise R entries → Pairwise R (pass live drops held before entries)
  pass_pairs R held before [] first pairs = alone (is_gone held.mark && covers drops held.key)
    where
      alone : (b : Bool) → Pairwise R (cond b [] (held ∷ []))
      alone true = tt
      alone false = (tt, tt)
  pass_pairs R held before (entry ∷ entries) first pairs =
      step (same held.key entry.key) (is_read_between live entry.number before) (pass_pairs R entry entry.number entries pairs.0 pairs.1) (pass_pairs R held entry.number entries first.1 pairs.1)
      (pass_each (R held) entry entry.number entries first.0 first.1)
    where
      in_front : (b : Bool) → Pairwise R (pass live drops entry entry.number entries) → Each (R held) (pass live drops entry entry.number entries) → Pairwise R (cond b [] (held ∷ []) ++ pass live drops entry entry.number entries)
      in_front true next behind = next
      in_front false next behind = (behind, next)

      step : (b c : Bool) → Pairwise R (pass live drops entry entry.number entries) → Pairwise R (pass live drops held entry.number entries) → Each (R held) (pass live drops entry entry.number entries)
          → Pairwise R (cond b (cond c (held ∷ pass live drops entry entry.number entries) (pass live drops held entry.number entries)) (finished drops held ++ pass live drops entry entry.number entries))
      step true true next stay behind = (behind, next)
      step true false next stay behind = stay
      step false c next stay behind = in_front (is_gone held.mark && covers drops held.key) next behind

  pub all_pairs : (R : Entry → Entry → Type 0) (entries : List Entry) → Pairwise R entries → Pairwise R (pass_all live drops entries)
  all_pairs R [] pairs = tt
  all_pairs R (x ∷ xs) pairs = pass_pairs R x x.number xs pairs.0 pairs.1

-- ---- keys

abbrev AtMost : Entry → Entry → Type 0
AtMost one other = at_most one.key other.key ≡ true

strictly : (o : Ordering) → is_le o ≡ true → is_eq o ≡ false → is_lt o ≡ true
strictly Less le ne = refl
strictly Equal le ne = absurd cc
strictly Greater le ne = absurd cc

below_of : (a b : List ℕ) → at_most a b ≡ true → same a b ≡ false → below a b ≡ true
below_of a b le ne = strictly (bytes_cmp a b) le (sym (same_is_eq a b) ∙ ne)

differs : (a b : List ℕ) → below a b ≡ true → same b a ≡ false
differs a b less = step (same b a) refl
  where
    step : (t : Bool) → same b a ≡ t → t ≡ false
    step true e = absurd (false≢true (sym (ap is_lt (tied_itself nat_list_cmp_total a)) ∙ subst (λ k. below a k ≡ true) (same_true b a e) less))
    step false e = refl

none_of : (key : List ℕ) (entry : Entry) (entries : List Entry) → below key entry.key ≡ true → Each (AtMost entry) entries → of_key key entries ≡ []
none_of key entry [] less each = refl
none_of key entry (x ∷ xs) less each =
    ap (λ b. cond b (x ∷ of_key key xs) (of_key key xs)) (differs key x.key (below_at_most_below key entry.key x.key less each.0)) ∙ none_of key entry xs less each.1

of_append : (key : List ℕ) (xs ys : List Entry) → of_key key (xs ++ ys) ≡ of_key key xs ++ of_key key ys
of_append key [] ys = refl
of_append key (x ∷ xs) ys = step (same x.key key) (of_append key xs ys)
  where
    step : (b : Bool) → of_key key (xs ++ ys) ≡ of_key key xs ++ of_key key ys → cond b (x ∷ of_key key (xs ++ ys)) (of_key key (xs ++ ys)) ≡ cond b (x ∷ of_key key xs) (of_key key xs) ++ of_key key ys
    step true e = ap (λ rest. x ∷ rest) e
    step false e = e

-- ---- what is left of a column

module _ (live : List ℕ) (drops : List KeyRange) where
  -- the oldest may go
  abbrev thinned : Bool → List Entry → List Entry
  thinned may entries = cond may (without_tombstone entries) entries

  thinned_more : (may : Bool) (x y : Entry) (ys : List Entry) → x ∷ thinned may (y ∷ ys) ≡ thinned may (x ∷ y ∷ ys)
  thinned_more true x y ys = refl
  thinned_more false x y ys = refl

  none_left : (may : Bool) → [] ≡ compacted live may []
  none_left true = refl
  none_left false = refl

  of_one : (key : List ℕ) (x : Entry) (t : Bool) → same x.key key ≡ t → of_key key (x ∷ []) ≡ cond t (x ∷ []) []
  of_one key x t e = ap (λ b. cond b (x ∷ []) []) e

  finished_own : (key : List ℕ) (held : Entry) → held.key ≡ key → of_key key (finished drops held) ≡ thinned (covers drops key) (held ∷ [])
  finished_own key held e = subst (λ k. of_key k (finished drops held) ≡ thinned (covers drops k) (held ∷ [])) e (step (is_gone held.mark) (covers drops held.key))
    where
      step : (gone may : Bool) → of_key held.key (cond (gone && may) [] (held ∷ [])) ≡ cond may (cond gone [] (held ∷ [])) (held ∷ [])
      step true true = refl
      step true false = of_one held.key held true (same_self held.key)
      step false true = of_one held.key held true (same_self held.key)
      step false false = of_one held.key held true (same_self held.key)

  finished_other : (key : List ℕ) (held : Entry) → same held.key key ≡ false → of_key key (finished drops held) ≡ []
  finished_other key held e = step (is_gone held.mark && covers drops held.key)
    where
      step : (b : Bool) → of_key key (cond b [] (held ∷ [])) ≡ []
      step true = refl
      step false = of_one key held false e

  abbrev Own : Entry → ℕ → List Entry → Type 0
  Own held before entries = (key : List ℕ) → held.key ≡ key → of_key key (pass live drops held before entries) ≡ thinned (covers drops key) (held ∷ kept_behind live before (of_key key entries))

  abbrev Other : Entry → ℕ → List Entry → Type 0
  Other held before entries = (key : List ℕ) → same held.key key ≡ false → of_key key (pass live drops held before entries) ≡ compacted live (covers drops key) (of_key key entries)

  same_of : (a b : List ℕ) → a ≡ b → same a b ≡ true
  same_of a b e = subst (λ k. same a k ≡ true) e (same_self a)

  pub columns : (held : Entry) (before : ℕ) (entries : List Entry) → Each (AtMost held) entries → Pairwise AtMost entries → Own held before entries × Other held before entries
  columns held before [] first pairs = ((λ key e. finished_own key held e), (λ key e. finished_other key held e ∙ none_left (covers drops key)))
  columns held before (entry ∷ entries) first pairs =
      step (same held.key entry.key) refl (is_read_between live entry.number before) refl (columns entry entry.number entries pairs.0 pairs.1) (columns held entry.number entries first.1 pairs.1)
    where
      next : List Entry
      next = pass live drops entry entry.number entries

      stay : List Entry
      stay = pass live drops held entry.number entries

      after : Bool → Bool → List Entry
      after b c = cond b (cond c (held ∷ next) stay) (finished drops held ++ next)

      of_own : (key : List ℕ) → entry.key ≡ key → of_key key (entry ∷ entries) ≡ entry ∷ of_key key entries
      of_own key e = ap (λ b. cond b (entry ∷ of_key key entries) (of_key key entries)) (same_of entry.key key e)

      of_other : (key : List ℕ) → same entry.key key ≡ false → of_key key (entry ∷ entries) ≡ of_key key entries
      of_other key e = ap (λ b. cond b (entry ∷ of_key key entries) (of_key key entries)) e

      step : (b : Bool) → same held.key entry.key ≡ b → (c : Bool) → is_read_between live entry.number before ≡ c
          → Own entry entry.number entries × Other entry entry.number entries → Own held entry.number entries × Other held entry.number entries
          → ((key : List ℕ) → held.key ≡ key → of_key key (after b c) ≡ thinned (covers drops key) (held ∷ kept_behind live before (of_key key (entry ∷ entries))))
          × ((key : List ℕ) → same held.key key ≡ false → of_key key (after b c) ≡ compacted live (covers drops key) (of_key key (entry ∷ entries)))
      step true is true read of_next of_stay = (
        (λ key e.
            let own : entry.key ≡ key = sym (same_true held.key entry.key is) ∙ e in
            ap (λ t. cond t (held ∷ of_key key next) (of_key key next)) (same_of held.key key e)
            ∙ ap (λ rest. held ∷ rest) (of_next.0 key own)
            ∙ thinned_more (covers drops key) held entry (kept_behind live entry.number (of_key key entries))
            ∙ sym (ap (λ found. thinned (covers drops key) (held ∷ kept_behind live before found)) (of_own key own)
            ∙ ap (λ t. thinned (covers drops key) (held ∷ cond t (entry ∷ kept_behind live entry.number (of_key key entries)) (kept_behind live entry.number (of_key key entries)))) read)),
        (λ key e.
            let other : same entry.key key ≡ false = subst (λ k. same k key ≡ false) (same_true held.key entry.key is) e in
            ap (λ t. cond t (held ∷ of_key key next) (of_key key next)) e ∙ of_next.1 key other ∙ ap (compacted live (covers drops key)) (sym (of_other key other))),
      )
      step true is false read of_next of_stay = (
        (λ key e.
            let own : entry.key ≡ key = sym (same_true held.key entry.key is) ∙ e in
            of_stay.0 key e
            ∙ sym (ap (λ found. thinned (covers drops key) (held ∷ kept_behind live before found)) (of_own key own)
            ∙ ap (λ t. thinned (covers drops key) (held ∷ cond t (entry ∷ kept_behind live entry.number (of_key key entries)) (kept_behind live entry.number (of_key key entries)))) read)),
        (λ key e.
            let other : same entry.key key ≡ false = subst (λ k. same k key ≡ false) (same_true held.key entry.key is) e in
            of_stay.1 key e ∙ ap (compacted live (covers drops key)) (sym (of_other key other))),
      )
      step false is c read of_next of_stay = (
        (λ key e.
            let less : below key entry.key ≡ true = subst (λ k. below k entry.key ≡ true) e (below_of held.key entry.key first.0 is) in
            let other : same entry.key key ≡ false = differs key entry.key less in
            let none : of_key key entries ≡ [] = none_of key entry entries less pairs.0 in
            of_append key (finished drops held) next
            ∙ ap (λ rest. of_key key (finished drops held) ++ rest) (of_next.1 key other ∙ ap (compacted live (covers drops key)) none ∙ sym (none_left (covers drops key)))
            ∙ append-nil (of_key key (finished drops held))
            ∙ finished_own key held e
            ∙ ap (λ found. thinned (covers drops key) (held ∷ kept_behind live before found)) (sym (of_other key other ∙ none))),
        (λ key e.
            of_append key (finished drops held) next ∙ ap (λ front. front ++ of_key key next) (finished_other key held e) ∙ later key (same entry.key key) refl of_next),
      )
        where
          later : (key : List ℕ) (t : Bool) → same entry.key key ≡ t → Own entry entry.number entries × Other entry entry.number entries → of_key key next ≡ compacted live (covers drops key) (of_key key (entry ∷ entries))
          later key true e found = let own = same_true entry.key key e in found.0 key own ∙ ap (compacted live (covers drops key)) (sym (of_own key own))
          later key false e found = found.1 key e ∙ ap (compacted live (covers drops key)) (sym (of_other key e))

  keys_rise : (entries : List Entry) → Pairwise Before entries → Pairwise AtMost entries
  keys_rise [] pairs = tt
  keys_rise (x ∷ xs) pairs = (each_as (Before x) (AtMost x) (λ y e. comes_before_key x y e) xs pairs.0, keys_rise xs pairs.1)

  pub all_columns : (key : List ℕ) (entries : List Entry) → Pairwise AtMost entries → of_key key (pass_all live drops entries) ≡ compacted live (covers drops key) (of_key key entries)
  all_columns key [] pairs = none_left (covers drops key)
  all_columns key (x ∷ xs) pairs = step (same x.key key) refl
    where
      parts : Own x x.number xs × Other x x.number xs
      parts = columns x x.number xs pairs.0 pairs.1

      step : (t : Bool) → same x.key key ≡ t → of_key key (pass live drops x x.number xs) ≡ compacted live (covers drops key) (cond t (x ∷ of_key key xs) (of_key key xs))
      step true e = parts.0 key (same_true x.key key e)
      step false e = parts.1 key e

  pub is_compaction : (runs : List (List Entry)) (entries : List Entry) → IsJoined runs entries → IsCompaction runs live drops (pass_all live drops entries)
  is_compaction runs entries joined = record {
    ordered = order_of (pass_all live drops entries) (all_pairs live drops Before entries (pairs_of entries joined.ordered));
    columns = λ key. all_columns key entries (keys_rise entries (pairs_of entries joined.ordered)) ∙ ap (compacted live (covers drops key)) (joined.columns key);
  }
