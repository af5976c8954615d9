-- Where the first entry in a range stands, among entries in order.
use Rattle.std.proofs.Common.{◌≡◌, ℕ, zero, suc, ◌+◌, ◌<◌, ◌≤◌, ◌⊎◌, Bool, true, false, cond, not, ltb, List, [], ◌∷◌, length, get_or, Option, Some, None, Ordering, Less, Equal, Greater, refl, sym, ap, subst, ◌∙◌, inl, inr, arith}
use Rattle.std.specs.Prelude.{slice_get}
use Rattle.std.specs.List.{position, AllByRecursion as Each}
use Rattle.std.specs.Ordering.{nat_cmp, ordering_then, is_lt}
use Rattle.std.proofs.lemmas.Bool.{cases_lt, lt-ltb, le-ltb, false≢true, ltb-true, and_left, and_right}
use Rattle.std.proofs.lemmas.List.Sums.{prefix_len-le-length, prefix_len_passes, position_or_len_is}
use Rattle.st_base.specs.Bytes.{bytes_cmp, at_most, below}
use Rattle.st_base.specs.Order.{is_before, in_order}
use Rattle.st_base.specs.Rows.{lower_index, Fits}
use Rattle.st_base.specs.declared.entry.Entry.{Entry}
use Rattle.st_base.proofs.Ordered.{entries_pairs, not_before}
use Rattle.st_base.specs.Range.{is_in_range}
use Rattle.st_order.specs.Order.{between, first_index_in}
use Rattle.base_laws.proofs.Keys.{comes_before_key, at_most_itself, at_most_flips, at_most_below, at_most_trans, not_at_most, below_not}
use Rattle.base_laws.proofs.Ranges.{within_from}

abbrev most : ℕ
most = 18446744073709551615

-- ---- indexes in lists

module _ {X : Type 0} where
  pub get_there : (xs : List X) (i : ℕ) (x d : X) → slice_get xs i ≡ Some x → (i < length xs) × (get_or xs i d ≡ x)
  get_there [] i x d e = absurd cc
  get_there (y ∷ ys) zero x d e = (omega arith, (cc))
  get_there (y ∷ ys) (suc i) x d e = let rest = get_there ys i x d e in (omega (arith, rest.0), rest.1)

  pub each_at : (P : X → Type 0) (xs : List X) (i : ℕ) (d : X) → Each P xs → i < length xs → P (get_or xs i d)
  each_at P [] i d each lt = absurd (omega arith)
  each_at P (x ∷ xs) zero d each lt = each.0
  each_at P (x ∷ xs) (suc i) d each lt = each_at P xs i d each.1 (omega arith)

  pub position_found : (p : X → Bool) (xs : List X) (i : ℕ) (d : X) → i < length xs → ((k : ℕ) → k < i → p (get_or xs k d) ≡ false) → p (get_or xs i d) ≡ true → Some i ≡ position p xs
  position_found p xs i d lt before here =
      let at = position_or_len_is p xs i d (omega arith) before (λ _. here) in
      sym (ap (λ n. cond (ltb n (length xs)) (Some n) None) at ∙ ap (λ b. cond b (Some i) None) (lt-ltb i (length xs) lt))

  pub position_none : (p : X → Bool) (xs : List X) (d : X) → ((k : ℕ) → k < length xs → p (get_or xs k d) ≡ false) → None ≡ position p xs
  position_none p xs d before =
      let at = position_or_len_is p xs (length xs) d (omega arith) before (λ lt. absurd (omega arith)) in
      sym (ap (λ n. cond (ltb n (length xs)) (Some n) None) at ∙ ap (λ b. cond b (Some (length xs)) None) (le-ltb (length xs) (length xs) (omega arith)))

-- ---- entries around an index

below_of : (o : Ordering) (number : ℕ) → number ≤ most → is_lt (ordering_then o (nat_cmp most number)) ≡ true → is_lt o ≡ true
below_of Less number fits e = refl
below_of Equal number fits e = absurd (false≢true (sym (not_less (ltb most number) refl) ∙ e))
  where
    pick : (b : Bool) → is_lt (cond b Equal Greater) ≡ false
    pick true = refl
    pick false = refl

    not_less : (b : Bool) → ltb most number ≡ b → is_lt (nat_cmp most number) ≡ false
    not_less true is = absurd (let lt : most < number = ltb-true most number is in omega arith)
    not_less false is = ap (λ b. is_lt (cond b Less (cond (Rattle.std.proofs.Common.eqb most number) Equal Greater))) is ∙ pick (Rattle.std.proofs.Common.eqb most number)
below_of Greater number fits e = absurd cc

not_before_of : (o p : Ordering) → is_lt (ordering_then o p) ≡ false → is_lt o ≡ false
not_before_of Less p e = e
not_before_of Equal p e = refl
not_before_of Greater p e = refl

-- keys in front of the index are below the key
pub front_below : (entries : List Entry) (key : List ℕ) (i : ℕ) (d : Entry) → Each Fits entries → i < lower_index entries key most → below (get_or entries i d).key key ≡ true
front_below entries key i d fits lt =
    let e = get_or entries i d in
    let long : i < length entries = omega (arith, prefix_len-le-length (is_before key most) entries) in
    below_of (bytes_cmp e.key key) e.number (let small = (each_at Fits entries i d fits long).number in omega arith) (prefix_len_passes (is_before key most) entries i d lt)

-- keys from the index on are at least the key
pub back_reaches : (entries : List Entry) (key : List ℕ) (number i : ℕ) (d : Entry) → in_order entries ≡ true → lower_index entries key number ≤ i → i < length entries → at_most key (get_or entries i d).key ≡ true
back_reaches entries key number i d ordered le lt =
    let e = get_or entries i d in
    at_most_flips key e.key ∙ ap not (not_before_of (bytes_cmp e.key key) (nat_cmp number e.number) (not_before entries key number i d ordered le lt))

pub keys_rise : (entries : List Entry) (i j : ℕ) (d : Entry) → in_order entries ≡ true → i ≤ j → j < length entries → at_most (get_or entries i d).key (get_or entries j d).key ≡ true
keys_rise entries i j d ordered le lt = elim (cases_lt i j) [
  | inl less ↦ comes_before_key (get_or entries i d) (get_or entries j d) (entries_pairs entries ordered i j d less lt)
  | inr more ↦ let same : i ≡ j = omega arith in subst (λ n. at_most (get_or entries i d).key (get_or entries n d).key ≡ true) same (at_most_itself (get_or entries i d).key)
]

-- ---- the first entry in a range

module _ (entries : List Entry) (first last : List ℕ) (ordered : in_order entries ≡ true) (fits : Each Fits entries) where
  outside : (i : ℕ) (d : Entry) → i < lower_index entries first most → is_in_range (between first last) (get_or entries i d).key ≡ false
  outside i d lt =
      let key = (get_or entries i d).key in
      and_left (at_most first key) (at_most key last) (below_not key first (front_below entries first i d fits lt))

  pub first_found : (index : ℕ) (e : Entry) → index ≡ lower_index entries first most → slice_get entries index ≡ Some e → at_most e.key last ≡ true → Some index ≡ first_index_in (between first last) entries
  first_found index e at there low =
      let here = get_there entries index e e there in
      position_found (λ (entry : Entry). is_in_range (between first last) entry.key) entries index e here.0
      (λ k lt. outside k e (omega arith))
      (subst (λ (x : Entry). is_in_range (between first last) x.key ≡ true) (sym here.1)
      (within_from (between first last) e.key (subst (λ (x : Entry). at_most first x.key ≡ true) here.1 (back_reaches entries first most index e ordered (omega arith) here.0)) low))

  pub first_past : (index : ℕ) (e : Entry) → index ≡ lower_index entries first most → slice_get entries index ≡ Some e → at_most e.key last ≡ false → None ≡ first_index_in (between first last) entries
  first_past index e at there high =
      let here = get_there entries index e e there in
      position_none (λ (entry : Entry). is_in_range (between first last) entry.key) entries e (λ k lt. elim (cases_lt k index) [
        | inl less ↦ outside k e (omega arith)
        | inr more ↦
            let key = (get_or entries k e).key in
            let rises : at_most e.key key ≡ true = subst (λ (x : Entry). at_most x.key key ≡ true) here.1 (keys_rise entries index k e ordered more lt) in
            and_right (at_most first key) (at_most key last) (below_not last key (Rattle.base_laws.proofs.Keys.below_at_most_below last e.key key (not_at_most e.key last high) rises))
      ])

  pub first_none : (d : Entry) → length entries ≡ lower_index entries first most → None ≡ first_index_in (between first last) entries
  first_none d at = position_none (λ (entry : Entry). is_in_range (between first last) entry.key) entries d (λ k lt. outside k d (omega arith))
