-- The columns of the merged list.
use Rattle.std.proofs.Common.{◌≡◌, ℕ, ◌+◌, ◌<◌, ◌≤◌, Bool, true, false, cond, ◌&&◌, not, List, [], ◌∷◌, ◌++◌, flat_map, filter, map, Ordering, Less, Equal, Greater, refl, sym, ap, subst, ◌∙◌, inl, inr, arith}
use Rattle.std.specs.List.{AllByRecursion as Each}
use Rattle.std.specs.Ordering.{nat_cmp, ordering_then, is_lt, is_gt}
use Rattle.std.proofs.lemmas.Bool.{cases_Bool, and_from, le-ltb}
use Rattle.std.proofs.lemmas.Cmp.{nat_list_cmp_total, tied_itself, upto}
use Rattle.st_base.specs.Bytes.{bytes_cmp, same}
use Rattle.st_base.specs.Order.{position_cmp, comes_before, in_order, rises_behind}
use Rattle.st_base.specs.declared.entry.Entry.{Entry}
use Rattle.st_base.proofs.Ordered.{positions_total, positions_strict}
use Rattle.st_base.proofs.Same.{same_true, same_self}
use Rattle.st_order.specs.Columns.{FallStrictly, FallWeakly, IsJoined, Pairwise, column, of_key}
use Rattle.st_order.specs.Sorted.{joined, merged, put_in, sorted}
use Rattle.base_laws.proofs.Lists.{each_as, each_filter}
use Rattle.st_order.proofs.Sorted.{NotBefore, back, not_back, put_each, put_first}

-- ---- no entry comes before one in front of it

abbrev pub Weak : List Entry → Type 0
Weak entries = Pairwise NotBefore entries

pub behind_chain : (x y z : Entry) → NotBefore x y → NotBefore y z → NotBefore x z
behind_chain x y z e f =
    back x z ∙ upto positions_total (x.key, x.number) (y.key, y.number) (z.key, z.number) (sym (back x y) ∙ e) (sym (back y z) ∙ f)

put_weak : (x : Entry) (ys : List Entry) → Weak ys → Weak (put_in x ys)
put_weak x [] weak = (tt, tt)
put_weak x (y ∷ ys) weak = step (comes_before y x) refl (put_weak x ys weak.1)
  where
    step : (b : Bool) → comes_before y x ≡ b → Weak (put_in x ys) → Weak (cond b (y ∷ put_in x ys) (x ∷ y ∷ ys))
    step true e rest = (put_each (NotBefore y) x ys (not_back y x e) weak.0, rest)
    step false e rest = ((e, each_as (NotBefore y) (NotBefore x) (λ z f. behind_chain x y z e f) ys weak.0), weak)

pub sorted_weak : (xs : List Entry) → Weak (sorted xs)
sorted_weak [] = tt
sorted_weak (x ∷ xs) = put_weak x (sorted xs) (sorted_weak xs)

pub sorted_falls : (xs : List Entry) → Weak xs → sorted xs ≡ xs
sorted_falls [] weak = refl
sorted_falls (x ∷ xs) weak = ap (put_in x) (sorted_falls xs weak.1) ∙ put_first x xs weak.0

-- ---- the entries that pass a test

module _ (test : Entry → Bool) where
  put_other : (x : Entry) (ys : List Entry) → test x ≡ false → filter test (put_in x ys) ≡ filter test ys
  put_other x [] e = ap (λ b. cond b (x ∷ []) []) e
  put_other x (y ∷ ys) e = step (comes_before y x) (put_other x ys e)
    where
      step : (b : Bool) → filter test (put_in x ys) ≡ filter test ys → filter test (cond b (y ∷ put_in x ys) (x ∷ y ∷ ys)) ≡ filter test (y ∷ ys)
      step true rest = ap (λ found. cond (test y) (y ∷ found) found) rest
      step false rest = ap (λ b. cond b (x ∷ filter test (y ∷ ys)) (filter test (y ∷ ys))) e

  put_same : (x : Entry) (ys : List Entry) → Weak ys → test x ≡ true → filter test (put_in x ys) ≡ put_in x (filter test ys)
  put_same x [] weak e = ap (λ b. cond b (x ∷ []) []) e
  put_same x (y ∷ ys) weak e = step (comes_before y x) refl (put_same x ys weak.1 e)
    where
      step : (b : Bool) → comes_before y x ≡ b → filter test (put_in x ys) ≡ put_in x (filter test ys) → filter test (cond b (y ∷ put_in x ys) (x ∷ y ∷ ys)) ≡ put_in x (filter test (y ∷ ys))
      step true f rest = inner (test y)
        where
          inner : (c : Bool) → cond c (y ∷ filter test (put_in x ys)) (filter test (put_in x ys)) ≡ put_in x (cond c (y ∷ filter test ys) (filter test ys))
          inner true = ap (λ found. y ∷ found) rest ∙ sym (ap (λ b. cond b (y ∷ put_in x (filter test ys)) (x ∷ y ∷ filter test ys)) f)
          inner false = rest
      step false f rest =
          ap (λ b. cond b (x ∷ filter test (y ∷ ys)) (filter test (y ∷ ys))) e
          ∙ sym (put_first x (filter test (y ∷ ys)) (each_filter (NotBefore x) test (y ∷ ys) (f, each_as (NotBefore y) (NotBefore x) (λ z g. behind_chain x y z f g) ys weak.0)))

  pub passing_sorted : (xs : List Entry) → filter test (sorted xs) ≡ sorted (filter test xs)
  passing_sorted [] = refl
  passing_sorted (x ∷ xs) = step (test x) refl (passing_sorted xs)
    where
      step : (b : Bool) → test x ≡ b → filter test (sorted xs) ≡ sorted (filter test xs) → filter test (put_in x (sorted xs)) ≡ sorted (cond b (x ∷ filter test xs) (filter test xs))
      step true e rest = put_same x (sorted xs) (sorted_weak xs) e ∙ ap (put_in x) rest
      step false e rest = put_other x (sorted xs) e ∙ rest

  pub passing_append : (xs ys : List Entry) → filter test (xs ++ ys) ≡ filter test xs ++ filter test ys
  passing_append [] ys = refl
  passing_append (x ∷ xs) ys = step (test x) (passing_append xs ys)
    where
      step : (b : Bool) → filter test (xs ++ ys) ≡ filter test xs ++ filter test ys → cond b (x ∷ filter test (xs ++ ys)) (filter test (xs ++ ys)) ≡ cond b (x ∷ filter test xs) (filter test xs) ++ filter test ys
      step true e = ap (λ rest. x ∷ rest) e
      step false e = e

  pub passing_joined : (runs : List (List Entry)) → filter test (joined runs) ≡ joined (map (filter test) runs)
  passing_joined [] = refl
  passing_joined (run ∷ runs) = passing_append run (joined runs) ∙ ap (λ rest. filter test run ++ rest) (passing_joined runs)

  -- the merged list of what passes is what passes of the merged list
  pub passing_merged : (runs : List (List Entry)) → filter test (merged runs) ≡ merged (map (filter test) runs)
  unfolding merged
  passing_merged runs = passing_sorted (joined runs) ∙ ap sorted (passing_joined runs)

-- ---- the column of a key

module _ (key : List ℕ) where
  of_joined : (runs : List (List Entry)) → of_key key (joined runs) ≡ column key runs
  of_joined [] = refl
  of_joined (run ∷ runs) = passing_append (λ entry. same entry.key key) run (joined runs) ∙ ap (λ rest. of_key key run ++ rest) (of_joined runs)

  -- entries of one key
  has_key : (xs : List Entry) → Each (λ x. same x.key key ≡ true) (of_key key xs)
  has_key [] = tt
  has_key (x ∷ xs) = step (same x.key key) refl (has_key xs)
    where
      step : (b : Bool) → same x.key key ≡ b → Each (λ y. same y.key key ≡ true) (of_key key xs) → Each (λ y. same y.key key ≡ true) (cond b (x ∷ of_key key xs) (of_key key xs))
      step true e rest = (e, rest)
      step false e rest = rest

  not_less : (a b : ℕ) → b ≤ a → is_lt (nat_cmp a b) ≡ false
  not_less a b le = ap (λ t. is_lt (cond t Less (cond (Rattle.std.proofs.Common.eqb a b) Equal Greater))) (le-ltb a b le) ∙ pick (Rattle.std.proofs.Common.eqb a b)
    where
      pick : (t : Bool) → is_lt (cond t Equal Greater) ≡ false
      pick true = refl
      pick false = refl

  falls_not_before : (x y : Entry) → same x.key key ≡ true → same y.key key ≡ true → y.number ≤ x.number → NotBefore x y
  falls_not_before x y e f le =
      ap (λ (k : List ℕ). is_lt (ordering_then (bytes_cmp k x.key) (nat_cmp x.number y.number))) (same_true y.key key f)
      ∙ ap (λ (k : List ℕ). is_lt (ordering_then (bytes_cmp key k) (nat_cmp x.number y.number))) (same_true x.key key e)
      ∙ ap (λ (o : Ordering). is_lt (ordering_then o (nat_cmp x.number y.number))) (tied_itself nat_list_cmp_total key)
      ∙ not_less x.number y.number le

  falls_weak : (xs : List Entry) → Each (λ x. same x.key key ≡ true) xs → FallWeakly xs → Weak xs
  falls_weak [] keys falls = tt
  falls_weak (x ∷ xs) keys falls = (first xs keys.1 falls.0, falls_weak xs keys.1 falls.1)
    where
      first : (ys : List Entry) → Each (λ y. same y.key key ≡ true) ys → Each (λ y. y.number ≤ x.number) ys → Each (NotBefore x) ys
      first [] k f = tt
      first (y ∷ ys) k f = (falls_not_before x y keys.0 k.0 f.0, first ys k.1 f.1)

pub has_columns : (runs : List (List Entry)) (key : List ℕ) → FallWeakly (column key runs) → of_key key (merged runs) ≡ column key runs
unfolding merged
has_columns runs key falls =
    passing_sorted (λ entry. same entry.key key) (joined runs) ∙ ap sorted (of_joined key runs)
    ∙ sorted_falls (column key runs) (falls_weak key (column key runs) (subst (λ found. Each (λ x. same x.key key ≡ true) found) (of_joined key runs) (has_key key (joined runs))) falls)

-- ---- strict order

weaker : (xs : List Entry) → FallStrictly xs → FallWeakly xs
weaker [] falls = tt
weaker (x ∷ xs) falls = (each_as (λ (y : Entry). y.number < x.number) (λ (y : Entry). y.number ≤ x.number) (λ y lt. omega arith) xs falls.0, weaker xs falls.1)

-- neither comes before the other: one index
one_position : (o : Ordering) → is_lt o ≡ false → is_gt o ≡ false → o ≡ Equal
one_position Less e f = absurd cc
one_position Equal e f = refl
one_position Greater e f = absurd cc

strict : (x y : Entry) (ys : List Entry) → NotBefore x y → FallStrictly (of_key x.key (x ∷ y ∷ ys)) → comes_before x y ≡ true
strict x y ys weak falls = elim (cases_Bool (comes_before x y)) [
  | inl less ↦ less
  | inr more ↦
      let tied = positions_strict x.key y.key x.number y.number (one_position (position_cmp x.key x.number y.key y.number) more (sym (back x y) ∙ weak)) in
      let here : FallStrictly (x ∷ y ∷ of_key x.key ys) =
      subst (λ b. FallStrictly (cond b (x ∷ (y ∷ of_key x.key ys)) (y ∷ of_key x.key ys))) (same_self x.key)
      (subst (λ b. FallStrictly (cond (same x.key x.key) (x ∷ cond b (y ∷ of_key x.key ys) (of_key x.key ys)) (cond b (y ∷ of_key x.key ys) (of_key x.key ys)))) (ap (λ k. same k x.key) (sym tied.0) ∙ same_self x.key) falls) in
      absurd (let lt = here.0.0 in omega (arith, tied.1))
]

of_rest : (key : List ℕ) (x : Entry) (xs : List Entry) → FallStrictly (of_key key (x ∷ xs)) → FallStrictly (of_key key xs)
of_rest key x xs falls = step (same x.key key) falls
  where
    step : (b : Bool) → FallStrictly (cond b (x ∷ of_key key xs) (of_key key xs)) → FallStrictly (of_key key xs)
    step true f = f.1
    step false f = f

ordered : (x : Entry) (xs : List Entry) → Weak (x ∷ xs) → ((key : List ℕ) → FallStrictly (of_key key (x ∷ xs))) → rises_behind comes_before x xs ≡ true
ordered x [] weak falls = refl
ordered x (y ∷ ys) weak falls = and_from (comes_before x y) (rises_behind comes_before y ys) (strict x y ys weak.0.0 (falls x.key)) (ordered y ys weak.1 (λ key. of_rest key x (y ∷ ys) (falls key)))

pub strictly_ordered : (xs : List Entry) → Weak xs → ((key : List ℕ) → FallStrictly (of_key key xs)) → in_order xs ≡ true
strictly_ordered [] weak falls = refl
strictly_ordered (x ∷ xs) weak falls = ordered x xs weak falls

pub is_joined : (runs : List (List Entry)) → ((key : List ℕ) → FallStrictly (column key runs)) → IsJoined runs (merged runs)
unfolding merged
is_joined runs falls =
    let columns : (key : List ℕ) → of_key key (sorted (joined runs)) ≡ column key runs = λ key. has_columns runs key (weaker (column key runs) (falls key)) in
    record {
      ordered = strictly_ordered (sorted (joined runs)) (sorted_weak (joined runs)) (λ key. subst FallStrictly (sym (columns key)) (falls key));
      columns = columns;
    }
