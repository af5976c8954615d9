-- A heap that has one head for each part with entries left, as heads are taken and put.
use Rattle.std.proofs.Common.{◌≡◌, ℕ, zero, suc, ◌+◌, ◌<◌, ◌≤◌, ◌≢◌, Bool, true, false, cond, eqb, List, [], ◌∷◌, length, get_or, set, take, map, Option, Some, None, Ordering, Less, Equal, Greater, refl, sym, ap, subst, ◌∙◌, inl, inr, arith, sum_by, get_or-set_other, get_or-set_same}
use Rattle.std.specs.Ordering.{nat_cmp, ordering_then, is_lt}
use Rattle.std.specs.BinaryHeap.{heap_items}
use Rattle.std.specs.List.{AllByRecursion as Each}
use Rattle.std.specs.List.Sorted.{IsPermutation}
use Rattle.std.proofs.Permutation.{every_shuffled}
use Rattle.std.proofs.lemmas.Bool.{cases_Bool, cases_eq, eq-eqb, eqb-false, eqb-true, false≢true, ne_eqb}
use Rattle.std.proofs.lemmas.Cmp.{nat_list_cmp_total, tied_itself}
use Rattle.std.proofs.lemmas.List.{length-set}
use Rattle.std.proofs.lemmas.List.Sums.{sum_by-cons}
use Rattle.std.proofs.lemmas.List.Sorted.{sum_by-IsPermutation}
use Rattle.st_base.specs.Bytes.{bytes_cmp}
use Rattle.st_base.specs.declared.entry.Entry.{Entry}
use Rattle.base_laws.proofs.Lists.{each_as, each_both}
use Rattle.opening_checks.specs.Heads.{AreHeads, PartHead, Heap, InOrder, IsHeadOf, IsPut, IsTaken, count_left, head_cmp, heads_in, is_of}
use Rattle.opening_checks.proofs.Walked.{NotAhead}

-- ---- how many heads a part has

own : (part : ℕ) (head : PartHead) → head.1 ≡ part → is_of part head ≡ 1
own part head e = ap (λ b. cond b 1 0) (eq-eqb head.1 part e)

other : (part : ℕ) (head : PartHead) → head.1 ≢ part → is_of part head ≡ 0
other part head e = ap (λ b. cond b 1 0) (ne_eqb head.1 part e)

found : (P : PartHead → Type 0) (part : ℕ) (heads : List PartHead) → Each P heads → sum_by (is_of part) heads ≡ 1 → (head : PartHead) × P head × (head.1 ≡ part)
found P part [] each e = absurd (omega (arith, e))
found P part (head ∷ heads) each e = elim (cases_eq head.1 part) [
  | inl is ↦ (head, each.0, is)
  | inr differs ↦ (let none = other part head differs in let sum = sum_by-cons (is_of part) head heads in found P part heads each.1 (omega (arith, e, none, sum)))
]

none_of : (part : ℕ) (heads : List PartHead) → sum_by (is_of part) heads ≡ 0 → Each (λ head. head.1 ≢ part) heads
none_of part [] e = tt
none_of part (head ∷ heads) e = (
  (λ is. let one = own part head is in let sum = sum_by-cons (is_of part) head heads in absurd (omega (arith, e, one, sum))),
  none_of part heads (let sum = sum_by-cons (is_of part) head heads in omega (arith, e, sum)),
)

sum_none : (part : ℕ) (heads : List PartHead) → Each (λ head. head.1 ≢ part) heads → sum_by (is_of part) heads ≡ 0
sum_none part [] each = refl
sum_none part (head ∷ heads) each = let none = other part head each.0 in let rest = sum_none part heads each.1 in let sum = sum_by-cons (is_of part) head heads in omega (arith, none, rest, sum)

-- the same of all parts but one
pub record AreOthers (part : ℕ) (left : List (List Entry)) (heap : Heap) : Type 0 where
  pub order : InOrder heap
  pub there : Each (λ head. IsHeadOf left head × (head.1 ≢ part)) (heads_in heap)
  pub once : (q : ℕ) → q < length left → q ≢ part → sum_by (is_of q) (heads_in heap) ≡ count_left (get_or left q [])
  pub none : sum_by (is_of part) (heads_in heap) ≡ 0

-- ---- a head is taken

tied : (q : ℕ) → nat_cmp q q ≡ Equal
tied q = ap (λ t. cond t Less (cond (eqb q q) Equal Greater)) (Rattle.std.proofs.lemmas.Bool.le-ltb q q (omega arith)) ∙ ap (λ t. cond t Equal Greater) (eq-eqb q q refl)

module _ (left : List (List Entry)) (before after : Heap) (head : PartHead) (are : AreHeads left before) (taken : IsTaken before (Some head) after) where
  all : Each (IsHeadOf left) (head ∷ heads_in after)
  all = every_shuffled (IsHeadOf left) (heads_in before) (head ∷ heads_in after) taken.0 are.there

  pub taken_is : IsHeadOf left head
  taken_is = all.0

  total : (q : ℕ) → q < length left → is_of q head + sum_by (is_of q) (heads_in after) ≡ count_left (get_or left q [])
  total q lt = sym (sum_by-cons (is_of q) head (heads_in after)) ∙ sum_by-IsPermutation (is_of q) (heads_in before) (head ∷ heads_in after) taken.0 ∙ are.once q lt

  one_left : count_left (get_or left head.1 []) ≡ 1
  one_left = ap count_left taken_is.is

  gone : sum_by (is_of head.1) (heads_in after) ≡ 0
  gone = let mine = own head.1 head refl in let sum = total head.1 taken_is.part in let one = one_left in omega (arith, mine, sum, one)

  pub taken_others : AreOthers head.1 left after
  taken_others = record {
    order = (taken.1 are.order).0;
    there = each_both (IsHeadOf left) (λ some. some.1 ≢ head.1) (λ some. IsHeadOf left some × (some.1 ≢ head.1)) (λ some is differs. (is, differs)) (heads_in after) all.1 (none_of head.1 (heads_in after) gone);
    once = λ q lt differs. let none = other q head (λ is. differs (sym is)) in let sum = total q lt in omega (arith, none, sum);
    none = gone;
  }

  -- the heads of other parts don't come before it
  pub taken_first : (entry : Entry) → entry.key ≡ head.0 → (q : ℕ) → q < length left → NotAhead entry.key head.1 q (get_or left q [])
  taken_first entry key_is q lt = subst (λ key. NotAhead key head.1 q (get_or left q [])) (sym key_is) (step (get_or left q []) refl)
    where
      step : (run : List Entry) → get_or left q [] ≡ run → NotAhead head.0 head.1 q run
      step [] e = tt
      step (x ∷ run) e = elim (cases_eq head.1 q) [
        | inl same_part ↦ (
            let here : x ≡ taken_is.entry = (let both : x ∷ run ≡ taken_is.entry ∷ taken_is.tail = sym e ∙ ap (λ n. get_or left n []) (sym same_part) ∙ taken_is.is in cc) in
            ap (λ (k : List ℕ). is_lt (ordering_then (bytes_cmp k head.0) (nat_cmp q head.1))) (ap (λ (y : Entry). y.key) here ∙ taken_is.key)
            ∙ ap (λ (o : Ordering). is_lt (ordering_then o (nat_cmp q head.1))) (tied_itself nat_list_cmp_total head.0)
            ∙ ap (λ n. is_lt (nat_cmp q n)) same_part ∙ ap is_lt (tied q))
        | inr differs ↦ (
            let one : sum_by (is_of q) (heads_in after) ≡ 1 = (let none = other q head differs in let sum = total q lt in let some : count_left (get_or left q []) ≡ 1 = ap count_left e in omega (arith, none, sum, some)) in
            let its = found (λ some. IsHeadOf left some × (is_lt (head_cmp some head) ≡ false)) q (heads_in after)
            (each_both (IsHeadOf left) (λ some. is_lt (head_cmp some head) ≡ false) (λ some. IsHeadOf left some × (is_lt (head_cmp some head) ≡ false)) (λ some is less. (is, less)) (heads_in after) all.1 (taken.1 are.order).1) one in
            let here : x ≡ its.1.0.entry = (let both : x ∷ run ≡ its.1.0.entry ∷ its.1.0.tail = sym e ∙ ap (λ n. get_or left n []) (sym its.2) ∙ its.1.0.is in cc) in
            ap (λ (k : List ℕ). is_lt (ordering_then (bytes_cmp k head.0) (nat_cmp q head.1))) (ap (λ (y : Entry). y.key) here ∙ its.1.0.key)
            ∙ ap (λ n. is_lt (ordering_then (bytes_cmp its.0.0 head.0) (nat_cmp n head.1))) (sym its.2)
            ∙ its.1.1)
      ]

-- none is taken: nothing is left
pub nothing_left : (left : List (List Entry)) (heap : Heap) → AreHeads left heap → heads_in heap ≡ [] → (q : ℕ) → q < length left → get_or left q [] ≡ []
nothing_left left heap are none q lt = step (get_or left q []) (sym (are.once q lt) ∙ ap (sum_by (is_of q)) none)
  where
    step : (run : List Entry) → count_left run ≡ 0 → run ≡ []
    step [] e = refl
    step (x ∷ run) e = absurd (omega (arith, e))

-- ---- a head is put

pub heads_put : (left : List (List Entry)) (part : ℕ) (before after : Heap) → part < length left → AreOthers part left before → IsPut (get_or left part []) part before after → AreHeads left after
heads_put left part before after lt others put = step (get_or left part []) refl put
  where
    step : (run : List Entry) → get_or left part [] ≡ run → IsPut run part before after → AreHeads left after
    step [] e same_heap = record {
      order = subst InOrder (sym same_heap) others.order;
      there = subst (λ heap. Each (IsHeadOf left) (heads_in heap)) (sym same_heap) (each_as (λ head. IsHeadOf left head × (head.1 ≢ part)) (IsHeadOf left) (λ head is. is.0) (heads_in before) others.there);
      once = λ q less. subst (λ heap. sum_by (is_of q) (heads_in heap) ≡ count_left (get_or left q [])) (sym same_heap) (counted q less);
    }
      where
        counted : (q : ℕ) → q < length left → sum_by (is_of q) (heads_in before) ≡ count_left (get_or left q [])
        counted q less = elim (cases_eq q part) [
          | inl is ↦ ap (λ n. sum_by (is_of n) (heads_in before)) is ∙ others.none ∙ sym (ap count_left (ap (λ n. get_or left n []) is ∙ e))
          | inr differs ↦ others.once q less differs
        ]
    step (x ∷ run) e (moved, ordered) = record {
      order = ordered others.order;
      there = every_shuffled (IsHeadOf left) ((x.key, part) ∷ heads_in before) (heads_in after) moved
          (mine, each_as (λ head. IsHeadOf left head × (head.1 ≢ part)) (IsHeadOf left) (λ head is. is.0) (heads_in before) others.there);
      once = λ q less. sum_by-IsPermutation (is_of q) ((x.key, part) ∷ heads_in before) (heads_in after) moved ∙ sum_by-cons (is_of q) (x.key, part) (heads_in before) ∙ counted q less;
    }
      where
        mine : IsHeadOf left (x.key, part)
        mine = record { part = lt; entry = x; tail = run; is = e; key = refl }

        counted : (q : ℕ) → q < length left → is_of q (x.key, part) + sum_by (is_of q) (heads_in before) ≡ count_left (get_or left q [])
        counted q less = elim (cases_eq q part) [
          | inl is ↦ (
              let one = own q (x.key, part) (sym is) in
              let none : sum_by (is_of q) (heads_in before) ≡ 0 = ap (λ n. sum_by (is_of n) (heads_in before)) is ∙ others.none in
              let some : count_left (get_or left q []) ≡ 1 = ap count_left (ap (λ n. get_or left n []) is ∙ e) in
              omega (arith, one, none, some))
          | inr differs ↦ (let none = other q (x.key, part) (λ is. differs (sym is)) in let rest = others.once q less differs in omega (arith, none, rest))
        ]

-- one entry of the part is passed
pub others_set : (left : List (List Entry)) (part : ℕ) (tail : List Entry) (heap : Heap) → AreOthers part left heap → AreOthers part (set left part tail) heap
others_set left part tail heap others = record {
  order = others.order;
  there = each_as (λ head. IsHeadOf left head × (head.1 ≢ part)) (λ head. IsHeadOf (set left part tail) head × (head.1 ≢ part))
      (λ head is. (
        record {
          part = (let long = length-set left part tail in let lt = is.0.part in omega (arith, long, lt));
          entry = is.0.entry;
          tail = is.0.tail;
          is = get_or-set_other left part head.1 tail [] is.1 ∙ is.0.is;
          key = is.0.key;
        },
        is.1,
      )) (heads_in heap) others.there;
  once = λ q lt differs. others.once q (let long = length-set left part tail in omega (arith, long, lt)) differs ∙ ap count_left (sym (get_or-set_other left part q tail [] differs));
  none = others.none;
}

-- ---- the first heads

pub heads_none : (heap : Heap) → InOrder heap → heads_in heap ≡ [] → AreHeads [] heap
heads_none heap ordered none = record {
  order = ordered;
  there = subst (Each (IsHeadOf [])) (sym none) tt;
  once = λ part lt. absurd (omega (arith, lt));
}

get_take : (runs : List (List Entry)) (k i : ℕ) → i < k → get_or (take k runs) i [] ≡ get_or runs i []
get_take [] zero i lt = absurd (omega arith)
get_take [] (suc k) i lt = refl
get_take (run ∷ runs) zero i lt = absurd (omega arith)
get_take (run ∷ runs) (suc k) zero lt = refl
get_take (run ∷ runs) (suc k) (suc i) lt = get_take runs k i (omega arith)

length_take : {X : Type 0} (xs : List X) (k : ℕ) → k ≤ length xs → length (take k xs) ≡ k
length_take [] zero le = refl
length_take [] (suc k) le = absurd (omega arith)
length_take (x ∷ xs) zero le = refl
length_take (x ∷ xs) (suc k) le = ap suc (length_take xs k (omega arith))

-- the heads of the first parts are those of one part more, but for this
pub heads_next : (runs : List (List Entry)) (k : ℕ) (heap : Heap) → k < length runs → AreHeads (take k runs) heap → AreOthers k (take (k + 1) runs) heap
heads_next runs k heap lt are = record {
  order = are.order;
  there = each_as (IsHeadOf (take k runs)) (λ head. IsHeadOf (take (k + 1) runs) head × (head.1 ≢ k))
      (λ head is.
      let less : head.1 < k = (let short = is.part in let long = length_take runs k (omega arith) in omega (arith, short, long)) in (
        record {
          part = (let long = length_take runs (k + 1) (omega arith) in omega (arith, less, long));
          entry = is.entry;
          tail = is.tail;
          is = get_take runs (k + 1) head.1 (omega (arith, less)) ∙ sym (get_take runs k head.1 less) ∙ is.is;
          key = is.key;
        },
        (λ same. omega (arith, less, same)),
      )) (heads_in heap) are.there;
  once = λ q within differs.
      let less : q < k = (let long = length_take runs (k + 1) (omega arith) in omega (arith, within, long, differs)) in
      are.once q (let long = length_take runs k (omega arith) in omega (arith, less, long)) ∙ ap count_left (get_take runs k q less ∙ sym (get_take runs (k + 1) q (omega (arith, less))));
  none = sum_none k (heads_in heap) (each_as (IsHeadOf (take k runs)) (λ head. head.1 ≢ k)
      (λ head is same. let short = is.part in let long = length_take runs k (omega arith) in omega (arith, short, long, same)) (heads_in heap) are.there);
}

pub next_there : (runs : List (List Entry)) (k : ℕ) → k < length runs → (k < length (take (k + 1) runs)) × (get_or (take (k + 1) runs) k [] ≡ get_or runs k [])
next_there runs k lt = (let long = length_take runs (k + 1) (omega arith) in omega (arith, long), get_take runs (k + 1) k (omega arith))

-- one part more among the first ones
pub heads_more : (runs : List (List Entry)) (k : ℕ) (before after : Heap) → k < length runs → AreHeads (take k runs) before → IsPut (get_or runs k []) k before after → AreHeads (take (k + 1) runs) after
heads_more runs k before after lt are put =
    let there = next_there runs k lt in
    heads_put (take (k + 1) runs) k before after there.0 (heads_next runs k before lt are) (subst (λ run. IsPut run k before after) (sym there.1) put)

pub take_whole : (runs : List (List Entry)) (k : ℕ) → length runs ≤ k → take k runs ≡ runs
take_whole [] zero le = refl
take_whole [] (suc k) le = refl
take_whole (run ∷ runs) zero le = absurd (omega (arith, le))
take_whole (run ∷ runs) (suc k) le = ap (λ (rest : List (List Entry)). run ∷ rest) (take_whole runs k (omega (arith, le)))
