-- What the walk by keys keeps: indexes of the parts, heads of what is left of them, and what was passed.
use Rattle.std.proofs.Common.{◌≡◌, ℕ, zero, suc, ◌+◌, ◌-◌, ◌<◌, ◌≤◌, Bool, true, false, List, [], ◌∷◌, ◌++◌, length, get_or, set, drop, take, map, replicate, Option, Some, None, refl, sym, ap, subst, ◌∙◌, inl, inr, arith, sum_by}
use Rattle.std.specs.Prelude.{nat_lt, slice_get, option_map}
use Rattle.std.specs.List.{AllByRecursion as Each}
use Rattle.std.proofs.lemmas.List.{length-map, length-set, drop_more}
use Rattle.std.proofs.lemmas.List.Sums.{sum_by-cons}
use Rattle.st_base.specs.Order.{in_order}
use Rattle.st_base.specs.declared.entry.Entry.{Entry}
use Rattle.core_model.specs.Picture.{FileEntries, runs_of}
use Rattle.st_version.specs.Held.{SharedTable, tables_of}
use Rattle.st_version.specs.Replace.{AreTables}
use Rattle.opening_checks.specs.Heads.{AreHeads, Heap, IsHeadOf, IsPut, IsTaken}
use Rattle.opening_checks.specs.Least.{lesser_of}
use Rattle.opening_checks.specs.Walk.{IsLeastAlong, file_of, follows, lower_of, walk_runs}
use Rattle.opening_checks.specs.declared.passed.Passed.{Passed}
use Rattle.opening_checks.proofs.Taking.{heads_put, nothing_left, others_set, taken_first, taken_is, taken_others}
use Rattle.opening_checks.proofs.Walked.{IsWalked, judged, walk_begins, walk_ends, walk_goes_on}

-- ---- what is left behind indexes

abbrev pub lefts : List (List Entry) → List ℕ → List (List Entry)
lefts [] indexes = []
lefts (run ∷ runs) [] = []
lefts (run ∷ runs) (index ∷ indexes) = drop index run ∷ lefts runs indexes

pub length_lefts : (runs : List (List Entry)) (indexes : List ℕ) → length indexes ≡ length runs → length (lefts runs indexes) ≡ length runs
length_lefts [] indexes e = refl
length_lefts (run ∷ runs) [] e = absurd (omega (arith, e))
length_lefts (run ∷ runs) (index ∷ indexes) e = ap suc (length_lefts runs indexes (omega (arith, e)))

pub left_is : (runs : List (List Entry)) (indexes : List ℕ) (i : ℕ) → length indexes ≡ length runs → i < length runs → get_or (lefts runs indexes) i [] ≡ drop (get_or indexes i 0) (get_or runs i [])
left_is [] indexes i e lt = absurd (omega (arith, lt))
left_is (run ∷ runs) [] i e lt = absurd (omega (arith, e))
left_is (run ∷ runs) (index ∷ indexes) zero e lt = refl
left_is (run ∷ runs) (index ∷ indexes) (suc i) e lt = left_is runs indexes i (omega (arith, e)) (omega (arith, lt))

pub lefts_set : (runs : List (List Entry)) (indexes : List ℕ) (i index : ℕ) → length indexes ≡ length runs → i < length runs → lefts runs (set indexes i index) ≡ set (lefts runs indexes) i (drop index (get_or runs i []))
lefts_set [] indexes i index e lt = absurd (omega (arith, lt))
lefts_set (run ∷ runs) [] i index e lt = absurd (omega (arith, e))
lefts_set (run ∷ runs) (p ∷ indexes) zero index e lt = refl
lefts_set (run ∷ runs) (p ∷ indexes) (suc i) index e lt = ap (λ (rest : List (List Entry)). drop p run ∷ rest) (lefts_set runs indexes i index (omega (arith, e)) (omega (arith, lt)))

pub lefts_none : (runs : List (List Entry)) (indexes : List ℕ) → Each (λ index. index ≡ 0) indexes → length indexes ≡ length runs → lefts runs indexes ≡ runs
lefts_none [] indexes zeros e = refl
lefts_none (run ∷ runs) [] zeros e = absurd (omega (arith, e))
lefts_none (run ∷ runs) (index ∷ indexes) zeros e =
    ap (λ n. drop n run ∷ lefts runs indexes) zeros.0 ∙ ap (λ (rest : List (List Entry)). run ∷ rest) (lefts_none runs indexes zeros.1 (omega (arith, e)))

pub fewer : (left : List (List Entry)) (i : ℕ) (entry : Entry) (tail : List Entry) → i < length left → get_or left i [] ≡ entry ∷ tail → sum_by (λ (run : List Entry). length run) (set left i tail) < sum_by (λ (run : List Entry). length run) left
fewer [] i entry tail lt is = absurd (omega (arith, lt))
fewer (run ∷ left) zero entry tail lt is =
    let long : length run ≡ suc (length tail) = ap (λ (some : List Entry). length some) is in
    let one = sum_by-cons (λ (some : List Entry). length some) run left in
    let two = sum_by-cons (λ (some : List Entry). length some) tail left in
    omega (arith, long, one, two)
fewer (run ∷ left) (suc i) entry tail lt is =
    let rest = fewer left i entry tail (omega (arith, lt)) is in
    let one = sum_by-cons (λ (some : List Entry). length some) run left in
    let two = sum_by-cons (λ (some : List Entry). length some) run (set left i tail) in
    omega (arith, rest, one, two)

-- ---- the parts

pub run_there : (tables : List SharedTable) (i : ℕ) (table : SharedTable) → i < length tables → table ≡ get_or tables i table → get_or (runs_of (tables_of tables)) i [] ≡ table.value.table.entries
run_there [] i table lt is = absurd (omega (arith, lt))
run_there (x ∷ tables) zero table lt is = ap (λ (one : SharedTable). one.value.table.entries) (sym is)
run_there (x ∷ tables) (suc i) table lt is = run_there tables i table (omega (arith, lt)) is

-- the part behind the counted operations
pub part_there : (counted : List Entry) (tables : List SharedTable) (part : ℕ) (table : SharedTable) → 1 ≤ part → part ≤ length tables → table ≡ get_or tables (part - 1) table → get_or (walk_runs counted (tables_of tables)) part [] ≡ table.value.table.entries
part_there counted tables zero table one le is = absurd (omega (arith, one))
part_there counted tables (suc i) table one le is =
    run_there tables i table (omega (arith, le)) (is ∙ ap (λ n. get_or tables n table) (let e : suc i - 1 ≡ i = omega arith in e))

pub part_none : (counted : List Entry) (tables : List FileEntries) (part : ℕ) → part ≡ 0 → get_or (walk_runs counted tables) part [] ≡ counted
part_none counted tables part e = ap (λ n. get_or (walk_runs counted tables) n []) e

file_there : (tables : List SharedTable) (i : ℕ) (table : SharedTable) → i < length tables → table ≡ get_or tables i table → file_of (tables_of tables) (suc i) ≡ Some table.value.table.file
file_there [] i table lt is = absurd (omega (arith, lt))
file_there (x ∷ tables) zero table lt is = ap (λ (one : SharedTable). Some one.value.table.file) (sym is)
file_there (x ∷ tables) (suc i) table lt is = file_there tables i table (omega (arith, lt)) is

pub file_is : (tables : List SharedTable) (part : ℕ) (table : SharedTable) → 1 ≤ part → part ≤ length tables → table ≡ get_or tables (part - 1) table → Some table.value.table.file ≡ file_of (tables_of tables) part
file_is tables zero table one le is = absurd (omega (arith, one))
file_is tables (suc i) table one le is =
    sym (file_there tables i table (omega (arith, le)) (is ∙ ap (λ n. get_or tables n table) (let e : suc i - 1 ≡ i = omega arith in e)))

pub no_file : (tables : List FileEntries) (part : ℕ) → part ≡ 0 → None ≡ file_of tables part
no_file tables part e = sym (ap (file_of tables) e ∙ none tables)
  where
    none : (some : List FileEntries) → file_of some 0 ≡ None
    none [] = refl
    none (table ∷ some) = refl

pub length_runs : (counted : List Entry) (tables : List SharedTable) → length (walk_runs counted (tables_of tables)) ≡ suc (length tables)
length_runs counted tables = ap suc (length-map (tables_of tables) (λ (table : FileEntries). table.entries) ∙ length-map tables (λ (held : SharedTable). held.value.table))

pub runs_ordered : (tables : List FileEntries) → AreTables tables → Each (λ run. in_order run ≡ true) (runs_of tables)
runs_ordered [] each = tt
runs_ordered (table ∷ tables) each = (each.0.ordered, runs_ordered tables each.1)

-- the key that is put is that of the next entry
pub put_is : (run : List Entry) (index part : ℕ) (before after : Heap) → Rattle.opening_checks.specs.Heads.head_put (option_map (λ (entry : Entry). entry.key) (slice_get run index)) part before after → IsPut (drop index run) part before after
put_is [] zero part before after put = put
put_is [] (suc index) part before after put = put
put_is (x ∷ run) zero part before after put = put
put_is (x ∷ run) (suc index) part before after put = put_is run index part before after put

-- ---- the walk

module _ (last upper : ℕ) (counted : List Entry) (tables : List FileEntries) where
  abbrev runs : List (List Entry)
  runs = walk_runs counted tables

  abbrev bottom : ℕ → Bool
  bottom part = nat_lt upper part

  pub record IsAlong (indexes : List ℕ) (heads : Heap) (passed : Passed) : Type 0 where
    pub fit : length indexes ≡ length runs
    pub are : AreHeads (lefts runs indexes) heads
    pub walked : IsWalked last bottom (file_of tables) runs (lefts runs indexes) passed.key passed.low passed.least

  pub along_begins : (indexes : List ℕ) (heads : Heap) (passed : Passed) → Each (λ run. in_order run ≡ true) runs → Each (λ index. index ≡ 0) indexes → length indexes ≡ length runs
      → AreHeads runs heads → passed.key ≡ None → passed.low ≡ 0 → passed.least ≡ None → IsAlong indexes heads passed
  along_begins indexes heads passed ordered zeros fit are no_key no_low no_least =
      let all = lefts_none runs indexes zeros fit in
      record {
        fit = fit;
        are = subst (λ left. AreHeads left heads) (sym all) are;
        walked = subst (λ left. IsWalked last bottom (file_of tables) runs left passed.key passed.low passed.least) (sym all)
            (subst (λ key. IsWalked last bottom (file_of tables) runs runs key passed.low passed.least) (sym no_key)
            (subst (λ low. IsWalked last bottom (file_of tables) runs runs None low passed.least) (sym no_low)
            (subst (λ least. IsWalked last bottom (file_of tables) runs runs None 0 least) (sym no_least)
            (walk_begins last bottom (file_of tables) runs ordered))));
      }

  -- a head is taken
  module _ (indexes : List ℕ) (heads after : Heap) (passed : Passed) (is : IsAlong indexes heads passed) (key : List ℕ) (part : ℕ) (taken : IsTaken heads (Some (key, part)) after) where
    abbrev left : List (List Entry)
    left = lefts runs indexes

    pub head : IsHeadOf left (key, part)
    head = taken_is left heads after (key, part) is.are taken

    pub part_less : part < length runs
    part_less = let lt = head.part in let long = length_lefts runs indexes is.fit in omega (arith, lt, long)

    abbrev run : List Entry
    run = get_or runs part []

    abbrev index : ℕ
    index = get_or indexes part 0

    here : drop index run ≡ head.entry ∷ head.tail
    here = sym (left_is runs indexes part is.fit part_less) ∙ head.is

    pub index_less : index < length run
    index_less = go run index here
      where
        go : (some : List Entry) (n : ℕ) → drop n some ≡ head.entry ∷ head.tail → n < length some
        go [] zero e = absurd cc
        go [] (suc n) e = absurd cc
        go (x ∷ some) zero e = omega arith
        go (x ∷ some) (suc n) e = let lt = go some n e in omega (arith, lt)

    both : (get_or run index head.entry ∷ drop (index + 1) run) ≡ (head.entry ∷ head.tail)
    both = sym (drop_more run index head.entry index_less) ∙ here

    tail_is : drop (index + 1) run ≡ head.tail
    tail_is = ap (λ some. drop 1 some) both

    pub number_is : (number : ℕ) → option_map (λ (entry : Entry). entry.number) (slice_get run index) ≡ Some number → head.entry.number ≡ number
    number_is number e = go run index here e
      where
        go : (some : List Entry) (n : ℕ) → drop n some ≡ head.entry ∷ head.tail → option_map (λ (entry : Entry). entry.number) (slice_get some n) ≡ Some number → head.entry.number ≡ number
        go [] zero d f = absurd cc
        go [] (suc n) d f = absurd cc
        go (x ∷ some) zero d f = let x_is : x ≡ head.entry = cc in ap (λ (entry : Entry). entry.number) (sym x_is) ∙ (let found : x.number ≡ number = cc in found)
        go (x ∷ some) (suc n) d f = go some n d f

    set_is : lefts runs (set indexes part (index + 1)) ≡ set left part head.tail
    set_is = lefts_set runs indexes part (index + 1) is.fit part_less ∙ ap (set left part) tail_is

    pub along_fewer : sum_by (λ (some : List Entry). length some) (lefts runs (set indexes part (index + 1))) < sum_by (λ (some : List Entry). length some) left
    along_fewer = subst (λ (some : List (List Entry)). sum_by (λ (one : List Entry). length one) some < sum_by (λ (one : List Entry). length one) left) (sym set_is) (fewer left part head.entry head.tail head.part head.is)

    pub along_more : (number : ℕ) (next : Heap) (more : Passed) → option_map (λ (entry : Entry). entry.number) (slice_get run index) ≡ Some number
        → more.key ≡ Some key → more.low ≡ lower_of passed.key passed.low key number
        → more.least ≡ lesser_of passed.least (judged last bottom (file_of tables) runs passed.key passed.low part key number)
        → IsPut (drop (index + 1) run) part after next → IsAlong (set indexes part (index + 1)) next more
    along_more number next more at key_more low_more least_more put =
        let fit = length-set indexes part (index + 1) ∙ is.fit in
        let number_same = number_is number at in
        let others = others_set left part head.tail after (taken_others left heads after (key, part) is.are taken) in
        let part_in : part < length (set left part head.tail) = (let long = length-set left part head.tail in let lt = head.part in omega (arith, long, lt)) in
        let got : get_or (set left part head.tail) part [] ≡ head.tail = Rattle.std.proofs.Common.get_or-set_same left part head.tail [] head.part in
        let heads_are : AreHeads (set left part head.tail) next =
        heads_put (set left part head.tail) part after next part_in others (subst (λ entries. IsPut entries part after next) (tail_is ∙ sym got) put) in
        let goes_on = walk_goes_on last bottom (file_of tables) runs left passed.key passed.low passed.least is.walked part head.entry head.tail head.part head.is
        (taken_first left heads after (key, part) is.are taken head.entry head.key) in
        let step : IsWalked last bottom (file_of tables) runs (set left part head.tail) more.key more.low more.least =
        subst (λ k. IsWalked last bottom (file_of tables) runs (set left part head.tail) k more.low more.least) (ap Some head.key ∙ sym key_more)
        (subst (λ n. IsWalked last bottom (file_of tables) runs (set left part head.tail) (Some head.entry.key) n more.least)
        (ap (λ (k : List ℕ). lower_of passed.key passed.low k head.entry.number) head.key ∙ ap (lower_of passed.key passed.low key) number_same ∙ sym low_more)
        (subst (λ n. IsWalked last bottom (file_of tables) runs (set left part head.tail) (Some head.entry.key) (lower_of passed.key passed.low head.entry.key head.entry.number) n)
        (ap (λ (k : List ℕ). lesser_of passed.least (judged last bottom (file_of tables) runs passed.key passed.low part k head.entry.number)) head.key
        ∙ ap (λ n. lesser_of passed.least (judged last bottom (file_of tables) runs passed.key passed.low part key n)) number_same ∙ sym least_more)
        goes_on)) in
        record {
          fit = fit;
          are = subst (λ some. AreHeads some next) (sym set_is) heads_are;
          walked = subst (λ some. IsWalked last bottom (file_of tables) runs some more.key more.low more.least) (sym set_is) step;
        }

  -- the same where the index is told by an equation
  module _ (indexes : List ℕ) (heads after : Heap) (passed : Passed) (is : IsAlong indexes heads passed) (key : List ℕ) (part : ℕ) (taken : IsTaken heads (Some (key, part)) after) (index : ℕ) (index_is : index ≡ get_or indexes part 0) where
    pub less_at : index < length (get_or runs part [])
    less_at = subst (λ n. n < length (get_or runs part [])) (sym index_is) (index_less indexes heads after passed is key part taken)

    pub fewer_at : sum_by (λ (some : List Entry). length some) (lefts runs (set indexes part (index + 1))) < sum_by (λ (some : List Entry). length some) (lefts runs indexes)
    fewer_at = subst (λ n. sum_by (λ (some : List Entry). length some) (lefts runs (set indexes part (n + 1))) < sum_by (λ (some : List Entry). length some) (lefts runs indexes)) (sym index_is) (along_fewer indexes heads after passed is key part taken)

    pub more_at : (number : ℕ) (next : Heap) (more : Passed) → option_map (λ (entry : Entry). entry.number) (slice_get (get_or runs part []) index) ≡ Some number
        → more.key ≡ Some key → more.low ≡ lower_of passed.key passed.low key number
        → more.least ≡ lesser_of passed.least (judged last bottom (file_of tables) runs passed.key passed.low part key number)
        → IsPut (drop (index + 1) (get_or runs part [])) part after next → IsAlong (set indexes part (index + 1)) next more
    more_at number next more at key_more low_more least_more put =
        subst (λ n. IsAlong (set indexes part (n + 1)) next more) (sym index_is)
        (along_more indexes heads after passed is key part taken number next more
        (subst (λ n. option_map (λ (entry : Entry). entry.number) (slice_get (get_or runs part []) n) ≡ Some number) index_is at) key_more low_more least_more
        (subst (λ n. IsPut (drop (n + 1) (get_or runs part [])) part after next) index_is put))

  pub along_ends : (indexes : List ℕ) (heads after : Heap) (passed : Passed) → IsAlong indexes heads passed → IsTaken heads None after → IsLeastAlong last upper counted tables passed.least
  along_ends indexes heads after passed is none = record {
    taken = is.walked.taken;
    columns = walk_ends last bottom (file_of tables) runs (lefts runs indexes) passed.key passed.low passed.least is.walked
        (empty (lefts runs indexes) (nothing_left (lefts runs indexes) heads is.are none));
    least_is = is.walked.least_is;
  }
    where
      empty : (left : List (List Entry)) → ((q : ℕ) → q < length left → get_or left q [] ≡ []) → Each (λ run. run ≡ []) left
      empty [] all = tt
      empty (one ∷ left) all = (all 0 (omega arith), empty left (λ q lt. all (suc q) (omega (arith, lt))))

-- ---- the first indexes

pub zeros_are : (n : ℕ) (indexes : List ℕ) → indexes ≡ replicate n 0 ++ 0 ∷ [] → Each (λ (index : ℕ). index ≡ 0) indexes
zeros_are n indexes e = subst (Each (λ (index : ℕ). index ≡ 0)) (sym e) (go n)
  where
    go : (k : ℕ) → Each (λ (index : ℕ). index ≡ 0) (replicate k 0 ++ 0 ∷ [])
    go zero = (refl, tt)
    go (suc k) = (refl, go k)

pub zeros_fit : (n : ℕ) (indexes : List ℕ) → indexes ≡ replicate n 0 ++ 0 ∷ [] → length indexes ≡ suc n
zeros_fit n indexes e = ap (λ (some : List ℕ). length some) e ∙ go n
  where
    go : (k : ℕ) → length {A = ℕ} (replicate k 0 ++ 0 ∷ []) ≡ suc k
    go zero = refl
    go (suc k) = ap suc (go k)
