-- Charges and least numbers of sorted lists.
use Rattle.std.proofs.Common.{◌≡◌, ℕ, ◌+◌, ◌<◌, Bool, true, false, cond, List, [], ◌∷◌, ◌++◌, length, get_or, take, Option, Some, None, refl, sym, ap, ◌∙◌, arith}
use Rattle.std.specs.Prelude.{min, sum_by}
use Rattle.std.proofs.lemmas.List.Sums.{sum_by-append, sum_by-cons}
use Rattle.st_base.specs.Entries.{add_charge, entry_charge}
use Rattle.st_base.specs.Range.{entries_charge}
use Rattle.st_base.specs.Order.{comes_before}
use Rattle.st_base.specs.declared.entry.Entry.{Entry}
use Rattle.st_order.specs.Sorted.{put_in, sorted}
use Rattle.st_memtable.specs.Memtable.{least_number, lesser}

pub lesser_again : (a b c : Option ℕ) → lesser (lesser a b) c ≡ lesser a (lesser b c)
lesser_again None b c = refl
lesser_again (Some a) None c = refl
lesser_again (Some a) (Some b) None = refl
lesser_again (Some a) (Some b) (Some c) = ap Some (let e : min (min a b) c ≡ min a (min b c) = omega arith in e)

lesser_turned : (a b : Option ℕ) → lesser a b ≡ lesser b a
lesser_turned None None = refl
lesser_turned None (Some b) = refl
lesser_turned (Some a) None = refl
lesser_turned (Some a) (Some b) = ap Some (let e : min a b ≡ min b a = omega arith in e)

pub least_join : (xs ys : List Entry) → least_number (xs ++ ys) ≡ lesser (least_number xs) (least_number ys)
least_join [] ys = refl
least_join (x ∷ xs) ys = ap (lesser (Some x.number)) (least_join xs ys) ∙ sym (lesser_again (Some x.number) (least_number xs) (least_number ys))

pub least_step : (before : Option ℕ) (xs : List Entry) (i : ℕ) (x : Entry) (number : ℕ) → i < length xs → x ≡ get_or xs i x → number ≡ x.number
    → lesser (lesser before (least_number (take i xs))) (Some number) ≡ lesser before (least_number (take (i + 1) xs))
least_step before xs i x number lt is e =
    lesser_again before (least_number (take i xs)) (Some number)
    ∙ ap (λ n. lesser before (lesser (least_number (take i xs)) (Some n))) e
    ∙ ap (lesser before) (sym (least_join (take i xs) (x ∷ [])))
    ∙ ap (λ some. lesser before (least_number some)) (sym (Rattle.std.proofs.lemmas.List.take_more xs i x lt ∙ ap (λ one. take i xs ++ one ∷ []) (sym is)))

least_put : (x : Entry) (ys : List Entry) → least_number (put_in x ys) ≡ lesser (Some x.number) (least_number ys)
least_put x [] = refl
least_put x (y ∷ ys) = step (comes_before y x) (least_put x ys)
  where
    step : (b : Bool) → least_number (put_in x ys) ≡ lesser (Some x.number) (least_number ys) → least_number (cond b (y ∷ put_in x ys) (x ∷ y ∷ ys)) ≡ lesser (Some x.number) (lesser (Some y.number) (least_number ys))
    step true e =
        ap (lesser (Some y.number)) e ∙ sym (lesser_again (Some y.number) (Some x.number) (least_number ys))
        ∙ ap (λ both. lesser both (least_number ys)) (lesser_turned (Some y.number) (Some x.number)) ∙ lesser_again (Some x.number) (Some y.number) (least_number ys)
    step false e = refl

pub least_sorted : (xs : List Entry) → least_number (sorted xs) ≡ least_number xs
least_sorted [] = refl
least_sorted (x ∷ xs) = least_put x (sorted xs) ∙ ap (lesser (Some x.number)) (least_sorted xs)

abbrev counts : Entry → ℕ
counts entry = entry_charge entry.key entry.mark

abbrev charge_of : List Entry → ℕ
charge_of entries = sum_by (λ (entry : Entry). entry_charge entry.key entry.mark) entries

charge_put : (x : Entry) (ys : List Entry) → charge_of (put_in x ys) ≡ counts x + charge_of ys
charge_put x [] = sum_by-cons counts x []
charge_put x (y ∷ ys) = step (comes_before y x) (charge_put x ys)
  where
    step : (b : Bool) → charge_of (put_in x ys) ≡ counts x + charge_of ys → charge_of (cond b (y ∷ put_in x ys) (x ∷ y ∷ ys)) ≡ counts x + charge_of (y ∷ ys)
    step true e = let one = sum_by-cons counts y (put_in x ys) in let other = sum_by-cons counts y ys in omega (arith, one, other, e)
    step false e = sum_by-cons counts x (y ∷ ys)

pub charge_sorted : (xs : List Entry) → charge_of (sorted xs) ≡ charge_of xs
charge_sorted [] = refl
charge_sorted (x ∷ xs) = let put = charge_put x (sorted xs) in let rest = charge_sorted xs in let one = sum_by-cons counts x xs in omega (arith, put, rest, one)

-- entries more
pub charge_join : (before : ℕ) (front entries whole : List Entry) → before ≡ entries_charge (sorted front) → whole ≡ sorted (front ++ entries)
    → add_charge before (charge_of entries) ≡ entries_charge whole
charge_join before front entries whole is made =
    let one = ap charge_of made in
    let two = charge_sorted (front ++ entries) in
    let three = sum_by-append counts front entries in
    let four = charge_sorted front in
    omega (arith, is, one, two, three, four)

pub least_more : (before : Option ℕ) (front entries whole : List Entry) → before ≡ least_number (sorted front) → whole ≡ sorted (front ++ entries) → lesser before (least_number entries) ≡ least_number whole
least_more before front entries whole is made =
    ap (λ some. lesser some (least_number entries)) (is ∙ least_sorted front) ∙ sym (least_join front entries) ∙ sym (least_sorted (front ++ entries)) ∙ sym (ap least_number made)
