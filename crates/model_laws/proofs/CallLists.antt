-- Lists of calls: places one after the other, calls sorted by their places, and one call more.
use Rattle.std.proofs.Common.{◌≡◌, ℕ, ◌+◌, ◌<◌, ◌≤◌, Bool, true, false, List, [], ◌∷◌, ◌++◌, length, refl, sym, ◌∙◌, ap, subst, arith, map, fold, flat_map, filter, MatchBool, nat_lt, nat_eq, cond, append_assoc}
use Rattle.std.specs.List.{IsDistinct, AllByRecursion as Each}
use Rattle.std.proofs.lemmas.List.Elements.{filter-append}
use Rattle.std.proofs.lemmas.List.Sums.{fold-append}
use Rattle.std.proofs.lemmas.Bool.Decides.{nat_tests}
use Rattle.st_model.specs.declared.command.Call.{Call}
use Rattle.st_model.specs.History.{accepted, accepted_calls, all_calls, by_place, is_change, put_call}
use Rattle.st_model.specs.Legal.{files_of, file_numbers}
use Rattle.st_model.specs.Places.{ArePlacesNext, IsInOrder, changes_in}
use Rattle.base_laws.proofs.Lists.{each_as, each_back, each_both, each_filter, each_front, each_join, each_swap}
use Rattle.model_laws.specs.Claims.{with_client}

-- ---- places one after the other

pub next_push : (last : ℕ) (xs : List ℕ) (x : ℕ) → ArePlacesNext last xs → x ≡ last + length xs + 1 → ArePlacesNext last (xs ++ x ∷ [])
next_push last [] x h e = (omega (arith, e), tt)
next_push last (y ∷ xs) x h e = (h.0, next_push y xs x h.1 (omega (arith, e, h.0)))

-- each is above the last one before them
pub next_above : (last : ℕ) (calls : List Call) → ArePlacesNext last (map (λ call. call.place) calls) → Each (λ call. last < call.place) calls
next_above last [] h = tt
next_above last (call ∷ calls) h =
    (omega (arith, h.0), each_as (λ (c : Call). call.place < c.place) (λ (c : Call). last < c.place) (λ c k. omega (arith, k, h.0)) calls (next_above call.place calls h.1))

-- ---- along one transcript

pub in_order_push : (n before : ℕ) (calls : List Call) (call : Call) → before ≤ n → Each (λ (c : Call). c.place ≤ n) calls → MatchBool (is_change call.reply) (n < call.place) (n ≤ call.place) → IsInOrder before calls → IsInOrder before (calls ++ call ∷ [])
in_order_push n before [] call l h m o = (go (is_change call.reply) m, tt)
  where
    go : (b : Bool) → MatchBool b (n < call.place) (n ≤ call.place) → MatchBool b (before < call.place) (before ≤ call.place)
    go true k = omega (arith, k, l)
    go false k = omega (arith, k, l)
in_order_push n before (c ∷ calls) call l h m o = (o.0, in_order_push n c.place calls call h.0 h.1 m o.1)

-- ---- calls sorted by their places

-- a call of a greater place than all goes to the end
pub put_last : (n : ℕ) (calls : List Call) (call : Call) → Each (λ (c : Call). c.place ≤ n) calls → n < call.place → put_call calls call ≡ calls ++ call ∷ []
put_last n [] call h l = refl
put_last n (c ∷ calls) call h l =
    ap (λ b. cond b (call ∷ c ∷ calls) (c ∷ put_call calls call)) (not_less h.0)
    ∙ ap (λ cs. c ∷ cs) (put_last n calls call h.1 l)
  where
    not_less : c.place ≤ n → nat_lt call.place c.place ≡ false
    not_less k = grind (arith, k, l)

-- and stays there when calls of lesser places are put in
put_before : (calls : List Call) (last one : Call) → one.place < last.place → put_call (calls ++ last ∷ []) one ≡ put_call calls one ++ last ∷ []
put_before [] last one l = ap (λ b. cond b (one ∷ last ∷ []) (last ∷ one ∷ [])) less
  where
    less : nat_lt one.place last.place ≡ true
    less = grind (arith, l)
put_before (c ∷ calls) last one l = go (nat_lt one.place c.place) (put_before calls last one l)
  where
    go : (b : Bool) → put_call (calls ++ last ∷ []) one ≡ put_call calls one ++ last ∷ []
        → cond b (one ∷ c ∷ calls ++ last ∷ []) (c ∷ put_call (calls ++ last ∷ []) one) ≡ cond b (one ∷ c ∷ calls) (c ∷ put_call calls one) ++ last ∷ []
    go true e = refl
    go false e = ap (λ rest. c ∷ rest) e

fold_before : (sorted calls : List Call) (last : Call) → Each (λ (c : Call). c.place < last.place) calls → fold put_call (sorted ++ last ∷ []) calls ≡ fold put_call sorted calls ++ last ∷ []
fold_before sorted [] last h = refl
fold_before sorted (c ∷ calls) last h = ap (λ cs. fold put_call cs calls) (put_before sorted last c h.0) ∙ fold_before (put_call sorted c) calls last h.1

module _ (P : Call → Type 0) where
  put_each : (calls : List Call) (call : Call) → Each P calls → P call → Each P (put_call calls call)
  put_each [] call each is = (is, tt)
  put_each (other ∷ others) call each is = step (nat_lt call.place other.place) (put_each others call each.1 is)
    where
      step : (b : Bool) → Each P (put_call others call) → Each P (cond b (call ∷ other ∷ others) (other ∷ put_call others call))
      step true rest = (is, each)
      step false rest = (each.0, rest)

  fold_each : (sorted calls : List Call) → Each P sorted → Each P calls → Each P (fold put_call sorted calls)
  fold_each sorted [] each rest = each
  fold_each sorted (call ∷ calls) each rest = fold_each (put_call sorted call) calls (put_each sorted call each rest.0) rest.1

  -- what holds of each call, holds of each sorted one
  pub sorted_each : (calls : List Call) → Each P calls → Each P (by_place calls)
  sorted_each calls each = fold_each [] calls tt each

  put_parts : (calls : List Call) (call : Call) → Each P (put_call calls call) → Each P calls × P call
  put_parts [] call each = (tt, each.0)
  put_parts (other ∷ others) call each = step (nat_lt call.place other.place) each (put_parts others call)
    where
      step : (b : Bool) → Each P (cond b (call ∷ other ∷ others) (other ∷ put_call others call)) → (Each P (put_call others call) → Each P others × P call) → Each P (other ∷ others) × P call
      step true each more = (each.1, each.0)
      step false each more = let parts = more each.1 in ((each.0, parts.0), parts.1)

  fold_parts : (sorted calls : List Call) → Each P (fold put_call sorted calls) → Each P sorted × Each P calls
  fold_parts sorted [] each = (each, tt)
  fold_parts sorted (call ∷ calls) each =
      let parts = fold_parts (put_call sorted call) calls each in
      let here = put_parts sorted call parts.0 in
      (here.0, (here.1, parts.1))

  -- and the other way round
  pub each_sorted : (calls : List Call) → Each P (by_place calls) → Each P calls
  each_sorted calls each = (fold_parts [] calls each).1

length-put_call : (calls : List Call) (call : Call) → length (put_call calls call) ≡ length calls + 1
length-put_call [] call = refl
length-put_call (c ∷ calls) call = go (nat_lt call.place c.place) (length-put_call calls call)
  where
    go : (b : Bool) → length (put_call calls call) ≡ length calls + 1 → length (cond b (call ∷ c ∷ calls) (c ∷ put_call calls call)) ≡ length (c ∷ calls) + 1
    go true h = omega arith
    go false h = omega (arith, h)

length-fold : (sorted calls : List Call) → length (fold put_call sorted calls) ≡ length sorted + length calls
length-fold sorted [] = omega arith
length-fold sorted (c ∷ calls) = omega (arith, length-fold (put_call sorted c) calls, length-put_call sorted c)

-- there are as many sorted calls as calls
pub length-accepted : (transcripts : List (List Call)) → length (accepted_calls transcripts) ≡ changes_in transcripts
length-accepted transcripts = omega (arith, length-fold [] (accepted (all_calls transcripts)))

-- a call of a greater place than all, wherever it stands, goes to the end
sorted_insert : (n : ℕ) (xs ys : List Call) (call : Call) → Each (λ (c : Call). c.place ≤ n) (xs ++ ys) → n < call.place → by_place (xs ++ call ∷ ys) ≡ by_place (xs ++ ys) ++ call ∷ []
sorted_insert n xs ys call h l =
    let least : Call → Type 0 = λ c. c.place ≤ n in
    fold-append put_call [] xs (call ∷ ys)
    ∙ ap (λ cs. fold put_call cs ys) (put_last n (by_place xs) call (sorted_each least xs (each_front least xs ys h)) l)
    ∙ fold_before (by_place xs) ys call (each_as least (λ (c : Call). c.place < call.place) (λ c k. omega (arith, k, l)) ys (each_back least xs ys h))
    ∙ ap (λ cs. cs ++ call ∷ []) (sym (fold-append put_call [] xs ys))

-- ---- one call more of one of the clients

joined_append : (xs ys : List (List Call)) → all_calls (xs ++ ys) ≡ all_calls xs ++ all_calls ys
joined_append [] ys = refl
joined_append (x ∷ xs) ys = ap (λ rest. x ++ rest) (joined_append xs ys) ∙ sym (append_assoc x (all_calls xs) (all_calls ys))

-- the calls in front of it
abbrev pub in_front : List (List Call) → List Call → List Call
in_front before calls = all_calls before ++ calls

pub all_with_client : (before behind : List (List Call)) (calls : List Call) → all_calls (with_client before behind calls) ≡ in_front before calls ++ all_calls behind
all_with_client before behind calls = joined_append before (calls ∷ behind) ∙ sym (append_assoc (all_calls before) calls (all_calls behind))

pub all_more : (before behind : List (List Call)) (calls : List Call) (call : Call) → all_calls (with_client before behind (calls ++ call ∷ [])) ≡ in_front before calls ++ call ∷ all_calls behind
all_more before behind calls call =
    joined_append before ((calls ++ call ∷ []) ∷ behind)
    ∙ ap (λ rest. all_calls before ++ rest) (append_assoc calls (call ∷ []) (all_calls behind))
    ∙ sym (append_assoc (all_calls before) calls (call ∷ all_calls behind))

-- the accepted calls by their places: one more at the end, where it is accepted
pub accepted_more : (n : ℕ) (before behind : List (List Call)) (calls : List Call) (call : Call) → Each (λ (c : Call). c.place ≤ n) (all_calls (with_client before behind calls))
    → (is_change call.reply ≡ true → n < call.place)
    → accepted_calls (with_client before behind (calls ++ call ∷ [])) ≡ cond (is_change call.reply) (accepted_calls (with_client before behind calls) ++ call ∷ []) (accepted_calls (with_client before behind calls))
accepted_more n before behind calls call within greater =
    let front : List Call = in_front before calls in
    let back : List Call = all_calls behind in
    ap (λ cs. by_place (accepted cs)) (all_more before behind calls call)
    ∙ ap by_place (filter-append (λ (c : Call). is_change c.reply) front (call ∷ back))
    ∙ go front back (is_change call.reply) greater (within_accepted front back (each_is within))
    ∙ ap (λ cs. cond (is_change call.reply) (by_place cs ++ call ∷ []) (by_place cs)) (sym (ap accepted (all_with_client before behind calls) ∙ filter-append (λ (c : Call). is_change c.reply) front back))
  where
    each_is : Each (λ (c : Call). c.place ≤ n) (all_calls (with_client before behind calls)) → Each (λ (c : Call). c.place ≤ n) (in_front before calls ++ all_calls behind)
    each_is h = let P : List Call → Type 0 = λ cs. Each (λ (c : Call). c.place ≤ n) cs in subst P (all_with_client before behind calls) h

    within_accepted : (xs ys : List Call) → Each (λ (c : Call). c.place ≤ n) (xs ++ ys) → Each (λ (c : Call). c.place ≤ n) (accepted xs ++ accepted ys)
    within_accepted xs ys h =
        each_join (λ (c : Call). c.place ≤ n) (accepted xs) (accepted ys)
        (each_filter (λ (c : Call). c.place ≤ n) (λ (c : Call). is_change c.reply) xs (each_front (λ (c : Call). c.place ≤ n) xs ys h))
        (each_filter (λ (c : Call). c.place ≤ n) (λ (c : Call). is_change c.reply) ys (each_back (λ (c : Call). c.place ≤ n) xs ys h))

    go : (xs ys : List Call) (b : Bool) → (b ≡ true → n < call.place) → Each (λ (c : Call). c.place ≤ n) (accepted xs ++ accepted ys)
        → by_place (accepted xs ++ cond b (call ∷ accepted ys) (accepted ys)) ≡ cond b (by_place (accepted xs ++ accepted ys) ++ call ∷ []) (by_place (accepted xs ++ accepted ys))
    go xs ys true l h = sorted_insert n (accepted xs) (accepted ys) call h (l refl)
    go xs ys false l h = refl

-- ---- file numbers

numbers_append : (xs ys : List Call) → flat_map files_of (xs ++ ys) ≡ flat_map files_of xs ++ flat_map files_of ys
numbers_append [] ys = refl
numbers_append (x ∷ xs) ys = ap (λ rest. files_of x ++ rest) (numbers_append xs ys) ∙ sym (append_assoc (files_of x) (flat_map files_of xs) (flat_map files_of ys))

-- no number of the one list is one of the other
abbrev Apart : List ℕ → List ℕ → Type 0
Apart xs ys = Each (λ x. Each (λ y. nat_eq x y ≡ false) ys) xs

differ : (x y : ℕ) → nat_eq x y ≡ false → nat_eq y x ≡ false
differ x y e = grind (arith, nat_tests, e)

record ArePartsDistinct (xs ys : List ℕ) : Type 0 where
  pub front : IsDistinct nat_eq xs
  pub back : IsDistinct nat_eq ys
  pub apart : Apart xs ys

distinct_parts : (xs ys : List ℕ) → IsDistinct nat_eq (xs ++ ys) → ArePartsDistinct xs ys
unfolding IsDistinct
distinct_parts [] ys h = record { front = tt; back = h; apart = tt }
distinct_parts (x ∷ xs) ys h =
    let rest = distinct_parts xs ys h.1 in
    let is : ℕ → Type 0 = λ y. nat_eq x y ≡ false in
    record { front = (each_front is xs ys h.0, rest.front); back = rest.back; apart = (each_back is xs ys h.0, rest.apart) }

distinct_join : (xs ys : List ℕ) → IsDistinct nat_eq xs → IsDistinct nat_eq ys → Apart xs ys → IsDistinct nat_eq (xs ++ ys)
unfolding IsDistinct
distinct_join [] ys one other apart = other
distinct_join (x ∷ xs) ys one other apart = (each_join (λ y. nat_eq x y ≡ false) xs ys one.0 apart.0, distinct_join xs ys one.1 other apart.1)

-- numbers that are new behind all others are so between them
distinct_insert : (a c f : List ℕ) → IsDistinct nat_eq ((a ++ c) ++ f) → IsDistinct nat_eq (a ++ (f ++ c))
distinct_insert a c f h =
    let outer = distinct_parts (a ++ c) f h in
    let inner = distinct_parts a c outer.front in
    let apart_of : ℕ → Type 0 = λ x. Each (λ y. nat_eq x y ≡ false) f in
    let back : Apart f c =
    each_as (λ y. Each (λ x. nat_eq x y ≡ false) c) (λ y. Each (λ x. nat_eq y x ≡ false) c) (λ y k. each_as (λ x. nat_eq x y ≡ false) (λ x. nat_eq y x ≡ false) (λ x e. differ x y e) c k) f
    (each_swap (λ (x y : ℕ). nat_eq x y ≡ false) c f (each_back apart_of a c outer.apart)) in
    distinct_join a (f ++ c) inner.front (distinct_join f c outer.back inner.back back)
    (each_both apart_of (λ x. Each (λ y. nat_eq x y ≡ false) c) (λ x. Each (λ y. nat_eq x y ≡ false) (f ++ c)) (λ x one other. each_join (λ y. nat_eq x y ≡ false) f c one other) a (each_front apart_of a c outer.apart) inner.apart)

pub numbers_more : (before behind : List (List Call)) (calls : List Call) (call : Call) → IsDistinct nat_eq (file_numbers (with_client before behind calls) ++ files_of call)
    → IsDistinct nat_eq (file_numbers (with_client before behind (calls ++ call ∷ [])))
numbers_more before behind calls call h =
    let front : List ℕ = flat_map files_of (in_front before calls) in
    let back : List ℕ = flat_map files_of (all_calls behind) in
    let old : file_numbers (with_client before behind calls) ≡ front ++ back = ap (flat_map files_of) (all_with_client before behind calls) ∙ numbers_append (in_front before calls) (all_calls behind) in
    let new : file_numbers (with_client before behind (calls ++ call ∷ [])) ≡ front ++ (files_of call ++ back) =
    ap (flat_map files_of) (all_more before behind calls call) ∙ numbers_append (in_front before calls) (call ∷ all_calls behind) in
    let P : List ℕ → Type 0 = IsDistinct nat_eq in
    subst P (sym new) (distinct_insert front back (files_of call) (subst P (ap (λ ns. ns ++ files_of call) old) h))
