-- Joint ranges from the last table on, what meets, sums that pass a bound, and the first free job.
use Rattle.std.proofs.Common.{◌≡◌, ℕ, zero, suc, ◌+◌, ◌-◌, ◌<◌, ◌≤◌, Bool, true, false, cond, List, [], ◌∷◌, ◌++◌, length, get_or, take, drop, map, Option, Some, None, refl, sym, ap, ap₂, subst, ◌∙◌, append-nil, append_assoc, add-one, arith}
use Rattle.std.specs.Prelude.{filter, find, nat_lt}
use Rattle.std.specs.Option.{option_map, option_or}
use Rattle.std.proofs.lemmas.Bool.{lt-ltb, le-ltb}
use Rattle.std.proofs.lemmas.List.Sums.{sum_by-cons}
use Rattle.st_base.specs.declared.running.Running.{Running}
use Rattle.st_base.specs.Bytes.{below}
use Rattle.st_order.specs.Order.{between}
use Rattle.job_model.specs.Pick.{charges, join_range, pick_from, pick_in}
use Rattle.st_pick.specs.Picked.{itself, joint_range_of}
use Rattle.st_base.specs.declared.running.Ranged.{Ranged}

-- ---- joint ranges

pub joint_last : (tables : List Ranged) (i : ℕ) (table : Ranged) → i + 1 ≡ length tables → table ≡ get_or tables i table → joint_range_of (drop i tables) ≡ table.range
joint_last [] i table e is = absurd (omega arith)
joint_last (one ∷ []) zero table e is = ap (λ (t : Ranged). t.range) (sym is)
joint_last (one ∷ other ∷ tables) zero table e is = absurd (omega arith)
joint_last (one ∷ tables) (suc i) table e is = joint_last tables i table (omega arith) is

joint_step : (tables : List Ranged) (i : ℕ) (table : Ranged) → suc i < length tables → table ≡ get_or tables i table → joint_range_of (drop i tables) ≡ join_range table.range (joint_range_of (drop (suc i) tables))
joint_step [] i table lt is = absurd (omega arith)
joint_step (one ∷ []) zero table lt is = absurd (omega arith)
joint_step (one ∷ other ∷ tables) zero table lt is = ap (λ (t : Ranged). join_range t.range (joint_range_of (other ∷ tables))) (sym is)
joint_step (one ∷ tables) (suc i) table lt is = joint_step tables i table (omega arith) is

-- one table more, in front
pub joint_more : (tables : List Ranged) (i j : ℕ) (table : Ranged) (first last a b : List ℕ) → suc i ≡ j → j < length tables → table ≡ get_or tables i table → joint_range_of (drop j tables) ≡ between first last
    → a ≡ cond (below first table.range.first) first table.range.first → b ≡ cond (below table.range.last last) last table.range.last → joint_range_of (drop i tables) ≡ between a b
joint_more tables i j table first last a b next lt is so_far first_is last_is =
    joint_step tables i table (omega arith) is ∙ ap (λ n. join_range table.range (joint_range_of (drop n tables))) next ∙ ap (join_range table.range) so_far
    ∙ sym (ap₂ between first_is last_is)

-- ---- what meets

module _ {X : Type 0} (p : X → Bool) where
  filter_join : (xs ys : List X) → filter p (xs ++ ys) ≡ filter p xs ++ filter p ys
  filter_join [] ys = refl
  filter_join (x ∷ xs) ys = step (p x) (filter_join xs ys)
    where
      step : (b : Bool) → filter p (xs ++ ys) ≡ filter p xs ++ filter p ys → cond b (x ∷ filter p (xs ++ ys)) (filter p (xs ++ ys)) ≡ cond b (x ∷ filter p xs) (filter p xs) ++ filter p ys
      step true e = ap (λ rest. x ∷ rest) e
      step false e = e

  taken : (xs : List X) (i : ℕ) (x : X) → i < length xs → x ≡ get_or xs i x → filter p (take (i + 1) xs) ≡ filter p (take i xs) ++ cond (p x) (x ∷ []) []
  taken xs i x lt is = ap (filter p) (Rattle.std.proofs.lemmas.List.take_more xs i x lt ∙ ap (λ one. take i xs ++ one ∷ []) (sym is)) ∙ filter_join (take i xs) (x ∷ [])

  pub taken_in : (front xs made : List X) (i : ℕ) (x y : X) → i < length xs → x ≡ get_or xs i x → p x ≡ true → y ≡ x → made ≡ front ++ filter p (take i xs) → made ++ y ∷ [] ≡ front ++ filter p (take (i + 1) xs)
  taken_in front xs made i x y lt is here same so_far =
      ap₂ (λ (some : List X) (one : X). some ++ one ∷ []) so_far same ∙ append_assoc front (filter p (take i xs)) (x ∷ [])
      ∙ ap (λ rest. front ++ rest) (ap (λ b. filter p (take i xs) ++ cond b (x ∷ []) []) (sym here) ∙ sym (taken xs i x lt is))

  pub taken_past : (front xs made : List X) (i : ℕ) (x : X) → i < length xs → x ≡ get_or xs i x → p x ≡ false → made ≡ front ++ filter p (take i xs) → made ≡ front ++ filter p (take (i + 1) xs)
  taken_past front xs made i x lt is here so_far =
      so_far ∙ ap (λ rest. front ++ rest) (sym (append-nil (filter p (take i xs))) ∙ ap (λ b. filter p (take i xs) ++ cond b (x ∷ []) []) (sym here) ∙ sym (taken xs i x lt is))

-- ---- the first that passes

module _ {X Y : Type 0} (p : Y → Bool) (f : X → Y) where
  pub found_here : (xs : List X) (i : ℕ) (x : X) → i < length xs → x ≡ get_or xs i x → p (f x) ≡ true → find p (map f (drop i xs)) ≡ Some (f x)
  found_here [] i x lt is e = absurd (omega arith)
  found_here (y ∷ xs) zero x lt is e = subst (λ (z : X). cond (p (f z)) (Some (f z)) (find p (map f xs)) ≡ Some (f x)) is (ap (λ b. cond b (Some (f x)) (find p (map f xs))) e)
  found_here (y ∷ xs) (suc i) x lt is e = found_here xs i x (omega arith) is e

  pub found_on : (xs : List X) (i : ℕ) (x : X) → i < length xs → x ≡ get_or xs i x → p (f x) ≡ false → find p (map f (drop i xs)) ≡ find p (map f (drop (suc i) xs))
  found_on [] i x lt is e = absurd (omega arith)
  found_on (y ∷ xs) zero x lt is e = subst (λ (z : X). cond (p (f z)) (Some (f z)) (find p (map f xs)) ≡ find p (map f xs)) is (ap (λ b. cond b (Some (f x)) (find p (map f xs))) e)
  found_on (y ∷ xs) (suc i) x lt is e = found_on xs i x (omega arith) is e

  pub found_none : (xs : List X) (i : ℕ) → length xs ≤ i → find p (map f (drop i xs)) ≡ None
  found_none [] zero le = refl
  found_none [] (suc i) le = refl
  found_none (x ∷ xs) zero le = absurd (omega arith)
  found_none (x ∷ xs) (suc i) le = found_none xs i (omega arith)

-- ---- charges

charges_at : (tables : List Ranged) (i : ℕ) (table : Ranged) → i < length tables → table ≡ get_or tables i table → charges itself (drop i tables) ≡ table.charge + charges itself (drop (suc i) tables)
charges_at [] i table lt is = absurd (omega arith)
charges_at (one ∷ tables) zero table lt is = sum_by-cons (λ (t : Ranged). t.charge) one tables ∙ ap (λ (t : Ranged). t.charge + charges itself tables) (sym is)
charges_at (one ∷ tables) (suc i) table lt is = charges_at tables i table (omega arith) is

pub passes_here : (tables : List Ranged) (most room i : ℕ) (table : Ranged) → i < length tables → table ≡ get_or tables i table → most + charges itself (drop i tables) ≡ room + charges itself tables → room < table.charge → nat_lt most (charges itself tables) ≡ true
passes_here tables most room i table lt is so_far over = lt-ltb most (charges itself tables) (let at = charges_at tables i table lt is in omega arith)

pub passes_on : (tables : List Ranged) (most room i : ℕ) (table : Ranged) → i < length tables → table ≡ get_or tables i table → most + charges itself (drop i tables) ≡ room + charges itself tables → table.charge ≤ room
    → most + charges itself (drop (i + 1) tables) ≡ room - table.charge + charges itself tables
passes_on tables most room i table lt is so_far under =
    let at = charges_at tables i table lt is in let next = ap (λ n. charges itself (drop n tables)) (add-one i) in omega arith

none_left : {X : Type 0} (xs : List X) (i : ℕ) → length xs ≤ i → drop i xs ≡ []
none_left [] zero le = refl
none_left [] (suc i) le = refl
none_left (x ∷ xs) zero le = absurd (omega arith)
none_left (x ∷ xs) (suc i) le = none_left xs i (omega arith)

pub passes_not : (tables : List Ranged) (most room i : ℕ) → length tables ≤ i → most + charges itself (drop i tables) ≡ room + charges itself tables → nat_lt most (charges itself tables) ≡ false
passes_not tables most room i le so_far = le-ltb most (charges itself tables) (let none = ap (charges itself) (none_left tables i le) in omega arith)

-- ---- level after level

module _ (running : List Running) (lowest : ℕ) (levels : List (List Ranged)) where
  pub from_on : (more n : ℕ) → pick_in itself running lowest levels n ≡ None → pick_from itself running lowest levels (suc more) n ≡ pick_from itself running lowest levels more (n + 1)
  from_on more n e = ap (λ (o : Option (List Ranged)). option_or (option_map (λ (inputs : List Ranged). (n + 1, inputs)) o) (pick_from itself running lowest levels more (n + 1))) e

  pub from_here : (more n : ℕ) (inputs : List Ranged) → pick_in itself running lowest levels n ≡ Some inputs → pick_from itself running lowest levels (suc more) n ≡ Some (n + 1, inputs)
  from_here more n inputs e = ap (λ (o : Option (List Ranged)). option_or (option_map (λ (some : List Ranged). (n + 1, some)) o) (pick_from itself running lowest levels more (n + 1))) e

  module _ (n : ℕ) (whole : Option (ℕ × List Ranged)) (lt : n < 4) (so_far : pick_from itself running lowest levels (4 - n) n ≡ whole) where
    less : 4 - n ≡ suc (4 - (n + 1))
    less = omega arith

    pub picked_here : (inputs : List Ranged) → pick_in itself running lowest levels n ≡ Some inputs → whole ≡ Some (n + 1, inputs)
    picked_here inputs e = sym so_far ∙ ap (λ more. pick_from itself running lowest levels more n) less ∙ from_here (4 - (n + 1)) n inputs e

    pub picked_on : pick_in itself running lowest levels n ≡ None → pick_from itself running lowest levels (4 - (n + 1)) (n + 1) ≡ whole
    picked_on e = sym (from_on (4 - (n + 1)) n e) ∙ ap (λ more. pick_from itself running lowest levels more n) (sym less) ∙ so_far

  pub picked_none : (n : ℕ) (whole : Option (ℕ × List Ranged)) → 4 ≤ n → pick_from itself running lowest levels (4 - n) n ≡ whole → whole ≡ None
  picked_none n whole le so_far = sym so_far ∙ ap (λ more. pick_from itself running lowest levels more n) (let none : 4 - n ≡ 0 = omega arith in none)
