-- Whom to blame along a walk: the entries of each key tell it, in their order.
use Rattle.std.proofs.Common.{◌≡◌, ℕ, zero, suc, ◌⊎◌, ◌&&◌, ◌||◌, Bool, true, false, cond, not, List, [], ◌∷◌, ◌++◌, map, filter, Option, Some, None, refl, sym, ap, subst, ◌∙◌, inl, inr, append_assoc}
use Rattle.std.specs.Prelude.{nat_le}
use Rattle.std.specs.List.{list_all}
use Rattle.st_base.specs.Bytes.{same}
use Rattle.st_base.specs.declared.entry.Entry.{Entry}
use Rattle.st_base.proofs.Same.{same_self}
use Rattle.st_order.specs.Columns.{of_key}
use Rattle.st_order.proofs.Columns.{passing_append}
use Rattle.st_order.proofs.Least.{Has}
use Rattle.store_image.specs.Opens.{least_file, may_follow}
use Rattle.opening_checks.specs.Walk.{Seated, at_key, blamed, entries_at, file_list, is_right, seat, to_blame}
use Rattle.opening_checks.proofs.Lesser.{least_same}

-- ---- members of two lists

module _ {X : Type 0} where
  pub has_cases : (x : X) (xs ys : List X) → Has x (xs ++ ys) → Has x xs ⊎ Has x ys
  has_cases x [] ys has = inr has
  has_cases x (y ∷ xs) ys (inl here) = inl (inl here)
  has_cases x (y ∷ xs) ys (inr there) = elim (has_cases x xs ys there) [ inl front ↦ inl (inr front) | inr back ↦ inr back ]

  pub has_left : (x : X) (xs ys : List X) → Has x xs → Has x (xs ++ ys)
  has_left x [] ys has = absurd has
  has_left x (y ∷ xs) ys (inl here) = inl here
  has_left x (y ∷ xs) ys (inr there) = inr (has_left x xs ys there)

  pub has_right : (x : X) (xs ys : List X) → Has x ys → Has x (xs ++ ys)
  has_right x [] ys has = has
  has_right x (y ∷ xs) ys has = inr (has_right x xs ys has)

  append_nil : (xs : List X) → xs ++ [] ≡ xs
  append_nil [] = refl
  append_nil (x ∷ xs) = ap (λ rest. x ∷ rest) (append_nil xs)

-- ---- only entries of its key keep an entry from its place

pub follows_key : (bottom : Bool) (entry : Entry) (before : List Entry) → list_all (may_follow bottom entry) (of_key entry.key before) ≡ list_all (may_follow bottom entry) before
follows_key bottom entry [] = refl
follows_key bottom entry (x ∷ before) = step (same x.key entry.key) refl (follows_key bottom entry before)
  where
    step : (b : Bool) → same x.key entry.key ≡ b → list_all (may_follow bottom entry) (of_key entry.key before) ≡ list_all (may_follow bottom entry) before
        → list_all (may_follow bottom entry) (cond b (x ∷ of_key entry.key before) (of_key entry.key before)) ≡ list_all (may_follow bottom entry) (x ∷ before)
    step true is rest = ap (λ t. may_follow bottom entry x && t) rest
    step false is rest = rest ∙ sym (ap (λ t. (not t || Rattle.std.specs.Prelude.nat_lt entry.number x.number || (bottom && (Rattle.std.proofs.Common.eqb entry.number 0) && (Rattle.std.proofs.Common.eqb x.number 0))) && list_all (may_follow bottom entry) before) is)

-- ---- the entries of a key along a walk

pub at_join : (key : List ℕ) (xs ys : List Seated) → at_key key (xs ++ ys) ≡ at_key key xs ++ at_key key ys
at_join key [] ys = refl
at_join key (x ∷ xs) ys = step (same x.entry.key key) (at_join key xs ys)
  where
    step : (b : Bool) → at_key key (xs ++ ys) ≡ at_key key xs ++ at_key key ys → cond b (x ∷ at_key key (xs ++ ys)) (at_key key (xs ++ ys)) ≡ cond b (x ∷ at_key key xs) (at_key key xs) ++ at_key key ys
    step true e = ap (λ rest. x ∷ rest) e
    step false e = e

seated_key : (key : List ℕ) (part : ℕ) (run : List Entry) → at_key key (map (seat part) run) ≡ map (seat part) (of_key key run)
seated_key key part [] = refl
seated_key key part (x ∷ run) = step (same x.key key) (seated_key key part run)
  where
    step : (b : Bool) → at_key key (map (seat part) run) ≡ map (seat part) (of_key key run) → cond b (seat part x ∷ at_key key (map (seat part) run)) (at_key key (map (seat part) run)) ≡ map (seat part) (cond b (x ∷ of_key key run) (of_key key run))
    step true e = ap (λ rest. seat part x ∷ rest) e
    step false e = e

pub seated_same : (key : List ℕ) (part : ℕ) (one other : List Entry) → of_key key one ≡ of_key key other → at_key key (map (seat part) one) ≡ at_key key (map (seat part) other)
seated_same key part one other e = seated_key key part one ∙ ap (map (seat part)) e ∙ sym (seated_key key part other)

module _ (last : ℕ) (bottom : ℕ → Bool) (file : ℕ → Option ℕ) where
  abbrev right : List Entry → Seated → Bool
  right = is_right last bottom file

  abbrev files : List Entry → List Seated → List ℕ
  files = to_blame last bottom file

  abbrev of_one : List Entry → Seated → List ℕ
  of_one = blamed last bottom file

  blamed_key : (before : List Entry) (one : Seated) → of_one (of_key one.entry.key before) one ≡ of_one before one
  blamed_key before one = ap (λ t. cond (nat_le one.entry.number last && t) [] (file_list (file one.part))) (follows_key (bottom one.part) one.entry before)

  -- a file that is to blame is so by the entries of one key
  to_key : (name : ℕ) (before : List Entry) (seats : List Seated) → Has name (files before seats) → (key : List ℕ) × Has name (files (of_key key before) (at_key key seats))
  to_key name before [] has = absurd has
  to_key name before (one ∷ seats) has = elim (has_cases name (of_one before one) (files (before ++ one.entry ∷ []) seats) has) [
    | inl here ↦ (one.entry.key, mine here)
    | inr there ↦ (let found = to_key name (before ++ one.entry ∷ []) seats there in (found.0, others found.0 (same one.entry.key found.0) refl found.1))
  ]
    where
      mine : Has name (of_one before one) → Has name (files (of_key one.entry.key before) (at_key one.entry.key (one ∷ seats)))
      mine here =
          subst (λ t. Has name (files (of_key one.entry.key before) (cond t (one ∷ at_key one.entry.key seats) (at_key one.entry.key seats)))) (sym (same_self one.entry.key))
          (has_left name (of_one (of_key one.entry.key before) one) (files (of_key one.entry.key before ++ one.entry ∷ []) (at_key one.entry.key seats))
          (subst (Has name) (sym (blamed_key before one)) here))

      others : (key : List ℕ) (b : Bool) → same one.entry.key key ≡ b → Has name (files (of_key key (before ++ one.entry ∷ [])) (at_key key seats)) → Has name (files (of_key key before) (at_key key (one ∷ seats)))
      others key true is has =
          let more : of_key key (before ++ one.entry ∷ []) ≡ of_key key before ++ one.entry ∷ [] =
          passing_append (λ (entry : Entry). same entry.key key) before (one.entry ∷ []) ∙ ap (λ t. of_key key before ++ cond t (one.entry ∷ []) []) is in
          subst (λ t. Has name (files (of_key key before) (cond t (one ∷ at_key key seats) (at_key key seats)))) (sym is)
          (has_right name (of_one (of_key key before) one) (files (of_key key before ++ one.entry ∷ []) (at_key key seats))
          (subst (λ some. Has name (files some (at_key key seats))) more has))
      others key false is has =
          let same_before : of_key key (before ++ one.entry ∷ []) ≡ of_key key before =
          passing_append (λ (entry : Entry). same entry.key key) before (one.entry ∷ []) ∙ ap (λ t. of_key key before ++ cond t (one.entry ∷ []) []) is ∙ append_nil (of_key key before) in
          subst (λ t. Has name (files (of_key key before) (cond t (one ∷ at_key key seats) (at_key key seats)))) (sym is)
          (subst (λ some. Has name (files some (at_key key seats))) same_before has)

  from_key : (name : ℕ) (key : List ℕ) (before : List Entry) (seats : List Seated) → Has name (files (of_key key before) (at_key key seats)) → Has name (files before seats)
  from_key name key before [] has = absurd has
  from_key name key before (one ∷ seats) has = step (λ there. from_key name key (before ++ one.entry ∷ []) seats there) (same one.entry.key key) refl has
    where
      step : (Has name (files (of_key key (before ++ one.entry ∷ [])) (at_key key seats)) → Has name (files (before ++ one.entry ∷ []) seats)) → (b : Bool) → same one.entry.key key ≡ b → Has name (files (of_key key before) (cond b (one ∷ at_key key seats) (at_key key seats))) → Has name (files before (one ∷ seats))
      step rest true is has =
          let more : of_key key before ++ one.entry ∷ [] ≡ of_key key (before ++ one.entry ∷ []) =
          sym (passing_append (λ (entry : Entry). same entry.key key) before (one.entry ∷ []) ∙ ap (λ t. of_key key before ++ cond t (one.entry ∷ []) []) is) in
          let same_key : of_one (of_key key before) one ≡ of_one before one =
          ap (λ (k : List ℕ). of_one (of_key k before) one) (sym (Rattle.st_base.proofs.Same.same_true one.entry.key key is)) ∙ blamed_key before one in
          elim (has_cases name (of_one (of_key key before) one) (files (of_key key before ++ one.entry ∷ []) (at_key key seats)) has) [
            | inl here ↦ has_left name (of_one before one) (files (before ++ one.entry ∷ []) seats) (subst (Has name) same_key here)
            | inr there ↦ has_right name (of_one before one) (files (before ++ one.entry ∷ []) seats)
                (rest (subst (λ some. Has name (files some (at_key key seats))) more there))
          ]
      step rest false is has =
          let same_before : of_key key before ≡ of_key key (before ++ one.entry ∷ []) =
          sym (passing_append (λ (entry : Entry). same entry.key key) before (one.entry ∷ []) ∙ ap (λ t. of_key key before ++ cond t (one.entry ∷ []) []) is ∙ append_nil (of_key key before)) in
          has_right name (of_one before one) (files (before ++ one.entry ∷ []) seats)
          (rest (subst (λ some. Has name (files some (at_key key seats))) same_before has))

  -- walks that have the same entries of each key, in one order, have the same files to blame
  pub same_blame : (name : ℕ) (xs ys : List Seated) → ((key : List ℕ) → at_key key xs ≡ at_key key ys) → Has name (files [] xs) → Has name (files [] ys)
  same_blame name xs ys columns has =
      let found = to_key name [] xs has in
      from_key name found.0 [] ys (subst (λ seats. Has name (files [] seats)) (columns found.0) found.1)

  pub least_blame : (xs ys : List Seated) → ((key : List ℕ) → at_key key xs ≡ at_key key ys) → least_file (files [] xs) ≡ least_file (files [] ys)
  least_blame xs ys columns = least_same (files [] xs) (files [] ys) (λ name has. same_blame name xs ys columns has) (λ name has. same_blame name ys xs (λ key. sym (columns key)) has)

  -- ---- walks one behind the other

  pub blame_join : (before : List Entry) (xs ys : List Seated) → files before (xs ++ ys) ≡ files before xs ++ files (before ++ entries_at xs) ys
  blame_join before [] ys = ap (λ some. files some ys) (sym (append_nil before))
  blame_join before (x ∷ xs) ys =
      ap (λ rest. of_one before x ++ rest) (blame_join (before ++ x.entry ∷ []) xs ys
      ∙ ap (λ some. files (before ++ x.entry ∷ []) xs ++ files some ys) (append_assoc before (x.entry ∷ []) (entries_at xs)))
      ∙ sym (append_assoc (of_one before x) (files (before ++ x.entry ∷ []) xs) (files (before ++ x.entry ∷ entries_at xs) ys))
