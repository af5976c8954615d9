-- The least of file numbers.
use Rattle.std.proofs.Common.{◌≡◌, ℕ, ◌<◌, ◌≤◌, ◌⊎◌, Bool, true, false, cond, List, [], ◌∷◌, ◌++◌, map, min, Option, Some, None, refl, sym, ap, ◌∙◌, inl, inr, arith}
use Rattle.std.proofs.lemmas.Bool.{cases_lt, lt-ltb, le-ltb}
use Rattle.st_order.proofs.Least.{Has}
use Rattle.store_image.specs.Opens.{least_file, lesser_file}
use Rattle.opening_checks.specs.Least.{lesser_of}

pub of_file : (file : ℕ) (rest : Option ℕ) → lesser_file rest file ≡ lesser_of (Some file) rest
of_file file None = refl
of_file file (Some other) = refl

pub none_right : (one : Option ℕ) → lesser_of one None ≡ one
none_right None = refl
none_right (Some file) = refl

lesser_is : (a b : ℕ) → lesser_of (Some a) (Some b) ≡ Some (min a b)
lesser_is a b = elim (cases_lt a b) [
  | inl lt ↦ ap (λ t. cond t (Some a) (Some b)) (lt-ltb a b lt) ∙ ap Some (let e : a ≡ min a b = omega (arith, lt) in e)
  | inr le ↦ ap (λ t. cond t (Some a) (Some b)) (le-ltb a b le) ∙ ap Some (let e : b ≡ min a b = omega (arith, le) in e)
]

pub lesser_joins : (a b c : Option ℕ) → lesser_of a (lesser_of b c) ≡ lesser_of (lesser_of a b) c
lesser_joins None b c = refl
lesser_joins (Some a) None c = refl
lesser_joins (Some a) (Some b) None = sym (none_right (lesser_of (Some a) (Some b)))
lesser_joins (Some a) (Some b) (Some c) =
    ap (lesser_of (Some a)) (lesser_is b c) ∙ lesser_is a (min b c) ∙ ap Some (let e : min a (min b c) ≡ min (min a b) c = omega arith in e)
    ∙ sym (lesser_is (min a b) c) ∙ sym (ap (λ one. lesser_of one (Some c)) (lesser_is a b))

-- of files one behind the other
pub least_join : (xs ys : List ℕ) → least_file (xs ++ ys) ≡ lesser_of (least_file xs) (least_file ys)
least_join [] ys = refl
least_join (x ∷ xs) ys =
    of_file x (least_file (xs ++ ys)) ∙ ap (lesser_of (Some x)) (least_join xs ys) ∙ lesser_joins (Some x) (least_file xs) (least_file ys)
    ∙ sym (ap (λ one. lesser_of one (least_file ys)) (of_file x (least_file xs)))

-- ---- the least is one of them, and below all others

abbrev LeastOf : Option ℕ → List ℕ → Type 0
LeastOf None files = files ≡ []
LeastOf (Some least) files = Has least files × ((file : ℕ) → Has file files → least ≤ file)

least_of : (files : List ℕ) → LeastOf (least_file files) files
least_of [] = refl
least_of (x ∷ files) = step (least_file files) (least_of files)
  where
    pick : (other : ℕ) → Has other files → ((file : ℕ) → Has file files → other ≤ file) → LeastOf (lesser_file (Some other) x) (x ∷ files)
    pick other has low = choose (Rattle.std.specs.Prelude.nat_lt x other) refl
      where
        choose : (t : Bool) → Rattle.std.specs.Prelude.nat_lt x other ≡ t → LeastOf (cond t (Some x) (Some other)) (x ∷ files)
        choose true e = (inl refl, λ file there. elim there [ inl here ↦ omega (arith, here) | inr behind ↦ (let le = low file behind in let lt : x < other = Rattle.std.proofs.lemmas.Bool.ltb-true x other e in omega (arith, le, lt)) ])
        choose false e = (inr has, λ file there. elim there [ inl here ↦ (let le : other ≤ x = Rattle.std.proofs.lemmas.Bool.ltb-false x other e in omega (arith, here, le)) | inr behind ↦ low file behind ])

    step : (rest : Option ℕ) → LeastOf rest files → LeastOf (lesser_file rest x) (x ∷ files)
    step None none = (inl refl, λ file there. elim there [ inl here ↦ omega (arith, here) | inr behind ↦ absurd (Rattle.std.proofs.Common.subst (Has file) none behind) ])
    step (Some other) least = pick other least.0 least.1

-- lists that have the same files have the same least one
pub least_same : (xs ys : List ℕ) → ((file : ℕ) → Has file xs → Has file ys) → ((file : ℕ) → Has file ys → Has file xs) → least_file xs ≡ least_file ys
least_same xs ys to back = both (least_file xs) (least_file ys) (least_of xs) (least_of ys)
  where
    both : (a b : Option ℕ) → LeastOf a xs → LeastOf b ys → a ≡ b
    both None None p q = refl
    both None (Some b) p q = absurd (Rattle.std.proofs.Common.subst (Has b) p (back b q.0))
    both (Some a) None p q = absurd (Rattle.std.proofs.Common.subst (Has a) q (to a p.0))
    both (Some a) (Some b) p q = ap Some (let low = p.1 b (back b q.0) in let high = q.1 a (to a p.0) in let e : a ≡ b = omega (arith, low, high) in e)
