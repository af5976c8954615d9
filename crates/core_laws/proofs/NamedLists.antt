-- Lists of named things: look-ups, changes at a name, and two lists with the same names.
use Rattle.std.proofs.Common.{◌≡◌, ℕ, Bool, true, false, cond, List, [], ◌∷◌, map, Option, Some, None, option_map, unwrap_or, is_eq, refl, sym, ap, subst, ◌∙◌}
use Rattle.std.specs.List.{AllByRecursion as Each, AllZip}
use Rattle.st_base.specs.Bytes.{bytes_cmp, same}
use Rattle.st_base.specs.Map.{value_at, changed_at}
use Rattle.base_laws.proofs.Keys.{at_itself, at_key}
use Rattle.st_order.specs.Columns.{Pairwise}

-- ---- a list and its look-ups

pub map_some : {X Y : Type 0} (f : X → Y) (o : Option X) (y : Y) → option_map f o ≡ Some y → (x : X) × (o ≡ Some x) × (f x ≡ y)
map_some f None y e = absurd cc
map_some f (Some x) y e = (x, refl, ap (λ o. unwrap_or o y) e)

module _ {X : Type 0} where
  -- no name stands twice
  abbrev pub NamesDiffer : List (List ℕ × X) → Type 0
  NamesDiffer pairs = Pairwise (λ one other. is_eq (bytes_cmp other.0 one.0) ≡ false) pairs

-- ---- two lists with the same names, in the same order

abbrev pub Zipped : {X Y : Type 0} → (X → Y → Type 0) → List (List ℕ × X) → List (List ℕ × Y) → Type 0
Zipped R xs ys = AllZip (λ one other. (one.0 ≡ other.0) × R one.1 other.1) xs ys

abbrev pub BothAt : {X Y : Type 0} → (X → Y → Type 0) → List (List ℕ × X) → List (List ℕ × Y) → Type 0
BothAt {X} {Y} R xs ys = (name : List ℕ) (x : X) (y : Y) → value_at xs name ≡ Some x → value_at ys name ≡ Some y → R x y

module _ {X Y : Type 0} where
  pub zip_to : (R S : X → Y → Type 0) → ((x : X) (y : Y) → R x y → S x y) → (xs : List (List ℕ × X)) (ys : List (List ℕ × Y)) → Zipped R xs ys → Zipped S xs ys
  zip_to R S to [] [] h = tt
  zip_to R S to [] (y ∷ ys) h = absurd h
  zip_to R S to (x ∷ xs) [] h = absurd h
  zip_to R S to (x ∷ xs) (y ∷ ys) h = ((h.0.0, to x.1 y.1 h.0.1), zip_to R S to xs ys h.1)

  pub zip_both : (R S : X → Y → Type 0) (xs : List (List ℕ × X)) (ys : List (List ℕ × Y)) → Zipped R xs ys → Zipped S xs ys → Zipped (λ x y. R x y × S x y) xs ys
  zip_both R S [] [] h k = tt
  zip_both R S [] (y ∷ ys) h k = absurd h
  zip_both R S (x ∷ xs) [] h k = absurd h
  zip_both R S (x ∷ xs) (y ∷ ys) h k = ((h.0.0, (h.0.1, k.0.1)), zip_both R S xs ys h.1 k.1)

  pub zip_left : (P : X → Type 0) (R : X → Y → Type 0) (xs : List (List ℕ × X)) (ys : List (List ℕ × Y)) → Each (λ x. P x.1) xs → Zipped R xs ys → Zipped (λ x y. P x × R x y) xs ys
  zip_left P R [] [] h k = tt
  zip_left P R [] (y ∷ ys) h k = absurd k
  zip_left P R (x ∷ xs) [] h k = absurd k
  zip_left P R (x ∷ xs) (y ∷ ys) h k = ((k.0.0, (h.0, k.0.1)), zip_left P R xs ys h.1 k.1)

  pub zip_right : (Q : Y → Type 0) (R : X → Y → Type 0) (xs : List (List ℕ × X)) (ys : List (List ℕ × Y)) → Each (λ y. Q y.1) ys → Zipped R xs ys → Zipped (λ x y. Q y × R x y) xs ys
  zip_right Q R [] [] h k = tt
  zip_right Q R [] (y ∷ ys) h k = absurd k
  zip_right Q R (x ∷ xs) [] h k = absurd k
  zip_right Q R (x ∷ xs) (y ∷ ys) h k = ((k.0.0, (h.0, k.0.1)), zip_right Q R xs ys h.1 k.1)

  pub lefts : (P : X → Type 0) (R : X → Y → Type 0) → ((x : X) (y : Y) → R x y → P x) → (xs : List (List ℕ × X)) (ys : List (List ℕ × Y)) → Zipped R xs ys → Each (λ x. P x.1) xs
  lefts P R to [] [] h = tt
  lefts P R to [] (y ∷ ys) h = absurd h
  lefts P R to (x ∷ xs) [] h = absurd h
  lefts P R to (x ∷ xs) (y ∷ ys) h = (to x.1 y.1 h.0.1, lefts P R to xs ys h.1)

  pub rights : (Q : Y → Type 0) (R : X → Y → Type 0) → ((x : X) (y : Y) → R x y → Q y) → (xs : List (List ℕ × X)) (ys : List (List ℕ × Y)) → Zipped R xs ys → Each (λ y. Q y.1) ys
  rights Q R to [] [] h = tt
  rights Q R to [] (y ∷ ys) h = absurd h
  rights Q R to (x ∷ xs) [] h = absurd h
  rights Q R to (x ∷ xs) (y ∷ ys) h = (to x.1 y.1 h.0.1, rights Q R to xs ys h.1)

  pub zip_changed : (R S : X → Y → Type 0) (f : X → X) (g : Y → Y) (name : List ℕ) → ((x : X) (y : Y) → R x y → S (f x) (g y)) → ((x : X) (y : Y) → R x y → S x y)
      → (xs : List (List ℕ × X)) (ys : List (List ℕ × Y)) → Zipped R xs ys → Zipped S (changed_at xs name f) (changed_at ys name g)
  zip_changed R S f g name hit miss [] [] h = tt
  zip_changed R S f g name hit miss [] (y ∷ ys) h = absurd h
  zip_changed R S f g name hit miss (x ∷ xs) [] h = absurd h
  zip_changed R S f g name hit miss (x ∷ xs) (y ∷ ys) h =
      ((h.0.0, subst (λ k. S (cond (same x.0 name) (f x.1) x.1) (cond (same k name) (g y.1) y.1)) h.0.0 (pick (same x.0 name))), zip_changed R S f g name hit miss xs ys h.1)
    where
      pick : (b : Bool) → S (cond b (f x.1) x.1) (cond b (g y.1) y.1)
      pick true = hit x.1 y.1 h.0.1
      pick false = miss x.1 y.1 h.0.1

  -- what is found in both stands at one place
  pub both_of_zip : (R : X → Y → Type 0) (xs : List (List ℕ × X)) (ys : List (List ℕ × Y)) → Zipped R xs ys → BothAt R xs ys
  both_of_zip R [] [] h name x y here there = absurd cc
  both_of_zip R [] (q ∷ ys) h name x y here there = absurd h
  both_of_zip R (p ∷ xs) [] h name x y here there = absurd h
  both_of_zip R (p ∷ xs) (q ∷ ys) h name x y here there =
      step (is_eq (bytes_cmp name p.0)) here (subst (λ k. cond (is_eq (bytes_cmp name k)) (Some q.1) (value_at ys name) ≡ Some y) (sym h.0.0) there) (both_of_zip R xs ys h.1 name x y)
    where
      step : (b : Bool) → cond b (Some p.1) (value_at xs name) ≡ Some x → cond b (Some q.1) (value_at ys name) ≡ Some y → (value_at xs name ≡ Some x → value_at ys name ≡ Some y → R x y) → R x y
      step true here there rest = subst (λ one. R one y) (ap (λ o. unwrap_or o x) here) (subst (λ other. R p.1 other) (ap (λ o. unwrap_or o y) there) h.0.1)
      step false here there rest = rest here there

  names_tail : (xs : List (List ℕ × X)) (ys : List (List ℕ × Y)) (p : List ℕ × X) (q : List ℕ × Y) → map (λ (x : List ℕ × X). x.0) (p ∷ xs) ≡ map (λ (y : List ℕ × Y). y.0) (q ∷ ys)
      → (p.0 ≡ q.0) × (map (λ (x : List ℕ × X). x.0) xs ≡ map (λ (y : List ℕ × Y). y.0) ys)
  names_tail xs ys p q e = (ap head e, ap tail e)
    where
      head : List (List ℕ) → List ℕ
      head [] = []
      head (x ∷ xs) = x

      tail : List (List ℕ) → List (List ℕ)
      tail [] = []
      tail (x ∷ xs) = xs

  -- and where no name stands twice, each is found
  pub zip_of_both : (R : X → Y → Type 0) (xs : List (List ℕ × X)) (ys : List (List ℕ × Y)) → map (λ (x : List ℕ × X). x.0) xs ≡ map (λ (y : List ℕ × Y). y.0) ys → NamesDiffer ys
      → BothAt R xs ys → Zipped R xs ys
  zip_of_both R [] [] names differ both = tt
  zip_of_both R [] (y ∷ ys) names differ both = absurd cc
  zip_of_both R (x ∷ xs) [] names differ both = absurd cc
  zip_of_both R (x ∷ xs) (y ∷ ys) names differ both =
      let parts = names_tail xs ys x y names in (
        (parts.0, both x.0 x.1 y.1 (hit x.0 x.0 x.1 (at_itself x.0) (value_at xs x.0)) (hit x.0 y.0 y.1 (subst (λ k. is_eq (bytes_cmp x.0 k) ≡ true) parts.0 (at_itself x.0)) (value_at ys x.0))),
        zip_of_both R xs ys parts.1 differ.1 (λ name one other here there. both name one other
            (miss name x.0 x.1 (subst (λ k. is_eq (bytes_cmp name k) ≡ false) (sym parts.0) (found_other name other there)) (value_at xs name) ∙ here)
            (miss name y.0 y.1 (found_other name other there) (value_at ys name) ∙ there)),
      )
    where
      hit : {Z : Type 0} (name key : List ℕ) (z : Z) → is_eq (bytes_cmp name key) ≡ true → (rest : Option Z) → cond (is_eq (bytes_cmp name key)) (Some z) rest ≡ Some z
      hit name key z e rest = ap (λ b. cond b (Some z) rest) e

      miss : {Z : Type 0} (name key : List ℕ) (z : Z) → is_eq (bytes_cmp name key) ≡ false → (rest : Option Z) → cond (is_eq (bytes_cmp name key)) (Some z) rest ≡ rest
      miss name key z e rest = ap (λ b. cond b (Some z) rest) e

      absent : (rest : List (List ℕ × Y)) (name : List ℕ) (other : Y) → Each (λ (one : List ℕ × Y). is_eq (bytes_cmp one.0 y.0) ≡ false) rest → value_at rest name ≡ Some other → is_eq (bytes_cmp name y.0) ≡ false
      absent [] name other h e = absurd cc
      absent (q ∷ rest) name other h e = at (is_eq (bytes_cmp name q.0)) refl (absent rest name other h.1)
        where
          at : (b : Bool) → is_eq (bytes_cmp name q.0) ≡ b → (value_at rest name ≡ Some other → is_eq (bytes_cmp name y.0) ≡ false) → is_eq (bytes_cmp name y.0) ≡ false
          at true f more = subst (λ k. is_eq (bytes_cmp k y.0) ≡ false) (sym (at_key name q.0 f)) h.0
          at false f more = more (sym (miss name q.0 q.1 f (value_at rest name)) ∙ e)

      found_other : (name : List ℕ) (other : Y) → value_at ys name ≡ Some other → is_eq (bytes_cmp name y.0) ≡ false
      found_other name other there = absent ys name other differ.0 there

module _ {X Y : Type 0} (T : X → Y → Type 0) where
  pub each_beside : (P : List ℕ × X → Type 0) (Q : List ℕ × Y → Type 0) → ((x : List ℕ × X) (y : List ℕ × Y) → (x.0 ≡ y.0) × T x.1 y.1 → P x → Q y)
      → (xs : List (List ℕ × X)) (ys : List (List ℕ × Y)) → Zipped T xs ys → Each P xs → Each Q ys
  each_beside P Q to [] [] z h = tt
  each_beside P Q to [] (y ∷ ys) z h = absurd z
  each_beside P Q to (x ∷ xs) [] z h = absurd z
  each_beside P Q to (x ∷ xs) (y ∷ ys) z h = (to x y z.0 h.0, each_beside P Q to xs ys z.1 h.1)

  pub pairs_beside : (R : List ℕ × X → List ℕ × X → Type 0) (S : List ℕ × Y → List ℕ × Y → Type 0)
      → ((x x' : List ℕ × X) (y y' : List ℕ × Y) → (x.0 ≡ y.0) × T x.1 y.1 → (x'.0 ≡ y'.0) × T x'.1 y'.1 → R x x' → S y y')
      → (xs : List (List ℕ × X)) (ys : List (List ℕ × Y)) → Zipped T xs ys → Pairwise R xs → Pairwise S ys
  pairs_beside R S to [] [] z h = tt
  pairs_beside R S to [] (y ∷ ys) z h = absurd z
  pairs_beside R S to (x ∷ xs) [] z h = absurd z
  pairs_beside R S to (x ∷ xs) (y ∷ ys) z h = (each_beside (R x) (S y) (λ x' y' w r. to x x' y y' z.0 w r) xs ys z.1 h.0, pairs_beside R S to xs ys z.1 h.1)

pub zip_turned : {X Y : Type 0} (R : X → Y → Type 0) (xs : List (List ℕ × X)) (ys : List (List ℕ × Y)) → Zipped R xs ys → Zipped (λ y x. R x y) ys xs
zip_turned R [] [] z = tt
zip_turned R [] (y ∷ ys) z = absurd z
zip_turned R (x ∷ xs) [] z = absurd z
zip_turned R (x ∷ xs) (y ∷ ys) z = ((sym z.0.0, z.0.1), zip_turned R xs ys z.1)

-- each is found under its name
pub own_found : {X : Type 0} (xs : List (List ℕ × X)) → NamesDiffer xs → Each (λ x. value_at xs x.0 ≡ Some x.1) xs
own_found [] h = tt
own_found {X} (x ∷ xs) h = (
  ap (λ b. cond b (Some x.1) (value_at xs x.0)) (at_itself x.0),
  behind xs h.0 (own_found xs h.1),
)
  where
    behind : (ys : List (List ℕ × X)) → Each (λ other. is_eq (bytes_cmp other.0 x.0) ≡ false) ys → Each (λ y. value_at xs y.0 ≡ Some y.1) ys → Each (λ y. value_at (x ∷ xs) y.0 ≡ Some y.1) ys
    behind [] d k = tt
    behind (y ∷ ys) d k = (ap (λ b. cond b (Some x.1) (value_at xs y.0)) d.0 ∙ k.0, behind ys d.1 k.1)
