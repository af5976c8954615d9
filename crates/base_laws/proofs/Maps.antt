-- Maps from byte strings: what is found in them once they are changed, and what holds of each of their pairs.
use Rattle.std.proofs.Common.{◌≡◌, ℕ, Bool, true, false, cond, not, List, [], ◌∷◌, filter, Option, Some, None, Ordering, Less, Equal, Greater, option_map, unwrap_or, is_some, is_eq, refl, sym, ap, subst, ◌∙◌, true≢false}
use Rattle.std.specs.List.{AllByRecursion as Each}
use Rattle.std.specs.Ordering.{match_ordering}
use Rattle.std.proofs.lemmas.Map.Lookups.{exact_bytes}
use Rattle.st_base.specs.Bytes.{bytes_cmp, same}
use Rattle.st_base.specs.Map.{changed_at, set_at, value_at, without}
use Rattle.st_base.proofs.Same.{same_is_eq, same_true}
use Rattle.base_laws.proofs.Keys.{at_is, at_key}

-- ---- one pair is set

twice : {X : Type 0} (b : Bool) (x y z : X) → cond b x z ≡ cond b x (cond b y z)
twice true x y z = refl
twice false x y z = refl

swapped : {X : Type 0} (a b : Bool) (x y z : X) → (b ≡ true → a ≡ false) → cond b x (cond a y z) ≡ cond a y (cond b x z)
swapped true true x y z h = absurd (true≢false (h refl))
swapped true false x y z h = refl
swapped false true x y z h = refl
swapped false false x y z h = refl

-- two keys of which one is greater than a third aren't both that
apart : (k e q : List ℕ) → bytes_cmp k e ≡ Greater → is_eq (bytes_cmp q e) ≡ true → same k q ≡ false
apart k e q is there =
    let here : q ≡ e = same_true q e (same_is_eq q e ∙ there) in
    ap (same k) here ∙ same_is_eq k e ∙ ap is_eq is

set_case : {X : Type 0} (e : List ℕ × X) (m : List (List ℕ × X)) (k : List ℕ) (v : X) (q : List ℕ) (r : Ordering) → bytes_cmp k e.0 ≡ r → value_at (set_at m k v) q ≡ cond (same k q) (Some v) (value_at m q)
    → value_at (match_ordering r ((k, v) ∷ e ∷ m) ((e.0, v) ∷ m) (e ∷ set_at m k v)) q ≡ cond (same k q) (Some v) (value_at (e ∷ m) q)
set_case e m k v q Less is rest = ap (λ b. cond b (Some v) (value_at (e ∷ m) q)) (at_is q k)
set_case e m k v q Equal is rest =
    let here : k ≡ e.0 = exact_bytes k e.0 is in
    ap (λ b. cond b (Some v) (value_at m q)) (at_is q e.0)
    ∙ twice (same e.0 q) (Some v) (Some e.1) (value_at m q)
    ∙ ap (λ l. cond (same l q) (Some v) (cond (same e.0 q) (Some e.1) (value_at m q))) (sym here)
    ∙ ap (λ b. cond (same k q) (Some v) (cond b (Some e.1) (value_at m q))) (sym (at_is q e.0))
set_case e m k v q Greater is rest =
    ap (λ o. cond (is_eq (bytes_cmp q e.0)) (Some e.1) o) rest
    ∙ swapped (same k q) (is_eq (bytes_cmp q e.0)) (Some e.1) (Some v) (value_at m q) (apart k e.0 q is)

-- at the key that was set stands the new value, at any other what stood there
pub value_set : {X : Type 0} (m : List (List ℕ × X)) (k : List ℕ) (v : X) (q : List ℕ) → value_at (set_at m k v) q ≡ cond (same k q) (Some v) (value_at m q)
value_set [] k v q = ap (λ b. cond b (Some v) None) (at_is q k)
value_set (e ∷ m) k v q = set_case e m k v q (bytes_cmp k e.0) refl (value_set m k v q)

-- ---- a value is changed, or a pair goes

nothing_either : {X : Type 0} (b : Bool) → let none : Option X = None in none ≡ cond b none none
nothing_either true = refl
nothing_either false = refl

module _ {X : Type 0} where
  pub changed_value : (pairs : List (List ℕ × X)) (name : List ℕ) (f : X → X) (key : List ℕ)
      → value_at (changed_at pairs name f) key ≡ option_map (λ x. cond (same key name) (f x) x) (value_at pairs key)
  changed_value [] name f key = refl
  changed_value (p ∷ ps) name f key = step (is_eq (bytes_cmp key p.0)) refl (changed_value ps name f key)
    where
      step : (b : Bool) → is_eq (bytes_cmp key p.0) ≡ b → value_at (changed_at ps name f) key ≡ option_map (λ x. cond (same key name) (f x) x) (value_at ps key)
          → cond b (Some (cond (same p.0 name) (f p.1) p.1)) (value_at (changed_at ps name f) key) ≡ option_map (λ x. cond (same key name) (f x) x) (cond b (Some p.1) (value_at ps key))
      step true e rest = ap (λ (k : List ℕ). Some (cond (same k name) (f p.1) p.1)) (sym (at_key key p.0 e))
      step false e rest = rest

  pub value_without : (pairs : List (List ℕ × X)) (name key : List ℕ) → value_at (without pairs name) key ≡ cond (same key name) None (value_at pairs key)
  value_without [] name key = nothing_either {X = X} (same key name)
  value_without (p ∷ ps) name key = step (same p.0 name) (is_eq (bytes_cmp key p.0)) refl refl (value_without ps name key)
    where
      step : (gone here : Bool) → same p.0 name ≡ gone → is_eq (bytes_cmp key p.0) ≡ here → value_at (without ps name) key ≡ cond (same key name) None (value_at ps key)
          → value_at (cond (not gone) (p ∷ without ps name) (without ps name)) key ≡ cond (same key name) None (cond here (Some p.1) (value_at ps key))
      step true true e at rest = rest ∙ ap (λ b. cond b None (value_at ps key)) is ∙ sym (ap (λ b. cond b None (Some p.1)) is)
        where
          is : same key name ≡ true
          is = ap (λ k. same k name) (at_key key p.0 at) ∙ e
      step true false e at rest = rest
      step false true e at rest = ap (λ b. cond b (Some p.1) (value_at (without ps name) key)) at ∙ sym (ap (λ b. cond b None (Some p.1)) (ap (λ k. same k name) (at_key key p.0 at) ∙ e))
      step false false e at rest = ap (λ b. cond b (Some p.1) (value_at (without ps name) key)) at ∙ rest

  -- ---- each pair

  -- what holds of each holds of the one that is found
  pub found_each : (P : X → Type 0) (pairs : List (List ℕ × X)) (key : List ℕ) (x : X) → Each (λ pair. P pair.1) pairs → value_at pairs key ≡ Some x → P x
  found_each P [] key x h e = absurd cc
  found_each P (p ∷ ps) key x h e = step (is_eq (bytes_cmp key p.0)) e (found_each P ps key x h.1)
    where
      step : (b : Bool) → cond b (Some p.1) (value_at ps key) ≡ Some x → (value_at ps key ≡ Some x → P x) → P x
      step true e rest = subst P (ap (λ o. unwrap_or o x) e) h.0
      step false e rest = rest e

  pub each_set : (P : List ℕ × X → Type 0) (pairs : List (List ℕ × X)) (key : List ℕ) (x : X) → ((other : List ℕ) (old : X) → P (other, old) → P (other, x)) → Each P pairs → P (key, x) → Each P (set_at pairs key x)
  each_set P [] key x f h p = (p, tt)
  each_set P (pair ∷ pairs) key x f h p = go (bytes_cmp key pair.0) (each_set P pairs key x f h.1 p)
    where
      go : (o : Ordering) → Each P (set_at pairs key x) → Each P (match_ordering o ((key, x) ∷ pair ∷ pairs) ((pair.0, x) ∷ pairs) (pair ∷ set_at pairs key x))
      go Less rest = (p, h)
      go Equal rest = (f pair.0 pair.1 h.0, h.1)
      go Greater rest = (h.0, rest)

  pub each_changed : (P : X → Type 0) (pairs : List (List ℕ × X)) (name : List ℕ) (change : X → X) → ((x : X) → P x → P (change x))
      → Each (λ named. P named.1) pairs → Each (λ named. P named.1) (changed_at pairs name change)
  each_changed P [] name change f h = tt
  each_changed P (named ∷ pairs) name change f h = (go (same named.0 name), each_changed P pairs name change f h.1)
    where
      go : (b : Bool) → P (cond b (change named.1) named.1)
      go true = f named.1 h.0
      go false = h.0
