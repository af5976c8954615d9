-- Pairs of the keys that read a value, as a map.
use Rattle.std.proofs.Common.{◌≡◌, ℕ, Bool, true, false, cond, ◌&&◌, List, [], ◌∷◌, Option, Some, None, refl, sym, ap, subst, ◌∙◌}
use Rattle.std.specs.Prelude.{IsTrue, filter, filter_map, is_some, map, option_map, ◌||◌}
use Rattle.std.specs.List.{list_any, AllByRecursion as Each}
use Rattle.st_base.specs.Bytes.{below, bytes_cmp, same}
use Rattle.st_base.specs.Map.{value_at}
use Rattle.st_base.proofs.Same.{same_true}
use Rattle.base_laws.proofs.Keys.{at_is}
use Rattle.base_laws.proofs.Lists.{each_filter}
use Rattle.st_order.specs.Columns.{Pairwise}
use Rattle.st_merge.specs.Scan.{KeyValue}

-- keys of pairs rise
abbrev pub Rise : {X : Type 0} → List (List ℕ × X) → Type 0
Rise pairs = Pairwise (λ one other. IsTrue (below one.0 other.0)) pairs

abbrev pub KeysUp : List (List ℕ) → Type 0
KeysUp keys = Pairwise (λ one other. IsTrue (below one other)) keys

abbrev pub has : List ℕ → List (List ℕ) → Bool
has q keys = list_any (λ key. same key q) keys

module _ (reads : List ℕ → Option (List ℕ)) where
  abbrev pair_at : List ℕ → Option KeyValue
  pair_at key = option_map (λ value. (key, value)) (reads key)

  pub value_in : (keys : List (List ℕ)) (q : List ℕ) → value_at (filter_map pair_at keys) q ≡ cond (has q keys) (reads q) None
  value_in [] q = refl
  value_in (key ∷ keys) q = step (same key q) refl (reads key) refl (value_in keys q)
    where
      more : Option KeyValue → List KeyValue
      more found = Rattle.std.specs.List.cons_option found (filter_map pair_at keys)

      none : (c : Bool) → reads q ≡ None → cond c (reads q) None ≡ None
      none true e = e
      none false e = refl

      step : (b : Bool) → same key q ≡ b → (found : Option (List ℕ)) → reads key ≡ found → value_at (filter_map pair_at keys) q ≡ cond (has q keys) (reads q) None
          → value_at (more (option_map (λ value. (key, value)) found)) q ≡ cond (b || has q keys) (reads q) None
      step true e (Some value) f rest = ap (λ c. cond c (Some value) (value_at (filter_map pair_at keys) q)) (at_is q key ∙ e) ∙ sym f ∙ ap reads (same_true key q e)
      step true e None f rest = (let gone : reads q ≡ None = ap reads (sym (same_true key q e)) ∙ f in rest ∙ none (has q keys) gone ∙ sym gone)
      step false e (Some value) f rest = ap (λ c. cond c (Some value) (value_at (filter_map pair_at keys) q)) (at_is q key ∙ e) ∙ rest
      step false e None f rest = rest

  -- their keys rise as these do
  each_up : (key : List ℕ) (keys : List (List ℕ)) → Each (λ other. IsTrue (below key other)) keys → Each (λ (pair : KeyValue). IsTrue (below key pair.0)) (filter_map pair_at keys)
  each_up key [] each = tt
  each_up key (other ∷ keys) each = step (reads other) (each_up key keys each.1)
    where
      step : (found : Option (List ℕ)) → Each (λ (pair : KeyValue). IsTrue (below key pair.0)) (filter_map pair_at keys) → Each (λ (pair : KeyValue). IsTrue (below key pair.0)) (Rattle.std.specs.List.cons_option (option_map (λ (value : List ℕ). (other, value)) found) (filter_map pair_at keys))
      step None rest = rest
      step (Some value) rest = (each.0, rest)

  pub pairs_up : (keys : List (List ℕ)) → KeysUp keys → Rise (filter_map pair_at keys)
  pairs_up [] up = tt
  pairs_up (key ∷ keys) up = step (reads key) (pairs_up keys up.1)
    where
      step : (found : Option (List ℕ)) → Rise (filter_map pair_at keys) → Rise (Rattle.std.specs.List.cons_option (option_map (λ (value : List ℕ). (key, value)) found) (filter_map pair_at keys))
      step None rest = rest
      step (Some value) rest = (each_up key keys up.0, rest)

-- those that pass
pub has_passing : (test : List ℕ → Bool) (keys : List (List ℕ)) (q : List ℕ) → has q (filter test keys) ≡ (test q && has q keys)
has_passing test [] q = and_none (test q)
  where
    and_none : (b : Bool) → false ≡ (b && false)
    and_none true = refl
    and_none false = refl
has_passing test (key ∷ keys) q = step (same key q) refl (test key) refl (has_passing test keys q)
  where
    no_way : {A : Type 0} → true ≡ false → A
    no_way e = absurd (Rattle.std.proofs.lemmas.Bool.false≢true (sym e))

    step : (b : Bool) → same key q ≡ b → (t : Bool) → test key ≡ t → has q (filter test keys) ≡ (test q && has q keys)
        → has q (cond t (key ∷ filter test keys) (filter test keys)) ≡ (test q && (b || has q keys))
    step true e true f rest = ap (λ c. c || has q (filter test keys)) e ∙ sym (ap (λ c. c && true) (ap test (sym (same_true key q e)) ∙ f))
    step true e false f rest = (let fails : test q ≡ false = ap test (sym (same_true key q e)) ∙ f in rest ∙ ap (λ c. c && has q keys) fails ∙ sym (ap (λ c. c && true) fails))
    step false e true f rest = ap (λ c. c || has q (filter test keys)) e ∙ rest
    step false e false f rest = rest

pub keys_passing : (test : List ℕ → Bool) (keys : List (List ℕ)) → KeysUp keys → KeysUp (filter test keys)
keys_passing test [] up = tt
keys_passing test (key ∷ keys) up = step (test key) (keys_passing test keys up.1)
  where
    step : (b : Bool) → KeysUp (filter test keys) → KeysUp (cond b (key ∷ filter test keys) (filter test keys))
    step true rest = (each_filter (λ other. IsTrue (below key other)) test keys up.0, rest)
    step false rest = rest

module _ {X : Type 0} where
  -- the keys of a map
  pub has_key_of : (pairs : List (List ℕ × X)) (q : List ℕ) → has q (map (λ pair. pair.0) pairs) ≡ is_some (value_at pairs q)
  has_key_of [] q = refl
  has_key_of (pair ∷ pairs) q = ap (λ b. b || has q (map (λ one. one.0) pairs)) (sym (at_is q pair.0)) ∙ step (Rattle.std.specs.Ordering.is_eq (bytes_cmp q pair.0)) (has_key_of pairs q)
    where
      step : (b : Bool) → has q (map (λ one. one.0) pairs) ≡ is_some (value_at pairs q) → (b || has q (map (λ one. one.0) pairs)) ≡ is_some (cond b (Some pair.1) (value_at pairs q))
      step true rest = refl
      step false rest = rest

  pub keys_up : (pairs : List (List ℕ × X)) → Rise pairs → KeysUp (map (λ pair. pair.0) pairs)
  keys_up [] up = tt
  keys_up (pair ∷ pairs) up = (each_key pairs up.0, keys_up pairs up.1)
    where
      each_key : (some : List (List ℕ × X)) → Each (λ other. IsTrue (below pair.0 other.0)) some → Each (λ key. IsTrue (below pair.0 key)) (map (λ one. one.0) some)
      each_key [] each = tt
      each_key (other ∷ some) each = (each.0, each_key some each.1)

  -- keys that rise from one to the next rise throughout
  pub rise_from : (pairs : List (List ℕ × X)) → Rattle.st_base.specs.Order.rises (λ one other. below one.0 other.0) pairs ≡ true → Rise pairs
  rise_from [] e = tt
  rise_from (pair ∷ pairs) e = behind pair pairs e
    where
      behind : (first : List ℕ × X) (others : List (List ℕ × X)) → Rattle.st_base.specs.Order.rises_behind (λ one other. below one.0 other.0) first others ≡ true → Rise (first ∷ others)
      behind first [] e = (tt, tt)
      behind first (next ∷ others) e =
          let parts = Rattle.std.proofs.lemmas.Bool.and_parts (below first.0 next.0) (Rattle.st_base.specs.Order.rises_behind (λ one other. below one.0 other.0) next others) e in
          let rest = behind next others parts.1 in
          ((parts.0, Rattle.base_laws.proofs.Lists.each_as (λ (other : List ℕ × X). IsTrue (below next.0 other.0)) (λ other. IsTrue (below first.0 other.0)) (λ other lt. Rattle.base_laws.proofs.Keys.below_trans first.0 next.0 other.0 parts.0 lt) others rest.0), rest)
