-- The rising keys of runs are the keys of these runs.
use Rattle.std.proofs.Common.{◌≡◌, ℕ, Bool, true, false, cond, ◌⊎◌, List, [], ◌∷◌, flat_map, refl, sym, ap, subst, ◌∙◌, inl, inr}
use Rattle.std.specs.Prelude.{fold}
use Rattle.std.specs.List.{AllByRecursion as Each}
use Rattle.std.proofs.lemmas.Bool.{false≢true}
use Rattle.st_base.specs.Bytes.{at_most, below, same}
use Rattle.st_base.specs.Range.{keys_of}
use Rattle.st_base.specs.declared.entry.Entry.{Entry}
use Rattle.st_base.proofs.Same.{same_true}
use Rattle.base_laws.proofs.Keys.{below_not}
use Rattle.base_laws.proofs.Lists.{each_as, flat_map_each, map_each}
use Rattle.st_order.proofs.Least.{Has}
use Rattle.job_model.specs.Drops.{rising_keys}
use Rattle.job_laws.proofs.DropRuns.{rising_each}
use Rattle.job_laws.proofs.Rightward.{put_key}
use Rattle.job_laws.proofs.Rising.{Rise, rising_is_put}
use Rattle.st_drops.proofs.Lists.{each_has}

put_here : (keys : List (List ℕ)) (key : List ℕ) → Has key (put_key keys key)
put_here [] key = inl refl
put_here (other ∷ others) key = step (same key other) refl (below key other) (put_here others key)
  where
    step : (b : Bool) → same key other ≡ b → (c : Bool) → Has key (put_key others key) → Has key (cond b (other ∷ others) (cond c (key ∷ other ∷ others) (other ∷ put_key others key)))
    step true is c rest = inl (sym (same_true key other is))
    step false is true rest = inl refl
    step false is false rest = inr rest

put_keeps : (k key : List ℕ) (keys : List (List ℕ)) → Has k keys → Has k (put_key keys key)
put_keeps k key [] has = absurd has
put_keeps k key (other ∷ others) has = step (same key other) (below key other) has (put_keeps k key others)
  where
    step : (b c : Bool) → Has k (other ∷ others) → (Has k others → Has k (put_key others key)) → Has k (cond b (other ∷ others) (cond c (key ∷ other ∷ others) (other ∷ put_key others key)))
    step true c has rest = has
    step false true has rest = inr has
    step false false (inl here) rest = inl here
    step false false (inr there) rest = inr (rest there)

puts_have : (k : List ℕ) (some keys : List (List ℕ)) → Has k some ⊎ Has k keys → Has k (fold put_key some keys)
puts_have k some [] (inl has) = has
puts_have k some [] (inr has) = absurd has
puts_have k some (key ∷ keys) (inl has) = puts_have k (put_key some key) keys (inl (put_keeps k key some has))
puts_have k some (key ∷ keys) (inr (inl here)) = puts_have k (put_key some key) keys (inl (subst (λ one. Has one (put_key some key)) here (put_here some key)))
puts_have k some (key ∷ keys) (inr (inr there)) = puts_have k (put_key some key) keys (inr there)

pub rising_has : (runs : List (List Entry)) (k : List ℕ) → Has k (flat_map keys_of runs) → Has k (rising_keys runs)
rising_has runs k has = subst (Has k) (sym (rising_is_put runs)) (puts_have k [] (flat_map keys_of runs) (inr has))

pub each_rising : (P : List ℕ → Type 0) (runs : List (List Entry)) → Each P (flat_map keys_of runs) → Each P (rising_keys runs)
each_rising P runs each =
    rising_each P runs (each_as (λ (entries : List Entry). Each P (keys_of entries)) (Each (λ (entry : Entry). P entry.key))
    (λ entries keys. map_each P (λ (entry : Entry). entry.key) entries keys) runs (flat_map_each P keys_of runs each))

-- a key of rising ones that is at most each of them is the first
pub first_is : (k : List ℕ) (keys : List (List ℕ)) → Rise keys → Has k keys → Each (λ key. at_most k key ≡ true) keys → (rest : List (List ℕ)) × (keys ≡ k ∷ rest)
first_is k [] rise has each = absurd has
first_is k (key ∷ keys) rise (inl here) each = (keys, ap (λ one. one ∷ keys) here)
first_is k (key ∷ keys) rise (inr there) each =
    absurd (false≢true (sym (below_not key k (each_has (λ one. below key one ≡ true) k keys rise.0 there)) ∙ each.0))
