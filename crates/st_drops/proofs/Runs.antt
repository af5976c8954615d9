-- The ranges of dropping, a lower range or a gap between lower ranges at a time.
use Rattle.std.proofs.Common.{◌≡◌, ℕ, Bool, true, false, cond, not, ◌⊎◌, List, [], ◌∷◌, filter, refl, sym, ap, subst, ◌∙◌, inl, inr}
use Rattle.std.specs.List.{list_any, AllByRecursion as Each}
use Rattle.std.proofs.lemmas.Bool.{false≢true}
use Rattle.st_base.specs.Bytes.{at_most, below}
use Rattle.st_base.specs.Range.{meet}
use Rattle.st_base.specs.declared.entry.KeyRange.{KeyRange}
use Rattle.base_laws.proofs.Keys.{at_most_trans, below_at_most, below_not}
use Rattle.base_laws.proofs.Lists.{each_as, filter_whole}
use Rattle.st_order.proofs.Least.{Has}
use Rattle.job_model.specs.Drops.{covers, drop_runs, go_on}
use Rattle.job_laws.proofs.Rising.{Rise}
use Rattle.st_drops.proofs.Lists.{each_has}

abbrev pub range_to : List ℕ → List ℕ → KeyRange
range_to first last = record { first = first; last = last }

module _ (lower : List KeyRange) where
  -- whether a lower range lies between two keys
  abbrev pub part : List ℕ → List ℕ → Bool
  part last key = list_any (meet (range_to last key)) lower

  -- ---- keys that lie in lower ranges may be left out

  module _ (test : List ℕ → Bool) where
    abbrev Covered : List ℕ → Type 0
    Covered key = test key ≡ false → covers lower key ≡ true

    go_on_skips : (first last : List ℕ) (keys : List (List ℕ)) → Each Covered keys → go_on lower first last keys ≡ go_on lower first last (filter test keys)
    go_on_skips first last [] each = refl
    go_on_skips first last (key ∷ keys) each =
        step (test key) refl (go_on_skips first last keys each.1) (go_on_skips key key keys each.1) (go_on_skips first key keys each.1)
      where
        step : (b : Bool) → test key ≡ b
            → go_on lower first last keys ≡ go_on lower first last (filter test keys)
            → go_on lower key key keys ≡ go_on lower key key (filter test keys)
            → go_on lower first key keys ≡ go_on lower first key (filter test keys)
            → go_on lower first last (key ∷ keys) ≡ go_on lower first last (cond b (key ∷ filter test keys) (filter test keys))
        step true is stay anew on =
            ap (λ ranges. cond (covers lower key) ranges (cond (part last key) (range_to first last ∷ go_on lower key key keys) (go_on lower first key keys))) stay
            ∙ ap (λ ranges. cond (covers lower key) (go_on lower first last (filter test keys)) (cond (part last key) (range_to first last ∷ ranges) (go_on lower first key keys))) anew
            ∙ ap (λ ranges. cond (covers lower key) (go_on lower first last (filter test keys)) (cond (part last key) (range_to first last ∷ go_on lower key key (filter test keys)) ranges)) on
        step false is stay anew on =
            ap (λ b. cond b (go_on lower first last keys) (cond (part last key) (range_to first last ∷ go_on lower key key keys) (go_on lower first key keys))) (each.0 is) ∙ stay

    pub skips : (keys : List (List ℕ)) → Each Covered keys → drop_runs lower keys ≡ drop_runs lower (filter test keys)
    skips [] each = refl
    skips (key ∷ keys) each = step (test key) refl (skips keys each.1) (go_on_skips key key keys each.1)
      where
        step : (b : Bool) → test key ≡ b → drop_runs lower keys ≡ drop_runs lower (filter test keys) → go_on lower key key keys ≡ go_on lower key key (filter test keys)
            → drop_runs lower (key ∷ keys) ≡ drop_runs lower (cond b (key ∷ filter test keys) (filter test keys))
        step true is stay on =
            ap (λ ranges. cond (covers lower key) ranges (go_on lower key key keys)) stay
            ∙ ap (λ ranges. cond (covers lower key) (drop_runs lower (filter test keys)) ranges) on
        step false is stay on = ap (λ b. cond b (drop_runs lower keys) (go_on lower key key keys)) (each.0 is) ∙ stay

  -- ---- the keys of a gap are one range

  module _ (inside outside : List ℕ → Bool) (flips : (key : List ℕ) → outside key ≡ not (inside key)) (k : List ℕ)
      (clear : (key : List ℕ) → at_most k key ≡ true → inside key ≡ true → covers lower key ≡ false)
      (free : (one key : List ℕ) → at_most k one ≡ true → inside key ≡ true → part one key ≡ false)
      (parts : (one key : List ℕ) → inside one ≡ true → inside key ≡ false → part one key ≡ true)
      (falls : (one key : List ℕ) → inside one ≡ false → below one key ≡ true → inside key ≡ false) where
    abbrev Out : List ℕ → Type 0
    Out key = inside key ≡ false

    -- behind the gap another range begins
    parted : (first last : List ℕ) (keys : List (List ℕ)) → inside last ≡ true → Each Out keys → go_on lower first last keys ≡ range_to first last ∷ drop_runs lower keys
    parted first last [] here each = refl
    parted first last (key ∷ keys) here each = step (covers lower key) (part last key) (parts last key here each.0) (parted first last keys here each.1)
      where
        step : (b c : Bool) → c ≡ true → go_on lower first last keys ≡ range_to first last ∷ drop_runs lower keys
            → cond b (go_on lower first last keys) (cond c (range_to first last ∷ go_on lower key key keys) (go_on lower first key keys))
            ≡ range_to first last ∷ cond b (drop_runs lower keys) (go_on lower key key keys)
        step true c e rest = rest
        step false true e rest = refl
        step false false e rest = absurd (false≢true e)

    all_out : (key : List ℕ) (keys : List (List ℕ)) → Rise (key ∷ keys) → Out key → Each Out (key ∷ keys)
    all_out key keys rise out = (out, each_as (λ one. below key one ≡ true) Out (λ one less. falls key one out less) keys rise.0)

    pub gap : (now last : List ℕ) (keys : List (List ℕ)) → Rise (now ∷ keys) → at_most k now ≡ true → inside now ≡ true
        → Each (λ key. inside key ≡ true → at_most key last ≡ true) keys → (last ≡ now) ⊎ Has last keys → inside last ≡ true
        → go_on lower k now keys ≡ range_to k last ∷ drop_runs lower (filter outside keys)
    gap now last [] rise from here each (inl is) within = ap (λ one. range_to k one ∷ []) (sym is)
    gap now last [] rise from here each (inr has) within = absurd has
    gap now last (key ∷ keys) rise from here each has within =
        step (inside key) refl has (λ more in_gap. gap key last keys rise.1 (at_most_trans k now key from (below_at_most now key rise.0.0)) in_gap each.1 more within)
      where
        on : Bool → Bool → List KeyRange
        on b c = cond b (go_on lower k now keys) (cond c (range_to k now ∷ go_on lower key key keys) (go_on lower k key keys))

        -- the last one stands behind this key
        later : (last ≡ now) ⊎ Has last (key ∷ keys) → inside key ≡ true → (last ≡ key) ⊎ Has last keys
        later (inl is) in_gap = absurd (false≢true (sym (below_not now key rise.0.0) ∙ subst (λ one. at_most key one ≡ true) is (each.0 in_gap)))
        later (inr (inl is)) in_gap = inl (sym is)
        later (inr (inr there)) in_gap = inr there

        -- the last one is the one before
        ends : (last ≡ now) ⊎ Has last (key ∷ keys) → Each Out (key ∷ keys) → last ≡ now
        ends (inl is) out = is
        ends (inr has) out = absurd (false≢true (sym (each_has Out last (key ∷ keys) out has) ∙ within))

        kept : (keys : List (List ℕ)) → Each Out keys → filter outside keys ≡ keys
        kept keys out = filter_whole outside keys (each_as Out (λ one. outside one ≡ true) (λ one e. flips one ∙ ap not e) keys out)

        step : (b : Bool) → inside key ≡ b → (last ≡ now) ⊎ Has last (key ∷ keys)
            → ((last ≡ key) ⊎ Has last keys → inside key ≡ true → go_on lower k key keys ≡ range_to k last ∷ drop_runs lower (filter outside keys))
            → go_on lower k now (key ∷ keys) ≡ range_to k last ∷ drop_runs lower (filter outside (key ∷ keys))
        step true e has rest =
            ap (λ b. on b (part now key)) (clear key (at_most_trans k now key from (below_at_most now key rise.0.0)) e)
            ∙ ap (on false) (free now key from e)
            ∙ rest (later has e) e
            ∙ ap (λ b. range_to k last ∷ drop_runs lower (cond b (key ∷ filter outside keys) (filter outside keys))) (sym (flips key ∙ ap not e))
        step false e has rest =
            let out : Each Out (key ∷ keys) = all_out key keys rise.1 e in
            parted k now (key ∷ keys) here out
            ∙ ap (λ one. range_to k one ∷ drop_runs lower (key ∷ keys)) (sym (ends has out))
            ∙ ap (λ rest. range_to k last ∷ drop_runs lower rest) (sym (kept (key ∷ keys) out))
