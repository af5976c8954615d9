-- Keys and ranges taken one by one from the right: another way to the rising keys and to the ranges of dropping, by which
-- what holds of them is told.
use Rattle.std.proofs.Common.{◌≡◌, ℕ, Bool, true, false, cond, List, [], ◌∷◌, refl, sym, ap, ◌∙◌}
use Rattle.std.specs.List.{list_any}
use Rattle.st_base.specs.Bytes.{below, same}
use Rattle.st_base.specs.Range.{meet}
use Rattle.st_base.specs.declared.entry.KeyRange.{KeyRange}
use Rattle.job_model.specs.Drops.{covers, drop_runs, go_on}

-- a key among rising ones, once
abbrev pub put_key : List (List ℕ) → List ℕ → List (List ℕ)
put_key [] key = key ∷ []
put_key (other ∷ others) key = cond (same key other) (other ∷ others) (cond (below key other) (key ∷ other ∷ others) (other ∷ put_key others key))

-- a range from the key on joins the first of the ranges behind it, where no lower range lies between
abbrev pub join_run : List KeyRange → List ℕ → List KeyRange → List KeyRange
join_run lower key [] = record { first = key; last = key } ∷ []
join_run lower key (range ∷ ranges) =
    cond (list_any (meet (record { first = key; last = range.first })) lower) (record { first = key; last = key } ∷ range ∷ ranges) (record { first = key; last = range.last } ∷ ranges)

-- the ranges of dropping, from the right
abbrev pub runs_joined : List KeyRange → List (List ℕ) → List KeyRange
runs_joined lower [] = []
runs_joined lower (key ∷ keys) = cond (covers lower key) (runs_joined lower keys) (join_run lower key (runs_joined lower keys))

module _ (lower : List KeyRange) where
  abbrev part : List ℕ → List ℕ → Bool
  part last key = list_any (meet (record { first = last; last = key })) lower

  -- a run from `first` to `last` in front of the ranges behind it
  abbrev join_from : List ℕ → List ℕ → List KeyRange → List KeyRange
  join_from first last [] = record { first = first; last = last } ∷ []
  join_from first last (range ∷ ranges) =
      cond (part last range.first) (record { first = first; last = last } ∷ range ∷ ranges) (record { first = first; last = range.last } ∷ ranges)

  same_join : (key : List ℕ) (ranges : List KeyRange) → join_run lower key ranges ≡ join_from key key ranges
  same_join key [] = refl
  same_join key (range ∷ ranges) = refl

  join_more : (first last key : List ℕ) (ranges : List KeyRange) → cond (part last key) (record { first = first; last = last } ∷ join_from key key ranges) (join_from first key ranges) ≡ join_from first last (join_from key key ranges)
  join_more first last key [] = refl
  join_more first last key (range ∷ ranges) = step (part key range.first)
    where
      step : (b : Bool) → cond (part last key) (record { first = first; last = last } ∷ cond b (record { first = key; last = key } ∷ range ∷ ranges) (record { first = key; last = range.last } ∷ ranges))
          (cond b (record { first = first; last = key } ∷ range ∷ ranges) (record { first = first; last = range.last } ∷ ranges))
          ≡ join_from first last (cond b (record { first = key; last = key } ∷ range ∷ ranges) (record { first = key; last = range.last } ∷ ranges))
      step true = refl
      step false = refl

  go_on_is : (first last : List ℕ) (keys : List (List ℕ)) → go_on lower first last keys ≡ join_from first last (runs_joined lower keys)
  go_on_is first last [] = refl
  go_on_is first last (key ∷ keys) = step (covers lower key) (go_on_is first last keys) (go_on_is key key keys) (go_on_is first key keys)
    where
      step : (b : Bool) → go_on lower first last keys ≡ join_from first last (runs_joined lower keys) → go_on lower key key keys ≡ join_from key key (runs_joined lower keys) → go_on lower first key keys ≡ join_from first key (runs_joined lower keys)
          → cond b (go_on lower first last keys) (cond (part last key) (record { first = first; last = last } ∷ go_on lower key key keys) (go_on lower first key keys))
          ≡ join_from first last (cond b (runs_joined lower keys) (join_run lower key (runs_joined lower keys)))
      step true stay new on = stay
      step false stay new on =
          ap (λ rest. cond (part last key) (record { first = first; last = last } ∷ rest) (go_on lower first key keys)) new
          ∙ ap (λ rest. cond (part last key) (record { first = first; last = last } ∷ join_from key key (runs_joined lower keys)) rest) on
          ∙ join_more first last key (runs_joined lower keys)
          ∙ ap (join_from first last) (sym (same_join key (runs_joined lower keys)))

  pub from_the_left : (keys : List (List ℕ)) → drop_runs lower keys ≡ runs_joined lower keys
  from_the_left [] = refl
  from_the_left (key ∷ keys) = step (covers lower key) (from_the_left keys)
    where
      step : (b : Bool) → drop_runs lower keys ≡ runs_joined lower keys → cond b (drop_runs lower keys) (go_on lower key key keys) ≡ cond b (runs_joined lower keys) (join_run lower key (runs_joined lower keys))
      step true e = e
      step false e = go_on_is key key keys ∙ sym (same_join key (runs_joined lower keys))
