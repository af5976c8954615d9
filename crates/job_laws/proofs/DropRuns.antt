-- The ranges where a compaction may drop tombstones.
use Rattle.std.proofs.Common.{◌≡◌, ℕ, Bool, true, false, cond, ◌&&◌, List, [], ◌∷◌, refl, sym, subst, ◌∙◌, inl, inr}
use Rattle.std.specs.Prelude.{IsTrue, IsFalse, fold, flat_map}
use Rattle.std.specs.List.{list_any, AllByRecursion as Each}
use Rattle.std.proofs.lemmas.Bool.{cases_Bool, and_from, and_parts, false≢true}
use Rattle.st_base.specs.Bytes.{at_most, below, same}
use Rattle.st_base.specs.declared.entry.Entry.{Entry}
use Rattle.st_base.specs.declared.entry.KeyRange.{KeyRange}
use Rattle.st_base.specs.Range.{is_in_range, meet, keys_of}
use Rattle.base_laws.proofs.Keys.{at_most_trans, below_at_most, not_at_most}
use Rattle.base_laws.proofs.Lists.{each_as, each_flat_map, each_map, none_any}
use Rattle.job_laws.specs.Laws.{RunsAreClear}
use Rattle.job_laws.proofs.Rightward.{from_the_left, join_run, put_key, runs_joined}
use Rattle.job_laws.proofs.Rising.{rising_is_put}
use Rattle.job_model.specs.Drops.{covers, drop_runs, rising_keys}

and_swaps : (x y : Bool) → (x && y) ≡ (y && x)
and_swaps true true = refl
and_swaps true false = refl
and_swaps false true = refl
and_swaps false false = refl

-- the range meets none of these
abbrev pub IsClear : List KeyRange → KeyRange → Type 0
IsClear lower run = Each (λ range. IsFalse (meet run range)) lower

-- a range whose first key isn't behind its last
abbrev pub IsProper : KeyRange → Type 0
IsProper range = at_most range.first range.last ≡ true

alone_clear : (lower : List KeyRange) (key : List ℕ) → covers lower key ≡ false → IsClear lower (record { first = key; last = key })
alone_clear lower key outside =
    each_as (λ range. is_in_range range key ≡ false) (λ range. IsFalse (meet (record { first = key; last = key }) range))
    (λ range e. and_swaps (at_most key range.last) (at_most range.first key) ∙ e) lower (none_any (λ range. is_in_range range key) lower outside)

-- what meets neither the gap nor the range behind it doesn't meet both joined
joined_clear : (key : List ℕ) (range lower : KeyRange) → IsProper lower → meet (record { first = key; last = range.first }) lower ≡ false → meet range lower ≡ false
    → meet (record { first = key; last = range.last }) lower ≡ false
joined_clear key range lower proper gap behind = elim (cases_Bool (meet (record { first = key; last = range.last }) lower)) [
  | inl meets ↦
      let p = and_parts (at_most key lower.last) (at_most lower.first range.last) meets in
      let high : at_most lower.first range.first ≡ false = second (at_most key lower.last) (at_most lower.first range.first) p.0 gap in
      let low : at_most range.first lower.last ≡ false = first (at_most range.first lower.last) (at_most lower.first range.last) p.1 behind in
      absurd (false≢true (sym high ∙ at_most_trans lower.first lower.last range.first proper (below_at_most lower.last range.first (not_at_most range.first lower.last low))))
  | inr not_so ↦ not_so
]
  where
    second : (x y : Bool) → x ≡ true → (x && y) ≡ false → y ≡ false
    second true y e f = f
    second false y e f = absurd cc

    first : (x y : Bool) → y ≡ true → (x && y) ≡ false → x ≡ false
    first true y e f = absurd (false≢true (sym f ∙ e))
    first false y e f = refl

both_clear : (key : List ℕ) (range : KeyRange) (lower : List KeyRange) → Each IsProper lower → Each (λ one. meet (record { first = key; last = range.first }) one ≡ false) lower → IsClear lower range
    → IsClear lower (record { first = key; last = range.last })
both_clear key range [] proper gap behind = tt
both_clear key range (one ∷ lower) proper gap behind = (joined_clear key range one proper.0 gap.0 behind.0, both_clear key range lower proper.1 gap.1 behind.1)

join_clear : (lower : List KeyRange) (key : List ℕ) (ranges : List KeyRange) → Each IsProper lower → covers lower key ≡ false → Each (IsClear lower) ranges → Each (IsClear lower) (join_run lower key ranges)
join_clear lower key [] proper outside clear = (alone_clear lower key outside, tt)
join_clear lower key (range ∷ ranges) proper outside clear = split (list_any (meet (record { first = key; last = range.first })) lower) refl
  where
    split : (b : Bool) → list_any (meet (record { first = key; last = range.first })) lower ≡ b
        → Each (IsClear lower) (cond b (record { first = key; last = key } ∷ range ∷ ranges) (record { first = key; last = range.last } ∷ ranges))
    split true e = (alone_clear lower key outside, clear)
    split false e = (both_clear key range lower proper (none_any (meet (record { first = key; last = range.first })) lower e) clear.0, clear.1)

joined_clear_all : (lower : List KeyRange) (keys : List (List ℕ)) → Each IsProper lower → Each (IsClear lower) (runs_joined lower keys)
joined_clear_all lower [] proper = tt
joined_clear_all lower (key ∷ keys) proper = split (joined_clear_all lower keys proper) (covers lower key) refl
  where
    split : Each (IsClear lower) (runs_joined lower keys) → (b : Bool) → covers lower key ≡ b → Each (IsClear lower) (cond b (runs_joined lower keys) (join_run lower key (runs_joined lower keys)))
    split rest true e = rest
    split rest false e = join_clear lower key (runs_joined lower keys) proper e rest

-- no lower range meets a run, where the lower ranges are proper
pub runs_are_clear : RunsAreClear
runs_are_clear lower keys proper = subst (Each (IsClear lower)) (sym (from_the_left lower keys)) (joined_clear_all lower keys proper)

-- ---- runs lie where their keys do

-- both ends lie in the range
abbrev pub HasEnds : KeyRange → KeyRange → Type 0
HasEnds range run = IsTrue (is_in_range range run.first && is_in_range range run.last)

join_ends : (range : KeyRange) (lower : List KeyRange) (key : List ℕ) (ranges : List KeyRange) → is_in_range range key ≡ true → Each (HasEnds range) ranges → Each (HasEnds range) (join_run lower key ranges)
join_ends range lower key [] within ends = (and_from (is_in_range range key) (is_in_range range key) within within, tt)
join_ends range lower key (run ∷ ranges) within ends = split (list_any (meet (record { first = key; last = run.first })) lower)
  where
    split : (b : Bool) → Each (HasEnds range) (cond b (record { first = key; last = key } ∷ run ∷ ranges) (record { first = key; last = run.last } ∷ ranges))
    split true = (and_from (is_in_range range key) (is_in_range range key) within within, ends)
    split false = (and_from (is_in_range range key) (is_in_range range run.last) within (and_parts (is_in_range range run.first) (is_in_range range run.last) ends.0).1, ends.1)

joined_within : (range : KeyRange) (lower : List KeyRange) (keys : List (List ℕ)) → Each (λ key. is_in_range range key ≡ true) keys → Each (HasEnds range) (runs_joined lower keys)
joined_within range lower [] each = tt
joined_within range lower (key ∷ keys) each = split (joined_within range lower keys each.1) (covers lower key)
  where
    split : Each (HasEnds range) (runs_joined lower keys) → (b : Bool) → Each (HasEnds range) (cond b (runs_joined lower keys) (join_run lower key (runs_joined lower keys)))
    split rest true = rest
    split rest false = join_ends range lower key (runs_joined lower keys) each.0 rest

pub runs_within : (range : KeyRange) (lower : List KeyRange) (keys : List (List ℕ)) → Each (λ key. is_in_range range key ≡ true) keys → Each (HasEnds range) (drop_runs lower keys)
runs_within range lower keys each = subst (Each (HasEnds range)) (sym (from_the_left lower keys)) (joined_within range lower keys each)

put_key_each : (P : List ℕ → Type 0) (keys : List (List ℕ)) (key : List ℕ) → Each P keys → P key → Each P (put_key keys key)
put_key_each P [] key each this = (this, tt)
put_key_each P (other ∷ others) key each this = split (same key other) (below key other) (put_key_each P others key each.1 this)
  where
    split : (b c : Bool) → Each P (put_key others key) → Each P (cond b (other ∷ others) (cond c (key ∷ other ∷ others) (other ∷ put_key others key)))
    split true c rest = each
    split false true rest = (this, each)
    split false false rest = (each.0, rest)

put_keys_each : (P : List ℕ → Type 0) (some keys : List (List ℕ)) → Each P some → Each P keys → Each P (fold put_key some keys)
put_keys_each P some [] each more = each
put_keys_each P some (key ∷ keys) each more = put_keys_each P (put_key some key) keys (put_key_each P some key each more.0) more.1

-- the rising keys of runs are keys of theirs
pub rising_each : (P : List ℕ → Type 0) (runs : List (List Entry)) → Each (Each (λ entry. P entry.key)) runs → Each P (rising_keys runs)
rising_each P runs each =
    subst (Each P) (sym (rising_is_put runs))
    (put_keys_each P [] (flat_map keys_of runs) tt
    (each_flat_map P keys_of runs (each_as (Each (λ entry. P entry.key)) (λ entries. Each P (keys_of entries)) (λ entries keys. each_map P (λ entry. entry.key) entries keys) runs each)))

-- why the lower ranges must be proper: a range from 5 to 1 meets neither 1..1, 3..3 nor what lies between, but it meets 1..6
abbrev one_byte : ℕ → ℕ → KeyRange
one_byte first last = record { first = first ∷ []; last = last ∷ [] }

row_improper : drop_runs (one_byte 5 1 ∷ []) ((1 ∷ []) ∷ (3 ∷ []) ∷ (6 ∷ []) ∷ []) ≡ one_byte 1 6 ∷ []
row_improper = refl

row_improper_meets : meet (one_byte 1 6) (one_byte 5 1) ≡ true
row_improper_meets = refl
