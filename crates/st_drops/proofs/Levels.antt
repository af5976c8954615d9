-- The ranges of the tables below a level, level after level.
use Rattle.std.proofs.Common.{◌≡◌, ℕ, zero, suc, ◌+◌, ◌-◌, ◌<◌, ◌≤◌, List, [], ◌∷◌, ◌++◌, length, get_or, map, take, drop, refl, sym, ap, ◌∙◌, arith}
use Rattle.std.proofs.lemmas.List.{flat_map_more, get_or-drop, length-drop, map-append, take_more}
use Rattle.std.proofs.lemmas.Option.{unwrap_or-slice_get}
use Rattle.st_base.specs.Range.{range_of}
use Rattle.st_base.specs.declared.entry.Entry.{Entry}
use Rattle.st_base.specs.declared.entry.KeyRange.{KeyRange}
use Rattle.job_model.specs.Level.{runs_in}
use Rattle.st_level.specs.Stops.{runs_at_level}

-- the ranges of the tables of levels from one on, up to another
pub ranges_between : List (List (List Entry)) → ℕ → ℕ → List KeyRange
ranges_between levels from to = map range_of (runs_in (take (to - from) (drop from levels)))

pub none_between : (levels : List (List (List Entry))) (from : ℕ) → ranges_between levels from from ≡ []
unfolding ranges_between
none_between levels from = ap (λ n. map range_of (runs_in (take n (drop from levels)))) (let e : from - from ≡ 0 = omega arith in e)

whole : {X : Type 0} (xs : List X) (n : ℕ) → length xs ≤ n → take n xs ≡ xs
whole [] zero le = refl
whole [] (suc n) le = refl
whole (x ∷ xs) zero le = absurd (omega arith)
whole (x ∷ xs) (suc n) le = ap (λ rest. x ∷ rest) (whole xs n (omega arith))

pub all_between : (levels : List (List (List Entry))) (from to : ℕ) → length levels ≤ to → ranges_between levels from to ≡ map range_of (runs_in (drop from levels))
unfolding ranges_between
all_between levels from to le = ap (λ those. map range_of (runs_in those)) (whole (drop from levels) (to - from) (omega (arith, length-drop from levels)))

pub one_between : (levels : List (List (List Entry))) (from to : ℕ) → from ≤ to → to < length levels
    → ranges_between levels from (to + 1) ≡ ranges_between levels from to ++ map range_of (runs_at_level levels to)
unfolding ranges_between
one_between levels from to le lt =
    let lower : List (List (List Entry)) = drop from levels in
    let at : ℕ = to - from in
    let here : List (List Entry) = get_or lower at [] in
    ap (λ n. map range_of (runs_in (take n lower))) (let e : (to + 1) - from ≡ (to - from) + 1 = omega arith in e)
    ∙ ap (λ those. map range_of (runs_in those)) (take_more lower at [] (omega (arith, length-drop from levels)))
    ∙ ap (map range_of) (sym (flat_map_more (λ (level : List (List Entry)). level) [] (take at lower) here))
    ∙ map-append range_of (runs_in (take at lower)) here
    ∙ ap (λ (those : List (List Entry)). map range_of (runs_in (take at lower)) ++ map range_of those)
    (get_or-drop from levels at [] ∙ ap (λ n. get_or levels n []) (let e : from + (to - from) ≡ to = omega arith in e) ∙ sym (unwrap_or-slice_get levels to []))
