use Rattle.std.proofs.Common.{List, ℕ, ◌≡◌, true, [], ◌∷◌, ◌++◌, map, refl, ap, ◌∙◌}
use Rattle.st_base.specs.Bytes.{at_most}
use Rattle.st_base.specs.declared.entry.KeyRange.{KeyRange}
use Rattle.base_laws.proofs.Lists.{each_all, filter_whole}
use Rattle.job_model.specs.Drops.{drop_runs, lower_ranges_in, rising_keys}
use Rattle.st_level.specs.Stops.{runs_of_levels}
use Rattle.st_drops.specs.Left.{left}
use Rattle.st_drops.proofs.drops.drop_ranges.Goals as goal

-- no bytes are at most every key
none_below : (key : List ℕ) → at_most [] key ≡ true
none_below [] = refl
none_below (x ∷ xs) = refl

pub loop-drops-init : goal.loop-drops-init
loop-drops-init g c =
    let keys : List (List ℕ) = rising_keys (map g.T.Rows.rows c.args.inputs.now) in
    let lower : List KeyRange = lower_ranges_in (runs_of_levels g.U.Rows.rows c.args.levels.now) c.args.level in
    ap (λ (items : List KeyRange). items ++ drop_runs lower (left c.in_ok-search.search.bound keys)) c.new-drops.ensures.items
    ∙ ap (λ (bound : List ℕ). drop_runs lower (left bound keys)) c.in_ok-search.ensures
    ∙ ap (drop_runs lower) (filter_whole (at_most []) keys (each_all (λ key. at_most [] key ≡ true) none_below keys))
