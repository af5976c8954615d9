use Rattle.std.proofs.Common.{List, ℕ, Bool, ◌≡◌, true, false, flat_map, map, subst}
use Rattle.std.specs.List.{AllByRecursion as Each}
use Rattle.st_base.specs.Bytes.{below}
use Rattle.st_base.specs.Range.{keys_of}
use Rattle.st_base.specs.declared.entry.Entry.{Entry}
use Rattle.st_base.specs.declared.entry.KeyRange.{KeyRange}
use Rattle.job_model.specs.Drops.{lower_ranges_in}
use Rattle.st_level.specs.Stops.{runs_of_levels}
use Rattle.st_drops.specs.Covers.{CoversNoneBefore, CoversThrough, EndBelow}
use Rattle.st_drops.specs.Ends.{FindsLeastFrom, IsLeastFrom}
use Rattle.st_drops.proofs.Turns.{turn_before, turn_behind, turn_over, turn_within}
use Rattle.st_drops.proofs.drops.Search.turn.Goals as goal

no_key : (bound seen : List ℕ) (keys : List (List ℕ)) (found : Bool) (key : List ℕ) → seen ≡ bound → found ≡ false → FindsLeastFrom seen keys found key → Each (λ one. below one bound ≡ true) keys
no_key bound seen keys found key at is finds = subst (λ b. FindsLeastFrom bound keys b key) is (subst (λ one. FindsLeastFrom one keys found key) at finds)

least : (bound seen : List ℕ) (keys : List (List ℕ)) (found : Bool) (key : List ℕ) → seen ≡ bound → found ≡ true → FindsLeastFrom seen keys found key → IsLeastFrom bound keys key
least bound seen keys found key at is finds = subst (λ b. FindsLeastFrom bound keys b key) is (subst (λ one. FindsLeastFrom one keys found key) at finds)

pub returns-then-not-least_from : goal.returns-then-not-least_from
returns-then-not-least_from g c =
    let runs : List (List Entry) = map g.T.Rows.rows c.args.inputs.now in
    turn_over (lower_ranges_in (runs_of_levels g.U.Rows.rows c.args.levels.now) c.args.level) runs c.args.self.now.bound c.args.drops.now.items c.args.self.now.bound
    (no_key c.args.self.now.bound c.as_slice.result.now (flat_map keys_of runs) c.least_from.result c.least_from.new.key c.as_slice.ensures c.if-not-least_from.true c.least_from.ensures)

pub returns-in_ok-go_behind-in-Through : goal.returns-in_ok-go_behind-in-Through
returns-in_ok-go_behind-in-Through g c =
    let runs : List (List Entry) = map g.T.Rows.rows c.args.inputs.now in
    let lower : List KeyRange = lower_ranges_in (runs_of_levels g.U.Rows.rows c.args.levels.now) c.args.level in
    turn_within lower runs c.args.self.now.bound c.args.drops.now.items c.least_from.new.key
    (least c.args.self.now.bound c.as_slice.result.now (flat_map keys_of runs) c.least_from.result c.least_from.new.key c.as_slice.ensures c.if-not-least_from.false c.least_from.ensures)
    c.in-Through.last.now c.go_behind.new.self.bound
    (subst (λ (key : List ℕ). CoversThrough lower key c.in-Through.last.now) c.as_slice-2.ensures.value c.in-Through.ensures)
    c.in_ok-go_behind-in-Through.ensures

pub returns-in_ok-go_to-in-NoneBefore : goal.returns-in_ok-go_to-in-NoneBefore
returns-in_ok-go_to-in-NoneBefore g c =
    let runs : List (List Entry) = map g.T.Rows.rows c.args.inputs.now in
    let lower : List KeyRange = lower_ranges_in (runs_of_levels g.U.Rows.rows c.args.levels.now) c.args.level in
    turn_before lower runs c.args.self.now.bound c.args.drops.now.items c.least_from.new.key
    (least c.args.self.now.bound c.as_slice.result.now (flat_map keys_of runs) c.least_from.result c.least_from.new.key c.as_slice.ensures c.if-not-least_from.false c.least_from.ensures)
    c.in-NoneBefore.end.now c.go_to.new.self.bound c.in_ok-range_to-in-NoneBefore.field-0 c.push.new.self.items
    (subst (λ (key : List ℕ). CoversNoneBefore lower key c.in-NoneBefore.end.now) c.as_slice-2.ensures.value c.in-NoneBefore.ensures)
    c.in_ok-range_to-in-NoneBefore.ensures.first c.in_ok-range_to-in-NoneBefore.ensures.last c.in_ok-push-in-NoneBefore.ensures.items c.in_ok-go_to-in-NoneBefore.ensures

pub returns-in_ok-push-in-Never : goal.returns-in_ok-push-in-Never
returns-in_ok-push-in-Never g c =
    let runs : List (List Entry) = map g.T.Rows.rows c.args.inputs.now in
    let lower : List KeyRange = lower_ranges_in (runs_of_levels g.U.Rows.rows c.args.levels.now) c.args.level in
    turn_behind lower runs c.args.self.now.bound c.args.drops.now.items c.least_from.new.key
    (least c.args.self.now.bound c.as_slice.result.now (flat_map keys_of runs) c.least_from.result c.least_from.new.key c.as_slice.ensures c.if-not-least_from.false c.least_from.ensures)
    c.args.self.now.bound c.in_ok-range_to-in-Never.field-0 c.push-in-Never.new.self.items
    (subst (λ (key : List ℕ). EndBelow lower key) c.as_slice-2.ensures.value c.in-Never.ensures)
    c.in_ok-range_to-in-Never.ensures.first c.in_ok-range_to-in-Never.ensures.last c.in_ok-push-in-Never.ensures.items
