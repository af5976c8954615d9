use Rattle.std.proofs.Common.{List, ℕ, ◌≤◌, ◌≡◌, ◌||◌, true, length, get_or, sym, ap, subst, ◌∙◌, arith}
use Rattle.std.specs.Prelude.{slice_get, Some}
use Rattle.st_base.specs.Rows.{AreRows, Fits, entry_of}
use Rattle.st_base.specs.declared.entry.Entry.{Entry}
use Rattle.st_order.specs.Order.{between}
use Rattle.st_order.proofs.Halves.{each_at, get_there}
use Rattle.st_level.specs.Found.{held_key, is_lesser}
use Rattle.st_level.proofs.LeastOfRun.{lesser_kept, lesser_none, lesser_taken}
use Rattle.st_level.proofs.least.lesser_in.Goals as goal

pub returns-in_default-clause-key : goal.returns-in_default-clause-key
returns-in_default-clause-key g c = lesser_none (between c.args.first.now c.args.last.now) (g.T.Rows.rows c.args.rows.now) c.args.found c.args.spare.now c.in_default.ensures

pub returns-then-not-is_lesser-clause-key : goal.returns-then-not-is_lesser-clause-key
returns-then-not-is_lesser-clause-key g c =
    lesser_kept (between c.args.first.now c.args.last.now) (g.T.Rows.rows c.args.rows.now) c.len-length.ensures.rows.ordered c.in-Some.index (entry_of c.at-entry.result) c.in-Some.ensures c.at-entry.ensures
    c.args.found c.args.spare.now (ap (λ (key : List ℕ). is_lesser (held_key c.args.found key) c.at-entry.result.key.now) (sym c.as_slice.ensures.value) ∙ sym c.is_lesser.ensures ∙ c.if-not-is_lesser.true)

room : (entries : List Entry) (i : ℕ) (entry : Entry) → AreRows entries → slice_get entries i ≡ Some entry → length entry.key ≤ 65535
room entries i entry are at =
    let here = get_there entries i entry entry at in
    let fits : Fits (get_or entries i entry) = each_at Fits entries i entry are.within here.0 in
    subst (λ (x : Entry). length x.key ≤ 65535) here.1 fits.key

pub keep_and_add-requires-clause-room : goal.keep_and_add-requires-clause-room
keep_and_add-requires-clause-room g c = omega (arith, room (g.T.Rows.rows c.args.rows.now) c.in-Some.index (entry_of c.at-entry.result) c.len-length.ensures.rows c.at-entry.ensures)

pub returns-clause-key : goal.returns-clause-key
returns-clause-key g c =
    ap (held_key (c.args.found || true)) c.keep_and_add.ensures
    ∙ lesser_taken (between c.args.first.now c.args.last.now) (g.T.Rows.rows c.args.rows.now) c.len-length.ensures.rows.ordered c.in-Some.index (entry_of c.at-entry.result) c.in-Some.ensures c.at-entry.ensures
    c.args.found c.args.spare.now (ap (λ (key : List ℕ). is_lesser (held_key c.args.found key) c.at-entry.result.key.now) (sym c.as_slice.ensures.value) ∙ sym c.is_lesser.ensures ∙ c.if-not-is_lesser.false)
