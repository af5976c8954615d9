use Rattle.std.proofs.Common.{List, ℕ, ◌≡◌, ◌+◌, ◌-◌, take, None, true, false, refl, sym, ap, subst, ◌∙◌, inl, inr, arith}
use Rattle.st_base.specs.Bytes.{below}
use Rattle.st_base.specs.Range.{keys_of}
use Rattle.st_base.specs.Rows.{entry_of}
use Rattle.st_base.specs.declared.entry.Entry.{Entry}
use Rattle.base_laws.proofs.Keys.{at_most_itself, below_at_most, not_below}
use Rattle.st_drops.specs.Ends.{IsRaised, is_before_end}
use Rattle.st_drops.proofs.Extremes.{key_fits, raised_last, raised_none}
use Rattle.st_drops.proofs.ends.raise_to.Goals as goal

pub returns-then-count-eq0 : goal.returns-then-count-eq0
returns-then-count-eq0 g c =
    subst (λ (n : ℕ). IsRaised (is_before_end None) (keys_of (take n (g.T.Rows.rows c.args.rows.now))) c.args.last.now c.args.last.now) (sym c.if-count-eq0.true)
    (raised_none (is_before_end None) c.args.last.now c.requires.last)

pub keep_and_add-requires-clause-room : goal.keep_and_add-requires-clause-room
keep_and_add-requires-clause-room g c = omega (arith, key_fits (g.T.Rows.rows c.args.rows.now) (c.args.count - 1) (entry_of c.at-entry.result) c.len-length.ensures.rows c.at-entry.ensures)

pub returns-then-below : goal.returns-then-below
returns-then-below g c =
    let entry : Entry = entry_of c.at-entry.result in
    let entries : List Entry = g.T.Rows.rows c.args.rows.now in
    subst (λ (new : List ℕ). IsRaised (is_before_end None) (keys_of (take c.args.count entries)) c.args.last.now new) (sym c.keep_and_add.ensures)
    (subst (λ (n : ℕ). IsRaised (is_before_end None) (keys_of (take n entries)) c.args.last.now entry.key) (let e : (c.args.count - 1) + 1 ≡ c.args.count = omega (arith, c.if-count-eq0.false) in e)
    (raised_last entries (c.args.count - 1) c.args.last.now entry.key entry c.len-length.ensures.rows (omega (arith, c.requires.count, c.if-count-eq0.false)) c.at-entry.ensures
    (key_fits entries (c.args.count - 1) entry c.len-length.ensures.rows c.at-entry.ensures) (inr refl)
    (below_at_most c.args.last.now entry.key (ap (λ (key : List ℕ). below key entry.key) (sym c.as_slice.ensures.value) ∙ sym c.below.ensures ∙ c.if-below.true)) (at_most_itself entry.key)))

pub returns-else-below : goal.returns-else-below
returns-else-below g c =
    let entry : Entry = entry_of c.at-entry.result in
    let entries : List Entry = g.T.Rows.rows c.args.rows.now in
    subst (λ (n : ℕ). IsRaised (is_before_end None) (keys_of (take n entries)) c.args.last.now c.args.last.now) (let e : (c.args.count - 1) + 1 ≡ c.args.count = omega (arith, c.if-count-eq0.false) in e)
    (raised_last entries (c.args.count - 1) c.args.last.now c.args.last.now entry c.len-length.ensures.rows (omega (arith, c.requires.count, c.if-count-eq0.false)) c.at-entry.ensures
    c.requires.last (inl refl) (at_most_itself c.args.last.now)
    (not_below c.args.last.now entry.key (ap (λ (key : List ℕ). below key entry.key) (sym c.as_slice.ensures.value) ∙ sym c.below.ensures ∙ c.if-below.false)))
