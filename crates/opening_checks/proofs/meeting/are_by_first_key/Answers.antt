use Rattle.std.proofs.Common.{◌≡◌, true, false, sym, ap, ◌∙◌}
use Rattle.std.proofs.lemmas.Bool.{false≢true}
use Rattle.st_version.specs.Held.{HeldView}
use Rattle.opening_checks.proofs.Touching.{any_amiss, none_amiss, one_amiss, rest_before, rest_pairs}
use Rattle.opening_checks.proofs.meeting.are_by_first_key.Goals as goal

pub returns-then-any_amiss : goal.returns-then-any_amiss
returns-then-any_amiss g c =
    let some : any_amiss c.in-Some.first.now.value.table c.in-Some.others.now ≡ true =
    ap (λ (held : HeldView). any_amiss held.table c.in-Some.others.now) (sym c.deref.ensures) ∙ sym c.any_amiss.ensures ∙ c.if-any_amiss.true in (
      (λ e. absurd (false≢true e)),
      (λ pairs. absurd (one_amiss c.in-Some.first.now.value.table c.in-Some.others.now some
          (rest_pairs c.args.tables.now c.loop-first.left.now c.in-Some.others.now c.in-Some.first.now c.in-Some.ensures.cases.0 c.loop-first.invariant.rest pairs).0)),
    )

pub loop-first-preserved : goal.loop-first-preserved
loop-first-preserved g c =
    let none : any_amiss c.in-Some.first.now.value.table c.in-Some.others.now ≡ false =
    ap (λ (held : HeldView). any_amiss held.table c.in-Some.others.now) (sym c.deref.ensures) ∙ sym c.any_amiss.ensures ∙ c.if-any_amiss.false in
    record {
      all = rest_before c.args.tables.now c.loop-first.left.now c.in-Some.others.now c.in-Some.first.now c.in-Some.ensures.cases.0 (none_amiss c.in-Some.first.now.value.table c.in-Some.others.now none) c.loop-first.invariant.all;
      rest = λ pairs. (rest_pairs c.args.tables.now c.loop-first.left.now c.in-Some.others.now c.in-Some.first.now c.in-Some.ensures.cases.0 c.loop-first.invariant.rest pairs).1;
    }
