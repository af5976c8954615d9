use Rattle.std.proofs.Common.{◌≡◌, true, false, sym, ap, ◌∙◌}
use Rattle.std.specs.List.{list_any}
use Rattle.std.proofs.lemmas.Bool.{false≢true}
use Rattle.st_base.specs.Range.{meet}
use Rattle.core_model.specs.Picture.{table_range}
use Rattle.st_version.specs.Held.{HeldView, SharedTable}
use Rattle.st_version.proofs.Apart.{none_meets, one_meets, rest_all, rest_pairs}
use Rattle.st_version.proofs.fitting.are_apart.Goals as goal

pub returns-then-meets_any : goal.returns-then-meets_any
returns-then-meets_any g c =
    let some : list_any (λ (other : SharedTable). meet (table_range c.in-Some.first.now.value.table) (table_range other.value.table)) c.in-Some.others.now ≡ true =
    ap (λ (held : HeldView). list_any (λ (other : SharedTable). meet (table_range held.table) (table_range other.value.table)) c.in-Some.others.now) (sym c.deref.ensures) ∙ sym c.meets_any.ensures ∙ c.if-meets_any.true in (
      (λ e. absurd (false≢true e)),
      (λ pairs. absurd (one_meets c.in-Some.first.now.value.table c.in-Some.others.now some
          (rest_pairs c.args.tables.now c.loop-first.left.now c.in-Some.others.now c.in-Some.first.now c.in-Some.ensures.cases.0 c.loop-first.invariant.rest pairs).0)),
    )

pub loop-first-preserved : goal.loop-first-preserved
loop-first-preserved g c =
    let none : list_any (λ (other : SharedTable). meet (table_range c.in-Some.first.now.value.table) (table_range other.value.table)) c.in-Some.others.now ≡ false =
    ap (λ (held : HeldView). list_any (λ (other : SharedTable). meet (table_range held.table) (table_range other.value.table)) c.in-Some.others.now) (sym c.deref.ensures) ∙ sym c.meets_any.ensures ∙ c.if-meets_any.false in
    record {
      all = rest_all c.args.tables.now c.loop-first.left.now c.in-Some.others.now c.in-Some.first.now c.in-Some.ensures.cases.0 (none_meets c.in-Some.first.now.value.table c.in-Some.others.now none) c.loop-first.invariant.all;
      rest = λ pairs. (rest_pairs c.args.tables.now c.loop-first.left.now c.in-Some.others.now c.in-Some.first.now c.in-Some.ensures.cases.0 c.loop-first.invariant.rest pairs).1;
    }
