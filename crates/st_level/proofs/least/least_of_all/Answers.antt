use Rattle.std.proofs.Common.{List, Option, [], ℕ, ◌<◌, ◌||◌, is_some, length, map, refl, sym, ap, subst, ◌∙◌, arith}
use Rattle.std.proofs.lemmas.List.{length-map}
use Rattle.st_base.specs.declared.entry.Entry.{Entry}
use Rattle.st_order.specs.Order.{between}
use Rattle.st_order.proofs.Halves.{each_at}
use Rattle.st_order.proofs.Mapped.{mapped_there}
use Rattle.std.specs.Prelude.{IfSome}
use Rattle.st_level.specs.Found.{HasKeyAt}
use Rattle.st_level.proofs.LeastOfRun.{step_key, or_true, or_false, key_in}
use Rattle.st_level.proofs.least.least_of_all.Goals.{in-Some, in_default}
use Rattle.st_level.proofs.least.least_of_all.Goals as goal

pub loop-table-preserved : goal.loop-table-preserved
loop-table-preserved g c =
    let rows = g.T.Rows.rows in
    let runs : List (List Entry) = map rows c.args.tables.now in
    let i : ℕ = c.loop-table.table in
    let at = mapped_there rows c.args.tables.now i c.index-tables-table.result [] (omega arith) c.index-tables-table.is in
    let long : i < length runs = omega (arith, length-map c.args.tables.now rows) in
    elim c.match-lesser_in.branch [
      | in-Some w ↦ record {
        key = step_key (between c.args.first.now c.args.last.now) runs i (rows c.index-tables-table.result) c.loop-table.least c.is_some.result c.loop-table.spare c.lesser_in.new.spare c.lesser_in.result c.match-lesser_in.least
            long at c.is_some.ensures c.loop-table.invariant.key c.lesser_in.ensures.key
            (ap is_some w.least-is ∙ or_true (is_some c.loop-table.least) ∙ ap (λ (o : Option ℕ). is_some c.loop-table.least || is_some o) (sym w.in-Some.is));
        there = subst (λ (o : Option (ℕ × ℕ)). IfSome o (λ index. HasKeyAt runs index.0 index.1 c.lesser_in.new.spare)) (sym w.least-is)
            (key_in runs i w.in-Some.entry (rows c.index-tables-table.result) c.lesser_in.new.spare at w.in-Some.ensures.there);
      }
      | in_default w ↦ record {
        key = step_key (between c.args.first.now c.args.last.now) runs i (rows c.index-tables-table.result) c.loop-table.least c.is_some.result c.loop-table.spare c.lesser_in.new.spare c.lesser_in.result c.match-lesser_in.least
            long at c.is_some.ensures c.loop-table.invariant.key c.lesser_in.ensures.key
            (ap is_some w.least-is ∙ or_false (is_some c.loop-table.least) ∙ ap (λ (o : Option ℕ). is_some c.loop-table.least || is_some o) (sym w.in_default.is));
        there = subst (λ (o : Option (ℕ × ℕ)). IfSome o (λ index. HasKeyAt runs index.0 index.1 c.lesser_in.new.spare)) (sym w.least-is)
            (subst (λ (key : List ℕ). IfSome c.loop-table.least (λ index. HasKeyAt runs index.0 index.1 key)) (sym (w.in_default.ensures.kept refl)) c.loop-table.invariant.there);
      }
    ]
