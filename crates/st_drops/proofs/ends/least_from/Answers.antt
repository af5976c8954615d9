use Rattle.std.proofs.Common.{List, ℕ, [], ◌++◌, ◌<◌, flat_map, length, map, take, sym, subst, arith}
use Rattle.std.proofs.lemmas.List.{length-map}
use Rattle.st_base.specs.Range.{keys_of}
use Rattle.st_base.specs.declared.entry.Entry.{Entry}
use Rattle.st_order.proofs.Mapped.{mapped_there}
use Rattle.st_drops.specs.Ends.{FindsLeastFrom}
use Rattle.st_drops.proofs.Extremes.{keys_more}
use Rattle.st_drops.proofs.ends.least_from.Goals as goal

pub loop-rows-preserved : goal.loop-rows-preserved
loop-rows-preserved g c =
    let runs : List (List Entry) = map g.T.Rows.rows c.args.inputs.now in
    let i : ℕ = c.loop-rows.rows-index in
    let front : List (List ℕ) = flat_map keys_of (take i runs) in
    let long : i < length runs = omega (arith, length-map c.args.inputs.now g.T.Rows.rows) in
    subst (λ (keys : List (List ℕ)). FindsLeastFrom c.args.bound.now keys c.least_in-found.result c.least_in-found.new.key) (sym (keys_more runs i long))
    (subst (λ (run : List Entry). FindsLeastFrom c.args.bound.now (front ++ keys_of run) c.least_in-found.result c.least_in-found.new.key)
    (sym (mapped_there g.T.Rows.rows c.args.inputs.now i c.rows-item.result [] (omega arith) c.rows-item.is))
    (c.least_in-found.ensures front c.loop-rows.invariant))
