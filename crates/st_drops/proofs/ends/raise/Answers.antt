use Rattle.std.proofs.Common.{List, ℕ, Bool, [], ◌++◌, ◌<◌, flat_map, length, map, take, sym, subst, arith}
use Rattle.std.specs.Option.{option_copied}
use Rattle.std.proofs.lemmas.List.{length-map}
use Rattle.st_base.specs.Range.{keys_of}
use Rattle.st_base.specs.declared.entry.Entry.{Entry}
use Rattle.st_order.proofs.Mapped.{mapped_there}
use Rattle.st_drops.specs.Ends.{IsRaised, is_before_end}
use Rattle.st_drops.proofs.Extremes.{keys_more, raised_more, raised_none}
use Rattle.st_drops.proofs.ends.raise.Goals as goal

pub loop-rows-init : goal.loop-rows-init
loop-rows-init g c = raised_none (is_before_end (option_copied c.args.end)) c.args.last.now c.requires

pub loop-rows-preserved : goal.loop-rows-preserved
loop-rows-preserved g c =
    let runs : List (List Entry) = map g.T.Rows.rows c.args.inputs.now in
    let i : ℕ = c.loop-rows.rows-index in
    let front : List (List ℕ) = flat_map keys_of (take i runs) in
    let test : List ℕ → Bool = is_before_end (option_copied c.args.end) in
    let long : i < length runs = omega (arith, length-map c.args.inputs.now g.T.Rows.rows) in
    subst (λ (keys : List (List ℕ)). IsRaised test keys c.args.last.now c.raise_in.new.last) (sym (keys_more runs i long))
    (subst (λ (run : List Entry). IsRaised test (front ++ keys_of run) c.args.last.now c.raise_in.new.last)
    (sym (mapped_there g.T.Rows.rows c.args.inputs.now i c.rows-item.result [] (omega arith) c.rows-item.is))
    (raised_more test front (keys_of (g.T.Rows.rows c.rows-item.result)) c.args.last.now c.loop-rows.last c.raise_in.new.last c.loop-rows.invariant c.raise_in.ensures))
