use Rattle.std.proofs.Common.{List, ◌+◌, subst, arith}
use Rattle.st_base.specs.declared.entry.Entry.{Entry}
use Rattle.st_version.specs.Held.{tables_of}
use Rattle.opening_checks.specs.Heads.{AreHeads}
use Rattle.opening_checks.specs.Walk.{walk_runs}
use Rattle.opening_checks.proofs.Along.{length_runs}
use Rattle.opening_checks.proofs.Taking.{heads_more, heads_none, take_whole}
use Rattle.opening_checks.proofs.unfallen.first_heads.Goals as goal

pub loop-index-init : goal.loop-index-init
loop-index-init g c =
    let runs = walk_runs (g.C.Rows.rows c.args.counted.now) (tables_of c.args.tables.now) in
    heads_more runs 0 c.no_heads-heads.result c.put_next.new.heads (let long = length_runs (g.C.Rows.rows c.args.counted.now) c.args.tables.now in omega (arith, long))
    (heads_none c.no_heads-heads.result c.no_heads-heads.ensures.order c.no_heads-heads.ensures.none) c.in_ok-put_next.ensures

pub loop-index-preserved : goal.loop-index-preserved
loop-index-preserved g c =
    let runs = walk_runs (g.C.Rows.rows c.args.counted.now) (tables_of c.args.tables.now) in
    heads_more runs (c.loop-index.index + 1) c.loop-index.heads c.put_next-in-loop-index.new.heads (let long = length_runs (g.C.Rows.rows c.args.counted.now) c.args.tables.now in omega (arith, long, c.loop-index-test.true))
    c.loop-index.invariant c.in_ok-put_next-2.ensures

pub returns : goal.returns
returns g c =
    let runs = walk_runs (g.C.Rows.rows c.args.counted.now) (tables_of c.args.tables.now) in
    subst (λ (some : List (List Entry)). AreHeads some c.loop-index.heads) (take_whole runs (c.loop-index.index + 1) (let long = length_runs (g.C.Rows.rows c.args.counted.now) c.args.tables.now in omega (arith, long, c.loop-index-test.false))) c.loop-index.invariant
