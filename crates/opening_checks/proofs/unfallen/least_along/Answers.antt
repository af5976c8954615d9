use Rattle.std.proofs.Common.{◌≡◌, ◌<◌, ◌&&◌, length, get_or, None, cond, ap, sym, ◌∙◌, arith, rules}
use Rattle.std.specs.Prelude.{nat_le, nat_lt}
use Rattle.std.proofs.lemmas.List.{get_or_default}
use Rattle.st_version.specs.Held.{tables_of}
use Rattle.opening_checks.specs.Least.{lesser_of}
use Rattle.opening_checks.specs.Walk.{follows}
use Rattle.opening_checks.proofs.Along.{along_begins, along_ends, fewer_at, length_runs, less_at, more_at, part_less, zeros_are, zeros_fit}
use Rattle.opening_checks.proofs.unfallen.least_along.Goals as goal

pub loop-head-init : goal.loop-head-init
loop-head-init g c =
    along_begins c.args.last c.args.upper (g.C.Rows.rows c.args.counted.now) (tables_of c.args.tables.now) c.in_ok-indexes.indexes.items c.in_ok-heads.heads c.new-passed.result c.know_parts.ensures
    (zeros_are (length c.args.tables.now) c.in_ok-indexes.indexes.items c.in_ok-indexes.ensures)
    (zeros_fit (length c.args.tables.now) c.in_ok-indexes.indexes.items c.in_ok-indexes.ensures ∙ sym (length_runs (g.C.Rows.rows c.args.counted.now) c.args.tables.now))
    c.in_ok-heads.ensures c.new-passed.ensures.key c.new-passed.ensures.low c.new-passed.ensures.least

pub index-index-requires : goal.index-index-requires
index-index-requires g c =
    let lt = part_less c.args.last c.args.upper (g.C.Rows.rows c.args.counted.now) (tables_of c.args.tables.now) c.loop-head.indexes.items c.loop-head.heads c.take.new.heads c.loop-head.passed c.loop-head.invariant c.in-Some.head.0 c.in-Some.head.1 c.in-Some.ensures in
    let fit = c.loop-head.invariant.fit in
    let within : c.in-Some.head.1 < length c.loop-head.indexes.items = omega (arith, lt, fit) in
    search rules

pub index_mut-requires : goal.index_mut-requires
index_mut-requires g c =
    let lt = part_less c.args.last c.args.upper (g.C.Rows.rows c.args.counted.now) (tables_of c.args.tables.now) c.loop-head.indexes.items c.loop-head.heads c.take.new.heads c.loop-head.passed c.loop-head.invariant c.in-Some.head.0 c.in-Some.head.1 c.in-Some.ensures in
    let fit = c.loop-head.invariant.fit in
    let within : c.in-Some.head.1 < length c.loop-head.indexes.items = omega (arith, lt, fit) in
    search rules

pub number_in-number-requires-clause-part : goal.number_in-number-requires-clause-part
number_in-number-requires-clause-part g c =
    let lt = part_less c.args.last c.args.upper (g.C.Rows.rows c.args.counted.now) (tables_of c.args.tables.now) c.loop-head.indexes.items c.loop-head.heads c.take.new.heads c.loop-head.passed c.loop-head.invariant c.in-Some.head.0 c.in-Some.head.1 c.in-Some.ensures in
    let long = length_runs (g.C.Rows.rows c.args.counted.now) c.args.tables.now in
    omega (arith, lt, long)

pub put_next-requires : goal.put_next-requires
put_next-requires g c =
    let lt = part_less c.args.last c.args.upper (g.C.Rows.rows c.args.counted.now) (tables_of c.args.tables.now) c.loop-head.indexes.items c.loop-head.heads c.take.new.heads c.loop-head.passed c.loop-head.invariant c.in-Some.head.0 c.in-Some.head.1 c.in-Some.ensures in
    let long = length_runs (g.C.Rows.rows c.args.counted.now) c.args.tables.now in
    omega (arith, lt, long)

pub number_in-number-requires-clause-index : goal.number_in-number-requires-clause-index
number_in-number-requires-clause-index g c =
    let lt = part_less c.args.last c.args.upper (g.C.Rows.rows c.args.counted.now) (tables_of c.args.tables.now) c.loop-head.indexes.items c.loop-head.heads c.take.new.heads c.loop-head.passed c.loop-head.invariant c.in-Some.head.0 c.in-Some.head.1 c.in-Some.ensures in
    let fit = c.loop-head.invariant.fit in
    less_at c.args.last c.args.upper (g.C.Rows.rows c.args.counted.now) (tables_of c.args.tables.now) c.loop-head.indexes.items c.loop-head.heads c.take.new.heads c.loop-head.passed c.loop-head.invariant c.in-Some.head.0 c.in-Some.head.1 c.in-Some.ensures
    c.index-index.result.now (c.index-index.ensures ∙ sym (get_or_default c.loop-head.indexes.items c.in-Some.head.1 0 c.index-index.result.now (omega (arith, lt, fit))))

pub loop-head-smaller : goal.loop-head-smaller
loop-head-smaller g c =
    let lt = part_less c.args.last c.args.upper (g.C.Rows.rows c.args.counted.now) (tables_of c.args.tables.now) c.loop-head.indexes.items c.loop-head.heads c.take.new.heads c.loop-head.passed c.loop-head.invariant c.in-Some.head.0 c.in-Some.head.1 c.in-Some.ensures in
    let fit = c.loop-head.invariant.fit in
    fewer_at c.args.last c.args.upper (g.C.Rows.rows c.args.counted.now) (tables_of c.args.tables.now) c.loop-head.indexes.items c.loop-head.heads c.take.new.heads c.loop-head.passed c.loop-head.invariant c.in-Some.head.0 c.in-Some.head.1 c.in-Some.ensures
    c.index-index.result.now (c.index-index.ensures ∙ sym (get_or_default c.loop-head.indexes.items c.in-Some.head.1 0 c.index-index.result.now (omega (arith, lt, fit))))

pub loop-head-preserved : goal.loop-head-preserved
loop-head-preserved g c =
    let lt = part_less c.args.last c.args.upper (g.C.Rows.rows c.args.counted.now) (tables_of c.args.tables.now) c.loop-head.indexes.items c.loop-head.heads c.take.new.heads c.loop-head.passed c.loop-head.invariant c.in-Some.head.0 c.in-Some.head.1 c.in-Some.ensures in
    let fit = c.loop-head.invariant.fit in
    more_at c.args.last c.args.upper (g.C.Rows.rows c.args.counted.now) (tables_of c.args.tables.now) c.loop-head.indexes.items c.loop-head.heads c.take.new.heads c.loop-head.passed c.loop-head.invariant c.in-Some.head.0 c.in-Some.head.1 c.in-Some.ensures
    c.index-index.result.now (c.index-index.ensures ∙ sym (get_or_default c.loop-head.indexes.items c.in-Some.head.1 0 c.index-index.result.now (omega (arith, lt, fit))))
    c.number_in-number.result c.put_next.new.heads c.pass.new.self c.number_in-number.ensures.value c.pass.ensures.key c.pass.ensures.low
    (c.pass.ensures.least ∙ ap (λ file. lesser_of c.loop-head.passed.least
    (cond (nat_le c.number_in-number.result c.args.last && follows c.loop-head.passed.key c.loop-head.passed.low (nat_lt c.args.upper c.in-Some.head.1) c.in-Some.head.0 c.number_in-number.result) None file)) c.file_of.ensures)
    c.in_ok-put_next.ensures

pub returns : goal.returns
returns g c =
    along_ends c.args.last c.args.upper (g.C.Rows.rows c.args.counted.now) (tables_of c.args.tables.now) c.loop-head.indexes.items c.loop-head.heads c.take.new.heads c.loop-head.passed c.loop-head.invariant c.in_default.ensures
