use Rattle.std.proofs.Common.{[], get_or, subst}
use Rattle.st_version.specs.Held.{tables_of}
use Rattle.opening_checks.specs.Heads.{head_put}
use Rattle.opening_checks.specs.Walk.{walk_runs}
use Rattle.opening_checks.proofs.Along.{put_is}
use Rattle.opening_checks.proofs.walk.put_next.Goals as goal

pub returns : goal.returns
returns g c =
    put_is (get_or (walk_runs (g.C.Rows.rows c.args.counted.now) (tables_of c.args.tables.now)) c.args.part []) c.args.index c.args.part c.args.heads.now c.put.new.heads
    (subst (λ key. head_put key c.args.part c.args.heads.now c.put.new.heads) c.in_ok-key.ensures c.in_ok-put.ensures)
