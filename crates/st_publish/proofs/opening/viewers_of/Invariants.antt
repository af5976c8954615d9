use Rattle.std.proofs.Common.{◌≡◌, All, vec_len}
use Rattle.left_right.specs.Sides.{view}
use Rattle.st_publish.proofs.opening.viewers_of.Given as goal

abbrev pub invariant-loop-i : goal.invariant-loop-i
invariant-loop-i g l =
    (vec_len l.all ≡ l._i) × All (λ v. v ≡ l.fn.told) l.all.items × (view l.writer.desk.place ≡ view l.fn.writer.desk.place)
    × (l.writer.desk.shown ≡ l.fn.writer.desk.shown) × (l.writer.log ≡ l.fn.writer.log) × (l.writer.behind ≡ l.fn.writer.behind)
