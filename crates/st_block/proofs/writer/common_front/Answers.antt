use Rattle.std.proofs.Common.{◌≡◌, ◌+◌, ℕ, List, drop, sym, ap, ◌∙◌, arith}
use Rattle.std.specs.Prelude.{nat_eq}
use Rattle.std.specs.List.{common_prefix_len}
use Rattle.std.proofs.lemmas.List.{drop_all}
use Rattle.st_block.proofs.Writers.{front_end}
use Rattle.st_block.proofs.writer.common_front.Goals as goal

pub returns-else-index-other : goal.returns-else-index-other
returns-else-index-other c =
    let p = c.loop-index.index in
    let none : common_prefix_len nat_eq (drop p c.args.one.now) (drop p c.args.other.now) ≡ 0 = ap (λ (l : List ℕ). common_prefix_len nat_eq (drop p c.args.one.now) l) (drop_all p c.args.other.now (omega arith)) ∙ front_end (drop p c.args.one.now) in
    sym (c.loop-index.invariant.alike ∙ ap (λ (k : ℕ). p + k) none ∙ (let e : p + 0 ≡ p = omega arith in e))
