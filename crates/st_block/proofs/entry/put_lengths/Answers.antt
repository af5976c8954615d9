use Rattle.std.proofs.Common.{ℕ, ◌≡◌, List, ◌++◌, subst}
use Rattle.std.specs.Prelude.{OnOk}
use Rattle.st_block.proofs.Writers.{short_lengths}
use Rattle.st_block.proofs.entry.put_lengths.Goals as goal

pub returns-then-value-lt128-clause-ok : goal.returns-then-value-lt128-clause-ok
returns-then-value-lt128-clause-ok c =
    subst (λ (l : List ℕ). OnOk c.put_short_lengths.result (c.put_short_lengths.new.out ≡ c.args.out.now ++ l))
    (short_lengths c.args.shared c.args.unshared c.args.value c.if-shared-lt128.true c.if-unshared-lt128.true c.if-value-lt128.true) c.put_short_lengths.ensures.ok
