use Rattle.std.proofs.Common.{◌≡◌, ◌+◌, subst}
use Rattle.std.specs.Prelude.{slice_range}
use Rattle.st_block.specs.BlockContents.{IsReadableAt, cells_at, BlockContents}
use Rattle.st_block.proofs.Searching.{from_start}
use Rattle.st_block.proofs.block.Block.start.Goals as goal

pub returns-clause-value : goal.returns-clause-value
returns-clause-value c =
    let i = c.self.inside in
    subst (λ (b : BlockContents). cells_at 0 b.cells ≡ b.cells) c.self.view_is (from_start i.kind (slice_range i.bytes.value i.from (i.from + i.size)) i.layout c.self.invariant.lies).0

pub returns-clause-stands : goal.returns-clause-stands
returns-clause-stands c = λ key.
    let i = c.self.inside in
    subst (λ (b : BlockContents). IsReadableAt b 0 key) c.self.view_is ((from_start i.kind (slice_range i.bytes.value i.from (i.from + i.size)) i.layout c.self.invariant.lies).1 key)
