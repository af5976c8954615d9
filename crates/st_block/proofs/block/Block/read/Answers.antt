use Rattle.std.proofs.Common.{◌≡◌, ◌≤◌, ◌+◌, ◌-◌, ℕ, List, length, take, drop, subst, ap, ◌∙◌, arith}
use Rattle.std.proofs.lemmas.List.{length-take}
use Rattle.std.specs.Prelude.{slice_range}
use Rattle.st_block.specs.BlockContents.{Advances, BlockContents, TakesCell, block_contents_in}
use Rattle.st_block.proofs.block.Block.read.Goals as goal

pub returns-clause-found : goal.returns-clause-found
returns-clause-found c =
    let i = c.self.inside in
    let same : c.as_slice.result.now ≡ i.bytes.value = c.as_slice.ensures ∙ c.deref.ensures in
    let block : block_contents_in i.kind (slice_range c.as_slice.result.now i.from (i.from + i.size)) i.layout ≡ c.args.self.now = ap (λ (l : List ℕ). block_contents_in i.kind (slice_range l i.from (i.from + i.size)) i.layout) same ∙ c.self.view_is in
    let found = c.in_ok-read.ensures.found.0 in
    (found.0, subst (λ (b : BlockContents). TakesCell b c.args.at c.read_in.new.scratch (slice_range (take i.layout.end (slice_range c.as_slice.result.now i.from (i.from + i.size))) c.in_ok-read.read.value c.in_ok-read.read.next) c.in_ok-read.read.next found.0) block found.1)

pub returns-clause-advances : goal.returns-clause-advances
returns-clause-advances c =
    let i = c.self.inside in
    let area = take i.layout.end (slice_range c.as_slice.result.now i.from (i.from + i.size)) in
    let r = c.in_ok-read.ensures.found.1 in
    let short : length area ≤ i.layout.end = omega (arith, length-take i.layout.end (slice_range c.as_slice.result.now i.from (i.from + i.size))) in
    let size = length-take (c.in_ok-read.read.next - c.in_ok-read.read.value) (drop c.in_ok-read.read.value area) in
    subst (λ (b : BlockContents). Advances b c.args.at (slice_range area c.in_ok-read.read.value c.in_ok-read.read.next) c.in_ok-read.read.next) c.self.view_is
    (record { behind = r.behind; value_before = omega (arith, size); within = omega (arith, r.within, short) })
