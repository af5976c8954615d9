use Rattle.std.proofs.Common.{◌≡◌, ◌∷◌, false}
use Rattle.std.specs.BinaryHeap.{heap_items}
use Rattle.std.specs.Ordering.{is_lt}
use Rattle.std.specs.declared.cmp.Reverse.{Reverse}
use Rattle.std.proofs.lemmas.List.Sorted.{IsPermutation-map}
use Rattle.base_laws.proofs.Lists.{each_map}
use Rattle.opening_checks.specs.Heads.{PartHead, head_cmp}
use Rattle.opening_checks.proofs.heads.take.Goals as goal

pub returns-in-Some : goal.returns-in-Some
returns-in-Some c = (
  IsPermutation-map (λ (one : Reverse PartHead). one.0) (heap_items c.args.heads.now) (c.in-Some.head ∷ heap_items c.pop.new.self) c.in-Some.ensures.permutation,
  λ ordered. (
    (c.in-Some.ensures.heap_order ordered).0,
    each_map (λ other. is_lt (head_cmp other c.in-Some.head.0) ≡ false) (λ (one : Reverse PartHead). one.0) (heap_items c.pop.new.self) (c.in-Some.ensures.below_top ordered),
  ),
)
