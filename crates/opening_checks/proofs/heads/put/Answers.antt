use Rattle.std.proofs.Common.{◌∷◌, sym, subst}
use Rattle.std.specs.BinaryHeap.{heap_items}
use Rattle.std.specs.declared.cmp.Reverse.{Reverse}
use Rattle.std.proofs.lemmas.List.Sorted.{IsPermutation-map}
use Rattle.opening_checks.specs.Heads.{PartHead, head_put}
use Rattle.opening_checks.proofs.heads.put.Goals as goal

pub returns-in_ok-push : goal.returns-in_ok-push
returns-in_ok-push c =
    let head : Reverse PartHead = record { 0 = (c.in-Some.key, c.args.part) } in
    subst (λ key. head_put key c.args.part c.args.heads.now c.push.new.self) (sym c.in-Some.is) (
      IsPermutation-map (λ (one : Reverse PartHead). one.0) (head ∷ heap_items c.args.heads.now) (heap_items c.push.new.self) c.in_ok-push.ensures.permutation,
      c.in_ok-push.ensures.heap_order,
    )
