use Rattle.std.proofs.Common.{◌≡◌, ◌/◌, ◌++◌, List, length, take, drop, sym, ap, subst, ◌∙◌, arith}
use Rattle.std.specs.Prelude.{IfOk, Result, Ok, Err}
use Rattle.std.proofs.lemmas.List.{take-append-drop}
use Rattle.st_base.specs.Order.{in_order}
use Rattle.st_base.specs.declared.entry.Entry.{Entry}
use Rattle.st_order.specs.Columns.{Pairwise}
use Rattle.st_order.specs.Sorted.{sorted}
use Rattle.st_memtable.specs.Memtable.{DifferInPosition}
use Rattle.st_memtable.specs.Runs.{values}
use Rattle.st_memtable.proofs.Positions.{pairs_take, pairs_drop, sorted_strict}
use Rattle.st_memtable.proofs.Joins.{sorted_both}
use Rattle.st_memtable.proofs.Shared.{Shared}
use Rattle.st_memtable.proofs.single.+single.Goals as goal

pub single-requires : goal.single-requires
single-requires t c = (
  omega (arith, c.decreases, c.split_at.ensures.front_len),
  subst (λ (entries : List Entry). Pairwise DifferInPosition entries) (sym c.split_at.ensures.front) (pairs_take DifferInPosition (length c.args.entries.now / 2) c.args.entries.now c.requires),
)

pub single-requires-2 : goal.single-requires-2
single-requires-2 t c = (
  omega (arith, c.decreases, c.split_at.ensures.back_len),
  subst (λ (entries : List Entry). Pairwise DifferInPosition entries) (sym c.split_at.ensures.back) (pairs_drop DifferInPosition (length c.args.entries.now / 2) c.args.entries.now c.requires),
)

pub join-requires-clause-older : goal.join-requires-clause-older
join-requires-clause-older t c =
    ap (λ (run : List Shared). in_order (values run)) c.as_slice.ensures ∙ ap in_order c.in_ok-front.ensures ∙ ap (λ (entries : List Entry). in_order (sorted entries)) c.split_at.ensures.front
    ∙ sorted_strict (take (length c.args.entries.now / 2) c.args.entries.now) (pairs_take DifferInPosition (length c.args.entries.now / 2) c.args.entries.now c.requires)

pub join-requires-clause-newer : goal.join-requires-clause-newer
join-requires-clause-newer t c =
    ap (λ (run : List Shared). in_order (values run)) c.as_slice-2.ensures ∙ ap in_order c.in_ok-back.ensures ∙ ap (λ (entries : List Entry). in_order (sorted entries)) c.split_at.ensures.back
    ∙ sorted_strict (drop (length c.args.entries.now / 2) c.args.entries.now) (pairs_drop DifferInPosition (length c.args.entries.now / 2) c.args.entries.now c.requires)

seen : {X E : Type 0} (f : X → List Entry) (one other : List Entry) (result : Result X E) → IfOk result (λ run. f run ≡ one) → one ≡ other → IfOk result (λ run. f run ≡ other)
seen f one other (Ok run) e same = e ∙ same
seen f one other (Err error) e same = tt

pub returns : goal.returns
returns t c =
    seen values (sorted (values c.as_slice.result.now ++ values c.as_slice-2.result.now)) (sorted c.args.entries.now) c.join.result c.join.ensures
    (ap (λ (run : List Shared). sorted (values run ++ values c.as_slice-2.result.now)) c.as_slice.ensures ∙ ap (λ (run : List Shared). sorted (values c.in_ok-front.front ++ values run)) c.as_slice-2.ensures
    ∙ ap (λ (run : List Entry). sorted (run ++ values c.in_ok-back.back)) c.in_ok-front.ensures ∙ ap (λ (run : List Entry). sorted (sorted c.split_at.result.0.now ++ run)) c.in_ok-back.ensures
    ∙ sorted_both c.split_at.result.0.now c.split_at.result.1.now
    ∙ ap (λ (entries : List Entry). sorted (entries ++ c.split_at.result.1.now)) c.split_at.ensures.front ∙ ap (λ (entries : List Entry). sorted (take (length c.args.entries.now / 2) c.args.entries.now ++ entries)) c.split_at.ensures.back
    ∙ ap sorted (take-append-drop (length c.args.entries.now / 2) c.args.entries.now))
