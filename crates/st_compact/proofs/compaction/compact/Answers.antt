use Rattle.std.proofs.Common.{◌≡◌, ℕ, List, [], Result, Ok, Err, map, sym, ap, subst, ◌∙◌}
use Rattle.std.specs.Prelude.{IfOk}
use Rattle.st_base.specs.declared.entry.Entry.{Entry}
use Rattle.st_base.specs.declared.entry.KeyRange.{KeyRange}
use Rattle.job_model.specs.Compaction.{IsCompaction}
use Rattle.st_order.specs.Sorted.{merged}
use Rattle.st_order.proofs.Columns.{is_joined}
use Rattle.st_order.specs.Sorted.{joined}
use Rattle.st_compact.specs.Kept.{kept_in_all}
use Rattle.st_compact.specs.Pass.{pass_all}
use Rattle.st_compact.proofs.Passes.{is_compaction}
use Rattle.st_compact.proofs.compaction.compact.Goals as goal

kept_of : {X E : Type 0} (seen : X → List Entry) (runs : List (List Entry)) (live : List ℕ) (drops : List KeyRange) (entries : List Entry) (result : Result X E) → IfOk result (λ tables. seen tables ≡ entries) → IsCompaction runs live drops entries
    → IfOk result (λ tables. IsCompaction runs live drops (seen tables))
kept_of seen runs live drops entries (Ok tables) e is = subst (λ found. IsCompaction runs live drops found) (sym e) is
kept_of seen runs live drops entries (Err error) e is = tt

pub returns-clause-kept : goal.returns-clause-kept
returns-clause-kept g c =
    let runs : List (List Entry) = map g.T.Rows.rows c.args.inputs.now in
    let all : kept_in_all c.loop-entry_index.keeper [] ≡ pass_all c.args.live.now c.args.drops.now (merged runs) = ap (kept_in_all c.loop-entry_index.keeper) (sym c.in_default.ensures.gives.0) ∙ c.loop-entry_index.invariant.left in
    kept_of (λ tables. joined tables.items) runs c.args.live.now c.args.drops.now (kept_in_all c.loop-entry_index.keeper []) c.finish.result c.finish.ensures.entries
    (subst (λ (found : List Entry). IsCompaction runs c.args.live.now c.args.drops.now found) (sym all) (is_compaction c.args.live.now c.args.drops.now runs (merged runs) (is_joined runs c.requires.falls)))
