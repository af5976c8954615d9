use Rattle.std.proofs.Common.{[], ◌∷◌, ◌++◌, ◌+◌, ◌-◌, ◌^◌, ◌≡◌, min, false, Ok, Err, Result, sym, ap}
use Rattle.std.specs.Result.{OnOk}
use Rattle.st_base.specs.Entries.{entry_charge}
use Rattle.st_base.specs.declared.entry.Entry.{Entry}
use Rattle.st_compact.specs.Cut.{IsCutSoFar, is_closed_before}
use Rattle.st_compact.specs.declared.cut_tables.CutTables.{CutTables}
use Rattle.st_compact.proofs.Cuts.{open_cut}
use Rattle.st_compact.proofs.cut_tables.CutTables.push.Goals as goal

open_on : {E : Type 0} (old new : CutTables) (entry : Entry) (result : Result (Unit {0}) E) → IsCutSoFar old → is_closed_before old.target old.charge old.table entry ≡ false
    → OnOk result ((new.done ≡ old.done) × (new.table ≡ old.table ++ entry ∷ []) × (new.charge ≡ min (old.charge + entry_charge entry.key entry.mark) (2 ^ 64 - 1)) × (new.target ≡ old.target)) → OnOk result (IsCutSoFar new)
open_on old new entry (Ok x) cut full (done, table, charge, target) = open_cut old new entry cut target full (ap (λ vec. vec.items) done) table charge
open_on old new entry (Err e) cut full made = tt

pub returns-else-is_full_before-clause-cut : goal.returns-else-is_full_before-clause-cut
returns-else-is_full_before-clause-cut c =
    open_on c.args.self.now c.add-else-is_full_before.new.self c.args.entry c.add-else-is_full_before.result c.requires (sym c.if-is_full_before.ensures) c.add-else-is_full_before.ensures
