use Rattle.std.proofs.Common.{[], ◌≡◌, sym, ◌∙◌}
use Rattle.std.proofs.lemmas.Bool.{false≢true}
use Rattle.st_compact.proofs.Cuts.{ended_some}
use Rattle.st_compact.proofs.cut_tables.CutTables.into_vec.Goals as goal

pub returns-clause-cut : goal.returns-clause-cut
returns-clause-cut c =
    let some : c.args.self.table ≡ [] → ⊥ = λ e. false≢true (sym c.if-is_empty.false ∙ c.is_empty.ensures.1 e) in
    (ended_some c.args.self c.push.new.self.items c.requires some c.in_ok-push.ensures.items).0
