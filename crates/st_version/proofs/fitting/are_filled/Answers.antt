use Rattle.std.proofs.Common.{◌∙◌, sym, arith}
use Rattle.std.proofs.lemmas.Bool.{false≢true}
use Rattle.st_version.proofs.Apart.{not_filled}
use Rattle.st_version.proofs.fitting.are_filled.Goals as goal

pub returns-then-len-eq0 : goal.returns-then-len-eq0
returns-then-len-eq0 g c = (
  (λ e. absurd (false≢true e)),
  (λ each. absurd (not_filled c.args.tables.now c.loop-table.table-index c.table-item.result (omega arith) c.table-item.is (sym c.len.ensures.value ∙ c.if-len-eq0.true) each)),
)
