use Rattle.std.proofs.Common.{◌≤◌, List, ℕ, length, sym, subst, ◌∙◌}
use Rattle.st_table.specs.Footer.{greatest_size}
use Rattle.st_table.specs.IsTable.{IsTable}
use Rattle.table_writer.proofs.Holding.{table_written}
use Rattle.table_writer.proofs.writer.TableWriter.finish.Goals as goal

pub returns-clause-written : goal.returns-clause-written
returns-clause-written c = λ entries h. c.in_ok-bytes.ensures.value ∙ table_written c.args.self.now entries h

pub returns-clause-table : goal.returns-clause-table
returns-clause-table c = λ entries h may.
    let kind = c.args.self.now.kind in
    let is = c.in_ok-bytes.ensures.value ∙ table_written c.args.self.now entries h in
    subst (λ (l : List ℕ). IsTable l kind entries) (sym is)
    (c.written_table_opens.ensures kind entries may (subst (λ (l : List ℕ). length l ≤ greatest_size kind) is c.in_ok-bytes.ensures.fits))
