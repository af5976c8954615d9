use Rattle.std.proofs.Common.{◌<◌, ◌++◌, ◌∷◌, [], ℕ, List, length, subst}
use Rattle.st_base.specs.declared.entry.Mark.TheVariants.{Gone}
use Rattle.table_writer.specs.Written.{written_table}
use Rattle.st_table.specs.declared.kind.TableKind.TheVariants.{External}
use Rattle.sst_writer.specs.Sst.{entry_with}
use Rattle.sst_writer.proofs.writer.SstFileWriter.delete.Goals as goal

pub returns-clause-too_large : goal.returns-clause-too_large
returns-clause-too_large c = λ e.
    subst (λ (key : List ℕ). 67108864 < length (written_table External (c.args.self.now ++ entry_with key Gone ∷ []))) c.as_bytes.ensures.value (c.add.ensures.too_large e)
