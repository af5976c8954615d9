use Rattle.std.proofs.Common.{◌<◌, ◌++◌, ◌∷◌, [], ℕ, List, length, subst}
use Rattle.st_base.specs.declared.entry.Mark.TheVariants.{Put}
use Rattle.table_writer.specs.Written.{written_table}
use Rattle.st_table.specs.declared.kind.TableKind.TheVariants.{External}
use Rattle.sst_writer.specs.Sst.{entry_with}
use Rattle.sst_writer.proofs.writer.SstFileWriter.put.Goals as goal

pub returns-clause-too_large : goal.returns-clause-too_large
returns-clause-too_large c = λ e.
    let IsLarge : List ℕ → List ℕ → Type 0 = λ key value. 67108864 < length (written_table External (c.args.self.now ++ entry_with key (Put value) ∷ [])) in
    subst (λ (key : List ℕ). IsLarge key c.args.value.now) c.as_bytes.ensures.value
    (subst (λ (value : List ℕ). IsLarge c.as_bytes.result.now value) c.as_bytes-2.ensures.value (c.add.ensures.too_large e))
