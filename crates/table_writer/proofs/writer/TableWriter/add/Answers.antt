use Rattle.std.proofs.Common.{ℕ, ◌≡◌, ◌<◌, ◌≤◌, ◌∙◌, Err, length, subst}
use Rattle.std.specs.Prelude.{OnOk}
use Rattle.st_base.specs.Rows.{entry_of}
use Rattle.st_table.specs.Footer.{greatest_size}
use Rattle.table_writer.specs.Writer.{Writer, entry_added, finished_table}
use Rattle.table_writer.specs.declared.fault.AddFault.TheVariants.{TooLarge}
use Rattle.table_writer.proofs.Writing.{with_entry_is}
use Rattle.table_writer.proofs.writer.TableWriter.add.Goals as goal

pub returns-clause-fits : goal.returns-clause-fits
returns-clause-fits c =
    let i = c.self.inside in
    let w : Writer = record { kind = i.kind; count = i.count; blocks = i.blocks; block = i.block; index = i.index } in
    subst (λ (v : Writer). OnOk c.add_internal-added.result (length (finished_table (entry_added v (entry_of c.args.entry))) ≤ greatest_size v.kind)) c.self.view_is
    (subst (λ (n : ℕ). OnOk c.add_internal-added.result (n ≤ greatest_size w.kind))
    (with_entry_is w (entry_of c.args.entry) c.as_slice.result.now c.value_under.result.now (c.as_slice.ensures ∙ c.in_ok-internal.ensures) c.value_under.ensures)
    c.add_internal-added.ensures.fits)

pub returns-clause-too_large : goal.returns-clause-too_large
returns-clause-too_large c =
    let i = c.self.inside in
    let w : Writer = record { kind = i.kind; count = i.count; blocks = i.blocks; block = i.block; index = i.index } in
    subst (λ (v : Writer). c.add_internal-added.result ≡ Err TooLarge → greatest_size v.kind < length (finished_table (entry_added v (entry_of c.args.entry)))) c.self.view_is
    (subst (λ (n : ℕ). c.add_internal-added.result ≡ Err TooLarge → greatest_size w.kind < n)
    (with_entry_is w (entry_of c.args.entry) c.as_slice.result.now c.value_under.result.now (c.as_slice.ensures ∙ c.in_ok-internal.ensures) c.value_under.ensures)
    c.add_internal-added.ensures.too_large)
