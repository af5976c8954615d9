use Rattle.std.proofs.Common.{◌≡◌, Err, sym, ap, ◌∙◌}
use Rattle.st_base.specs.Rows.{mark_of}
use Rattle.table_writer.specs.declared.fault.AddFault.{AddFault}
use Rattle.sst_writer.specs.declared.fault.WriterFault.TheVariants.{TooLarge}
use Rattle.sst_writer.proofs.Held.{fault_was, more, too_large_of}
use Rattle.sst_writer.proofs.writer.SstFileWriter.add.Goals as goal

pub returns-in-Err-clause-too_large : goal.returns-in-Err-clause-too_large
returns-in-Err-clause-too_large c = λ e.
    let i = c.self.inside in
    let to : c.into.result ≡ TooLarge = cc in
    too_large_of i.table i.is_empty i.last c.args.self.now c.args.key.now (mark_of c.args.mark) c.self.invariant c.self.view_is
    (c.add.ensures.too_large (c.in-Err.is ∙ ap (λ (f : AddFault). Err f) (fault_was c.in-Err.fault c.into.result c.into.ensures to)))

pub invariant_of-self-2 : goal.invariant_of-self-2
invariant_of-self-2 c =
    let i = c.self.inside in
    (more c.written_table_opens.ensures i.table c.add.new.self i.is_empty i.last c.args.self.now c.args.key.now (mark_of c.args.mark) c.self.invariant c.self.view_is c.in_default.ensures.ok
    (sym c.rises_to.ensures ∙ c.if-not-rises_to.false) c.requires.key c.requires.mark c.in_default.ensures.fits).keeps c.keep_and_add.new.self c.keep_and_add.ensures

pub returns-clause-ok : goal.returns-clause-ok
returns-clause-ok c =
    let i = c.self.inside in
    (more c.written_table_opens.ensures i.table c.add.new.self i.is_empty i.last c.args.self.now c.args.key.now (mark_of c.args.mark) c.self.invariant c.self.view_is c.in_default.ensures.ok
    (sym c.rises_to.ensures ∙ c.if-not-rises_to.false) c.requires.key c.requires.mark c.in_default.ensures.fits).is

pub returns-clause-fits : goal.returns-clause-fits
returns-clause-fits c =
    let i = c.self.inside in
    (more c.written_table_opens.ensures i.table c.add.new.self i.is_empty i.last c.args.self.now c.args.key.now (mark_of c.args.mark) c.self.invariant c.self.view_is c.in_default.ensures.ok
    (sym c.rises_to.ensures ∙ c.if-not-rises_to.false) c.requires.key c.requires.mark c.in_default.ensures.fits).fits

pub returns-clause-rows : goal.returns-clause-rows
returns-clause-rows c =
    let i = c.self.inside in
    (more c.written_table_opens.ensures i.table c.add.new.self i.is_empty i.last c.args.self.now c.args.key.now (mark_of c.args.mark) c.self.invariant c.self.view_is c.in_default.ensures.ok
    (sym c.rises_to.ensures ∙ c.if-not-rises_to.false) c.requires.key c.requires.mark c.in_default.ensures.fits).rows
