use Rattle.std.proofs.Common.{refl, sym, ◌∙◌}
use Rattle.sst_writer.proofs.Held.{all_written, nothing_is}
use Rattle.sst_writer.proofs.writer.SstFileWriter.finish.Goals as goal

pub returns-then-self-clause-no_entry : goal.returns-then-self-clause-no_entry
returns-then-self-clause-no_entry c =
    let i = c.self.inside in
    (λ e. sym c.self.view_is ∙ nothing_is i.table i.is_empty i.last c.self.invariant c.if-self.true, λ e. refl)

pub returns-in-Ok-clause-written : goal.returns-in-Ok-clause-written
returns-in-Ok-clause-written c =
    let i = c.self.inside in
    all_written i.table i.is_empty i.last c.args.self c.in-Ok.bytes c.self.invariant c.self.view_is c.in-Ok.ensures.written
