use Rattle.sst_writer.proofs.Held.{rises_by}
use Rattle.sst_writer.proofs.writer.SstFileWriter.rises_to.Goals as goal

pub returns-else-self : goal.returns-else-self
returns-else-self c =
    let i = c.self.inside in
    let e = rises_by i.table i.is_empty i.last c.args.key.now c.self.invariant c.if-self.false in
    cc
