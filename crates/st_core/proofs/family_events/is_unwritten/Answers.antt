use Rattle.std.proofs.Common.{ap, ◌∙◌}
use Rattle.st_memtable.specs.Memtable.{MemView, least_number}
use Rattle.st_core.proofs.Written.{unwritten_is}
use Rattle.st_core.proofs.family_events.is_unwritten.Goals as goal

pub returns : goal.returns
returns g c =
    unwritten_is c.args.family.now.mem c.least.result c.is_none.result
    (c.least.ensures ∙ ap least_number (ap (λ (mem : MemView). mem.entries) c.deref.ensures ∙ c.mem.ensures)) c.is_none.ensures
