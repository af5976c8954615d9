use Rattle.std.proofs.Common.{sym, ap, ◌∙◌}
use Rattle.std.specs.Option.{option_copied}
use Rattle.st_base.specs.Map.{value_at}
use Rattle.st_model.specs.Apply.{op_family, op_entry}
use Rattle.core_model.specs.Step.{with_memory_entry}
use Rattle.st_core.proofs.Named.{absent_changed}
use Rattle.st_core.proofs.Written.{found_below}
use Rattle.st_core.proofs.families.Families.write.Goals as goal

pub returns-in_default : goal.returns-in_default
returns-in_default g c =
    sym (absent_changed c.args.self.now (op_family c.args.op.now) (with_memory_entry (op_entry c.args.number c.args.op.now))
    (ap (value_at c.args.self.now) (sym c.op_family-name.ensures) ∙ (sym c.get.ensures ∙ ap option_copied c.in_default.is)))

pub with_entry-requires : goal.with_entry-requires
with_entry-requires g c =
    rw c.in_ok-entry.ensures
    (found_below c.args.number c.args.self.now c.op_family-name.result.now c.in-Some.family.now c.requires (sym c.get.ensures ∙ ap option_copied c.in-Some.is))
