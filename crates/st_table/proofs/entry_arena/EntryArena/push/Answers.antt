use Rattle.std.proofs.Common.{List, [], ◌∷◌, ◌++◌, ap, ◌∙◌}
use Rattle.st_base.specs.Rows.{entry_of}
use Rattle.st_base.specs.declared.entry.Entry.{Entry}
use Rattle.st_table.proofs.Arena.{holds_more}
use Rattle.st_table.proofs.entry_arena.EntryArena.push.Goals as goal

pub invariant_of-self : goal.invariant_of-self
invariant_of-self c =
    (holds_more c.self.inside.bytes c.append_slotted.new.bytes c.self.inside.slots c.append_slotted.new.slots (entry_of c.args.entry) c.append_slotted.ensures.kept c.self.invariant c.in-Ok.ensures.ok).fill

pub returns-in-Ok-clause-ok : goal.returns-in-Ok-clause-ok
returns-in-Ok-clause-ok c =
    (holds_more c.self.inside.bytes c.append_slotted.new.bytes c.self.inside.slots c.append_slotted.new.slots (entry_of c.args.entry) c.append_slotted.ensures.kept c.self.invariant c.in-Ok.ensures.ok).entries
    ∙ ap (λ (l : List Entry). l ++ entry_of c.args.entry ∷ []) c.self.view_is
