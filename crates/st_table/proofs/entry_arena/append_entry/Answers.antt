use Rattle.st_base.specs.Rows.{mark_of}
use Rattle.st_table.proofs.Arena.{entry_is}
use Rattle.st_table.proofs.entry_arena.append_entry.Goals as goal

pub returns-clause-entry : goal.returns-clause-entry
returns-clause-entry c =
    entry_is c.args.bytes.now c.args.entry.key.now c.extend_from_slice.new.self c.append_mark.new.bytes c.len-start.result c.len-key_end.result c.args.entry.number c.in_ok-value_end.value_end (mark_of c.args.entry.mark)
    c.len-start.ensures c.in_ok-extend_from_slice.ensures.ok c.len-key_end.ensures c.in_ok-value_end.ensures.kept c.in_ok-value_end.ensures.mark
