use Rattle.std.proofs.Common.{Some, drop, map, option_map, ap, ◌∙◌}
use Rattle.st_order.specs.Columns.{column, of_key}
use Rattle.job_model.specs.Column.{found_at}
use Rattle.st_base.specs.Levels.{levels_of}
use Rattle.st_base.specs.Rows.{mark_of}
use Rattle.st_memtable.specs.Memtable.{MemView}
use Rattle.st_version.specs.Held.{entries_in, tables_of}
use Rattle.st_version.proofs.FoundIn.{find_at, or_none, or_some, runs_flat}
use Rattle.st_version.proofs.Shared.{each_stands, zero_found}
use Rattle.st_version.proofs.view.FamilyView.find.Goals as goal

pub returns-in-Some : goal.returns-in-Some
returns-in-Some g c =
    find_at c.args.self.now c.self.inside.id c.args.number c.args.key.now c.self.inside.mem.value.entries (entries_in c.self.inside.sealed) (tables_of c.self.inside.levels.zero.value) (map tables_of (drop 1 (levels_of c.self.inside.levels)))
    c.self.view_is (Some (mark_of c.in-Some.mark))
    (or_some (mark_of c.in-Some.mark) _ _ (c.in-Some.ensures ∙ ap (λ (mem : MemView). found_at c.args.number (of_key c.args.key.now mem.entries)) c.deref.ensures))

pub returns-in-Some-in_memtables : goal.returns-in-Some-in_memtables
returns-in-Some-in_memtables g c =
    find_at c.args.self.now c.self.inside.id c.args.number c.args.key.now c.self.inside.mem.value.entries (entries_in c.self.inside.sealed) (tables_of c.self.inside.levels.zero.value) (map tables_of (drop 1 (levels_of c.self.inside.levels)))
    c.self.view_is (Some (mark_of c.in-Some-in_memtables.mark))
    (or_none (Some (mark_of c.in-Some-in_memtables.mark)) _ _ (c.in_default.ensures ∙ ap (λ (mem : MemView). found_at c.args.number (of_key c.args.key.now mem.entries)) c.deref.ensures)
    (or_some (mark_of c.in-Some-in_memtables.mark) _ _ (c.in-Some-in_memtables.ensures ∙ ap (λ memtables. found_at c.args.number (column c.args.key.now (entries_in memtables))) c.as_slice.ensures)))

pub returns-in-Some-in_tables : goal.returns-in-Some-in_tables
returns-in-Some-in_tables g c =
    find_at c.args.self.now c.self.inside.id c.args.number c.args.key.now c.self.inside.mem.value.entries (entries_in c.self.inside.sealed) (tables_of c.self.inside.levels.zero.value) (map tables_of (drop 1 (levels_of c.self.inside.levels)))
    c.self.view_is (Some (mark_of c.in-Some-in_tables.mark))
    (or_none (Some (mark_of c.in-Some-in_tables.mark)) _ _ (c.in_default.ensures ∙ ap (λ (mem : MemView). found_at c.args.number (of_key c.args.key.now mem.entries)) c.deref.ensures)
    (or_none (Some (mark_of c.in-Some-in_tables.mark)) _ _ (c.in_default-in_memtables.ensures ∙ ap (λ memtables. found_at c.args.number (column c.args.key.now (entries_in memtables))) c.as_slice.ensures)
    (or_some (mark_of c.in-Some-in_tables.mark) _ _ (c.in-Some-in_tables.ensures ∙ zero_found c.args.number c.args.key.now c.self.inside.levels.zero.value c.at.result.now c.at.ensures))))

pub in_levels-requires : goal.in_levels-requires
in_levels-requires g c = each_stands (drop 1 (levels_of c.self.inside.levels)) c.self.invariant.by_key

pub returns : goal.returns
returns g c =
    find_at c.args.self.now c.self.inside.id c.args.number c.args.key.now c.self.inside.mem.value.entries (entries_in c.self.inside.sealed) (tables_of c.self.inside.levels.zero.value) (map tables_of (drop 1 (levels_of c.self.inside.levels)))
    c.self.view_is (option_map mark_of c.in_levels.result)
    (or_none (option_map mark_of c.in_levels.result) _ _ (c.in_default.ensures ∙ ap (λ (mem : MemView). found_at c.args.number (of_key c.args.key.now mem.entries)) c.deref.ensures)
    (or_none (option_map mark_of c.in_levels.result) _ _ (c.in_default-in_memtables.ensures ∙ ap (λ memtables. found_at c.args.number (column c.args.key.now (entries_in memtables))) c.as_slice.ensures)
    (or_none (option_map mark_of c.in_levels.result) _ _ (c.in_default-in_tables.ensures ∙ zero_found c.args.number c.args.key.now c.self.inside.levels.zero.value c.at.result.now c.at.ensures)
    (c.in_levels.ensures ∙ ap (λ runs. found_at c.args.number (column c.args.key.now runs)) (runs_flat (drop 1 (levels_of c.self.inside.levels)))))))
