use Rattle.std.proofs.Common.{◌≡◌, ◌++◌, List, map, ap, subst, sym, ◌∙◌}
use Rattle.std.specs.List.{AllByRecursion as Each}
use Rattle.st_base.specs.Levels.{levels_of}
use Rattle.st_memtable.specs.Memtable.{MemView}
use Rattle.st_order.specs.Sorted.{merged}
use Rattle.st_version.specs.Held.{SharedMem, runs_of_memtables, tables_of}
use Rattle.st_version.specs.Run.{entries_of_run}
use Rattle.st_version.proofs.AllParts.{all_parts}
use Rattle.st_version.proofs.view.FamilyView.parts.Goals as goal

pub returns : goal.returns
returns g c =
    all_parts c.args.self.now c.self.inside.id c.self.inside.mem.value c.self.inside.sealed (map tables_of (levels_of c.self.inside.levels))
    (map entries_of_run c.push_memtable.new.list.items) (map entries_of_run c.push_memtables.new.list.items) (map entries_of_run c.push_levels.new.list.items) c.self.view_is
    (c.in_ok-push_memtable.ensures.parts ∙ ap (λ some. map entries_of_run some ++ c.deref.result.now.runs) c.new-parts.ensures.items ∙ ap (λ (mem : MemView). mem.runs) c.deref.ensures)
    (subst (λ (mem : MemView). merged mem.runs ≡ mem.entries) c.deref.ensures c.in_ok-push_memtable.ensures.whole)
    (c.in_ok-push_memtables.ensures.parts ∙ ap (λ memtables. map entries_of_run c.push_memtable.new.list.items ++ runs_of_memtables memtables) c.as_slice.ensures)
    (subst (λ (memtables : List SharedMem). Each (λ (mem : SharedMem). merged mem.value.runs ≡ mem.value.entries) memtables) c.as_slice.ensures c.in_ok-push_memtables.ensures.whole)
    c.in_ok-push_levels.ensures
