use Rattle.std.proofs.Common.{◌≡◌, ◌+◌, ◌≤◌, ◌∷◌, ◌++◌, [], List, sym, ap, subst, ◌∙◌, arith}
use Rattle.std.specs.List.{AllByRecursion as Each}
use Rattle.st_base.specs.declared.entry.Entry.{Entry}
use Rattle.st_memtable.specs.Memtable.{with_memory_entries}
use Rattle.bench_view.proofs.Puts.{put_within}
use Rattle.bench_view.proofs.writer.Filling.put.Goals as goal

pub invariant_of-result : goal.invariant_of-result
invariant_of-result c =
    let entry : Entry = record { key = c.args.key; number = c.self.inside.last + 1; mark = c.args.mark } in
    let made : c.in_ok-mem.mem.entries ≡ with_memory_entries c.self.inside.mem.entries (entry ∷ []) =
    c.in_ok-mem.ensures.entries ∙ ap (λ (some : List Entry). with_memory_entries c.self.inside.mem.entries some) (c.in_ok-push.ensures.ok ∙ ap (λ (some : List Entry). some ++ entry ∷ []) c.new-entries.ensures) in
    subst (λ (some : List Entry). Each (λ (x : Entry). x.number ≤ c.self.inside.last + 1) some) (sym made) (put_within c.self.inside.last entry c.self.inside.mem.entries (omega arith) c.self.invariant)
