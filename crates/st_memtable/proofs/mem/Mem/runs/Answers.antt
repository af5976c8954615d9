use Rattle.std.proofs.Common.{List, ℕ, ◌+◌, ◌^◌, ◌≤◌, ◌≡◌, length, sym, ap, subst, ◌∙◌}
use Rattle.st_base.specs.declared.entry.Entry.{Entry}
use Rattle.st_order.specs.Sorted.{joined}
use Rattle.st_memtable.specs.Memtable.{MemView}
use Rattle.st_memtable.proofs.Halves.{few}
use Rattle.st_memtable.proofs.Positions.{length_sorted}
use Rattle.st_memtable.proofs.mem.Mem.runs.Goals as goal

pub returns-clause-few : goal.returns-clause-few
returns-clause-few c =
    let runs : List (List Entry) = c.self.inside.runs.items in
    let count : length runs ≡ c.len.result = sym (c.len.ensures ∙ c.self.inside.runs.ok.0) in
    let long : length (joined runs) ≡ length c.args.self.now.entries = sym (length_sorted (joined runs)) ∙ ap (λ (shown : MemView). length shown.entries) c.self.view_is in
    subst (λ (n : ℕ). 2 ^ c.len.result ≤ n + 1) long (subst (λ (n : ℕ). 2 ^ n ≤ length (joined runs) + 1) count (few runs c.self.invariant.parts.halve))
