use Rattle.std.proofs.Common.{◌≡◌, List, ap, ◌∙◌, rules}
use Rattle.st_base.specs.Range.{under_number}
use Rattle.st_base.specs.declared.entry.Entry.{Entry}
use Rattle.st_table.specs.Table.{acting}
use Rattle.st_table.proofs.Acting.{acting_again}
use Rattle.st_table.proofs.shared_entries.SharedEntries.with_number.Goals as goal

pub returns : goal.returns
returns c =
    let same : c.in_ok-arena.arena.value ≡ c.self.inside.arena.value = search rules in
    ap (λ (l : List Entry). acting c.args.number l) same ∙ acting_again c.args.number c.self.inside.number c.self.inside.arena.value c.requires ∙ ap (λ (l : List Entry). under_number c.args.number l) c.self.view_is
