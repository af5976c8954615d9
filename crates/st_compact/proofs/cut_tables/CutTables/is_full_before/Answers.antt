use Rattle.std.proofs.Common.{List, ℕ, ◌-◌, not, length, ap, ◌∙◌}
use Rattle.std.specs.Prelude.{slice_get}
use Rattle.st_base.specs.Bytes.{same}
use Rattle.st_base.specs.declared.entry.Entry.{Entry}
use Rattle.st_compact.proofs.Cuts.{full_is}
use Rattle.st_compact.proofs.cut_tables.CutTables.is_full_before.Goals as goal

pub returns-then-self : goal.returns-then-self
returns-then-self c =
    c.ne.ensures ∙ ap (λ (key : List ℕ). not (same key c.as_bytes-then-self.result.now)) c.as_bytes.ensures.value ∙ ap (λ (key : List ℕ). not (same c.in-Some.last.now.key key)) c.as_bytes-then-self.ensures.value
    ∙ full_is c.args.self.now.target c.args.self.now.charge c.args.self.now.table c.args.entry.now c.in-Some.last.now c.if-self.true
    (c.in-Some.ensures.value ∙ ap (λ (entries : List Entry). slice_get entries (length entries - 1)) c.as_slice.ensures)
