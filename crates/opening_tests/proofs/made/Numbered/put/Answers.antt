use Rattle.std.proofs.Common.{◌≡◌, ◌∷◌, ◌++◌, [], List, ◌∙◌, ap, arith}
use Rattle.st_base.specs.declared.entry.Entry.{Entry}
use Rattle.st_base.specs.declared.entry.Mark.TheVariants.{Gone}
use Rattle.opening_tests.proofs.Above.{stays_below}
use Rattle.opening_tests.proofs.made.Numbered.put.Goals as goal

pub invariant_of-result : goal.invariant_of-result
invariant_of-result c =
    let entry : Entry = record { key = c.args.key; number = c.args.number; mark = Gone } in
    stays_below entry c.self.inside.next c.self.inside.mem.entries _ c.in_ok-mem.mem.entries (omega (arith, c.if-number-self.false)) (c.in_ok-push.ensures.ok ∙ ap (λ (some : List Entry). some ++ entry ∷ []) c.new-entries.ensures) c.in_ok-mem.ensures.entries c.self.invariant
