use Rattle.std.proofs.Common.{◌≡◌, ℕ, ◌++◌, ◌+◌, ◌-◌, length, take, drop, Less, Greater, sym, ap, ◌∙◌, arith}
use Rattle.std.specs.Int.{w64, from_le_bytes}
use Rattle.st_block.proofs.Fronts.{length_new, internal_is, internal_tied}
use Rattle.st_block.proofs.keys.is_internal_after.Goals as goal

pub returns-in-Less : goal.returns-in-Less
returns-in-Less c =
    let new = take c.args.shared c.args.before.now ++ c.args.others.now in
    internal_is c.args.before.now new (c.args.shared + length c.args.others.now - 8) Less (omega (arith, length_new c.args.before.now c.args.others.now c.args.shared c.requires.shared)) c.in-Less.ensures

pub returns-in-Equal : goal.returns-in-Equal
returns-in-Equal c =
    let new = take c.args.shared c.args.before.now ++ c.args.others.now in
    let at : c.args.shared + length c.args.others.now - 8 ≡ length new - 8 = omega (arith, length_new c.args.before.now c.args.others.now c.args.shared c.requires.shared) in
    internal_tied c.args.before.now new (c.args.shared + length c.args.others.now - 8) c.word_at.result c.packed.result (sym at) c.in-Equal.ensures
    (c.word_at.ensures ∙ ap (λ (k : ℕ). from_le_bytes w64 (drop k new)) at) c.packed.ensures

pub returns-in-Greater : goal.returns-in-Greater
returns-in-Greater c =
    let new = take c.args.shared c.args.before.now ++ c.args.others.now in
    internal_is c.args.before.now new (c.args.shared + length c.args.others.now - 8) Greater (omega (arith, length_new c.args.before.now c.args.others.now c.args.shared c.requires.shared)) c.in-Greater.ensures
