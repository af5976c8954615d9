use Rattle.std.proofs.Common.{refl}
use Rattle.core_model.specs.Commit.{outline}
use Rattle.st_core.proofs.Refusals.{write_first}
use Rattle.st_core.proofs.machine.CoreOf.write_refusal.Goals as goal

pub returns-in-Some-clause-value : goal.returns-in-Some-clause-value
returns-in-Some-clause-value g c =
    rw (write_first (outline c.args.self.now) c.args.self.now.capacity c.args.ops.now, ← c.unknown.ensures, c.in-Some.is, c.in_ok-clone.ensures.cases, c.op_family.ensures) refl

pub returns-then-are_numbers_spent-clause-value : goal.returns-then-are_numbers_spent-clause-value
returns-then-are_numbers_spent-clause-value g c =
    rw (write_first (outline c.args.self.now) c.args.self.now.capacity c.args.ops.now, ← c.unknown.ensures, c.in_default.is, ← c.are_numbers_spent.ensures, c.if-are_numbers_spent.true) refl

pub returns-then-is_place_spent-clause-value : goal.returns-then-is_place_spent-clause-value
returns-then-is_place_spent-clause-value g c =
    rw (
      write_first (outline c.args.self.now) c.args.self.now.capacity c.args.ops.now,
      ← c.unknown.ensures,
      c.in_default.is,
      ← c.are_numbers_spent.ensures,
      c.if-are_numbers_spent.false,
      ← c.is_place_spent.ensures,
      c.if-is_place_spent.true,
    ) refl

pub returns-then-is_full-clause-value : goal.returns-then-is_full-clause-value
returns-then-is_full-clause-value g c =
    rw (
      write_first (outline c.args.self.now) c.args.self.now.capacity c.args.ops.now,
      ← c.unknown.ensures,
      c.in_default.is,
      ← c.are_numbers_spent.ensures,
      c.if-are_numbers_spent.false,
      ← c.is_place_spent.ensures,
      c.if-is_place_spent.false,
      ← c.is_full.ensures,
      c.if-is_full.true,
    ) refl

pub returns-clause-value : goal.returns-clause-value
returns-clause-value g c =
    rw (
      write_first (outline c.args.self.now) c.args.self.now.capacity c.args.ops.now,
      ← c.unknown.ensures,
      c.in_default.is,
      ← c.are_numbers_spent.ensures,
      c.if-are_numbers_spent.false,
      ← c.is_place_spent.ensures,
      c.if-is_place_spent.false,
      ← c.is_full.ensures,
      c.if-is_full.false,
    ) refl
