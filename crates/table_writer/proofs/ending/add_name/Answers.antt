use Rattle.std.proofs.Common.{◌+◌, ◌*◌, ◌≤◌, [], ◌∷◌, ◌++◌, length, sym, subst, arith}
use Rattle.st_block.proofs.Writers.{finished_short}
use Rattle.st_block.specs.Written.{HoldsPairs, Writing}
use Rattle.table_writer.proofs.Sizes.{added_short}
use Rattle.table_writer.proofs.ending.add_name.Goals as goal

pub add-requires-clause-room : goal.add-requires-clause-room
add-requires-clause-room c = omega (arith, c.requires, finished_short c.args.writer.now c.args.name.now c.args.value.now)

pub returns-clause-size : goal.returns-clause-size
returns-clause-size c =
    let w = c.args.writer.now in
    subst (λ (v : Writing). length v.entries + 4 * length v.restarts ≤ length w.entries + 4 * length w.restarts + length c.args.name.now + length c.args.value.now + 34) (sym c.in_ok-add.ensures.ok) (added_short w c.args.name.now c.args.value.now)

pub returns-clause-holds : goal.returns-clause-holds
returns-clause-holds c = λ pairs h.
    subst (λ (v : Writing). HoldsPairs v (pairs ++ (c.args.name.now, c.args.value.now) ∷ [])) (sym c.in_ok-add.ensures.ok)
    (c.writer_holds_what_is_added.ensures c.args.writer.now pairs c.args.name.now c.args.value.now h)
