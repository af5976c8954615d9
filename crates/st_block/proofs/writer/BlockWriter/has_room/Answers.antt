use Rattle.std.proofs.Common.{◌<◌, ◌^◌, length, subst, arith}
use Rattle.std.proofs.lemmas.Bool.{ltb-true}
use Rattle.st_block.specs.Written.{Writing, pair_added, finished_block}
use Rattle.st_block.proofs.Writers.{finished_short}
use Rattle.st_block.proofs.writer.BlockWriter.has_room.Goals as goal

pub returns-then-value-le-VALUE_BYTES-clause-room : goal.returns-then-value-le-VALUE_BYTES-clause-room
returns-then-value-le-VALUE_BYTES-clause-room c = λ h.
    let i = c.self.inside in
    let key = c.args.key.now in
    let value = c.args.value.now in
    let w : Writing = record { interval = i.interval; count = i.count; entries = i.entries; restarts = i.restarts; last = i.last } in
    let lt = ltb-true _ _ h in
    let short : length (finished_block (pair_added w key value)) < 2 ^ 32 = omega (arith, lt, finished_short w key value, c.len.ensures, c.len-then-value-le-VALUE_BYTES.ensures) in
    subst (λ (v : Writing). length (finished_block (pair_added v key value)) < 2 ^ 32) c.self.view_is short
