use Rattle.std.proofs.Common.{◌≡◌, drop, fold, cond}
use Rattle.st_model.specs.Asked.{takes_snapshot, snapshot_taken, last_snapshot}
use Rattle.plain_legal.proofs.asks.last_snapshot.Given as goal

-- the snapshot of the calls before the index, and those behind it
abbrev pub invariant-loop-call : goal.invariant-loop-call
invariant-loop-call l =
    last_snapshot l.name l.calls
    ≡ fold (λ before call. cond (takes_snapshot l.name call.asked.command) (snapshot_taken call.place call.reply) before) l.last (drop l.call-index l.calls)
