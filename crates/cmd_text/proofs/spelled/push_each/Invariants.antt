use Rattle.std.proofs.Common.{◌≡◌, ◌++◌, map, take}
use Rattle.cmd_text.specs.Replies.{spaced}
use Rattle.cmd_text.proofs.spelled.push_each.Given as goal

abbrev pub invariant-loop-item : goal.invariant-loop-item
invariant-loop-item g l = l.out ≡ l.fn.out ++ spaced (map g.X.Spelled.spelling (take l.item-index l.items))
