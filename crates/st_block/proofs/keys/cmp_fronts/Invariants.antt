use Rattle.std.proofs.Common.{◌≡◌, ◌++◌, take, drop}
use Rattle.st_base.specs.Bytes.{bytes_cmp}
use Rattle.st_block.proofs.keys.cmp_fronts.Given as goal

abbrev pub invariant-loop-index : goal.invariant-loop-index
invariant-loop-index l =
    let old = take l.front l.before in
    let new = take l.new_front (take l.shared l.before ++ l.others) in
    bytes_cmp old new ≡ bytes_cmp (drop l.index old) (drop l.index new)
