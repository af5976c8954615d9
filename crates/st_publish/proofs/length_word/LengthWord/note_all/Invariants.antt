use Rattle.std.proofs.Common.{◌≡◌, ◌++◌, map, take}
use Rattle.st_publish.proofs.length_word.LengthWord.note_all.Given as goal
use Rattle.st_publish.specs.History.{made}

abbrev pub invariant-loop-item : goal.invariant-loop-item
invariant-loop-item g l = (l.prefix.book ≡ l.fn.prefix.book) × (l.prefix.list ≡ l.fn.prefix.list ++ map (λ p. made p.0 (g.M.AsChange.change p.1) (g.M.AsChange.files p.1)) (take l.item-index l.items))
