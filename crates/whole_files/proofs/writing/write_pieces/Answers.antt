use Rattle.std.proofs.Common.{◌≡◌, ◌+◌, ◌-◌, ◌∙◌, ap, sym, arith, List, ℕ, Option, length, take, drop, rules}
use Rattle.std.proofs.lemmas.List.{length-take-le}
use Rattle.st_device.proofs.Calls.{changes_then}
use Rattle.st_device.proofs.File.{only_wrote}
use Rattle.whole_files.proofs.Pieces.{front_more, piece_more}
use Rattle.whole_files.proofs.writing.write_pieces.Goals as goal

abbrev Any : Option (List ℕ) → Type 0
Any this = Unit {0}

pub returns-in_err-write-clause-only : goal.returns-in_err-write-clause-only
returns-in_err-write-clause-only g c = λ honest.
    let past = c.loop-at.invariant in
    only_wrote c.args.file Any past.call.passes c.write.ensures.disk.passes (past.only honest) c.loop-at.at _ (c.write.ensures.told (past.call.passes.honest_on honest)) (λ o new was torn. tt)

pub loop-at-preserved : goal.loop-at-preserved
loop-at-preserved g c = let past = c.loop-at.invariant in record {
  within = omega (arith, c.min.ensures);
  call = changes_then past.call c.write.ensures.disk past.call.top (λ never. absurd never);
  only = λ honest. only_wrote c.args.file Any past.call.passes c.write.ensures.disk.passes (past.only honest) c.loop-at.at _ (c.write.ensures.told (past.call.passes.honest_on honest)) (λ o new was torn. tt);
  written = λ honest.
      piece_more (take c.loop-at.at c.args.bytes.now) _ c.loop-at.at _ _ (length-take-le c.loop-at.at c.args.bytes.now past.within) (past.written honest) (c.in_ok-write.ensures.told (past.call.passes.honest_on honest)).done
      ∙ front_more c.args.bytes.now c.loop-at.at c.min.result;
}
