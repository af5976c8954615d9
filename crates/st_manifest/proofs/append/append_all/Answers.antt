use Rattle.std.proofs.Common.{◌∙◌, ap, arith, subst, List, ℕ}
use Rattle.st_device.specs.Disk.{OnlyFile}
use Rattle.st_device.proofs.Moments.{passes_then}
use Rattle.st_gate.specs.Kind.{kind_bytes}
use Rattle.st_gate.specs.Log.{IsBeforeOrAfter, gate_record, next_gate, replayed}
use Rattle.st_gate.specs.Rest.{records}
use Rattle.std.specs.Prelude.{◌++◌, ◌∷◌, []}
use Rattle.st_manifest.proofs.Appending.{all_goes_on, at_goes_on, laid_goes_on, laid_whole}
use Rattle.st_manifest.proofs.append.append_all.Goals as goal

pub returns-in_err-append_one-clause-crash : goal.returns-in_err-append_one-clause-crash
returns-in_err-append_one-clause-crash g c = λ honest.
    let inv = c.loop-payload.invariant in
    let a = g.D.Disk.tells c.args.disk.now in
    let b = g.D.Disk.tells c.loop-payload.disk in
    let mid = c.loop-payload.log in
    let step = subst (λ (p : List ℕ). OnlyFile mid.file (λ this. IsBeforeOrAfter (records mid b) p mid.at (replayed (kind_bytes mid.kind) this)) b (g.D.Disk.tells c.append_one.new.disk)) c.as_slice.ensures (c.append_one.ensures.crash (inv.passes.honest_on honest)) in
    laid_goes_on c.args.log.now c.args.payloads.now a mid c.loop-payload.payload-index inv.passes inv.kind inv.file inv.at (inv.all honest) (inv.crash honest) c.payload-item.result c.loop-payload-test.true c.payload-item.is c.append_one.ensures.disk.passes step

pub loop-payload-preserved : goal.loop-payload-preserved
loop-payload-preserved g c =
    let inv = c.loop-payload.invariant in
    let a = g.D.Disk.tells c.args.disk.now in
    let b = g.D.Disk.tells c.loop-payload.disk in
    let mid = c.loop-payload.log in
    let next = c.append_one.ensures in
    record {
      passes = passes_then inv.passes next.disk.passes;
      top = next.disk.top ∙ inv.top;
      kind = next.kind ∙ inv.kind;
      file = next.file ∙ inv.file;
      at = at_goes_on c.args.log.now.at c.args.payloads.now c.loop-payload.payload-index c.payload-item.result mid.at c.append_one.new.log.at c.loop-payload-test.true c.payload-item.is inv.at (c.in_ok-append_one.ensures.moved ∙ ap (λ (p : List ℕ). next_gate mid.at p) c.as_slice.ensures);
      crash = λ honest. laid_goes_on c.args.log.now c.args.payloads.now a mid c.loop-payload.payload-index inv.passes inv.kind inv.file inv.at (inv.all honest) (inv.crash honest) c.payload-item.result c.loop-payload-test.true c.payload-item.is next.disk.passes
          (subst (λ (p : List ℕ). OnlyFile mid.file (λ this. IsBeforeOrAfter (records mid b) p mid.at (replayed (kind_bytes mid.kind) this)) b (g.D.Disk.tells c.append_one.new.disk)) c.as_slice.ensures (next.crash (inv.passes.honest_on honest)));
      rest = λ honest. (c.in_ok-append_one.ensures.ok (inv.passes.honest_on honest)).0;
      all = λ honest. all_goes_on c.args.log.now c.args.payloads.now a mid c.loop-payload.payload-index inv.passes inv.kind inv.file inv.at (inv.all honest) (inv.crash honest) c.payload-item.result c.loop-payload-test.true c.payload-item.is (records c.append_one.new.log (g.D.Disk.tells c.append_one.new.disk))
          ((c.in_ok-append_one.ensures.ok (inv.passes.honest_on honest)).1 ∙ ap (λ (p : List ℕ). records mid b ++ gate_record mid.at p ∷ []) c.as_slice.ensures);
    }

pub returns-clause-ok : goal.returns-clause-ok
returns-clause-ok g c = λ honest. (
  c.loop-payload.invariant.rest honest,
  laid_whole (records c.args.log.now (g.D.Disk.tells c.args.disk.now)) (records c.loop-payload.log (g.D.Disk.tells c.loop-payload.disk)) c.args.log.now.at c.args.payloads.now c.loop-payload.payload-index (let past = c.loop-payload-test.false in omega (arith, past)) (c.loop-payload.invariant.all honest),
)
