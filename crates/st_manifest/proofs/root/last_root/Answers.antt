use Rattle.std.proofs.Common.{◌∙◌, ap, sym, arith, List, ℕ}
use Rattle.st_manifest.specs.Root.{root_payload}
use Rattle.st_manifest.proofs.Rooting.{root_ends, root_goes_on, root_stops}
use Rattle.st_manifest.proofs.root.last_root.Goals as goal

pub returns-in-None : goal.returns-in-None
returns-in-None c = sym (root_stops c.args.records.now c.loop-one.one-index c.loop-one.last c.loop-one.invariant c.one-item.result c.loop-one-test.true c.one-item.is
    (ap (λ (p : List ℕ). root_payload p) (sym c.as_slice.ensures) ∙ sym c.read_root.ensures ∙ c.in-None.is))

pub loop-one-preserved : goal.loop-one-preserved
loop-one-preserved c = root_goes_on c.args.records.now c.loop-one.one-index c.loop-one.last c.loop-one.invariant c.one-item.result c.loop-one-test.true c.one-item.is c.in-Some.found
    (ap (λ (p : List ℕ). root_payload p) (sym c.as_slice.ensures) ∙ sym c.read_root.ensures ∙ c.in-Some.is)

pub returns : goal.returns
returns c = sym (root_ends c.args.records.now c.loop-one.one-index c.loop-one.last c.loop-one.invariant (omega arith))
