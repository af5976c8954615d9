use Rattle.std.proofs.Common.{◌<◌, ◌≤◌, ◌∙◌, ap, arith, subst, sym, length, Option, ℕ}
use Rattle.std.specs.Prelude.{IfSome}
use Rattle.st_manifest.specs.Edit.{shown_edit}
use Rattle.st_manifest.specs.declared.edit.Edit.{Edit}
use Rattle.st_manifest.proofs.Reading.{so_start, so_more, so_end}
use Rattle.st_manifest.proofs.payload.read_edits.Goals as goal

pub loop-at-init : goal.loop-at-init
loop-at-init c = record { within = c.requires; so_far = so_start c.args.payload.now c.args.out.now }

pub loop-at-preserved : goal.loop-at-preserved
loop-at-preserved c =
    let within = subst (λ (found : Option (Edit × ℕ)). IfSome found (λ read. (c.loop-at.at < read.1) × (read.1 ≤ length c.args.payload.now))) c.in-Some.is c.in_ok-edit.ensures.within in
    record {
      within = within.1;
      so_far = so_more c.args.payload.now c.args.out.now c.loop-at.at c.loop-at.out c.loop-at.invariant.so_far c.in-Some.edit c.in-Some.next c.push.new.self c.loop-at-test.true within.0
          (sym c.in_ok-edit.ensures.value ∙ ap shown_edit c.in-Some.is) c.in_ok-push.ensures.ok;
    }

pub returns : goal.returns
returns c = so_end c.args.payload.now c.args.out.now c.loop-at.at c.loop-at.out c.loop-at.invariant.so_far (let within = c.loop-at.invariant.within in let past = c.loop-at-test.false in omega (arith, within, past))
