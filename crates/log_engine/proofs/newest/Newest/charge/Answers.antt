use Rattle.std.proofs.Common.{◌∙◌, ap, map, sym}
use Rattle.st_base.specs.Entries.{add_charge}
use Rattle.st_model.specs.Contents.{as_entry, marks_charge}
use Rattle.log_engine.specs.Newest.{present}
use Rattle.log_engine.proofs.Rooms.{charge_some, charge_none}
use Rattle.log_engine.proofs.newest.Newest.charge.Goals as goal

pub loop-key-preserved-in-Some-slot : goal.loop-key-preserved-in-Some-slot
loop-key-preserved-in-Some-slot c =
    c.loop-key.invariant
    ∙ ap (λ pairs. marks_charge c.loop-key.sum (map as_entry (present pairs))) c.in-Some.ensures.steps
    ∙ charge_some c.loop-key.sum (c.in-Some.key.now, c.in-Some.slot.now) c.next.new.self c.in-Some-slot.mark c.in-Some-slot.is
    ∙ ap (λ n. marks_charge n (map as_entry (present c.next.new.self))) (ap (λ e. add_charge c.loop-key.sum e) (sym c.entry_charge.ensures) ∙ sym c.saturating_add-sum.ensures)

pub loop-key-preserved : goal.loop-key-preserved
loop-key-preserved c =
    c.loop-key.invariant
    ∙ ap (λ pairs. marks_charge c.loop-key.sum (map as_entry (present pairs))) c.in-Some.ensures.steps
    ∙ charge_none c.loop-key.sum (c.in-Some.key.now, c.in-Some.slot.now) c.next.new.self c.in_default.is
