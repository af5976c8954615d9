use Rattle.std.proofs.Common.{◌≡◌, ◌+◌, Some, None, true, false, ap, sym, ◌∙◌, arith, length, slice_get, nat_lt, nat_le, lit<}
use Rattle.std.specs.Option.{option_copied}
use Rattle.st_base.specs.Entries.{add_charge}
use Rattle.st_model.specs.State.{greatest_number}
use Rattle.st_model.specs.Apply.{write_charge}
use Rattle.st_model.specs.declared.refusal.Refusal.TheVariants.{UnknownFamily}
use Rattle.log_engine.specs.Op.{strangers}
use Rattle.log_engine.proofs.Default.{stranger_first, first_is, numbers_first, place_first, charge_first, none_first, is_over, is_not_over, is_below, is_not_below, is_at_most, is_not_at_most}
use Rattle.log_engine.proofs.store.MarkStore.first_refusal.Goals as goal

pub returns-in-Some-clause-first : goal.returns-in-Some-clause-first
returns-in-Some-clause-first c = λ state h.
    let there : slice_get (strangers c.args.ops.now) 0 ≡ Some c.in-Some.family.now = sym c.in-Some.ensures in
    ap (λ name. Some (UnknownFamily name)) c.in_ok-clone.ensures.cases
    ∙ stranger_first state h.family c.args.self.now.capacity c.args.ops.now c.in-Some.family.now (record { families = h.families }) there

pub returns-then-saturating_add-gt-GREATEST_NUMBER-clause-first : goal.returns-then-saturating_add-gt-GREATEST_NUMBER-clause-first
returns-then-saturating_add-gt-GREATEST_NUMBER-clause-first c = λ state h.
    let none : slice_get (strangers c.args.ops.now) 0 ≡ None = sym c.first_stranger.ensures ∙ ap option_copied c.in_default.is in
    let over : nat_lt greatest_number (state.last + length c.args.ops.now) ≡ true =
    ap (λ last. nat_lt greatest_number (last + length c.args.ops.now)) h.last ∙ is_over greatest_number c.args.self.now.last (length c.args.ops.now) (lit< tt) (omega arith) in
    first_is state h.family c.args.self.now.capacity c.args.ops.now _ (record { families = h.families }) none (numbers_first _ _ _ over)

pub returns-then-self-ge-GREATEST_NUMBER-clause-first : goal.returns-then-self-ge-GREATEST_NUMBER-clause-first
returns-then-self-ge-GREATEST_NUMBER-clause-first c = λ state h.
    let none : slice_get (strangers c.args.ops.now) 0 ≡ None = sym c.first_stranger.ensures ∙ ap option_copied c.in_default.is in
    let fits : nat_lt greatest_number (state.last + length c.args.ops.now) ≡ false =
    ap (λ last. nat_lt greatest_number (last + length c.args.ops.now)) h.last ∙ is_not_over greatest_number c.args.self.now.last (length c.args.ops.now) (lit< tt) (omega arith) in
    let spent : nat_le greatest_number state.place ≡ true = ap (nat_le greatest_number) h.place ∙ is_at_most greatest_number c.args.self.now.place (omega arith) in
    first_is state h.family c.args.self.now.capacity c.args.ops.now _ (record { families = h.families }) none (place_first _ _ _ fits spent)

pub returns-then-charge_with-self-clause-first : goal.returns-then-charge_with-self-clause-first
returns-then-charge_with-self-clause-first c = λ state h.
    let none : slice_get (strangers c.args.ops.now) 0 ≡ None = sym c.first_stranger.ensures ∙ ap option_copied c.in_default.is in
    let fits : nat_lt greatest_number (state.last + length c.args.ops.now) ≡ false =
    ap (λ last. nat_lt greatest_number (last + length c.args.ops.now)) h.last ∙ is_not_over greatest_number c.args.self.now.last (length c.args.ops.now) (lit< tt) (omega arith) in
    let left : nat_le greatest_number state.place ≡ false = ap (nat_le greatest_number) h.place ∙ is_not_at_most greatest_number c.args.self.now.place (omega arith) in
    let full : nat_lt c.args.self.now.capacity (add_charge state.charge (write_charge c.args.ops.now)) ≡ true =
    ap (λ charge. nat_lt c.args.self.now.capacity (add_charge charge (write_charge c.args.ops.now))) h.charge ∙ ap (nat_lt c.args.self.now.capacity) (sym c.charge_with.ensures) ∙ is_below c.args.self.now.capacity c.charge_with.result (omega arith) in
    first_is state h.family c.args.self.now.capacity c.args.ops.now _ (record { families = h.families }) none (charge_first _ _ _ fits left full)

pub returns-clause-first : goal.returns-clause-first
returns-clause-first c = λ state h.
    let none : slice_get (strangers c.args.ops.now) 0 ≡ None = sym c.first_stranger.ensures ∙ ap option_copied c.in_default.is in
    let fits : nat_lt greatest_number (state.last + length c.args.ops.now) ≡ false =
    ap (λ last. nat_lt greatest_number (last + length c.args.ops.now)) h.last ∙ is_not_over greatest_number c.args.self.now.last (length c.args.ops.now) (lit< tt) (omega arith) in
    let left : nat_le greatest_number state.place ≡ false = ap (nat_le greatest_number) h.place ∙ is_not_at_most greatest_number c.args.self.now.place (omega arith) in
    let room : nat_lt c.args.self.now.capacity (add_charge state.charge (write_charge c.args.ops.now)) ≡ false =
    ap (λ charge. nat_lt c.args.self.now.capacity (add_charge charge (write_charge c.args.ops.now))) h.charge ∙ ap (nat_lt c.args.self.now.capacity) (sym c.charge_with.ensures) ∙ is_not_below c.args.self.now.capacity c.charge_with.result (omega arith) in
    first_is state h.family c.args.self.now.capacity c.args.ops.now _ (record { families = h.families }) none (none_first _ _ _ fits left room)
