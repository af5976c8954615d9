use Rattle.std.proofs.Common.{◌≡◌, ◌⊎◌, ◌∙◌, ◌+◌, ◌++◌, ◌∷◌, ℕ, List, Option, Some, None, length, map, slice_get, inl, ap, sym, subst, refl}
use Rattle.std.proofs.lemmas.List.{length-map}
use Rattle.st_model.specs.declared.change.Op.{Op}
use Rattle.st_model.specs.declared.refusal.Refusal.{Refusal}
use Rattle.st_model.specs.declared.refusal.Refusal.TheVariants.{DiskFault}
use Rattle.st_model.specs.declared.state.ModelState.{ModelState}
use Rattle.st_model.specs.Answer.{write_refusals}
use Rattle.st_model.specs.Apply.{write_charge}
use Rattle.st_base.specs.Entries.{add_charge}
use Rattle.st_wal.specs.Batch.{LogBatch, batch_of}
use Rattle.st_wal.specs.Logged.{logged_record}
use Rattle.st_wal.specs.Wal.{IsReady, operations}
use Rattle.log_engine.specs.Newest.{newest_at}
use Rattle.log_engine.specs.Op.{logged_op, marks_after_all}
use Rattle.log_engine.specs.MarkStore.{IsAdvanced, IsFirst, StandsForState}
use Rattle.log_engine.proofs.Writing.{either_answer, err_fact, err_map, if_err_gives, if_err_map, ok_both, same_advanced, same_holds, same_marks, same_stands, stands_written, tied_opens, write_after, write_leaves, write_tied}
use Rattle.log_engine.proofs.engine.Engine.write.Goals as goal

-- ---- refused before the disk is called

pub returns-in_err-prepared-clause-refused : goal.returns-in_err-prepared-clause-refused
returns-in_err-prepared-clause-refused g c =
    let store = c.args.self.now.store in
    let first : List Op → Refusal → Type 0 = λ ops refusal. (state : ModelState) → StandsForState store state → IsFirst (write_refusals state store.capacity ops) refusal in
    if_err_gives (first c.args.batch.now.ops) c.from_residual.result c.in_err-prepared.field-0.0 c.from_residual.ensures.1
    (subst (λ (ops : List Op). first ops c.in_err-prepared.field-0.0) c.as_slice.ensures c.in_err-prepared.ensures.refused)

pub returns-in_err-prepared-clause-unchanged : goal.returns-in_err-prepared-clause-unchanged
returns-in_err-prepared-clause-unchanged g c = err_fact c.from_residual.result (λ state h. same_stands c.args.self.now.store c.prepare.new.self state c.prepare.ensures.unchanged h)

pub returns-in_err-prepared-clause-crash : goal.returns-in_err-prepared-clause-crash
returns-in_err-prepared-clause-crash g c = λ honest running state h image left.
    inl (tied_opens c.args.self.now.wal c.args.self.now.store state (c.requires.ready honest running) h image ((g.met.D.Disk.clock c.args.self.now.disk).only_now image left))

pub returns-in_err-prepared-clause-ready : goal.returns-in_err-prepared-clause-ready
returns-in_err-prepared-clause-ready g c = λ honest running.
    let tied = c.requires.ready honest running in
    record { on_disk = tied.on_disk; holds = same_holds c.args.self.now.store c.prepare.new.self _ c.prepare.ensures.unchanged tied.holds }

-- ---- on the disk

not_stopped : {X : Type 0} (o : Option X) → Rattle.std.specs.Option.is_some o ≡ Rattle.std.proofs.Common.false → o ≡ None
not_stopped None e = refl
not_stopped (Some x) e = absurd (cc e)

pub append-requires-clause-tied : goal.append-requires-clause-tied
append-requires-clause-tied g c = λ honest.
    let tied = c.requires.ready honest (not_stopped c.args.self.now.stopped (sym c.is_some.ensures ∙ c.if-is_some.false)) in
    record { on_disk = tied.on_disk; holds = same_holds c.args.self.now.store c.prepare.new.self _ c.prepare.ensures.unchanged tied.holds }

pub returns-clause-accepted : goal.returns-clause-accepted
returns-clause-accepted g c =
    let store = c.args.self.now.store in
    let batch = c.args.batch.now in
    let mid = c.prepare.new.self in
    let new = c.append.new.self.store in
    let made = c.in_ok-prepared.ensures in
    let ops : c.in_ok-prepared.prepared.ops.items ≡ map logged_op batch.ops = made.ops ∙ ap (map logged_op) c.as_slice.ensures in
    let count : length c.in_ok-prepared.prepared.ops.items ≡ length batch.ops = ap length ops ∙ length-map batch.ops logged_op in
    let charge : c.in_ok-prepared.prepared.charge ≡ add_charge store.charge (write_charge batch.ops) = made.charge ∙ ap (λ (l : List Op). add_charge store.charge (write_charge l)) c.as_slice.ensures in
    let unrefused : (state : ModelState) → StandsForState store state → slice_get (write_refusals state store.capacity batch.ops) 0 ≡ None =
    subst (λ (l : List Op). (state : ModelState) → StandsForState store state → slice_get (write_refusals state store.capacity l) 0 ≡ None) c.as_slice.ensures made.unrefused in
    ok_both c.append.result
    (λ (marks : (key : List ℕ) → newest_at new.newest key ≡ marks_after_all (newest_at mid.newest) c.in_ok-prepared.prepared.ops.items key) (numbers : IsAdvanced mid new (length c.in_ok-prepared.prepared.ops.items) c.in_ok-prepared.prepared.charge).
    λ (state : ModelState) (h : StandsForState store state).
    stands_written store state batch h (unrefused state h) new c.in_ok-prepared.prepared.charge (same_advanced store mid new (length batch.ops) _ _ count made.unchanged numbers) charge
    (same_marks store.newest mid.newest new.newest (map logged_op batch.ops) _ ops made.unchanged.marks marks))
    c.append.ensures.marks c.append.ensures.numbers

pub returns-clause-refused : goal.returns-clause-refused
returns-clause-refused g c =
    let store = c.args.self.now.store in
    let batch = c.args.batch.now in
    let unrefused : (state : ModelState) → StandsForState store state → slice_get (write_refusals state store.capacity batch.ops) 0 ≡ None =
    subst (λ (l : List Op). (state : ModelState) → StandsForState store state → slice_get (write_refusals state store.capacity l) 0 ≡ None) c.as_slice.ensures c.in_ok-prepared.ensures.unrefused in
    if_err_map (λ (refusal : Refusal). refusal ≡ DiskFault) (λ (refusal : Refusal). (state : ModelState) → StandsForState store state → IsFirst (write_refusals state store.capacity batch.ops) refusal) c.append.result
    (λ refusal is state h. subst (λ (r : Refusal). IsFirst (write_refusals state store.capacity batch.ops) r) (sym is) (unrefused state h)) c.append.ensures.fault

pub returns-clause-unchanged : goal.returns-clause-unchanged
returns-clause-unchanged g c =
    let store = c.args.self.now.store in
    err_map c.append.result
    (λ is. λ (state : ModelState) (h : StandsForState store state). subst (λ s. StandsForState s state) (sym is) (same_stands store c.prepare.new.self state c.in_ok-prepared.ensures.unchanged h)) c.append.ensures.unchanged

pub returns-clause-crash : goal.returns-clause-crash
returns-clause-crash g c = λ honest running state h.
    let store = c.args.self.now.store in
    let batch = c.args.batch.now in
    let made = c.in_ok-prepared.ensures in
    let payload = c.in_ok-prepared.prepared.encoded in
    let logged : List Op → Option LogBatch = λ l. Some (record { first = store.last + 1; operations = map logged_op l }) in
    let encoded : batch_of payload ≡ logged batch.ops = made.encoded ∙ ap logged c.as_slice.ensures in
    let unrefused = subst (λ (l : List Op). slice_get (write_refusals state store.capacity l) 0 ≡ None) c.as_slice.ensures (made.unrefused state h) in
    write_leaves c.args.self.now.wal store batch payload (c.requires.ready honest running) encoded (c.append.ensures.log honest) state h unrefused

pub returns-clause-after : goal.returns-clause-after
returns-clause-after g c = λ honest.
    let store = c.args.self.now.store in
    let batch = c.args.batch.now in
    let mid = c.prepare.new.self in
    let new = c.append.new.self.store in
    let made = c.in_ok-prepared.ensures in
    let payload = c.in_ok-prepared.prepared.encoded in
    let tied = c.requires.ready honest (not_stopped c.args.self.now.stopped (sym c.is_some.ensures ∙ c.if-is_some.false)) in
    let logged : List Op → Option LogBatch = λ l. Some (record { first = store.last + 1; operations = map logged_op l }) in
    let encoded : batch_of payload ≡ logged batch.ops = made.encoded ∙ ap logged c.as_slice.ensures in
    let ops : c.in_ok-prepared.prepared.ops.items ≡ map logged_op batch.ops = made.ops ∙ ap (map logged_op) c.as_slice.ensures in
    let count : length c.in_ok-prepared.prepared.ops.items ≡ length batch.ops = ap length ops ∙ length-map batch.ops logged_op in
    let unrefused : (state : ModelState) → StandsForState store state → slice_get (write_refusals state store.capacity batch.ops) 0 ≡ None =
    subst (λ (l : List Op). (state : ModelState) → StandsForState store state → slice_get (write_refusals state store.capacity l) 0 ≡ None) c.as_slice.ensures made.unrefused in
    ok_both c.append.result
    (λ (both : ((key : List ℕ) → newest_at new.newest key ≡ marks_after_all (newest_at mid.newest) c.in_ok-prepared.prepared.ops.items key) × IsAdvanced mid new (length c.in_ok-prepared.prepared.ops.items) c.in_ok-prepared.prepared.charge) (ready : IsReady c.append.new.self.wal (g.D.Disk.tells c.append.new.self.disk) × (operations c.append.new.self.wal (g.D.Disk.tells c.append.new.self.disk) ≡ operations c.args.self.now.wal (g.D.Disk.tells c.args.self.now.disk) ++ logged_record c.args.self.now.wal.log.at payload)).
    λ (state : ModelState) (h : StandsForState store state).
    write_after c.args.self.now.wal store batch payload tied encoded (c.append.ensures.log honest) c.append.new.self.wal new c.in_ok-prepared.prepared.charge c.append.ensures.disk.passes c.append.ensures.file ready.0 ready.1
    (same_advanced store mid new (length batch.ops) _ _ count made.unchanged both.1) (same_marks store.newest mid.newest new.newest (map logged_op batch.ops) _ ops made.unchanged.marks both.0) state h (unrefused state h))
    (ok_both c.append.result
    (λ (marks : (key : List ℕ) → newest_at new.newest key ≡ marks_after_all (newest_at mid.newest) c.in_ok-prepared.prepared.ops.items key) (numbers : IsAdvanced mid new (length c.in_ok-prepared.prepared.ops.items) c.in_ok-prepared.prepared.charge). (marks, numbers)) c.append.ensures.marks c.append.ensures.numbers)
    (c.append.ensures.ready honest)

pub returns-clause-ready : goal.returns-clause-ready
returns-clause-ready g c = λ honest_new running.
    let honest = c.append.ensures.disk.passes.honest_back honest_new in
    let store = c.args.self.now.store in
    let batch = c.args.batch.now in
    let mid = c.prepare.new.self in
    let new = c.append.new.self.store in
    let made = c.in_ok-prepared.ensures in
    let payload = c.in_ok-prepared.prepared.encoded in
    let tied = c.requires.ready honest (not_stopped c.args.self.now.stopped (sym c.is_some.ensures ∙ c.if-is_some.false)) in
    let logged : List Op → Option LogBatch = λ l. Some (record { first = store.last + 1; operations = map logged_op l }) in
    let encoded : batch_of payload ≡ logged batch.ops = made.encoded ∙ ap logged c.as_slice.ensures in
    let ops : c.in_ok-prepared.prepared.ops.items ≡ map logged_op batch.ops = made.ops ∙ ap (map logged_op) c.as_slice.ensures in
    let count : length c.in_ok-prepared.prepared.ops.items ≡ length batch.ops = ap length ops ∙ length-map batch.ops logged_op in
    either_answer c.append.result
    (ok_both c.append.result
    (λ (both : ((key : List ℕ) → newest_at new.newest key ≡ marks_after_all (newest_at mid.newest) c.in_ok-prepared.prepared.ops.items key) × IsAdvanced mid new (length c.in_ok-prepared.prepared.ops.items) c.in_ok-prepared.prepared.charge) (ready : IsReady c.append.new.self.wal (g.D.Disk.tells c.append.new.self.disk) × (operations c.append.new.self.wal (g.D.Disk.tells c.append.new.self.disk) ≡ operations c.args.self.now.wal (g.D.Disk.tells c.args.self.now.disk) ++ logged_record c.args.self.now.wal.log.at payload)).
    write_tied c.args.self.now.wal store batch payload tied encoded (c.append.ensures.log honest) c.append.new.self.wal new c.in_ok-prepared.prepared.charge c.append.ensures.disk.passes c.append.ensures.file ready.0 ready.1
    (same_advanced store mid new (length batch.ops) _ _ count made.unchanged both.1) (same_marks store.newest mid.newest new.newest (map logged_op batch.ops) _ ops made.unchanged.marks both.0))
    (ok_both c.append.result
    (λ (marks : (key : List ℕ) → newest_at new.newest key ≡ marks_after_all (newest_at mid.newest) c.in_ok-prepared.prepared.ops.items key) (numbers : IsAdvanced mid new (length c.in_ok-prepared.prepared.ops.items) c.in_ok-prepared.prepared.charge). (marks, numbers)) c.append.ensures.marks c.append.ensures.numbers)
    (c.append.ensures.ready honest))
    (err_map c.append.result (λ stopped. absurd (cc (sym running ∙ stopped))) c.append.ensures.stopped)
