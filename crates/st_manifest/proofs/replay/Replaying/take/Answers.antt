use Rattle.std.proofs.Common.{◌∙◌, List, ℕ, Option, Some, ap, arith, drop, map, subst, sym}
use Rattle.st_manifest.specs.Edit.{as_edit}
use Rattle.st_manifest.specs.Payload.{payload_read}
use Rattle.st_manifest.specs.Reads.{IsPayloadRead}
use Rattle.st_manifest.specs.Replaying.{group_damage}
use Rattle.st_manifest.specs.declared.edit.Edit.{Edit}
use Rattle.st_manifest.proofs.Taking.{group_within, nothing_left, positive, take_begun, take_whole}
use Rattle.st_manifest.proofs.replay.Replaying.take.Goals as goal

pub returns-then-left-gt0 : goal.returns-then-left-gt0
returns-then-left-gt0 c = λ reading found so.
    let old = c.args.self.now in
    let edits = c.read_payload.new.out in
    let read = subst (λ (p : List ℕ). IsPayloadRead (Some c.in-Some.left) old.edits edits (payload_read p)) c.as_slice-payload.ensures
    (subst (λ (r : Option ℕ). IsPayloadRead r old.edits edits (payload_read c.as_slice-payload.result.now)) c.in-Some.is c.in_ok-left.ensures) in
    take_begun old c.args.one.now c.in-Some.left edits read reading found so (sym c.follows_left.ensures ∙ c.if-not-follows_left.false) c.judge_record.new.index c.in_ok-self.field-0 c.edits_from.result.now
    (c.edits_from.ensures ∙ (λ i. drop (c.len-from.ensures i) (c.as_slice-edits.ensures i))) (λ so_far k named. c.in_ok-self.ensures so_far k named)
    (positive c.in-Some.left (let some = c.if-left-gt0.true in omega (arith, some)))

pub edits_from-group-requires : goal.edits_from-group-requires
edits_from-group-requires c =
    let old = c.args.self.now in
    let edits = c.read_payload.new.out in
    group_within old.edits edits c.as_slice-edits.result.now c.in-Some.left (payload_read c.as_slice-payload.result.now)
    (subst (λ (r : Option ℕ). IsPayloadRead r old.edits edits (payload_read c.as_slice-payload.result.now)) c.in-Some.is c.in_ok-left.ensures) old.whole c.requires c.as_slice-edits.ensures

pub returns : goal.returns
returns c = λ reading found so.
    let old = c.args.self.now in
    let edits = c.read_payload.new.out in
    let read = subst (λ (p : List ℕ). IsPayloadRead (Some c.in-Some.left) old.edits edits (payload_read p)) c.as_slice-payload.ensures
    (subst (λ (r : Option ℕ). IsPayloadRead r old.edits edits (payload_read c.as_slice-payload.result.now)) c.in-Some.is c.in_ok-left.ensures) in
    take_whole old c.args.one.now c.in-Some.left edits read reading found so (sym c.follows_left.ensures ∙ c.if-not-follows_left.false) c.judge_record.new.index c.in_ok-self.field-0 c.edits_from.result.now
    (c.edits_from.ensures ∙ (λ i. drop (c.len-from.ensures i) (c.as_slice-edits.ensures i))) (λ so_far k named. c.in_ok-self.ensures so_far k named)
    (nothing_left c.in-Some.left (let none = c.if-left-gt0.false in omega (arith, none))) (Rattle.std.proofs.Common.length c.as_slice-edits.result.now) (ap Rattle.std.proofs.Common.length c.as_slice-edits.ensures)
    c.group_damage-damage.result
    (c.group_damage-damage.ensures ∙ ap (λ (l : List Edit). group_damage c.in_ok-self.field-0 (map as_edit l) c.args.one.now.at) (c.edits_from-group.ensures ∙ ap (λ (l : List Edit). drop old.whole l) c.as_slice-edits.ensures))
