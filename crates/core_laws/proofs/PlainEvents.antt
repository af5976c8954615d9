-- The events that touch no table: writes, snapshots, families, sealing, the turn's end, a job's end.
use Rattle.std.proofs.Common.{◌≡◌, ℕ, suc, ◌+◌, ◌<◌, ◌≤◌, Bool, true, false, cond, ◌||◌, not, ◌==◌, List, [], ◌∷◌, ◌++◌, length, map, filter, Option, Some, None, refl, sym, ap, ap₂, subst, subst₂, ◌∙◌, inl, inr, arith}
use Rattle.std.specs.Prelude.{Contains, IsTrue, IfSome, nat_lt}
use Rattle.std.specs.List.{list_any, AllByRecursion as Each}
use Rattle.st_base.specs.Bytes.{same}
use Rattle.st_base.specs.Entries.{add_charge}
use Rattle.st_base.specs.Map.{changed_at}
use Rattle.st_base.specs.declared.entry.Entry.{Entry}
use Rattle.st_model.specs.declared.change.Batch.{Batch}
use Rattle.st_model.specs.declared.change.Change.TheVariants as change
use Rattle.st_model.specs.declared.change.Op.{Op}
use Rattle.st_model.specs.declared.refusal.Refusal.{Refusal}
use Rattle.st_model.specs.declared.state.ModelFamily.{ModelFamily}
use Rattle.st_model.specs.declared.state.ModelState.{ModelState}
use Rattle.st_model.specs.declared.state.Snapshot.{Snapshot}
use Rattle.st_model.specs.Answer.{write_refusals, snap_refusals, place_spent, unknown_families, refused_if}
use Rattle.st_model.specs.Apply.{apply, op_family, op_entry, write_charge, with_ops as model_ops, names_rightly}
use Rattle.st_model.specs.State.{has_family, greatest_number}
use Rattle.st_model.specs.declared.refusal.Refusal.TheVariants.{UnknownFamily, NumbersSpent, StoreFull}
use Rattle.base_laws.proofs.Lists.{each_as, each_filter, each_join, each_map, map_each}
use Rattle.core_model.specs.Commit.{outline}
use Rattle.core_model.specs.Event.{request_of_parts, Event, Write, Snap, Release, TurnReturned}
use Rattle.core_model.specs.declared.reply.CoreReply.{CoreReply}
use Rattle.core_model.specs.declared.reply.CoreReply.TheVariants.{BatchWritten, SnapshotTaken, At, NotNow}
use Rattle.core_model.specs.Relation.{Represents}
use Rattle.core_model.specs.Picture.{FileEntries, FamilyView, Job, Turn, Core, all_tables, live_numbers}
use Rattle.core_model.specs.Request.{IsRequest, NamesThere}
use Rattle.st_model.specs.Refusals.{behind_refusals}
use Rattle.core_model.specs.Run.{IsCoreStep, Refines, accepts, next_state, state_after_event, answer_or}
use Rattle.core_model.specs.RelationParts.{HaveSame, IsFlush, IsKept, IsTurn, files_in_parts, FitsSizes}
use Rattle.core_model.specs.Step.{IsNow, RefusedOr, NoTurn, with_operations, with_memory_entry, with_batch, with_snapshot, without_snapshot, without_turn}
use Rattle.core_laws.proofs.ByPlace.{each_there}
use Rattle.core_laws.proofs.NamedLists.{Zipped, zip_to}
use Rattle.core_laws.proofs.Outline.{outline_refuses, snap_alike, place_alike, unknown_alike}
use Rattle.core_laws.proofs.FamilyPair.{IsRead, Pair, Stays, pairs_stand, rest_stands, stands_of, rest_left, stays_itself, zip_itself, zip_ids}
use Rattle.core_laws.proofs.ChangesSound.{apply_sound}
use Rattle.core_laws.proofs.WrittenFamily.{ops_written}
use Rattle.core_laws.proofs.FileColumns.{nil_left}
use Rattle.st_order.specs.Columns.{Pairwise}
use Rattle.core_laws.proofs.Members.{map_pairs, pairs_map}
use Rattle.core_laws.proofs.Lists.{pairs_filter, pairs_join}

-- ---- one step

-- where the event doesn't hold, nothing changes
pub not_now : (core : Core) (state : ModelState) (event : Event) (answer : CoreReply) (after : Core) → Represents core state → (IsNow core event → ⊥) × (answer ≡ NotNow) × (after ≡ core) → Refines core state event answer after
not_now core state event answer after s h = record {
  answer_of = λ now. absurd (h.0 now);
  stands = subst₂ (λ a c. Represents c (next_state core state event a)) (sym h.1) (sym h.2) s;
}

-- where it is refused, neither
pub accepted_or : (core : Core) (state : ModelState) (event : Event) (rs : List Refusal) (done : Core) (reply answer : CoreReply) (after : Core) → Represents core state → accepts reply ≡ true
    → (rs ≡ [] → Represents done (state_after_event core state event)) → RefusedOr rs core done reply answer after → Represents after (next_state core state event answer)
accepted_or core state event [] done reply answer after s yes_it to h =
    subst₂ (λ a c. Represents c (next_state core state event a)) (sym h.0) (sym h.1) (subst (λ b. Represents done (cond b (state_after_event core state event) state)) (sym yes_it) (to refl))
accepted_or core state event (r ∷ rs) done reply answer after s yes_it to h = subst₂ (λ a c. Represents c (next_state core state event a)) (sym h.0) (sym h.1) s

pub answered_or : (rs : List Refusal) (core done : Core) (reply answer : CoreReply) (after : Core) → RefusedOr rs core done reply answer after → answer ≡ answer_or rs reply
answered_or [] core done reply answer after h = h.0
answered_or (r ∷ rs) core done reply answer after h = h.0

pub no_turn : (turn : Option Turn) (P : Turn → Type 0) → turn ≡ None → IfSome turn P
no_turn None P e = tt
no_turn (Some turn) P e = absurd cc

-- ---- Write

pub zip_right_changed : {X Y : Type 0} (R : X → Y → Type 0) (g : Y → Y) (name : List ℕ) → ((x : X) (y : Y) → R x y → R x (g y)) → (xs : List (List ℕ × X)) (ys : List (List ℕ × Y)) → Zipped R xs ys → Zipped R xs (changed_at ys name g)
zip_right_changed R g name hit [] [] h = tt
zip_right_changed R g name hit [] (y ∷ ys) h = absurd h
zip_right_changed R g name hit (x ∷ xs) [] h = absurd h
zip_right_changed R g name hit (x ∷ xs) (y ∷ ys) h = ((h.0.0, by (same y.0 name)), zip_right_changed R g name hit xs ys h.1)
  where
    by : (b : Bool) → R x.1 (cond b (g y.1) y.1)
    by true = hit x.1 y.1 h.0.1
    by false = h.0.1

ops_stay : (ops : List Op) (last : ℕ) (fs gs : List (List ℕ × FamilyView)) → Zipped Stays fs gs → Zipped Stays fs (with_operations last ops gs)
ops_stay [] last fs gs h = h
ops_stay (op ∷ ops) last fs gs h = ops_stay ops (last + 1) fs (changed_at gs (op_family op) (with_memory_entry (op_entry (last + 1) op)))
    (zip_right_changed Stays (with_memory_entry (op_entry (last + 1) op)) (op_family op) (λ x y k. record { id = k.id; levels = k.levels; flush = λ job f. again y (op_entry (last + 1) op) job (k.flush job f) }) fs gs h)
  where
    again : (y : FamilyView) (e : Entry) (job : Job) → IsFlush y job → IsFlush (with_memory_entry e y) job
    again y e job f = record { one = f.one; oldest = f.oldest; files = f.files; drops = f.drops }

pub written_stands : (core : Core) (state : ModelState) (batch : Batch) → Represents core state → NoTurn core → IsTrue (names_rightly state (change.Write batch)) → Each (λ op. FitsSizes (op_entry 0 op)) batch.ops
    → Represents (with_batch core batch) (apply state (change.Write batch))
written_stands core state batch s turn names fits = stands_of (with_batch core batch) (apply state (change.Write batch))
    (record {
      place = ap (λ n. n + 1) s.same.place;
      last = ap (λ n. n + length batch.ops) s.same.last;
      charge = ap (λ n. add_charge n (write_charge batch.ops)) s.same.charge;
      behind = s.same.behind;
      families = zip_ids (with_operations core.last batch.ops core.families) (model_ops state.last batch.ops state.families) (zip_to P (λ f k. f.id ≡ k.id) (λ f k p. p.id) (with_operations core.last batch.ops core.families) (model_ops state.last batch.ops state.families) pairs);
      next_family = s.same.next_family;
      live = s.same.live;
    })
    pairs
    (rest_left core (with_batch core batch) (record {
      families = ops_stay batch.ops core.last core.families core.families (zip_itself Stays stays_itself core.families);
      jobs = refl;
      made = refl;
      next = omega arith;
      behind = refl;
      last = omega arith;
      live = λ job began h. h;
      fall = λ h. h;
    }) (rest_stands core state s))
    (no_turn core.turn _ turn)
    (apply_sound state (change.Write batch) s.sound names (λ files e. absurd cc))
  where
    P : FamilyView → ModelFamily → Type 0
    P = Pair core.behind (core.last + length batch.ops) (live_numbers core)

    pairs : Zipped P (with_operations core.last batch.ops core.families) (model_ops state.last batch.ops state.families)
    pairs = subst (λ n. Zipped P (with_operations core.last batch.ops core.families) (model_ops n batch.ops state.families)) s.same.last
        (ops_written core.behind (live_numbers core) batch.ops core.last core.families state.families fits (pairs_stand core state s))

names_there : (state : ModelState) (ops : List Op) → unknown_families state (map op_family ops) ≡ [] → list_any (λ op. not (has_family state (op_family op))) ops ≡ false
names_there state [] e = refl
names_there state (op ∷ ops) e = by (not (has_family state (op_family op))) e (names_there state ops)
  where
    by : (b : Bool) → map UnknownFamily (cond b (op_family op ∷ filter (λ name. not (has_family state name)) (map op_family ops)) (filter (λ name. not (has_family state name)) (map op_family ops))) ≡ []
        → (unknown_families state (map op_family ops) ≡ [] → list_any (λ one. not (has_family state (op_family one))) ops ≡ false) → (b || list_any (λ one. not (has_family state (op_family one))) ops) ≡ false
    by true e more = absurd cc
    by false e more = more e

write_names : (state : ModelState) (capacity : ℕ) (ops : List Op) → write_refusals state capacity ops ≡ [] → IsTrue (not (list_any (λ op. not (has_family state (op_family op))) ops))
write_names state capacity ops e =
    let u = unknown_families state (map op_family ops) in
    let a = refused_if (nat_lt greatest_number (state.last + length ops)) NumbersSpent in
    let c = refused_if (nat_lt capacity (add_charge state.charge (write_charge ops))) StoreFull in
    ap not (names_there state ops (nil_left u a (nil_left (u ++ a) (place_spent state) (nil_left (u ++ a ++ place_spent state) c e))))

pub write_refines : (core : Core) (state : ModelState) (batch : Batch) (answer : CoreReply) (after : Core) → Represents core state → IsCoreStep core (Write batch) answer after → Refines core state (Write batch) answer after
write_refines core state batch answer after s (inr h) = not_now core state (Write batch) answer after s h
write_refines core state batch answer after s (inl h) = record {
  answer_of = λ now. answered_or rs core (with_batch core batch) (BatchWritten (core.place + 1) (core.last + 1) (core.last + length batch.ops)) answer after h.1
      ∙ ap₂ answer_or (outline_refuses core state core.capacity batch.ops s.same) (λ i. BatchWritten (s.same.place i + 1) (s.same.last i + 1) (s.same.last i + length batch.ops));
  stands = accepted_or core state (Write batch) rs (with_batch core batch) (BatchWritten (core.place + 1) (core.last + 1) (core.last + length batch.ops)) answer after s refl
      (λ none. written_stands core state batch s h.0.0 (write_names state core.capacity batch.ops (sym (outline_refuses core state core.capacity batch.ops s.same) ∙ none)) h.0.1.fits) h.1;
}
  where
    rs : List Refusal
    rs = write_refusals (outline core) core.capacity batch.ops

-- ---- Snap, Release

-- the numbers read after an event were read before it
pub pair_reads : (behind : Bool) (last : ℕ) (old new : List Snapshot) → Each (λ s. IsRead last (map (λ (live : Snapshot). live.number) old) s.number) new
    → (family : FamilyView) (kept : ModelFamily) → Pair behind last (map (λ (live : Snapshot). live.number) old) family kept → Pair behind last (map (λ (live : Snapshot). live.number) new) family kept
pair_reads behind last old new h family kept p = record {
  id = p.id;
  reads = λ number key there. p.reads number key (before number there);
  marks = λ flag number key there. p.marks flag number key (before number there);
  falls = p.falls;
  within = p.within;
  apart = p.apart;
  ranges = p.ranges;
  known = p.known;
  written = p.written;
  view = p.view;
  writes = p.writes;
}
  where
    before : (number : ℕ) → IsRead last (map (λ (live : Snapshot). live.number) new) number → IsRead last (map (λ (live : Snapshot). live.number) old) number
    before number (inl e) = inl e
    before number (inr there) = each_there (IsRead last (map (λ (live : Snapshot). live.number) old)) (map (λ (live : Snapshot). live.number) new) number
        (each_map (IsRead last (map (λ (live : Snapshot). live.number) old)) (λ (live : Snapshot). live.number) new h) there

pub each_contained : {X : Type 0} (xs : List X) → Each (λ x. Contains xs x) xs
each_contained [] = tt
each_contained {X} (x ∷ xs) = ((0, (let lt : 0 < length (x ∷ xs) = omega arith in lt), refl), each_as (λ y. Contains xs y) (λ y. Contains (x ∷ xs) y) (λ y c. (suc c.0, (let lt : suc c.0 < length (x ∷ xs) = omega (arith, c.1) in lt), c.2)) xs (each_contained xs))

all_read : (last : ℕ) (live : List Snapshot) → Each (λ s. IsRead last (map (λ (live : Snapshot). live.number) live) s.number) live
all_read last live = map_each (IsRead last (map (λ (live : Snapshot). live.number) live)) (λ (live : Snapshot). live.number) live
    (each_as (Contains (map (λ (live : Snapshot). live.number) live)) (IsRead last (map (λ (live : Snapshot). live.number) live)) (λ n c. inr c) (map (λ (live : Snapshot). live.number) live) (each_contained (map (λ (live : Snapshot). live.number) live)))

-- numbers, and snapshots by their numbers, that don't fall
abbrev AtMost : ℕ → ℕ → Type 0
AtMost one other = one ≤ other

abbrev NotAbove : Snapshot → Snapshot → Type 0
NotAbove one other = one.number ≤ other.number

pub snapped_stands : (core : Core) (state : ModelState) → Represents core state → NoTurn core → Represents (with_snapshot core) (apply state change.Snap)
snapped_stands core state s turn = stands_of (with_snapshot core) (apply state change.Snap)
    (record {
      place = ap (λ n. n + 1) s.same.place;
      last = s.same.last;
      charge = s.same.charge;
      behind = s.same.behind;
      families = s.same.families;
      next_family = s.same.next_family;
      live = λ i. s.same.live i ++ record { id = s.same.place i + 1; number = s.same.last i } ∷ [];
    })
    (zip_to (Pair core.behind core.last (live_numbers core)) (Pair core.behind core.last (live_numbers (with_snapshot core)))
    (pair_reads core.behind core.last core.live (core.live ++ taken_now) (each_join (λ (s : Snapshot). IsRead core.last (live_numbers core) s.number) core.live taken_now (all_read core.last core.live) ((inl refl), tt)))
    core.families state.families (pairs_stand core state s))
    (rest_left core (with_snapshot core) (record {
      families = zip_itself Stays stays_itself core.families;
      jobs = refl;
      made = refl;
      next = omega arith;
      behind = refl;
      last = omega arith;
      live = λ job began h. each_map (IsKept job) (λ (live : Snapshot). live.number) (core.live ++ taken_now)
          (each_join (λ (s : Snapshot). IsKept job s.number) core.live taken_now (map_each (IsKept job) (λ (live : Snapshot). live.number) core.live h) ((inr began), tt));
      fall = λ h. pairs_map AtMost (λ (live : Snapshot). live.number) (core.live ++ taken_now)
          (pairs_join NotAbove core.live taken_now (map_pairs AtMost (λ (live : Snapshot). live.number) core.live h) (tt, tt)
          (each_as (λ (one : Snapshot). one.number ≤ core.last) (λ (one : Snapshot). Each (NotAbove one) taken_now) (λ one le. (le, tt)) core.live lives));
    }) (rest_stands core state s))
    (no_turn core.turn _ turn)
    (apply_sound state change.Snap s.sound refl (λ files e. absurd cc))
  where
    taken_now : List Snapshot
    taken_now = record { id = core.place + 1; number = core.last } ∷ []

    lives : Each (λ (one : Snapshot). one.number ≤ core.last) core.live
    lives = subst (λ (live : List Snapshot). Each (λ one. one.number ≤ core.last) live) (sym s.same.live)
        (subst (λ (n : ℕ). Each (λ (one : Snapshot). one.number ≤ n) state.live) (sym s.same.last) s.sound.live)

pub snap_refines : (core : Core) (state : ModelState) (answer : CoreReply) (after : Core) → Represents core state → IsCoreStep core Snap answer after → Refines core state Snap answer after
snap_refines core state answer after s (inr h) = not_now core state Snap answer after s h
snap_refines core state answer after s (inl h) = record {
  answer_of = λ now. answered_or (snap_refusals (outline core)) core (with_snapshot core) (SnapshotTaken (core.place + 1) (core.place + 1) core.last) answer after h.1
      ∙ ap₂ answer_or (snap_alike core state s.same) (λ i. SnapshotTaken (s.same.place i + 1) (s.same.place i + 1) (s.same.last i));
  stands = accepted_or core state Snap (snap_refusals (outline core)) (with_snapshot core) (SnapshotTaken (core.place + 1) (core.place + 1) core.last) answer after s refl
      (λ none. snapped_stands core state s h.0) h.1;
}

pub released_stands : (core : Core) (state : ModelState) (id : ℕ) → Represents core state → NoTurn core → IsTrue (names_rightly state (change.Release id)) → Represents (without_snapshot core id) (apply state (change.Release id))
released_stands core state id s turn names = stands_of (without_snapshot core id) (apply state (change.Release id))
    (record {
      place = ap (λ n. n + 1) s.same.place;
      last = s.same.last;
      charge = s.same.charge;
      behind = s.same.behind;
      families = s.same.families;
      next_family = s.same.next_family;
      live = ap (filter (λ live. not (live.id == id))) s.same.live;
    })
    (zip_to (Pair core.behind core.last (live_numbers core)) (Pair core.behind core.last (live_numbers (without_snapshot core id)))
    (pair_reads core.behind core.last core.live (filter (λ live. not (live.id == id)) core.live) (each_filter (λ (s : Snapshot). IsRead core.last (live_numbers core) s.number) (λ live. not (live.id == id)) core.live (all_read core.last core.live)))
    core.families state.families (pairs_stand core state s))
    (rest_left core (without_snapshot core id) (record {
      families = zip_itself Stays stays_itself core.families;
      jobs = refl;
      made = refl;
      next = omega arith;
      behind = refl;
      last = omega arith;
      live = λ job began h. each_map (IsKept job) (λ (live : Snapshot). live.number) (filter (λ live. not (live.id == id)) core.live)
          (each_filter (λ (s : Snapshot). IsKept job s.number) (λ live. not (live.id == id)) core.live (map_each (IsKept job) (λ (live : Snapshot). live.number) core.live h));
      fall = λ h. pairs_map AtMost (λ (live : Snapshot). live.number) (filter (λ live. not (live.id == id)) core.live)
          (pairs_filter NotAbove (λ live. not (live.id == id)) core.live (map_pairs AtMost (λ (live : Snapshot). live.number) core.live h));
    }) (rest_stands core state s))
    (no_turn core.turn _ turn)
    (apply_sound state (change.Release id) s.sound names (λ files e. absurd cc))

pub release_refines : (core : Core) (state : ModelState) (id : ℕ) (answer : CoreReply) (after : Core) → Represents core state → IsCoreStep core (Release id) answer after → Refines core state (Release id) answer after
release_refines core state id answer after s (inr h) = not_now core state (Release id) answer after s h
release_refines core state id answer after s (inl h) = record {
  answer_of = λ now. answered_or (place_spent (outline core)) core (without_snapshot core id) (At (core.place + 1)) answer after h.1 ∙ ap₂ answer_or (place_alike core state s.same) (λ i. At (s.same.place i + 1));
  stands = accepted_or core state (Release id) (place_spent (outline core)) (without_snapshot core id) (At (core.place + 1)) answer after s refl
      (λ none. released_stands core state id s h.0.0 (subst (λ (live : List Snapshot). list_any (λ one. one.id == id) live ≡ true) s.same.live h.0.1)) h.1;
}

-- ---- the turn where it stays

pub if_some_to : {X : Type 0} (o : Option X) (P Q : X → Type 0) → ((x : X) → P x → Q x) → IfSome o P → IfSome o Q
if_some_to None P Q to h = tt
if_some_to (Some x) P Q to h = to x h

abbrev pub HasTurn : Core → Turn → Type 0
HasTurn core turn = IsTurn core turn × NamesThere core turn.parts × IsRequest turn.parts

pub turn_left : (core after : Core) (state : ModelState) (turn : Turn) → HaveSame core state → HaveSame after state → core.place ≡ after.place → all_tables core ≡ all_tables after
    → behind_refusals (outline core) (request_of_parts turn.parts) ≡ behind_refusals (outline after) (request_of_parts turn.parts) → HasTurn core turn → HasTurn after turn
turn_left core after state turn same then place tables behind h = (
  record { place = sym place ∙ h.0.place; fresh = subst (λ (ts : List FileEntries). Pairwise (λ one other. one.file ≡ other.file → ⊥) (files_in_parts turn.parts ++ ts)) tables h.0.fresh },
  record { families = unknown_alike after state then (map (λ part. part.family) turn.parts) ∙ sym (unknown_alike core state same (map (λ part. part.family) turn.parts)) ∙ h.1.families; behind = sym behind ∙ h.1.behind },
  h.2,
)

-- ---- TurnReturned, JobGivenUp

pub returned_stands : (core : Core) (state : ModelState) → Represents core state → Represents (without_turn core) state
returned_stands core state s = stands_of (without_turn core) state
    (record { place = s.same.place; last = s.same.last; charge = s.same.charge; behind = s.same.behind; families = s.same.families; next_family = s.same.next_family; live = s.same.live })
    (pairs_stand core state s)
    (rest_left core (without_turn core) (record { families = zip_itself Stays stays_itself core.families; jobs = refl; made = refl; next = omega arith; behind = refl; last = omega arith; live = λ job began h. h; fall = λ h. h }) (rest_stands core state s))
    tt s.sound

pub turn_returned_refines : (core : Core) (state : ModelState) (answer : CoreReply) (after : Core) → Represents core state → IsCoreStep core TurnReturned answer after → Refines core state TurnReturned answer after
turn_returned_refines core state answer after s (inr h) = not_now core state TurnReturned answer after s h
turn_returned_refines core state answer after s (inl h) = record {
  answer_of = λ now. tt;
  stands = subst₂ (λ a c. Represents c (next_state core state TurnReturned a)) (sym h.1.0) (sym h.1.1) (returned_stands core state s);
}
