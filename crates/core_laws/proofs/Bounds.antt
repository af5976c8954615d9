-- Each event keeps numbers, ids, snapshots and memtables within their limits, and the capacity.
use Rattle.std.proofs.Common.{◌≡◌, ℕ, suc, ◌+◌, ◌*◌, ◌<◌, ◌≤◌, Bool, true, false, cond, not, ◌||◌, List, [], ◌∷◌, ◌++◌, length, map, filter, Option, Some, None, unwrap_or, refl, sym, ap, subst, ◌∙◌, inl, inr, arith}
use Rattle.std.specs.Prelude.{◌==◌, ◌^◌, ◌-◌, fold, sum_by, max, min, nat_le, nat_lt, MatchBool, IsSomeAnd}
use Rattle.std.specs.Option.{option_map}
use Rattle.std.specs.List.{list_any, AllZip, AllByRecursion as Each}
use Rattle.std.proofs.lemmas.Bool.{leb-false, ltb-false, or_parts}
use Rattle.std.proofs.lemmas.List.Sums.{sum_by-cons}
use Rattle.st_base.proofs.Same.{same_true}
use Rattle.st_base.specs.Bytes.{same}
use Rattle.st_base.specs.Entries.{add_charge, entry_charge, mark_length}
use Rattle.st_base.specs.Map.{changed_at, set_at, value_at, without}
use Rattle.st_base.specs.Order.{comes_before}
use Rattle.st_base.specs.declared.entry.Entry.{Entry}
use Rattle.st_model.specs.Answer.{drop_refusals, make_refusals, place_spent, refused_if, snap_refusals, unknown_families, write_refusals}
use Rattle.st_model.specs.Apply.{op_entry, op_family, op_key, op_mark, write_charge}
use Rattle.st_model.specs.State.{greatest_number, has_family, last_family_id, most_families, most_snapshots}
use Rattle.st_model.specs.declared.change.Op.{Op}
use Rattle.st_model.specs.declared.refusal.Refusal.{Refusal}
use Rattle.st_model.specs.declared.refusal.Refusal.TheVariants.{DefaultStays, FamiliesFull, FamilyExists, NumbersSpent, SnapshotsFull, StoreFull}
use Rattle.st_model.specs.declared.state.ModelState.{ModelState}
use Rattle.st_model.specs.declared.state.Snapshot.{Snapshot}
use Rattle.base_laws.proofs.Lists.{append_none, each_any, each_as, each_filter, each_map, none_any}
use Rattle.base_laws.proofs.Maps.{each_changed, each_set}
use Rattle.core_model.specs.Bounded.{CrashEndsBounded, HasSmallMemories, IsBounded, IsSmallMemory, NewCoreIsBounded, StepKeepsBounds, StepKeepsCapacity, sealed_charge}
use Rattle.core_model.specs.Commit.{Planned, outline, plan, plan_from, put_file, put_planned, request_files, is_numbered, committed, commit_refusals}
use Rattle.core_model.specs.Compaction.{with_compacted, with_flushed}
use Rattle.core_model.specs.Crash.{IsFlushedByCrash, Reopens, rank}
use Rattle.core_model.specs.Event.{CompactInstalled, CompactPicked, Crashed, DropFamily, FlushInstalled, FlushPicked, IngestCommitted, JobGivenUp, MakeFamily, Release, Seal, Snap, TurnReturned, TurnTaken, Write}
use Rattle.core_model.specs.declared.reply.CoreReply.{CoreReply}
use Rattle.core_model.specs.Picture.{Core, FamilyView, FileEntries, Job, Part, Turn, charge_of, memories, new_view}
use Rattle.core_model.specs.Relation.{Represents}
use Rattle.core_model.specs.Step.{Installs, IsWriteWithinLimits, Notes, RefusedOr, has_memory, is_due, is_due_at, is_work_first, compact_job, flush_job, noted_job, put_in_memory, with_memory_entry, with_operations, without_turn, changed_found, family_of_job}
use Rattle.core_laws.proofs.CommitBegins.{no_refusal}
use Rattle.core_laws.proofs.CommitReceived.{last_counts}
use Rattle.core_laws.proofs.FamilyEvents.{core_names}
use Rattle.core_laws.proofs.FlushedOwn.{each_without_last}
use Rattle.core_laws.proofs.JobEvents.{stands_own}
use Rattle.core_laws.proofs.NamedLists.{own_found}
use Rattle.st_base.specs.Range.{entries_charge}

abbrev Small : List ℕ × FamilyView → Type 0
Small named = HasSmallMemories named.1

-- ---- what isn't refused

not_refused : (b : Bool) (refusal : Refusal) → refused_if b refusal ≡ [] → b ≡ false
not_refused true refusal e = absurd cc
not_refused false refusal e = refl

place_left : (state : ModelState) → place_spent state ≡ [] → state.place + 1 ≤ greatest_number
place_left state e = let lt : state.place < greatest_number = leb-false greatest_number state.place (not_refused (nat_le greatest_number state.place) NumbersSpent e) in omega arith

refused_or : (rs : List Refusal) (refused done : Core) (reply answer : CoreReply) (after : Core) → RefusedOr rs refused done reply answer after → IsBounded refused → (rs ≡ [] → IsBounded done) → IsBounded after
refused_or [] refused done reply answer after k r d = subst IsBounded (sym k.1) (d refl)
refused_or (refusal ∷ refusals) refused done reply answer after k r d = subst IsBounded (sym k.1) r

-- ---- a write

put_charge : (entry : Entry) (mem : List Entry) → charge_of (put_in_memory entry mem) ≡ entry_charge entry.key entry.mark + charge_of mem
put_charge entry [] = sum_by-cons (λ (one : Entry). entry_charge one.key one.mark) entry []
put_charge entry (other ∷ others) = by (comes_before entry other) (put_charge entry others)
  where
    by : (b : Bool) → charge_of (put_in_memory entry others) ≡ entry_charge entry.key entry.mark + charge_of others
        → charge_of (cond b (entry ∷ other ∷ others) (other ∷ put_in_memory entry others)) ≡ entry_charge entry.key entry.mark + charge_of (other ∷ others)
    by true rest = sum_by-cons (λ (one : Entry). entry_charge one.key one.mark) entry (other ∷ others)
    by false rest = sums (entry_charge other.key other.mark) (charge_of (put_in_memory entry others)) (entry_charge entry.key entry.mark) (charge_of others)
        (sum_by-cons (λ (one : Entry). entry_charge one.key one.mark) other (put_in_memory entry others)) rest (sum_by-cons (λ (one : Entry). entry_charge one.key one.mark) other others)
      where
        sums : (o put e os : ℕ) → charge_of (other ∷ put_in_memory entry others) ≡ o + put → put ≡ e + os → charge_of (other ∷ others) ≡ o + os → charge_of (other ∷ put_in_memory entry others) ≡ e + charge_of (other ∷ others)
        sums o put e os a b c = omega arith

charge_more : (op : Op) (ops : List Op) → write_charge (op ∷ ops) ≡ entry_charge (op_key op) (op_mark op) + write_charge ops
charge_more op ops = sum_by-cons (λ (one : Op). entry_charge (op_key one) (op_mark one)) op ops

abbrev op_size : Op → ℕ
op_size op = length (op_key op) + mark_length (op_mark op)

charge_sizes : (ops : List Op) → write_charge ops ≡ 32 * length ops + sum_by (λ op. op_size op) ops
charge_sizes [] = refl
charge_sizes (op ∷ ops) =
    let rest = charge_sizes ops in
    let one = charge_more op ops in
    let sizes = sum_by-cons (λ (one : Op). op_size one) op ops in
    omega arith

-- whether one of the operations names the family
abbrev is_named_by : List Op → List ℕ → Bool
is_named_by ops name = list_any (λ op. same name (op_family op)) ops

-- a family that is named has room for all of these
abbrev HasRoom : List Op → List ℕ × FamilyView → Type 0
HasRoom ops named = (is_named_by ops named.0 ≡ true → charge_of named.1.mem + write_charge ops < sealed_charge) × Small named

written_small : (last : ℕ) (ops : List Op) (families : List (List ℕ × FamilyView)) → Each (HasRoom ops) families → Each Small (with_operations last ops families)
written_small last [] families h = each_as (HasRoom []) Small (λ named room. room.1) families h
written_small last (op ∷ ops) families h =
    written_small (last + 1) ops (changed_at families (op_family op) (with_memory_entry (op_entry (last + 1) op)))
    (each_map (HasRoom ops) at families (each_as (HasRoom (op ∷ ops)) (λ named. HasRoom ops (at named)) (λ named room. by named (same named.0 (op_family op)) refl room) families h))
  where
    at : List ℕ × FamilyView → List ℕ × FamilyView
    at named = (named.0, cond (same named.0 (op_family op)) (with_memory_entry (op_entry (last + 1) op) named.1) named.1)

    by : (named : List ℕ × FamilyView) (b : Bool) → same named.0 (op_family op) ≡ b → HasRoom (op ∷ ops) named → HasRoom ops (named.0, cond b (with_memory_entry (op_entry (last + 1) op) named.1) named.1)
    by named true is room =
        let room_left = room.0 (ap (λ b. b || is_named_by ops named.0) is) in
        let put = put_charge (op_entry (last + 1) op) named.1.mem in
        let more = charge_more op ops in
        ((λ any. omega (arith, room_left, put, more)), (omega (arith, room_left, put, more), room.1.1))
    by named false is room =
        let more = charge_more op ops in
        ((λ any. let room_left = room.0 (ap (λ b. b || is_named_by ops named.0) is ∙ any) in omega (arith, room_left, more)), room.1)

-- families that a write names have room, since no work comes first
room_of : (core : Core) (state : ModelState) (ops : List Op) → Represents core state → IsBounded core → IsWriteWithinLimits ops → is_work_first core ops ≡ false → Each (HasRoom ops) core.families
room_of core state ops stands bounded limits first = rooms core.families (own_found core.families (core_names core state stands)) bounded.small
  where
    due : Each (λ op. is_due_at core (op_family op) ≡ false) ops
    due = none_any (λ op. is_due_at core (op_family op)) ops first

    lesser : (n : ℕ) → min (0 + n) (2 ^ 64 - 1) < 4194304 → n < 4194304
    lesser n lt = omega (arith, lt)

    below_limit : (family : FamilyView) → is_due family ≡ false → charge_of family.mem < 4194304
    below_limit family e = lesser (charge_of family.mem) (leb-false 4194304 (entries_charge family.mem) (or_parts (nat_le 4194304 (entries_charge family.mem)) (nat_le 4 (length family.sealed)) (or_parts (nat_le 4194304 (entries_charge family.mem) || nat_le 4 (length family.sealed)) (nat_le 20 (length (unwrap_or (Rattle.std.specs.Prelude.slice_get family.levels 0) []))) e).0).0)

    room : (named : List ℕ × FamilyView) → value_at core.families named.0 ≡ Some named.1 → is_named_by ops named.0 ≡ true → charge_of named.1.mem + write_charge ops < sealed_charge
    room named found any =
        let small = each_any (λ op. is_due_at core (op_family op) ≡ false) (charge_of named.1.mem < 4194304) (λ op. same named.0 (op_family op)) ops
        (λ op hit not_due. below_limit named.1 (sym (ap (λ found. unwrap_or (option_map is_due found) false) found) ∙ ap (is_due_at core) (same_true named.0 (op_family op) hit) ∙ not_due)) due any in
        let sizes = charge_sizes ops in
        let count = limits.count in
        let size = limits.size in
        omega (arith, small, sizes, count, size)

    rooms : (families : List (List ℕ × FamilyView)) → Each (λ named. value_at core.families named.0 ≡ Some named.1) families → Each Small families → Each (HasRoom ops) families
    rooms [] found small = tt
    rooms (named ∷ families) found small = ((room named found.0, small.0), rooms families found.1 small.1)

write_bounded : (core : Core) (state : ModelState) (ops : List Op) → Represents core state → IsBounded core → IsWriteWithinLimits ops → is_work_first core ops ≡ false → write_refusals (outline core) core.capacity ops ≡ []
    → IsBounded (record core { place = core.place + 1; last = core.last + length ops; charge = add_charge core.charge (write_charge ops); families = with_operations core.last ops core.families })
write_bounded core state ops stands bounded limits first none =
    let u = unknown_families (outline core) (map op_family ops) in
    let a = refused_if (nat_lt greatest_number (core.last + length ops)) NumbersSpent in
    let p = place_spent (outline core) in
    let c = refused_if (nat_lt core.capacity (add_charge core.charge (write_charge ops))) StoreFull in
    let all = append_none (u ++ a ++ p) c none in
    let two = append_none (u ++ a) p all.0 in
    record {
      place = place_left (outline core) two.1;
      last = ltb-false greatest_number (core.last + length ops) (not_refused (nat_lt greatest_number (core.last + length ops)) NumbersSpent (append_none u a two.0).1);
      next_family = bounded.next_family;
      live = bounded.live;
      small = written_small core.last ops core.families (room_of core state ops stands bounded limits first);
    }

-- ---- snapshots and families

length_push : {X : Type 0} (xs : List X) (x : X) → length (xs ++ x ∷ []) ≡ suc (length xs)
length_push [] x = refl
length_push (y ∷ xs) x = ap suc (length_push xs x)

filter_fewer : {X : Type 0} (test : X → Bool) (xs : List X) → length (filter test xs) ≤ length xs
filter_fewer test [] = omega arith
filter_fewer test (x ∷ xs) = by (test x) (filter_fewer test xs)
  where
    by : (b : Bool) → length (filter test xs) ≤ length xs → length (cond b (x ∷ filter test xs) (filter test xs)) ≤ suc (length xs)
    by true le = omega arith
    by false le = omega arith

snap_bounded : (core : Core) → IsBounded core → snap_refusals (outline core) ≡ [] → IsBounded (record core { place = core.place + 1; live = core.live ++ record { id = core.place + 1; number = core.last } ∷ [] })
snap_bounded core bounded none =
    let a = refused_if (nat_le most_snapshots (length core.live)) SnapshotsFull in
    let both = append_none a (place_spent (outline core)) none in
    let fewer = leb-false most_snapshots (length core.live) (not_refused (nat_le most_snapshots (length core.live)) SnapshotsFull both.0) in
    record {
      place = place_left (outline core) both.1;
      last = bounded.last;
      next_family = bounded.next_family;
      live = subst (λ n. n ≤ most_snapshots) (sym (length_push core.live (record { id = core.place + 1; number = core.last }))) fewer;
      small = bounded.small;
    }

release_bounded : (core : Core) (id : ℕ) → IsBounded core → place_spent (outline core) ≡ [] → IsBounded (record core { place = core.place + 1; live = filter (λ live. not (live.id == id)) core.live })
release_bounded core id bounded none = record {
  place = place_left (outline core) none;
  last = bounded.last;
  next_family = bounded.next_family;
  live = let fewer = filter_fewer (λ (live : Snapshot). not (live.id == id)) core.live in let old = bounded.live in omega (arith, fewer, old);
  small = bounded.small;
}

make_bounded : (core : Core) (name : List ℕ) → IsBounded core → make_refusals (outline core) name ≡ []
    → IsBounded (record core { place = core.place + 1; families = set_at core.families name (new_view core.next_family); next_family = core.next_family + 1 })
make_bounded core name bounded none =
    let a = refused_if (has_family (outline core) name) (FamilyExists name) in
    let b = refused_if (nat_le most_families (length (outline core).families)) FamiliesFull in
    let c = refused_if (nat_le last_family_id core.next_family) NumbersSpent in
    let all = append_none (a ++ b ++ c) (place_spent (outline core)) none in
    let fewer = leb-false last_family_id core.next_family (not_refused (nat_le last_family_id core.next_family) NumbersSpent (append_none (a ++ b) c all.0).1) in
    record {
      place = place_left (outline core) all.1;
      last = bounded.last;
      next_family = let lt : core.next_family < last_family_id = fewer in omega arith;
      live = bounded.live;
      small = each_set Small core.families name (new_view core.next_family) (λ other old h. empty) bounded.small empty;
    }
  where
    empty : HasSmallMemories (new_view core.next_family)
    empty = ((let lt : 0 < sealed_charge = omega arith in lt), tt)

drop_bounded : (core : Core) (name : List ℕ) → IsBounded core → drop_refusals (outline core) name ≡ [] → IsBounded (record core { place = core.place + 1; families = without core.families name })
drop_bounded core name bounded none = record {
  place = place_left (outline core) (append_none (refused_if (same name Rattle.st_base.specs.Bytes.default_family) DefaultStays ++ unknown_families (outline core) (name ∷ [])) (place_spent (outline core)) none).1;
  last = bounded.last;
  next_family = bounded.next_family;
  live = bounded.live;
  small = each_filter Small (λ pair. not (same pair.0 name)) core.families bounded.small;
}

-- ---- families that change in their memtables or levels alone

with_small : (core : Core) (families : List (List ℕ × FamilyView)) (jobs : List Job) → IsBounded core → Each Small families → IsBounded (record core { families = families; jobs = jobs })
with_small core families jobs bounded small = record { place = bounded.place; last = bounded.last; next_family = bounded.next_family; live = bounded.live; small = small }

seal_small : (family : FamilyView) → HasSmallMemories family → HasSmallMemories (record family { mem = []; sealed = family.mem ∷ family.sealed })
seal_small family h = ((let lt : 0 < sealed_charge = omega arith in lt), h)

flushed_small : (output : FileEntries) (family : FamilyView) → HasSmallMemories family → HasSmallMemories (with_flushed output family)
flushed_small output family h = (h.0, each_without_last IsSmallMemory family.sealed h.1)

found_small : (found : Option (List ℕ × FamilyView)) (change : FamilyView → FamilyView) (families : List (List ℕ × FamilyView)) → ((family : FamilyView) → HasSmallMemories family → HasSmallMemories (change family)) → Each Small families
    → Each Small (changed_found found change families)
found_small None change families keeps h = h
found_small (Some named) change families keeps h = each_changed HasSmallMemories families named.0 change keeps h

notes_bounded : (core : Core) (job : Option Job) (answer : CoreReply) (after : Core) → Notes core job answer after → IsBounded core → IsBounded after
notes_bounded core None answer after k bounded = absurd k
notes_bounded core (Some job) answer after k bounded = subst IsBounded (sym k.1) (record { place = bounded.place; last = bounded.last; next_family = bounded.next_family; live = bounded.live; small = bounded.small })

installs_bounded : (core : Core) (found : Option Job) (change : Job → FamilyView → FamilyView) (answer : CoreReply) (after : Core) → IsSomeAnd found (λ job. Installs core job (change job) answer after)
    → ((job : Job) (family : FamilyView) → HasSmallMemories family → HasSmallMemories (change job family)) → IsBounded core → IsBounded after
installs_bounded core None change answer after k keeps bounded = absurd k
installs_bounded core (Some job) change answer after k keeps bounded =
    subst IsBounded (sym k.1) (record {
      place = bounded.place;
      last = bounded.last;
      next_family = bounded.next_family;
      live = bounded.live;
      small = found_small (family_of_job core job) (change job) core.families (keeps job) bounded.small;
    })

-- ---- a commit

planned_small : (core : Core) (planned : List Planned) → Each Small core.families → Each Small (fold put_planned core planned).families
planned_small core [] h = h
planned_small core (one ∷ more) h =
    planned_small (put_planned core one) more
    (each_changed HasSmallMemories core.families one.wanted.part.family (put_file one.level one.number one.wanted.table) (λ family small. small) h)

planned_next : (core : Core) (planned : List Planned) → (fold put_planned core planned).next_family ≡ core.next_family
planned_next core [] = refl
planned_next core (one ∷ more) = planned_next (put_planned core one) more

planned_live : (core : Core) (planned : List Planned) → (fold put_planned core planned).live ≡ core.live
planned_live core [] = refl
planned_live core (one ∷ more) = planned_live (put_planned core one) more

committed_bounded : (core : Core) (parts : List Part) → IsBounded core → commit_refusals core parts ≡ [] → IsBounded (committed core parts)
committed_bounded core parts bounded none =
    let facts = no_refusal core parts none in
    record {
      place = place_left (outline core) facts.places;
      last = subst (λ last. last ≤ greatest_number) (sym (last_counts core (request_files core parts)))
          (ltb-false greatest_number (core.last + length (filter is_numbered (plan core parts))) (not_refused (nat_lt greatest_number (core.last + length (filter is_numbered (plan core parts)))) NumbersSpent facts.spent));
      next_family = subst (λ n. n ≤ last_family_id) (sym (planned_next core (plan core parts))) bounded.next_family;
      live = subst (λ live. length live ≤ most_snapshots) (sym (planned_live core (plan core parts))) bounded.live;
      small = planned_small core (plan core parts) bounded.small;
    }

commit_bounded : (core : Core) (found : Option Turn) (answer : CoreReply) (after : Core)
    → IsSomeAnd found (λ turn. RefusedOr (commit_refusals core turn.parts) (without_turn core) (committed core turn.parts) (Rattle.core_model.specs.declared.reply.CoreReply.TheVariants.Received (core.place + 1) (Rattle.core_model.specs.Commit.placed_files (plan core turn.parts))) answer after)
    → IsBounded core → IsBounded after
commit_bounded core None answer after k bounded = absurd k
commit_bounded core (Some turn) answer after k bounded =
    refused_or (commit_refusals core turn.parts) (without_turn core) (committed core turn.parts) (Rattle.core_model.specs.declared.reply.CoreReply.TheVariants.Received (core.place + 1) (Rattle.core_model.specs.Commit.placed_files (plan core turn.parts))) answer after k
    (record { place = bounded.place; last = bounded.last; next_family = bounded.next_family; live = bounded.live; small = bounded.small })
    (λ none. committed_bounded core turn.parts bounded none)

-- ---- a crash

greatest_below : (bound n : ℕ) (families : List (List ℕ × FamilyView)) → n < bound → Each (λ named. named.1.id < bound) families → fold (λ greatest named. max greatest named.1.id) n families < bound
greatest_below bound n [] lt each = lt
greatest_below bound n (named ∷ families) lt each = greatest_below bound (max n named.1.id) families (let below = each.0 in omega (arith, lt, below)) each.1

no_memory : (runs : List (List Entry)) → Each (λ run. nat_le 1 (length run) ≡ false) runs → Each IsSmallMemory runs
no_memory [] each = tt
no_memory ([] ∷ runs) each = ((let lt : 0 < sealed_charge = omega arith in lt), no_memory runs each.1)
no_memory ((entry ∷ run) ∷ runs) each = absurd (let lt = leb-false 1 (length (entry ∷ run)) each.0 in omega (arith, lt))

reopened_small : (core : Core) (first : ℕ) (before after : List ℕ × FamilyView) → Reopens core first before after → Small after
reopened_small core first before after reopens = by (has_memory before) refl reopens.1
  where
    by : (b : Bool) → has_memory before ≡ b → MatchBool b (IsFlushedByCrash (first + rank core before.1.id) before.1 after.1) (after.1 ≡ before.1) → Small after
    by true is flushed = subst HasSmallMemories (sym flushed.view) ((let lt : 0 < sealed_charge = omega arith in lt), tt)
    by false is same_view = subst HasSmallMemories (sym same_view) (no_memory (memories before.1) (none_any (λ entries. nat_le 1 (length entries)) (memories before.1) is))

all_small : (core : Core) (first : ℕ) (before after : List (List ℕ × FamilyView)) → AllZip (Reopens core first) before after → Each Small after
all_small core first [] [] zip = tt
all_small core first [] (one ∷ after) zip = absurd zip
all_small core first (one ∷ before) [] zip = absurd zip
all_small core first (one ∷ before) (other ∷ after) zip = (reopened_small core first one other zip.0, all_small core first before after zip.1)

pub crash_ends_bounded : CrashEndsBounded
crash_ends_bounded core state first after stands last next crashed =
    let given = (stands_own core state stands).2 in
    let ids = each_as (λ (named : List ℕ × FamilyView). named.1.id < core.next_family) (λ named. named.1.id < last_family_id) (λ named lt. omega (arith, lt, next)) core.families given in
    let greatest = greatest_below last_family_id 0 core.families (let lt : 0 < last_family_id = omega arith in lt) ids in
    subst IsBounded (sym crashed.core_after) (record {
      place = omega arith;
      last = last;
      next_family = let lt : fold (λ (greatest : ℕ) (named : List ℕ × FamilyView). max greatest named.1.id) 0 core.families < last_family_id = greatest in omega arith;
      live = omega arith;
      small = all_small core first core.families crashed.families crashed.reopened;
    })

-- ---- all events

pub step_keeps_bounds : StepKeepsBounds
step_keeps_bounds core state event answer after stands bounded (inr none) = subst IsBounded (sym none.2) bounded
step_keeps_bounds core state (Write batch) answer after stands bounded (inl h) =
    refused_or (write_refusals (outline core) core.capacity batch.ops) core _ _ answer after h.1 bounded (λ none. write_bounded core state batch.ops stands bounded h.0.1 h.0.2 none)
step_keeps_bounds core state Snap answer after stands bounded (inl h) = refused_or (snap_refusals (outline core)) core _ _ answer after h.1 bounded (λ none. snap_bounded core bounded none)
step_keeps_bounds core state (Release id) answer after stands bounded (inl h) = refused_or (place_spent (outline core)) core _ _ answer after h.1 bounded (λ none. release_bounded core id bounded none)
step_keeps_bounds core state (MakeFamily name) answer after stands bounded (inl h) = refused_or (make_refusals (outline core) name) core _ _ answer after h.1 bounded (λ none. make_bounded core name bounded none)
step_keeps_bounds core state (DropFamily name) answer after stands bounded (inl h) = refused_or (drop_refusals (outline core) name) core _ _ answer after h.1 bounded (λ none. drop_bounded core name bounded none)
step_keeps_bounds core state (Seal name) answer after stands bounded (inl h) =
    subst IsBounded (sym h.1.1) (with_small core (changed_at core.families name (λ family. record family { mem = []; sealed = family.mem ∷ family.sealed })) core.jobs bounded (each_changed HasSmallMemories core.families name (λ family. record family { mem = []; sealed = family.mem ∷ family.sealed }) seal_small bounded.small))
step_keeps_bounds core state (FlushPicked name) answer after stands bounded (inl h) = notes_bounded core (flush_job core name) answer after h.1 bounded
step_keeps_bounds core state (CompactPicked name whole) answer after stands bounded (inl h) = notes_bounded core (compact_job core name whole) answer after h.1 bounded
step_keeps_bounds core state (FlushInstalled number output) answer after stands bounded (inl h) =
    installs_bounded core (noted_job core number) (λ job. with_flushed output) answer after h.1 (λ job family small. flushed_small output family small) bounded
step_keeps_bounds core state (CompactInstalled number outputs) answer after stands bounded (inl h) =
    installs_bounded core (noted_job core number) (λ job. with_compacted job outputs) answer after h.1 (λ job family small. small) bounded
step_keeps_bounds core state (JobGivenUp number) answer after stands bounded (inl h) =
    subst IsBounded (sym h.1.1) (record { place = bounded.place; last = bounded.last; next_family = bounded.next_family; live = bounded.live; small = bounded.small })
step_keeps_bounds core state (TurnTaken parts) answer after stands bounded (inl h) =
    refused_or (Rattle.core_model.specs.Commit.turn_refusals core parts) core _ _ answer after h.1 bounded
    (λ none. record { place = bounded.place; last = bounded.last; next_family = bounded.next_family; live = bounded.live; small = bounded.small })
step_keeps_bounds core state IngestCommitted answer after stands bounded (inl h) = commit_bounded core core.turn answer after h.1 bounded
step_keeps_bounds core state TurnReturned answer after stands bounded (inl h) =
    subst IsBounded (sym h.1.1) (record { place = bounded.place; last = bounded.last; next_family = bounded.next_family; live = bounded.live; small = bounded.small })
step_keeps_bounds core state (Crashed first) answer after stands bounded (inl h) = crash_ends_bounded core state first after stands bounded.last bounded.next_family h.1.1

pub new_core_is_bounded : NewCoreIsBounded
new_core_is_bounded behind capacity = record {
  place = omega arith;
  last = omega arith;
  next_family = omega arith;
  live = omega arith;
  small = (((let lt : 0 < sealed_charge = omega arith in lt), tt), tt);
}

-- ---- the capacity

refused_capacity : (rs : List Refusal) (n : ℕ) (refused done : Core) (reply answer : CoreReply) (after : Core) → RefusedOr rs refused done reply answer after → refused.capacity ≡ n → done.capacity ≡ n → after.capacity ≡ n
refused_capacity [] n refused done reply answer after k r d = ap (λ (one : Core). one.capacity) k.1 ∙ d
refused_capacity (refusal ∷ refusals) n refused done reply answer after k r d = ap (λ (one : Core). one.capacity) k.1 ∙ r

notes_capacity : (core : Core) (job : Option Job) (answer : CoreReply) (after : Core) → Notes core job answer after → after.capacity ≡ core.capacity
notes_capacity core None answer after k = absurd k
notes_capacity core (Some job) answer after k = ap (λ (one : Core). one.capacity) k.1

installs_capacity : (core : Core) (found : Option Job) (change : Job → FamilyView → FamilyView) (answer : CoreReply) (after : Core) → IsSomeAnd found (λ job. Installs core job (change job) answer after) → after.capacity ≡ core.capacity
installs_capacity core None change answer after k = absurd k
installs_capacity core (Some job) change answer after k = ap (λ (one : Core). one.capacity) k.1

planned_capacity : (core : Core) (planned : List Planned) → (fold put_planned core planned).capacity ≡ core.capacity
planned_capacity core [] = refl
planned_capacity core (one ∷ more) = planned_capacity (put_planned core one) more

commit_capacity : (core : Core) (found : Option Turn) (answer : CoreReply) (after : Core)
    → IsSomeAnd found (λ turn. RefusedOr (commit_refusals core turn.parts) (without_turn core) (committed core turn.parts) (Rattle.core_model.specs.declared.reply.CoreReply.TheVariants.Received (core.place + 1) (Rattle.core_model.specs.Commit.placed_files (plan core turn.parts))) answer after)
    → after.capacity ≡ core.capacity
commit_capacity core None answer after k = absurd k
commit_capacity core (Some turn) answer after k =
    refused_capacity (commit_refusals core turn.parts) core.capacity (without_turn core) (committed core turn.parts) (Rattle.core_model.specs.declared.reply.CoreReply.TheVariants.Received (core.place + 1) (Rattle.core_model.specs.Commit.placed_files (plan core turn.parts))) answer after k
    refl (planned_capacity core (plan core turn.parts))

pub step_keeps_capacity : StepKeepsCapacity
step_keeps_capacity core event answer after (inr none) = ap (λ (one : Core). one.capacity) none.2
step_keeps_capacity core (Write batch) answer after (inl h) = refused_capacity (write_refusals (outline core) core.capacity batch.ops) core.capacity core _ _ answer after h.1 refl refl
step_keeps_capacity core Snap answer after (inl h) = refused_capacity (snap_refusals (outline core)) core.capacity core _ _ answer after h.1 refl refl
step_keeps_capacity core (Release id) answer after (inl h) = refused_capacity (place_spent (outline core)) core.capacity core _ _ answer after h.1 refl refl
step_keeps_capacity core (MakeFamily name) answer after (inl h) = refused_capacity (make_refusals (outline core) name) core.capacity core _ _ answer after h.1 refl refl
step_keeps_capacity core (DropFamily name) answer after (inl h) = refused_capacity (drop_refusals (outline core) name) core.capacity core _ _ answer after h.1 refl refl
step_keeps_capacity core (Seal name) answer after (inl h) = ap (λ (one : Core). one.capacity) h.1.1
step_keeps_capacity core (FlushPicked name) answer after (inl h) = notes_capacity core (flush_job core name) answer after h.1
step_keeps_capacity core (CompactPicked name whole) answer after (inl h) = notes_capacity core (compact_job core name whole) answer after h.1
step_keeps_capacity core (FlushInstalled number output) answer after (inl h) = installs_capacity core (noted_job core number) (λ job. with_flushed output) answer after h.1
step_keeps_capacity core (CompactInstalled number outputs) answer after (inl h) = installs_capacity core (noted_job core number) (λ job. with_compacted job outputs) answer after h.1
step_keeps_capacity core (JobGivenUp number) answer after (inl h) = ap (λ (one : Core). one.capacity) h.1.1
step_keeps_capacity core (TurnTaken parts) answer after (inl h) = refused_capacity (Rattle.core_model.specs.Commit.turn_refusals core parts) core.capacity core _ _ answer after h.1 refl refl
step_keeps_capacity core IngestCommitted answer after (inl h) = commit_capacity core core.turn answer after h.1
step_keeps_capacity core TurnReturned answer after (inl h) = ap (λ (one : Core). one.capacity) h.1.1
step_keeps_capacity core (Crashed first) answer after (inl h) = ap (λ (one : Core). one.capacity) h.1.1.core_after
