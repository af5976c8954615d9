-- Sealing, and families that come and go.
use Rattle.std.proofs.Common.{◌≡◌, ℕ, ◌+◌, ◌<◌, ◌≤◌, Bool, true, false, cond, not, ◌==◌, List, [], ◌∷◌, ◌++◌, length, map, filter, Option, Some, None, Ordering, Less, Equal, Greater, option_map, is_some, is_eq, refl, sym, ap, ap₂, subst, subst₂, ◌∙◌, inl, inr, arith}
use Rattle.std.specs.Prelude.{IsTrue, IsSomeAnd, flat_map, nat_le}
use Rattle.std.specs.List.{AllByRecursion as Each}
use Rattle.std.specs.Ordering.{match_ordering}
use Rattle.std.proofs.lemmas.Bool.{false≢true, ne_eqb}
use Rattle.std.proofs.lemmas.Map.Made.{lookup-map_values}
use Rattle.std.specs.BTreeMap.{is_at}
use Rattle.st_base.specs.Bytes.{bytes_cmp, same, default_family}
use Rattle.st_base.specs.Map.{value_at, set_at, without, changed_at}
use Rattle.st_base.specs.declared.entry.Entry.{Entry}
use Rattle.st_model.specs.declared.change.Change.TheVariants as change
use Rattle.st_model.specs.declared.refusal.Refusal.{Refusal}
use Rattle.st_model.specs.declared.refusal.Refusal.TheVariants.{UnknownFamily, NumbersSpent, FamilyExists, DefaultStays, FamiliesFull}
use Rattle.st_model.specs.declared.state.ModelFamily.{ModelFamily}
use Rattle.st_model.specs.declared.state.ModelState.{ModelState}
use Rattle.st_model.specs.Answer.{make_refusals, drop_refusals, unknown_families, refused_if, place_spent}
use Rattle.st_model.specs.Apply.{apply, names_rightly}
use Rattle.st_model.specs.State.{has_family, new_family, most_families, last_family_id}
use Rattle.base_laws.proofs.Lists.{each_all, each_as, each_back, each_filter, each_front, each_join, filter_none}
use Rattle.st_base.proofs.Same.{same_true}
use Rattle.core_model.specs.Commit.{outline}
use Rattle.core_model.specs.Event.{Seal, MakeFamily, DropFamily}
use Rattle.core_model.specs.declared.reply.CoreReply.{CoreReply}
use Rattle.core_model.specs.declared.reply.CoreReply.TheVariants.{At}
use Rattle.core_model.specs.Relation.{Represents}
use Rattle.core_model.specs.Picture.{FileEntries, FamilyView, Job, Core, lowest_level, tables_in, memories, jobs_of, live_numbers, new_view}
use Rattle.core_model.specs.Run.{IsCoreStep, Refines, next_state, answer_or}
use Rattle.core_model.specs.RelationParts.{HaveSame, IsNewer, IsFlush, IsOldest, JobsRun, KeepsReads}
use Rattle.core_model.specs.Step.{NoTurn, with_sealed, with_family, without_family}
use Rattle.core_laws.proofs.PlainEvents.{not_now, accepted_or, answered_or, no_turn, if_some_to, HasTurn, turn_left, zip_right_changed}
use Rattle.core_laws.proofs.NamedLists.{NamesDiffer, Zipped, zip_to, own_found, pairs_beside, zip_turned}
use Rattle.core_laws.proofs.Outline.{make_alike, drop_alike, has_alike}
use Rattle.core_laws.proofs.FamilyPair.{Pair, Stays, pairs_stand, rest_stands, stands_of, rest_left, stays_itself, zip_itself, ids_zip, zip_ids, names_differ, tables_stay, keeps_stays}
use Rattle.core_laws.proofs.ChangesSound.{apply_sound, set_each}
use Rattle.core_laws.proofs.FileColumns.{nil_left, nil_right}
use Rattle.core_laws.proofs.Lists.{pairs_across, pairs_back, pairs_front, pairs_join}
use Rattle.st_order.specs.Columns.{Pairwise}

-- ---- Seal

abbrev seal : FamilyView → FamilyView
seal family = record family { mem = []; sealed = family.mem ∷ family.sealed }

pair_sealed : (b : Bool) (last : ℕ) (live : List ℕ) (f : FamilyView) (k : ModelFamily) → 1 ≤ length f.mem → Pair b last live f k → Pair b last live (seal f) k
pair_sealed b last live f k some p = record {
  id = p.id;
  reads = p.reads;
  marks = p.marks;
  falls = p.falls;
  within = (tt, p.within);
  apart = p.apart;
  ranges = p.ranges;
  known = (tt, p.known);
  written = (tt, p.written);
  view = record { levels = p.view.levels; rows = (record { ordered = refl; within = tt }, p.view.rows); filled = p.view.filled; sealed = (some, p.view.sealed); order = (each_all (IsNewer []) (λ run. tt) (memories f), p.view.order) };
  writes = p.writes;
}

zip_sealed : (b : Bool) (last : ℕ) (live : List ℕ) (name : List ℕ) (fs : List (List ℕ × FamilyView)) (ks : List (List ℕ × ModelFamily)) → Each (λ named. same named.0 name ≡ true → 1 ≤ length named.1.mem) fs
    → Zipped (Pair b last live) fs ks → Zipped (Pair b last live) (changed_at fs name seal) ks
zip_sealed b last live name [] [] h z = tt
zip_sealed b last live name [] (k ∷ ks) h z = absurd z
zip_sealed b last live name (f ∷ fs) [] h z = absurd z
zip_sealed b last live name (f ∷ fs) (k ∷ ks) h z = ((z.0.0, by (same f.0 name) refl), zip_sealed b last live name fs ks h.1 z.1)
  where
    by : (t : Bool) → same f.0 name ≡ t → Pair b last live (cond t (seal f.1) f.1) k.1
    by true e = pair_sealed b last live f.1 k.1 (h.0 e) z.0.1
    by false e = z.0.1

-- the oldest stays the oldest
oldest_sealed : (mem : List Entry) (runs inputs : List (List Entry)) → length inputs ≡ 1 → IsOldest runs inputs → IsOldest (mem ∷ runs) inputs
oldest_sealed mem [] inputs n e = absurd (let w : length inputs ≡ 0 = ap length (sym e) in omega arith)
oldest_sealed mem (run ∷ runs) inputs n e = ap (λ (rest : List (List Entry)). mem ∷ rest) e

stays_sealed : (f g : FamilyView) → Stays f g → Stays f (seal g)
stays_sealed f g s = record { id = s.id; levels = s.levels; flush = λ job h. again job (s.flush job h) }
  where
    again : (job : Job) → IsFlush g job → IsFlush (seal g) job
    again job h = record { one = h.one; oldest = oldest_sealed g.mem g.sealed job.inputs h.one h.oldest; files = h.files; drops = h.drops }

pub core_names : (core : Core) (state : ModelState) → Represents core state → NamesDiffer core.families
core_names core state s = pairs_beside (λ (k : ModelFamily) (f : FamilyView). f.id ≡ k.id) (λ one other. is_eq (bytes_cmp other.0 one.0) ≡ false) (λ one other. is_eq (bytes_cmp other.0 one.0) ≡ false)
    (λ x x' y y' w w' r. subst₂ (λ a b. is_eq (bytes_cmp a b) ≡ false) w'.0 w.0 r) state.families core.families
    (zip_turned (λ (f : FamilyView) (k : ModelFamily). f.id ≡ k.id) core.families state.families (ids_zip core.families state.families s.same.families)) (names_differ state.families s.sound.names)

pub sealed_stands : (core : Core) (state : ModelState) (name : List ℕ) → Represents core state → IsSomeAnd (value_at core.families name) (λ family. 1 ≤ length family.mem) → Represents (with_sealed core name) state
sealed_stands core state name s now = stands_of (with_sealed core name) state same_after pairs
    (rest_left core (with_sealed core name) (record { families = stays; jobs = refl; made = refl; next = omega arith; behind = refl; last = omega arith; live = λ job began h. h; fall = λ h. h }) (rest_stands core state s))
    (if_some_to core.turn (HasTurn core) (HasTurn (with_sealed core name)) (λ turn h. turn_left core (with_sealed core name) state turn s.same same_after refl (tables_stay core.families (changed_at core.families name seal) stays) refl h) s.turn)
    s.sound
  where
    has_mem : Each (λ named. same named.0 name ≡ true → 1 ≤ length named.1.mem) core.families
    has_mem = each_as (λ (named : List ℕ × FamilyView). value_at core.families named.0 ≡ Some named.1) (λ named. same named.0 name ≡ true → 1 ≤ length named.1.mem)
        (λ named found e. subst (λ (o : Option FamilyView). IsSomeAnd o (λ family. 1 ≤ length family.mem)) (subst (λ k. value_at core.families k ≡ Some named.1) (same_true named.0 name e) found) now) core.families
        (own_found core.families (core_names core state s))

    pairs : Zipped (Pair core.behind core.last (live_numbers core)) (changed_at core.families name seal) state.families
    pairs = zip_sealed core.behind core.last (live_numbers core) name core.families state.families has_mem (pairs_stand core state s)

    stays : Zipped Stays core.families (changed_at core.families name seal)
    stays = zip_right_changed Stays seal name stays_sealed core.families core.families (zip_itself Stays stays_itself core.families)

    same_after : HaveSame (with_sealed core name) state
    same_after = record {
      place = s.same.place;
      last = s.same.last;
      charge = s.same.charge;
      behind = s.same.behind;
      families = zip_ids (changed_at core.families name seal) state.families (zip_to (Pair core.behind core.last (live_numbers core)) (λ f k. f.id ≡ k.id) (λ f k p. p.id) (changed_at core.families name seal) state.families pairs);
      next_family = s.same.next_family;
      live = s.same.live;
    }

pub seal_refines : (core : Core) (state : ModelState) (name : List ℕ) (answer : CoreReply) (after : Core) → Represents core state → IsCoreStep core (Seal name) answer after → Refines core state (Seal name) answer after
seal_refines core state name answer after s (inr h) = not_now core state (Seal name) answer after s h
seal_refines core state name answer after s (inl h) = record {
  answer_of = λ now. tt;
  stands = subst₂ (λ a c. Represents c (next_state core state (Seal name) a)) (sym h.1.0) (sym h.1.1) (sealed_stands core state name s h.0);
}

-- ---- MakeFamily

pub zip_set : {X Y : Type 0} (R : X → Y → Type 0) (name : List ℕ) (x : X) (y : Y) → R x y → (xs : List (List ℕ × X)) (ys : List (List ℕ × Y)) → Zipped R xs ys → Zipped R (set_at xs name x) (set_at ys name y)
zip_set R name x y r [] [] z = ((refl, r), tt)
zip_set R name x y r [] (q ∷ ys) z = absurd z
zip_set R name x y r (p ∷ xs) [] z = absurd z
zip_set {X} {Y} R name x y r (p ∷ xs) (q ∷ ys) z =
    subst (λ o. Zipped R (match_ordering (bytes_cmp name p.0) ((name, x) ∷ p ∷ xs) ((p.0, x) ∷ xs) (p ∷ set_at xs name x)) (match_ordering o ((name, y) ∷ q ∷ ys) ((q.0, y) ∷ ys) (q ∷ set_at ys name y)))
    (ap (bytes_cmp name) z.0.0) (by (bytes_cmp name p.0) (zip_set R name x y r xs ys z.1))
  where
    by : (o : Ordering) → Zipped R (set_at xs name x) (set_at ys name y)
        → Zipped R (match_ordering o ((name, x) ∷ p ∷ xs) ((p.0, x) ∷ xs) (p ∷ set_at xs name x)) (match_ordering o ((name, y) ∷ q ∷ ys) ((q.0, y) ∷ ys) (q ∷ set_at ys name y))
    by Less rest = ((refl, r), z)
    by Equal rest = ((z.0.0, r), z.1)
    by Greater rest = (z.0, rest)

pair_new : (b : Bool) (last : ℕ) (live : List ℕ) (id other : ℕ) → id ≡ other → Pair b last live (new_view id) (new_family other)
pair_new b last live id other e = record {
  id = e;
  reads = λ number key there. refl;
  marks = λ flag number key there. refl;
  falls = λ key. record { above = tt; below = tt; across = tt };
  within = (tt, tt);
  apart = (tt, (tt, (tt, (tt, (tt, (tt, tt))))));
  ranges = λ flag. refl;
  known = (tt, tt);
  written = (tt, tt);
  view = record { levels = refl; rows = (record { ordered = refl; within = tt }, tt); filled = tt; sealed = tt; order = (tt, tt) };
  writes = tt;
}

set_tables : (fs : List (List ℕ × FamilyView)) (name : List ℕ) (id : ℕ) → value_at fs name ≡ None
    → flat_map (λ (named : List ℕ × FamilyView). tables_in named.1.levels) (set_at fs name (new_view id)) ≡ flat_map (λ (named : List ℕ × FamilyView). tables_in named.1.levels) fs
set_tables [] name id e = refl
set_tables (f ∷ fs) name id e = by (bytes_cmp name f.0) refl (set_tables fs name id)
  where
    by : (o : Ordering) → bytes_cmp name f.0 ≡ o → (value_at fs name ≡ None → flat_map (λ (named : List ℕ × FamilyView). tables_in named.1.levels) (set_at fs name (new_view id)) ≡ flat_map (λ (named : List ℕ × FamilyView). tables_in named.1.levels) fs)
        → flat_map (λ (named : List ℕ × FamilyView). tables_in named.1.levels) (match_ordering o ((name, new_view id) ∷ f ∷ fs) ((f.0, new_view id) ∷ fs) (f ∷ set_at fs name (new_view id))) ≡ flat_map (λ (named : List ℕ × FamilyView). tables_in named.1.levels) (f ∷ fs)
    by Less g rest = refl
    by Equal g rest = absurd (let w : Some f.1 ≡ None = sym (ap (λ o. cond (is_eq o) (Some f.1) (value_at fs name)) g) ∙ e in cc)
    by Greater g rest = ap (λ (more : List FileEntries). tables_in f.1.levels ++ more) (rest (sym (ap (λ o. cond (is_eq o) (Some f.1) (value_at fs name)) g) ∙ e))

-- names that aren't in the outline aren't there
unnamed : (fs : List (List ℕ × FamilyView)) (name : List ℕ) → is_some (value_at (map {B = List ℕ × ModelFamily} (λ (named : List ℕ × FamilyView). (named.0, new_family named.1.id)) fs) name) ≡ false → value_at fs name ≡ None
unnamed fs name e = by (value_at fs name) (ap is_some (sym (lookup-map_values (λ (f : FamilyView). new_family f.id) (is_at (bytes_cmp name)) fs)) ∙ e)
  where
    by : (o : Option FamilyView) → is_some (option_map (λ (f : FamilyView). new_family f.id) o) ≡ false → o ≡ None
    by None h = refl
    by (Some f) h = absurd (false≢true (sym h))

not_refused : (b : Bool) (r : Refusal) → refused_if b r ≡ [] → b ≡ false
not_refused true r e = absurd cc
not_refused false r e = refl

pub made_stands : (core : Core) (state : ModelState) (name : List ℕ) → Represents core state → NoTurn core → has_family (outline core) name ≡ false → Represents (with_family core name) (apply state (change.Make name))
made_stands core state name s turn absent = stands_of after (apply state (change.Make name))
    (record {
      place = ap (λ n. n + 1) s.same.place;
      last = s.same.last;
      charge = s.same.charge;
      behind = s.same.behind;
      families = zip_ids gs ks (zip_to (Pair core.behind core.last (live_numbers core)) (λ f k. f.id ≡ k.id) (λ f k p. p.id) gs ks pairs);
      next_family = ap (λ n. n + 1) s.same.next_family;
      live = s.same.live;
    }) pairs
    (record {
      jobs = set_each (λ named. JobsRun (lowest_level core) (jobs_of after named.1) named.1) core.families name (new_view core.next_family)
          (subst (λ (jobs : List Job). JobsRun (lowest_level core) jobs (new_view core.next_family)) (sym none) (record { each = tt; ranges = tt; apart = tt })) s.jobs;
      kept = set_each (λ named. Each (KeepsReads after named.1) (jobs_of after named.1)) core.families name (new_view core.next_family)
          (subst (λ (jobs : List Job). Each (KeepsReads after (new_view core.next_family)) jobs) (sym none) tt)
          (each_as (λ (named : List ℕ × FamilyView). Each (KeepsReads core named.1) (jobs_of core named.1)) (λ named. Each (KeepsReads after named.1) (jobs_of after named.1))
          (λ named h. each_as (KeepsReads core named.1) (KeepsReads after named.1) (λ job k. keeps_stays core after named.1 named.1 job refl k.live (omega arith) refl k) (jobs_of core named.1) h) core.families s.kept);
      files = subst (Pairwise (λ one other. one.file ≡ other.file → ⊥)) (sym (set_tables core.families name core.next_family (unnamed core.families name absent))) s.files;
      noted = record { numbers = s.noted.numbers; outputs = s.noted.outputs; made = s.noted.made; families = each_as (λ (job : Job). job.family < core.next_family) (λ job. job.family < core.next_family + 1) (λ job lt. omega arith) core.jobs s.noted.families; live = s.noted.live };
    })
    (no_turn core.turn _ turn)
    (apply_sound state (change.Make name) s.sound (ap not (sym (has_alike core state s.same name) ∙ absent)) (λ files e. absurd cc))
  where
    after : Core
    after = with_family core name

    gs : List (List ℕ × FamilyView)
    gs = set_at core.families name (new_view core.next_family)

    ks : List (List ℕ × ModelFamily)
    ks = set_at state.families name (new_family state.next_family)

    pairs : Zipped (Pair core.behind core.last (live_numbers core)) (set_at core.families name (new_view core.next_family)) (set_at state.families name (new_family state.next_family))
    pairs = zip_set (Pair core.behind core.last (live_numbers core)) name (new_view core.next_family) (new_family state.next_family) (pair_new core.behind core.last (live_numbers core) core.next_family state.next_family s.same.next_family)
        core.families state.families (pairs_stand core state s)

    none : jobs_of (with_family core name) (new_view core.next_family) ≡ []
    none = filter_none (λ (job : Job). job.family == core.next_family) core.jobs (each_as (λ (job : Job). job.family < core.next_family) (λ job. (job.family == core.next_family) ≡ false) (λ job lt. ne_eqb job.family core.next_family (λ e. omega arith)) core.jobs s.noted.families)

pub make_refines : (core : Core) (state : ModelState) (name : List ℕ) (answer : CoreReply) (after : Core) → Represents core state → IsCoreStep core (MakeFamily name) answer after → Refines core state (MakeFamily name) answer after
make_refines core state name answer after s (inr h) = not_now core state (MakeFamily name) answer after s h
make_refines core state name answer after s (inl h) = record {
  answer_of = λ now. answered_or (make_refusals (outline core) name) core (with_family core name) (At (core.place + 1)) answer after h.1 ∙ ap₂ answer_or (make_alike core state name s.same) (λ i. At (s.same.place i + 1));
  stands = accepted_or core state (MakeFamily name) (make_refusals (outline core) name) (with_family core name) (At (core.place + 1)) answer after s refl
      (λ none. made_stands core state name s h.0 (not_refused (has_family (outline core) name) (FamilyExists name) (nil_left a b (nil_left (a ++ b) c (nil_left (a ++ b ++ c) d none))))) h.1;
}
  where
    a : List Refusal
    a = refused_if (has_family (outline core) name) (FamilyExists name)

    b : List Refusal
    b = refused_if (nat_le most_families (length (outline core).families)) FamiliesFull

    c : List Refusal
    c = refused_if (nat_le last_family_id (outline core).next_family) NumbersSpent

    d : List Refusal
    d = place_spent (outline core)

-- ---- DropFamily

zip_without : {X Y : Type 0} (R : X → Y → Type 0) (name : List ℕ) (xs : List (List ℕ × X)) (ys : List (List ℕ × Y)) → Zipped R xs ys → Zipped R (without xs name) (without ys name)
zip_without R name [] [] z = tt
zip_without R name [] (y ∷ ys) z = absurd z
zip_without R name (x ∷ xs) [] z = absurd z
zip_without {X} {Y} R name (x ∷ xs) (y ∷ ys) z =
    subst (λ k. Zipped R (without (x ∷ xs) name) (cond (not (same k name)) (y ∷ without ys name) (without ys name))) z.0.0 (by (not (same x.0 name)) (zip_without R name xs ys z.1))
  where
    by : (b : Bool) → Zipped R (without xs name) (without ys name) → Zipped R (cond b (x ∷ without xs name) (without xs name)) (cond b (y ∷ without ys name) (without ys name))
    by true rest = (z.0, rest)
    by false rest = rest

module _ {X Y : Type 0} (f : X → List Y) (test : X → Bool) where
  each_fewer : (P : Y → Type 0) (xs : List X) → Each P (flat_map f xs) → Each P (flat_map f (filter test xs))
  each_fewer P [] h = tt
  each_fewer P (x ∷ xs) h = by (test x) (each_fewer P xs (each_back P (f x) (flat_map f xs) h))
    where
      by : (b : Bool) → Each P (flat_map f (filter test xs)) → Each P (flat_map f (cond b (x ∷ filter test xs) (filter test xs)))
      by true rest = each_join P (f x) (flat_map f (filter test xs)) (each_front P (f x) (flat_map f xs) h) rest
      by false rest = rest

  pairs_fewer : (R : Y → Y → Type 0) (xs : List X) → Pairwise R (flat_map f xs) → Pairwise R (flat_map f (filter test xs))
  pairs_fewer R [] h = tt
  pairs_fewer R (x ∷ xs) h = by (test x) (pairs_fewer R xs (pairs_back R (f x) (flat_map f xs) h))
    where
      by : (b : Bool) → Pairwise R (flat_map f (filter test xs)) → Pairwise R (flat_map f (cond b (x ∷ filter test xs) (filter test xs)))
      by true rest = pairs_join R (f x) (flat_map f (filter test xs)) (pairs_front R (f x) (flat_map f xs) h) rest
          (each_as (λ (y : Y). Each (R y) (flat_map f xs)) (λ y. Each (R y) (flat_map f (filter test xs))) (λ y k. each_fewer (R y) xs k) (f x) (pairs_across R (f x) (flat_map f xs) h))
      by false rest = rest

pub dropped_stands : (core : Core) (state : ModelState) (name : List ℕ) → Represents core state → NoTurn core → IsTrue (names_rightly state (change.Drop name)) → Represents (without_family core name) (apply state (change.Drop name))
dropped_stands core state name s turn names = stands_of after (apply state (change.Drop name))
    (record {
      place = ap (λ n. n + 1) s.same.place;
      last = s.same.last;
      charge = s.same.charge;
      behind = s.same.behind;
      families = zip_ids (without core.families name) (without state.families name) (zip_to (Pair core.behind core.last (live_numbers core)) (λ f k. f.id ≡ k.id) (λ f k p. p.id) (without core.families name) (without state.families name) pairs);
      next_family = s.same.next_family;
      live = s.same.live;
    }) pairs
    (record {
      jobs = each_filter (λ named. JobsRun (lowest_level core) (jobs_of core named.1) named.1) (λ pair. not (same pair.0 name)) core.families s.jobs;
      kept = each_filter (λ named. Each (KeepsReads after named.1) (jobs_of after named.1)) (λ pair. not (same pair.0 name)) core.families
          (each_as (λ (named : List ℕ × FamilyView). Each (KeepsReads core named.1) (jobs_of core named.1)) (λ named. Each (KeepsReads after named.1) (jobs_of after named.1))
          (λ named h. each_as (KeepsReads core named.1) (KeepsReads after named.1) (λ job k. keeps_stays core after named.1 named.1 job refl k.live (omega arith) refl k) (jobs_of core named.1) h) core.families s.kept);
      files = pairs_fewer (λ (named : List ℕ × FamilyView). tables_in named.1.levels) (λ pair. not (same pair.0 name)) (λ one other. one.file ≡ other.file → ⊥) core.families s.files;
      noted = record { numbers = s.noted.numbers; outputs = s.noted.outputs; made = s.noted.made; families = s.noted.families; live = s.noted.live };
    })
    (no_turn core.turn _ turn)
    (apply_sound state (change.Drop name) s.sound names (λ files e. absurd cc))
  where
    after : Core
    after = without_family core name

    pairs : Zipped (Pair core.behind core.last (live_numbers core)) (without core.families name) (without state.families name)
    pairs = zip_without (Pair core.behind core.last (live_numbers core)) name core.families state.families (pairs_stand core state s)

there_of : (b : Bool) (name : List ℕ) → map UnknownFamily (cond (not b) (name ∷ []) []) ≡ [] → b ≡ true
there_of true name e = refl
there_of false name e = absurd cc

pub drop_refines : (core : Core) (state : ModelState) (name : List ℕ) (answer : CoreReply) (after : Core) → Represents core state → IsCoreStep core (DropFamily name) answer after → Refines core state (DropFamily name) answer after
drop_refines core state name answer after s (inr h) = not_now core state (DropFamily name) answer after s h
drop_refines core state name answer after s (inl h) = record {
  answer_of = λ now. answered_or (drop_refusals (outline core) name) core (without_family core name) (At (core.place + 1)) answer after h.1 ∙ ap₂ answer_or (drop_alike core state name s.same) (λ i. At (s.same.place i + 1));
  stands = accepted_or core state (DropFamily name) (drop_refusals (outline core) name) (without_family core name) (At (core.place + 1)) answer after s refl
      (λ none. dropped_stands core state name s h.0 (there_of (has_family state name) name (nil_right a b (nil_left (a ++ b) c (sym (drop_alike core state name s.same) ∙ none))))) h.1;
}
  where
    a : List Refusal
    a = refused_if (same name default_family) DefaultStays

    b : List Refusal
    b = unknown_families state (name ∷ [])

    c : List Refusal
    c = place_spent state
