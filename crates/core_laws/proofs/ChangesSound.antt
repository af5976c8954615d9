-- Each change but a request keeps the model sound.
use Rattle.std.proofs.Common.{◌≡◌, ℕ, ◌+◌, ◌<◌, ◌≤◌, Bool, true, false, cond, not, ◌==◌, List, [], ◌∷◌, ◌++◌, length, filter, Ordering, Less, Equal, Greater, is_lt, refl, sym, ap, subst, ◌∙◌, arith}
use Rattle.std.specs.Prelude.{IsTrue, IsFalse, AllPairs}
use Rattle.std.specs.List.{AllByRecursion as Each}
use Rattle.std.specs.Ordering.{match_ordering, ordering_reverse}
use Rattle.std.proofs.lemmas.Cmp.{nat_list_cmp_total}
use Rattle.std.proofs.lemmas.Map.Lookups.{exact_bytes}
use Rattle.st_base.specs.Bytes.{bytes_cmp, same, below}
use Rattle.st_base.specs.Map.{set_at, without, changed_at}
use Rattle.st_base.specs.declared.entry.Entry.{Entry}
use Rattle.st_model.specs.declared.change.Change.TheVariants.{Write, Snap, Release, Make, Drop, Ingest}
use Rattle.st_model.specs.declared.change.Op.{Op}
use Rattle.st_model.specs.declared.state.ModelFamily.{ModelFamily}
use Rattle.st_model.specs.declared.state.ModelState.{ModelState}
use Rattle.st_model.specs.declared.state.Snapshot.{Snapshot}
use Rattle.st_model.specs.Apply.{apply, op_family, op_entry, with_write, with_ops}
use Rattle.st_model.specs.Sound.{IsSound, KeysRise, WritesWithin}
use Rattle.st_model.specs.State.{new_family}
use Rattle.base_laws.proofs.Keys.{below_trans}
use Rattle.base_laws.proofs.Lists.{each_as, each_filter, each_join, each_map}
use Rattle.core_laws.specs.Claims.{ApplySound}
use Rattle.core_laws.proofs.ByPlace.{from_pairs}
use Rattle.core_laws.proofs.Lists.{pairs_as, pairs_filter, pairs_join}
use Rattle.core_laws.proofs.Members.{pairs_map, pairs_of_all}
use Rattle.st_order.specs.Columns.{Pairwise}

-- ---- order of names

pub less_of : (a b : List ℕ) → below a b ≡ true → bytes_cmp a b ≡ Less
less_of a b h = by (bytes_cmp a b) h
  where
    by : (o : Ordering) → is_lt o ≡ true → o ≡ Less
    by Less e = refl
    by Equal e = absurd cc
    by Greater e = absurd cc

-- ---- lists of pairs with one set

module _ {X : Type 0} where
  pub set_each : (P : List ℕ × X → Type 0) (pairs : List (List ℕ × X)) (key : List ℕ) (x : X) → P (key, x) → Each P pairs → Each P (set_at pairs key x)
  set_each P [] key x p h = (p, tt)
  set_each P (e ∷ es) key x p h = by (bytes_cmp key e.0) refl (set_each P es key x p h.1)
    where
      by : (o : Ordering) → bytes_cmp key e.0 ≡ o → Each P (set_at es key x) → Each P (match_ordering o ((key, x) ∷ e ∷ es) ((e.0, x) ∷ es) (e ∷ set_at es key x))
      by Less f rest = (p, h)
      by Equal f rest = (subst (λ k. P (k, x)) (exact_bytes key e.0 f) p, h.1)
      by Greater f rest = (h.0, rest)

  pub set_pairs : (R : List ℕ × X → List ℕ × X → Type 0) (pairs : List (List ℕ × X)) (key : List ℕ) (x : X) → Each (R (key, x)) pairs → Each (λ one. R one (key, x)) pairs → Pairwise R pairs → Pairwise R (set_at pairs key x)
  set_pairs R [] key x up down h = (tt, tt)
  set_pairs R (e ∷ es) key x up down h = by (bytes_cmp key e.0) refl (set_pairs R es key x up.1 down.1 h.1)
    where
      by : (o : Ordering) → bytes_cmp key e.0 ≡ o → Pairwise R (set_at es key x) → Pairwise R (match_ordering o ((key, x) ∷ e ∷ es) ((e.0, x) ∷ es) (e ∷ set_at es key x))
      by Less f rest = (up, h)
      by Equal f rest = (subst (λ k. Each (R (k, x)) es) (exact_bytes key e.0 f) up.1, h.1)
      by Greater f rest = (set_each (R e) es key x down.0 h.0, rest)

  abbrev pub Rise : List (List ℕ × X) → Type 0
  Rise pairs = Pairwise (λ one other. IsTrue (below one.0 other.0)) pairs

  pub set_rise : (pairs : List (List ℕ × X)) (key : List ℕ) (x : X) → Rise pairs → Rise (set_at pairs key x)
  set_rise [] key x h = (tt, tt)
  set_rise (e ∷ es) key x h = by (bytes_cmp key e.0) refl (set_rise es key x h.1)
    where
      by : (o : Ordering) → bytes_cmp key e.0 ≡ o → Rise (set_at es key x) → Rise (match_ordering o ((key, x) ∷ e ∷ es) ((e.0, x) ∷ es) (e ∷ set_at es key x))
      by Less f rest = ((ap is_lt f, each_as (λ (other : List ℕ × X). IsTrue (below e.0 other.0)) (λ other. IsTrue (below key other.0)) (λ other k. below_trans key e.0 other.0 (ap is_lt f) k) es h.0), h)
      by Equal f rest = h
      by Greater f rest = (set_each (λ other. IsTrue (below e.0 other.0)) es key x (ap is_lt (nat_list_cmp_total.antisymm e.0 key ∙ ap ordering_reverse f)) h.0, rest)

-- ---- the families of a sound state

pub record Families (last next : ℕ) (ks : List (List ℕ × ModelFamily)) : Type 0 where
  pub names : Rise ks
  pub bases : Each (λ named. KeysRise named.1.base) ks
  pub writes : Each (λ named. WritesWithin last named.1) ks
  pub ids : Pairwise (λ one other. one.1.id ≡ other.1.id → ⊥) ks
  pub given : Each (λ named. named.1.id < next) ks

pub families_of : (state : ModelState) → IsSound state → Families state.last state.next_family state.families
families_of state s = record {
  names = pairs_of_all (λ one other. IsTrue (below one.0 other.0)) state.families s.names;
  bases = s.bases;
  writes = s.writes;
  ids = pairs_of_all (λ one other. one.1.id ≡ other.1.id → ⊥) state.families s.ids;
  given = s.next;
}

-- of the ranges of files behind
abbrev pub HasNoRange : List ℕ × ModelFamily → Type 0
HasNoRange named = named.1.ranges ≡ []

pub record Snapshots (place last : ℕ) (live : List Snapshot) : Type 0 where
  pub numbers : Each (λ snapshot. snapshot.number ≤ last) live
  pub rise : AllPairs (λ one other. one.id < other.id) live
  pub taken : Each (λ snapshot. snapshot.id ≤ place) live
  pub above : Each (λ snapshot. 0 < snapshot.id) live

pub sound_of : (state : ModelState) → Families state.last state.next_family state.families → Snapshots state.place state.last state.live → (IsFalse state.behind → Each HasNoRange state.families) → IsSound state
sound_of state f s none = record {
  unranged = none;
  names = from_pairs (λ one other. IsTrue (below one.0 other.0)) state.families f.names;
  bases = f.bases;
  writes = f.writes;
  live = s.numbers;
  snapshots = s.rise;
  taken = s.taken;
  above = s.above;
  ids = from_pairs (λ one other. one.1.id ≡ other.1.id → ⊥) state.families f.ids;
  next = f.given;
}

snapshots_later : (place next_place last next_last : ℕ) (live : List Snapshot) → place ≤ next_place → last ≤ next_last → Snapshots place last live → Snapshots next_place next_last live
snapshots_later place next_place last next_last live p l s = record {
  numbers = each_as (λ (snapshot : Snapshot). snapshot.number ≤ last) (λ snapshot. snapshot.number ≤ next_last) (λ snapshot h. omega arith) live s.numbers;
  rise = s.rise;
  taken = each_as (λ (snapshot : Snapshot). snapshot.id ≤ place) (λ snapshot. snapshot.id ≤ next_place) (λ snapshot h. omega arith) live s.taken;
  above = s.above;
}

snapshots_of : (state : ModelState) → IsSound state → Snapshots state.place state.last state.live
snapshots_of state s = record { numbers = s.live; rise = s.snapshots; taken = s.taken; above = s.above }

-- a change of a family's writes
families_changed : (last later next : ℕ) (ks : List (List ℕ × ModelFamily)) (name : List ℕ) (g : ModelFamily → ModelFamily) → last ≤ later
    → ((k : ModelFamily) → (g k).id ≡ k.id) → ((k : ModelFamily) → (g k).base ≡ k.base) → ((k : ModelFamily) → WritesWithin last k → WritesWithin later (g k))
    → Families last next ks → Families later next (changed_at ks name g)
families_changed last later next ks name g le id base writes f = record {
  names = pairs_map (λ (one other : List ℕ × ModelFamily). IsTrue (below one.0 other.0)) at ks f.names;
  bases = each_map (λ (named : List ℕ × ModelFamily). KeysRise named.1.base) at ks (each_as (λ (named : List ℕ × ModelFamily). KeysRise named.1.base) (λ named. KeysRise (at named).1.base) (λ named h. subst KeysRise (sym (same_base named.1 (same named.0 name))) h) ks f.bases);
  writes = each_map (λ (named : List ℕ × ModelFamily). WritesWithin later named.1) at ks (each_as (λ (named : List ℕ × ModelFamily). WritesWithin last named.1) (λ named. WritesWithin later (at named).1) (λ named h. all_within named.1 (same named.0 name) h) ks f.writes);
  ids = pairs_map (λ (one other : List ℕ × ModelFamily). one.1.id ≡ other.1.id → ⊥) at ks
      (pairs_as (λ (one other : List ℕ × ModelFamily). one.1.id ≡ other.1.id → ⊥) (λ one other. (at one).1.id ≡ (at other).1.id → ⊥)
      (λ one other differ e. differ (sym (same_id one.1 (same one.0 name)) ∙ e ∙ same_id other.1 (same other.0 name))) ks f.ids);
  given = each_map (λ (named : List ℕ × ModelFamily). named.1.id < next) at ks (each_as (λ (named : List ℕ × ModelFamily). named.1.id < next) (λ named. (at named).1.id < next) (λ named h. subst (λ n. n < next) (sym (same_id named.1 (same named.0 name))) h) ks f.given);
}
  where
    at : List ℕ × ModelFamily → List ℕ × ModelFamily
    at pair = (pair.0, cond (same pair.0 name) (g pair.1) pair.1)

    same_id : (k : ModelFamily) (b : Bool) → (cond b (g k) k).id ≡ k.id
    same_id k true = id k
    same_id k false = refl

    same_base : (k : ModelFamily) (b : Bool) → (cond b (g k) k).base ≡ k.base
    same_base k true = base k
    same_base k false = refl

    all_within : (k : ModelFamily) (b : Bool) → WritesWithin last k → WritesWithin later (cond b (g k) k)
    all_within k true h = writes k h
    all_within k false h = each_as (λ (write : Entry). write.number ≤ last) (λ write. write.number ≤ later) (λ write l. omega arith) k.writes h

families_written : (ops : List Op) (last next : ℕ) (ks : List (List ℕ × ModelFamily)) → Families last next ks → Families (last + length ops) next (with_ops last ops ks)
families_written [] last next ks f = subst (λ n. Families n next ks) (let e : last ≡ last + 0 = omega arith in e) f
families_written (op ∷ ops) last next ks f =
    subst (λ n. Families n next (with_ops last (op ∷ ops) ks)) (let e : last + 1 + length ops ≡ last + length (op ∷ ops) = omega arith in e)
    (families_written ops (last + 1) next (changed_at ks (op_family op) (with_write (op_entry (last + 1) op)))
    (families_changed last (last + 1) next ks (op_family op) (with_write (op_entry (last + 1) op)) (omega arith) (λ k. refl) (λ k. refl)
    (λ k h. each_join (λ write. write.number ≤ last + 1) k.writes (op_entry (last + 1) op ∷ []) (each_as (λ (write : Entry). write.number ≤ last) (λ write. write.number ≤ last + 1) (λ write l. omega arith) k.writes h) ((omega arith), tt)) f))

families_made : (last next : ℕ) (ks : List (List ℕ × ModelFamily)) (name : List ℕ) → Families last next ks → Families last (next + 1) (set_at ks name (new_family next))
families_made last next ks name f = record {
  names = set_rise ks name (new_family next) f.names;
  bases = set_each (λ named. KeysRise named.1.base) ks name (new_family next) (λ i j d lt in'. absurd (omega arith)) f.bases;
  writes = set_each (λ named. WritesWithin last named.1) ks name (new_family next) tt f.writes;
  ids = set_pairs (λ one other. one.1.id ≡ other.1.id → ⊥) ks name (new_family next)
      (each_as (λ (named : List ℕ × ModelFamily). named.1.id < next) (λ named. next ≡ named.1.id → ⊥) (λ named lt e. absurd (omega arith)) ks f.given)
      (each_as (λ (named : List ℕ × ModelFamily). named.1.id < next) (λ named. named.1.id ≡ next → ⊥) (λ named lt e. absurd (omega arith)) ks f.given) f.ids;
  given = set_each (λ named. named.1.id < next + 1) ks name (new_family next) (omega arith) (each_as (λ (named : List ℕ × ModelFamily). named.1.id < next) (λ named. named.1.id < next + 1) (λ named lt. omega arith) ks f.given);
}

families_dropped : (last next : ℕ) (ks : List (List ℕ × ModelFamily)) (name : List ℕ) → Families last next ks → Families last next (without ks name)
families_dropped last next ks name f = record {
  names = pairs_filter (λ one other. IsTrue (below one.0 other.0)) stays ks f.names;
  bases = each_filter (λ named. KeysRise named.1.base) stays ks f.bases;
  writes = each_filter (λ named. WritesWithin last named.1) stays ks f.writes;
  ids = pairs_filter (λ one other. one.1.id ≡ other.1.id → ⊥) stays ks f.ids;
  given = each_filter (λ named. named.1.id < next) stays ks f.given;
}
  where
    stays : List ℕ × ModelFamily → Bool
    stays pair = not (same pair.0 name)

unranged_written : (ops : List Op) (last : ℕ) (ks : List (List ℕ × ModelFamily)) → Each HasNoRange ks → Each HasNoRange (with_ops last ops ks)
unranged_written [] last ks h = h
unranged_written (op ∷ ops) last ks h = unranged_written ops (last + 1) (changed_at ks (op_family op) (with_write (op_entry (last + 1) op)))
    (each_map HasNoRange at ks (each_as HasNoRange (λ named. HasNoRange (at named)) (λ named none. same_ranges named.1 (same named.0 (op_family op)) none) ks h))
  where
    at : List ℕ × ModelFamily → List ℕ × ModelFamily
    at pair = (pair.0, cond (same pair.0 (op_family op)) (with_write (op_entry (last + 1) op) pair.1) pair.1)

    same_ranges : (k : ModelFamily) (b : Bool) → k.ranges ≡ [] → (cond b (with_write (op_entry (last + 1) op) k) k).ranges ≡ []
    same_ranges k true none = none
    same_ranges k false none = none

pub apply_sound : ApplySound
apply_sound state (Write batch) s names other = sound_of (apply state (Write batch)) (families_written batch.ops state.last state.next_family state.families (families_of state s))
    (snapshots_later state.place (state.place + 1) state.last (state.last + length batch.ops) state.live (omega arith) (omega arith) (snapshots_of state s))
    (λ flag. unranged_written batch.ops state.last state.families (s.unranged flag))
apply_sound state Snap s names other = sound_of (apply state Snap) (families_of state s) (record {
  numbers = each_join (λ snapshot. snapshot.number ≤ state.last) state.live taken_now s.live ((let le : state.last ≤ state.last = omega arith in le), tt);
  rise = from_pairs (λ one other. one.id < other.id) (state.live ++ taken_now) (pairs_join (λ one other. one.id < other.id) state.live taken_now (pairs_of_all (λ one other. one.id < other.id) state.live s.snapshots) (tt, tt)
      (each_as (λ (snapshot : Snapshot). snapshot.id ≤ state.place) (λ snapshot. Each (λ (later : Snapshot). snapshot.id < later.id) taken_now) (λ snapshot le. ((omega arith), tt)) state.live s.taken));
  taken = each_join (λ snapshot. snapshot.id ≤ state.place + 1) state.live taken_now (each_as (λ (snapshot : Snapshot). snapshot.id ≤ state.place) (λ snapshot. snapshot.id ≤ state.place + 1) (λ snapshot le. omega arith) state.live s.taken) ((omega arith), tt);
  above = each_join (λ snapshot. 0 < snapshot.id) state.live taken_now s.above ((omega arith), tt);
}) s.unranged
  where
    taken_now : List Snapshot
    taken_now = record { id = state.place + 1; number = state.last } ∷ []
apply_sound state (Release id) s names other = sound_of (apply state (Release id)) (families_of state s) (record {
  numbers = each_filter (λ snapshot. snapshot.number ≤ state.last) (λ live. not (live.id == id)) state.live s.live;
  rise = from_pairs (λ one other. one.id < other.id) (filter (λ live. not (live.id == id)) state.live) (pairs_filter (λ one other. one.id < other.id) (λ live. not (live.id == id)) state.live (pairs_of_all (λ one other. one.id < other.id) state.live s.snapshots));
  taken = each_filter (λ snapshot. snapshot.id ≤ state.place + 1) (λ live. not (live.id == id)) state.live (each_as (λ (snapshot : Snapshot). snapshot.id ≤ state.place) (λ snapshot. snapshot.id ≤ state.place + 1) (λ snapshot le. omega arith) state.live s.taken);
  above = each_filter (λ snapshot. 0 < snapshot.id) (λ live. not (live.id == id)) state.live s.above;
}) s.unranged
apply_sound state (Make name) s names other = sound_of (apply state (Make name)) (families_made state.last state.next_family state.families name (families_of state s))
    (snapshots_later state.place (state.place + 1) state.last state.last state.live (omega arith) (omega arith) (snapshots_of state s))
    (λ flag. set_each HasNoRange state.families name (new_family state.next_family) refl (s.unranged flag))
apply_sound state (Drop name) s names other = sound_of (apply state (Drop name)) (families_dropped state.last state.next_family state.families name (families_of state s))
    (snapshots_later state.place (state.place + 1) state.last state.last state.live (omega arith) (omega arith) (snapshots_of state s))
    (λ flag. each_filter HasNoRange (λ pair. not (same pair.0 name)) state.families (s.unranged flag))
apply_sound state (Ingest files) s names other = absurd (other files refl)
