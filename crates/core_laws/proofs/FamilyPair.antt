-- What `Represents` says of one family of the core and the model's family beside it, and what stays while tables stay.
use Rattle.std.proofs.Common.{◌≡◌, ℕ, zero, suc, ◌+◌, ◌<◌, ◌≤◌, ◌⊎◌, Bool, true, false, cond, ◌==◌, List, [], ◌∷◌, ◌++◌, length, get_or, map, filter, is_eq, is_lt, refl, sym, ap, ap₂, subst, subst₂, ◌∙◌, inl, inr, arith}
use Rattle.std.specs.Prelude.{Contains, IsTrue, IsFalse, IfSome, flat_map, drop}
use Rattle.std.specs.List.{AllByRecursion as Each}
use Rattle.std.proofs.lemmas.Bool.{false≢true}
use Rattle.std.proofs.lemmas.Cmp.{nat_list_cmp_total, tied_itself}
use Rattle.st_base.specs.Bytes.{bytes_cmp, same, below}
use Rattle.st_model.specs.declared.state.ModelFamily.{ModelFamily}
use Rattle.st_model.specs.declared.state.ModelState.{ModelState}
use Rattle.st_model.specs.declared.state.Snapshot.{Snapshot}
use Rattle.st_base.specs.Range.{is_in_range}
use Rattle.st_model.specs.Read.{read, mark_at, value_of}
use Rattle.st_model.specs.Sound.{IsSound, KeysRise, WritesWithin}
use Rattle.base_laws.proofs.Keys.{at_key}
use Rattle.base_laws.proofs.Lists.{each_as}
use Rattle.core_model.specs.Relation.{Represents}
use Rattle.core_model.specs.StatePicture.{RepresentsState, state_of}
use Rattle.core_laws.proofs.OfState.{state_stands}
use Rattle.core_model.specs.Picture.{FileEntries, FamilyView, Job, Core, lowest_level, tables_in, runs_of, find_mark, jobs_of, all_tables, live_numbers}
use Rattle.core_model.specs.Request.{IsRequest, NamesThere}
use Rattle.core_model.specs.RelationParts.{HaveSame, ForBoth, ForEach, ReadsAs, HasModelMarks, NumbersFall, NumbersWithin, LevelsApart, HasRanges, IsView, HasKnownKeys, HasWritten, IsFlush, IsCompacting, IsRunning, IsTurn, JobsRun, IsKept, KeepsReads, HasOutputs, AreNoted, ids_of, model_ids}
use Rattle.core_laws.proofs.NamedLists.{NamesDiffer, Zipped, zip_to, zip_both, zip_left, zip_right, lefts, rights, both_of_zip, zip_of_both}
use Rattle.core_laws.proofs.Lists.{pairs_as}
use Rattle.core_laws.proofs.Members.{pairs_of_all}
use Rattle.st_order.specs.Columns.{Pairwise}
use Rattle.job_model.specs.Drops.{DontFall}

-- ---- the pair

-- the last number, or a live one
abbrev pub IsRead : ℕ → List ℕ → ℕ → Type 0
IsRead last live number = (number ≡ last) ⊎ Contains live number

pub record Pair (behind : Bool) (last : ℕ) (live : List ℕ) (family : FamilyView) (kept : ModelFamily) : Type 0 where
  pub id : family.id ≡ kept.id
  pub reads : (number : ℕ) (key : List ℕ) → IsRead last live number → value_of (find_mark family number key) ≡ read kept number key
  pub marks : IsTrue behind → (number : ℕ) (key : List ℕ) → IsRead last live number → find_mark family number key ≡ mark_at kept number key
  pub falls : NumbersFall family
  pub within : NumbersWithin last family
  pub apart : LevelsApart family
  pub ranges : IsTrue behind → HasRanges family kept
  pub known : HasKnownKeys family kept
  pub written : HasWritten family kept
  pub view : IsView family
  pub writes : WritesWithin last kept

read_of : (last : ℕ) (live : List ℕ) (number : ℕ) → Contains (last ∷ live) number → IsRead last live number
read_of last live number there = at there.0 there.1 there.2
  where
    at : (k : ℕ) → k < length (last ∷ live) → get_or (last ∷ live) k number ≡ number → IsRead last live number
    at zero lt e = inl (sym e)
    at (suc k) lt e = inr (k, (let lt' : k < length live = omega arith in lt'), e)

of_read : (last : ℕ) (live : List ℕ) (number : ℕ) → IsRead last live number → Contains (last ∷ live) number
of_read last live number (inl e) = (0, (let lt : 0 < length (last ∷ live) = omega arith in lt), sym e)
of_read last live number (inr there) = (suc there.0, (let lt : suc there.0 < length (last ∷ live) = omega (arith, there.1) in lt), there.2)

-- ---- ids

abbrev head_of : List (List ℕ × ℕ) → List ℕ × ℕ → List ℕ × ℕ
head_of [] d = d
head_of (x ∷ xs) d = x

abbrev tail_of : List (List ℕ × ℕ) → List (List ℕ × ℕ)
tail_of [] = []
tail_of (x ∷ xs) = xs

pub ids_zip : (fs : List (List ℕ × FamilyView)) (ks : List (List ℕ × ModelFamily)) → ids_of fs ≡ model_ids ks → Zipped (λ f k. f.id ≡ k.id) fs ks
ids_zip [] [] e = tt
ids_zip [] (k ∷ ks) e = absurd cc
ids_zip (f ∷ fs) [] e = absurd cc
ids_zip (f ∷ fs) (k ∷ ks) e =
    let one = ap (λ ids. head_of ids ([], 0)) e in
    ((ap (λ p. p.0) one, ap (λ p. p.1) one), ids_zip fs ks (ap tail_of e))

pub zip_ids : (fs : List (List ℕ × FamilyView)) (ks : List (List ℕ × ModelFamily)) → Zipped (λ f k. f.id ≡ k.id) fs ks → ids_of fs ≡ model_ids ks
zip_ids [] [] h = refl
zip_ids [] (k ∷ ks) h = absurd h
zip_ids (f ∷ fs) [] h = absurd h
zip_ids (f ∷ fs) (k ∷ ks) h = ap₂ (λ (p : List ℕ × ℕ) (rest : List (List ℕ × ℕ)). p ∷ rest) (ap₂ (λ (name : List ℕ) (id : ℕ). (name, id)) h.0.0 h.0.1) (zip_ids fs ks h.1)

names_of_zip : {X Y : Type 0} (R : X → Y → Type 0) (xs : List (List ℕ × X)) (ys : List (List ℕ × Y)) → Zipped R xs ys → map (λ (x : List ℕ × X). x.0) xs ≡ map (λ (y : List ℕ × Y). y.0) ys
names_of_zip R [] [] h = refl
names_of_zip R [] (y ∷ ys) h = absurd h
names_of_zip R (x ∷ xs) [] h = absurd h
names_of_zip R (x ∷ xs) (y ∷ ys) h = ap₂ (λ (k : List ℕ) (ks : List (List ℕ)). k ∷ ks) h.0.0 (names_of_zip R xs ys h.1)

below_differs : (a b : List ℕ) → below a b ≡ true → is_eq (bytes_cmp b a) ≡ false
below_differs a b h = by (is_eq (bytes_cmp b a)) refl
  where
    by : (t : Bool) → is_eq (bytes_cmp b a) ≡ t → is_eq (bytes_cmp b a) ≡ false
    by true e = absurd (false≢true (sym (ap is_lt (tied_itself nat_list_cmp_total a)) ∙ subst (λ k. is_lt (bytes_cmp a k) ≡ true) (at_key b a e) h))
    by false e = e

pub names_differ : {X : Type 0} (xs : List (List ℕ × X)) → KeysRise xs → NamesDiffer xs
names_differ {X} xs h =
    pairs_as (λ (one other : List ℕ × X). IsTrue (below one.0 other.0)) (λ (one other : List ℕ × X). is_eq (bytes_cmp other.0 one.0) ≡ false) (λ one other k. below_differs one.0 other.0 k) xs
    (pairs_of_all (λ (one other : List ℕ × X). IsTrue (below one.0 other.0)) xs h)

-- where names and ids are the same, what holds of those of one name holds place by place
pub zip_of : (core : Core) (state : ModelState) (R : FamilyView → ModelFamily → Type 0) → HaveSame core state → IsSound state → ForBoth core state R → Zipped R core.families state.families
zip_of core state R same sound both =
    zip_of_both R core.families state.families
    (names_of_zip (λ f k. f.id ≡ k.id) core.families state.families (ids_zip core.families state.families same.families))
    (names_differ state.families sound.names) both

-- ---- from `Represents`, and back

-- of what readers see alone
pub pairs_of_state : (core : Core) (state : ModelState) → HaveSame core state → RepresentsState (state_of core) core.place state → Zipped (Pair core.behind core.last (live_numbers core)) core.families state.families
pairs_of_state core state same s =
    let at : (R : FamilyView → ModelFamily → Type 0) → ForBoth core state R → Zipped R core.families state.families = λ R both. zip_of core state R same s.sound both in
    let fs = core.families in
    let ks = state.families in
    zip_to (λ f k. (f.id ≡ k.id) × (ReadsAs state f k × ((IsTrue core.behind → HasModelMarks state f k) × ((IsTrue core.behind → HasRanges f k) × (HasKnownKeys f k × (HasWritten f k × (NumbersFall f × (NumbersWithin core.last f × (LevelsApart f × (IsView f × WritesWithin state.last k))))))))))
    (Pair core.behind core.last (live_numbers core))
    (λ f k h. record {
      id = h.0;
      reads = λ number key there. h.1.0 number key (numbers number there);
      marks = λ flag number key there. h.1.1.0 flag number key (numbers number there);
      ranges = h.1.1.1.0;
      known = h.1.1.1.1.0;
      written = h.1.1.1.1.1.0;
      falls = h.1.1.1.1.1.1.0;
      within = h.1.1.1.1.1.1.1.0;
      apart = h.1.1.1.1.1.1.1.1.0;
      view = h.1.1.1.1.1.1.1.1.1.0;
      writes = subst (λ n. WritesWithin n k) (sym same.last) h.1.1.1.1.1.1.1.1.1.1;
    }) fs ks
    (zip_both _ _ fs ks (ids_zip fs ks same.families)
    (zip_both _ _ fs ks (at (ReadsAs state) s.reads)
    (zip_both _ _ fs ks (at (λ f k. IsTrue core.behind → HasModelMarks state f k) (λ name f k here there flag. s.marks flag name f k here there))
    (zip_both _ _ fs ks (at (λ f k. IsTrue core.behind → HasRanges f k) (λ name f k here there flag. s.ranges flag name f k here there))
    (zip_both _ _ fs ks (at HasKnownKeys s.known)
    (zip_both _ _ fs ks (at HasWritten s.written)
    (zip_left NumbersFall _ fs ks s.falls
    (zip_left (NumbersWithin core.last) _ fs ks s.within
    (zip_left LevelsApart _ fs ks s.apart
    (zip_left IsView _ fs ks s.views
    (zip_to (λ f k. WritesWithin state.last k × (f.id ≡ k.id)) (λ f k. WritesWithin state.last k) (λ f k h. h.0) fs ks
    (zip_right (WritesWithin state.last) (λ f k. f.id ≡ k.id) fs ks s.sound.writes (ids_zip fs ks same.families)))))))))))))
  where
    numbers : (number : ℕ) → IsRead core.last (live_numbers core) number → Contains (state.last ∷ map (λ (live : Snapshot). live.number) state.live) number
    numbers number there =
        of_read state.last (map (λ (live : Snapshot). live.number) state.live) number
        (subst (λ live. IsRead state.last live number) (ap (map (λ (live : Snapshot). live.number)) s.same.live) (subst (λ last. IsRead last (live_numbers core) number) s.same.last there))

pub pairs_stand : (core : Core) (state : ModelState) → Represents core state → Zipped (Pair core.behind core.last (live_numbers core)) core.families state.families
pairs_stand core state s = pairs_of_state core state s.same (state_stands core state s)

pub record Rest (core : Core) : Type 0 where
  pub jobs : ForEach core (λ family. JobsRun (lowest_level core) (jobs_of core family) family)
  pub kept : ForEach core (λ family. Each (KeepsReads core family) (jobs_of core family))
  pub files : Pairwise (λ one other. one.file ≡ other.file → ⊥) (all_tables core)
  pub noted : AreNoted core

pub rest_stands : (core : Core) (state : ModelState) → Represents core state → Rest core
rest_stands core state s = record { jobs = s.jobs; kept = s.kept; files = s.files; noted = s.noted }

pub stands_of : (core : Core) (state : ModelState) → HaveSame core state → Zipped (Pair core.behind core.last (live_numbers core)) core.families state.families
    → Rest core → IfSome core.turn (λ turn. IsTurn core turn × NamesThere core turn.parts × IsRequest turn.parts) → IsSound state → Represents core state
stands_of core state same pairs rest turn sound = record {
  same = same;
  reads = both_of_zip (ReadsAs state) fs ks (zip_to P (ReadsAs state) (λ f k h number key there. h.reads number key (numbers number there)) fs ks pairs);
  falls = lefts NumbersFall P (λ f k h. h.falls) fs ks pairs;
  within = lefts (NumbersWithin core.last) P (λ f k h. h.within) fs ks pairs;
  apart = lefts LevelsApart P (λ f k h. h.apart) fs ks pairs;
  ranges = λ flag. both_of_zip HasRanges fs ks (zip_to P HasRanges (λ f k h. h.ranges flag) fs ks pairs);
  marks = λ flag. both_of_zip (HasModelMarks state) fs ks (zip_to P (HasModelMarks state) (λ f k h number key there. h.marks flag number key (numbers number there)) fs ks pairs);
  known = both_of_zip HasKnownKeys fs ks (zip_to P HasKnownKeys (λ f k h. h.known) fs ks pairs);
  written = both_of_zip HasWritten fs ks (zip_to P HasWritten (λ f k h. h.written) fs ks pairs);
  jobs = rest.jobs;
  kept = rest.kept;
  turn = turn;
  views = lefts IsView P (λ f k h. h.view) fs ks pairs;
  files = rest.files;
  noted = rest.noted;
  sound = sound;
}
  where
    fs : List (List ℕ × FamilyView)
    fs = core.families

    ks : List (List ℕ × ModelFamily)
    ks = state.families

    P : FamilyView → ModelFamily → Type 0
    P = Pair core.behind core.last (live_numbers core)

    numbers : (number : ℕ) → Contains (state.last ∷ map (λ (live : Snapshot). live.number) state.live) number → IsRead core.last (live_numbers core) number
    numbers number there =
        subst (λ last. IsRead last (live_numbers core) number) (sym same.last)
        (subst (λ live. IsRead state.last live number) (sym (ap (map (λ (live : Snapshot). live.number)) same.live)) (read_of state.last (map (λ (live : Snapshot). live.number) state.live) number there))

-- ---- what stays while tables and sealed memtables stay

-- a compaction speaks of the levels alone
pub compacting_levels : (n : ℕ) (one other : FamilyView) (job : Job) → one.levels ≡ other.levels → IsCompacting n one job → IsCompacting n other job
compacting_levels n one other job e h = again (subst (λ (ls : List (List FileEntries)). IsCompacting n (record one { levels = ls }) job) e h)
  where
    again : IsCompacting n (record one { levels = other.levels }) job → IsCompacting n other job
    again k = record { level = k.level; some = k.some; files = k.files; inputs = k.inputs; levels = k.levels; clear = k.clear; below = k.below }

pub running_stays : (n : ℕ) (one other : FamilyView) (job : Job) → (IsFlush one job → IsFlush other job) → one.levels ≡ other.levels → IsRunning n one job → IsRunning n other job
running_stays n one other job flush e h = ((λ z. flush (h.0 z)), (λ p. compacting_levels n one other job e (h.1 p)))

pub keeps_stays : (core after : Core) (one other : FamilyView) (job : Job) → one.levels ≡ other.levels → Each (IsKept job) (live_numbers after) → core.last ≤ after.last → core.behind ≡ after.behind
    → KeepsReads core one job → KeepsReads after other job
keeps_stays core after one other job e live last behind h = record {
  live = live;
  began = (let le : job.began ≤ core.last = h.began in omega arith);
  numbers = h.numbers;
  within = h.within;
  nothing = subst (λ (ls : List (List FileEntries)). Each (λ range. Each (Each (λ entry. IsFalse (is_in_range range entry.key))) (runs_of (tables_in (drop (job.level + 1) ls)))) job.drops) e h.nothing;
  flag = λ flag. h.flag (subst (λ b. IsTrue b) (sym behind) flag);
}

-- the same tables, under the same names and ids; a flush is one still
pub record Stays (one other : FamilyView) : Type 0 where
  pub id : one.id ≡ other.id
  pub levels : one.levels ≡ other.levels
  pub flush : (job : Job) → IsFlush one job → IsFlush other job

pub stays_itself : (family : FamilyView) → Stays family family
stays_itself family = record { id = refl; levels = refl; flush = λ job h. h }

pub zip_itself : {X : Type 0} (R : X → X → Type 0) → ((x : X) → R x x) → (xs : List (List ℕ × X)) → Zipped R xs xs
zip_itself R r [] = tt
zip_itself R r (x ∷ xs) = ((refl, r x.1), zip_itself R r xs)

pub tables_stay : (fs gs : List (List ℕ × FamilyView)) → Zipped Stays fs gs → flat_map (λ (named : List ℕ × FamilyView). tables_in named.1.levels) fs ≡ flat_map (λ (named : List ℕ × FamilyView). tables_in named.1.levels) gs
tables_stay [] [] h = refl
tables_stay [] (g ∷ gs) h = absurd h
tables_stay (f ∷ fs) [] h = absurd h
tables_stay (f ∷ fs) (g ∷ gs) h = ap₂ (λ (a b : List FileEntries). a ++ b) (ap tables_in h.0.1.levels) (tables_stay fs gs h.1)

-- what an event leaves that touches no table and no job: numbers and snapshots may grow, each job must keep the live ones
pub record Leaves (core after : Core) : Type 0 where
  pub families : Zipped Stays core.families after.families
  pub jobs : core.jobs ≡ after.jobs
  pub made : core.jobs_made ≡ after.jobs_made
  pub next : core.next_family ≤ after.next_family
  pub behind : core.behind ≡ after.behind
  pub last : core.last ≤ after.last
  pub live : (job : Job) → job.began ≤ core.last → Each (IsKept job) (live_numbers core) → Each (IsKept job) (live_numbers after)
  pub fall : DontFall (live_numbers core) → DontFall (live_numbers after)

pub rest_left : (core after : Core) → Leaves core after → Rest core → Rest after
rest_left core after l r = record {
  jobs = rights (λ g. JobsRun (lowest_level after) (jobs_of after g) g) (λ f g. JobsRun (lowest_level core) (jobs_of core f) f × Stays f g) (λ f g h. jobs_at f g h.0 h.1) core.families after.families (zip_left _ Stays core.families after.families r.jobs l.families);
  kept = rights (λ g. Each (KeepsReads after g) (jobs_of after g)) (λ f g. Each (KeepsReads core f) (jobs_of core f) × Stays f g) (λ f g h. kept_at f g h.0 h.1) core.families after.families (zip_left _ Stays core.families after.families r.kept l.families);
  files = subst (λ (tables : List FileEntries). Pairwise (λ one other. one.file ≡ other.file → ⊥) tables) (tables_stay core.families after.families l.families) r.files;
  noted = record {
    numbers = subst (λ (jobs : List Job). Pairwise (λ one other. one.number ≡ other.number → ⊥) jobs) l.jobs r.noted.numbers;
    made = subst₂ (λ (jobs : List Job) (n : ℕ). n < 18446744073709551615 → Each (λ job. job.number ≤ n) jobs) l.jobs l.made r.noted.made;
    outputs = subst (λ (jobs : List Job). Each HasOutputs jobs) l.jobs r.noted.outputs;
    families = subst (λ (jobs : List Job). Each (λ job. job.family < after.next_family) jobs) l.jobs (each_as (λ (job : Job). job.family < core.next_family) (λ job. job.family < after.next_family) (λ job lt. let le : core.next_family ≤ after.next_family = l.next in omega arith) core.jobs r.noted.families);
    live = l.fall r.noted.live;
  };
}
  where
    same_jobs : (f g : FamilyView) → Stays f g → jobs_of core f ≡ jobs_of after g
    same_jobs f g s = ap₂ (λ (jobs : List Job) (id : ℕ). filter (λ job. job.family == id) jobs) l.jobs s.id

    same_lowest : lowest_level core ≡ lowest_level after
    same_lowest = ap (λ (b : Bool). cond b 5 6) l.behind

    jobs_at : (f g : FamilyView) → JobsRun (lowest_level core) (jobs_of core f) f → Stays f g → JobsRun (lowest_level after) (jobs_of after g) g
    jobs_at f g h s = subst₂ (λ (n : ℕ) (jobs : List Job). JobsRun n jobs g) same_lowest (same_jobs f g s) (record {
      each = each_as (IsRunning (lowest_level core) f) (IsRunning (lowest_level core) g) (λ job k. running_stays (lowest_level core) f g job (s.flush job) s.levels k) (jobs_of core f) h.each;
      ranges = h.ranges;
      apart = h.apart;
    })

    kept_at : (f g : FamilyView) → Each (KeepsReads core f) (jobs_of core f) → Stays f g → Each (KeepsReads after g) (jobs_of after g)
    kept_at f g h s = subst (λ (jobs : List Job). Each (KeepsReads after g) jobs) (same_jobs f g s)
        (each_as (KeepsReads core f) (KeepsReads after g) (λ job k. keeps_stays core after f g job s.levels (l.live job k.began k.live) l.last l.behind k) (jobs_of core f) h)
