-- What a cause tells: a key of the levels in the range, or the output of a running job that meets it.
use Rattle.std.proofs.Common.{◌≡◌, ℕ, ◌+◌, ◌≤◌, Bool, true, false, cond, ◌&&◌, ◌||◌, List, [], ◌∷◌, ◌++◌, flat_map, filter, length, Option, Some, None, refl, sym, ap, subst, ◌∙◌, inl, inr, ◌⊎◌, arith}
use Rattle.std.specs.Prelude.{fold, find, map, nat_le, Contains, ◌==◌}
use Rattle.std.specs.Option.{option_map, option_or}
use Rattle.std.specs.List.{list_any, AllByRecursion as Each}
use Rattle.std.proofs.lemmas.Bool.{false≢true, and_parts, and_from, or_left, or_right}
use Rattle.st_base.specs.Bytes.{at_most, below, same}
use Rattle.st_base.specs.declared.entry.Entry.{Entry}
use Rattle.st_base.specs.declared.entry.KeyRange.{KeyRange}
use Rattle.st_model.specs.declared.refusal.Why.{Why}
use Rattle.st_model.specs.declared.refusal.Why.TheVariants.{Key, Running}
use Rattle.st_model.specs.declared.state.ModelFamily.{ModelFamily}
use Rattle.st_model.specs.Placing.{is_among_known}
use Rattle.st_base.specs.Range.{is_in_range, meet, keys_of, key_at_front, key_at_end}
use Rattle.st_model.specs.State.{is_known}
use Rattle.st_base.proofs.Same.{same_true}
use Rattle.base_laws.proofs.Lists.{each_join}
use Rattle.job_model.specs.Level as levels_of_runs
use Rattle.job_model.specs.Level.{LevelChoice, output_meets, stopped, walk_from}
use Rattle.st_base.specs.declared.running.Running as shown
use Rattle.core_model.specs.Level.{level_rule, stop_at}
use Rattle.core_model.specs.Pick.{busy, joint_range}
use Rattle.core_model.specs.Picture.{FileEntries, Job, runs_of, tables_in}
use Rattle.core_laws.proofs.FileChanges.{contains_later, filter_with}
use Rattle.core_laws.proofs.JointRange.{end_holds, front_holds}
use Rattle.core_laws.proofs.FileLift.{some_is}
use Rattle.st_order.specs.Least.{lesser_key, least_within}

-- ---- the least key

least_some : (Q : List ℕ → Type 0) (acc key : List ℕ) (keys : List (List ℕ)) → Q acc → Each Q keys → fold lesser_key (Some acc) keys ≡ Some key → Q key
least_some Q acc key [] here each e = subst Q (some_is acc key e) here
least_some Q acc key (other ∷ keys) here each e = step (below other acc) e (least_some Q other key keys each.0 each.1) (least_some Q acc key keys here each.1)
  where
    step : (b : Bool) → fold lesser_key (cond b (Some other) (Some acc)) keys ≡ Some key → (fold lesser_key (Some other) keys ≡ Some key → Q key) → (fold lesser_key (Some acc) keys ≡ Some key → Q key) → Q key
    step true e one two = one e
    step false e one two = two e

least_of : (Q : List ℕ → Type 0) (key : List ℕ) (keys : List (List ℕ)) → Each Q keys → fold lesser_key None keys ≡ Some key → Q key
least_of Q key [] each e = absurd cc
least_of Q key (other ∷ keys) each e = least_some Q other key keys each.0 each.1 e

keys_each : (P : List ℕ → Type 0) (runs : List (List Entry)) → Each (Each (λ entry. P entry.key)) runs → Each P (flat_map keys_of runs)
keys_each P [] each = tt
keys_each P (run ∷ runs) each = each_join P (keys_of run) (flat_map keys_of runs) (of_run run each.0) (keys_each P runs each.1)
  where
    of_run : (entries : List Entry) → Each (λ entry. P entry.key) entries → Each P (keys_of entries)
    of_run [] each = tt
    of_run (x ∷ xs) each = (each.0, of_run xs each.1)

-- it lies in the range, and what holds of all keys holds of it
pub least_is : (P : List ℕ → Type 0) (range : KeyRange) (runs : List (List Entry)) (key : List ℕ) → Each (Each (λ entry. P entry.key)) runs → least_within range runs ≡ Some key → (is_in_range range key ≡ true) × P key
least_is P range runs key each e =
    least_of (λ k. (is_in_range range k ≡ true) × P k) key (filter (is_in_range range) (flat_map keys_of runs))
    (filter_with (is_in_range range) P (λ k. (is_in_range range k ≡ true) × P k) (flat_map keys_of runs) (λ k here within. (within, here)) (keys_each P runs each)) e

-- ---- the job

pub find_some : {X : Type 0} (p : X → Bool) (xs : List X) (x : X) → find p xs ≡ Some x → Contains xs x × (p x ≡ true)
find_some p [] x e = absurd cc
find_some p (y ∷ ys) x e = step (p y) refl e (find_some p ys x)
  where
    step : (b : Bool) → p y ≡ b → cond b (Some y) (find p ys) ≡ Some x → (find p ys ≡ Some x → Contains ys x × (p x ≡ true)) → Contains (y ∷ ys) x × (p x ≡ true)
    step true is e rest = let at = some_is y x e in ((0, omega arith, at), ap p (sym at) ∙ is)
    step false is e rest = let found = rest e in (contains_later y ys x found.0, found.1)

-- so does what is found among what a list shows
find_shown : {X Y : Type 0} (f : X → Y) (p : Y → Bool) (xs : List X) (y : Y) → find p (map f xs) ≡ Some y → (x : X) × Contains xs x × (f x ≡ y) × (p y ≡ true)
find_shown f p [] y e = absurd cc
find_shown f p (x ∷ xs) y e = step (p (f x)) refl e (find_shown f p xs y)
  where
    step : (b : Bool) → p (f x) ≡ b → cond b (Some (f x)) (find p (map f xs)) ≡ Some y → (find p (map f xs) ≡ Some y → (x : _) × Contains xs x × (f x ≡ y) × (p y ≡ true)) → (one : _) × Contains (x ∷ xs) one × (f one ≡ y) × (p y ≡ true)
    step true is e rest = let at = some_is (f x) y e in (x, (0, omega arith, refl), at, ap p (sym at) ∙ is)
    step false is e rest = let found = rest e in (found.0, contains_later x xs found.0 found.1, found.2, found.3)

-- ---- the cause

abbrev pub Reason : (List ℕ → Type 0) → List Job → KeyRange → Why → Type 0
Reason P running range why = ((key : List ℕ) × (is_in_range range key ≡ true) × P key × (why ≡ Key key)) ⊎ ((job : Job) × Contains running job × (meet job.range range ≡ true) × (why ≡ Running job.range))

stop_reason : (P : List ℕ → Type 0) (running : List Job) (n : ℕ) (range : KeyRange) (tables : List FileEntries) (why : Why) → Each (Each (λ entry. P entry.key)) (runs_of tables) → stop_at running n range tables ≡ Some why → Reason P running range why
stop_reason P running n range tables why each e = step (least_within range (runs_of tables)) refl (find (output_meets n range) (map busy running)) refl e
  where
    step : (found : Option (List ℕ)) → least_within range (runs_of tables) ≡ found → (output : Option shown.Running) → find (output_meets n range) (map busy running) ≡ output
        → option_or (option_map Key found) (option_map (λ output. Running output.range) output) ≡ Some why → Reason P running range why
    step (Some key) is output is_output e = let least = least_is P range (runs_of tables) key each is in inl (key, least.0, least.1, sym (some_is (Key key) why e))
    step None is (Some output) is_output e =
        let found = find_shown busy (output_meets n range) running output is_output in
        let same : output.range ≡ found.0.range = ap (λ (one : shown.Running). one.range) (sym found.2) in
        inr (found.0, found.1, subst (λ one. meet one range ≡ true) same (and_parts (output.level == n) (meet output.range range) found.3).1, sym (some_is (Running output.range) why e) ∙ ap Running same)
    step None is None is_output e = absurd cc

map_append_entries : (P : List Entry → Type 0) (tables more : List FileEntries) → Each P (runs_of (tables ++ more)) → Each P (runs_of tables) × Each P (runs_of more)
map_append_entries P [] more each = (tt, each)
map_append_entries P (table ∷ tables) more each = let rest = map_append_entries P tables more each.1 in ((each.0, rest.0), rest.1)

stops_reason : (P : List ℕ → Type 0) (running : List Job) (range : KeyRange) (lowest found n : ℕ) (levels : List (List FileEntries)) (why : Why) → Each (Each (λ entry. P entry.key)) (runs_of (tables_in levels))
    → (walk_from (map busy running) range lowest found n (map runs_of levels)).cause ≡ Some why → Reason P running range why
stops_reason P running range lowest found n [] why each e = absurd cc
stops_reason P running range lowest found n (tables ∷ levels) why each e =
    let parts = map_append_entries (Each (λ entry. P entry.key)) tables (tables_in levels) each in
    step (stop_at running n range tables) refl parts.0 e (stops_reason P running range lowest next (n + 1) levels why parts.1)
  where
    next : ℕ
    next = cond (nat_le n lowest && levels_of_runs.is_free_level range (runs_of tables)) n found

    rest : LevelChoice
    rest = walk_from (map busy running) range lowest next (n + 1) (map runs_of levels)

    step : (stop : Option Why) → stop_at running n range tables ≡ stop → Each (Each (λ entry. P entry.key)) (runs_of tables) → (stopped stop found rest).cause ≡ Some why
        → (rest.cause ≡ Some why → Reason P running range why) → Reason P running range why
    step None is here e deeper = deeper e
    step (Some other) is here e deeper = stop_reason P running n range tables why here (is ∙ e)

pub cause_reason : (P : List ℕ → Type 0) (levels : List (List FileEntries)) (running : List Job) (range : KeyRange) (lowest : ℕ) (why : Why) → Each (Each (λ entry. P entry.key)) (runs_of (tables_in levels))
    → (level_rule levels running range lowest).cause ≡ Some why → Reason P running range why
cause_reason P levels running range lowest why each e = stops_reason P running range lowest 0 0 levels why each e

-- ---- the ends of a joint range are keys of the inputs

cond_holds : (P : List ℕ → Type 0) (b : Bool) (one other : List ℕ) → P one → P other → P (cond b one other)
cond_holds P true one other a c = a
cond_holds P false one other a c = c

pub joint_ends : (P : List ℕ → Type 0) (inputs : List (List Entry)) → 1 ≤ length inputs → Each (λ entries. 1 ≤ length entries) inputs → Each (Each (λ entry. P entry.key)) inputs → P (joint_range inputs).first × P (joint_range inputs).last
joint_ends P [] some filled each = absurd (omega arith)
joint_ends P (entries ∷ []) some filled each = (front_holds P entries filled.0 each.0, end_holds P entries filled.0 each.0)
joint_ends P (entries ∷ other ∷ more) some filled each =
    let rest = joint_ends P (other ∷ more) (omega arith) filled.1 each.1 in (
      cond_holds P (below (joint_range (other ∷ more)).first (key_at_front entries)) (joint_range (other ∷ more)).first (key_at_front entries) rest.0 (front_holds P entries filled.0 each.0),
      cond_holds P (below (key_at_end entries) (joint_range (other ∷ more)).last) (joint_range (other ∷ more)).last (key_at_end entries) rest.1 (end_holds P entries filled.0 each.0),
    )

-- ---- known keys around a range

known_any : (p : List ℕ → Bool) (keys : List (List ℕ)) (key : List ℕ) → list_any (λ known. same known key) keys ≡ true → p key ≡ true → list_any p keys ≡ true
known_any p [] key there holds = absurd (false≢true there)
known_any p (known ∷ keys) key there holds = step (same known key) refl there (known_any p keys key)
  where
    step : (b : Bool) → same known key ≡ b → (b || list_any (λ known. same known key) keys) ≡ true → (list_any (λ known. same known key) keys ≡ true → p key ≡ true → list_any p keys ≡ true) → (p known || list_any p keys) ≡ true
    step true is there rest = or_left (p known) (list_any p keys) (ap p (same_true known key is) ∙ holds)
    step false is there rest = or_right (p known) (list_any p keys) (rest there holds)

pub among_known : (kept : ModelFamily) (range : KeyRange) (low high : List ℕ) → is_known kept low ≡ true → is_known kept high ≡ true → at_most low range.last ≡ true → at_most range.first high ≡ true → is_among_known kept range ≡ true
among_known kept range low high one other below_last above_first =
    and_from (list_any (λ known. at_most known range.last) kept.known) (list_any (at_most range.first) kept.known)
    (known_any (λ known. at_most known range.last) kept.known low one below_last) (known_any (at_most range.first) kept.known high other above_first)
