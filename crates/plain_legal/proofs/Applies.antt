-- A change that is answered rightly can be applied.
use Rattle.std.proofs.Common.{inl, inr, subst, unwrap_or, IsSomeAnd, arith, zero, suc, take, ◌≡◌, ℕ, ◌+◌, ◌<◌, ◌≤◌, ◌^◌, Bool, true, false, not, ◌&&◌, ◌||◌, ◌==◌, nat_lt, nat_le, List, [], ◌∷◌, ◌++◌, map, filter, length, fold, drop, cond, Option, Some, None, refl, ap, sym, ◌∙◌}
use Rattle.std.specs.List.{list_any, AllByRecursion as Each}
use Rattle.std.proofs.lemmas.Bool.{true≢false}
use Rattle.std.proofs.lemmas.Bool.Decides.{nat_tests}
use Rattle.st_model.specs.declared.change.Change.{Change}
use Rattle.st_model.specs.declared.change.Change.TheVariants as change
use Rattle.st_model.specs.declared.change.Batch.{Batch}
use Rattle.st_model.specs.declared.refusal.Refusal.{Refusal}
use Rattle.st_model.specs.declared.refusal.Refusal.TheVariants.{UnknownFamily, NumbersSpent, StoreFull, SnapshotGone, FamilyExists, DefaultStays, FamiliesFull, SnapshotsFull}
use Rattle.st_model.specs.declared.reply.Reply.{Reply}
use Rattle.st_model.specs.declared.reply.Reply.TheVariants as reply
use Rattle.st_model.specs.declared.state.ModelState.{ModelState}
use Rattle.st_model.specs.declared.state.Snapshot.{Snapshot}
use Rattle.st_base.specs.Bytes.{same, default_family}
use Rattle.st_base.specs.Entries.{add_charge}
use Rattle.st_model.specs.Answer.{first_or, refused_if, unknown_families, place_spent, write_answer, write_refusals, snap_answer, snap_refusals, gone, release_answer, make_answer, make_refusals, drop_answer, drop_refusals}
use Rattle.st_model.specs.Apply.{apply_file, IsApplicable, op_family, write_charge}
use Rattle.st_model.specs.History.{is_change, taken, taken_files, placed_of, change_asked}
use Rattle.st_model.specs.Refusals.{shape_refusals, inner_refusals, refusals_or, file_refusals, meeting_refusals, behind_refusals, fit_refusals}
use Rattle.st_model.specs.Request.{File, Argument, request_of}
use Rattle.st_model.specs.declared.change.Taken.{Taken}
use Rattle.st_model.specs.declared.reply.Placed.{Placed}
use Rattle.st_model.specs.Reply.{IsOrStops, IsIngested, IsIngestReply, IsReplyTo}
use Rattle.std.specs.Option.{option_map}
use Rattle.st_model.specs.declared.command.Asked.{Asked}
use Rattle.st_model.specs.declared.command.Command.{Command}
use Rattle.st_model.specs.declared.command.Command.TheVariants as command
use Rattle.st_model.specs.State.{has_family, lives, greatest_number, last_family_id, most_families, most_snapshots}

-- ---- answers that are changes

none_refused : (refusals : List Refusal) (answer given : Reply) → given ≡ first_or refusals answer → is_change given ≡ true → refusals ≡ []
none_refused [] answer given e h = refl
none_refused (refusal ∷ refusals) answer given e h = absurd (true≢false (sym h ∙ ap is_change e))

unstopped : (given answer : Reply) → IsOrStops given answer → is_change given ≡ true → given ≡ answer
unstopped given answer (inl e) h = e
unstopped given answer (inr (inl e)) h = absurd (true≢false (sym h ∙ ap is_change e))
unstopped given answer (inr (inr e)) h = absurd (true≢false (sym h ∙ ap is_change e))

parts : {X : Type 0} (xs ys : List X) → xs ++ ys ≡ [] → (xs ≡ []) × (ys ≡ [])
parts [] ys e = (refl, e)
parts (x ∷ xs) ys e = cc

unheld : (b : Bool) (refusal : Refusal) → refused_if b refusal ≡ [] → b ≡ false
unheld true refusal e = cc
unheld false refusal e = refl

below_le : (m n : ℕ) → nat_le m n ≡ false → n < m
below_le m n h = grind (arith, nat_tests, h)

le_lt : (m n : ℕ) → nat_lt m n ≡ false → n ≤ m
le_lt m n h = grind (arith, nat_tests, h)

-- ---- families

none_step : (b c : Bool) (name : List ℕ) (names : List (List ℕ)) → (map UnknownFamily names ≡ [] → c ≡ false) → map UnknownFamily (cond b (name ∷ names) names) ≡ [] → (b || c) ≡ false
none_step true c name names more e = cc
none_step false c name names more e = more e

none_unknown : {X : Type 0} (test : List ℕ → Bool) (f : X → List ℕ) (xs : List X) → map UnknownFamily (filter test (map f xs)) ≡ [] → list_any (λ x. test (f x)) xs ≡ false
none_unknown test f [] e = refl
none_unknown test f (x ∷ xs) e = none_step (test (f x)) (list_any (λ x. test (f x)) xs) (f x) (filter test (map f xs)) (none_unknown test f xs) e

negated : (b : Bool) → b ≡ false → not b ≡ true
negated true e = absurd (true≢false e)
negated false e = refl

there : (b : Bool) → (not b || false) ≡ false → b ≡ true
there true e = refl
there false e = absurd (true≢false e)

known_one : (state : ModelState) (name : List ℕ) → unknown_families state (name ∷ []) ≡ [] → has_family state name ≡ true
known_one state name e = there (has_family state name) (none_unknown (λ name. not (has_family state name)) (λ (name : List ℕ). name) (name ∷ []) e)

-- ---- each change

pub write_applies : (state : ModelState) (capacity : ℕ) (batch : Batch) (given : Reply) → state.next_family < 2 ^ 32 → IsOrStops given (write_answer state capacity batch.ops) → is_change given ≡ true → IsApplicable state (change.Write batch)
write_applies state capacity batch given family is h =
    let none = none_refused (write_refusals state capacity batch.ops) (reply.Written (state.last + length batch.ops)) given (unstopped given _ is h) h in
    let front = parts _ (refused_if (nat_lt capacity (add_charge state.charge (write_charge batch.ops))) StoreFull) none in
    let second = parts _ (place_spent state) front.0 in
    let first = parts (unknown_families state (map op_family batch.ops)) (refused_if (nat_lt greatest_number (state.last + length batch.ops)) NumbersSpent) second.0 in
    let last : state.last + length batch.ops ≤ greatest_number = le_lt _ _ (unheld _ NumbersSpent first.1) in
    let place : state.place < greatest_number = below_le _ _ (unheld _ NumbersSpent second.1) in
    record {
      names = negated _ (none_unknown (λ name. not (has_family state name)) op_family batch.ops first.0);
      place = omega (arith, place);
      last = omega (arith, last);
      next_family = family;
    }

pub snap_applies : (state : ModelState) (given : Reply) → state.next_family < 2 ^ 32 → state.last < 2 ^ 64 → given ≡ snap_answer state → is_change given ≡ true → IsApplicable state change.Snap
snap_applies state given family last is h =
    let none = none_refused (snap_refusals state) (reply.Snapshot state.last) given is h in
    let first = parts (refused_if (nat_le most_snapshots (length state.live)) SnapshotsFull) _ none in
    let place : state.place < greatest_number = below_le _ _ (unheld _ NumbersSpent first.1) in
    record { names = refl; place = omega (arith, place); last = last; next_family = family }

any_id : (snapshot : Snapshot) (live : List Snapshot) → list_any (λ one. one.id == snapshot.id && one.number == snapshot.number) live ≡ true → list_any (λ one. one.id == snapshot.id) live ≡ true
any_id snapshot [] e = e
any_id snapshot (one ∷ live) e = step (one.id == snapshot.id) (one.number == snapshot.number) (any_id snapshot live) e
  where
    step : {x y : Bool} (b c : Bool) → (x ≡ true → y ≡ true) → ((b && c) || x) ≡ true → (b || y) ≡ true
    step true c more e = refl
    step false c more e = more e

lived : (b : Bool) → not b ≡ false → b ≡ true
lived true e = refl
lived false e = absurd (true≢false e)

pub release_applies : (state : ModelState) (snapshot : Snapshot) (given : Reply) → state.next_family < 2 ^ 32 → state.last < 2 ^ 64 → given ≡ release_answer state snapshot → is_change given ≡ true → IsApplicable state (change.Release snapshot.id)
release_applies state snapshot given family last is h =
    let none = none_refused (gone state snapshot ++ place_spent state) reply.Released given is h in
    let first = parts (gone state snapshot) (place_spent state) none in
    let place : state.place < greatest_number = below_le _ _ (unheld _ NumbersSpent first.1) in
    record { names = any_id snapshot state.live (lived (lives state snapshot) (unheld _ (SnapshotGone snapshot.id) first.0)); place = omega (arith, place); last = last; next_family = family }

pub make_applies : (state : ModelState) (name : List ℕ) (given : Reply) → state.last < 2 ^ 64 → IsOrStops given (make_answer state name) → is_change given ≡ true → IsApplicable state (change.Make name)
make_applies state name given last is h =
    let none = none_refused (make_refusals state name) reply.Made given (unstopped given _ is h) h in
    let third = parts _ (place_spent state) none in
    let second = parts _ (refused_if (nat_le last_family_id state.next_family) NumbersSpent) third.0 in
    let first = parts (refused_if (has_family state name) (FamilyExists name)) (refused_if (nat_le most_families (length state.families)) FamiliesFull) second.0 in
    let family : state.next_family < last_family_id = below_le _ _ (unheld _ NumbersSpent second.1) in
    let place : state.place < greatest_number = below_le _ _ (unheld _ NumbersSpent third.1) in
    record { names = negated (has_family state name) (unheld _ (FamilyExists name) first.0); place = omega (arith, place); last = last; next_family = omega (arith, family) }

pub drop_applies : (state : ModelState) (name : List ℕ) (given : Reply) → state.next_family < 2 ^ 32 → state.last < 2 ^ 64 → IsOrStops given (drop_answer state name) → is_change given ≡ true → IsApplicable state (change.Drop name)
drop_applies state name given family last is h =
    let none = none_refused (drop_refusals state name) reply.Dropped given (unstopped given _ is h) h in
    let second = parts _ (place_spent state) none in
    let first = parts (refused_if (same name default_family) DefaultStays) (unknown_families state (name ∷ [])) second.0 in
    let place : state.place < greatest_number = below_le _ _ (unheld _ NumbersSpent second.1) in
    record { names = known_one state name first.1; place = omega (arith, place); last = last; next_family = family }

-- ---- ingestions

taken_none : {X : Type 0} (xs : List X) → take 1 xs ≡ [] → xs ≡ []
taken_none [] e = refl
taken_none (x ∷ xs) e = cc

any_append : {X : Type 0} (p : X → Bool) (xs ys : List X) → list_any p xs ≡ false → list_any p ys ≡ false → list_any p (xs ++ ys) ≡ false
any_append p [] ys e g = g
any_append p (x ∷ xs) ys e g = step (p x) (list_any p xs) (any_append p xs ys) e
  where
    step : {c : Bool} (a b : Bool) → (b ≡ false → list_any p ys ≡ false → c ≡ false) → (a || b) ≡ false → (a || c) ≡ false
    step true b more e = absurd (true≢false e)
    step false b more e = more e g

or_parts : (a b : Bool) → (a || b) ≡ false → (a ≡ false) × (b ≡ false)
or_parts true b e = absurd (true≢false e)
or_parts false b e = (refl, e)

files_named : (state : ModelState) (argument : Argument) (files : List File) (placed : List Placed) → not (has_family state argument.family) ≡ false → list_any (λ file. not (has_family state file.family)) (taken_files argument files placed) ≡ false
files_named state argument [] placed e = refl
files_named state argument (file ∷ files) [] e = refl
files_named state argument (file ∷ files) (one ∷ placed) e =
    ap (λ b. b || list_any (λ file. not (has_family state file.family)) (taken_files argument files placed)) e ∙ files_named state argument files placed e

all_named : (state : ModelState) (request : List Argument) (placed : List Placed) → list_any (λ argument. not (has_family state argument.family)) request ≡ false → list_any (λ file. not (has_family state file.family)) (taken request placed) ≡ false
all_named state [] placed e = refl
all_named state (argument ∷ request) placed e =
    let both = or_parts (not (has_family state argument.family)) _ e in
    any_append (λ file. not (has_family state file.family)) (taken_files argument argument.files placed) (taken request (drop (length argument.files) placed))
    (files_named state argument argument.files placed both.0) (all_named state request (drop (length argument.files) placed) both.1)

keeps_next : (state : ModelState) (files : List Taken) → (fold apply_file state files).next_family ≡ state.next_family
keeps_next state [] = refl
keeps_next state (file ∷ files) = keeps_next (apply_file state file) files

last_small : (stays : Bool) (number last : ℕ) → number < 2 ^ 64 → last < 2 ^ 64 → cond stays last number < 2 ^ 64
last_small true number last n l = l
last_small false number last n l = n

keeps_small : (state : ModelState) (files : List Taken) → Each (λ file. file.number < 2 ^ 64) files → state.last < 2 ^ 64 → (fold apply_file state files).last < 2 ^ 64
keeps_small state [] each last = last
keeps_small state (file ∷ files) each last = keeps_small (apply_file state file) files each.1 (last_small (file.behind || file.number == 0) file.number state.last each.0 last)

small_drop : (n : ℕ) (placed : List Placed) → Each (λ one. one.number < 2 ^ 64) placed → Each (λ one. one.number < 2 ^ 64) (drop n placed)
small_drop zero placed each = each
small_drop (suc n) [] each = tt
small_drop (suc n) (one ∷ placed) each = small_drop n placed each.1

small_append : (xs ys : List Taken) → Each (λ file. file.number < 2 ^ 64) xs → Each (λ file. file.number < 2 ^ 64) ys → Each (λ file. file.number < 2 ^ 64) (xs ++ ys)
small_append [] ys a b = b
small_append (x ∷ xs) ys a b = (a.0, small_append xs ys a.1 b)

small_files : (argument : Argument) (files : List File) (placed : List Placed) → Each (λ one. one.number < 2 ^ 64) placed → Each (λ file. file.number < 2 ^ 64) (taken_files argument files placed)
small_files argument [] placed each = tt
small_files argument (file ∷ files) [] each = tt
small_files argument (file ∷ files) (one ∷ placed) each = (each.0, small_files argument files placed each.1)

small_taken : (request : List Argument) (placed : List Placed) → Each (λ one. one.number < 2 ^ 64) placed → Each (λ file. file.number < 2 ^ 64) (taken request placed)
small_taken [] placed each = tt
small_taken (argument ∷ request) placed each =
    small_append (taken_files argument argument.files placed) (taken request (drop (length argument.files) placed))
    (small_files argument argument.files placed each) (small_taken request (drop (length argument.files) placed) (small_drop (length argument.files) placed each))

nothing_else : (shape inner : List Refusal) → refusals_or shape inner ≡ [] → inner ≡ []
nothing_else [] inner e = e
nothing_else (refusal ∷ shape) inner e = cc

pub ingest_applies : (state : ModelState) (capacity : ℕ) (request : List Argument) (placed : List Placed) → state.next_family < 2 ^ 32 → state.last < 2 ^ 64
    → Each (λ one. one.number < 2 ^ 64) placed → IsIngested state capacity request placed → IsApplicable state (change.Ingest (taken request placed))
ingest_applies state capacity request placed family last small is =
    let first = parts _ (fit_refusals state request) (nothing_else (shape_refusals request) (inner_refusals state request) is.unrefused) in
    let second = parts _ (behind_refusals state request) first.0 in
    let third = parts (file_refusals request ++ meeting_refusals request) (take 1 (unknown_families state (map (λ argument. argument.family) request))) second.0 in
    let known = none_unknown (λ name. not (has_family state name)) (λ (argument : Argument). argument.family) request (taken_none _ third.1) in
    let place : state.place < greatest_number = is.place in
    let next : (fold apply_file state (taken request placed)).next_family ≡ state.next_family = keeps_next state (taken request placed) in
    record {
      names = negated _ (all_named state request placed known);
      place = omega (arith, place);
      last = keeps_small state (taken request placed) (small_taken request placed small) last;
      next_family = omega (arith, next, family);
    }

-- ---- any command

some_is : {X : Type 0} (x y : X) → Some x ≡ Some y → x ≡ y
some_is x y e = ap (λ o. unwrap_or o x) e

released : (state : ModelState) (snapshot : Option Snapshot) (given : Reply) (made : Change) → state.next_family < 2 ^ 32 → state.last < 2 ^ 64
    → IsSomeAnd snapshot (λ snapshot. given ≡ release_answer state snapshot) → is_change given ≡ true → option_map (λ snapshot. change.Release snapshot.id) snapshot ≡ Some made → IsApplicable state made
released state None given made family last is h e = absurd is
released state (Some snapshot) given made family last is h e =
    subst (IsApplicable state) (some_is (change.Release snapshot.id) made e) (release_applies state snapshot given family last is h)

ingested : (state : ModelState) (capacity : ℕ) (request : List Argument) (given : Reply) → state.next_family < 2 ^ 32 → state.last < 2 ^ 64
    → Each (λ one. one.number < 2 ^ 64) (placed_of given) → IsIngestReply state capacity request given → is_change given ≡ true → IsApplicable state (change.Ingest (taken request (placed_of given)))
ingested state capacity request (reply.Ingested placed) family last small is h = ingest_applies state capacity request placed family last small is
ingested state capacity request (reply.Refused refusal) family last small is h = absurd (true≢false (sym h))
ingested state capacity request (reply.Written number) family last small is h = absurd is
ingested state capacity request (reply.Found value) family last small is h = absurd is
ingested state capacity request reply.Nothing family last small is h = absurd is
ingested state capacity request (reply.View values) family last small is h = absurd is
ingested state capacity request (reply.Pairs pairs) family last small is h = absurd is
ingested state capacity request (reply.Snapshot number) family last small is h = absurd is
ingested state capacity request reply.Released family last small is h = absurd is
ingested state capacity request reply.Made family last small is h = absurd is
ingested state capacity request reply.Dropped family last small is h = absurd is
ingested state capacity request reply.Flushed family last small is h = absurd is
ingested state capacity request reply.Compacted family last small is h = absurd is
ingested state capacity request reply.Await family last small is h = absurd is
ingested state capacity request reply.Long family last small is h = absurd is

-- what a rightly answered change is can be applied
pub reply_applies : (state : ModelState) (capacity : ℕ) (asked : Asked) (command : Command) (given : Reply) (made : Change) → state.next_family < 2 ^ 32 → state.last < 2 ^ 64
    → Each (λ one. one.number < 2 ^ 64) (placed_of given) → IsReplyTo state capacity asked command given → is_change given ≡ true → change_asked asked command (placed_of given) ≡ Some made → IsApplicable state made
reply_applies state capacity asked (command.Write batch) given made family last small is h e =
    subst (IsApplicable state) (some_is (change.Write batch) made e) (write_applies state capacity batch given family is h)
reply_applies state capacity asked (command.Snap name) given made family last small is h e =
    subst (IsApplicable state) (some_is change.Snap made e) (snap_applies state given family last is h)
reply_applies state capacity asked (command.Release name) given made family last small is h e = released state asked.snapshot given made family last is h e
reply_applies state capacity asked (command.MakeFamily name) given made family last small is h e =
    subst (IsApplicable state) (some_is (change.Make name) made e) (make_applies state name given last is h)
reply_applies state capacity asked (command.DropFamily name) given made family last small is h e =
    subst (IsApplicable state) (some_is (change.Drop name) made e) (drop_applies state name given family last is h)
reply_applies state capacity asked (command.Ingest arguments) given made family last small is h e =
    subst (IsApplicable state) (some_is (change.Ingest (taken (request_of arguments asked.files) (placed_of given))) made e)
    (ingested state capacity (request_of arguments asked.files) given family last small is h)
reply_applies state capacity asked (command.Get name key) given made family last small is h e = cc
reply_applies state capacity asked (command.GetAt other name key) given made family last small is h e = cc
reply_applies state capacity asked (command.View reads) given made family last small is h e = cc
reply_applies state capacity asked (command.Scan name low high limit) given made family last small is h e = cc
reply_applies state capacity asked (command.ScanAt other name low high limit) given made family last small is h e = cc
reply_applies state capacity asked (command.Flush name) given made family last small is h e = cc
reply_applies state capacity asked (command.Compact name) given made family last small is h e = cc
reply_applies state capacity asked (command.Await client number) given made family last small is h e = cc
