-- The parts of a legal run that don't look at states, as one test that computes.
use Rattle.std.proofs.Common.{◌≡◌, ℕ, ◌+◌, ◌<◌, ◌≤◌, Bool, true, false, not, ◌&&◌, ◌||◌, ◌==◌, nat_lt, nat_le, nat_eq, List, [], ◌∷◌, ◌++◌, length, refl, sym, ◌∙◌, ap, ap₂, arith, map, cond, MatchBool, IsTrue, IsFalse, Option, Some, None, IsSomeAnd}
use Rattle.std.specs.List.{IsDistinct, AllByRecursion as Each, list_all, count_by}
use Rattle.std.proofs.lemmas.Bool.{and_parts, true≢false}
use Rattle.std.proofs.lemmas.Bool.Decides.{nat_tests}
use Rattle.st_base.specs.Range.{keys_rise}
use Rattle.st_base.specs.declared.entry.Entry.{Entry}
use Rattle.st_model.specs.declared.command.Asked.{Asked}
use Rattle.st_model.specs.declared.command.Call.{Call}
use Rattle.st_model.specs.declared.command.FileSeen.{FileSeen}
use Rattle.st_model.specs.declared.command.FileSeen.TheVariants.{Missing, Bad, Table}
use Rattle.st_model.specs.declared.reply.Reply.{Reply}
use Rattle.st_model.specs.declared.reply.Reply.TheVariants as reply
use Rattle.st_model.specs.declared.state.ModelState.{ModelState}
use Rattle.st_model.specs.declared.state.Snapshot.{Snapshot}
use Rattle.st_model.specs.Asked.{AskRightly, IsAskedRightly, IsSeenRightly, names_files, request_asked, snapshot_asked}
use Rattle.st_model.specs.Await.{awaited, call_at, AwaitsRightly, IsAwaitRight}
use Rattle.st_model.specs.Causes.{is_input_fault, is_stop, is_stored, AreStoppedBy, HaveCauses}
use Rattle.st_model.specs.Early.{is_empty}
use Rattle.st_model.specs.History.{is_change, all_calls, accepted_calls}
use Rattle.st_model.specs.Legal.{AreAcceptedInTurn, IsLegal, IsAnswered, file_numbers}
use Rattle.st_model.specs.Long.{is_long, is_read, line_length, IsCutRightly}
use Rattle.st_model.specs.Places.{ArePlacesNext, changes_in, IsInOrder}
use Rattle.st_model.specs.Placing.{AreNext}
use Rattle.st_model.specs.State.{IsOpening, long_transcript}
use Rattle.base_laws.proofs.Lists.{each_by}

-- ---- truth values

-- the second test, where the first holds
abbrev pub implies : Bool → Bool → Bool
implies true b = b
implies false b = true

pub implied_by : (a b : Bool) → implies a b ≡ true → IsTrue a → IsTrue b
implied_by true b h i = h
implied_by false b h i = absurd (true≢false (sym i))

pub le_by : (m n : ℕ) → nat_le m n ≡ true → m ≤ n
le_by m n h = grind (arith, nat_tests, h)

pub lt_by : (m n : ℕ) → nat_lt m n ≡ true → m < n
lt_by m n h = grind (arith, nat_tests, h)

pub eq_by : (m n : ℕ) → (m == n) ≡ true → m ≡ n
eq_by m n h = grind (arith, nat_tests, h)

pub not_by : (b : Bool) → not b ≡ true → IsFalse b
not_by true h = absurd (true≢false (sym h))
not_by false h = refl

-- ---- the opening, and what is asked

abbrev pub is_opening : ModelState → Bool
is_opening state = (state.place == 0) && is_empty state.live

opening_by : (state : ModelState) → is_opening state ≡ true → IsOpening state
opening_by state h =
    let both = and_parts (state.place == 0) (is_empty state.live) h in
    record { place = eq_by state.place 0 both.0; live = empty_by state.live both.1 }
  where
    empty_by : (live : List Snapshot) → is_empty live ≡ true → live ≡ []
    empty_by [] h = refl
    empty_by (snapshot ∷ live) h = absurd (true≢false (sym h))

abbrev pub are_same : Option Snapshot → Option Snapshot → Bool
are_same None None = true
are_same None (Some other) = false
are_same (Some one) None = false
are_same (Some one) (Some other) = (one.id == other.id) && (one.number == other.number)

same_snapshot_by : (one other : Option Snapshot) → are_same one other ≡ true → one ≡ other
same_snapshot_by None None h = refl
same_snapshot_by None (Some other) h = absurd (true≢false (sym h))
same_snapshot_by (Some one) None h = absurd (true≢false (sym h))
same_snapshot_by (Some one) (Some other) h =
    let both = and_parts (one.id == other.id) (one.number == other.number) h in
    ap₂ (λ (id number : ℕ). let snapshot : Snapshot = record { id = id; number = number } in Some snapshot) (eq_by one.id other.id both.0) (eq_by one.number other.number both.1)

abbrev pub is_external : List Entry → Bool
is_external entries = keys_rise entries && list_all (λ entry. entry.number == 0) entries

abbrev pub is_seen_rightly : FileSeen → Bool
is_seen_rightly Missing = true
is_seen_rightly (Bad fault) = true
is_seen_rightly (Table entries) = is_external entries

seen_by_test : (seen : FileSeen) → is_seen_rightly seen ≡ true → IsSeenRightly seen
seen_by_test Missing h = tt
seen_by_test (Bad fault) h = tt
seen_by_test (Table entries) h =
    let both = and_parts (keys_rise entries) (list_all (λ entry. entry.number == 0) entries) h in
    record { rise = both.0; numbers = each_by (λ entry. entry.number == 0) (λ entry. entry.number ≡ 0) (λ entry k. eq_by entry.number 0 k) entries both.1 }

abbrev pub is_asked_rightly : List Call → Asked → Bool
is_asked_rightly before asked =
    are_same asked.snapshot (snapshot_asked before asked.command)
    && ((length asked.files == names_files (request_asked asked.command)) && list_all is_seen_rightly asked.files)

asked_by : (before : List Call) (asked : Asked) → is_asked_rightly before asked ≡ true → IsAskedRightly before asked
asked_by before asked h =
    let a = and_parts (are_same asked.snapshot (snapshot_asked before asked.command)) _ h in
    let b = and_parts (length asked.files == names_files (request_asked asked.command)) _ a.1 in
    record {
      snapshot = same_snapshot_by asked.snapshot (snapshot_asked before asked.command) a.0;
      files = record {
        each_named = eq_by (length asked.files) (names_files (request_asked asked.command)) b.0;
        tables = each_by is_seen_rightly IsSeenRightly seen_by_test asked.files b.1;
      };
    }

abbrev pub ask_rightly : List Call → List Call → Bool
ask_rightly before [] = true
ask_rightly before (call ∷ calls) = is_asked_rightly before call.asked && ask_rightly (before ++ call ∷ []) calls

ask_by : (before calls : List Call) → ask_rightly before calls ≡ true → AskRightly before calls
ask_by before [] h = tt
ask_by before (call ∷ calls) h =
    let both = and_parts (is_asked_rightly before call.asked) (ask_rightly (before ++ call ∷ []) calls) h in
    (asked_by before call.asked both.0, ask_by (before ++ call ∷ []) calls both.1)

-- ---- places

abbrev pub are_places_next : ℕ → List ℕ → Bool
are_places_next before [] = true
are_places_next before (place ∷ places) = (place == before + 1) && are_places_next place places

places_by : (before : ℕ) (places : List ℕ) → are_places_next before places ≡ true → ArePlacesNext before places
places_by before [] h = tt
places_by before (place ∷ places) h =
    let both = and_parts (place == before + 1) (are_places_next place places) h in
    (eq_by place (before + 1) both.0, places_by place places both.1)

abbrev pub are_next : ℕ → List ℕ → Bool
are_next last [] = true
are_next last (number ∷ numbers) = (number == last + 1) && are_next number numbers

pub next_by : (last : ℕ) (numbers : List ℕ) → are_next last numbers ≡ true → AreNext last numbers
next_by last [] h = tt
next_by last (number ∷ numbers) h =
    let both = and_parts (number == last + 1) (are_next number numbers) h in
    (eq_by number (last + 1) both.0, next_by number numbers both.1)

abbrev pub is_in_order : ℕ → List Call → Bool
is_in_order before [] = true
is_in_order before (call ∷ calls) = cond (is_change call.reply) (nat_lt before call.place) (nat_le before call.place) && is_in_order call.place calls

in_order_by : (before : ℕ) (calls : List Call) → is_in_order before calls ≡ true → IsInOrder before calls
in_order_by before [] h = tt
in_order_by before (call ∷ calls) h =
    let both = and_parts (cond (is_change call.reply) (nat_lt before call.place) (nat_le before call.place)) (is_in_order call.place calls) h in
    (go (is_change call.reply) both.0, in_order_by call.place calls both.1)
  where
    go : (b : Bool) → cond b (nat_lt before call.place) (nat_le before call.place) ≡ true → MatchBool b (before < call.place) (before ≤ call.place)
    go true k = lt_by before call.place k
    go false k = le_by before call.place k

-- ---- awaits

abbrev pub is_await : Reply → Bool
is_await reply.Await = true
is_await other = false

await_by : (answer : Reply) → is_await answer ≡ true → answer ≡ reply.Await
await_by reply.Await h = refl
await_by (reply.Written number) h = cc
await_by (reply.Found value) h = cc
await_by reply.Nothing h = cc
await_by (reply.View values) h = cc
await_by (reply.Pairs pairs) h = cc
await_by (reply.Snapshot number) h = cc
await_by reply.Released h = cc
await_by reply.Made h = cc
await_by reply.Dropped h = cc
await_by reply.Flushed h = cc
await_by reply.Compacted h = cc
await_by (reply.Ingested placed) h = cc
await_by reply.Long h = cc
await_by (reply.Refused refusal) h = cc

abbrev pub stands_by : Option Call → ℕ → Bool
stands_by None place = false
stands_by (Some other) place = nat_le other.place place

abbrev pub awaits : List (List Call) → Option (ℕ × ℕ) → Call → Bool
awaits transcripts None call = not (is_await call.reply)
awaits transcripts (Some (client, number)) call = is_await call.reply && stands_by (call_at transcripts client number) call.place

stands_from : (found : Option Call) (place : ℕ) → stands_by found place ≡ true → IsSomeAnd found (λ other. other.place ≤ place)
stands_from None place h = absurd (true≢false (sym h))
stands_from (Some other) place h = le_by other.place place h

awaits_by : (transcripts : List (List Call)) (named : Option (ℕ × ℕ)) (call : Call) → awaits transcripts named call ≡ true → AwaitsRightly transcripts named call
awaits_by transcripts None call h = λ e. true≢false (sym (ap is_await e) ∙ not_by (is_await call.reply) h)
awaits_by transcripts (Some (client, number)) call h =
    let both = and_parts (is_await call.reply) (stands_by (call_at transcripts client number) call.place) h in
    (await_by call.reply both.0, stands_from (call_at transcripts client number) call.place both.1)

-- ---- file numbers

abbrev pub are_distinct : List ℕ → Bool
are_distinct [] = true
are_distinct (x ∷ xs) = list_all (λ y. not (nat_eq x y)) xs && are_distinct xs

distinct_by : (xs : List ℕ) → are_distinct xs ≡ true → IsDistinct nat_eq xs
unfolding IsDistinct
distinct_by [] h = tt
distinct_by (x ∷ xs) h =
    let both = and_parts (list_all (λ y. not (nat_eq x y)) xs) (are_distinct xs) h in
    (each_by (λ y. not (nat_eq x y)) (λ y. nat_eq x y ≡ false) (λ y k. not_by (nat_eq x y) k) xs both.0, distinct_by xs both.1)

-- ---- long transcripts

abbrev pub same_truth : Bool → Bool → Bool
same_truth true b = b
same_truth false b = not b

same_by : (a b : Bool) → same_truth a b ≡ true → a ≡ b
same_by true b h = sym h
same_by false b h = sym (not_by b h)

abbrev pub is_cut_rightly : ℕ → List Call → Bool
is_cut_rightly bytes [] = true
is_cut_rightly bytes (call ∷ calls) =
    same_truth (is_long call.reply) (is_read call.asked.command && nat_le long_transcript bytes)
    && is_cut_rightly (bytes + line_length call) calls

cut_by : (bytes : ℕ) (calls : List Call) → is_cut_rightly bytes calls ≡ true → IsCutRightly bytes calls
cut_by bytes [] h = tt
cut_by bytes (call ∷ calls) h =
    let both = and_parts (same_truth (is_long call.reply) (is_read call.asked.command && nat_le long_transcript bytes)) (is_cut_rightly (bytes + line_length call) calls) h in
    (same_by (is_long call.reply) (is_read call.asked.command && nat_le long_transcript bytes) both.0, cut_by (bytes + line_length call) calls both.1)

-- ---- causes

abbrev pub is_stopped_by : List Call → Call → Bool
is_stopped_by calls stop = implies (is_stop stop.reply) (list_all (λ call. implies (is_stored call.reply) (nat_le call.place stop.place)) calls)

stopped_by : (calls : List Call) (stop : Call) → is_stopped_by calls stop ≡ true → AreStoppedBy calls stop
stopped_by calls stop h = λ holds.
    each_by (λ call. implies (is_stored call.reply) (nat_le call.place stop.place)) (λ call. IsTrue (is_stored call.reply) → call.place ≤ stop.place)
    (λ call k stored. le_by call.place stop.place (implied_by (is_stored call.reply) (nat_le call.place stop.place) k stored)) calls
    (implied_by (is_stop stop.reply) (list_all (λ call. implies (is_stored call.reply) (nat_le call.place stop.place)) calls) h holds)

abbrev pub have_causes : List Call → ℕ → Bool → Bool
have_causes calls faults failed =
    nat_le (count_by (λ call. is_input_fault call.reply) calls) faults
    && ((failed || list_all (λ call. not (is_stop call.reply)) calls) && list_all (is_stopped_by calls) calls)

causes_by : (calls : List Call) (faults : ℕ) (failed : Bool) → have_causes calls faults failed ≡ true → HaveCauses calls faults failed
causes_by calls faults failed h =
    let a = and_parts (nat_le (count_by (λ call. is_input_fault call.reply) calls) faults) _ h in
    let b = and_parts (failed || list_all (λ call. not (is_stop call.reply)) calls) _ a.1 in
    record {
      inputs = le_by (count_by (λ call. is_input_fault call.reply) calls) faults a.0;
      disk = λ working. each_by (λ call. not (is_stop call.reply)) (λ call. IsFalse (is_stop call.reply)) (λ call k. not_by (is_stop call.reply) k) calls (other failed working b.0);
      stopped = each_by (is_stopped_by calls) (AreStoppedBy calls) (stopped_by calls) calls b.1;
    }
  where
    other : (b : Bool) → IsFalse b → (b || list_all (λ call. not (is_stop call.reply)) calls) ≡ true → list_all (λ call. not (is_stop call.reply)) calls ≡ true
    other true working h = absurd (true≢false working)
    other false working h = h

-- ---- all of it

-- the opening, what is asked, places, awaits and file numbers
abbrev pub is_ordered : ModelState → List (List Call) → Bool
is_ordered opening transcripts =
    is_opening opening
    && (list_all (ask_rightly []) transcripts
    && (are_places_next 0 (map (λ call. call.place) (accepted_calls transcripts))
    && (list_all (is_in_order 0) transcripts
    && (list_all (λ call. awaits transcripts (awaited call.asked.command) call) (all_calls transcripts)
    && (list_all (λ call. nat_le call.place (changes_in transcripts)) (all_calls transcripts)
    && are_distinct (file_numbers transcripts))))))

-- long transcripts and causes
abbrev pub is_caused : List (List Call) → ℕ → Bool → Bool
is_caused transcripts faults failed = list_all (is_cut_rightly 0) transcripts && have_causes (all_calls transcripts) faults failed

-- transcripts that pass both tests are legal where each reply is the model's
pub legal_by : (opening : ModelState) (capacity : ℕ) (transcripts : List (List Call)) (faults : ℕ) (failed : Bool) → is_ordered opening transcripts ≡ true → is_caused transcripts faults failed ≡ true
    → AreAcceptedInTurn opening capacity (accepted_calls transcripts) → Each (IsAnswered opening capacity transcripts) (all_calls transcripts) → IsLegal opening capacity transcripts faults failed
legal_by opening capacity transcripts faults failed ordered caused accepted answered =
    let x = and_parts (is_opening opening) _ ordered in
    let y = and_parts (list_all (ask_rightly []) transcripts) _ x.1 in
    let a = and_parts (are_places_next 0 (map (λ call. call.place) (accepted_calls transcripts))) _ y.1 in
    let b = and_parts (list_all (is_in_order 0) transcripts) _ a.1 in
    let c = and_parts (list_all (λ call. awaits transcripts (awaited call.asked.command) call) (all_calls transcripts)) _ b.1 in
    let d = and_parts (list_all (λ call. nat_le call.place (changes_in transcripts)) (all_calls transcripts)) _ c.1 in
    let e = and_parts (list_all (is_cut_rightly 0) transcripts) _ caused in
    record {
      begins = opening_by opening x.0;
      asked = each_by (ask_rightly []) (AskRightly []) (ask_by []) transcripts y.0;
      once = places_by 0 (map (λ call. call.place) (accepted_calls transcripts)) a.0;
      in_order = each_by (is_in_order 0) (IsInOrder 0) (in_order_by 0) transcripts b.0;
      awaits = each_by (λ call. awaits transcripts (awaited call.asked.command) call) (IsAwaitRight transcripts) (λ call. awaits_by transcripts (awaited call.asked.command) call) (all_calls transcripts) c.0;
      within = each_by (λ call. nat_le call.place (changes_in transcripts)) (λ call. call.place ≤ changes_in transcripts) (λ call. le_by call.place (changes_in transcripts)) (all_calls transcripts) d.0;
      accepted = accepted;
      answered = answered;
      files = distinct_by (file_numbers transcripts) d.1;
      cut = each_by (is_cut_rightly 0) (IsCutRightly 0) (cut_by 0) transcripts e.0;
      causes = causes_by (all_calls transcripts) faults failed e.1;
    }
