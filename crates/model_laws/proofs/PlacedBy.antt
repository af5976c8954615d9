-- The placing of a request's files, as one test that computes.
use Rattle.std.proofs.Common.{◌≡◌, ℕ, ◌<◌, Bool, true, false, not, ◌&&◌, ◌||◌, ◌==◌, nat_lt, nat_le, List, [], ◌∷◌, length, take, drop, refl, sym, arith, cond, MatchBool, IsTrue, IsFalse, Option, Some, None, is_some, IsSomeAnd}
use Rattle.std.specs.List.{AllByRecursion as Each, AllZip, list_all}
use Rattle.std.proofs.lemmas.Bool.{and_parts, true≢false}
use Rattle.std.proofs.lemmas.Bool.Decides.{nat_tests}
use Rattle.st_base.specs.declared.entry.Entry.{Entry}
use Rattle.st_base.specs.Range.{keys_of}
use Rattle.st_model.specs.declared.reply.Placed.{Placed}
use Rattle.st_model.specs.declared.request.IngestExternalFileOptions.{IngestExternalFileOptions}
use Rattle.st_model.specs.declared.state.ModelFamily.{ModelFamily}
use Rattle.st_model.specs.declared.state.ModelState.{ModelState}
use Rattle.st_model.specs.Early.{MayBeEarly, is_empty, read_numbers}
use Rattle.st_model.specs.Placing.{ArePlaced, IsPlacedArgument, IsPlacedBehind, IsPlacedFile, AreNext, is_among_known, numbers_of, last_number_after}
use Rattle.st_model.specs.Read.{read, is_covered}
use Rattle.st_model.specs.Refusals.{exact_refusals, is_full, sure_cause}
use Rattle.st_model.specs.Reply.{IsIngested}
use Rattle.st_model.specs.Request.{File, Argument, entries_of_file, range_of_file, asks_behind}
use Rattle.st_model.specs.State.{family_of, lowest, greatest_number}
use Rattle.base_laws.proofs.Lists.{each_by}
use Rattle.model_laws.proofs.Lawful.{le_by, lt_by, eq_by, not_by, implies, implied_by, are_next, next_by}

-- ---- truth values

abbrev pub reads_none : Option (List ℕ) → Bool
reads_none None = true
reads_none (Some value) = false

none_by : (found : Option (List ℕ)) → reads_none found ≡ true → found ≡ None
none_by None h = refl
none_by (Some value) h = absurd (true≢false (sym h))

-- ---- early files

abbrev pub may_be_early : ModelState → ModelFamily → List Entry → IngestExternalFileOptions → Bool
may_be_early state family entries options =
    (is_empty state.live || not options.snapshot_consistency)
    && (list_all (λ key. list_all (λ number. reads_none (read family number key)) (read_numbers state)) (keys_of entries)
    && implies state.behind (list_all (λ key. not (is_covered family key)) (keys_of entries)))

early_by : (state : ModelState) (family : ModelFamily) (entries : List Entry) (options : IngestExternalFileOptions) → may_be_early state family entries options ≡ true → MayBeEarly state family entries options
early_by state family entries options h =
    let a = and_parts (is_empty state.live || not options.snapshot_consistency) _ h in
    let b = and_parts (list_all (λ key. list_all (λ number. reads_none (read family number key)) (read_numbers state)) (keys_of entries)) _ a.1 in
    record {
      snapshots = a.0;
      reads_none = each_by (λ key. list_all (λ number. reads_none (read family number key)) (read_numbers state)) (λ key. Each (λ number. read family number key ≡ None) (read_numbers state))
          (λ key k. each_by (λ number. reads_none (read family number key)) (λ number. read family number key ≡ None) (λ number n. none_by (read family number key) n) (read_numbers state) k) (keys_of entries) b.0;
      uncovered = λ i. each_by (λ key. not (is_covered family key)) (λ key. IsFalse (is_covered family key)) (λ key k. not_by (is_covered family key) k) (keys_of entries) (implied_by state.behind _ b.1 i);
    }

-- ---- one file

abbrev pub is_placed_behind : File → Placed → Bool
is_placed_behind file placed = (placed.level == 6) && (placed.number == 0)

behind_by : (file : File) (placed : Placed) → is_placed_behind file placed ≡ true → IsPlacedBehind file placed
behind_by file placed h =
    let both = and_parts (placed.level == 6) (placed.number == 0) h in
    record { level = eq_by placed.level 6 both.0; number = eq_by placed.number 0 both.1 }

abbrev pub is_placed_file : ModelState → ModelFamily → Argument → File → Placed → Bool
is_placed_file state family argument file placed =
    nat_le placed.level (lowest state)
    && (implies argument.options.fail_if_not_bottommost_level (placed.level == lowest state)
    && (implies (is_some (sure_cause state argument)) (nat_lt 0 placed.number)
    && (implies (nat_lt 0 placed.number) (is_some (sure_cause state argument) || is_among_known family (range_of_file file))
    && (implies (nat_lt 0 placed.number) argument.options.allow_global_seqno
    && implies (placed.number == 0) (may_be_early state family (entries_of_file file) argument.options)))))

some_number : (n : ℕ) → 0 < n → IsTrue (nat_lt 0 n)
some_number n l = grind (arith, nat_tests, l)

no_number : (n : ℕ) → n ≡ 0 → IsTrue (n == 0)
no_number n e = grind (arith, nat_tests, e)

file_by : (state : ModelState) (family : ModelFamily) (argument : Argument) (file : File) (placed : Placed) → is_placed_file state family argument file placed ≡ true → IsPlacedFile state family argument file placed
file_by state family argument file placed h =
    let a = and_parts (nat_le placed.level (lowest state)) _ h in
    let b = and_parts (implies argument.options.fail_if_not_bottommost_level (placed.level == lowest state)) _ a.1 in
    let c = and_parts (implies (is_some (sure_cause state argument)) (nat_lt 0 placed.number)) _ b.1 in
    let d = and_parts (implies (nat_lt 0 placed.number) (is_some (sure_cause state argument) || is_among_known family (range_of_file file))) _ c.1 in
    let e = and_parts (implies (nat_lt 0 placed.number) argument.options.allow_global_seqno) _ d.1 in
    record {
      level = le_by placed.level (lowest state) a.0;
      bottom = λ i. eq_by placed.level (lowest state) (implied_by argument.options.fail_if_not_bottommost_level (placed.level == lowest state) b.0 i);
      sure = λ i. lt_by 0 placed.number (implied_by (is_some (sure_cause state argument)) (nat_lt 0 placed.number) c.0 i);
      caused = λ some. implied_by (nat_lt 0 placed.number) _ d.0 (some_number placed.number some);
      allowed = λ some. implied_by (nat_lt 0 placed.number) argument.options.allow_global_seqno e.0 (some_number placed.number some);
      early = λ none. early_by state family (entries_of_file file) argument.options (implied_by (placed.number == 0) _ e.1 (no_number placed.number none));
    }

-- ---- all files

abbrev pub all_zip : {X Y : Type 0} → (X → Y → Bool) → List X → List Y → Bool
all_zip test [] [] = true
all_zip test [] (y ∷ ys) = false
all_zip test (x ∷ xs) [] = false
all_zip test (x ∷ xs) (y ∷ ys) = test x y && all_zip test xs ys

zip_by : {X Y : Type 0} (test : X → Y → Bool) (P : X → Y → Type 0) → ((x : X) (y : Y) → test x y ≡ true → P x y) → (xs : List X) (ys : List Y) → all_zip test xs ys ≡ true → AllZip P xs ys
zip_by test P f [] [] h = tt
zip_by test P f [] (y ∷ ys) h = absurd (true≢false (sym h))
zip_by test P f (x ∷ xs) [] h = absurd (true≢false (sym h))
zip_by test P f (x ∷ xs) (y ∷ ys) h = let both = and_parts (test x y) (all_zip test xs ys) h in (f x y both.0, zip_by test P f xs ys both.1)

abbrev pub are_placed_in : ModelState → Option ModelFamily → Argument → List Placed → Bool
are_placed_in state None argument placed = false
are_placed_in state (Some family) argument placed = all_zip (is_placed_file state family argument) argument.files placed

in_by : (state : ModelState) (family : Option ModelFamily) (argument : Argument) (placed : List Placed) → are_placed_in state family argument placed ≡ true
    → IsSomeAnd family (λ family. AllZip (IsPlacedFile state family argument) argument.files placed)
in_by state None argument placed h = absurd (true≢false (sym h))
in_by state (Some family) argument placed h = zip_by (is_placed_file state family argument) (IsPlacedFile state family argument) (file_by state family argument) argument.files placed h

abbrev pub is_placed_argument : ModelState → ℕ → Argument → List Placed → Bool
is_placed_argument state last argument placed =
    cond (asks_behind argument) (all_zip is_placed_behind argument.files placed)
    (are_next last (numbers_of placed) && are_placed_in state (family_of state argument.family) argument placed)

argument_by : (state : ModelState) (last : ℕ) (argument : Argument) (placed : List Placed) → is_placed_argument state last argument placed ≡ true → IsPlacedArgument state last argument placed
argument_by state last argument placed h = go (asks_behind argument) h
  where
    go : (b : Bool) → cond b (all_zip is_placed_behind argument.files placed) (are_next last (numbers_of placed) && are_placed_in state (family_of state argument.family) argument placed) ≡ true
        → MatchBool b (AllZip IsPlacedBehind argument.files placed) (AreNext last (numbers_of placed) × IsSomeAnd (family_of state argument.family) (λ family. AllZip (IsPlacedFile state family argument) argument.files placed))
    go true k = zip_by is_placed_behind IsPlacedBehind behind_by argument.files placed k
    go false k =
        let both = and_parts (are_next last (numbers_of placed)) _ k in
        (next_by last (numbers_of placed) both.0, in_by state (family_of state argument.family) argument placed both.1)

abbrev pub is_nil : {X : Type 0} → List X → Bool
is_nil [] = true
is_nil (x ∷ xs) = false

nil_by : {X : Type 0} (xs : List X) → is_nil xs ≡ true → xs ≡ []
nil_by [] h = refl
nil_by (x ∷ xs) h = absurd (true≢false (sym h))

abbrev pub is_placed : ModelState → ℕ → List Argument → List Placed → Bool
is_placed state last [] placed = is_nil placed
is_placed state last (argument ∷ arguments) placed =
    is_placed_argument state last argument (take (length argument.files) placed)
    && is_placed state (last_number_after last (take (length argument.files) placed)) arguments (drop (length argument.files) placed)

placed_by : (state : ModelState) (last : ℕ) (request : List Argument) (placed : List Placed) → is_placed state last request placed ≡ true → ArePlaced state last request placed
placed_by state last [] placed h = nil_by placed h
placed_by state last (argument ∷ arguments) placed h =
    let both = and_parts (is_placed_argument state last argument (take (length argument.files) placed)) _ h in (
      argument_by state last argument (take (length argument.files) placed) both.0,
      placed_by state (last_number_after last (take (length argument.files) placed)) arguments (drop (length argument.files) placed) both.1,
    )

-- ---- a request

abbrev pub is_ingested : ModelState → ℕ → List Argument → List Placed → Bool
is_ingested state capacity request placed =
    is_nil (exact_refusals state request)
    && (not (is_full state capacity request)
    && (nat_lt state.place greatest_number
    && (nat_le (last_number_after state.last placed) greatest_number
    && is_placed state state.last request placed)))

pub ingested_by : (state : ModelState) (capacity : ℕ) (request : List Argument) (placed : List Placed) → is_ingested state capacity request placed ≡ true → IsIngested state capacity request placed
ingested_by state capacity request placed h =
    let a = and_parts (is_nil (exact_refusals state request)) _ h in
    let b = and_parts (not (is_full state capacity request)) _ a.1 in
    let c = and_parts (nat_lt state.place greatest_number) _ b.1 in
    let d = and_parts (nat_le (last_number_after state.last placed) greatest_number) _ c.1 in
    record {
      unrefused = nil_by (exact_refusals state request) a.0;
      room = not_by (is_full state capacity request) b.0;
      place = lt_by state.place greatest_number c.0;
      numbers = le_by (last_number_after state.last placed) greatest_number d.0;
      placed_rightly = placed_by state state.last request placed d.1;
    }
