-- A placing of a plain request's files: each at level 0, and numbered where it must be or may be.
use Rattle.std.proofs.Common.{◌≡◌, ℕ, Bool, true, false, cond, not, ◌||◌, ◌+◌, ◌≤◌, ◌==◌, List, [], ◌∷◌, ◌++◌, Option, Some, None, is_some, refl, sym, ap, subst, ◌∙◌, filter, flat_map, map, take, drop, fold, length, arith, IsTrue, IsFalse, IsSomeAnd, MatchBool, length-append, le_trans, zero-le}
use Rattle.std.specs.List.{AllByRecursion as Each, AllZip}
use Rattle.std.specs.Option.{option_map, option_or}
use Rattle.std.specs.Ordering.{is_eq}
use Rattle.std.proofs.Math.Seq.{take-append_seam, drop-append_seam}
use Rattle.std.proofs.lemmas.Bool.{false≢true}
use Rattle.std.proofs.lemmas.List.Sums.{sum_by-cons}
use Rattle.std.proofs.lemmas.Bool.Decides.{nat_tests}
use Rattle.st_base.specs.Bytes.{bytes_cmp}
use Rattle.st_base.specs.Map.{value_at}
use Rattle.st_base.specs.Order.{in_order}
use Rattle.st_base.specs.Range.{keys_of}
use Rattle.st_model.specs.declared.refusal.Refusal.TheVariants.{UnknownFamily}
use Rattle.st_model.specs.declared.refusal.Why.{Why}
use Rattle.st_model.specs.declared.refusal.Why.TheVariants.{Snapshot, Files}
use Rattle.st_model.specs.declared.reply.Placed.{Placed}
use Rattle.st_model.specs.declared.state.ModelFamily.{ModelFamily}
use Rattle.st_model.specs.declared.state.ModelState.{ModelState}
use Rattle.st_model.specs.Early.{MayBeEarly, is_empty, read_numbers}
use Rattle.st_model.specs.Placing.{ArePlaced, IsPlacedArgument, IsPlacedBehind, IsPlacedFile, AreNext, is_among_known, numbers_of, last_number_after}
use Rattle.st_model.specs.Read.{read, is_covered}
use Rattle.st_model.specs.Refusals.{sure_cause, numbers_needed, keeps_snapshots, lowest_live}
use Rattle.st_model.specs.Request.{Argument, File, default_options, request_of, asks_behind, entries_of_file, range_of_file, meeting}
use Rattle.st_model.specs.State.{family_of, has_family, is_known}
use Rattle.model_laws.specs.Claims.{KnowsKeys, KnowsAllKeys, AcceptsIngestion}
use Rattle.base_laws.proofs.Maps.{found_each}
use Rattle.model_laws.proofs.Refusing.{none_exact, not_behind}
use Rattle.model_laws.proofs.Requests.{ArePlain, IsPlain, plain_is}
use Rattle.model_laws.proofs.Unknown.{reads_none, uncovered, unknown_keys}

-- ---- the choice

-- at level 0, under the next number where it is needed
abbrev pub placed_at : Bool → ℕ → Placed
placed_at needs last = record { file = 0; level = 0; number = cond needs (last + 1) 0 }

abbrev pub next : Bool → ℕ → ℕ
next needs last = cond needs (last + 1) last

abbrev pub chosen : (File → Bool) → ℕ → List File → List Placed
chosen needs last [] = []
chosen needs last (file ∷ files) = placed_at (needs file) last ∷ chosen needs (next (needs file) last) files

abbrev pub last_chosen : (File → Bool) → ℕ → List File → ℕ
last_chosen needs last [] = last
last_chosen needs last (file ∷ files) = last_chosen needs (next (needs file) last) files

-- why the whole argument is numbered, or known keys on both sides of the file
abbrev pub among : Option ModelFamily → File → Bool
among None file = false
among (Some family) file = is_among_known family (range_of_file file)

abbrev pub needs_number : ModelState → Argument → File → Bool
needs_number state argument file = is_some (sure_cause state argument) || among (family_of state argument.family) file

abbrev pub chosen_all : ModelState → ℕ → List Argument → List Placed
chosen_all state last [] = []
chosen_all state last (argument ∷ arguments) =
    chosen (needs_number state argument) last argument.files
    ++ chosen_all state (last_chosen (needs_number state argument) last argument.files) arguments

-- ---- numbers

some_number : (n : ℕ) → (n + 1 == 0) ≡ false
some_number n = grind (arith, nat_tests)

length-chosen : (needs : File → Bool) (last : ℕ) (files : List File) → length (chosen needs last files) ≡ length files
length-chosen needs last [] = refl
length-chosen needs last (file ∷ files) = omega (arith, length-chosen needs (next (needs file) last) files)

-- the numbers of a placed file and those behind it
numbers-cons : (needs : Bool) (last : ℕ) (rest : List Placed) → numbers_of (placed_at needs last ∷ rest) ≡ cond needs ((last + 1) ∷ numbers_of rest) (numbers_of rest)
numbers-cons true last rest = ap (λ b. cond (not b) ((last + 1) ∷ numbers_of rest) (numbers_of rest)) (some_number last)
numbers-cons false last rest = refl

chosen_next : (needs : File → Bool) (last : ℕ) (files : List File) → AreNext last (numbers_of (chosen needs last files))
chosen_next needs last [] = tt
chosen_next needs last (file ∷ files) =
    subst (AreNext last) (sym (numbers-cons (needs file) last (chosen needs (next (needs file) last) files))) (go (needs file) (chosen_next needs (next (needs file) last) files))
  where
    go : (b : Bool) → AreNext (next b last) (numbers_of (chosen needs (next b last) files)) → AreNext last (cond b ((last + 1) ∷ numbers_of (chosen needs (next b last) files)) (numbers_of (chosen needs (next b last) files)))
    go true rest = (refl, rest)
    go false rest = rest

-- the last number behind placed files, and others behind them
last-cons : (needs : Bool) (last : ℕ) (rest : List Placed) → last_number_after last (placed_at needs last ∷ rest) ≡ last_number_after (next needs last) rest
last-cons true last rest = ap (fold (λ before number. number) last) (numbers-cons true last rest)
last-cons false last rest = refl

last_is : (needs : File → Bool) (last : ℕ) (files : List File) (rest : List Placed) → last_number_after last (chosen needs last files ++ rest) ≡ last_number_after (last_chosen needs last files) rest
last_is needs last [] rest = refl
last_is needs last (file ∷ files) rest =
    last-cons (needs file) last (chosen needs (next (needs file) last) files ++ rest) ∙ last_is needs (next (needs file) last) files rest

last_alone : (needs : File → Bool) (last : ℕ) (files : List File) → last_number_after last (chosen needs last files) ≡ last_chosen needs last files
last_alone needs last [] = refl
last_alone needs last (file ∷ files) = last-cons (needs file) last (chosen needs (next (needs file) last) files) ∙ last_alone needs (next (needs file) last) files

last_within : (needs : File → Bool) (last : ℕ) (files : List File) → last_chosen needs last files ≤ last + length files
last_within needs last [] = omega arith
last_within needs last (file ∷ files) = go (needs file) (last_within needs (next (needs file) last) files)
  where
    go : (b : Bool) → last_chosen needs (next b last) files ≤ next b last + length files → last_chosen needs (next b last) files ≤ last + length (file ∷ files)
    go true l = omega (arith, l)
    go false l = omega (arith, l)

needed-cons : (argument : Argument) (arguments : List Argument) → argument.options ≡ default_options → length argument.files ≡ argument.named
    → numbers_needed (argument ∷ arguments) ≡ length argument.files + numbers_needed arguments
needed-cons argument arguments plain whole =
    sum_by-cons (λ (other : Argument). cond (asks_behind other) 0 other.named) argument arguments
    ∙ ap (λ b. cond b 0 argument.named + numbers_needed arguments) (not_behind argument plain)
    ∙ ap (λ n. n + numbers_needed arguments) (sym whole)

all_within : (state : ModelState) (last : ℕ) (request : List Argument) → ArePlain request → Each (λ argument. length argument.files ≡ argument.named) request
    → last_number_after last (chosen_all state last request) ≤ last + numbers_needed request
all_within state last [] plain whole = omega arith
all_within state last (argument ∷ arguments) plain whole =
    let end : ℕ = last_chosen (needs_number state argument) last argument.files in
    let split = last_is (needs_number state argument) last argument.files (chosen_all state end arguments) in
    let rest = all_within state end arguments plain.1 whole.1 in
    let here = last_within (needs_number state argument) last argument.files in
    omega (arith, split, rest, here, needed-cons argument arguments plain.0 whole.0)

-- ---- one file

-- without a sure cause no snapshot lives, where snapshots are to stay as they were
unseen : (met : Option Why) (empty keeps : Bool) (number : ℕ) → is_some (option_or met (cond (empty || not keeps) None (Some (Snapshot number)))) ≡ false → keeps ≡ true → empty ≡ true
unseen (Some cause) empty keeps number e k = absurd (false≢true (sym e))
unseen None true keeps number e k = refl
unseen None false true number e k = absurd (false≢true (sym e))
unseen None false false number e k = absurd (false≢true k)

neither : (a b : Bool) → (a || b) ≡ false → (a ≡ false) × (b ≡ false)
neither true b e = absurd (false≢true (sym e))
neither false b e = (refl, e)

each_reads : (state : ModelState) (family : ModelFamily) (keys : List (List ℕ)) → KnowsKeys family → Each (λ key. is_known family key ≡ false) keys → Each (λ key. Each (λ number. read family number key ≡ None) (read_numbers state)) keys
each_reads state family [] knows unknown = tt
each_reads state family (key ∷ keys) knows unknown = (at_all (read_numbers state), each_reads state family keys knows unknown.1)
  where
    at_all : (numbers : List ℕ) → Each (λ number. read family number key ≡ None) numbers
    at_all [] = tt
    at_all (number ∷ numbers) = (reads_none family number key knows unknown.0, at_all numbers)

each_uncovered : (family : ModelFamily) (keys : List (List ℕ)) → KnowsKeys family → Each (λ key. is_known family key ≡ false) keys → Each (λ key. IsFalse (is_covered family key)) keys
each_uncovered family [] knows unknown = tt
each_uncovered family (key ∷ keys) knows unknown = (uncovered family key knows unknown.0, each_uncovered family keys knows unknown.1)

early : (state : ModelState) (family : ModelFamily) (argument : Argument) (file : File) → argument.options ≡ default_options → KnowsKeys family → in_order (entries_of_file file) ≡ true
    → is_some (sure_cause state argument) ≡ false → is_among_known family (range_of_file file) ≡ false → MayBeEarly state family (entries_of_file file) argument.options
early state family argument file plain knows ordered unsure none =
    let keeps : keeps_snapshots argument ≡ true = ap (λ options. options.snapshot_consistency) plain in
    let empty : is_empty state.live ≡ true =
    unseen (option_map (λ pair. Files pair.0 pair.1) (meeting argument)) (is_empty state.live) (keeps_snapshots argument) (lowest_live state) unsure keeps in
    let unknown = unknown_keys family (entries_of_file file) none ordered in
    record {
      snapshots = ap (λ b. b || not argument.options.snapshot_consistency) empty;
      reads_none = each_reads state family (keys_of (entries_of_file file)) knows unknown;
      uncovered = λ _. each_uncovered family (keys_of (entries_of_file file)) knows unknown;
    }

-- the file is placed rightly, whether it is numbered or not
file_right : (state : ModelState) (family : ModelFamily) (argument : Argument) (last : ℕ) (file : File) → family_of state argument.family ≡ Some family → argument.options ≡ default_options → KnowsKeys family
    → in_order (entries_of_file file) ≡ true → IsPlacedFile state family argument file (placed_at (needs_number state argument file) last)
file_right state family argument last file there plain knows ordered = go (needs_number state argument file) tests
  where
    tests : (is_some (sure_cause state argument) || is_among_known family (range_of_file file)) ≡ needs_number state argument file
    tests = ap (λ found. is_some (sure_cause state argument) || among found file) (sym there)

    go : (b : Bool) → (is_some (sure_cause state argument) || is_among_known family (range_of_file file)) ≡ b → IsPlacedFile state family argument file (placed_at b last)
    go true e = record {
      level = zero-le;
      bottom = λ i. absurd (false≢true (sym (ap (λ options. options.fail_if_not_bottommost_level) plain) ∙ i));
      sure = λ i. omega arith;
      caused = λ l. e;
      allowed = λ l. ap (λ options. options.allow_global_seqno) plain;
      early = λ z. absurd (let no : ⊥ = omega (arith, z) in no);
    }
    go false e =
        let both = neither (is_some (sure_cause state argument)) (is_among_known family (range_of_file file)) e in
        record {
          level = zero-le;
          bottom = λ i. absurd (false≢true (sym (ap (λ options. options.fail_if_not_bottommost_level) plain) ∙ i));
          sure = λ i. absurd (false≢true (sym both.0 ∙ i));
          caused = λ l. absurd (let no : ⊥ = omega (arith, l) in no);
          allowed = λ l. absurd (let no : ⊥ = omega (arith, l) in no);
          early = λ z. early state family argument file plain knows ordered both.0 both.1;
        }

files_right : (state : ModelState) (family : ModelFamily) (argument : Argument) (last : ℕ) (files : List File) → family_of state argument.family ≡ Some family → argument.options ≡ default_options → KnowsKeys family
    → Each (λ file. in_order (entries_of_file file) ≡ true) files → AllZip (IsPlacedFile state family argument) files (chosen (needs_number state argument) last files)
files_right state family argument last [] there plain knows ordered = tt
files_right state family argument last (file ∷ files) there plain knows ordered = (
  file_right state family argument last file there plain knows ordered.0,
  files_right state family argument (next (needs_number state argument file) last) files there plain knows ordered.1,
)

-- ---- families

-- the families of the arguments are there
are_there : (test : List ℕ → Bool) (request : List Argument) → map UnknownFamily (filter (λ name. not (test name)) (map (λ (argument : Argument). argument.family) request)) ≡ [] → Each (λ argument. test argument.family ≡ true) request
are_there test [] e = tt
are_there test (argument ∷ request) e = go (test argument.family) refl e (are_there test request)
  where
    go : (b : Bool) → test argument.family ≡ b → map UnknownFamily (cond (not b) (argument.family ∷ filter (λ name. not (test name)) (map (λ (other : Argument). other.family) request)) (filter (λ name. not (test name)) (map (λ (other : Argument). other.family) request))) ≡ []
        → (map UnknownFamily (filter (λ name. not (test name)) (map (λ (other : Argument). other.family) request)) ≡ [] → Each (λ other. test other.family ≡ true) request)
        → Each (λ other. test other.family ≡ true) (argument ∷ request)
    go true t e more = (t, more e)
    go false t e more = absurd (let no : ⊥ = cc in no)

some_family : (found : Option ModelFamily) → is_some found ≡ true → (family : ModelFamily) × (found ≡ Some family)
some_family None e = absurd (false≢true e)
some_family (Some family) e = (family, refl)

-- ---- the request

argument_right : (state : ModelState) (last : ℕ) (argument : Argument) → argument.options ≡ default_options → Each (λ file. in_order (entries_of_file file) ≡ true) argument.files
    → has_family state argument.family ≡ true → KnowsAllKeys state → IsPlacedArgument state last argument (chosen (needs_number state argument) last argument.files)
argument_right state last argument plain ordered there knows =
    let found = some_family (family_of state argument.family) there in
    let known = found_each KnowsKeys state.families argument.family found.0 knows found.1 in
    let placed : List Placed = chosen (needs_number state argument) last argument.files in
    subst (λ b. MatchBool b (AllZip IsPlacedBehind argument.files placed) (AreNext last (numbers_of placed) × IsSomeAnd (family_of state argument.family) (λ family. AllZip (IsPlacedFile state family argument) argument.files placed)))
    (sym (not_behind argument plain)) (
      chosen_next (needs_number state argument) last argument.files,
      subst (λ one. IsSomeAnd one (λ family. AllZip (IsPlacedFile state family argument) argument.files placed)) (sym found.1)
          (files_right state found.0 argument last argument.files found.1 plain known ordered),
    )

placed_right : (state : ModelState) (last : ℕ) (request : List Argument) → ArePlain request → Each (λ argument. Each (λ file. IsTrue (in_order (entries_of_file file))) argument.files) request
    → Each (λ argument. has_family state argument.family ≡ true) request → KnowsAllKeys state → ArePlaced state last request (chosen_all state last request)
placed_right state last [] plain ordered there knows = refl
placed_right state last (argument ∷ arguments) plain ordered there knows =
    let here : List Placed = chosen (needs_number state argument) last argument.files in
    let end : ℕ = last_chosen (needs_number state argument) last argument.files in
    let rest : List Placed = chosen_all state end arguments in
    let count : length argument.files ≡ length here = sym (length-chosen (needs_number state argument) last argument.files) in
    let front : take (length argument.files) (here ++ rest) ≡ here = ap (λ n. take n (here ++ rest)) count ∙ take-append_seam here rest in
    let back : drop (length argument.files) (here ++ rest) ≡ rest = ap (λ n. drop n (here ++ rest)) count ∙ drop-append_seam here rest in (
      subst (IsPlacedArgument state last argument) (sym front) (argument_right state last argument plain.0 ordered.0 there.0 knows),
      subst (λ placed. ArePlaced state (last_number_after last placed) arguments (drop (length argument.files) (here ++ rest))) (sym front)
          (subst (λ placed. ArePlaced state (last_number_after last here) arguments placed) (sym back)
          (subst (λ l. ArePlaced state l arguments rest) (sym (last_alone (needs_number state argument) last argument.files)) (placed_right state end arguments plain.1 ordered.1 there.1 knows))),
    )

pub ingestion_accepted : AcceptsIngestion
ingestion_accepted state capacity arguments seen plain knows =
    let request : List Argument = request_of arguments seen in
    let h : IsPlain state capacity request = plain_is state capacity arguments seen plain in
    let numbers = all_within state state.last request h.options h.whole in (
      chosen_all state state.last request,
      record {
        unrefused = none_exact state capacity request h;
        room = h.room;
        place = h.place;
        numbers = le_trans numbers h.numbers;
        placed_rightly = placed_right state state.last request h.options h.ordered (are_there (has_family state) request h.families) knows;
      },
    )
