-- Which refusals a request may be given.
use Rattle.std.specs.Prelude.{ℕ, Bool, ◌&&◌, ◌||◌, not, ◌+◌, ◌≡◌, nat_lt, nat_le, IsTrue, length, take, List, [], ◌∷◌}
use Rattle.std.specs.Prelude.{◌++◌, map, filter, filter_map, flat_map, find, fold, min, sum_by, if◌then◌else◌, Option}
use Rattle.std.specs.Prelude.{Some, None, false, Contains, IsSomeAnd, ⊤, unwrap_or}
use Rattle.std.specs.Option.{option_map, option_or, option_and_then}
use Rattle.std.specs.List.{list_any, AllByRecursion as Each}
use Rattle.st_base.specs.Bytes.{same, at_most, below}
use Rattle.st_base.specs.Entries.{add_charge}
use Rattle.st_base.specs.Range.{keys_of, has_key}
use Rattle.st_base.specs.Range.{is_in_range, meet}
use Rattle.st_base.specs.declared.entry.KeyRange.{KeyRange}
use Rattle.st_model.specs.declared.command.FileSeen.{FileSeen}
use Rattle.st_model.specs.declared.command.FileSeen.TheVariants.{Missing, Bad, Table}
use Rattle.st_model.specs.declared.refusal.FileAt.{FileAt}
use Rattle.st_model.specs.declared.refusal.Why.{Why}
use Rattle.st_model.specs.declared.refusal.Why.TheVariants.{Key, Running, Snapshot, Files, Meets}
use Rattle.st_model.specs.declared.refusal.Refusal.{Refusal}
use Rattle.st_model.specs.declared.refusal.Refusal.TheVariants.{EmptyRequest, NoFiles, FamilyTwice, TooManyFiles}
use Rattle.st_model.specs.declared.refusal.Refusal.TheVariants.{FileMissing, InputFault, BadTable, NoEntry, FilesMeet}
use Rattle.st_model.specs.declared.refusal.Refusal.TheVariants.{Stopped, UnknownFamily, BehindNotEnabled}
use Rattle.st_model.specs.declared.refusal.Refusal.TheVariants.{SnapshotsLive, FlushNeeded, BehindDoesNotFit}
use Rattle.st_model.specs.declared.refusal.Refusal.TheVariants.{NeedsSequence, NotLastLevel, NumbersSpent, StoreFull}
use Rattle.st_model.specs.declared.refusal.Refusal.TheVariants.{DiskFault, FamilyExists, DefaultStays, FamiliesFull}
use Rattle.st_model.specs.declared.refusal.Refusal.TheVariants.{SnapshotsFull, SnapshotGone, OutOfMemory}
use Rattle.st_model.specs.declared.state.ModelState.{ModelState}
use Rattle.st_model.specs.State.{greatest_number, most_request_arguments, most_request_files, family_of, lowest}
use Rattle.st_model.specs.Answer.{refused_if, unknown_families, place_spent}
use Rattle.st_model.specs.Contents.{sorted_ranges}
use Rattle.st_model.specs.Early.{is_empty}
use Rattle.st_model.specs.Request.{File, Argument, entries_of_file, range_of_file, all_files, asks_behind}
use Rattle.st_model.specs.Request.{request_charge, meeting, argument_of, file_of_argument, files_named}

-- ---- the refusals that hold exactly, in their order

abbrev pub has_no_files : Argument → Bool
has_no_files argument = nat_le argument.named 0

-- the arguments that name the family of an earlier one
abbrev pub repeated : List (List ℕ) → List Argument → List Argument
repeated named [] = []
repeated named (argument ∷ arguments) =
    (if list_any (same argument.family) named then argument ∷ [] else [])
    ++ repeated (argument.family ∷ named) arguments

abbrev pub has_too_many : List Argument → Bool
has_too_many request =
    nat_lt most_request_arguments (length request) || nat_lt most_request_files (files_named request)

-- by the request's shape alone, before a file is read
abbrev pub shape_refusals : List Argument → List Refusal
shape_refusals request =
    refused_if (nat_le (length request) 0) EmptyRequest
    ++ take 1 (map (λ argument. NoFiles argument.number) (filter has_no_files request))
    ++ take 1 (map (λ argument. FamilyTwice argument.number) (repeated [] request))
    ++ refused_if (has_too_many request) TooManyFiles

abbrev pub seen_refusals : FileAt → FileSeen → List Refusal
seen_refusals at Missing = FileMissing at ∷ []
seen_refusals at (Bad fault) = BadTable at fault ∷ []
seen_refusals at (Table []) = NoEntry at ∷ []
seen_refusals at (Table (entry ∷ entries)) = []

-- by the bytes of each file
abbrev pub file_refusals : List Argument → List Refusal
file_refusals request = flat_map (λ file. seen_refusals file.at file.seen) (all_files request)

abbrev pub meeting_refusal : Argument → Option Refusal
meeting_refusal argument =
    option_map (λ pair. FilesMeet (record { arg = argument.number; file = pair.0 }) pair.1) (meeting argument)

-- files of a behind argument that meet
abbrev pub meeting_refusals : List Argument → List Refusal
meeting_refusals request = take 1 (filter_map meeting_refusal (filter asks_behind request))

-- the lowest number of a live snapshot
abbrev pub lowest_live : ModelState → ℕ
lowest_live state = fold (λ least live. min least live.number) state.last state.live

abbrev pub keeps_snapshots : Argument → Bool
keeps_snapshots argument = argument.options.snapshot_consistency

-- behind arguments want a store that takes them, and no snapshot that must not see them
abbrev pub behind_refusals : ModelState → List Argument → List Refusal
behind_refusals state request =
    (if state.behind then []
    else take 1 (map (λ argument. BehindNotEnabled argument.number) (filter asks_behind request)))
    ++ (if is_empty state.live then []
    else take 1 (map (λ argument. SnapshotsLive argument.number (lowest_live state))
    (filter (λ argument. asks_behind argument && keeps_snapshots argument) request)))

abbrev pub ranges_in : ModelState → List ℕ → List KeyRange
ranges_in state name = unwrap_or (option_map (λ family. sorted_ranges family.ranges) (family_of state name)) []

-- the file meets a file that was taken in behind: the first such by key
abbrev pub fit_refusal : ModelState → List ℕ → File → Option Refusal
fit_refusal state name file =
    option_map (λ range. BehindDoesNotFit file.at range) (find (meet (range_of_file file)) (ranges_in state name))

abbrev pub fit_refusals : ModelState → List Argument → List Refusal
fit_refusals state request =
    take 1
    (flat_map (λ argument. filter_map (fit_refusal state argument.family) argument.files) (filter asks_behind request))

-- by its files, families and options
abbrev pub inner_refusals : ModelState → List Argument → List Refusal
inner_refusals state request =
    file_refusals request ++ meeting_refusals request
    ++ take 1 (unknown_families state (map (λ argument. argument.family) request))
    ++ behind_refusals state request ++ fit_refusals state request

-- the refusals, or where there are none, the others
abbrev pub refusals_or : List Refusal → List Refusal → List Refusal
refusals_or [] others = others
refusals_or (refusal ∷ refusals) others = refusal ∷ refusals

-- Those that hold of a request, in their order: where its shape refuses it, these alone. Those for numbers, places and
-- the capacity come last and stand apart.
abbrev pub exact_refusals : ModelState → List Argument → List Refusal
exact_refusals state request = refusals_or (shape_refusals request) (inner_refusals state request)

-- whether the charge would pass the capacity
abbrev pub is_full : ModelState → ℕ → List Argument → Bool
is_full state capacity request = nat_lt capacity (add_charge state.charge (request_charge request))

-- ---- the order in which a request is tested

abbrev pub of_file : FileAt → ℕ → List ℕ
of_file at step = 5 ∷ at.arg ∷ at.file ∷ step ∷ []

-- earlier tests have lesser lists; a disk fault counts where files are staged
abbrev pub step_of : Refusal → List ℕ
step_of EmptyRequest = 1 ∷ []
step_of (NoFiles argument) = 2 ∷ []
step_of (FamilyTwice argument) = 3 ∷ []
step_of TooManyFiles = 4 ∷ []
step_of (InputFault at) = of_file at 0
step_of (FileMissing at) = of_file at 1
step_of (BadTable at fault) = of_file at 2
step_of (NoEntry at) = of_file at 3
step_of (FilesMeet at file) = 9 ∷ []
step_of Stopped = 10 ∷ []
step_of DiskFault = 10 ∷ []
step_of (UnknownFamily name) = 11 ∷ []
step_of (BehindNotEnabled argument) = 12 ∷ []
step_of (SnapshotsLive argument number) = 13 ∷ []
step_of (FlushNeeded at key) = 14 ∷ []
step_of (BehindDoesNotFit at range) = 15 ∷ []
step_of (NeedsSequence at why) = 16 ∷ []
step_of (NotLastLevel at level why) = 17 ∷ []
step_of NumbersSpent = 18 ∷ []
step_of StoreFull = 19 ∷ []
-- these come to no request
step_of (FamilyExists name) = 20 ∷ []
step_of DefaultStays = 20 ∷ []
step_of FamiliesFull = 20 ∷ []
step_of SnapshotsFull = 20 ∷ []
step_of (SnapshotGone id) = 20 ∷ []
step_of OutOfMemory = 20 ∷ []

-- none of the refusals that hold comes before this one
abbrev pub IsFirstRefusal : List Refusal → Refusal → Type 0
IsFirstRefusal holding refusal = Each (λ other. IsTrue (not (below (step_of other) (step_of refusal)))) holding

-- ---- numbering

-- why each file of the argument is numbered: two of its files meet, or a live snapshot must not see them
abbrev pub sure_cause : ModelState → Argument → Option Why
sure_cause state argument =
    option_or (option_map (λ pair. Files pair.0 pair.1) (meeting argument))
    (if is_empty state.live || not (keeps_snapshots argument) then None else Some (Snapshot (lowest_live state)))

-- the argument may not take a number, but would: its first file is named
abbrev pub refused_cause : ModelState → Argument → Option (FileAt × Why)
refused_cause state argument =
    if asks_behind argument || argument.options.allow_global_seqno then None
    else option_map (λ why. (record { arg = argument.number; file = 1 }, why)) (sure_cause state argument)

-- the first such argument
abbrev pub first_refused : ModelState → List Argument → Option (FileAt × Why)
first_refused state [] = None
first_refused state (argument ∷ arguments) = option_or (refused_cause state argument) (first_refused state arguments)

abbrev pub needs_sequence : Option (FileAt × Why) → List Refusal
needs_sequence None = []
needs_sequence (Some cause) = NeedsSequence cause.0 cause.1 ∷ []

-- those of the last tests that are sure, whatever levels the store chooses
abbrev pub sure_refusals : ModelState → List Argument → List Refusal
sure_refusals state request = needs_sequence (first_refused state request) ++ place_spent state

-- ---- the refusals that may come

-- the file that is named, with its argument
abbrev pub named_file : List Argument → FileAt → Option (Argument × File)
named_file request at =
    option_and_then (λ argument. option_map (λ file. (argument, file)) (file_of_argument argument at.file))
    (argument_of request at.arg)

abbrev pub is_in : List (List ℕ) → List ℕ → Bool
is_in keys key = list_any (same key) keys

-- the range has known ends and meets the file
abbrev pub is_known_range : List (List ℕ) → KeyRange → File → Bool
is_known_range known range file =
    is_in known range.first && is_in known range.last && at_most range.first range.last
    && meet range (range_of_file file)

-- the cause names known keys that meet the file
abbrev pub names_known : List (List ℕ) → Why → File → Bool
names_known known (Key key) file = is_in known key && is_in_range (range_of_file file) key
names_known known (Running range) file = is_known_range known range file
names_known known (Meets range) file = is_known_range known range file
names_known known (Snapshot number) file = false
names_known known (Files i j) file = false

abbrev pub known_in : ModelState → List ℕ → List (List ℕ)
known_in state name = unwrap_or (option_map (λ family. family.known) (family_of state name)) []

abbrev pub was_written : ModelState → List ℕ → List ℕ → Bool
was_written state name key = unwrap_or (option_map (λ family. has_key family.writes key) (family_of state name)) false

-- the key stands in a memtable in the file's range
abbrev pub may_need_flush : ModelState → List ℕ → Argument × File → Bool
may_need_flush state key (argument, file) =
    not (asks_behind argument) && not argument.options.allow_blocking_flush
    && is_in_range (range_of_file file) key && was_written state argument.family key

-- the file may not take a number, and a known key stands in its way
abbrev pub may_need_number : ModelState → Why → Argument × File → Bool
may_need_number state why (argument, file) =
    not (asks_behind argument) && not argument.options.allow_global_seqno
    && names_known (known_in state argument.family) why file

-- the keys of the argument's files before this one
abbrev pub keys_before : Argument → File → List (List ℕ)
keys_before argument file =
    flat_map (λ other. if nat_lt other.at.file file.at.file then keys_of (entries_of_file other) else []) argument.files

-- the file must go to the lowest level, and known keys, or those of a file before it, stand in its way
abbrev pub may_be_too_high : ModelState → ℕ → Why → Argument × File → Bool
may_be_too_high state level why (argument, file) =
    not (asks_behind argument) && argument.options.fail_if_not_bottommost_level && nat_lt level (lowest state)
    && names_known (known_in state argument.family ++ keys_before argument file) why file

-- how many numbers the request can need: one for each file that doesn't go behind
abbrev pub numbers_needed : List Argument → ℕ
numbers_needed request = sum_by (λ argument. if asks_behind argument then 0 else argument.named) request

abbrev pub are_numbers_spent : ModelState → List Argument → Bool
are_numbers_spent state request =
    nat_lt greatest_number (state.last + numbers_needed request) || nat_le greatest_number state.place

-- a file that an argument may not number, by what holds of the argument or by a key in its way
abbrev pub MayNeedSequence : ModelState → List Argument → FileAt → Why → Type 0
MayNeedSequence state request at (Files i j) = first_refused state request ≡ Some (at, Files i j)
MayNeedSequence state request at (Snapshot number) = first_refused state request ≡ Some (at, Snapshot number)
MayNeedSequence state request at (Key key) =
    (first_refused state (take at.arg request) ≡ None)
    × IsSomeAnd (named_file request at) (λ named. IsTrue (may_need_number state (Key key) named))
MayNeedSequence state request at (Running range) =
    (first_refused state (take at.arg request) ≡ None)
    × IsSomeAnd (named_file request at) (λ named. IsTrue (may_need_number state (Running range) named))
MayNeedSequence state request at (Meets range) = ⊥

-- the request may be refused so at this state, as far as the refusal itself goes
abbrev pub MayRefuse : ModelState → ℕ → List Argument → Refusal → Type 0
MayRefuse state capacity request (InputFault at) = IsSomeAnd (named_file request at) (λ _. ⊤)
MayRefuse state capacity request Stopped = ⊤
MayRefuse state capacity request DiskFault = ⊤
MayRefuse state capacity request (FlushNeeded at key) =
    IsSomeAnd (named_file request at) (λ named. IsTrue (may_need_flush state key named))
MayRefuse state capacity request (NeedsSequence at why) = MayNeedSequence state request at why
MayRefuse state capacity request (NotLastLevel at level why) =
    IsSomeAnd (named_file request at) (λ named. IsTrue (may_be_too_high state level why named))
MayRefuse state capacity request NumbersSpent = IsTrue (are_numbers_spent state request)
MayRefuse state capacity request StoreFull = IsTrue (is_full state capacity request)
-- all others hold exactly, or not
MayRefuse state capacity request other = Contains (exact_refusals state request) other
