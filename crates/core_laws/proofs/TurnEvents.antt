-- TurnTaken: its refusals are the model's, and the turn that is taken stands.
use Rattle.std.proofs.Common.{◌≡◌, ℕ, ◌+◌, ◌<◌, ◌≤◌, Bool, true, false, cond, ◌&&◌, ◌||◌, not, ◌==◌, List, [], ◌∷◌, ◌++◌, length, map, filter, Option, Some, None, option_map, unwrap_or, is_eq, refl, sym, ap, subst, ◌∙◌, inl, inr, arith}
use Rattle.std.specs.Prelude.{IsTrue, IfSome, IsSomeAnd, Contains, flat_map, filter_map, take, find, fold, min, nat_le}
use Rattle.std.specs.Option.{option_and_then}
use Rattle.std.specs.List.{cons_option, AllByRecursion as Each}
use Rattle.std.proofs.lemmas.Bool.{or_parts, eq-eqb, ne_eqb}
use Rattle.st_base.specs.Bytes.{bytes_cmp, below, same}
use Rattle.st_base.specs.Map.{value_at}
use Rattle.st_base.specs.declared.entry.Entry.{Entry}
use Rattle.st_base.specs.declared.entry.KeyRange.{KeyRange}
use Rattle.st_model.specs.declared.refusal.FileAt.{FileAt}
use Rattle.st_model.specs.declared.refusal.Refusal.{Refusal}
use Rattle.st_model.specs.declared.refusal.Why.{Why}
use Rattle.st_model.specs.declared.refusal.Refusal.TheVariants.{NumbersSpent, UnknownFamily, BehindNotEnabled, SnapshotsLive, FlushNeeded, BehindDoesNotFit}
use Rattle.st_model.specs.declared.command.FileSeen.TheVariants as seen
use Rattle.st_model.specs.declared.state.ModelFamily.{ModelFamily}
use Rattle.st_model.specs.declared.state.ModelState.{ModelState}
use Rattle.st_model.specs.Answer.{unknown_families, refused_if, place_spent}
use Rattle.st_model.specs.State.{greatest_number}
use Rattle.st_model.specs.Early.{is_empty}
use Rattle.st_base.specs.Range.{keys_of, has_key, is_in_range, meet}
use Rattle.st_model.specs.Refusals.{MayRefuse, IsFirstRefusal, step_of, refusals_or, first_refused, needs_sequence, sure_refusals, file_refusals, behind_refusals, fit_refusals, fit_refusal, exact_refusals, seen_refusals, ranges_in, lowest_live, keeps_snapshots, named_file, may_need_flush, was_written}
use Rattle.st_model.specs.Request.{File, Argument, files_from, all_files, range_of_file, argument_of, file_of_argument, asks_behind}
use Rattle.base_laws.proofs.Lists.{each_all, each_as, each_back, each_filter, each_flat_map, each_front, each_join, each_map, each_take}
use Rattle.core_model.specs.Commit.{outline, memory_key, flush_needed, flush_refusals, turn_refusals}
use Rattle.core_model.specs.Event.{argument_of_part, arguments_after, request_of_parts, TurnTaken}
use Rattle.core_model.specs.declared.reply.CoreReply.{CoreReply}
use Rattle.core_model.specs.declared.reply.CoreReply.TheVariants.{TurnGiven}
use Rattle.core_model.specs.Relation.{Represents}
use Rattle.core_model.specs.Picture.{FileEntries, FamilyView, Part, Turn, Core, memories, table_range, all_tables, live_numbers}
use Rattle.core_model.specs.Request.{IsRequest, IsStagedTable}
use Rattle.core_model.specs.Run.{IsCoreStep, Refines, IsRequestAnswer}
use Rattle.core_model.specs.RelationParts.{HaveSame, files_in_parts}
use Rattle.core_model.specs.Step.{RefusedOr, NoTurn, AreFresh, HaveOtherFiles, with_turn}
use Rattle.core_laws.proofs.Lists.{pairs_join}
use Rattle.core_laws.proofs.ByPlace.{each_both}
use Rattle.core_laws.proofs.PlainEvents.{not_now, accepted_or}
use Rattle.core_laws.proofs.NamedLists.{Zipped}
use Rattle.core_laws.proofs.Outline.{unknown_alike}
use Rattle.core_laws.proofs.FamilyPair.{Pair, Stays, pairs_stand, rest_stands, stands_of, rest_left, stays_itself, zip_itself}
use Rattle.core_laws.proofs.FileColumns.{nil_left, nil_right}
use Rattle.st_order.specs.Least.{lesser_key, least_within}

-- ---- what the request's own tests leave of the exact refusals

families_named : (a : ℕ) (parts : List Part) → map (λ (argument : Argument). argument.family) (arguments_after a parts) ≡ map (λ (part : Part). part.family) parts
families_named a [] = refl
families_named a (part ∷ parts) = ap (λ (rest : List (List ℕ)). part.family ∷ rest) (families_named (a + 1) parts)

no_file_refused : (argument i : ℕ) (tables : List FileEntries) → Each IsStagedTable tables → (rest : List File) → flat_map (λ (file : File). seen_refusals file.at file.seen) rest ≡ []
    → flat_map (λ (file : File). seen_refusals file.at file.seen) (files_from argument i (map (λ (table : FileEntries). seen.Table table.entries) tables) ++ rest) ≡ []
no_file_refused argument i [] h rest e = e
no_file_refused argument i (table ∷ tables) h rest e = by table.entries h.0.some (no_file_refused argument (i + 1) tables h.1 rest e)
  where
    more : List Refusal
    more = flat_map (λ (file : File). seen_refusals file.at file.seen) (files_from argument (i + 1) (map (λ (table : FileEntries). seen.Table table.entries) tables) ++ rest)

    by : (entries : List Entry) → 1 ≤ length entries → more ≡ [] → seen_refusals (record { arg = argument; file = i }) (seen.Table entries) ++ more ≡ []
    by [] n f = absurd (omega arith)
    by (entry ∷ entries) n f = f

no_files_refused : (a : ℕ) (parts : List Part) → Each IsStagedTable (files_in_parts parts) → file_refusals (arguments_after a parts) ≡ []
no_files_refused a [] h = refl
no_files_refused a (part ∷ parts) h = no_file_refused a 1 part.files (each_front IsStagedTable part.files (files_in_parts parts) h) (all_files (arguments_after (a + 1) parts)) (no_files_refused (a + 1) parts (each_back IsStagedTable part.files (files_in_parts parts) h))

exact_left : (state : ModelState) (parts : List Part) → IsRequest parts
    → exact_refusals state (request_of_parts parts) ≡ take 1 (unknown_families state (map (λ (part : Part). part.family) parts)) ++ behind_refusals state (request_of_parts parts) ++ fit_refusals state (request_of_parts parts)
exact_left state parts r = λ i.
    refusals_or (r.shape i) (no_files_refused 1 parts r.staged i ++ r.meeting i
    ++ take 1 (unknown_families state (families_named 1 parts i)) ++ behind_refusals state (request_of_parts parts) ++ fit_refusals state (request_of_parts parts))

-- ---- how early each is tested

abbrev AtLeast : ℕ → Refusal → Type 0
AtLeast n refusal = IsTrue (not (below (step_of refusal) (n ∷ [])))

each_filter_mapped : {X Y : Type 0} (P : Y → Type 0) (h : X → Option Y) → ((x : X) (y : Y) → h x ≡ Some y → P y) → (xs : List X) → Each P (filter_map h xs)
each_filter_mapped P h to [] = tt
each_filter_mapped {X} {Y} P h to (x ∷ xs) = by (h x) (to x) (each_filter_mapped P h to xs)
  where
    by : (o : Option Y) → ((y : Y) → o ≡ Some y → P y) → Each P (filter_map h xs) → Each P (cons_option o (filter_map h xs))
    by None f rest = rest
    by (Some y) f rest = (f y refl, rest)

from_map : {X : Type 0} (P : Refusal → Type 0) (make : X → Refusal) (o : Option X) (y : Refusal) → ((x : X) → P (make x)) → option_map make o ≡ Some y → P y
from_map P make None y all e = absurd cc
from_map P make (Some x) y all e = subst P (ap (λ o. unwrap_or o y) e) (all x)

each_fit : (P : Refusal → Type 0) (state : ModelState) (request : List Argument) → ((at : FileAt) (range : KeyRange) → P (BehindDoesNotFit at range)) → Each P (fit_refusals state request)
each_fit P state request all = each_take P 1 (flat_map (λ (argument : Argument). filter_map (fit_refusal state argument.family) argument.files) (filter asks_behind request))
    (each_flat_map P (λ (argument : Argument). filter_map (fit_refusal state argument.family) argument.files) (filter asks_behind request)
    (each_all (λ (argument : Argument). Each P (filter_map (fit_refusal state argument.family) argument.files)) (λ argument. each_filter_mapped P (fit_refusal state argument.family)
    (λ file refusal e. from_map P (λ range. BehindDoesNotFit file.at range) (find (meet (range_of_file file)) (ranges_in state argument.family)) refusal (λ range. all file.at range) e) argument.files) (filter asks_behind request)))

abbrev not_enabled : ModelState → List Argument → List Refusal
not_enabled state request = cond state.behind [] (take 1 (map (λ argument. BehindNotEnabled argument.number) (filter asks_behind request)))

abbrev snapshots_live : ModelState → List Argument → List Refusal
snapshots_live state request = cond (is_empty state.live) [] (take 1 (map (λ argument. SnapshotsLive argument.number (lowest_live state)) (filter (λ argument. asks_behind argument && keeps_snapshots argument) request)))

each_cond : {X : Type 0} (P : X → Type 0) (b : Bool) (xs : List X) → Each P xs → Each P (cond b [] xs)
each_cond P true xs h = tt
each_cond P false xs h = h

each_not_enabled : (P : Refusal → Type 0) (state : ModelState) (request : List Argument) → ((n : ℕ) → P (BehindNotEnabled n)) → Each P (not_enabled state request)
each_not_enabled P state request all = each_cond P state.behind _ (each_take P 1 (map (λ (argument : Argument). BehindNotEnabled argument.number) (filter asks_behind request))
    (each_map P (λ (argument : Argument). BehindNotEnabled argument.number) (filter asks_behind request) (each_all (λ (argument : Argument). P (BehindNotEnabled argument.number)) (λ argument. all argument.number) (filter asks_behind request))))

each_snapshots_live : (P : Refusal → Type 0) (state : ModelState) (request : List Argument) → ((n m : ℕ) → P (SnapshotsLive n m)) → Each P (snapshots_live state request)
each_snapshots_live P state request all =
    let which : List Argument = filter (λ argument. asks_behind argument && keeps_snapshots argument) request in
    each_cond P (is_empty state.live) (take 1 (map (λ (argument : Argument). SnapshotsLive argument.number (lowest_live state)) which)) (each_take P 1 (map (λ (argument : Argument). SnapshotsLive argument.number (lowest_live state)) which)
    (each_map P (λ (argument : Argument). SnapshotsLive argument.number (lowest_live state)) which (each_all (λ (argument : Argument). P (SnapshotsLive argument.number (lowest_live state))) (λ argument. all argument.number (lowest_live state)) which)))

each_unknown : (P : Refusal → Type 0) (state : ModelState) (names : List (List ℕ)) → ((name : List ℕ) → P (UnknownFamily name)) → Each P (unknown_families state names)
each_unknown P state names all = each_map P UnknownFamily _ (each_all (λ (name : List ℕ). P (UnknownFamily name)) all _)

-- ---- the first of them

-- what is first in one list of those that may come, and comes no later than the others, is an answer
abbrev IsAnswer : ModelState → ℕ → List Part → Refusal → Type 0
IsAnswer state capacity parts refusal = MayRefuse state capacity (request_of_parts parts) refusal × IsFirstRefusal (exact_refusals state (request_of_parts parts) ++ sure_refusals state (request_of_parts parts)) refusal

first_there : {X : Type 0} (x : X) (xs : List X) → Contains (x ∷ xs) x
first_there x xs = (0, (let lt : 0 < length (x ∷ xs) = omega arith in lt), refl)

abbrev IsPlain : ModelState → ℕ → List Part → Refusal → Type 0
IsPlain state capacity parts refusal = Contains (exact_refusals state (request_of_parts parts)) refusal → MayRefuse state capacity (request_of_parts parts) refusal

-- at a step: the refusal has it, and the others come no earlier
abbrev HasStep : ℕ → Refusal → Type 0
HasStep n refusal = step_of refusal ≡ n ∷ []

firsts : (n : ℕ) (refusal : Refusal) (others : List Refusal) → HasStep n refusal → Each (AtLeast n) others → IsFirstRefusal others refusal
firsts n refusal others h each = each_as (AtLeast n) (λ other. IsTrue (not (below (step_of other) (step_of refusal)))) (λ other k. subst (λ step. IsTrue (not (below (step_of other) step))) (sym h) k) others each

-- those that are sure, and name numbers, come after
sure_least : (n : ℕ) → IsTrue (not (below (16 ∷ []) (n ∷ []))) → IsTrue (not (below (18 ∷ []) (n ∷ []))) → (state : ModelState) (request : List Argument) → Each (AtLeast n) (sure_refusals state request)
sure_least n sixteen eighteen state request = each_join (AtLeast n) (needs_sequence (first_refused state request)) (place_spent state) (cause (first_refused state request)) (place (nat_le greatest_number state.place))
  where
    cause : (found : Option (FileAt × Why)) → Each (AtLeast n) (needs_sequence found)
    cause None = tt
    cause (Some found) = (sixteen, tt)

    place : (b : Bool) → Each (AtLeast n) (refused_if b NumbersSpent)
    place true = (eighteen, tt)
    place false = tt

abbrev head_of : Refusal → List Refusal → Refusal
head_of d [] = d
head_of d (x ∷ xs) = x

-- ---- a flush that is needed

each_passes : {X : Type 0} (test : X → Bool) (xs : List X) → Each (λ x. test x ≡ true) (filter test xs)
each_passes test [] = tt
each_passes {X} test (x ∷ xs) = by (test x) refl (each_passes test xs)
  where
    by : (b : Bool) → test x ≡ b → Each (λ x. test x ≡ true) (filter test xs) → Each (λ x. test x ≡ true) (cond b (x ∷ filter test xs) (filter test xs))
    by true e rest = (e, rest)
    by false e rest = rest

lesser_of : (P : List ℕ → Type 0) (keys : List (List ℕ)) (found : Option (List ℕ)) → IfSome found P → Each P keys → IfSome (fold lesser_key found keys) P
lesser_of P [] found f h = f
lesser_of P (key ∷ keys) found f h = lesser_of P keys (lesser_key found key) (by found f) h.1
  where
    by : (o : Option (List ℕ)) → IfSome o P → IfSome (lesser_key o key) P
    by None g = h.0
    by (Some other) g = at (below key other)
      where
        at : (b : Bool) → IfSome (cond b (Some key) (Some other)) P
        at true = h.0
        at false = g

least_has : (range : KeyRange) (runs : List (List Entry)) (P : List ℕ → Type 0) → Each (Each (λ entry. P entry.key)) runs → IfSome (least_within range runs) (λ key. (is_in_range range key ≡ true) × P key)
least_has range runs P h = lesser_of (λ key. (is_in_range range key ≡ true) × P key) (filter (is_in_range range) (flat_map keys_of runs)) None tt
    (each_both (λ key. is_in_range range key ≡ true) P (filter (is_in_range range) (flat_map keys_of runs)) (each_passes (is_in_range range) (flat_map keys_of runs))
    (each_filter P (is_in_range range) (flat_map keys_of runs) (each_flat_map P keys_of runs (each_as (Each (λ (entry : Entry). P entry.key)) (λ run. Each P (keys_of run)) (λ run k. each_map P (λ (entry : Entry). entry.key) run k) runs h))))

zip_found : {X Y : Type 0} (R : X → Y → Type 0) (xs : List (List ℕ × X)) (ys : List (List ℕ × Y)) (name : List ℕ) (x : X) → Zipped R xs ys → value_at xs name ≡ Some x → (y : Y) × (value_at ys name ≡ Some y) × R x y
zip_found R [] [] name x z e = absurd cc
zip_found R [] (q ∷ ys) name x z e = absurd z
zip_found R (p ∷ xs) [] name x z e = absurd z
zip_found {X} {Y} R (p ∷ xs) (q ∷ ys) name x z e = by (is_eq (bytes_cmp name p.0)) refl e (zip_found R xs ys name x z.1)
  where
    by : (b : Bool) → is_eq (bytes_cmp name p.0) ≡ b → cond b (Some p.1) (value_at xs name) ≡ Some x → (value_at xs name ≡ Some x → (y : Y) × (value_at ys name ≡ Some y) × R x y) → (y : Y) × (value_at (q ∷ ys) name ≡ Some y) × R x y
    by true f g more = (q.1, ap (λ b. cond b (Some q.1) (value_at ys name)) (subst (λ k. is_eq (bytes_cmp name k) ≡ true) z.0.0 f), subst (λ one. R one q.1) (ap (λ o. unwrap_or o x) g) z.0.1)
    by false f g more = let w = more g in (w.0, ap (λ b. cond b (Some q.1) (value_at ys name)) (subst (λ k. is_eq (bytes_cmp name k) ≡ false) z.0.0 f) ∙ w.1, w.2)

-- the key of a memtable in the file's range was written
memory_written : (core : Core) (state : ModelState) (part : Part) (table : FileEntries) → Represents core state → IfSome (memory_key core part table) (λ key. (is_in_range (table_range table) key ≡ true) × (was_written state part.family key ≡ true))
memory_written core state part table s = by (value_at core.families part.family) refl
  where
    by : (o : Option FamilyView) → value_at core.families part.family ≡ o → IfSome (option_and_then (λ family. least_within (table_range table) (memories family)) o) (λ key. (is_in_range (table_range table) key ≡ true) × (was_written state part.family key ≡ true))
    by None e = tt
    by (Some family) e =
        let w = zip_found (Pair core.behind core.last (live_numbers core)) core.families state.families part.family family (pairs_stand core state s) e in
        least_has (table_range table) (memories family) (λ key. was_written state part.family key ≡ true)
        (each_as (Each (λ (entry : Entry). IsTrue (has_key w.0.writes entry.key))) (Each (λ entry. was_written state part.family entry.key ≡ true))
        (λ run k. each_as (λ (entry : Entry). IsTrue (has_key w.0.writes entry.key)) (λ entry. was_written state part.family entry.key ≡ true) (λ entry h. ap (λ (o : Option ModelFamily). unwrap_or (option_map (λ (f : ModelFamily). has_key f.writes entry.key) o) false) w.1 ∙ h) run k)
        (memories family) w.2.written)

module _ (core : Core) (state : ModelState) (capacity : ℕ) (request : List Argument) (s : Represents core state) where
  -- each file that needs a flush is the request's
  files_may : (part : Part) (a : ℕ) → part.options.ingest_behind ≡ false → part.options.allow_blocking_flush ≡ false → argument_of request a ≡ Some (argument_of_part a part)
      → (i : ℕ) (tables : List FileEntries) → ((n : ℕ) → i ≤ n → file_of_argument (argument_of_part a part) n ≡ find (λ file. file.at.file == n) (files_from a i (map (λ (table : FileEntries). seen.Table table.entries) tables)))
      → Each (MayRefuse state capacity request) (flush_needed core part a i tables)
  files_may part a e f at i [] known = tt
  files_may part a e f at i (table ∷ tables) known =
      each_join (MayRefuse state capacity request) (unwrap_or (option_map (λ key. FlushNeeded (record { arg = a; file = i }) key ∷ []) (memory_key core part table)) []) (flush_needed core part a (i + 1) tables)
      (by (memory_key core part table) (memory_written core state part table s))
      (files_may part a e f at (i + 1) tables (λ n le. known n (omega arith) ∙ ap (λ b. cond b (Some file) (find (λ (other : File). other.at.file == n) (files_from a (i + 1) (map (λ (table : FileEntries). seen.Table table.entries) tables)))) (ne_eqb i n (λ same. omega arith))))
    where
      file : File
      file = record { at = record { arg = a; file = i }; seen = seen.Table table.entries }

      named : named_file request (record { arg = a; file = i }) ≡ Some (argument_of_part a part, file)
      named = ap (option_and_then (λ (argument : Argument). option_map (λ (one : File). (argument, one)) (file_of_argument argument i))) at
          ∙ ap (option_map (λ (one : File). (argument_of_part a part, one))) (known i (omega arith) ∙ ap (λ b. cond b (Some file) (find (λ (other : File). other.at.file == i) (files_from a (i + 1) (map (λ (table : FileEntries). seen.Table table.entries) tables)))) (eq-eqb i i refl))

      by : (o : Option (List ℕ)) → IfSome o (λ key. (is_in_range (table_range table) key ≡ true) × (was_written state part.family key ≡ true))
          → Each (MayRefuse state capacity request) (unwrap_or (option_map (λ key. FlushNeeded (record { arg = a; file = i }) key ∷ []) o) [])
      by None h = tt
      by (Some key) h = (subst (λ (o : Option (Argument × File)). IsSomeAnd o (λ named. IsTrue (may_need_flush state key named))) (sym named) (λ j. not (e j) && not (f j) && h.0 j && h.1 j), tt)

  parts_may : (a : ℕ) (parts : List Part) → ((n : ℕ) → a ≤ n → argument_of request n ≡ argument_of (arguments_after a parts) n) → Each (MayRefuse state capacity request) (flush_refusals core a parts)
  parts_may a [] known = tt
  parts_may a (part ∷ parts) known =
      each_join (MayRefuse state capacity request) (cond (part.options.ingest_behind || part.options.allow_blocking_flush) [] (flush_needed core part a 1 part.files)) (flush_refusals core (a + 1) parts)
      (by (part.options.ingest_behind || part.options.allow_blocking_flush) refl)
      (parts_may (a + 1) parts (λ n le. known n (omega arith) ∙ ap (λ b. cond b (Some (argument_of_part a part)) (argument_of (arguments_after (a + 1) parts) n)) (ne_eqb a n (λ same. omega arith))))
    where
      at : argument_of request a ≡ Some (argument_of_part a part)
      at = known a (omega arith) ∙ ap (λ b. cond b (Some (argument_of_part a part)) (argument_of (arguments_after (a + 1) parts) a)) (eq-eqb a a refl)

      by : (b : Bool) → (part.options.ingest_behind || part.options.allow_blocking_flush) ≡ b → Each (MayRefuse state capacity request) (cond b [] (flush_needed core part a 1 part.files))
      by true e = tt
      by false e = let p = or_parts part.options.ingest_behind part.options.allow_blocking_flush e in files_may part a p.0 p.1 at 1 part.files (λ n le. refl)

each_flush : (P : Refusal → Type 0) (core : Core) (a : ℕ) (parts : List Part) → ((at : FileAt) (key : List ℕ) → P (FlushNeeded at key)) → Each P (flush_refusals core a parts)
each_flush P core a [] all = tt
each_flush P core a (part ∷ parts) all = each_join P (cond (part.options.ingest_behind || part.options.allow_blocking_flush) [] (flush_needed core part a 1 part.files)) (flush_refusals core (a + 1) parts)
    (each_cond P (part.options.ingest_behind || part.options.allow_blocking_flush) (flush_needed core part a 1 part.files) (files 1 part.files)) (each_flush P core (a + 1) parts all)
  where
    files : (i : ℕ) (tables : List FileEntries) → Each P (flush_needed core part a i tables)
    files i [] = tt
    files i (table ∷ tables) = each_join P (unwrap_or (option_map (λ key. FlushNeeded (record { arg = a; file = i }) key ∷ []) (memory_key core part table)) []) (flush_needed core part a (i + 1) tables) (by (memory_key core part table)) (files (i + 1) tables)
      where
        by : (o : Option (List ℕ)) → Each P (unwrap_or (option_map (λ key. FlushNeeded (record { arg = a; file = i }) key ∷ []) o) [])
        by None = tt
        by (Some key) = (all (record { arg = a; file = i }) key, tt)

-- the first of the core's refusals may come, and comes first: by which of the four lists is the first that isn't empty
module _ (core : Core) (state : ModelState) (parts : List Part) (s : Represents core state) (r : IsRequest parts) where
  abbrev asked : List Argument
  asked = request_of_parts parts

  abbrev unknown : List Refusal
  unknown = unknown_families state (map (λ (part : Part). part.family) parts)

  abbrev after_unknown : List Refusal
  after_unknown = fit_refusals state (request_of_parts parts)

  answers : (n : ℕ) → IsTrue (not (below (16 ∷ []) (n ∷ []))) → IsTrue (not (below (18 ∷ []) (n ∷ []))) → (u b c : List Refusal) → u ≡ unknown → b ≡ not_enabled state asked → c ≡ snapshots_live state asked
      → (x : Refusal) → HasStep n x → ((exact : List Refusal) → Contains exact x → (exact ≡ exact_refusals state asked) → MayRefuse state core.capacity asked x)
      → Contains (take 1 u ++ (b ++ c) ++ after_unknown) x → Each (AtLeast n) (take 1 u ++ (b ++ c) ++ after_unknown) → IsAnswer state core.capacity parts x
  answers n sixteen eighteen u b c eu eb ec x step may there least = (
    may (take 1 u ++ (b ++ c) ++ after_unknown) there path,
    subst (λ others. IsFirstRefusal (others ++ sure_refusals state asked) x) path (firsts n x ((take 1 u ++ (b ++ c) ++ after_unknown) ++ sure_refusals state asked) step
        (each_join (AtLeast n) (take 1 u ++ (b ++ c) ++ after_unknown) (sure_refusals state asked) least (sure_least n sixteen eighteen state asked))),
  )
    where
      path : take 1 u ++ (b ++ c) ++ after_unknown ≡ exact_refusals state asked
      path = (λ i. take 1 (eu i) ++ (eb i ++ ec i) ++ after_unknown) ∙ sym (exact_left state parts r)

  plain_to : (x : Refusal) → IsPlain state core.capacity parts x → (exact : List Refusal) → Contains exact x → (exact ≡ exact_refusals state asked) → MayRefuse state core.capacity asked x
  plain_to x plain exact there e = plain (subst (λ others. Contains others x) e there)

  fit_least : (n : ℕ) → ((at : FileAt) (range : KeyRange) → AtLeast n (BehindDoesNotFit at range)) → Each (AtLeast n) after_unknown
  fit_least n all = each_fit (AtLeast n) state asked all

  first_is : (u b c l : List Refusal) → u ≡ unknown → b ≡ not_enabled state asked → c ≡ snapshots_live state asked → l ≡ flush_refusals core 1 parts
      → (x : Refusal) (more : List Refusal) → u ++ (b ++ c) ++ l ≡ x ∷ more → IsAnswer state core.capacity parts x
  first_is (y ∷ u) b c l eu eb ec el x more e =
      let is : y ≡ x = ap (head_of x) e in
      subst (IsAnswer state core.capacity parts) is
      (answers 11 refl refl (y ∷ u) b c eu eb ec y (subst (Each (HasStep 11)) (sym eu) (each_unknown (HasStep 11) state (map (λ (part : Part). part.family) parts) (λ name. refl))).0
      (plain_to y (subst (Each (IsPlain state core.capacity parts)) (sym eu) (each_unknown (IsPlain state core.capacity parts) state (map (λ (part : Part). part.family) parts) (λ name there. there))).0)
      (first_there y ((b ++ c) ++ after_unknown)) (
        (subst (Each (AtLeast 11)) (sym eu) (each_unknown (AtLeast 11) state (map (λ (part : Part). part.family) parts) (λ name. refl))).0,
        each_join (AtLeast 11) (b ++ c) after_unknown (each_join (AtLeast 11) b c (subst (Each (AtLeast 11)) (sym eb) (each_not_enabled (AtLeast 11) state asked (λ n. refl))) (subst (Each (AtLeast 11)) (sym ec) (each_snapshots_live (AtLeast 11) state asked (λ n m. refl))))
            (fit_least 11 (λ at range. refl)),
      ))
  first_is [] (y ∷ b) c l eu eb ec el x more e =
      let is : y ≡ x = ap (head_of x) e in
      subst (IsAnswer state core.capacity parts) is
      (answers 12 refl refl [] (y ∷ b) c eu eb ec y (subst (Each (HasStep 12)) (sym eb) (each_not_enabled (HasStep 12) state asked (λ n. refl))).0
      (plain_to y (subst (Each (IsPlain state core.capacity parts)) (sym eb) (each_not_enabled (IsPlain state core.capacity parts) state asked (λ n there. there))).0)
      (first_there y ((b ++ c) ++ after_unknown))
      (each_join (AtLeast 12) ((y ∷ b) ++ c) after_unknown (each_join (AtLeast 12) (y ∷ b) c (subst (Each (AtLeast 12)) (sym eb) (each_not_enabled (AtLeast 12) state asked (λ n. refl))) (subst (Each (AtLeast 12)) (sym ec) (each_snapshots_live (AtLeast 12) state asked (λ n m. refl))))
      (fit_least 12 (λ at range. refl))))
  first_is [] [] (y ∷ c) l eu eb ec el x more e =
      let is : y ≡ x = ap (head_of x) e in
      subst (IsAnswer state core.capacity parts) is
      (answers 13 refl refl [] [] (y ∷ c) eu eb ec y (subst (Each (HasStep 13)) (sym ec) (each_snapshots_live (HasStep 13) state asked (λ n m. refl))).0
      (plain_to y (subst (Each (IsPlain state core.capacity parts)) (sym ec) (each_snapshots_live (IsPlain state core.capacity parts) state asked (λ n m there. there))).0)
      (first_there y (c ++ after_unknown))
      (each_join (AtLeast 13) (y ∷ c) after_unknown (subst (Each (AtLeast 13)) (sym ec) (each_snapshots_live (AtLeast 13) state asked (λ n m. refl))) (fit_least 13 (λ at range. refl))))
  first_is [] [] [] l eu eb ec el x more e =
      let at_l : l ≡ x ∷ more = e in
      let may = (subst (Each (MayRefuse state core.capacity asked)) (sym el ∙ at_l) (parts_may core state core.capacity asked s 1 parts (λ n le. refl))).0 in (
        may,
        subst (λ others. IsFirstRefusal (others ++ sure_refusals state asked) x) ((λ i. take 1 (eu i) ++ (eb i ++ ec i) ++ after_unknown) ∙ sym (exact_left state parts r))
            (firsts 14 x (after_unknown ++ sure_refusals state asked) (subst (Each (HasStep 14)) (sym el ∙ at_l) (each_flush (HasStep 14) core 1 parts (λ at key. refl))).0
            (each_join (AtLeast 14) after_unknown (sure_refusals state asked) (fit_least 14 (λ at range. refl)) (sure_least 14 refl refl state asked))),
      )

-- ---- the turn

behind_alike : (core : Core) (state : ModelState) → HaveSame core state → (request : List Argument) → behind_refusals (outline core) request ≡ behind_refusals state request
behind_alike core state same request = λ i.
    cond (same.behind i) [] (take 1 (map (λ argument. BehindNotEnabled argument.number) (filter asks_behind request)))
    ++ cond (is_empty (same.live i)) [] (take 1 (map (λ argument. SnapshotsLive argument.number (fold (λ least live. min least live.number) (same.last i) (same.live i))) (filter (λ argument. asks_behind argument && keeps_snapshots argument) request)))

pub taken_stands : (core : Core) (state : ModelState) (parts : List Part) → Represents core state → NoTurn core → IsRequest parts → AreFresh core (files_in_parts parts) → turn_refusals core parts ≡ [] → Represents (with_turn core parts) state
taken_stands core state parts s turn r fresh none = stands_of (with_turn core parts) state
    (record { place = s.same.place; last = s.same.last; charge = s.same.charge; behind = s.same.behind; families = s.same.families; next_family = s.same.next_family; live = s.same.live })
    (pairs_stand core state s)
    (rest_left core (with_turn core parts) (record { families = zip_itself Stays stays_itself core.families; jobs = refl; made = refl; next = omega arith; behind = refl; last = omega arith; live = λ job began h. h; fall = λ h. h }) (rest_stands core state s)) (
      record {
        place = refl;
        fresh = pairs_join HaveOtherFiles (files_in_parts parts) (all_tables core) fresh.differ s.files fresh.placed;
      },
      record { families = nil_left u b (nil_left (u ++ b) l none); behind = nil_right u b (nil_left (u ++ b) l none) },
      r,
    )
    s.sound
  where
    u : List Refusal
    u = unknown_families (outline core) (map (λ (part : Part). part.family) parts)

    b : List Refusal
    b = behind_refusals (outline core) (request_of_parts parts)

    l : List Refusal
    l = flush_refusals core 1 parts

    no_files : (turn : Option Turn) → turn ≡ None → unwrap_or (option_map (λ (turn : Turn). files_in_parts turn.parts) turn) [] ≡ []
    no_files None e = refl
    no_files (Some turn) e = absurd cc

pub turn_taken_refines : (core : Core) (state : ModelState) (parts : List Part) (answer : CoreReply) (after : Core) → Represents core state → IsCoreStep core (TurnTaken parts) answer after → Refines core state (TurnTaken parts) answer after
turn_taken_refines core state parts answer after s (inr h) = not_now core state (TurnTaken parts) answer after s h
turn_taken_refines core state parts answer after s (inl h) = record {
  answer_of = λ now. by (turn_refusals core parts) refl h.1;
  stands = accepted_or core state (TurnTaken parts) (turn_refusals core parts) (with_turn core parts) TurnGiven answer after s refl (λ none. taken_stands core state parts s h.0.0 h.0.1 h.0.2 none) h.1;
}
  where
    names : List (List ℕ)
    names = map (λ (part : Part). part.family) parts

    u : List Refusal
    u = unknown_families (outline core) names

    b : List Refusal
    b = behind_refusals (outline core) (request_of_parts parts)

    l : List Refusal
    l = flush_refusals core 1 parts

    by : (rs : List Refusal) → turn_refusals core parts ≡ rs → RefusedOr rs core (with_turn core parts) TurnGiven answer after → IsRequestAnswer state core.capacity parts answer
    by [] e k = subst (IsRequestAnswer state core.capacity parts) (sym k.0) (record {
      shape = h.0.1.shape;
      meeting = h.0.1.meeting;
      families = sym (unknown_alike core state s.same names) ∙ nil_left u b (nil_left (u ++ b) l e);
      behind = sym (behind_alike core state s.same (request_of_parts parts)) ∙ nil_right u b (nil_left (u ++ b) l e);
    })
    by (refusal ∷ more) e k = subst (IsRequestAnswer state core.capacity parts) (sym k.0)
        (first_is core state parts s h.0.1 (unknown_families state (map (λ (part : Part). part.family) parts)) (not_enabled state (request_of_parts parts)) (snapshots_live state (request_of_parts parts)) (flush_refusals core 1 parts) refl refl refl refl refusal more
        (sym (λ i. unknown_alike core state s.same (map (λ (part : Part). part.family) parts) i ++ behind_alike core state s.same (request_of_parts parts) i ++ flush_refusals core 1 parts) ∙ e))
