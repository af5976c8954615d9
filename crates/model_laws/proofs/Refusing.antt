-- A request with default options is refused for a fault alone.
use Rattle.std.proofs.Common.{◌≡◌, ℕ, Bool, true, false, cond, ◌&&◌, ◌||◌, ◌+◌, ◌<◌, ◌≤◌, ◌==◌, nat_lt, nat_le, List, [], ◌∷◌, ◌++◌, Option, Some, None, is_some, refl, sym, ap, ap₂, subst, ◌∙◌, filter, filter_map, flat_map, map, take, arith, IsTrue, IsSomeAnd, Contains}
use Rattle.std.specs.List.{AllByRecursion as Each}
use Rattle.std.specs.Option.{option_map, option_or, option_and_then}
use Rattle.std.proofs.lemmas.Bool.{false≢true}
use Rattle.std.proofs.lemmas.Bool.Decides.{nat_tests}
use Rattle.st_model.specs.declared.refusal.FileAt.{FileAt}
use Rattle.st_model.specs.declared.refusal.Refusal.{Refusal}
use Rattle.st_model.specs.declared.refusal.Refusal.TheVariants as refusal
use Rattle.st_model.specs.declared.refusal.Why.{Why}
use Rattle.st_model.specs.declared.refusal.Why.TheVariants as why
use Rattle.st_model.specs.declared.request.IngestExternalFileOptions.{IngestExternalFileOptions}
use Rattle.st_model.specs.declared.state.ModelState.{ModelState}
use Rattle.st_model.specs.Answer.{unknown_families}
use Rattle.st_model.specs.Refusals.{file_refusals, inner_refusals, refusals_or, meeting_refusals, meeting_refusal, behind_refusals, fit_refusals, fit_refusal, exact_refusals, keeps_snapshots, lowest_live, first_refused, refused_cause, sure_cause, named_file, may_need_flush, may_need_number, may_be_too_high, are_numbers_spent, numbers_needed, MayNeedSequence}
use Rattle.st_model.specs.declared.reply.Reply.TheVariants.{Refused}
use Rattle.st_model.specs.Reply.{IsIngestReply}
use Rattle.st_model.specs.Request.{Argument, File, default_options, asks_behind, argument_of, file_of_argument, request_of}
use Rattle.st_model.specs.Early.{is_empty}
use Rattle.st_model.specs.State.{greatest_number}
use Rattle.model_laws.specs.Claims.{RefusesForFaults, is_fault}
use Rattle.model_laws.proofs.Requests.{ArePlain, IsPlain, plain_is}

-- ---- no argument goes behind

pub not_behind : (argument : Argument) → argument.options ≡ default_options → asks_behind argument ≡ false
not_behind argument plain = ap (λ options. options.ingest_behind) plain

pub none_behind : (request : List Argument) → ArePlain request → filter asks_behind request ≡ []
none_behind [] plain = refl
none_behind (argument ∷ request) plain =
    ap (λ b. cond b (argument ∷ filter asks_behind request) (filter asks_behind request)) (not_behind argument plain.0) ∙ none_behind request plain.1

none_keeps : (request : List Argument) → ArePlain request → filter (λ argument. asks_behind argument && keeps_snapshots argument) request ≡ []
none_keeps [] plain = refl
none_keeps (argument ∷ request) plain =
    ap (λ b. cond (b && keeps_snapshots argument) (argument ∷ filter (λ other. asks_behind other && keeps_snapshots other) request) (filter (λ other. asks_behind other && keeps_snapshots other) request)) (not_behind argument plain.0)
    ∙ none_keeps request plain.1

no_meeting : (request : List Argument) → ArePlain request → meeting_refusals request ≡ []
no_meeting request plain = ap (λ behind. take 1 (filter_map meeting_refusal behind)) (none_behind request plain)

no_behind : (state : ModelState) (request : List Argument) → ArePlain request → behind_refusals state request ≡ []
no_behind state request plain =
    ap₂ (λ (behind keeping : List Argument). cond state.behind [] (take 1 (map (λ argument. refusal.BehindNotEnabled argument.number) behind))
    ++ cond (is_empty state.live) [] (take 1 (map (λ argument. refusal.SnapshotsLive argument.number (lowest_live state)) keeping)))
    (none_behind request plain) (none_keeps request plain) ∙ go state.behind (is_empty state.live)
  where
    go : (a b : Bool) → cond {A = List Refusal} a [] [] ++ cond b [] [] ≡ []
    go true true = refl
    go true false = refl
    go false true = refl
    go false false = refl

no_fit : (state : ModelState) (request : List Argument) → ArePlain request → fit_refusals state request ≡ []
no_fit state request plain =
    ap (λ (behind : List Argument). take 1 (flat_map (λ argument. filter_map (fit_refusal state argument.family) argument.files) behind)) (none_behind request plain)

-- nothing refuses it exactly
pub none_exact : (state : ModelState) (capacity : ℕ) (request : List Argument) → IsPlain state capacity request → exact_refusals state request ≡ []
none_exact state capacity request h =
    ap (λ (refusals : List Refusal). refusals_or refusals (inner_refusals state request)) h.shape
    ∙ joined (file_refusals request) (meeting_refusals request) (unknown_families state (map (λ argument. argument.family) request)) (behind_refusals state request) (fit_refusals state request)
    h.files (no_meeting request h.options) h.families (no_behind state request h.options) (no_fit state request h.options)
  where
    joined : (b c d e f : List Refusal) → b ≡ [] → c ≡ [] → d ≡ [] → e ≡ [] → f ≡ [] → b ++ c ++ take 1 d ++ e ++ f ≡ []
    joined b c d e f q r s t u = cc

-- ---- the refusals that the options let in

-- an argument that is found has the default options
found_plain : (request : List Argument) (number : ℕ) → ArePlain request → (argument : Argument) → argument_of request number ≡ Some argument → argument.options ≡ default_options
found_plain [] number plain argument e = absurd (let z : false ≡ true = ap is_some e in false≢true z)
found_plain (other ∷ request) number plain argument e = go (other.number == number) e (found_plain request number plain.1 argument)
  where
    go : (b : Bool) → cond b (Some other) (argument_of request number) ≡ Some argument → (argument_of request number ≡ Some argument → argument.options ≡ default_options) → argument.options ≡ default_options
    go true e rest = let same : other ≡ argument = cc in subst (λ (one : Argument). one.options ≡ default_options) same plain.0
    go false e rest = rest e

-- a file that is named belongs to an argument with the default options
named_plain : (request : List Argument) (at : FileAt) (R : Argument × File → Type 0) → ArePlain request → IsSomeAnd (named_file request at) R
    → (argument : Argument) × (file : File) × (argument.options ≡ default_options) × R (argument, file)
named_plain request at R plain named = of_argument (argument_of request at.arg) (found_plain request at.arg plain) named
  where
    of_argument : (chosen : Option Argument) → ((argument : Argument) → chosen ≡ Some argument → argument.options ≡ default_options)
        → IsSomeAnd (option_and_then (λ argument. option_map (λ file. (argument, file)) (file_of_argument argument at.file)) chosen) R
        → (argument : Argument) × (file : File) × (argument.options ≡ default_options) × R (argument, file)
    of_argument None plain named = absurd named
    of_argument (Some argument) plain named = of_file (file_of_argument argument at.file) named
      where
        of_file : (file : Option File) → IsSomeAnd (option_map (λ file. (argument, file)) file) R → (argument : Argument) × (file : File) × (argument.options ≡ default_options) × R (argument, file)
        of_file None named = absurd named
        of_file (Some file) named = (argument, file, plain argument refl, named)

-- ---- what the default options rule out

no_flush : (state : ModelState) (key : List ℕ) (argument : Argument) (file : File) → argument.options ≡ default_options → IsTrue (may_need_flush state key (argument, file)) → ⊥
no_flush state key argument file plain e = by argument.options plain e
  where
    by : (options : IngestExternalFileOptions) → options ≡ default_options → IsTrue (may_need_flush state key (record argument { options = options }, file)) → ⊥
    by options p e = false≢true (subst (λ o. IsTrue (may_need_flush state key (record argument { options = o }, file))) p e)

no_number : (state : ModelState) (cause : Why) (argument : Argument) (file : File) → argument.options ≡ default_options → IsTrue (may_need_number state cause (argument, file)) → ⊥
no_number state cause argument file plain e = by argument.options plain e
  where
    by : (options : IngestExternalFileOptions) → options ≡ default_options → IsTrue (may_need_number state cause (record argument { options = options }, file)) → ⊥
    by options p e = false≢true (subst (λ o. IsTrue (may_need_number state cause (record argument { options = o }, file))) p e)

no_height : (state : ModelState) (level : ℕ) (cause : Why) (argument : Argument) (file : File) → argument.options ≡ default_options → IsTrue (may_be_too_high state level cause (argument, file)) → ⊥
no_height state level cause argument file plain e = by argument.options plain e
  where
    by : (options : IngestExternalFileOptions) → options ≡ default_options → IsTrue (may_be_too_high state level cause (record argument { options = options }, file)) → ⊥
    by options p e = false≢true (subst (λ o. IsTrue (may_be_too_high state level cause (record argument { options = o }, file))) p e)

none_refused : (state : ModelState) (request : List Argument) → ArePlain request → first_refused state request ≡ None
none_refused state [] plain = refl
none_refused state (argument ∷ request) plain =
    ap₂ (λ (one rest : Option (FileAt × Why)). option_or one rest) (allowed argument plain.0) (none_refused state request plain.1)
  where
    allowed : (argument : Argument) → argument.options ≡ default_options → refused_cause state argument ≡ None
    allowed argument p =
        ap (λ options. cond (options.ingest_behind || options.allow_global_seqno) None (option_map (λ cause. (record { arg = argument.number; file = 1 }, cause)) (sure_cause state argument))) p

not_none : {X : Type 0} (found : Option X) (x : X) → found ≡ None → found ≡ Some x → ⊥
not_none found x e f = false≢true (ap is_some (sym e ∙ f))

no_sequence : (state : ModelState) (request : List Argument) (at : FileAt) (cause : Why) → ArePlain request → MayNeedSequence state request at cause → ⊥
no_sequence state request at (why.Files i j) plain h = not_none (first_refused state request) (at, why.Files i j) (none_refused state request plain) h
no_sequence state request at (why.Snapshot number) plain h = not_none (first_refused state request) (at, why.Snapshot number) (none_refused state request plain) h
no_sequence state request at (why.Key key) plain h =
    let named = named_plain request at (λ named. IsTrue (may_need_number state (why.Key key) named)) plain h.1 in
    no_number state (why.Key key) named.0 named.1 named.2 named.3
no_sequence state request at (why.Running range) plain h =
    let named = named_plain request at (λ named. IsTrue (may_need_number state (why.Running range) named)) plain h.1 in
    no_number state (why.Running range) named.0 named.1 named.2 named.3
no_sequence state request at (why.Meets range) plain h = h

-- ---- no refusal but for a fault

not_in : (refusals : List Refusal) (one : Refusal) → refusals ≡ [] → Contains refusals one → ⊥
not_in refusals one e has = empty (subst (λ list. Contains list one) e has)
  where
    empty : Contains [] one → ⊥
    empty (i, l, same) = omega (arith, l)

not_spent : (state : ModelState) (request : List Argument) → state.last + numbers_needed request ≤ greatest_number → state.place < greatest_number → IsTrue (are_numbers_spent state request) → ⊥
not_spent state request numbers place e = apart (state.last + numbers_needed request) state.place numbers place e
  where
    apart : (last place : ℕ) → last ≤ greatest_number → place < greatest_number → (nat_lt greatest_number last || nat_le greatest_number place) ≡ true → ⊥
    apart last place l p e =
        let a : nat_lt greatest_number last ≡ false = grind (arith, nat_tests, l) in
        let b : nat_le greatest_number place ≡ false = grind (arith, nat_tests, p) in
        false≢true (sym (ap₂ (λ x y. x || y) a b) ∙ e)

refuses_plain : (state : ModelState) (capacity : ℕ) (request : List Argument) (refusal : Refusal) → IsPlain state capacity request → IsIngestReply state capacity request (Refused refusal) → IsTrue (is_fault refusal)
refuses_plain state capacity request (refusal.InputFault at) h may = refl
refuses_plain state capacity request refusal.Stopped h may = refl
refuses_plain state capacity request refusal.DiskFault h may = refl
refuses_plain state capacity request (refusal.FlushNeeded at key) h may =
    let named = named_plain request at (λ named. IsTrue (may_need_flush state key named)) h.options may.0 in
    absurd (no_flush state key named.0 named.1 named.2 named.3)
refuses_plain state capacity request (refusal.NeedsSequence at cause) h may = absurd (no_sequence state request at cause h.options may.0)
refuses_plain state capacity request (refusal.NotLastLevel at level cause) h may =
    let named = named_plain request at (λ named. IsTrue (may_be_too_high state level cause named)) h.options may.0 in
    absurd (no_height state level cause named.0 named.1 named.2 named.3)
refuses_plain state capacity request refusal.NumbersSpent h may = absurd (not_spent state request h.numbers h.place may.0)
refuses_plain state capacity request refusal.StoreFull h may = absurd (false≢true (sym h.room ∙ may.0))
refuses_plain state capacity request refusal.EmptyRequest h may = absurd (not_in (exact_refusals state request) refusal.EmptyRequest (none_exact state capacity request h) may.0)
refuses_plain state capacity request (refusal.NoFiles argument) h may = absurd (not_in (exact_refusals state request) (refusal.NoFiles argument) (none_exact state capacity request h) may.0)
refuses_plain state capacity request (refusal.FamilyTwice argument) h may = absurd (not_in (exact_refusals state request) (refusal.FamilyTwice argument) (none_exact state capacity request h) may.0)
refuses_plain state capacity request refusal.TooManyFiles h may = absurd (not_in (exact_refusals state request) refusal.TooManyFiles (none_exact state capacity request h) may.0)
refuses_plain state capacity request (refusal.FileMissing at) h may = absurd (not_in (exact_refusals state request) (refusal.FileMissing at) (none_exact state capacity request h) may.0)
refuses_plain state capacity request (refusal.BadTable at fault) h may = absurd (not_in (exact_refusals state request) (refusal.BadTable at fault) (none_exact state capacity request h) may.0)
refuses_plain state capacity request (refusal.NoEntry at) h may = absurd (not_in (exact_refusals state request) (refusal.NoEntry at) (none_exact state capacity request h) may.0)
refuses_plain state capacity request (refusal.FilesMeet at file) h may = absurd (not_in (exact_refusals state request) (refusal.FilesMeet at file) (none_exact state capacity request h) may.0)
refuses_plain state capacity request (refusal.UnknownFamily name) h may = absurd (not_in (exact_refusals state request) (refusal.UnknownFamily name) (none_exact state capacity request h) may.0)
refuses_plain state capacity request (refusal.BehindNotEnabled argument) h may = absurd (not_in (exact_refusals state request) (refusal.BehindNotEnabled argument) (none_exact state capacity request h) may.0)
refuses_plain state capacity request (refusal.SnapshotsLive argument number) h may = absurd (not_in (exact_refusals state request) (refusal.SnapshotsLive argument number) (none_exact state capacity request h) may.0)
refuses_plain state capacity request (refusal.BehindDoesNotFit at range) h may = absurd (not_in (exact_refusals state request) (refusal.BehindDoesNotFit at range) (none_exact state capacity request h) may.0)
refuses_plain state capacity request (refusal.FamilyExists name) h may = absurd (not_in (exact_refusals state request) (refusal.FamilyExists name) (none_exact state capacity request h) may.0)
refuses_plain state capacity request refusal.DefaultStays h may = absurd (not_in (exact_refusals state request) refusal.DefaultStays (none_exact state capacity request h) may.0)
refuses_plain state capacity request refusal.FamiliesFull h may = absurd (not_in (exact_refusals state request) refusal.FamiliesFull (none_exact state capacity request h) may.0)
refuses_plain state capacity request refusal.SnapshotsFull h may = absurd (not_in (exact_refusals state request) refusal.SnapshotsFull (none_exact state capacity request h) may.0)
refuses_plain state capacity request (refusal.SnapshotGone id) h may = absurd (not_in (exact_refusals state request) (refusal.SnapshotGone id) (none_exact state capacity request h) may.0)
refuses_plain state capacity request refusal.OutOfMemory h may = absurd (not_in (exact_refusals state request) refusal.OutOfMemory (none_exact state capacity request h) may.0)

pub refuses_for_faults : RefusesForFaults
refuses_for_faults state capacity arguments seen refusal h may = refuses_plain state capacity (request_of arguments seen) refusal (plain_is state capacity arguments seen h) may
