-- A request that is too large is refused by its shape alone, and by the first of those refusals.
use Rattle.std.proofs.Common.{arith, zero, suc, ◌≡◌, ℕ, ◌+◌, ◌<◌, ◌≤◌, Bool, true, false, not, ◌||◌, nat_lt, nat_le, List, [], ◌∷◌, ◌++◌, ◌⊎◌, inl, inr, map, filter, length, take, drop, get_or, cond, Option, Some, None, unwrap_or, refl, sym, ap, ap₂, subst, ◌∙◌, IsTrue}
use Rattle.std.specs.Prelude.{◌↔◌, Contains}
use Rattle.std.specs.List.{list_any, AllByRecursion as Each}
use Rattle.std.specs.Option.{option_map}
use Rattle.std.proofs.lemmas.Bool.{true≢false}
use Rattle.std.proofs.lemmas.List.Sums.{sum_by-cons}
use Rattle.std.proofs.lemmas.Bool.Decides.{nat_tests}
use Rattle.st_base.specs.Bytes.{same, below}
use Rattle.st_model.specs.declared.command.FileSeen.{FileSeen}
use Rattle.st_model.specs.declared.refusal.FileAt.{FileAt}
use Rattle.st_model.specs.declared.refusal.Why.{Why}
use Rattle.st_model.specs.declared.refusal.Refusal.{Refusal}
use Rattle.st_model.specs.declared.refusal.Refusal.TheVariants as refused
use Rattle.st_model.specs.declared.reply.Reply.{Reply}
use Rattle.st_model.specs.declared.reply.Reply.TheVariants as reply
use Rattle.st_model.specs.declared.request.IngestExternalFileArg.{IngestExternalFileArg}
use Rattle.st_model.specs.declared.state.ModelState.{ModelState}
use Rattle.st_model.specs.Answer.{refused_if}
use Rattle.st_model.specs.Asked.{names_files}
use Rattle.st_model.specs.Refusals.{has_no_files, repeated, has_too_many, shape_refusals, inner_refusals, refusals_or, exact_refusals, sure_refusals, first_refused, needs_sequence, step_of, IsFirstRefusal, MayRefuse}
use Rattle.st_model.specs.Reply.{IsIngestReply}
use Rattle.st_model.specs.Request.{Argument, arguments_from, files_from, request_of, files_named}
use Rattle.st_model.specs.State.{greatest_number}
use Rattle.plain_request.specs.Large.{first_empty, first_twice, large_refusal}

-- ---- the shape of a request, by its arguments alone

abbrev held : Option Refusal → List Refusal
held None = []
held (Some refusal) = refusal ∷ []

abbrev without_files : List Argument → List Refusal
without_files request = map (λ (argument : Argument). refused.NoFiles argument.number) request

abbrev named_twice : List Argument → List Refusal
named_twice request = map (λ (argument : Argument). refused.FamilyTwice argument.number) request

abbrev first_argument : ℕ → IngestExternalFileArg → List FileSeen → Argument
first_argument number argument seen = record {
  number = number;
  family = argument.family;
  options = argument.options;
  named = length argument.files;
  files = files_from number 1 (take (length argument.files) seen);
}

empty_step : (b : Bool) (one : Argument) (rest : List Argument) (number : ℕ) (more : Option ℕ) → one.number ≡ number → take 1 (without_files rest) ≡ held (option_map refused.NoFiles more)
    → take 1 (without_files (cond b (one ∷ rest) rest)) ≡ held (option_map refused.NoFiles (cond b (Some number) more))
empty_step true one rest number more e h = ap (λ n. refused.NoFiles n ∷ []) e
empty_step false one rest number more e h = h

empties : (number : ℕ) (arguments : List IngestExternalFileArg) (seen : List FileSeen)
    → take 1 (without_files (filter has_no_files (arguments_from number arguments seen))) ≡ held (option_map refused.NoFiles (first_empty number arguments))
empties number [] seen = refl
empties number (argument ∷ arguments) seen =
    empty_step (nat_le (length argument.files) 0) (first_argument number argument seen) (filter has_no_files (arguments_from (number + 1) arguments (drop (length argument.files) seen))) number (first_empty (number + 1) arguments) refl
    (empties (number + 1) arguments (drop (length argument.files) seen))

twice_step : (b : Bool) (one : Argument) (rest : List Argument) (number : ℕ) (more : Option ℕ) → one.number ≡ number → take 1 (named_twice rest) ≡ held (option_map refused.FamilyTwice more)
    → take 1 (named_twice (cond b (one ∷ []) [] ++ rest)) ≡ held (option_map refused.FamilyTwice (cond b (Some number) more))
twice_step true one rest number more e h = ap (λ n. refused.FamilyTwice n ∷ []) e
twice_step false one rest number more e h = h

twices : (number : ℕ) (named : List (List ℕ)) (arguments : List IngestExternalFileArg) (seen : List FileSeen)
    → take 1 (named_twice (repeated named (arguments_from number arguments seen))) ≡ held (option_map refused.FamilyTwice (first_twice number named arguments))
twices number named [] seen = refl
twices number named (argument ∷ arguments) seen =
    twice_step (list_any (same argument.family) named) (first_argument number argument seen) (repeated (argument.family ∷ named) (arguments_from (number + 1) arguments (drop (length argument.files) seen))) number (first_twice (number + 1) (argument.family ∷ named) arguments) refl
    (twices (number + 1) (argument.family ∷ named) arguments (drop (length argument.files) seen))

counted : (number : ℕ) (arguments : List IngestExternalFileArg) (seen : List FileSeen) → length (arguments_from number arguments seen) ≡ length arguments
counted number [] seen = refl
counted number (argument ∷ arguments) seen = omega (arith, counted (number + 1) arguments (drop (length argument.files) seen))

named : (number : ℕ) (arguments : List IngestExternalFileArg) (seen : List FileSeen) → files_named (arguments_from number arguments seen) ≡ names_files (Some arguments)
named number [] seen = refl
named number (argument ∷ arguments) seen =
    sum_by-cons (λ (one : Argument). one.named) (first_argument number argument seen) (arguments_from (number + 1) arguments (drop (length argument.files) seen))
    ∙ ap (λ n. length argument.files + n) (named (number + 1) arguments (drop (length argument.files) seen))
    ∙ sym (sum_by-cons (λ (one : IngestExternalFileArg). length one.files) argument arguments)

abbrev large : List IngestExternalFileArg → Bool
large arguments = nat_lt 64 (length arguments) || nat_lt 1024 (names_files (Some arguments))

many : (arguments : List IngestExternalFileArg) (seen : List FileSeen) → has_too_many (request_of arguments seen) ≡ large arguments
many arguments seen = ap₂ (λ a b. nat_lt 64 a || nat_lt 1024 b) (counted 1 arguments seen) (named 1 arguments seen)

some : (n : ℕ) → nat_le (suc n) 0 ≡ false
some n = grind (arith, nat_tests)

not_empty : (arguments : List IngestExternalFileArg) (seen : List FileSeen) → large arguments ≡ true → nat_le (length (request_of arguments seen)) 0 ≡ false
not_empty [] seen h = absurd (true≢false (sym h))
not_empty (argument ∷ arguments) seen h = some _

-- those of the shape, where there are too many arguments or files
abbrev shape_of : Option ℕ → Option ℕ → List Refusal
shape_of empty twice = (held (option_map refused.NoFiles empty) ++ held (option_map refused.FamilyTwice twice)) ++ refused.TooManyFiles ∷ []

abbrev head_of : Option ℕ → Option ℕ → Refusal
head_of empty twice = unwrap_or (option_map refused.NoFiles empty) (unwrap_or (option_map refused.FamilyTwice twice) refused.TooManyFiles)

abbrev joined : Bool → List Refusal → List Refusal → Bool → List Refusal
joined empty without twice many = ((refused_if empty refused.EmptyRequest ++ without) ++ twice) ++ refused_if many refused.TooManyFiles

shape_is : (arguments : List IngestExternalFileArg) (seen : List FileSeen) → large arguments ≡ true → shape_refusals (request_of arguments seen) ≡ shape_of (first_empty 1 arguments) (first_twice 1 [] arguments)
shape_is arguments seen h =
    let without = take 1 (without_files (filter has_no_files (request_of arguments seen))) in
    let twice = take 1 (named_twice (repeated [] (request_of arguments seen))) in
    let without_is = held (option_map refused.NoFiles (first_empty 1 arguments)) in
    ap (λ empty. joined empty without twice (has_too_many (request_of arguments seen))) (not_empty arguments seen h)
    ∙ ap (λ all. joined false all twice (has_too_many (request_of arguments seen))) (empties 1 arguments seen)
    ∙ ap (λ all. joined false without_is all (has_too_many (request_of arguments seen))) (twices 1 [] arguments seen)
    ∙ ap (λ many. joined false without_is (held (option_map refused.FamilyTwice (first_twice 1 [] arguments))) many) (many arguments seen ∙ h)

or_shape : (empty twice : Option ℕ) (others : List Refusal) → refusals_or (shape_of empty twice) others ≡ shape_of empty twice
or_shape None None others = refl
or_shape None (Some m) others = refl
or_shape (Some n) None others = refl
or_shape (Some n) (Some m) others = refl

exact_is : (state : ModelState) (arguments : List IngestExternalFileArg) (seen : List FileSeen) → large arguments ≡ true
    → exact_refusals state (request_of arguments seen) ≡ shape_of (first_empty 1 arguments) (first_twice 1 [] arguments)
exact_is state arguments seen h =
    ap (λ shape. refusals_or shape (inner_refusals state (request_of arguments seen))) (shape_is arguments seen h)
    ∙ or_shape (first_empty 1 arguments) (first_twice 1 [] arguments) (inner_refusals state (request_of arguments seen))

-- ---- the first of them

among : {X : Type 0} (x y : X) (ys : List X) → Contains (y ∷ ys) x → (y ≡ x) ⊎ Contains ys x
among x y ys (zero, l, e) = inl e
among x y ys (suc k, l, e) = inr (k, omega (arith, l), e)

none : {X : Type 0} (x : X) → Contains [] x → ⊥
none x (k, l, e) = omega (arith, l)

abbrev IsNotBehind : Refusal → Refusal → Type 0
IsNotBehind refusal other = IsTrue (not (below (step_of other) (step_of refusal)))

-- a refusal behind another one isn't the first
later : (first other refusal : Refusal) → other ≡ refusal → below (step_of first) (step_of other) ≡ true → IsNotBehind refusal first → refusal ≡ first
later first other refusal e l h =
    absurd (true≢false (sym h ∙ ap not (ap (λ one. below (step_of first) (step_of one)) (sym e) ∙ l)))

chosen : (empty twice : Option ℕ) (sure : List Refusal) (refusal : Refusal) → IsFirstRefusal (shape_of empty twice ++ sure) refusal → Contains (shape_of empty twice) refusal → refusal ≡ head_of empty twice
chosen None None sure refusal first h =
    elim (among refusal refused.TooManyFiles [] h) [ inl e ↦ sym e | inr more ↦ absurd (none refusal more) ]
chosen None (Some m) sure refusal first h =
    elim (among refusal (refused.FamilyTwice m) (refused.TooManyFiles ∷ []) h) [
      | inl e ↦ sym e
      | inr more ↦ elim (among refusal refused.TooManyFiles [] more) [
        | inl e ↦ later (refused.FamilyTwice m) refused.TooManyFiles refusal e refl first.0
        | inr end ↦ absurd (none refusal end)
      ]
    ]
chosen (Some n) None sure refusal first h =
    elim (among refusal (refused.NoFiles n) (refused.TooManyFiles ∷ []) h) [
      | inl e ↦ sym e
      | inr more ↦ elim (among refusal refused.TooManyFiles [] more) [
        | inl e ↦ later (refused.NoFiles n) refused.TooManyFiles refusal e refl first.0
        | inr end ↦ absurd (none refusal end)
      ]
    ]
chosen (Some n) (Some m) sure refusal first h =
    elim (among refusal (refused.NoFiles n) (refused.FamilyTwice m ∷ refused.TooManyFiles ∷ []) h) [
      | inl e ↦ sym e
      | inr more ↦ elim (among refusal (refused.FamilyTwice m) (refused.TooManyFiles ∷ []) more) [
        | inl e ↦ later (refused.NoFiles n) (refused.FamilyTwice m) refusal e refl first.0
        | inr end ↦ elim (among refusal refused.TooManyFiles [] end) [
          | inl e ↦ later (refused.NoFiles n) refused.TooManyFiles refusal e refl first.0
          | inr over ↦ absurd (none refusal over)
        ]
      ]
    ]

-- what comes first isn't behind the limits
early : (empty twice : Option ℕ) (sure : List Refusal) (refusal : Refusal) → IsFirstRefusal (shape_of empty twice ++ sure) refusal → IsNotBehind refusal refused.TooManyFiles
early None None sure refusal first = first.0
early None (Some m) sure refusal first = first.1.0
early (Some n) None sure refusal first = first.1.0
early (Some n) (Some m) sure refusal first = first.1.1.0

-- so it is one of the shape
of_shape : (state : ModelState) (capacity : ℕ) (request : List Argument) (refusal : Refusal) → IsNotBehind refusal refused.TooManyFiles → MayRefuse state capacity request refusal → Contains (exact_refusals state request) refusal
of_shape state capacity request refused.EmptyRequest l h = h
of_shape state capacity request (refused.NoFiles argument) l h = h
of_shape state capacity request (refused.FamilyTwice argument) l h = h
of_shape state capacity request refused.TooManyFiles l h = h
of_shape state capacity request (refused.FileMissing at) l h = absurd (true≢false (sym l))
of_shape state capacity request (refused.InputFault at) l h = absurd (true≢false (sym l))
of_shape state capacity request (refused.BadTable at fault) l h = absurd (true≢false (sym l))
of_shape state capacity request (refused.NoEntry at) l h = absurd (true≢false (sym l))
of_shape state capacity request (refused.FilesMeet at file) l h = absurd (true≢false (sym l))
of_shape state capacity request refused.Stopped l h = absurd (true≢false (sym l))
of_shape state capacity request (refused.UnknownFamily name) l h = absurd (true≢false (sym l))
of_shape state capacity request (refused.BehindNotEnabled argument) l h = absurd (true≢false (sym l))
of_shape state capacity request (refused.SnapshotsLive argument number) l h = absurd (true≢false (sym l))
of_shape state capacity request (refused.FlushNeeded at key) l h = absurd (true≢false (sym l))
of_shape state capacity request (refused.BehindDoesNotFit at range) l h = absurd (true≢false (sym l))
of_shape state capacity request (refused.NeedsSequence at why) l h = absurd (true≢false (sym l))
of_shape state capacity request (refused.NotLastLevel at level why) l h = absurd (true≢false (sym l))
of_shape state capacity request refused.NumbersSpent l h = absurd (true≢false (sym l))
of_shape state capacity request refused.StoreFull l h = absurd (true≢false (sym l))
of_shape state capacity request refused.DiskFault l h = absurd (true≢false (sym l))
of_shape state capacity request (refused.FamilyExists name) l h = absurd (true≢false (sym l))
of_shape state capacity request refused.DefaultStays l h = absurd (true≢false (sym l))
of_shape state capacity request refused.FamiliesFull l h = absurd (true≢false (sym l))
of_shape state capacity request refused.SnapshotsFull l h = absurd (true≢false (sym l))
of_shape state capacity request (refused.SnapshotGone id) l h = absurd (true≢false (sym l))
of_shape state capacity request refused.OutOfMemory l h = absurd (true≢false (sym l))

-- ---- the other way round

each_append : (P : Refusal → Type 0) (xs ys : List Refusal) → Each P xs → Each P ys → Each P (xs ++ ys)
each_append P [] ys a b = b
each_append P (x ∷ xs) ys a b = (a.0, each_append P xs ys a.1 b)

sure_behind : (refusal : Refusal) → IsTrue (not (below (16 ∷ []) (step_of refusal))) → IsTrue (not (below (18 ∷ []) (step_of refusal)))
    → (cause : Option (FileAt × Why)) (spent : Bool) → Each (IsNotBehind refusal) (needs_sequence cause ++ refused_if spent refused.NumbersSpent)
sure_behind refusal a b None true = (b, tt)
sure_behind refusal a b None false = tt
sure_behind refusal a b (Some cause) true = (a, (b, tt))
sure_behind refusal a b (Some cause) false = (a, tt)

head_first : (empty twice : Option ℕ) (cause : Option (FileAt × Why)) (spent : Bool) → IsFirstRefusal (shape_of empty twice ++ (needs_sequence cause ++ refused_if spent refused.NumbersSpent)) (head_of empty twice)
head_first None None cause spent =
    each_append (IsNotBehind refused.TooManyFiles) (shape_of None None) _ (refl, tt) (sure_behind refused.TooManyFiles refl refl cause spent)
head_first None (Some m) cause spent =
    each_append (IsNotBehind (refused.FamilyTwice m)) (shape_of None (Some m)) _ (refl, (refl, tt)) (sure_behind (refused.FamilyTwice m) refl refl cause spent)
head_first (Some n) None cause spent =
    each_append (IsNotBehind (refused.NoFiles n)) (shape_of (Some n) None) _ (refl, (refl, tt)) (sure_behind (refused.NoFiles n) refl refl cause spent)
head_first (Some n) (Some m) cause spent =
    each_append (IsNotBehind (refused.NoFiles n)) (shape_of (Some n) (Some m)) _ (refl, (refl, (refl, tt))) (sure_behind (refused.NoFiles n) refl refl cause spent)

head_may : (state : ModelState) (capacity : ℕ) (request : List Argument) (empty twice : Option ℕ) → exact_refusals state request ≡ shape_of empty twice → MayRefuse state capacity request (head_of empty twice)
head_may state capacity request None None e = subst (λ (all : List Refusal). Contains all refused.TooManyFiles) (sym e) (0, omega arith, refl)
head_may state capacity request None (Some m) e = subst (λ (all : List Refusal). Contains all (refused.FamilyTwice m)) (sym e) (0, omega arith, refl)
head_may state capacity request (Some n) None e = subst (λ (all : List Refusal). Contains all (refused.NoFiles n)) (sym e) (0, omega arith, refl)
head_may state capacity request (Some n) (Some m) e = subst (λ (all : List Refusal). Contains all (refused.NoFiles n)) (sym e) (0, omega arith, refl)

-- ---- both

refused_so : (state : ModelState) (capacity : ℕ) (request : List Argument) (empty twice : Option ℕ) (refusal : Refusal) → exact_refusals state request ≡ shape_of empty twice
    → IsIngestReply state capacity request (reply.Refused refusal) → refusal ≡ head_of empty twice
refused_so state capacity request empty twice refusal e h =
    let first : IsFirstRefusal (shape_of empty twice ++ sure_refusals state request) refusal =
    subst (λ (all : List Refusal). IsFirstRefusal (all ++ sure_refusals state request) refusal) e h.1 in
    chosen empty twice (sure_refusals state request) refusal first
    (subst (λ (all : List Refusal). Contains all refusal) e (of_shape state capacity request refusal (early empty twice (sure_refusals state request) refusal first) h.0))

so_refused : (state : ModelState) (capacity : ℕ) (request : List Argument) (empty twice : Option ℕ) → exact_refusals state request ≡ shape_of empty twice
    → IsIngestReply state capacity request (reply.Refused (head_of empty twice))
so_refused state capacity request empty twice e = (
  head_may state capacity request empty twice e,
  subst (λ (all : List Refusal). IsFirstRefusal (all ++ sure_refusals state request) (head_of empty twice)) (sym e)
      (head_first empty twice (first_refused state request) (nat_le greatest_number state.place)),
)

full : (x : Refusal) (xs : List Refusal) → x ∷ xs ≡ [] → ⊥
full x xs e = cc

placed_never : (state : ModelState) (request : List Argument) (empty twice : Option ℕ) → exact_refusals state request ≡ shape_of empty twice → exact_refusals state request ≡ [] → ⊥
placed_never state request None None e f = absurd (full _ _ (sym e ∙ f))
placed_never state request None (Some m) e f = absurd (full _ _ (sym e ∙ f))
placed_never state request (Some n) None e f = absurd (full _ _ (sym e ∙ f))
placed_never state request (Some n) (Some m) e f = absurd (full _ _ (sym e ∙ f))

same_refusal : (one other : Refusal) → reply.Refused one ≡ reply.Refused other → one ≡ other
same_refusal one other e = cc

-- a request that is too large is refused, and only so
pub large_reply : (state : ModelState) (capacity : ℕ) (arguments : List IngestExternalFileArg) (seen : List FileSeen) (answer : Reply) → large arguments ≡ true
    → IsIngestReply state capacity (request_of arguments seen) answer ↔ (answer ≡ reply.Refused (large_refusal arguments))
large_reply state capacity arguments seen (reply.Refused refusal) h =
    let e = exact_is state arguments seen h in (
      (λ is. ap (λ one. reply.Refused one) (refused_so state capacity (request_of arguments seen) (first_empty 1 arguments) (first_twice 1 [] arguments) refusal e is)),
      (λ is.
          subst (λ (one : Refusal). IsIngestReply state capacity (request_of arguments seen) (reply.Refused one)) (sym (same_refusal refusal (large_refusal arguments) is))
          (so_refused state capacity (request_of arguments seen) (first_empty 1 arguments) (first_twice 1 [] arguments) e)),
    )
large_reply state capacity arguments seen (reply.Ingested placed) h = (
  (λ is. absurd (placed_never state (request_of arguments seen) (first_empty 1 arguments) (first_twice 1 [] arguments) (exact_is state arguments seen h) is.unrefused)),
  (λ is. cc),
)
large_reply state capacity arguments seen (reply.Written number) h = ((λ is. absurd is), (λ is. cc))
large_reply state capacity arguments seen (reply.Found value) h = ((λ is. absurd is), (λ is. cc))
large_reply state capacity arguments seen reply.Nothing h = ((λ is. absurd is), (λ is. cc))
large_reply state capacity arguments seen (reply.View values) h = ((λ is. absurd is), (λ is. cc))
large_reply state capacity arguments seen (reply.Pairs pairs) h = ((λ is. absurd is), (λ is. cc))
large_reply state capacity arguments seen (reply.Snapshot number) h = ((λ is. absurd is), (λ is. cc))
large_reply state capacity arguments seen reply.Released h = ((λ is. absurd is), (λ is. cc))
large_reply state capacity arguments seen reply.Made h = ((λ is. absurd is), (λ is. cc))
large_reply state capacity arguments seen reply.Dropped h = ((λ is. absurd is), (λ is. cc))
large_reply state capacity arguments seen reply.Flushed h = ((λ is. absurd is), (λ is. cc))
large_reply state capacity arguments seen reply.Compacted h = ((λ is. absurd is), (λ is. cc))
large_reply state capacity arguments seen reply.Await h = ((λ is. absurd is), (λ is. cc))
large_reply state capacity arguments seen reply.Long h = ((λ is. absurd is), (λ is. cc))

-- ---- a request that isn't too large

or_parts : (a b : Bool) → (a || b) ≡ false → (a ≡ false) × (b ≡ false)
or_parts true b e = absurd (true≢false e)
or_parts false b e = (refl, e)

at_most_there : (m n : ℕ) → nat_lt m n ≡ false → n ≤ m
at_most_there m n h = grind (arith, nat_tests, h)

pub few_arguments : (m n : ℕ) → (nat_lt 64 m || nat_lt 1024 n) ≡ false → m ≤ 64
few_arguments m n h = at_most_there 64 m (or_parts _ _ h).0

pub few_files : (m n : ℕ) → (nat_lt 64 m || nat_lt 1024 n) ≡ false → n ≤ 1024
few_files m n h = at_most_there 1024 n (or_parts _ _ h).1
