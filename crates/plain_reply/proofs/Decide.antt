-- The tests decide the relations.
use Rattle.std.proofs.Common.{arith, zero, suc, ◌≡◌, ℕ, ◌+◌, ◌<◌, ◌≤◌, Bool, true, false, not, ◌&&◌, ◌||◌, ◌==◌, nat_lt, nat_le, List, [], ◌∷◌, map, length, take, drop, cond, Option, Some, None, is_some, refl, sym, IsTrue, IsFalse, IsSomeAnd, MatchBool}
use Rattle.std.specs.Bool.{Decides}
use Rattle.std.specs.List.{AllZip, AllByRecursion as Each, list_all}
use Rattle.std.proofs.lemmas.Bool.{and_parts, true≢false}
use Rattle.std.proofs.lemmas.Bool.Decides.{Decides-eqb, Decides-and, Decides-like, nat_tests}
use Rattle.st_base.specs.Bytes.{below}
use Rattle.st_base.specs.Range.{keys_of}
use Rattle.st_base.specs.declared.entry.Entry.{Entry}
use Rattle.st_model.specs.declared.refusal.Refusal.{Refusal}
use Rattle.st_model.specs.declared.reply.Placed.{Placed}
use Rattle.st_model.specs.declared.request.IngestExternalFileOptions.{IngestExternalFileOptions}
use Rattle.st_model.specs.declared.state.ModelFamily.{ModelFamily}
use Rattle.st_model.specs.declared.state.ModelState.{ModelState}
use Rattle.st_model.specs.Early.{is_empty, read_numbers, MayBeEarly}
use Rattle.st_model.specs.Placing.{IsPlacedBehind, IsPlacedFile, AreNext, IsPlacedArgument, ArePlaced, numbers_of, last_number_after, is_among_known}
use Rattle.st_model.specs.Read.{read, is_covered}
use Rattle.st_model.specs.Refusals.{step_of, sure_cause, exact_refusals, is_full, IsFirstRefusal}
use Rattle.st_model.specs.Reply.{IsIngested}
use Rattle.st_model.specs.Request.{File, Argument, asks_behind, entries_of_file, range_of_file}
use Rattle.st_model.specs.State.{family_of, lowest, greatest_number}
use Rattle.plain_reply.specs.Tests.{comes_first, reads_none, always_none, may_be_early, placed_behind, placed_number, placed_level, placed_file, zip_all, are_next, placed_in, placed_argument, are_placed, is_ingested}

-- ---- lists

pub each_decides : {X : Type 0} (p : X → Bool) (P : X → Type 0) → ((x : X) → Decides (p x) (P x)) → (xs : List X) → Decides (list_all p xs) (Each P xs)
each_decides p P d [] = ((λ h. tt), (λ h. refl))
each_decides p P d (x ∷ xs) = Decides-and (p x) (list_all p xs) (d x) (each_decides p P d xs)

pub each_map_decides : {X Y : Type 0} (f : X → Y) (p : X → Bool) (P : Y → Type 0) → ((x : X) → Decides (p x) (P (f x))) → (xs : List X) → Decides (list_all p xs) (Each P (map f xs))
each_map_decides f p P d [] = ((λ h. tt), (λ h. refl))
each_map_decides f p P d (x ∷ xs) = Decides-and (p x) (list_all p xs) (d x) (each_map_decides f p P d xs)

pub zip_decides : {X Y : Type 0} (p : X → Y → Bool) (P : X → Y → Type 0) → ((x : X) (y : Y) → Decides (p x y) (P x y)) → (xs : List X) (ys : List Y) → Decides (zip_all p xs ys) (AllZip P xs ys)
zip_decides p P d [] [] = ((λ h. tt), (λ h. refl))
zip_decides p P d [] (y ∷ ys) = ((λ h. absurd (true≢false (sym h))), (λ h. absurd h))
zip_decides p P d (x ∷ xs) [] = ((λ h. absurd (true≢false (sym h))), (λ h. absurd h))
zip_decides p P d (x ∷ xs) (y ∷ ys) = Decides-and (p x y) (zip_all p xs ys) (d x y) (zip_decides p P d xs ys)

-- ---- truth values

pub true_decides : (b : Bool) → Decides b (IsTrue b)
true_decides true = ((λ h. refl), (λ h. refl))
true_decides false = ((λ h. h), (λ h. h))

pub not_decides : (b : Bool) → Decides (not b) (IsFalse b)
not_decides true = ((λ h. absurd (true≢false (sym h))), (λ h. absurd (true≢false h)))
not_decides false = ((λ h. refl), (λ h. refl))

pub implies_decides : (b c : Bool) (P : Type 0) → Decides c P → Decides (not b || c) (IsTrue b → P)
implies_decides true c P d = ((λ h t. d.0 h), (λ f. d.1 (f refl)))
implies_decides false c P d = ((λ h t. absurd (true≢false (sym t))), (λ f. refl))

pub le_decides : (m n : ℕ) → Decides (nat_le m n) (m ≤ n)
le_decides m n = ((λ h. grind (arith, nat_tests, h)), (λ h. grind (arith, nat_tests, h)))

pub lt_decides : (m n : ℕ) → Decides (nat_lt m n) (m < n)
lt_decides m n = ((λ h. grind (arith, nat_tests, h)), (λ h. grind (arith, nat_tests, h)))

pub nil_decides : {X : Type 0} (xs : List X) → Decides (nat_le (length xs) 0) (xs ≡ [])
nil_decides [] = ((λ h. refl), (λ h. refl))
nil_decides (x ∷ xs) = ((λ h. grind (arith, nat_tests, h)), (λ h. cc))

-- ---- refusals

pub first_decides : (holding : List Refusal) (refusal : Refusal) → Decides (comes_first holding refusal) (IsFirstRefusal holding refusal)
first_decides holding refusal =
    each_decides (λ other. not (below (step_of other) (step_of refusal))) (λ other. IsTrue (not (below (step_of other) (step_of refusal))))
    (λ other. true_decides (not (below (step_of other) (step_of refusal)))) holding

-- ---- the sequence number 0

none_decides : (value : Option (List ℕ)) → Decides (not (is_some value)) (value ≡ None)
none_decides None = ((λ h. refl), (λ h. refl))
none_decides (Some value) = ((λ h. absurd (true≢false (sym h))), (λ h. cc))

always_decides : (state : ModelState) (family : ModelFamily) (key : List ℕ) → Decides (always_none state family key) (Each (λ number. read family number key ≡ None) (read_numbers state))
always_decides state family key =
    Decides-and (reads_none family state.last key) (list_all (λ live. reads_none family live.number key) state.live) (none_decides (read family state.last key))
    (each_map_decides (λ live. live.number) (λ live. reads_none family live.number key) (λ number. read family number key ≡ None) (λ live. none_decides (read family live.number key)) state.live)

pub early_decides : (state : ModelState) (family : ModelFamily) (entries : List Entry) (options : IngestExternalFileOptions) → Decides (may_be_early state family entries options) (MayBeEarly state family entries options)
early_decides state family entries options =
    Decides-like (may_be_early state family entries options)
    (λ all. record { snapshots = all.0; reads_none = all.1.0; uncovered = all.1.1 })
    (λ is. (is.snapshots, (is.reads_none, is.uncovered)))
    (Decides-and (is_empty state.live || not options.snapshot_consistency) _ (true_decides (is_empty state.live || not options.snapshot_consistency))
    (Decides-and (list_all (λ entry. always_none state family entry.key) entries) _
    (each_map_decides (λ entry. entry.key) (λ entry. always_none state family entry.key) (λ key. Each (λ number. read family number key ≡ None) (read_numbers state)) (λ entry. always_decides state family entry.key) entries)
    (implies_decides state.behind (list_all (λ entry. not (is_covered family entry.key)) entries) (Each (λ key. IsFalse (is_covered family key)) (keys_of entries))
    (each_map_decides (λ entry. entry.key) (λ entry. not (is_covered family entry.key)) (λ key. IsFalse (is_covered family key)) (λ entry. not_decides (is_covered family entry.key)) entries))))

-- ---- placing

pub behind_decides : (file : File) (placed : Placed) → Decides (placed_behind file placed) (IsPlacedBehind file placed)
behind_decides file placed =
    Decides-like (placed_behind file placed) (λ both. record { level = both.0; number = both.1 }) (λ is. (is.level, is.number))
    (Decides-and (placed.level == 6) (placed.number == 0) (Decides-eqb placed.level 6) (Decides-eqb placed.number 0))

record IsNumbered (n : ℕ) (a b c : Bool) (E : Type 0) : Type 0 where
  sure : IsTrue a → 0 < n
  caused : 0 < n → IsTrue (a || b)
  allowed : 0 < n → IsTrue c
  early : n ≡ 0 → E

positive : (n : ℕ) (P : Type 0) → (n ≡ 0 → P) → (P → ⊥) → 0 < n
positive zero P f g = absurd (g (f refl))
positive (suc n) P f g = omega arith

numbered : (n : ℕ) (z a b c early : Bool) (E : Type 0) → Decides z (n ≡ 0) → Decides early E → Decides (cond z (not a && early) ((a || b) && c)) (IsNumbered n a b c E)
numbered n true true b c early E z d = let none : n ≡ 0 = z.0 refl in ((λ h. absurd (true≢false (sym h))), (λ is. absurd (let some : 0 < n = is.sure refl in omega (arith, some, none))))
numbered n true false b c early E z d =
    let none : n ≡ 0 = z.0 refl in (
      (λ h. record { sure = λ t. absurd (true≢false (sym t)); caused = λ l. absurd (omega (arith, l, none)); allowed = λ l. absurd (omega (arith, l, none)); early = λ _. d.0 h }),
      (λ is. d.1 (is.early none)),
    )
numbered n false a b c early E z d =
    let some : 0 < n = positive n (false ≡ true) z.1 (λ e. true≢false (sym e)) in (
      (λ h. let both = and_parts (a || b) c h in record { sure = λ t. some; caused = λ l. both.0; allowed = λ l. both.1; early = λ none. absurd (omega (arith, some, none)) }),
      (λ is. (Decides-and (a || b) c (true_decides (a || b)) (true_decides c)).1 (is.caused some, is.allowed some)),
    )

pub file_decides : (state : ModelState) (family : ModelFamily) (argument : Argument) (file : File) (placed : Placed) → Decides (placed_file state family argument file placed) (IsPlacedFile state family argument file placed)
file_decides state family argument file placed =
    Decides-like (placed_file state family argument file placed)
    (λ all. record { level = all.0.0; bottom = all.0.1; sure = all.1.sure; caused = all.1.caused; allowed = all.1.allowed; early = all.1.early })
    (λ is. ((is.level, is.bottom), record { sure = is.sure; caused = is.caused; allowed = is.allowed; early = is.early }))
    (Decides-and (placed_level state argument placed) (placed_number state family argument file placed)
    (Decides-and (nat_le placed.level (lowest state)) _ (le_decides placed.level (lowest state))
    (implies_decides argument.options.fail_if_not_bottommost_level (placed.level == lowest state) (placed.level ≡ lowest state) (Decides-eqb placed.level (lowest state))))
    (numbered placed.number (placed.number == 0) (is_some (sure_cause state argument)) (is_among_known family (range_of_file file)) argument.options.allow_global_seqno
    (may_be_early state family (entries_of_file file) argument.options) (MayBeEarly state family (entries_of_file file) argument.options)
    (Decides-eqb placed.number 0) (early_decides state family (entries_of_file file) argument.options)))

pub next_decides : (last : ℕ) (numbers : List ℕ) → Decides (are_next last numbers) (AreNext last numbers)
next_decides last [] = ((λ h. tt), (λ h. refl))
next_decides last (number ∷ numbers) = Decides-and (number == last + 1) (are_next number numbers) (Decides-eqb number (last + 1)) (next_decides number numbers)

family_decides : (state : ModelState) (argument : Argument) (placed : List Placed) (family : Option ModelFamily) → Decides (placed_in state argument placed family) (IsSomeAnd family (λ family. AllZip (IsPlacedFile state family argument) argument.files placed))
family_decides state argument placed None = ((λ h. absurd (true≢false (sym h))), (λ h. absurd h))
family_decides state argument placed (Some family) = zip_decides (placed_file state family argument) (IsPlacedFile state family argument) (file_decides state family argument) argument.files placed

which_decides : (b c d : Bool) (P Q : Type 0) → Decides c P → Decides d Q → Decides (cond b c d) (MatchBool b P Q)
which_decides true c d P Q p q = p
which_decides false c d P Q p q = q

pub argument_decides : (state : ModelState) (last : ℕ) (argument : Argument) (placed : List Placed) → Decides (placed_argument state last argument placed) (IsPlacedArgument state last argument placed)
argument_decides state last argument placed =
    which_decides (asks_behind argument) _ _ _ _ (zip_decides placed_behind IsPlacedBehind behind_decides argument.files placed)
    (Decides-and (are_next last (numbers_of placed)) _ (next_decides last (numbers_of placed)) (family_decides state argument placed (family_of state argument.family)))

pub placed_decides : (state : ModelState) (last : ℕ) (request : List Argument) (placed : List Placed) → Decides (are_placed state last request placed) (ArePlaced state last request placed)
placed_decides state last [] placed = nil_decides placed
placed_decides state last (argument ∷ arguments) placed =
    Decides-and (placed_argument state last argument (take (length argument.files) placed)) _ (argument_decides state last argument (take (length argument.files) placed))
    (placed_decides state (last_number_after last (take (length argument.files) placed)) arguments (drop (length argument.files) placed))

pub ingested_decides : (state : ModelState) (capacity : ℕ) (request : List Argument) (placed : List Placed) → Decides (is_ingested state capacity request placed) (IsIngested state capacity request placed)
ingested_decides state capacity request placed =
    Decides-like (is_ingested state capacity request placed)
    (λ all. record { unrefused = all.0; room = all.1.0; place = all.1.1.0; numbers = all.1.1.1.0; placed_rightly = all.1.1.1.1 })
    (λ is. (is.unrefused, (is.room, (is.place, (is.numbers, is.placed_rightly)))))
    (Decides-and (nat_le (length (exact_refusals state request)) 0) _ (nil_decides (exact_refusals state request))
    (Decides-and (not (is_full state capacity request)) _ (not_decides (is_full state capacity request))
    (Decides-and (nat_lt state.place greatest_number) _ (lt_decides state.place greatest_number)
    (Decides-and (nat_le (last_number_after state.last placed) greatest_number) _ (le_decides (last_number_after state.last placed) greatest_number)
    (placed_decides state state.last request placed)))))
