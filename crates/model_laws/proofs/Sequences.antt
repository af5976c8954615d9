-- A file that nothing stands in the way of is never named as one that needs a number.
use Rattle.std.proofs.Common.{◌≡◌, ℕ, ◌+◌, ◌≤◌, Bool, true, false, cond, not, ◌&&◌, ◌||◌, ◌==◌, nat_lt, nat_le, List, [], ◌∷◌, Option, Some, None, is_some, refl, sym, ap, subst, ◌∙◌, drop, length, take, arith, IsTrue, IsFalse, IsSomeAnd, unwrap_or}
use Rattle.std.specs.List.{list_any}
use Rattle.std.specs.Option.{option_and_then, option_map, option_or}
use Rattle.std.proofs.lemmas.Bool.{and_from, and_parts, false≢true}
use Rattle.std.proofs.lemmas.Bool.Decides.{nat_tests}
use Rattle.st_base.specs.Bytes.{at_most, same}
use Rattle.st_base.specs.Range.{is_in_range, meet}
use Rattle.st_base.specs.declared.entry.KeyRange.{KeyRange}
use Rattle.st_base.proofs.Same.{same_true}
use Rattle.st_model.specs.declared.command.FileSeen.{FileSeen}
use Rattle.st_model.specs.declared.refusal.FileAt.{FileAt}
use Rattle.st_model.specs.declared.refusal.Why.{Why}
use Rattle.st_model.specs.declared.refusal.Why.TheVariants as why
use Rattle.st_model.specs.declared.request.IngestExternalFileArg.{IngestExternalFileArg}
use Rattle.st_model.specs.declared.state.ModelFamily.{ModelFamily}
use Rattle.st_model.specs.declared.state.ModelState.{ModelState}
use Rattle.st_model.specs.Early.{is_empty}
use Rattle.st_model.specs.Placing.{is_among_known}
use Rattle.st_model.specs.Refusals.{MayNeedSequence, first_refused, is_in, is_known_range, keeps_snapshots, known_in, lowest_live, may_need_number, named_file, names_known, refused_cause, sure_cause}
use Rattle.st_model.specs.Request.{Argument, File, argument_of, arguments_from, asks_behind, file_of_argument, meeting, range_of_file, request_of}
use Rattle.st_model.specs.State.{family_of}
use Rattle.base_laws.proofs.Ranges.{within_parts}
use Rattle.model_laws.specs.Claims.{IsUncaused, NeedsNoSequence}

-- ---- no sure cause

no_cause : (met : Option (ℕ × ℕ)) (seen : Bool) (number : ℕ) → met ≡ None → seen ≡ true
    → option_or (option_map (λ (pair : ℕ × ℕ). why.Files pair.0 pair.1) met) (cond seen None (Some (why.Snapshot number))) ≡ None
no_cause met seen number e f =
    ap (λ (m : Option (ℕ × ℕ)). option_or (option_map (λ (pair : ℕ × ℕ). why.Files pair.0 pair.1) m) (cond seen None (Some (why.Snapshot number)))) e
    ∙ ap (λ b. cond b None (Some (why.Snapshot number))) f

unsure : (state : ModelState) (argument : Argument) (file : File) → IsUncaused state argument file → sure_cause state argument ≡ None
unsure state argument file h = no_cause (meeting argument) (is_empty state.live || not (keeps_snapshots argument)) (lowest_live state) h.apart h.unseen

-- ---- the argument that is named first

-- what the first refused argument is
record IsFirstNamed (state : ModelState) (request : List Argument) (a : ℕ) (at : FileAt) : Type 0 where
  pub argument : Argument
  pub found : argument_of request at.arg ≡ Some argument
  pub number : a ≤ at.arg
  pub sure : is_some (sure_cause state argument) ≡ true

cause_of : (state : ModelState) (argument : Argument) (at : FileAt) (cause : Why) → refused_cause state argument ≡ Some (at, cause) → (at.arg ≡ argument.number) × (is_some (sure_cause state argument) ≡ true)
cause_of state argument at cause e = by_options (asks_behind argument || argument.options.allow_global_seqno) e
  where
    by_cause : (found : Option Why) → let named : FileAt = record { arg = argument.number; file = 1 } in let pair : Why → FileAt × Why = λ one. (named, one) in option_map pair found ≡ Some (at, cause) → (at.arg ≡ argument.number) × (is_some found ≡ true)
    by_cause None e = absurd (false≢true (ap is_some e))
    by_cause (Some one) e = (sym (ap number_of e), refl)
      where
        number_of : Option (FileAt × Why) → ℕ
        number_of None = 0
        number_of (Some (one, other)) = one.arg

    by_options : (b : Bool) → let named : FileAt = record { arg = argument.number; file = 1 } in let pair : Why → FileAt × Why = λ one. (named, one) in cond b None (option_map pair (sure_cause state argument)) ≡ Some (at, cause)
        → (at.arg ≡ argument.number) × (is_some (sure_cause state argument) ≡ true)
    by_options true e = absurd (false≢true (ap is_some e))
    by_options false e = by_cause (sure_cause state argument) e

itself : (n : ℕ) → (n == n) ≡ true
itself n = grind (arith, nat_tests)

other : (m n : ℕ) → m + 1 ≤ n → (m == n) ≡ false
other m n l = grind (arith, nat_tests, l)

first_named : (state : ModelState) (a : ℕ) (arguments : List IngestExternalFileArg) (seen : List FileSeen) (at : FileAt) (cause : Why) → first_refused state (arguments_from a arguments seen) ≡ Some (at, cause)
    → IsFirstNamed state (arguments_from a arguments seen) a at
first_named state a [] seen at cause e = absurd (false≢true (ap is_some e))
first_named state a (argument ∷ arguments) seen at cause e =
    let rest : List Argument = arguments_from (a + 1) arguments (drop (length argument.files) seen) in
    by_first rest (refused_cause state (one_of (arguments_from a (argument ∷ arguments) seen))) refl e (first_named state (a + 1) arguments (drop (length argument.files) seen) at cause)
  where
    one_of : List Argument → Argument
    one_of [] = record { number = 0; family = []; options = argument.options; named = 0; files = [] }
    one_of (one ∷ more) = one

    here : Argument
    here = one_of (arguments_from a (argument ∷ arguments) seen)

    by_first : (rest : List Argument) (found : Option (FileAt × Why)) → refused_cause state here ≡ found → option_or found (first_refused state rest) ≡ Some (at, cause)
        → (first_refused state rest ≡ Some (at, cause) → IsFirstNamed state rest (a + 1) at) → IsFirstNamed state (here ∷ rest) a at
    by_first rest (Some (one, why)) is e more =
        let same : refused_cause state here ≡ Some (at, cause) = is ∙ e in
        let parts = cause_of state here at cause same in
        let number : at.arg ≡ a = parts.0 in
        record {
          argument = here;
          found = ap (λ n. argument_of (here ∷ rest) n) number ∙ ap (λ b. cond b (Some here) (argument_of rest a)) (itself a);
          number = omega (arith, number);
          sure = parts.1;
        }
    by_first rest None is e more =
        let next = more e in
        record {
          argument = next.argument;
          found = ap (λ b. cond b (Some here) (argument_of rest at.arg)) (other a at.arg next.number) ∙ next.found;
          number = omega (arith, next.number);
          sure = next.sure;
        }

-- the argument of a named file is the one of its number
named_argument : (found : Option Argument) (at : FileAt) (named : Argument × File) → option_and_then (λ (argument : Argument). option_map (λ (file : File). (argument, file)) (file_of_argument argument at.file)) found ≡ Some named → found ≡ Some named.0
named_argument None at named e = absurd (false≢true (ap is_some e))
named_argument (Some argument) at named e = by_file (file_of_argument argument at.file) e
  where
    by_file : (file : Option File) → option_map (λ (one : File). (argument, one)) file ≡ Some named → Some argument ≡ Some named.0
    by_file None e = absurd (false≢true (ap is_some e))
    by_file (Some file) e = ap (option_map (λ (pair : Argument × File). pair.0)) e

not_first : (state : ModelState) (arguments : List IngestExternalFileArg) (seen : List FileSeen) (at : FileAt) (cause : Why) (named : Argument × File) → named_file (request_of arguments seen) at ≡ Some named → sure_cause state named.0 ≡ None
    → first_refused state (request_of arguments seen) ≡ Some (at, cause) → ⊥
not_first state arguments seen at cause named there none e =
    let first = first_named state 1 arguments seen at cause e in
    let same : Some first.argument ≡ Some named.0 = sym first.found ∙ named_argument (argument_of (request_of arguments seen) at.arg) at named there in
    false≢true (sym (ap (λ (found : Option Argument). is_some (option_and_then (sure_cause state) found)) same ∙ ap is_some none) ∙ first.sure)

-- ---- no known key on both sides

known_passes : (test : List ℕ → Bool) (keys : List (List ℕ)) (key : List ℕ) → is_in keys key ≡ true → test key ≡ true → list_any test keys ≡ true
known_passes test [] key here holds = absurd (false≢true here)
known_passes test (one ∷ keys) key here holds = go (same key one) refl here (known_passes test keys key)
  where
    go : (b : Bool) → same key one ≡ b → (b || is_in keys key) ≡ true → (is_in keys key ≡ true → test key ≡ true → list_any test keys ≡ true) → (test one || list_any test keys) ≡ true
    go true e here rest = ap (λ b. b || list_any test keys) (ap test (sym (same_true key one e)) ∙ holds)
    go false e here rest = or_right (test one) (rest here holds)
      where
        or_right : (a : Bool) → list_any test keys ≡ true → (a || list_any test keys) ≡ true
        or_right true r = refl
        or_right false r = r

among_by : (family : ModelFamily) (range : KeyRange) (low high : List ℕ) → is_in family.known low ≡ true → is_in family.known high ≡ true → at_most low range.last ≡ true → at_most range.first high ≡ true → is_among_known family range ≡ true
among_by family range low high one two before after =
    and_from (list_any (λ known. at_most known range.last) family.known) (list_any (at_most range.first) family.known)
    (known_passes (λ known. at_most known range.last) family.known low one before) (known_passes (at_most range.first) family.known high two after)

key_among : (family : ModelFamily) (key : List ℕ) (file : File) → names_known family.known (why.Key key) file ≡ true → is_among_known family (range_of_file file) ≡ true
key_among family key file h =
    let parts = and_parts (is_in family.known key) (is_in_range (range_of_file file) key) h in
    let ends = within_parts (range_of_file file) key parts.1 in
    among_by family (range_of_file file) key key parts.0 parts.0 ends.1 ends.0

range_among : (family : ModelFamily) (range : KeyRange) (file : File) → is_known_range family.known range file ≡ true → is_among_known family (range_of_file file) ≡ true
range_among family range file h =
    let a = and_parts (is_in family.known range.first && is_in family.known range.last && at_most range.first range.last) (meet range (range_of_file file)) h in
    let b = and_parts (is_in family.known range.first && is_in family.known range.last) (at_most range.first range.last) a.0 in
    let c = and_parts (is_in family.known range.first) (is_in family.known range.last) b.0 in
    let d = and_parts (at_most range.first (range_of_file file).last) (at_most (range_of_file file).first range.last) a.1 in
    among_by family (range_of_file file) range.first range.last c.0 c.1 d.0 d.1

-- a key in the file's way would be known and lie on both its sides
not_known : (state : ModelState) (argument : Argument) (file : File) (cause : Why) → IsUncaused state argument file → ((family : ModelFamily) → names_known family.known cause file ≡ true → is_among_known family (range_of_file file) ≡ true)
    → names_known [] cause file ≡ false → may_need_number state cause (argument, file) ≡ true → ⊥
not_known state argument file cause h among none may =
    let a = and_parts (not (asks_behind argument) && not argument.options.allow_global_seqno) (names_known (known_in state argument.family) cause file) may in
    by_family (family_of state argument.family) h.unknown a.1
  where
    by_family : (found : Option ModelFamily) → ((family : ModelFamily) → found ≡ Some family → IsFalse (is_among_known family (range_of_file file)))
        → names_known (unwrap_or (option_map (λ (family : ModelFamily). family.known) found) []) cause file ≡ true → ⊥
    by_family None unknown names = false≢true (sym none ∙ names)
    by_family (Some family) unknown names = false≢true (sym (unknown family refl) ∙ among family names)

-- a file that is named, where a fact holds of it
at_named : (found : Option (Argument × File)) (named : Argument × File) (P : Argument × File → Type 0) → found ≡ Some named → IsSomeAnd found P → P named
at_named None named P e h = absurd h
at_named (Some one) named P e h = subst P (ap (λ (o : Option (Argument × File)). unwrap_or o named) e) h

pub needs_no_sequence : NeedsNoSequence
needs_no_sequence state capacity arguments seen at (why.Files i j) named there free may =
    not_first state arguments seen at (why.Files i j) named there (unsure state named.0 named.1 free) may.0
needs_no_sequence state capacity arguments seen at (why.Snapshot number) named there free may =
    not_first state arguments seen at (why.Snapshot number) named there (unsure state named.0 named.1 free) may.0
needs_no_sequence state capacity arguments seen at (why.Key key) named there free may =
    not_known state named.0 named.1 (why.Key key) free (λ family h. key_among family key named.1 h) refl
    (at_named (named_file (request_of arguments seen) at) named (λ one. IsTrue (may_need_number state (why.Key key) one)) there may.0.1)
needs_no_sequence state capacity arguments seen at (why.Running range) named there free may =
    not_known state named.0 named.1 (why.Running range) free (λ family h. range_among family range named.1 h) refl
    (at_named (named_file (request_of arguments seen) at) named (λ one. IsTrue (may_need_number state (why.Running range) one)) there may.0.1)
needs_no_sequence state capacity arguments seen at (why.Meets range) named there free may = may.0
