-- What is read of the words of a line is a reply that a transcript can have.
use Rattle.std.proofs.Common.{◌≡◌, ℕ, Bool, true, false, cond, ◌&&◌, ◌<◌, ◌≤◌, ◌+◌, ◌-◌, ◌*◌, ◌^◌, ◌==◌, nat_lt, nat_le, List, [], ◌∷◌, length, IsTrue, refl, subst, arith}
use Rattle.std.specs.Prelude.{⊤, Some, None, Option, Result, Ok, Err, IfOk, codes}
use Rattle.std.specs.List.{AllByRecursion as Each}
use Rattle.std.proofs.lemmas.Bool.{and_parts, ltb-true, leb-true}
use Rattle.st_base.specs.Bytes.{same}
use Rattle.st_base.specs.Names.{is_digit, is_family}
use Rattle.st_base.specs.declared.faults.TableFault.TheVariants as table
use Rattle.st_model.specs.declared.refusal.FileAt.{FileAt}
use Rattle.st_model.specs.declared.refusal.Why.TheVariants as why
use Rattle.st_model.specs.declared.reply.Reply.{Reply}
use Rattle.build_text.specs.Words.{◌>>=◌, bytes_of_word}
use Rattle.build_text.proofs.SpelledBytes.{only_word}
use Rattle.cmd_text.specs.Commands.{Gives, family_of_word, key_of_word, value_of_word, within}
use Rattle.cmd_text.specs.Readings.{Reading, with_digit, with_digits, number_of_word, number_below, next_word, next_number, next_below, next_file, next_key, next_range, next_family_name}
use Rattle.cmd_text.specs.Readings.{plain_fault, counted_fault, block_fault_named, block_fault_of, external_version_of, sum_fault_of, inner_fault_of, kind_fault_of, number_fault_of, long_fault, or_other, fault_of}
use Rattle.cmd_text.specs.Readings.{why_named, why_of, plain_refusal, snapshots_live_of, bad_table_of, not_last_level_of, refusal_at, file_refusal, long_refusal, refusal_of}
use Rattle.cmd_text.specs.Readings.{read_of_word, parts_around, pair_of_word, placed_of_word, each_of, plain_reply, found_reply, long_reply, reply_of, place_and_reply_of}
use Rattle.cmd_text.specs.declared.fault.ParseFault.{ParseFault}
use Rattle.cmd_text.specs.Replies.{IsBlockFault, IsFileAt, IsKey, IsPrinted, IsPrintedPair, IsPrintedPlaced, IsPrintedRead, IsPrintedRefusal, IsRange, IsTableFault, IsValue, IsWhy}

-- what is read has this property, where something is
abbrev Holds : {X : Type 0} → (X → Type 0) → Option X → Type 0
Holds P None = ⊤
Holds P (Some x) = P x

-- of the next words
abbrev HoldsNext : {X : Type 0} → (X → Type 0) → Reading X → Type 0
HoldsNext P reading = Holds (λ one. P one.0) reading

-- ---- steps

module _ {X Y : Type 0} where
  -- a step that follows one
  next_of : (P : X → Type 0) (Q : Y → Type 0) (found : Option X) (next : X → Option Y) → Holds P found → ((x : X) → P x → Holds Q (next x)) → Holds Q (found >>= next)
  next_of P Q None next is goes = tt
  next_of P Q (Some x) next is goes = goes x is

-- one of two
one-of : {X : Type 0} (P : X → Type 0) (b : Bool) (x y : Option X) → Holds P x → Holds P y → Holds P (cond b x y)
one-of P true x y is others = is
one-of P false x y is others = others

other-of : {X : Type 0} (P : X → Type 0) (x y : Option X) → Holds P x → Holds P y → Holds P (or_other x y)
other-of P None y is others = others
other-of P (Some x) y is others = is

-- where the test passes
tested : {X : Type 0} (P : X → Type 0) (b : Bool) (x : X) → (b ≡ true → P x) → Holds P (cond b (Some x) None)
tested P true x is = is refl
tested P false x is = tt

-- what is made of one reader's answer
made : {X Y : Type 0} (P : X → Type 0) (Q : Y → Type 0) (first : Reading X) (make : X → Y) → HoldsNext P first → ((x : X) → P x → Q (make x)) → Holds Q (first >>= λ one. Some (make one.0))
made P Q None make is goes = tt
made P Q (Some one) make is goes = goes one.0 is

-- ---- numbers

abbrev Short : ℕ → Type 0
Short number = number < 2 ^ 32

abbrev Long : ℕ → Type 0
Long number = number < 2 ^ 64

digit-is : (number digit : ℕ) → Holds Long (with_digit number digit)
unfolding with_digit
digit-is number digit =
    tested Long (is_digit digit && nat_lt (10 * number + (digit - 48)) (2 ^ 64)) (10 * number + (digit - 48))
    (λ e. ltb-true (10 * number + (digit - 48)) (2 ^ 64) (and_parts (is_digit digit) (nat_lt (10 * number + (digit - 48)) (2 ^ 64)) e).1)

digits-are : (digits : List ℕ) (number : ℕ) → Long number → Holds Long (with_digits number digits)
digits-are [] number small = small
digits-are (digit ∷ digits) number small =
    next_of Long Long (with_digit number digit) (λ more. with_digits more digits) (digit-is number digit) (λ more h. digits-are digits more h)

number-is : (word : List ℕ) → Holds Long (number_of_word word)
number-is [] = tt
number-is (digit ∷ digits) = digits-are (digit ∷ digits) 0 (omega arith)

below-is : (limit : ℕ) (word : List ℕ) → Holds (λ n. n < limit) (number_below limit word)
unfolding number_below
below-is limit word =
    next_of Long (λ n. n < limit) (number_of_word word) (λ n. cond (nat_lt n limit) (Some n) None) (number-is word)
    (λ n h. tested (λ m. m < limit) (nat_lt n limit) n (λ e. ltb-true n limit e))

-- ---- keys, values and names

within-is : (P : List ℕ → Type 0) (limit : ℕ) (bytes : List ℕ) → (length bytes ≤ limit → P bytes) → Holds P (within limit bytes)
within-is P limit bytes is = tested P (nat_le (length bytes) limit) bytes (λ e. is (leb-true (length bytes) limit e))

word-is : (P : List ℕ → Type 0) (limit : ℕ) (word : List ℕ) → ((bytes : List ℕ) → Each (λ byte. byte < 256) bytes → length bytes ≤ limit → P bytes) → (found : Option (List ℕ)) → bytes_of_word word ≡ found → Holds P (found >>= within limit)
word-is P limit word is None e = tt
word-is P limit word is (Some bytes) e = within-is P limit bytes (λ small. is bytes (only_word word bytes e).1 small)

key-is : (word : List ℕ) → Holds IsKey (key_of_word word)
key-is word = word-is IsKey 65535 word (λ bytes are small. record { bytes = are; within = small }) (bytes_of_word word) refl

value-is : (word : List ℕ) → Holds IsValue (value_of_word word)
value-is word = word-is IsValue 1048576 word (λ bytes are small. record { bytes = are; within = small }) (bytes_of_word word) refl

abbrev IsName : List ℕ → Type 0
IsName name = IsTrue (is_family name)

family-is : (word : List ℕ) → Holds IsName (family_of_word word)
family-is word = tested IsName (is_family word) word (λ e. e)

-- ---- the next words

-- the next word as a reader of one word reads it
first-is : {X : Type 0} (P : X → Type 0) (reading : List ℕ → Option X) (words : List (List ℕ)) → ((word : List ℕ) → Holds P (reading word)) → HoldsNext P (next_word words >>= λ one. reading one.0 >>= λ x. Some (x, one.1))
first-is P reading [] is = tt
first-is P reading (word ∷ words) is = next_of P (λ one. P one.0) (reading word) (λ x. Some (x, words)) (is word) (λ x h. h)

next_number-is : (words : List (List ℕ)) → HoldsNext Long (next_number words)
unfolding next_number
next_number-is words = first-is Long number_of_word words number-is

next_below-is : (limit : ℕ) (words : List (List ℕ)) → HoldsNext (λ n. n < limit) (next_below limit words)
unfolding next_below
next_below-is limit words = first-is (λ n. n < limit) (number_below limit) words (below-is limit)

next_key-is : (words : List (List ℕ)) → HoldsNext IsKey (next_key words)
unfolding next_key
next_key-is words = first-is IsKey key_of_word words key-is

next_family_name-is : (words : List (List ℕ)) → HoldsNext IsName (next_family_name words)
unfolding next_family_name
next_family_name-is words = first-is IsName family_of_word words family-is

next_file-is : (words : List (List ℕ)) → HoldsNext IsFileAt (next_file words)
unfolding next_file
next_file-is words =
    next_of (λ one. Short one.0) (λ one. IsFileAt one.0) (next_below (2 ^ 32) words) _ (next_below-is (2 ^ 32) words)
    (λ arg a. next_of (λ one. Short one.0) (λ one. IsFileAt one.0) (next_below (2 ^ 32) arg.1) _ (next_below-is (2 ^ 32) arg.1)
    (λ file f. record { argument = a; file = f }))

next_range-is : (words : List (List ℕ)) → HoldsNext IsRange (next_range words)
unfolding next_range
next_range-is words =
    next_of (λ one. IsKey one.0) (λ one. IsRange one.0) (next_key words) _ (next_key-is words)
    (λ first f. next_of (λ one. IsKey one.0) (λ one. IsRange one.0) (next_key first.1) _ (next_key-is first.1)
    (λ last l. record { first = f; last = l }))

-- ---- the faults of a table

plain-fault-is : (name : List ℕ) → Holds IsTableFault (plain_fault name)
unfolding plain_fault
plain-fault-is name =
    one-of IsTableFault (same name (codes "TooLarge")) _ _ tt
    (one-of IsTableFault (same name (codes "Short")) _ _ tt
    (one-of IsTableFault (same name (codes "Magic")) _ _ tt
    (one-of IsTableFault (same name (codes "RangeDel")) _ _ tt
    (one-of IsTableFault (same name (codes "NoProperties")) _ _ tt
    (one-of IsTableFault (same name (codes "Comparator")) _ _ tt
    (one-of IsTableFault (same name (codes "IndexKind")) _ _ tt tt))))))

counted-is : (name : List ℕ) (words : List (List ℕ)) → Holds IsTableFault (counted_fault name words)
unfolding counted_fault
counted-is name words =
    one-of IsTableFault (same name (codes "Handle")) _ _ (made Long IsTableFault (next_number words) _ (next_number-is words) (λ n h. h))
    (one-of IsTableFault (same name (codes "Compressed")) _ _ (made Long IsTableFault (next_number words) _ (next_number-is words) (λ n h. h))
    (one-of IsTableFault (same name (codes "Order")) _ _ (made Long IsTableFault (next_number words) _ (next_number-is words) (λ n h. h))
    (one-of IsTableFault (same name (codes "Index")) _ _ (made Long IsTableFault (next_number words) _ (next_number-is words) (λ n h. h))
    (one-of IsTableFault (same name (codes "Version")) _ _ (made Short IsTableFault (next_below (2 ^ 32) words) _ (next_below-is (2 ^ 32) words) (λ n h. h))
    (one-of IsTableFault (same name (codes "Checksum")) _ _
    (made (λ n. n < 2 ^ 8) IsTableFault (next_below (2 ^ 8) words) _ (next_below-is (2 ^ 8) words) (λ n h. h)) tt)))))

block-named-is : (name : List ℕ) (words : List (List ℕ)) → Holds IsBlockFault (block_fault_named name words)
unfolding block_fault_named
block-named-is name words =
    one-of IsBlockFault (same name (codes "Restarts")) _ _ tt
    (one-of IsBlockFault (same name (codes "Entry")) _ _ (made Long IsBlockFault (next_number words) _ (next_number-is words) (λ n h. h))
    (one-of IsBlockFault (same name (codes "Order")) _ _ (made Long IsBlockFault (next_number words) _ (next_number-is words) (λ n h. h)) tt))

block-is : (words : List (List ℕ)) → Holds IsBlockFault (block_fault_of words)
block-is [] = tt
block-is (name ∷ words) = block-named-is name words

version-is : (found : Option ℕ) → Holds Short found → IsTableFault (table.ExternalVersion found)
version-is None is = tt
version-is (Some version) is = is

external-is : (words : List (List ℕ)) → Holds IsTableFault (external_version_of words)
unfolding external_version_of
external-is [] = tt
external-is (word ∷ words) = version-is (number_below (2 ^ 32) word) (below-is (2 ^ 32) word)

sum-is : (words : List (List ℕ)) → Holds IsTableFault (sum_fault_of words)
unfolding sum_fault_of
sum-is words =
    next_of (λ one. Long one.0) IsTableFault (next_number words) _ (next_number-is words)
    (λ at a. next_of (λ one. Short one.0) IsTableFault (next_below (2 ^ 32) at.1) _ (next_below-is (2 ^ 32) at.1)
    (λ stored s. made Short IsTableFault (next_below (2 ^ 32) stored.1) _ (next_below-is (2 ^ 32) stored.1) (λ found f. (a, (s, f)))))

inner-is : (words : List (List ℕ)) → Holds IsTableFault (inner_fault_of words)
unfolding inner_fault_of
inner-is words =
    next_of (λ one. Long one.0) IsTableFault (next_number words) _ (next_number-is words)
    (λ at a. next_of IsBlockFault IsTableFault (block_fault_of at.1) _ (block-is at.1) (λ fault f. (a, f)))

kind-is : (words : List (List ℕ)) → Holds IsTableFault (kind_fault_of words)
unfolding kind_fault_of
kind-is words =
    next_of (λ one. Long one.0) IsTableFault (next_number words) _ (next_number-is words)
    (λ entry e. made (λ n. n < 2 ^ 8) IsTableFault (next_below (2 ^ 8) entry.1) _ (next_below-is (2 ^ 8) entry.1) (λ kind k. (e, k)))

number-fault-is : (words : List (List ℕ)) → Holds IsTableFault (number_fault_of words)
unfolding number_fault_of
number-fault-is words =
    next_of (λ one. Long one.0) IsTableFault (next_number words) _ (next_number-is words)
    (λ entry e. made Long IsTableFault (next_number entry.1) _ (next_number-is entry.1) (λ number n. (e, n)))

long-fault-is : (name : List ℕ) (words : List (List ℕ)) → Holds IsTableFault (long_fault name words)
unfolding long_fault
long-fault-is name words =
    one-of IsTableFault (same name (codes "Sum")) _ _ (sum-is words)
    (one-of IsTableFault (same name (codes "Block")) _ _ (inner-is words)
    (one-of IsTableFault (same name (codes "ExternalVersion")) _ _ (external-is words)
    (one-of IsTableFault (same name (codes "Kind")) _ _ (kind-is words)
    (one-of IsTableFault (same name (codes "Number")) _ _ (number-fault-is words) (counted-is name words)))))

fault-is : (words : List (List ℕ)) → Holds IsTableFault (fault_of words)
fault-is [] = tt
fault-is (name ∷ words) = other-of IsTableFault (plain_fault name) (long_fault name words) (plain-fault-is name) (long-fault-is name words)

-- ---- refusals

why-named-is : (name : List ℕ) (words : List (List ℕ)) → Holds IsWhy (why_named name words)
unfolding why_named
why-named-is name words =
    one-of IsWhy (same name (codes "Key")) _ _ (made IsKey IsWhy (next_key words) _ (next_key-is words) (λ k h. h))
    (one-of IsWhy (same name (codes "Running")) _ _ (made IsRange IsWhy (next_range words) _ (next_range-is words) (λ r h. h))
    (one-of IsWhy (same name (codes "Snapshot")) _ _ (made Long IsWhy (next_number words) _ (next_number-is words) (λ n h. h))
    (one-of IsWhy (same name (codes "Files")) _ _
    (made IsFileAt IsWhy (next_file words) (λ (files : FileAt). why.Files files.arg files.file) (next_file-is words) (λ f h. (h.argument, h.file)))
    (one-of IsWhy (same name (codes "Meets")) _ _ (made IsRange IsWhy (next_range words) _ (next_range-is words) (λ r h. h)) tt))))

why-is : (words : List (List ℕ)) → Holds IsWhy (why_of words)
why-is [] = tt
why-is (name ∷ words) = why-named-is name words

plain-refusal-is : (number : ℕ) → Holds IsPrintedRefusal (plain_refusal number)
unfolding plain_refusal
plain-refusal-is number =
    one-of IsPrintedRefusal (number == 1) _ _ tt
    (one-of IsPrintedRefusal (number == 4) _ _ tt
    (one-of IsPrintedRefusal (number == 10) _ _ tt
    (one-of IsPrintedRefusal (number == 18) _ _ tt
    (one-of IsPrintedRefusal (number == 19) _ _ tt
    (one-of IsPrintedRefusal (number == 20) _ _ tt
    (one-of IsPrintedRefusal (number == 22) _ _ tt
    (one-of IsPrintedRefusal (number == 23) _ _ tt
    (one-of IsPrintedRefusal (number == 24) _ _ tt tt))))))))

snapshots-are : (words : List (List ℕ)) → Holds IsPrintedRefusal (snapshots_live_of words)
unfolding snapshots_live_of
snapshots-are words =
    next_of (λ one. Short one.0) IsPrintedRefusal (next_below (2 ^ 32) words) _ (next_below-is (2 ^ 32) words)
    (λ argument a. made Long IsPrintedRefusal (next_number argument.1) _ (next_number-is argument.1) (λ number n. (a, n)))

bad-is : (at : FileAt) (words : List (List ℕ)) → IsFileAt at → Holds IsPrintedRefusal (bad_table_of at words)
unfolding bad_table_of
bad-is at words is = next_of IsTableFault IsPrintedRefusal (fault_of words) _ (fault-is words) (λ fault f. (is, f))

level-is : (at : FileAt) (words : List (List ℕ)) → IsFileAt at → Holds IsPrintedRefusal (not_last_level_of at words)
unfolding not_last_level_of
level-is at words is =
    next_of (λ one. one.0 < 2 ^ 8) IsPrintedRefusal (next_below (2 ^ 8) words) _ (next_below-is (2 ^ 8) words)
    (λ level l. next_of IsWhy IsPrintedRefusal (why_of level.1) _ (why-is level.1) (λ cause w. (is, (l, w))))

at-is : (number : ℕ) (at : FileAt) (words : List (List ℕ)) → IsFileAt at → Holds IsPrintedRefusal (refusal_at number at words)
unfolding refusal_at
at-is number at words is =
    one-of IsPrintedRefusal (number == 5) _ _ is
    (one-of IsPrintedRefusal (number == 6) _ _ is
    (one-of IsPrintedRefusal (number == 7) _ _ (bad-is at words is)
    (one-of IsPrintedRefusal (number == 8) _ _ is
    (one-of IsPrintedRefusal (number == 9) _ _ (made Short IsPrintedRefusal (next_below (2 ^ 32) words) _ (next_below-is (2 ^ 32) words) (λ n h. (is, h)))
    (one-of IsPrintedRefusal (number == 14) _ _ (made IsKey IsPrintedRefusal (next_key words) _ (next_key-is words) (λ k h. (is, h)))
    (one-of IsPrintedRefusal (number == 15) _ _ (made IsRange IsPrintedRefusal (next_range words) _ (next_range-is words) (λ r h. (is, h)))
    (one-of IsPrintedRefusal (number == 16) _ _ (next_of IsWhy IsPrintedRefusal (why_of words) _ (why-is words) (λ cause w. (is, w)))
    (one-of IsPrintedRefusal (number == 17) _ _ (level-is at words is) tt))))))))

file-is : (number : ℕ) (words : List (List ℕ)) → Holds IsPrintedRefusal (file_refusal number words)
unfolding file_refusal
file-is number words =
    next_of (λ one. IsFileAt one.0) IsPrintedRefusal (next_file words) _ (next_file-is words) (λ at is. at-is number at.0 at.1 is)

long-refusal-is : (number : ℕ) (words : List (List ℕ)) → Holds IsPrintedRefusal (long_refusal number words)
unfolding long_refusal
long-refusal-is number words =
    one-of IsPrintedRefusal (number == 2) _ _ (made Short IsPrintedRefusal (next_below (2 ^ 32) words) _ (next_below-is (2 ^ 32) words) (λ n h. h))
    (one-of IsPrintedRefusal (number == 3) _ _ (made Short IsPrintedRefusal (next_below (2 ^ 32) words) _ (next_below-is (2 ^ 32) words) (λ n h. h))
    (one-of IsPrintedRefusal (number == 11) _ _ (made IsName IsPrintedRefusal (next_family_name words) _ (next_family_name-is words) (λ n h. h))
    (one-of IsPrintedRefusal (number == 12) _ _ (made Short IsPrintedRefusal (next_below (2 ^ 32) words) _ (next_below-is (2 ^ 32) words) (λ n h. h))
    (one-of IsPrintedRefusal (number == 13) _ _ (snapshots-are words)
    (one-of IsPrintedRefusal (number == 21) _ _ (made IsName IsPrintedRefusal (next_family_name words) _ (next_family_name-is words) (λ n h. h))
    (one-of IsPrintedRefusal (number == 27) _ _ (made Long IsPrintedRefusal (next_number words) _ (next_number-is words) (λ n h. h))
    (file-is number words)))))))

refusal-is : (words : List (List ℕ)) → Holds IsPrintedRefusal (refusal_of words)
unfolding refusal_of
refusal-is words =
    next_of (λ one. Long one.0) IsPrintedRefusal (next_number words) _ (next_number-is words)
    (λ number n. next_of (λ one. ⊤) IsPrintedRefusal (next_word number.1) _ (any (next_word number.1))
    (λ name t. other-of IsPrintedRefusal (plain_refusal number.0) (long_refusal number.0 name.1) (plain-refusal-is number.0) (long-refusal-is number.0 name.1)))
  where
    any : {X : Type 0} (found : Option X) → Holds (λ one. ⊤) found
    any None = tt
    any (Some one) = tt

-- ---- the words of lists

read-is : (word : List ℕ) → Holds IsPrintedRead (read_of_word word)
unfolding read_of_word
read-is [] = tt
read-is (sign ∷ spelling) =
    one-of IsPrintedRead (sign == 61) _ _ (next_of IsValue IsPrintedRead (value_of_word spelling) _ (value-is spelling) (λ value v. v))
    (one-of IsPrintedRead (sign == 45) _ _ tt tt)

pair-is : (word : List ℕ) → Holds IsPrintedPair (pair_of_word word)
unfolding pair_of_word
pair-is word = by (parts_around 61 word)
  where
    by : (parts : Option (List ℕ × List ℕ)) → Holds IsPrintedPair (parts >>= λ two. key_of_word two.0 >>= λ (key : List ℕ). value_of_word two.1 >>= λ (value : List ℕ). Some (key, value))
    by None = tt
    by (Some two) =
        next_of IsKey IsPrintedPair (key_of_word two.0) _ (key-is two.0)
        (λ key k. next_of IsValue IsPrintedPair (value_of_word two.1) _ (value-is two.1) (λ value v. (k, v)))

placed-is : (word : List ℕ) → Holds IsPrintedPlaced (placed_of_word word)
unfolding placed_of_word
placed-is word =
    next_of (λ file. ⊤) IsPrintedPlaced (parts_around 64 word) _ (any (parts_around 64 word))
    (λ file t. next_of (λ level. ⊤) IsPrintedPlaced (parts_around 35 file.1) _ (any (parts_around 35 file.1))
    (λ level u. next_of Long IsPrintedPlaced (number_of_word file.0) _ (number-is file.0)
    (λ number n. next_of (λ l. l < 2 ^ 8) IsPrintedPlaced (number_below (2 ^ 8) level.0) _ (below-is (2 ^ 8) level.0)
    (λ at a. next_of Long IsPrintedPlaced (number_of_word level.1) _ (number-is level.1)
    (λ sequence s. record { file = n; level = a; number = s })))))
  where
    any : {X : Type 0} (found : Option X) → Holds (λ one. ⊤) found
    any None = tt
    any (Some one) = tt

each-is : {X : Type 0} (P : X → Type 0) (reading : List ℕ → Option X) → ((word : List ℕ) → Holds P (reading word)) → (words : List (List ℕ)) → Holds (Each P) (each_of reading words)
each-is P reading one [] = tt
each-is P reading one (word ∷ words) =
    next_of P (Each P) (reading word) (λ x. each_of reading words >>= λ others. Some (x ∷ others)) (one word)
    (λ x is. next_of (Each P) (Each P) (each_of reading words) (λ others. Some (x ∷ others)) (each-is P reading one words) (λ others are. (is, are)))

-- ---- replies

plain-reply-is : (name : List ℕ) → Holds IsPrinted (plain_reply name)
unfolding plain_reply
plain-reply-is name =
    one-of IsPrinted (same name (codes "none")) _ _ tt
    (one-of IsPrinted (same name (codes "released")) _ _ tt
    (one-of IsPrinted (same name (codes "made")) _ _ tt
    (one-of IsPrinted (same name (codes "dropped")) _ _ tt
    (one-of IsPrinted (same name (codes "flushed")) _ _ tt
    (one-of IsPrinted (same name (codes "compacted")) _ _ tt
    (one-of IsPrinted (same name (codes "await")) _ _ tt
    (one-of IsPrinted (same name (codes "long")) _ _ tt tt)))))))

found-is : (words : List (List ℕ)) → Holds IsPrinted (found_reply words)
unfolding found_reply
found-is [] = tt
found-is (word ∷ words) = next_of IsValue IsPrinted (value_of_word word) _ (value-is word) (λ value v. v)

long-reply-is : (name : List ℕ) (words : List (List ℕ)) → Holds IsPrinted (long_reply name words)
unfolding long_reply
long-reply-is name words =
    one-of IsPrinted (same name (codes "written")) _ _ (made Long IsPrinted (next_number words) _ (next_number-is words) (λ n h. h))
    (one-of IsPrinted (same name (codes "value")) _ _ (found-is words)
    (one-of IsPrinted (same name (codes "view")) _ _
    (next_of (Each IsPrintedRead) IsPrinted (each_of read_of_word words) _ (each-is IsPrintedRead read_of_word read-is words) (λ values v. v))
    (one-of IsPrinted (same name (codes "scan")) _ _
    (next_of (Each IsPrintedPair) IsPrinted (each_of pair_of_word words) _ (each-is IsPrintedPair pair_of_word pair-is words) (λ pairs p. p))
    (one-of IsPrinted (same name (codes "snapshot")) _ _ (made Long IsPrinted (next_number words) _ (next_number-is words) (λ n h. h))
    (one-of IsPrinted (same name (codes "ingested")) _ _
    (next_of (Each IsPrintedPlaced) IsPrinted (each_of placed_of_word words) _ (each-is IsPrintedPlaced placed_of_word placed-is words) (λ placed p. p))
    (one-of IsPrinted (same name (codes "refused")) _ _
    (next_of IsPrintedRefusal IsPrinted (refusal_of words) _ (refusal-is words) (λ refusal r. r)) tt))))))

reply-is : (words : List (List ℕ)) → Holds IsPrinted (reply_of words)
reply-is [] = tt
reply-is (name ∷ words) = other-of IsPrinted (plain_reply name) (long_reply name words) (plain-reply-is name) (long-reply-is name words)

line-is : (words : List (List ℕ)) → Holds (λ (found : ℕ × Reply). IsPrinted found.1) (place_and_reply_of words)
unfolding place_and_reply_of
line-is words =
    next_of (λ one. Long one.0) (λ (found : ℕ × Reply). IsPrinted found.1) (next_number words) _ (next_number-is words)
    (λ place p. next_of IsPrinted (λ (found : ℕ × Reply). IsPrinted found.1) (reply_of place.1) _ (reply-is place.1) (λ reply r. r))

-- what a reader of the words of a line gives is a reply that a transcript can have
pub in_form : (result : Result (ℕ × Reply) ParseFault) (words : List (List ℕ)) → Gives result (place_and_reply_of words) → IfOk result (λ (found : ℕ × Reply). IsPrinted found.1)
in_form (Ok found) words e = subst (Holds (λ (one : ℕ × Reply). IsPrinted one.1)) e (line-is words)
in_form (Err fault) words e = tt
