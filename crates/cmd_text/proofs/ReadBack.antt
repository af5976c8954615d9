-- The line of a printed reply is read as this reply.
use Rattle.std.proofs.Common.{◌≡◌, ℕ, true, cond, ◌&&◌, ◌<◌, ◌≤◌, ◌+◌, ◌-◌, ◌*◌, ◌/◌, ◌%◌, ◌^◌, nat_le, nat_lt, List, [], ◌∷◌, ◌++◌, length, length-append, map, IsTrue, refl, sym, ap, ◌∙◌, arith}
use Rattle.std.specs.Prelude.{Some, None, Option, Result, Ok, Err, codes}
use Rattle.std.specs.Fmt.{decimal}
use Rattle.std.specs.List.{AllByRecursion as Each}
use Rattle.std.proofs.lemmas.Bool.{and_from, cond-true, le-leb, lt-ltb}
use Rattle.std.proofs.lemmas.Fmt.{decimal_by_steps}
use Rattle.st_base.specs.Faults.{named, printed_block_fault, printed_table_fault}
use Rattle.st_base.specs.Names.{is_digit, is_family}
use Rattle.st_base.specs.declared.entry.KeyRange.{KeyRange}
use Rattle.st_base.specs.declared.faults.BlockFault.{BlockFault}
use Rattle.st_base.specs.declared.faults.BlockFault.TheVariants as block
use Rattle.st_base.specs.declared.faults.TableFault.{TableFault}
use Rattle.st_base.specs.declared.faults.TableFault.TheVariants as table
use Rattle.st_model.specs.Line.{file_words, range_words, why_words, read_word, pair_word, placed_word}
use Rattle.st_base.specs.Word.{word}
use Rattle.st_model.specs.declared.refusal.FileAt.{FileAt}
use Rattle.st_model.specs.declared.refusal.Refusal.{Refusal}
use Rattle.st_model.specs.declared.refusal.Refusal.TheVariants as refusal
use Rattle.st_model.specs.declared.refusal.Why.{Why}
use Rattle.st_model.specs.declared.refusal.Why.TheVariants as why
use Rattle.st_model.specs.declared.reply.Placed.{Placed}
use Rattle.st_model.specs.declared.reply.Reply.{Reply}
use Rattle.st_model.specs.declared.reply.Reply.TheVariants as reply
use Rattle.build_text.specs.Words.{◌>>=◌, two_words, words}
use Rattle.build_text.proofs.Joining.{cut_first, cut_one, lacks, join_lacks}
use Rattle.build_text.proofs.SpelledBytes.{read_word as spelled_back}
use Rattle.cmd_text.specs.Commands.{Gives, key_of_word, value_of_word, within}
use Rattle.cmd_text.specs.Readings.{Reading, with_digit, with_digits, number_of_word, number_below, next_word, next_number, next_below, next_file, next_key, next_range, next_family_name}
use Rattle.cmd_text.specs.Readings.{plain_fault, counted_fault, block_fault_named, block_fault_of, external_version_of, sum_fault_of, inner_fault_of, kind_fault_of, number_fault_of, long_fault, or_other, fault_of}
use Rattle.cmd_text.specs.Readings.{why_named, why_of, plain_refusal, snapshots_live_of, bad_table_of, not_last_level_of, refusal_at, file_refusal, long_refusal, refusal_of}
use Rattle.cmd_text.specs.Readings.{read_of_word, parts_around, pair_of_word, placed_of_word, each_of, plain_reply, found_reply, long_reply, reply_of, place_and_reply_of}
use Rattle.cmd_text.specs.declared.fault.ParseFault.{ParseFault}
use Rattle.cmd_text.specs.declared.fault.ParseFault.TheVariants.{Mismatch, OutOfMemory}
use Rattle.cmd_text.specs.Replies.{GivesBack, IsBlockFault, IsFileAt, IsKey, IsPrinted, IsPrintedPair, IsPrintedPlaced, IsPrintedRead, IsPrintedRefusal, IsRange, IsTableFault, IsValue, IsWhy}
use Rattle.cmd_text.proofs.Readers.{some_digits}
use Rattle.cmd_text.proofs.ReplyWords.{decimal_lacks, named_words, pair_flat, placed_flat, refusal_line, reply_line, word_lacks_equals, words_between}

-- ---- numbers

and-itself : {X : Type 0} (o : Option X) → (o >>= λ x. Some x) ≡ o
and-itself None = refl
and-itself (Some x) = refl

more-by : (o : Option ℕ) (digits : List ℕ) (digit : ℕ) → ((m : ℕ) → with_digits m (digits ++ digit ∷ []) ≡ (with_digits m digits >>= λ n. with_digit n digit))
    → (o >>= λ m. with_digits m (digits ++ digit ∷ [])) ≡ ((o >>= λ m. with_digits m digits) >>= λ n. with_digit n digit)
more-by None digits digit more = refl
more-by (Some m) digits digit more = more m

-- a digit behind digits
with_digits-append : (digits : List ℕ) (number digit : ℕ) → with_digits number (digits ++ digit ∷ []) ≡ (with_digits number digits >>= λ n. with_digit n digit)
with_digits-append [] number digit = and-itself (with_digit number digit)
with_digits-append (first ∷ digits) number digit = more-by (with_digit number first) digits digit (λ m. with_digits-append digits m digit)

-- the last digit of a number
last-digit : (before digit number : ℕ) → digit < 10 → 10 * before + digit ≡ number → number < 2 ^ 64 → with_digit before (48 + digit) ≡ Some number
unfolding with_digit
last-digit before digit number low e small =
    let value : 10 * before + (48 + digit - 48) ≡ number = omega arith in
    let small_value : 10 * before + (48 + digit - 48) < 2 ^ 64 = omega arith in
    let least : 48 ≤ 48 + digit = omega arith in
    let most : 48 + digit ≤ 57 = omega arith in
    let test : (is_digit (48 + digit) && nat_lt (10 * before + (48 + digit - 48)) (2 ^ 64)) ≡ true =
    and_from (is_digit (48 + digit)) (nat_lt (10 * before + (48 + digit - 48)) (2 ^ 64))
    (and_from (nat_le 48 (48 + digit)) (nat_le (48 + digit) 57) (le-leb 48 (48 + digit) least) (le-leb (48 + digit) 57 most))
    (lt-ltb (10 * before + (48 + digit - 48)) (2 ^ 64) small_value) in
    cond-true (is_digit (48 + digit) && nat_lt (10 * before + (48 + digit - 48)) (2 ^ 64)) (Some (10 * before + (48 + digit - 48))) None test ∙ ap Some value

record ReadsBack (number : ℕ) (digits : List ℕ) : Type 0 where
  pub reads : number < 2 ^ 64 → with_digits 0 digits ≡ Some number
  pub some : 0 < length digits

reads-decimal : (number : ℕ) → number < 2 ^ 64 → ReadsBack number (decimal number)
reads-decimal number small =
    decimal_by_steps ReadsBack
    (λ n low. record { reads = λ h. and-itself (with_digit 0 (48 + n)) ∙ last-digit 0 n n low (omega arith) h; some = omega arith })
    (λ n digits more before. record {
      reads = λ h. with_digits-append digits 0 (48 + n % 10) ∙ ap (λ o. o >>= λ m. with_digit m (48 + n % 10)) (before.reads (omega arith))
          ∙ last-digit (n / 10) (n % 10) n (omega arith) (omega arith) h;
      some = omega (arith, length-append digits ((48 + n % 10) ∷ []));
    })
    number small

number-back : (number : ℕ) → number < 2 ^ 64 → number_of_word (decimal number) ≡ Some number
number-back number small =
    let back = reads-decimal number small in
    some_digits (decimal number) back.some ∙ back.reads small

below-back : (limit number : ℕ) → number < limit → limit ≤ 2 ^ 64 → number_below limit (decimal number) ≡ Some number
unfolding number_below
below-back limit number low wide =
    let test : nat_lt number limit ≡ true = lt-ltb number limit low in
    ap (λ o. o >>= λ n. cond (nat_lt n limit) (Some n) None) (number-back number (omega arith)) ∙ cond-true (nat_lt number limit) (Some number) None test

-- ---- the next words

next_number-back : (number : ℕ) (rest : List (List ℕ)) → number < 2 ^ 64 → next_number (decimal number ∷ rest) ≡ Some (number, rest)
unfolding next_number
next_number-back number rest small = ap (λ o. o >>= λ (n : ℕ). Some (n, rest)) (number-back number small)

next_below-back : (limit number : ℕ) (rest : List (List ℕ)) → number < limit → limit ≤ 2 ^ 64 → next_below limit (decimal number ∷ rest) ≡ Some (number, rest)
unfolding next_below
next_below-back limit number rest low wide = ap (λ o. o >>= λ (n : ℕ). Some (n, rest)) (below-back limit number low wide)

short-back : (number : ℕ) (rest : List (List ℕ)) → number < 2 ^ 32 → next_below (2 ^ 32) (decimal number ∷ rest) ≡ Some (number, rest)
short-back number rest small = next_below-back (2 ^ 32) number rest small (omega arith)

byte-back : (number : ℕ) (rest : List (List ℕ)) → number < 2 ^ 8 → next_below (2 ^ 8) (decimal number ∷ rest) ≡ Some (number, rest)
byte-back number rest small = next_below-back (2 ^ 8) number rest small (omega arith)

-- what is made of what two readers read
abbrev both : {X Y Z : Type 0} → (X → Y → Z) → X × List (List ℕ) → Y × List (List ℕ) → Reading Z
both make one other = Some (make one.0 other.0, other.1)

-- two readers, one after the other
in-turn : {X Y Z : Type 0} (first : Reading X) (x : X) (rest : List (List ℕ)) (next : List (List ℕ) → Reading Y) (y : Y) (left : List (List ℕ)) (make : X → Y → Z)
    → first ≡ Some (x, rest) → next rest ≡ Some (y, left) → (first >>= λ (one : X × List (List ℕ)). next one.1 >>= λ (other : Y × List (List ℕ)). both make one other) ≡ Some (make x y, left)
in-turn first x rest next y left make e f =
    ap (λ o. o >>= λ one. next one.1 >>= λ other. both make one other) e ∙ ap (λ o. o >>= λ other. both make (x, rest) other) f

abbrev file-at : ℕ → ℕ → FileAt
file-at arg file = record { arg = arg; file = file }

abbrev range-at : List ℕ → List ℕ → KeyRange
range-at first last = record { first = first; last = last }

next_file-back : (at : FileAt) (rest : List (List ℕ)) → IsFileAt at → next_file (file_words at ++ rest) ≡ Some (at, rest)
unfolding next_file
next_file-back at rest is =
    in-turn (next_below (2 ^ 32) (file_words at ++ rest)) at.arg (decimal at.file ∷ rest) (next_below (2 ^ 32)) at.file rest file-at
    (short-back at.arg (decimal at.file ∷ rest) is.argument) (short-back at.file rest is.file)

within-back : (limit : ℕ) (bytes : List ℕ) → length bytes ≤ limit → within limit bytes ≡ Some bytes
within-back limit bytes small =
    let test : nat_le (length bytes) limit ≡ true = le-leb (length bytes) limit small in
    cond-true (nat_le (length bytes) limit) (Some bytes) None test

key-back : (key : List ℕ) → IsKey key → key_of_word (word key) ≡ Some key
key-back key is = ap (λ o. o >>= within 65535) (spelled_back key is.bytes) ∙ within-back 65535 key is.within

value-back : (value : List ℕ) → IsValue value → value_of_word (word value) ≡ Some value
value-back value is = ap (λ o. o >>= within 1048576) (spelled_back value is.bytes) ∙ within-back 1048576 value is.within

next_key-back : (key : List ℕ) (rest : List (List ℕ)) → IsKey key → next_key (word key ∷ rest) ≡ Some (key, rest)
unfolding next_key
next_key-back key rest is = ap (λ o. o >>= λ (k : List ℕ). Some (k, rest)) (key-back key is)

next_range-back : (range : KeyRange) (rest : List (List ℕ)) → IsRange range → next_range (range_words range ++ rest) ≡ Some (range, rest)
unfolding next_range
next_range-back range rest is =
    in-turn (next_key (range_words range ++ rest)) range.first (word range.last ∷ rest) next_key range.last rest range-at
    (next_key-back range.first (word range.last ∷ rest) is.first) (next_key-back range.last rest is.last)

next_family_name-back : (name : List ℕ) (rest : List (List ℕ)) → IsTrue (is_family name) → next_family_name (name ∷ rest) ≡ Some (name, rest)
unfolding next_family_name
next_family_name-back name rest is = ap (λ o. o >>= λ (n : List ℕ). Some (n, rest)) (cond-true (is_family name) (Some name) None is)

-- what is made of one reader's answer
made : {X Z : Type 0} (first : Reading X) (x : X) (rest : List (List ℕ)) (make : X → Z) → first ≡ Some (x, rest) → (first >>= λ (one : X × List (List ℕ)). Some (make one.0)) ≡ Some (make x)
made first x rest make e = ap (λ o. o >>= λ one. Some (make one.0)) e

-- ---- the faults of a table

block-back : (fault : BlockFault) → IsBlockFault fault → block_fault_of (words (printed_block_fault fault)) ≡ Some fault
unfolding block_fault_named
block-back block.Restarts is = refl
block-back (block.Entry at) is =
    ap block_fault_of (named_words (codes "Entry") at is) ∙ made (next_number (decimal at ∷ [])) at [] (λ n. block.Entry n) (next_number-back at [] is)
block-back (block.Order at) is =
    ap block_fault_of (named_words (codes "Order") at is) ∙ made (next_number (decimal at ∷ [])) at [] (λ n. block.Order n) (next_number-back at [] is)

-- one number behind the fault's name, and two
counted : (name : List ℕ) (number : ℕ) → number < 2 ^ 64 → words name ≡ name ∷ [] → fault_of (words (named name number)) ≡ fault_of (name ∷ decimal number ∷ [])
counted name number small one = ap fault_of (named_words name number small ∙ ap (λ v. v ++ decimal number ∷ []) one)

twice-counted : (name : List ℕ) (first second : ℕ) → first < 2 ^ 64 → second < 2 ^ 64 → words name ≡ name ∷ [] → words (named (named name first) second) ≡ name ∷ decimal first ∷ decimal second ∷ []
twice-counted name first second small small_too one =
    named_words (named name first) second small_too
    ∙ ap (λ v. v ++ decimal second ∷ []) (named_words name first small ∙ ap (λ v. v ++ decimal first ∷ []) one)

sum-back : (at stored found : ℕ) → at < 2 ^ 64 → stored < 2 ^ 32 → found < 2 ^ 32 → sum_fault_of (decimal at ∷ decimal stored ∷ decimal found ∷ []) ≡ Some (table.Sum at stored found)
unfolding sum_fault_of
sum-back at stored found a s f =
    ap (λ o. o >>= λ (one : ℕ × List (List ℕ)). next_below (2 ^ 32) one.1 >>= λ (two : ℕ × List (List ℕ)). next_below (2 ^ 32) two.1 >>= λ (three : ℕ × List (List ℕ)). Some (table.Sum one.0 two.0 three.0))
    (next_number-back at (decimal stored ∷ decimal found ∷ []) a)
    ∙ ap (λ o. o >>= λ (two : ℕ × List (List ℕ)). next_below (2 ^ 32) two.1 >>= λ (three : ℕ × List (List ℕ)). Some (table.Sum at two.0 three.0)) (short-back stored (decimal found ∷ []) s)
    ∙ made (next_below (2 ^ 32) (decimal found ∷ [])) found [] (λ n. table.Sum at stored n) (short-back found [] f)

inner-back : (at : ℕ) (fault : BlockFault) → at < 2 ^ 64 → IsBlockFault fault → inner_fault_of (decimal at ∷ words (printed_block_fault fault)) ≡ Some (table.Block at fault)
unfolding inner_fault_of
inner-back at fault a f =
    ap (λ o. o >>= λ (one : ℕ × List (List ℕ)). block_fault_of one.1 >>= λ (inner : BlockFault). Some (table.Block one.0 inner)) (next_number-back at (words (printed_block_fault fault)) a)
    ∙ ap (λ o. o >>= λ (inner : BlockFault). Some (table.Block at inner)) (block-back fault f)

kind-back : (entry kind : ℕ) → entry < 2 ^ 64 → kind < 2 ^ 8 → kind_fault_of (decimal entry ∷ decimal kind ∷ []) ≡ Some (table.Kind entry kind)
unfolding kind_fault_of
kind-back entry kind e k =
    ap (λ o. o >>= λ (one : ℕ × List (List ℕ)). next_below (2 ^ 8) one.1 >>= λ (two : ℕ × List (List ℕ)). Some (table.Kind one.0 two.0)) (next_number-back entry (decimal kind ∷ []) e)
    ∙ made (next_below (2 ^ 8) (decimal kind ∷ [])) kind [] (λ n. table.Kind entry n) (byte-back kind [] k)

number-fault-back : (entry number : ℕ) → entry < 2 ^ 64 → number < 2 ^ 64 → number_fault_of (decimal entry ∷ decimal number ∷ []) ≡ Some (table.Number entry number)
unfolding number_fault_of
number-fault-back entry number e n =
    ap (λ o. o >>= λ (one : ℕ × List (List ℕ)). next_number one.1 >>= λ (two : ℕ × List (List ℕ)). Some (table.Number one.0 two.0)) (next_number-back entry (decimal number ∷ []) e)
    ∙ made (next_number (decimal number ∷ [])) number [] (λ m. table.Number entry m) (next_number-back number [] n)

version-back : (version : ℕ) → version < 2 ^ 32 → external_version_of (decimal version ∷ []) ≡ Some (table.ExternalVersion (Some version))
unfolding external_version_of
version-back version small = ap (λ o. Some (table.ExternalVersion o)) (below-back (2 ^ 32) version small (omega arith))

fault-back : (fault : TableFault) → IsTableFault fault → fault_of (words (printed_table_fault fault)) ≡ Some fault
unfolding plain_fault long_fault counted_fault external_version_of number_below with_digit
fault-back table.TooLarge is = refl
fault-back table.Short is = refl
fault-back table.Magic is = refl
fault-back (table.Version version) is =
    counted (codes "Version") version (omega (arith, is)) refl
    ∙ made (next_below (2 ^ 32) (decimal version ∷ [])) version [] (λ n. table.Version n) (short-back version [] is)
fault-back (table.Checksum kind) is =
    counted (codes "Checksum") kind (omega (arith, is)) refl
    ∙ made (next_below (2 ^ 8) (decimal kind ∷ [])) kind [] (λ n. table.Checksum n) (byte-back kind [] is)
fault-back (table.Handle at) is =
    counted (codes "Handle") at is refl ∙ made (next_number (decimal at ∷ [])) at [] (λ n. table.Handle n) (next_number-back at [] is)
fault-back (table.Compressed at) is =
    counted (codes "Compressed") at is refl ∙ made (next_number (decimal at ∷ [])) at [] (λ n. table.Compressed n) (next_number-back at [] is)
fault-back (table.Sum at stored found) is =
    ap fault_of (named_words (named (named (codes "Sum") at) stored) found (omega (arith, is.1.1))
    ∙ ap (λ v. v ++ decimal found ∷ []) (twice-counted (codes "Sum") at stored is.0 (omega (arith, is.1.0)) refl))
    ∙ sum-back at stored found is.0 is.1.0 is.1.1
fault-back (table.Block at fault) is =
    ap fault_of (words_between (named (codes "Block") at) (printed_block_fault fault)
    ∙ ap (λ v. v ++ words (printed_block_fault fault)) (named_words (codes "Block") at is.0)) ∙ inner-back at fault is.0 is.1
fault-back table.RangeDel is = refl
fault-back table.NoProperties is = refl
fault-back (table.ExternalVersion None) is = refl
fault-back (table.ExternalVersion (Some version)) is = counted (codes "ExternalVersion") version (omega (arith, is)) refl ∙ version-back version is
fault-back table.Comparator is = refl
fault-back table.IndexKind is = refl
fault-back (table.Kind entry kind) is = ap fault_of (twice-counted (codes "Kind") entry kind is.0 (omega (arith, is.1)) refl) ∙ kind-back entry kind is.0 is.1
fault-back (table.Number entry number) is = ap fault_of (twice-counted (codes "Number") entry number is.0 is.1 refl) ∙ number-fault-back entry number is.0 is.1
fault-back (table.Order entry) is =
    counted (codes "Order") entry is refl ∙ made (next_number (decimal entry ∷ [])) entry [] (λ n. table.Order n) (next_number-back entry [] is)
fault-back (table.Index index) is =
    counted (codes "Index") index is refl ∙ made (next_number (decimal index ∷ [])) index [] (λ n. table.Index n) (next_number-back index [] is)

-- ---- refusals

why-back : (cause : Why) → IsWhy cause → why_of (why_words cause) ≡ Some cause
unfolding why_named
why-back (why.Key key) is = made (next_key (word key ∷ [])) key [] (λ k. why.Key k) (next_key-back key [] is)
why-back (why.Running range) is = made (next_range (range_words range)) range [] (λ r. why.Running r) (next_range-back range [] is)
why-back (why.Snapshot number) is = made (next_number (decimal number ∷ [])) number [] (λ n. why.Snapshot n) (next_number-back number [] is)
why-back (why.Files i j) is =
    made (next_file (decimal i ∷ decimal j ∷ [])) (file-at i j) [] (λ (files : FileAt). why.Files files.arg files.file)
    (next_file-back (file-at i j) [] (record { argument = is.0; file = is.1 }))
why-back (why.Meets range) is = made (next_range (range_words range)) range [] (λ r. why.Meets r) (next_range-back range [] is)

-- a number and a name in front of the arguments
numbered : (number : ℕ) (code name : List ℕ) (arguments : List (List ℕ)) → number_of_word code ≡ Some number → refusal_of (code ∷ name ∷ arguments) ≡ or_other (plain_refusal number) (long_refusal number arguments)
unfolding refusal_of next_number
numbered number code name arguments e =
    ap (λ o. (o >>= λ (n : ℕ). Some (n, name ∷ arguments)) >>= λ (one : ℕ × List (List ℕ)). next_word one.1 >>= λ (two : List ℕ × List (List ℕ)). or_other (plain_refusal one.0) (long_refusal one.0 two.1)) e

-- the file in front of the other arguments
of-file : (number : ℕ) (at : FileAt) (arguments : List (List ℕ)) → IsFileAt at → file_refusal number (file_words at ++ arguments) ≡ refusal_at number at arguments
unfolding file_refusal
of-file number at arguments is = ap (λ o. o >>= λ (one : FileAt × List (List ℕ)). refusal_at number one.0 one.1) (next_file-back at arguments is)

snapshots-back : (argument number : ℕ) → argument < 2 ^ 32 → number < 2 ^ 64 → snapshots_live_of (decimal argument ∷ decimal number ∷ []) ≡ Some (refusal.SnapshotsLive argument number)
unfolding snapshots_live_of
snapshots-back argument number a n =
    ap (λ o. o >>= λ (one : ℕ × List (List ℕ)). next_number one.1 >>= λ (two : ℕ × List (List ℕ)). Some (refusal.SnapshotsLive one.0 two.0)) (short-back argument (decimal number ∷ []) a)
    ∙ made (next_number (decimal number ∷ [])) number [] (λ m. refusal.SnapshotsLive argument m) (next_number-back number [] n)

bad-back : (at : FileAt) (fault : TableFault) → IsTableFault fault → bad_table_of at (words (printed_table_fault fault)) ≡ Some (refusal.BadTable at fault)
unfolding bad_table_of
bad-back at fault is = ap (λ o. o >>= λ (f : TableFault). Some (refusal.BadTable at f)) (fault-back fault is)

needs-back : (at : FileAt) (cause : Why) → IsWhy cause → (why_of (why_words cause) >>= λ (w : Why). Some (refusal.NeedsSequence at w)) ≡ Some (refusal.NeedsSequence at cause)
needs-back at cause is = ap (λ o. o >>= λ (w : Why). Some (refusal.NeedsSequence at w)) (why-back cause is)

level-back : (at : FileAt) (level : ℕ) (cause : Why) → level < 2 ^ 8 → IsWhy cause → not_last_level_of at (decimal level ∷ why_words cause) ≡ Some (refusal.NotLastLevel at level cause)
unfolding not_last_level_of
level-back at level cause l is =
    ap (λ o. o >>= λ (one : ℕ × List (List ℕ)). why_of one.1 >>= λ (w : Why). Some (refusal.NotLastLevel at one.0 w)) (byte-back level (why_words cause) l)
    ∙ ap (λ o. o >>= λ (w : Why). Some (refusal.NotLastLevel at level w)) (why-back cause is)

refusal-back : (one : Refusal) → IsPrintedRefusal one → refusal_of (refusal_line one) ≡ Some one
unfolding plain_refusal long_refusal refusal_at with_digit
refusal-back refusal.EmptyRequest is = numbered 1 (codes "1") (codes "EmptyRequest") [] refl
refusal-back (refusal.NoFiles argument) is =
    numbered 2 (codes "2") (codes "NoFiles") (decimal argument ∷ []) refl
    ∙ made (next_below (2 ^ 32) (decimal argument ∷ [])) argument [] (λ n. refusal.NoFiles n) (short-back argument [] is)
refusal-back (refusal.FamilyTwice argument) is =
    numbered 3 (codes "3") (codes "FamilyTwice") (decimal argument ∷ []) refl
    ∙ made (next_below (2 ^ 32) (decimal argument ∷ [])) argument [] (λ n. refusal.FamilyTwice n) (short-back argument [] is)
refusal-back refusal.TooManyFiles is = numbered 4 (codes "4") (codes "TooManyFiles") [] refl
refusal-back (refusal.FileMissing at) is = numbered 5 (codes "5") (codes "FileMissing") (file_words at) refl ∙ of-file 5 at [] is
refusal-back (refusal.InputFault at) is = numbered 6 (codes "6") (codes "InputFault") (file_words at) refl ∙ of-file 6 at [] is
refusal-back (refusal.BadTable at fault) is =
    numbered 7 (codes "7") (codes "BadTable") (file_words at ++ words (printed_table_fault fault)) refl
    ∙ of-file 7 at (words (printed_table_fault fault)) is.0 ∙ bad-back at fault is.1
refusal-back (refusal.NoEntry at) is = numbered 8 (codes "8") (codes "NoEntry") (file_words at) refl ∙ of-file 8 at [] is
refusal-back (refusal.FilesMeet at file) is =
    numbered 9 (codes "9") (codes "FilesMeet") (file_words at ++ decimal file ∷ []) refl ∙ of-file 9 at (decimal file ∷ []) is.0
    ∙ made (next_below (2 ^ 32) (decimal file ∷ [])) file [] (λ n. refusal.FilesMeet at n) (short-back file [] is.1)
refusal-back refusal.Stopped is = numbered 10 (codes "10") (codes "Stopped") [] refl
refusal-back (refusal.UnknownFamily name) is =
    numbered 11 (codes "11") (codes "UnknownFamily") (name ∷ []) refl
    ∙ made (next_family_name (name ∷ [])) name [] (λ n. refusal.UnknownFamily n) (next_family_name-back name [] is)
refusal-back (refusal.BehindNotEnabled argument) is =
    numbered 12 (codes "12") (codes "BehindNotEnabled") (decimal argument ∷ []) refl
    ∙ made (next_below (2 ^ 32) (decimal argument ∷ [])) argument [] (λ n. refusal.BehindNotEnabled n) (short-back argument [] is)
refusal-back (refusal.SnapshotsLive argument number) is =
    numbered 13 (codes "13") (codes "SnapshotsLive") (decimal argument ∷ decimal number ∷ []) refl ∙ snapshots-back argument number is.0 is.1
refusal-back (refusal.FlushNeeded at key) is =
    numbered 14 (codes "14") (codes "FlushNeeded") (file_words at ++ word key ∷ []) refl ∙ of-file 14 at (word key ∷ []) is.0
    ∙ made (next_key (word key ∷ [])) key [] (λ k. refusal.FlushNeeded at k) (next_key-back key [] is.1)
refusal-back (refusal.BehindDoesNotFit at range) is =
    numbered 15 (codes "15") (codes "BehindDoesNotFit") (file_words at ++ range_words range) refl ∙ of-file 15 at (range_words range) is.0
    ∙ made (next_range (range_words range)) range [] (λ r. refusal.BehindDoesNotFit at r) (next_range-back range [] is.1)
refusal-back (refusal.NeedsSequence at cause) is =
    numbered 16 (codes "16") (codes "NeedsSequence") (file_words at ++ why_words cause) refl ∙ of-file 16 at (why_words cause) is.0 ∙ needs-back at cause is.1
refusal-back (refusal.NotLastLevel at level cause) is =
    numbered 17 (codes "17") (codes "NotLastLevel") (file_words at ++ decimal level ∷ why_words cause) refl
    ∙ of-file 17 at (decimal level ∷ why_words cause) is.0 ∙ level-back at level cause is.1.0 is.1.1
refusal-back refusal.NumbersSpent is = numbered 18 (codes "18") (codes "NumbersSpent") [] refl
refusal-back refusal.StoreFull is = numbered 19 (codes "19") (codes "StoreFull") [] refl
refusal-back refusal.DiskFault is = numbered 20 (codes "20") (codes "DiskFault") [] refl
refusal-back (refusal.FamilyExists name) is =
    numbered 21 (codes "21") (codes "FamilyExists") (name ∷ []) refl
    ∙ made (next_family_name (name ∷ [])) name [] (λ n. refusal.FamilyExists n) (next_family_name-back name [] is)
refusal-back refusal.DefaultStays is = numbered 22 (codes "22") (codes "DefaultStays") [] refl
refusal-back refusal.FamiliesFull is = numbered 23 (codes "23") (codes "FamiliesFull") [] refl
refusal-back refusal.SnapshotsFull is = numbered 24 (codes "24") (codes "SnapshotsFull") [] refl
refusal-back (refusal.SnapshotGone id) is =
    numbered 27 (codes "27") (codes "SnapshotGone") (decimal id ∷ []) refl
    ∙ made (next_number (decimal id ∷ [])) id [] (λ n. refusal.SnapshotGone n) (next_number-back id [] is)
refusal-back refusal.OutOfMemory is = absurd is

-- ---- the words of lists

each-back : {X : Type 0} (P : X → Type 0) (spelling : X → List ℕ) (reading : List ℕ → Option X) → ((x : X) → P x → reading (spelling x) ≡ Some x) → (xs : List X) → Each P xs → each_of reading (map spelling xs) ≡ Some xs
each-back P spelling reading one [] each = refl
each-back P spelling reading one (x ∷ xs) each =
    ap (λ o. o >>= λ x. each_of reading (map spelling xs) >>= λ others. Some (x ∷ others)) (one x each.0)
    ∙ ap (λ o. o >>= λ others. Some (x ∷ others)) (each-back P spelling reading one xs each.1)

read-back : (read : Option (List ℕ)) → IsPrintedRead read → read_of_word (read_word read) ≡ Some read
unfolding read_of_word
read-back None is = refl
read-back (Some value) is = ap (λ o. o >>= λ (v : List ℕ). Some (Some v)) (value-back value is)

around-back : (byte : ℕ) (front back : List ℕ) → lacks byte front ≡ true → lacks byte back ≡ true → parts_around byte (front ++ byte ∷ back) ≡ Some (front, back)
around-back byte front back f b = ap two_words (cut_first byte front back (back ∷ []) f (cut_one byte back b))

pair-back : (pair : List ℕ × List ℕ) → IsPrintedPair pair → pair_of_word (pair_word pair) ≡ Some pair
unfolding pair_of_word
pair-back pair is =
    ap pair_of_word (pair_flat pair)
    ∙ ap (λ o. o >>= λ (parts : List ℕ × List ℕ). key_of_word parts.0 >>= λ (key : List ℕ). value_of_word parts.1 >>= λ (value : List ℕ). Some (key, value))
    (around-back 61 (word pair.0) (word pair.1) (word_lacks_equals pair.0 is.0.bytes) (word_lacks_equals pair.1 is.1.bytes))
    ∙ ap (λ o. o >>= λ (key : List ℕ). value_of_word (word pair.1) >>= λ (value : List ℕ). Some (key, value)) (key-back pair.0 is.0)
    ∙ ap (λ o. o >>= λ (value : List ℕ). Some (pair.0, value)) (value-back pair.1 is.1)

placed-back : (placed : Placed) → IsPrintedPlaced placed → placed_of_word (placed_word placed) ≡ Some placed
unfolding placed_of_word
placed-back placed is =
    let level : placed.level < 2 ^ 64 = omega (arith, is.level) in
    let behind : List ℕ = decimal placed.level ++ 35 ∷ decimal placed.number in
    let lack : lacks 64 (decimal placed.level ++ 35 ∷ decimal placed.number) ≡ true =
    join_lacks 64 (decimal placed.level) (35 ∷ decimal placed.number) (decimal_lacks 64 placed.level (λ digit low e. omega arith) level)
    (decimal_lacks 64 placed.number (λ digit low e. omega arith) is.number) in
    ap placed_of_word (placed_flat placed)
    ∙ ap (λ o. o >>= λ (file : List ℕ × List ℕ). parts_around 35 file.1 >>= λ (level : List ℕ × List ℕ). number_of_word file.0 >>= λ (number : ℕ). number_below (2 ^ 8) level.0 >>= λ (at : ℕ). number_of_word level.1 >>= λ (sequence : ℕ). Some (record { file = number; level = at; number = sequence }))
    (around-back 64 (decimal placed.file) behind (decimal_lacks 64 placed.file (λ digit low e. omega arith) is.file) lack)
    ∙ ap (λ o. o >>= λ (level : List ℕ × List ℕ). number_of_word (decimal placed.file) >>= λ (number : ℕ). number_below (2 ^ 8) level.0 >>= λ (at : ℕ). number_of_word level.1 >>= λ (sequence : ℕ). Some (record { file = number; level = at; number = sequence }))
    (around-back 35 (decimal placed.level) (decimal placed.number) (decimal_lacks 35 placed.level (λ digit low e. omega arith) level) (decimal_lacks 35 placed.number (λ digit low e. omega arith) is.number))
    ∙ ap (λ o. o >>= λ (number : ℕ). number_below (2 ^ 8) (decimal placed.level) >>= λ (at : ℕ). number_of_word (decimal placed.number) >>= λ (sequence : ℕ). Some (record { file = number; level = at; number = sequence })) (number-back placed.file is.file)
    ∙ ap (λ o. o >>= λ (at : ℕ). number_of_word (decimal placed.number) >>= λ (sequence : ℕ). Some (record { file = placed.file; level = at; number = sequence })) (below-back (2 ^ 8) placed.level is.level (omega arith))
    ∙ ap (λ o. o >>= λ (sequence : ℕ). Some (record { file = placed.file; level = placed.level; number = sequence })) (number-back placed.number is.number)

-- ---- replies

found-back : (value : List ℕ) → IsValue value → found_reply (word value ∷ []) ≡ Some (reply.Found value)
unfolding found_reply
found-back value is = ap (λ o. o >>= λ (v : List ℕ). Some (reply.Found v)) (value-back value is)

reply-back : (one : Reply) → IsPrinted one → reply_of (reply_line one) ≡ Some one
unfolding plain_reply long_reply
reply-back (reply.Written number) is = made (next_number (decimal number ∷ [])) number [] (λ n. reply.Written n) (next_number-back number [] is)
reply-back (reply.Found value) is = found-back value is
reply-back reply.Nothing is = refl
reply-back (reply.View values) is =
    ap (λ o. o >>= λ (v : List (Option (List ℕ))). Some (reply.View v)) (each-back IsPrintedRead read_word read_of_word read-back values is)
reply-back (reply.Pairs pairs) is =
    ap (λ o. o >>= λ (v : List (List ℕ × List ℕ)). Some (reply.Pairs v)) (each-back IsPrintedPair pair_word pair_of_word pair-back pairs is)
reply-back (reply.Snapshot number) is = made (next_number (decimal number ∷ [])) number [] (λ n. reply.Snapshot n) (next_number-back number [] is)
reply-back reply.Released is = refl
reply-back reply.Made is = refl
reply-back reply.Dropped is = refl
reply-back reply.Flushed is = refl
reply-back reply.Compacted is = refl
reply-back (reply.Ingested placed) is =
    ap (λ o. o >>= λ (v : List Placed). Some (reply.Ingested v)) (each-back IsPrintedPlaced placed_word placed_of_word placed-back placed is)
reply-back reply.Await is = refl
reply-back reply.Long is = refl
reply-back (reply.Refused one) is = ap (λ o. o >>= λ (r : Refusal). Some (reply.Refused r)) (refusal-back one is)

-- the words of a line are read as its place and its reply
pub line_back : (place : ℕ) (one : Reply) → place < 2 ^ 64 → IsPrinted one → place_and_reply_of (decimal place ∷ reply_line one) ≡ Some (place, one)
unfolding place_and_reply_of
line_back place one small is =
    ap (λ o. o >>= λ (first : ℕ × List (List ℕ)). reply_of first.1 >>= λ (r : Reply). Some (first.0, r)) (next_number-back place (reply_line one) small)
    ∙ ap (λ o. o >>= λ (r : Reply). Some (place, r)) (reply-back one is)

-- what is read by the rules is given back
pub given_back : {X : Type 0} (result : Result X ParseFault) (wanted : X) (reading : Option X) → Gives result reading → reading ≡ Some wanted → GivesBack result wanted
given_back (Ok found) wanted reading read is = let same : Some found ≡ Some wanted = sym read ∙ is in cc
given_back (Err Mismatch) wanted reading read is = let never : None ≡ Some wanted = sym read ∙ is in absurd (cc)
given_back (Err OutOfMemory) wanted reading read is = tt
