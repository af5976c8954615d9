-- The words of a reply's line: those that are printed, none of which but the fault of a table has a space.
use Rattle.std.proofs.Common.{◌≡◌, ℕ, Bool, true, false, cond, ◌&&◌, ◌==◌, ◌<◌, ◌+◌, ◌/◌, ◌%◌, ◌^◌, nat_le, nat_lt, not, List, [], ◌∷◌, ◌++◌, length, map, IsTrue, refl, sym, ap, ◌∙◌, arith, append-nil, append_assoc, true≢false}
use Rattle.std.specs.Prelude.{Some, None, Option, codes, flat_map}
use Rattle.std.specs.Fmt.{decimal}
use Rattle.std.specs.List.{AllByRecursion as Each, list_all, join_with_byte, onto_first}
use Rattle.std.proofs.lemmas.Bool.{and_parts, and_from, ltb-true}
use Rattle.std.proofs.lemmas.Fmt.{decimal_by_steps}
use Rattle.std.proofs.lemmas.List.Concat.{flat_map-append}
use Rattle.std.proofs.lemmas.List.Splits.{length-slice_split}
use Rattle.st_base.specs.Faults.{named, printed_table_fault}
use Rattle.st_base.specs.Names.{is_family, is_family_byte}
use Rattle.st_base.specs.declared.entry.KeyRange.{KeyRange}
use Rattle.st_base.specs.declared.faults.TableFault.{TableFault}
use Rattle.st_model.specs.Line.{file_words, range_words, why_words, reply_words, refusal_words, read_word, pair_word, placed_word}
use Rattle.st_base.specs.Word.{is_plain, hex_digit, byte_word, word}
use Rattle.st_model.specs.declared.refusal.FileAt.{FileAt}
use Rattle.st_model.specs.declared.refusal.Refusal.{Refusal}
use Rattle.st_model.specs.declared.refusal.Refusal.TheVariants as refusal
use Rattle.st_model.specs.declared.refusal.Why.{Why}
use Rattle.st_model.specs.declared.refusal.Why.TheVariants as why
use Rattle.st_model.specs.declared.reply.Placed.{Placed}
use Rattle.st_model.specs.declared.reply.Reply.{Reply}
use Rattle.st_model.specs.declared.reply.Reply.TheVariants as reply
use Rattle.build_text.specs.Words.{words}
use Rattle.cmd_text.specs.Replies.{IsFileAt, IsPrinted, IsPrintedPair, IsPrintedPlaced, IsPrintedRead, IsPrintedRefusal, IsWhy}
use Rattle.build_text.proofs.Joining.{all-pass, cut_one, join_lacks, lacks, one-lacks, other_than, word_lacks}

-- ---- the words of a line are those of its parts

onto-append : (byte : ℕ) (parts others : List (List ℕ)) → 0 < length parts → onto_first byte (parts ++ others) ≡ onto_first byte parts ++ others
onto-append byte [] others some = absurd (omega arith)
onto-append byte (part ∷ parts) others some = refl

cut-by : (byte : ℕ) (b : Bool) (all front back : List (List ℕ)) → all ≡ front ++ back → 0 < length front → cond b ([] ∷ all) (onto_first byte all) ≡ cond b ([] ∷ front) (onto_first byte front) ++ back
cut-by byte true all front back e some = ap (λ v. [] ∷ v) e
cut-by byte false all front back e some = ap (onto_first byte) e ∙ onto-append byte front back some

-- a space parts two lists
cut_between : (front back : List ℕ) → words (front ++ 32 ∷ back) ≡ words front ++ words back
cut_between [] back = refl
cut_between (byte ∷ front) back =
    cut-by byte (byte == 32) (words (front ++ 32 ∷ back)) (words front) (words back) (cut_between front back)
    (omega (arith, length-slice_split (λ one. one == 32) front))

-- parts that are joined by one space have the words of all of them
pub words_of_join : (first : List ℕ) (others : List (List ℕ)) → words (join_with_byte 32 (first ∷ others)) ≡ flat_map words (first ∷ others)
words_of_join first [] = sym (append-nil (words first))
words_of_join first (next ∷ others) = cut_between first (join_with_byte 32 (next ∷ others)) ∙ ap (λ v. words first ++ v) (words_of_join next others)

-- parts without a space are their own words
pub own_words : (parts : List (List ℕ)) → list_all (lacks 32) parts ≡ true → flat_map words parts ≡ parts
own_words [] lack = refl
own_words (part ∷ parts) lack =
    let each = and_parts (lacks 32 part) (list_all (lacks 32) parts) lack in
    ap (λ v. v ++ flat_map words parts) (cut_one 32 part each.0) ∙ ap (λ v. part ∷ v) (own_words parts each.1)

-- ---- which bytes the parts lack

-- a byte that is no digit
pub decimal_lacks : (c number : ℕ) → ((digit : ℕ) → digit < 10 → 48 + digit ≡ c → ⊥) → number < 2 ^ 64 → lacks c (decimal number) ≡ true
decimal_lacks c number other small =
    decimal_by_steps (λ n digits. lacks c digits ≡ true)
    (λ n h. one-lacks c (48 + n) (other n h))
    (λ n digits h lack. join_lacks c digits ((48 + n % 10) ∷ []) lack (one-lacks c (48 + n % 10) (other (n % 10) (omega arith))))
    number small

pub decimal_one : (number : ℕ) → number < 2 ^ 64 → lacks 32 (decimal number) ≡ true
decimal_one number small = decimal_lacks 32 number (λ digit low e. omega arith) small

-- `=` stands in no word
hex-other : (b : Bool) (digit : ℕ) → digit < 16 → nat_lt digit 10 ≡ b → cond b (48 + digit) (87 + digit) ≡ 61 → ⊥
hex-other true digit small is e = omega (arith, ltb-true digit 10 is)
hex-other false digit small is e = omega arith

plain-other : (byte : ℕ) → is_plain byte ≡ true → byte ≡ 61 → ⊥
plain-other byte plain e = true≢false (sym plain ∙ ap is_plain e)

byte-by : (b : Bool) (byte : ℕ) → byte < 256 → is_plain byte ≡ b → lacks 61 (cond b (byte ∷ []) (92 ∷ 120 ∷ hex_digit (byte / 16) ∷ hex_digit (byte % 16) ∷ [])) ≡ true
byte-by true byte small plain = one-lacks 61 byte (plain-other byte plain)
byte-by false byte small plain =
    and_from (not (hex_digit (byte / 16) == 61)) (lacks 61 (hex_digit (byte % 16) ∷ []))
    (other_than 61 (hex_digit (byte / 16)) (hex-other (nat_lt (byte / 16) 10) (byte / 16) (omega arith) refl))
    (one-lacks 61 (hex_digit (byte % 16)) (hex-other (nat_lt (byte % 16) 10) (byte % 16) (omega arith) refl))

bytes-lack : (bytes : List ℕ) → Each (λ byte. byte < 256) bytes → lacks 61 (flat_map byte_word bytes) ≡ true
bytes-lack [] are = refl
bytes-lack (byte ∷ bytes) are = join_lacks 61 (byte_word byte) (flat_map byte_word bytes) (byte-by (is_plain byte) byte are.0 refl) (bytes-lack bytes are.1)

pub word_lacks_equals : (bytes : List ℕ) → Each (λ byte. byte < 256) bytes → lacks 61 (word bytes) ≡ true
word_lacks_equals [] are = refl
word_lacks_equals (byte ∷ bytes) are = bytes-lack (byte ∷ bytes) are

family-lacks : (name : List ℕ) → IsTrue (is_family name) → lacks 32 name ≡ true
family-lacks name is =
    all-pass 32 is_family_byte name refl
    (and_parts (nat_le 1 (length name) && nat_le (length name) 64) (list_all is_family_byte name) is).1

spelled : (bytes : List ℕ) → lacks 32 (word bytes) ≡ true
spelled bytes = word_lacks 32 bytes (omega arith)

-- one part in front of others
also : (part : List ℕ) (parts : List (List ℕ)) → lacks 32 part ≡ true → list_all (lacks 32) parts ≡ true → list_all (lacks 32) (part ∷ parts) ≡ true
also part parts lack others = and_from (lacks 32 part) (list_all (lacks 32) parts) lack others

number-then : (number : ℕ) (parts : List (List ℕ)) → number < 2 ^ 32 → list_all (lacks 32) parts ≡ true → list_all (lacks 32) (decimal number ∷ parts) ≡ true
number-then number parts small others = also (decimal number) parts (decimal_one number (omega arith)) others

file-then : (at : FileAt) (parts : List (List ℕ)) → IsFileAt at → list_all (lacks 32) parts ≡ true → list_all (lacks 32) (file_words at ++ parts) ≡ true
file-then at parts is others = number-then at.arg (decimal at.file ∷ parts) is.argument (number-then at.file parts is.file others)

range-lacks : (range : KeyRange) → list_all (lacks 32) (range_words range) ≡ true
range-lacks range = also (word range.first) (word range.last ∷ []) (spelled range.first) (also (word range.last) [] (spelled range.last) refl)

why-lacks : (cause : Why) → IsWhy cause → list_all (lacks 32) (why_words cause) ≡ true
why-lacks (why.Key key) is = also (word key) [] (spelled key) refl
why-lacks (why.Running range) is = range-lacks range
why-lacks (why.Snapshot number) is = also (decimal number) [] (decimal_one number is) refl
why-lacks (why.Files i j) is = number-then i (decimal j ∷ []) is.0 (number-then j [] is.1 refl)
why-lacks (why.Meets range) is = range-lacks range

-- ---- the words of a refusal, and of a reply

-- the words as a line has them: the fault of a table has several
abbrev pub refusal_line : Refusal → List (List ℕ)
refusal_line (refusal.BadTable at fault) = codes "7" ∷ codes "BadTable" ∷ (file_words at ++ words (printed_table_fault fault))
refusal_line other = refusal_words other

bad-table : (at : FileAt) (fault : TableFault) → IsFileAt at → flat_map words (refusal_words (refusal.BadTable at fault)) ≡ refusal_line (refusal.BadTable at fault)
bad-table at fault is =
    let front : List (List ℕ) = codes "7" ∷ codes "BadTable" ∷ file_words at in
    let fault_words : List (List ℕ) = words (printed_table_fault fault) in
    flat_map-append words front (printed_table_fault fault ∷ [])
    ∙ ap (λ v. v ++ (fault_words ++ [])) (own_words front (file-then at [] is refl))
    ∙ ap (λ v. front ++ v) (append-nil fault_words)

refusal_cut : (one : Refusal) → IsPrintedRefusal one → flat_map words (refusal_words one) ≡ refusal_line one
refusal_cut refusal.EmptyRequest is = refl
refusal_cut (refusal.NoFiles argument) is = own_words (refusal_words (refusal.NoFiles argument)) (number-then argument [] is refl)
refusal_cut (refusal.FamilyTwice argument) is = own_words (refusal_words (refusal.FamilyTwice argument)) (number-then argument [] is refl)
refusal_cut refusal.TooManyFiles is = refl
refusal_cut (refusal.FileMissing at) is = own_words (refusal_words (refusal.FileMissing at)) (file-then at [] is refl)
refusal_cut (refusal.InputFault at) is = own_words (refusal_words (refusal.InputFault at)) (file-then at [] is refl)
refusal_cut (refusal.BadTable at fault) is = bad-table at fault is.0
refusal_cut (refusal.NoEntry at) is = own_words (refusal_words (refusal.NoEntry at)) (file-then at [] is refl)
refusal_cut (refusal.FilesMeet at file) is =
    own_words (refusal_words (refusal.FilesMeet at file)) (file-then at (decimal file ∷ []) is.0 (number-then file [] is.1 refl))
refusal_cut refusal.Stopped is = refl
refusal_cut (refusal.UnknownFamily name) is = own_words (refusal_words (refusal.UnknownFamily name)) (also name [] (family-lacks name is) refl)
refusal_cut (refusal.BehindNotEnabled argument) is = own_words (refusal_words (refusal.BehindNotEnabled argument)) (number-then argument [] is refl)
refusal_cut (refusal.SnapshotsLive argument number) is =
    own_words (refusal_words (refusal.SnapshotsLive argument number))
    (number-then argument (decimal number ∷ []) is.0 (also (decimal number) [] (decimal_one number is.1) refl))
refusal_cut (refusal.FlushNeeded at key) is =
    own_words (refusal_words (refusal.FlushNeeded at key)) (file-then at (word key ∷ []) is.0 (also (word key) [] (spelled key) refl))
refusal_cut (refusal.BehindDoesNotFit at range) is =
    own_words (refusal_words (refusal.BehindDoesNotFit at range)) (file-then at (range_words range) is.0 (range-lacks range))
refusal_cut (refusal.NeedsSequence at cause) is =
    own_words (refusal_words (refusal.NeedsSequence at cause)) (file-then at (why_words cause) is.0 (why-lacks cause is.1))
refusal_cut (refusal.NotLastLevel at level cause) is =
    own_words (refusal_words (refusal.NotLastLevel at level cause))
    (file-then at (decimal level ∷ why_words cause) is.0 (also (decimal level) (why_words cause) (decimal_one level (omega (arith, is.1.0))) (why-lacks cause is.1.1)))
refusal_cut refusal.NumbersSpent is = refl
refusal_cut refusal.StoreFull is = refl
refusal_cut refusal.DiskFault is = refl
refusal_cut (refusal.FamilyExists name) is = own_words (refusal_words (refusal.FamilyExists name)) (also name [] (family-lacks name is) refl)
refusal_cut refusal.DefaultStays is = refl
refusal_cut refusal.FamiliesFull is = refl
refusal_cut refusal.SnapshotsFull is = refl
refusal_cut (refusal.SnapshotGone id) is = own_words (refusal_words (refusal.SnapshotGone id)) (also (decimal id) [] (decimal_one id is) refl)
refusal_cut refusal.OutOfMemory is = absurd is

-- one word of a list
each-lacks : {X : Type 0} (P : X → Type 0) (spelling : X → List ℕ) → ((x : X) → P x → lacks 32 (spelling x) ≡ true) → (xs : List X) → Each P xs → list_all (lacks 32) (map spelling xs) ≡ true
each-lacks P spelling one [] each = refl
each-lacks P spelling one (x ∷ xs) each = also (spelling x) (map spelling xs) (one x each.0) (each-lacks P spelling one xs each.1)

read-lacks : (read : Option (List ℕ)) → IsPrintedRead read → lacks 32 (read_word read) ≡ true
read-lacks None is = refl
read-lacks (Some value) is = spelled value

pub pair_flat : (pair : List ℕ × List ℕ) → pair_word pair ≡ word pair.0 ++ 61 ∷ word pair.1
pair_flat pair = append_assoc (word pair.0) (codes "=") (word pair.1)

pub placed_flat : (placed : Placed) → placed_word placed ≡ decimal placed.file ++ 64 ∷ (decimal placed.level ++ 35 ∷ decimal placed.number)
placed_flat placed =
    append_assoc ((decimal placed.file ++ codes "@") ++ decimal placed.level) (codes "#") (decimal placed.number)
    ∙ append_assoc (decimal placed.file ++ codes "@") (decimal placed.level) (codes "#" ++ decimal placed.number)
    ∙ append_assoc (decimal placed.file) (codes "@") (decimal placed.level ++ (codes "#" ++ decimal placed.number))

pair-lacks : (pair : List ℕ × List ℕ) → IsPrintedPair pair → lacks 32 (pair_word pair) ≡ true
pair-lacks pair is = ap (lacks 32) (pair_flat pair) ∙ join_lacks 32 (word pair.0) (61 ∷ word pair.1) (spelled pair.0) (spelled pair.1)

placed-lacks : (placed : Placed) → IsPrintedPlaced placed → lacks 32 (placed_word placed) ≡ true
placed-lacks placed is =
    ap (lacks 32) (placed_flat placed)
    ∙ join_lacks 32 (decimal placed.file) (64 ∷ (decimal placed.level ++ 35 ∷ decimal placed.number)) (decimal_one placed.file is.file)
    (join_lacks 32 (decimal placed.level) (35 ∷ decimal placed.number) (decimal_one placed.level (omega (arith, is.level))) (decimal_one placed.number is.number))

abbrev pub reply_line : Reply → List (List ℕ)
reply_line (reply.Refused one) = codes "refused" ∷ refusal_line one
reply_line other = reply_words other

reply_cut : (one : Reply) → IsPrinted one → flat_map words (reply_words one) ≡ reply_line one
reply_cut (reply.Written number) is = own_words (reply_words (reply.Written number)) (also (decimal number) [] (decimal_one number is) refl)
reply_cut (reply.Found value) is = own_words (reply_words (reply.Found value)) (also (word value) [] (spelled value) refl)
reply_cut reply.Nothing is = refl
reply_cut (reply.View values) is = own_words (reply_words (reply.View values)) (each-lacks IsPrintedRead read_word read-lacks values is)
reply_cut (reply.Pairs pairs) is = own_words (reply_words (reply.Pairs pairs)) (each-lacks IsPrintedPair pair_word pair-lacks pairs is)
reply_cut (reply.Snapshot number) is = own_words (reply_words (reply.Snapshot number)) (also (decimal number) [] (decimal_one number is) refl)
reply_cut reply.Released is = refl
reply_cut reply.Made is = refl
reply_cut reply.Dropped is = refl
reply_cut reply.Flushed is = refl
reply_cut reply.Compacted is = refl
reply_cut (reply.Ingested placed) is = own_words (reply_words (reply.Ingested placed)) (each-lacks IsPrintedPlaced placed_word placed-lacks placed is)
reply_cut reply.Await is = refl
reply_cut reply.Long is = refl
reply_cut (reply.Refused one) is = ap (λ v. codes "refused" ∷ v) (refusal_cut one is)

-- the words of a line
pub line_words : (place : ℕ) (one : Reply) (text : List ℕ) → place < 2 ^ 64 → IsPrinted one → text ≡ join_with_byte 32 (decimal place ∷ reply_words one) → words text ≡ decimal place ∷ reply_line one
line_words place one text small is e =
    ap words e ∙ words_of_join (decimal place) (reply_words one)
    ∙ ap (λ v. v ++ flat_map words (reply_words one)) (cut_one 32 (decimal place) (decimal_one place small))
    ∙ ap (λ v. decimal place ∷ v) (reply_cut one is)

-- ---- the words of a table's fault

-- a number behind a name
pub named_words : (name : List ℕ) (number : ℕ) → number < 2 ^ 64 → words (named name number) ≡ words name ++ decimal number ∷ []
named_words name number small = cut_between name (decimal number) ∙ ap (λ v. words name ++ v) (cut_one 32 (decimal number) (decimal_one number small))

-- a text behind a name
pub words_between : (front back : List ℕ) → words (front ++ 32 ∷ back) ≡ words front ++ words back
words_between front back = cut_between front back
