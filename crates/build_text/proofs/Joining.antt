-- The words of a line that is words, parted by one space.
use Rattle.std.proofs.Common.{◌≡◌, ℕ, Bool, true, false, cond, not, ◌==◌, nat_lt, ◌<◌, ◌+◌, ◌/◌, ◌%◌, List, [], ◌∷◌, ◌++◌, refl, sym, ap, ◌∙◌, arith}
use Rattle.std.specs.Prelude.{flat_map}
use Rattle.std.specs.List.{list_all, join_with_byte, onto_first}
use Rattle.std.proofs.lemmas.Bool.{false≢true, ne_eqb, eq-eqb, cond-true, and_parts, and_from}
use Rattle.std.proofs.lemmas.Bool.Decides.{nat_tests}
use Rattle.std.proofs.lemmas.List.Folds.{list_all-append}
use Rattle.st_base.specs.Word.{is_plain, hex_digit, byte_word, word}
use Rattle.build_text.specs.Words.{parts_at, words}

-- no byte is this one
abbrev pub lacks : ℕ → List ℕ → Bool
lacks c bytes = list_all (λ byte. not (byte == c)) bytes

-- ---- a list is cut between its parts

cut-cons : (c byte : ℕ) (bytes first : List ℕ) (others : List (List ℕ)) (b : Bool) → not b ≡ true → parts_at c bytes ≡ first ∷ others → cond b ([] ∷ parts_at c bytes) (onto_first byte (parts_at c bytes)) ≡ (byte ∷ first) ∷ others
cut-cons c byte bytes first others true other e = absurd (false≢true other)
cut-cons c byte bytes first others false other e = ap (onto_first byte) e

pub cut_one : (c : ℕ) (first : List ℕ) → lacks c first ≡ true → parts_at c first ≡ first ∷ []
cut_one c [] lack = refl
cut_one c (byte ∷ bytes) lack =
    let each = and_parts (not (byte == c)) (lacks c bytes) lack in
    cut-cons c byte bytes bytes [] (byte == c) each.0 (cut_one c bytes each.1)

pub cut_first : (c : ℕ) (first rest : List ℕ) (others : List (List ℕ)) → lacks c first ≡ true → parts_at c rest ≡ others → parts_at c (first ++ c ∷ rest) ≡ first ∷ others
cut_first c [] rest others lack e = cond-true (c == c) _ _ (eq-eqb c c refl) ∙ ap (λ v. [] ∷ v) e
cut_first c (byte ∷ bytes) rest others lack e =
    let each = and_parts (not (byte == c)) (lacks c bytes) lack in
    cut-cons c byte (bytes ++ c ∷ rest) bytes others (byte == c) each.0 (cut_first c bytes rest others each.1 e)

pub words_join : (first : List ℕ) (others : List (List ℕ)) → list_all (lacks 32) (first ∷ others) ≡ true → words (join_with_byte 32 (first ∷ others)) ≡ first ∷ others
words_join first [] lack = cut_one 32 first (and_parts (lacks 32 first) true lack).0
words_join first (next ∷ others) lack =
    let each = and_parts (lacks 32 first) (list_all (lacks 32) (next ∷ others)) lack in
    cut_first 32 first (join_with_byte 32 (next ∷ others)) (next ∷ others) each.0 (words_join next others each.1)

-- ---- a word has no byte below `!`

pub other_than : (c byte : ℕ) → (byte ≡ c → ⊥) → not (byte == c) ≡ true
other_than c byte other = ap not (ne_eqb byte c other)

-- a test that this byte doesn't pass
passes : (c : ℕ) (p : ℕ → Bool) (byte : ℕ) → p c ≡ false → p byte ≡ true → not (byte == c) ≡ true
passes c p byte fails passed = other_than c byte (λ e. false≢true (sym fails ∙ ap p (sym e) ∙ passed))

pub all-pass : (c : ℕ) (p : ℕ → Bool) (bytes : List ℕ) → p c ≡ false → list_all p bytes ≡ true → lacks c bytes ≡ true
all-pass c p [] fails passed = refl
all-pass c p (byte ∷ bytes) fails passed =
    let each = and_parts (p byte) (list_all p bytes) passed in
    and_from (not (byte == c)) (lacks c bytes) (passes c p byte fails each.0) (all-pass c p bytes fails each.1)

pub join_lacks : (c : ℕ) (front back : List ℕ) → lacks c front ≡ true → lacks c back ≡ true → lacks c (front ++ back) ≡ true
join_lacks c front back e f = list_all-append (λ byte. not (byte == c)) front back ∙ and_from (lacks c front) (lacks c back) e f

pub one-lacks : (c byte : ℕ) → (byte ≡ c → ⊥) → lacks c (byte ∷ []) ≡ true
one-lacks c byte other = and_from (not (byte == c)) true (other_than c byte other) refl

digit-by : (c : ℕ) (b : Bool) (digit : ℕ) → c < 33 → cond b (48 + digit) (87 + digit) ≡ c → ⊥
digit-by c true digit low e = omega arith
digit-by c false digit low e = omega arith

not-plain : (c : ℕ) → c < 33 → is_plain c ≡ false
not-plain c low = grind (arith, nat_tests)

byte-by : (c : ℕ) (b : Bool) (byte : ℕ) → c < 33 → is_plain byte ≡ b → lacks c (cond b (byte ∷ []) (92 ∷ 120 ∷ hex_digit (byte / 16) ∷ hex_digit (byte % 16) ∷ [])) ≡ true
byte-by c true byte low plain = and_from (not (byte == c)) true (passes c is_plain byte (not-plain c low) plain) refl
byte-by c false byte low plain =
    and_from (not (92 == c)) _ (other_than c 92 (λ e. omega arith))
    (and_from (not (120 == c)) _ (other_than c 120 (λ e. omega arith))
    (and_from (not (hex_digit (byte / 16) == c)) (lacks c (hex_digit (byte % 16) ∷ []))
    (other_than c (hex_digit (byte / 16)) (digit-by c (nat_lt (byte / 16) 10) (byte / 16) low))
    (one-lacks c (hex_digit (byte % 16)) (digit-by c (nat_lt (byte % 16) 10) (byte % 16) low))))

bytes-lack : (c : ℕ) (bytes : List ℕ) → c < 33 → lacks c (flat_map byte_word bytes) ≡ true
bytes-lack c [] low = refl
bytes-lack c (byte ∷ bytes) low =
    join_lacks c (byte_word byte) (flat_map byte_word bytes) (byte-by c (is_plain byte) byte low refl) (bytes-lack c bytes low)

pub word_lacks : (c : ℕ) (bytes : List ℕ) → c < 33 → lacks c (word bytes) ≡ true
word_lacks c [] low =
    and_from (not (92 == c)) _ (other_than c 92 (λ e. omega arith)) (one-lacks c 101 (λ e. omega arith))
word_lacks c (byte ∷ bytes) low = bytes-lack c (byte ∷ bytes) low
