-- Bytes as words: the word of bytes is read as them, and no other word is.
use Rattle.std.proofs.Common.{◌≡◌, ℕ, Bool, true, false, cond, ◌&&◌, ◌==◌, ◌<◌, ◌/◌, ◌%◌, ◌*◌, ◌+◌, List, [], ◌∷◌, ◌++◌, length, length-append, append_assoc, refl, sym, ap, ◌∙◌, subst, arith}
use Rattle.std.specs.Prelude.{⊤, flat_map, codes, Option, Some, None, option_map}
use Rattle.std.specs.List.{list_all}
use Rattle.std.proofs.lemmas.Bool.{and_parts, and_left, eqb-true, cond-true, cond-false}
use Rattle.std.proofs.lemmas.Bool.Decides.{nat_tests}
use Rattle.st_base.proofs.Same.{same_true}
use Rattle.st_base.specs.Bytes.{same}
use Rattle.st_base.specs.Word.{is_plain, hex_digit, byte_word, word}
use Rattle.build_text.specs.Words.{◌>>=◌, AreBytes, byte_and, bytes_of_word, escaped_byte, hex_value, spelled_bytes}

-- ---- the byte at the front of a spelling

-- a plain byte
pub spelled_plain : (byte : ℕ) (rest : List ℕ) → is_plain byte ≡ true → spelled_bytes (byte ∷ rest) ≡ byte_and (Some byte) (spelled_bytes rest)
spelled_plain byte [] plain = cond-true (is_plain byte) _ _ plain
spelled_plain byte (second ∷ []) plain = cond-true (is_plain byte) _ _ plain
spelled_plain byte (second ∷ high ∷ []) plain = cond-true (is_plain byte) _ _ plain
spelled_plain byte (second ∷ high ∷ low ∷ rest) plain = cond-true (is_plain byte) _ _ plain

-- `\x` and two digits
pub spelled_escape : (high low : ℕ) (rest : List ℕ) → spelled_bytes (92 ∷ 120 ∷ high ∷ low ∷ rest) ≡ byte_and (escaped_byte high low) (spelled_bytes rest)
spelled_escape high low rest = refl

-- plain bytes spell themselves
plain_spelled : (bytes : List ℕ) → list_all is_plain bytes ≡ true → spelled_bytes bytes ≡ Some bytes
plain_spelled [] plain = refl
plain_spelled (byte ∷ bytes) plain =
    let each = and_parts (is_plain byte) (list_all is_plain bytes) plain in
    spelled_plain byte bytes each.0 ∙ ap (byte_and (Some byte)) (plain_spelled bytes each.1)

-- ---- hexadecimal digits

hex_forth : (value : ℕ) → value < 16 → hex_value (hex_digit value) ≡ Some value
hex_forth value small = grind (arith, nat_tests)

hex_back : (digit value : ℕ) → hex_value digit ≡ Some value → (value < 16) × (hex_digit value ≡ digit)
hex_back digit value e = grind (arith, nat_tests)

sixteens-of : (byte : ℕ) → byte < 256 → (byte / 16 < 16) × (byte % 16 < 16) × (16 * (byte / 16) + byte % 16 ≡ byte)
sixteens-of byte small = (omega arith, omega arith, omega arith)

digits-of : (high low : ℕ) → high < 16 → low < 16 → ((16 * high + low) / 16 ≡ high) × ((16 * high + low) % 16 ≡ low)
digits-of high low h l = (omega arith, omega arith)

-- the byte of two digits that are read
abbrev of-digits : Option ℕ → Option ℕ → Option ℕ
of-digits high low = high >>= λ sixteens. low >>= λ ones. cond (is_plain (16 * sixteens + ones)) None (Some (16 * sixteens + ones))

escape-at : (high low sixteens ones : ℕ) → hex_value high ≡ Some sixteens → hex_value low ≡ Some ones → escaped_byte high low ≡ of-digits (Some sixteens) (Some ones)
escape-at high low sixteens ones e f = ap (λ a. of-digits a (hex_value low)) e ∙ ap (of-digits (Some sixteens)) f

-- the two digits of a byte that doesn't stand for itself
escape_forth : (byte : ℕ) → byte < 256 → is_plain byte ≡ false → escaped_byte (hex_digit (byte / 16)) (hex_digit (byte % 16)) ≡ Some byte
escape_forth byte small plain =
    let parts = sixteens-of byte small in
    escape-at (hex_digit (byte / 16)) (hex_digit (byte % 16)) (byte / 16) (byte % 16) (hex_forth (byte / 16) parts.0) (hex_forth (byte % 16) parts.1)
    ∙ ap (λ b. cond (is_plain b) None (Some b)) parts.2
    ∙ cond-false (is_plain byte) None (Some byte) plain

-- what two digits stand for has these digits
abbrev IsEscape : ℕ → ℕ → ℕ → Type 0
IsEscape high low byte = (byte < 256) × (byte_word byte ≡ 92 ∷ 120 ∷ high ∷ low ∷ [])

is-spelled : (n byte : ℕ) (t : Bool) → cond t None (Some n) ≡ Some byte → (n ≡ byte) × (t ≡ false)
is-spelled n byte true e = absurd (cc)
is-spelled n byte false e = (cc, refl)

escape-of : (high low sixteens ones : ℕ) → hex_value high ≡ Some sixteens → hex_value low ≡ Some ones → is_plain (16 * sixteens + ones) ≡ false → IsEscape high low (16 * sixteens + ones)
escape-of high low sixteens ones e f plain =
    let h = hex_back high sixteens e in
    let l = hex_back low ones f in
    let digits = digits-of sixteens ones h.0 l.0 in
    let byte = 16 * sixteens + ones in
    let small : byte < 256 = omega (arith, h.0, l.0) in (
      small,
      cond-false (is_plain byte) (byte ∷ []) (92 ∷ 120 ∷ hex_digit (byte / 16) ∷ hex_digit (byte % 16) ∷ []) plain
          ∙ ap (λ v. 92 ∷ 120 ∷ hex_digit v ∷ hex_digit (byte % 16) ∷ []) digits.0
          ∙ ap (λ v. 92 ∷ 120 ∷ hex_digit sixteens ∷ hex_digit v ∷ []) digits.1
          ∙ ap (λ v. 92 ∷ 120 ∷ v ∷ hex_digit ones ∷ []) h.1
          ∙ ap (λ v. 92 ∷ 120 ∷ high ∷ v ∷ []) l.1,
    )

escape-by : (high low byte : ℕ) (a b : Option ℕ) → hex_value high ≡ a → hex_value low ≡ b → of-digits a b ≡ Some byte → IsEscape high low byte
escape-by high low byte None b e f g = absurd (cc)
escape-by high low byte (Some sixteens) None e f g = absurd (cc)
escape-by high low byte (Some sixteens) (Some ones) e f g =
    let is = is-spelled (16 * sixteens + ones) byte (is_plain (16 * sixteens + ones)) g in
    subst (IsEscape high low) is.0 (escape-of high low sixteens ones e f is.1)

escape_back : (high low byte : ℕ) → escaped_byte high low ≡ Some byte → IsEscape high low byte
escape_back high low byte e = escape-by high low byte (hex_value high) (hex_value low) refl refl e

-- ---- a spelling is that of what it is read as

abbrev Spells : List ℕ → Option (List ℕ) → Type 0
Spells spelling None = ⊤
Spells spelling (Some bytes) = (spelling ≡ flat_map byte_word bytes) × AreBytes bytes

plain-small : (byte : ℕ) → is_plain byte ≡ true → byte < 256
plain-small byte plain = grind (arith, nat_tests)

-- a plain byte in front
spells_plain : (byte : ℕ) (rest : List ℕ) (reading : Option (List ℕ)) → is_plain byte ≡ true → Spells rest reading → Spells (byte ∷ rest) (byte_and (Some byte) reading)
spells_plain byte rest None plain spells = tt
spells_plain byte rest (Some bytes) plain spells =
    let itself : byte_word byte ≡ byte ∷ [] = cond-true (is_plain byte) (byte ∷ []) (92 ∷ 120 ∷ hex_digit (byte / 16) ∷ hex_digit (byte % 16) ∷ []) plain in
    (ap (λ v. byte ∷ v) spells.0 ∙ sym (ap (λ w. w ++ flat_map byte_word bytes) itself), (plain-small byte plain, spells.1))

-- an escape in front
spells_escape : (high low : ℕ) (rest : List ℕ) (reading : Option (List ℕ)) (byte : Option ℕ) → escaped_byte high low ≡ byte → Spells rest reading → Spells (92 ∷ 120 ∷ high ∷ low ∷ rest) (byte_and byte reading)
spells_escape high low rest reading None e spells = tt
spells_escape high low rest None (Some byte) e spells = tt
spells_escape high low rest (Some bytes) (Some byte) e spells =
    let back = escape_back high low byte e in
    (ap (λ v. 92 ∷ 120 ∷ high ∷ low ∷ v) spells.0 ∙ sym (ap (λ w. w ++ flat_map byte_word bytes) back.1), (back.0, spells.1))

by_plain : (first : ℕ) (rest : List ℕ) (reading other : Option (List ℕ)) (b : Bool) → is_plain first ≡ b → Spells rest reading → Spells (first ∷ rest) other → Spells (first ∷ rest) (cond b (byte_and (Some first) reading) other)
by_plain first rest reading other true plain spells others = spells_plain first rest reading plain spells
by_plain first rest reading other false plain spells others = others

by_escape : (first second high low : ℕ) (rest : List ℕ) (reading : Option (List ℕ)) (b : Bool) → (first == 92 && second == 120) ≡ b → Spells rest reading → Spells (first ∷ second ∷ high ∷ low ∷ rest) (cond b (byte_and (escaped_byte high low) reading) None)
by_escape first second high low rest reading true is spells =
    let each = and_parts (first == 92) (second == 120) is in
    let other = byte_and (escaped_byte high low) reading in
    subst (λ v. Spells (v ∷ second ∷ high ∷ low ∷ rest) other) (sym (eqb-true first 92 each.0))
    (subst (λ v. Spells (92 ∷ v ∷ high ∷ low ∷ rest) other) (sym (eqb-true second 120 each.1))
    (spells_escape high low rest reading (escaped_byte high low) refl spells))
by_escape first second high low rest reading false is spells = tt

spells : (spelling : List ℕ) → Spells spelling (spelled_bytes spelling)
spells [] = (refl, tt)
spells (first ∷ []) = by_plain first [] (Some []) None (is_plain first) refl (refl, tt) tt
spells (first ∷ second ∷ []) = by_plain first (second ∷ []) (spelled_bytes (second ∷ [])) None (is_plain first) refl (spells (second ∷ [])) tt
spells (first ∷ second ∷ high ∷ []) = by_plain first (second ∷ high ∷ []) (spelled_bytes (second ∷ high ∷ [])) None (is_plain first) refl (spells (second ∷ high ∷ [])) tt
spells (first ∷ second ∷ high ∷ low ∷ rest) =
    by_plain first (second ∷ high ∷ low ∷ rest) (spelled_bytes (second ∷ high ∷ low ∷ rest))
    (cond (first == 92 && second == 120) (byte_and (escaped_byte high low) (spelled_bytes rest)) None)
    (is_plain first) refl (spells (second ∷ high ∷ low ∷ rest))
    (by_escape first second high low rest (spelled_bytes rest) (first == 92 && second == 120) refl (spells rest))

-- ---- the laws of words

-- a word that isn't `\e` is a spelling
word-spelled : (spelling : List ℕ) → 0 < length spelling → same spelling (codes "\\e") ≡ false → bytes_of_word spelling ≡ spelled_bytes spelling
word-spelled [] some other = absurd (omega arith)
word-spelled (first ∷ rest) some other = cond-false (same (first ∷ rest) (codes "\\e")) (Some []) (spelled_bytes (first ∷ rest)) other

plain-other : (byte : ℕ) → is_plain byte ≡ true → (byte == 92) ≡ false
plain-other byte plain = grind (arith, nat_tests)

plain-starts : (byte : ℕ) (rest : List ℕ) → is_plain byte ≡ true → same (byte ∷ rest) (codes "\\e") ≡ false
plain-starts byte rest plain = and_left (byte == 92) (same rest (101 ∷ [])) (plain-other byte plain)

other-by : (byte : ℕ) (rest : List ℕ) (t : Bool) → is_plain byte ≡ t → same (cond t (byte ∷ []) (92 ∷ 120 ∷ hex_digit (byte / 16) ∷ hex_digit (byte % 16) ∷ []) ++ rest) (codes "\\e") ≡ false
other-by byte rest true plain = plain-starts byte rest plain
other-by byte rest false plain = refl

some-by : (t : Bool) (byte : ℕ) (spelling : List ℕ) → 0 < length (cond t (byte ∷ []) (92 ∷ spelling))
some-by true byte spelling = omega arith
some-by false byte spelling = omega arith

word-some : (byte : ℕ) (bytes : List ℕ) → 0 < length (flat_map byte_word (byte ∷ bytes))
word-some byte bytes =
    let front : 0 < length (byte_word byte) = some-by (is_plain byte) byte (120 ∷ hex_digit (byte / 16) ∷ hex_digit (byte % 16) ∷ []) in
    omega (arith, front, length-append (byte_word byte) (flat_map byte_word bytes))

spelled-by : (byte : ℕ) (bytes rest : List ℕ) (t : Bool) → is_plain byte ≡ t → byte < 256 → spelled_bytes rest ≡ Some bytes → spelled_bytes (cond t (byte ∷ []) (92 ∷ 120 ∷ hex_digit (byte / 16) ∷ hex_digit (byte % 16) ∷ []) ++ rest) ≡ Some (byte ∷ bytes)
spelled-by byte bytes rest true plain small e = spelled_plain byte rest plain ∙ ap (byte_and (Some byte)) e
spelled-by byte bytes rest false plain small e =
    ap (λ o. byte_and o (spelled_bytes rest)) (escape_forth byte small plain) ∙ ap (byte_and (Some byte)) e

read-spelled : (bytes : List ℕ) → AreBytes bytes → spelled_bytes (flat_map byte_word bytes) ≡ Some bytes
read-spelled [] are = refl
read-spelled (byte ∷ bytes) are = spelled-by byte bytes (flat_map byte_word bytes) (is_plain byte) refl are.0 (read-spelled bytes are.1)

-- the word of bytes is read as these bytes
pub read_word : (bytes : List ℕ) → AreBytes bytes → bytes_of_word (word bytes) ≡ Some bytes
read_word [] are = refl
read_word (byte ∷ bytes) are =
    word-spelled (flat_map byte_word (byte ∷ bytes)) (word-some byte bytes) (other-by byte (flat_map byte_word bytes) (is_plain byte) refl)
    ∙ read-spelled (byte ∷ bytes) are

word-of : (bytes spelling : List ℕ) → 0 < length spelling → spelling ≡ flat_map byte_word bytes → spelling ≡ word bytes
word-of [] spelling some e = absurd (omega (arith, ap length e))
word-of (byte ∷ bytes) spelling some e = e

only-by : (spelling bytes : List ℕ) (t : Bool) → 0 < length spelling → same spelling (codes "\\e") ≡ t → cond t (Some []) (spelled_bytes spelling) ≡ Some bytes → (spelling ≡ word bytes) × AreBytes bytes
only-by spelling bytes true some is e =
    let none : [] ≡ bytes = cc in
    subst (λ v. (spelling ≡ word v) × AreBytes v) none (same_true spelling (codes "\\e") is, tt)
only-by spelling bytes false some is e =
    let h : Spells spelling (Some bytes) = subst (Spells spelling) e (spells spelling) in
    (word-of bytes spelling some h.0, h.1)

-- and it is the only word that is
pub only_word : (spelling bytes : List ℕ) → bytes_of_word spelling ≡ Some bytes → (spelling ≡ word bytes) × AreBytes bytes
only_word [] bytes e = absurd (cc)
only_word (first ∷ rest) bytes e = only-by (first ∷ rest) bytes (same (first ∷ rest) (codes "\\e")) (omega arith) refl e

-- some plain bytes stand for themselves
pub plain_word : (spelling : List ℕ) → 0 < length spelling → list_all is_plain spelling ≡ true → bytes_of_word spelling ≡ Some spelling
plain_word [] some plain = absurd (omega arith)
plain_word (first ∷ rest) some plain =
    word-spelled (first ∷ rest) some (plain-starts first rest (and_parts (is_plain first) (list_all is_plain rest) plain).0)
    ∙ plain_spelled (first ∷ rest) plain

-- so they are their own word
pub plain_printed : (bytes : List ℕ) → 0 < length bytes → list_all is_plain bytes ≡ true → word bytes ≡ bytes
plain_printed bytes some plain = sym (only_word bytes bytes (plain_word bytes some plain)).0

-- ---- a spelling, of which some bytes are read

-- none is read
pub spelled_begin : (bytes : List ℕ) (reading : Option (List ℕ)) → bytes ≡ [] → option_map (λ left. bytes ++ left) reading ≡ reading
spelled_begin bytes None none = refl
spelled_begin bytes (Some left) none = ap (λ (front : List ℕ). let found : Option (List ℕ) = Some (front ++ left) in found) none

less-by : (bytes : List ℕ) (byte : ℕ) (reading : Option (List ℕ)) → option_map (λ left. (bytes ++ byte ∷ []) ++ left) reading ≡ option_map (λ left. bytes ++ left) (byte_and (Some byte) reading)
less-by bytes byte None = refl
less-by bytes byte (Some left) = ap Some (append_assoc bytes (byte ∷ []) left)

-- one byte more
pub spelled_less : (all : Option (List ℕ)) (bytes rest after : List ℕ) (byte : ℕ) → option_map (λ left. bytes ++ left) (spelled_bytes rest) ≡ all → spelled_bytes rest ≡ byte_and (Some byte) (spelled_bytes after) → option_map (λ left. (bytes ++ byte ∷ []) ++ left) (spelled_bytes after) ≡ all
spelled_less all bytes rest after byte e f =
    less-by bytes byte (spelled_bytes after) ∙ ap (option_map (λ left. bytes ++ left)) (sym f) ∙ e
