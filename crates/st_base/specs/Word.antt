-- Bytes as words of a text.
use Rattle.std.specs.Prelude.{ℕ, Bool, ◌&&◌, not, ◌+◌, ◌/◌, ◌%◌, ◌==◌, nat_lt, nat_le, List, [], ◌∷◌, flat_map, if◌then◌else◌}

-- from `!` to `~`, but for `\` and `=`
abbrev pub is_plain : ℕ → Bool
is_plain byte = nat_le 33 byte && nat_le byte 126 && not (byte == 92) && not (byte == 61)

-- 0 to 9, then a to f
abbrev pub hex_digit : ℕ → ℕ
hex_digit digit = if nat_lt digit 10 then 48 + digit else 87 + digit

-- a plain byte stands for itself, any other is `\x` and its two hexadecimal digits
abbrev pub byte_word : ℕ → List ℕ
byte_word byte = if is_plain byte then byte ∷ [] else 92 ∷ 120 ∷ hex_digit (byte / 16) ∷ hex_digit (byte % 16) ∷ []

-- the only spelling of a byte string; that of no bytes is `\e`
abbrev pub word : List ℕ → List ℕ
word [] = 92 ∷ 101 ∷ []
word (byte ∷ bytes) = flat_map byte_word (byte ∷ bytes)
