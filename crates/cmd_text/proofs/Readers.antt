-- What the readers of a reply's words do, over plain variables.
use Rattle.std.proofs.Common.{◌≡◌, ℕ, ◌<◌, ◌+◌, ◌==◌, List, [], ◌∷◌, ◌++◌, length, drop, get_or, refl, sym, ap, ◌∙◌, arith, append_assoc, append-nil}
use Rattle.std.specs.Prelude.{Option, Some, None, option_map}
use Rattle.std.proofs.lemmas.List.{drop_more}
use Rattle.std.proofs.lemmas.List.Splits.{length-slice_split}
use Rattle.build_text.specs.Words.{◌>>=◌, parts_at, two_words}
use Rattle.cmd_text.specs.Readings.{each_of, number_of_word, parts_around, with_digit, with_digits}

-- ---- numbers

pub some_digits : (digits : List ℕ) → 0 < length digits → number_of_word digits ≡ with_digits 0 digits
some_digits [] some = absurd (omega arith)
some_digits (digit ∷ digits) some = refl

-- what stands at the index is no digit, or one too many
pub no_digit : (word : List ℕ) (index number : ℕ) → index < length word → with_digit number (get_or word index 0) ≡ None → with_digits number (drop index word) ≡ with_digits 0 word → number_of_word word ≡ None
no_digit word index number there none all =
    some_digits word (omega (arith, there))
    ∙ sym all
    ∙ ap (with_digits number) (drop_more word index 0 there)
    ∙ ap (λ o. o >>= λ more. with_digits more (drop (index + 1) word)) none

-- ---- a word around a byte

pub around_none : (byte : ℕ) (word : List ℕ) → parts_at byte word ≡ word ∷ [] → parts_around byte word ≡ None
around_none byte word whole = ap two_words whole

pub around_one : (byte : ℕ) (word front back : List ℕ) → parts_at byte word ≡ front ∷ parts_at byte back → parts_at byte back ≡ back ∷ [] → parts_around byte word ≡ Some (front, back)
around_one byte word front back first last = ap two_words (first ∙ ap (λ parts. front ∷ parts) last)

more-than-two : (first second : List ℕ) (others : List (List ℕ)) → 0 < length others → two_words (first ∷ second ∷ others) ≡ None
more-than-two first second [] some = absurd (omega arith)
more-than-two first second (third ∷ others) some = refl

pub around_more : (byte : ℕ) (word front back middle rest : List ℕ) → parts_at byte word ≡ front ∷ parts_at byte back → parts_at byte back ≡ middle ∷ parts_at byte rest → parts_around byte word ≡ None
around_more byte word front back middle rest first second =
    ap two_words (first ∙ ap (λ parts. front ∷ parts) second)
    ∙ more-than-two front middle (parts_at byte rest) (omega (arith, length-slice_split (λ one. one == byte) rest))

-- ---- lists

module _ {X : Type 0} where
  -- elements in front of what the words behind them give
  abbrev pub behind : List X → Option (List X) → Option (List X)
  behind items others = option_map (λ more. items ++ more) others

  behind-nil : (others : Option (List X)) → behind [] others ≡ others
  behind-nil None = refl
  behind-nil (Some more) = refl

  -- no word is read
  pub none_read : (reading : List ℕ → Option X) (words : List (List ℕ)) → behind [] (each_of reading words) ≡ each_of reading words
  none_read reading words = behind-nil (each_of reading words)

  one-more : (items : List X) (x : X) (others : Option (List X)) → behind items (others >>= λ more. Some (x ∷ more)) ≡ behind (items ++ x ∷ []) others
  one-more items x None = refl
  one-more items x (Some more) = ap Some (sym (append_assoc items (x ∷ []) more))

  -- one word more
  pub one_read : (reading : List ℕ → Option X) (items : List X) (x : X) (word : List ℕ) (words left all : List (List ℕ)) → words ≡ word ∷ left → reading word ≡ Some x → behind items (each_of reading words) ≡ each_of reading all
      → behind (items ++ x ∷ []) (each_of reading left) ≡ each_of reading all
  one_read reading items x word words left all is read e =
      sym (one-more items x (each_of reading left))
      ∙ ap (behind items) (sym (ap (each_of reading) is ∙ ap (λ o. o >>= λ one. each_of reading left >>= λ more. Some (one ∷ more)) read)) ∙ e

  -- a word that isn't read
  pub not_read : (reading : List ℕ → Option X) (items : List X) (word : List ℕ) (words left all : List (List ℕ)) → words ≡ word ∷ left → reading word ≡ None → behind items (each_of reading words) ≡ each_of reading all → each_of reading all ≡ None
  not_read reading items word words left all is read e =
      sym e ∙ ap (behind items) (ap (each_of reading) is ∙ ap (λ o. o >>= λ one. each_of reading left >>= λ more. Some (one ∷ more)) read)

  -- all words are read
  pub all_read : (reading : List ℕ → Option X) (items : List X) (words all : List (List ℕ)) → words ≡ [] → behind items (each_of reading words) ≡ each_of reading all → each_of reading all ≡ Some items
  all_read reading items words all none e = sym e ∙ ap (λ w. behind items (each_of reading w)) none ∙ ap Some (append-nil items)
