-- Reading a build text line by line.
use Rattle.std.proofs.Common.{◌≡◌, ℕ, Bool, true, false, cond, not, ◌==◌, ◌<◌, ◌+◌, ◌-◌, nat_le, IsFalse, List, [], ◌∷◌, ◌++◌, length, length-append, refl, sym, ap, ◌∙◌, arith}
use Rattle.std.specs.Prelude.{Option, Some, None, Result, Ok, Err, option_map, slice_get}
use Rattle.std.proofs.lemmas.Bool.{and_left, lt-leb}
use Rattle.std.proofs.lemmas.List.Splits.{length-slice_split}
use Rattle.st_base.specs.Rows.{last_key}
use Rattle.st_base.specs.declared.entry.Entry.{Entry}
use Rattle.st_base.specs.declared.entry.Mark.TheVariants.{Put}
use Rattle.build_text.specs.declared.fault.BuildFault.{BuildFault}
use Rattle.build_text.specs.declared.fault.BuildFault.TheVariants.{Line, TooLarge, NotRising, NoEntry}
use Rattle.build_text.specs.declared.fault.BuildFault.TheVariants as build
use Rattle.build_text.specs.declared.fault.WordFault.{WordFault}
use Rattle.build_text.specs.declared.fault.WordFault.TheVariants.{NotAWord, TooLong, OutOfMemory}
use Rattle.build_text.specs.Words.{GivesBytes, text_parts}
use Rattle.build_text.specs.Build.{GivesEntries, GivesEntry, GivesMore, line_fault_of_word, and_then, at_end, build_of, entries_from, entry_of_line, is_above, is_within, entry_of_put, some_entries, unnumbered, with_build_line, with_line_entry, with_found}

-- entries that are there
pub some_stay : (entries : List Entry) → (entries ≡ [] → ⊥) → some_entries (Ok entries) ≡ Ok entries
some_stay [] some = absurd (some refl)
some_stay (entry ∷ entries) some = refl

module _ (fits : List Entry → Bool) where
  -- nothing is read yet
  pub build_begin : (text : List ℕ) → some_entries (entries_from fits [] 1 (text_parts text)) ≡ build_of fits text
  unfolding build_of
  build_begin text = refl

  from-cons : (entries : List Entry) (number : ℕ) (line : List ℕ) (parts : List (List ℕ)) → 0 < length parts → entries_from fits entries number (line ∷ parts) ≡ and_then (with_build_line fits entries number line) (λ more. entries_from fits more (number + 1) parts)
  from-cons entries number line [] some = absurd (omega arith)
  from-cons entries number line (next ∷ parts) some = refl

  -- the first line is read
  from-line : (entries : List Entry) (number : ℕ) (text line rest : List ℕ) → text_parts text ≡ line ∷ text_parts rest → entries_from fits entries number (text_parts text) ≡ and_then (with_build_line fits entries number line) (λ more. entries_from fits more (number + 1) (text_parts rest))
  from-line entries number text line rest parts =
      ap (entries_from fits entries number) parts
      ∙ from-cons entries number line (text_parts rest) (omega (arith, length-slice_split (λ byte. byte == 10) rest))

  -- a line that is read: what is left gives what the whole gives
  pub build_line_read : (entries more : List Entry) (number : ℕ) (text line rest : List ℕ) → with_build_line fits entries number line ≡ Ok more → text_parts text ≡ line ∷ text_parts rest → entries_from fits more (number + 1) (text_parts rest) ≡ entries_from fits entries number (text_parts text)
  build_line_read entries more number text line rest e parts =
      sym (from-line entries number text line rest parts ∙ ap (λ r. and_then r (λ more. entries_from fits more (number + 1) (text_parts rest))) e)

  -- a faulty line
  pub build_line_fault : (entries : List Entry) (number : ℕ) (fault : BuildFault) (text line rest : List ℕ) → with_build_line fits entries number line ≡ Err fault → text_parts text ≡ line ∷ text_parts rest → entries_from fits entries number (text_parts text) ≡ Err fault
  build_line_fault entries number fault text line rest e parts =
      from-line entries number text line rest parts ∙ ap (λ r. and_then r (λ more. entries_from fits more (number + 1) (text_parts rest))) e

  -- nothing is left
  pub build_end : (entries : List Entry) (number : ℕ) (text : List ℕ) → length text ≡ 0 → entries_from fits entries number (text_parts text) ≡ Ok entries
  build_end entries number [] none = refl
  build_end entries number (byte ∷ text) none = absurd (omega (arith, none))

  cut-end : (entries : List Entry) (number : ℕ) (text : List ℕ) → 0 < length text → at_end entries number text ≡ Err (Line number)
  cut-end entries number [] some = absurd (omega arith)
  cut-end entries number (byte ∷ text) some = refl

  -- something is left, and no line feed ends it
  pub build_cut : (entries : List Entry) (number : ℕ) (text : List ℕ) → 0 < length text → text_parts text ≡ text ∷ [] → entries_from fits entries number (text_parts text) ≡ Err (Line number)
  build_cut entries number text some parts = ap (entries_from fits entries number) parts ∙ cut-end entries number text some

  -- a line isn't read
  pub build_stops : (X : Type 0) (entries more out : List Entry) (number : ℕ) (fault : BuildFault) (rest line after : List ℕ) (all : Result (List Entry) BuildFault) → GivesMore {X = X} (Err fault) more (with_build_line fits entries number line)
      → text_parts rest ≡ line ∷ text_parts after → entries_from fits entries number (text_parts rest) ≡ all → GivesMore {X = X} (Err fault) out all
  build_stops X entries more out number (Line n) rest line after all gives parts e = sym e ∙ build_line_fault entries number (Line n) rest line after gives parts
  build_stops X entries more out number (TooLarge n) rest line after all gives parts e = sym e ∙ build_line_fault entries number (TooLarge n) rest line after gives parts
  build_stops X entries more out number (NotRising n) rest line after all gives parts e = sym e ∙ build_line_fault entries number (NotRising n) rest line after gives parts
  build_stops X entries more out number NoEntry rest line after all gives parts e = sym e ∙ build_line_fault entries number NoEntry rest line after gives parts
  build_stops X entries more out number build.OutOfMemory rest line after all gives parts e = tt

  -- ---- the whole text

  -- a text that isn't read
  pub build_refused : (X : Type 0) (entries : List Entry) (fault : BuildFault) (text : List ℕ) → GivesMore {X = X} (Err fault) entries (entries_from fits [] 1 (text_parts text)) → GivesEntries (Err fault) (build_of fits text)
  build_refused X entries (Line n) text gives = sym (build_begin text) ∙ ap some_entries gives
  build_refused X entries (TooLarge n) text gives = sym (build_begin text) ∙ ap some_entries gives
  build_refused X entries (NotRising n) text gives = sym (build_begin text) ∙ ap some_entries gives
  build_refused X entries NoEntry text gives = sym (build_begin text) ∙ ap some_entries gives
  build_refused X entries build.OutOfMemory text gives = tt

  -- a text without lines
  pub build_none : (entries : List Entry) (text : List ℕ) → entries ≡ [] → entries_from fits [] 1 (text_parts text) ≡ Ok entries → build_of fits text ≡ Err NoEntry
  build_none entries text none e = sym (build_begin text) ∙ ap some_entries (e ∙ ap (λ (l : List Entry). let r : Result (List Entry) BuildFault = Ok l in r) none)

  -- a text that is read
  pub build_some : (entries : List Entry) (text : List ℕ) → (entries ≡ [] → ⊥) → entries_from fits [] 1 (text_parts text) ≡ Ok entries → build_of fits text ≡ Ok entries
  build_some entries text some e = sym (build_begin text) ∙ ap some_entries e ∙ some_stay entries some

  -- ---- one line more

  goes-on : {X : Type 0} (b : Bool) (x y : X) → b ≡ true → cond (not b) x y ≡ y
  goes-on true x y e = refl
  goes-on false x y e = absurd (cc)

  stops : {X : Type 0} (b : Bool) (x y : X) → b ≡ false → cond (not b) x y ≡ x
  stops true x y e = absurd (cc)
  stops false x y e = refl

  -- a line that stands for no entry
  pub line_none : (entries : List Entry) (number : ℕ) (line : List ℕ) → entry_of_line line ≡ None → with_build_line fits entries number line ≡ Err (Line number)
  line_none entries number line e = ap (with_found fits entries number) e

  -- a line that stands for an entry
  pub line_some : (entries : List Entry) (number : ℕ) (line : List ℕ) (entry : Entry) → entry_of_line line ≡ Some entry → with_build_line fits entries number line ≡ with_line_entry fits entries number entry
  line_some entries number line entry e = ap (with_found fits entries number) e

  -- its key or value passes a limit
  pub entry_too_large : (entries : List Entry) (number : ℕ) (entry : Entry) → is_within entry ≡ false → with_line_entry fits entries number entry ≡ Err (TooLarge number)
  entry_too_large entries number entry within = stops (is_within entry) _ _ within

  -- its key isn't greater than the last one
  pub entry_not_rising : (entries : List Entry) (number : ℕ) (entry : Entry) → is_within entry ≡ true → is_above (last_key entries) entry.key ≡ false → with_line_entry fits entries number entry ≡ Err (NotRising number)
  entry_not_rising entries number entry within above =
      goes-on (is_within entry) _ _ within ∙ stops (is_above (last_key entries) entry.key) _ _ above

  -- the entries don't fit with it
  pub entry_not_fitting : (entries : List Entry) (number : ℕ) (entry : Entry) → is_within entry ≡ true → is_above (last_key entries) entry.key ≡ true → fits (entries ++ entry ∷ []) ≡ false → with_line_entry fits entries number entry ≡ Err (TooLarge number)
  entry_not_fitting entries number entry within above fit =
      goes-on (is_within entry) _ _ within ∙ goes-on (is_above (last_key entries) entry.key) _ _ above ∙ stops (fits (entries ++ entry ∷ [])) _ _ fit

  -- it is added
  pub entry_added : (entries : List Entry) (number : ℕ) (entry : Entry) → is_within entry ≡ true → is_above (last_key entries) entry.key ≡ true → fits (entries ++ entry ∷ []) ≡ true → with_line_entry fits entries number entry ≡ Ok (entries ++ entry ∷ [])
  entry_added entries number entry within above fit =
      goes-on (is_within entry) _ _ within ∙ goes-on (is_above (last_key entries) entry.key) _ _ above ∙ goes-on (fits (entries ++ entry ∷ [])) _ _ fit

last-added : (entries : List Entry) (entry : Entry) → slice_get (entries ++ entry ∷ []) (length entries) ≡ Some entry
last-added [] entry = refl
last-added (first ∷ entries) entry = last-added entries entry

-- the last key is then that of the entry
pub last_key_added : (entries : List Entry) (entry : Entry) → last_key (entries ++ entry ∷ []) ≡ Some entry.key
last_key_added entries entry =
    let place : length (entries ++ entry ∷ []) - 1 ≡ length entries = omega (arith, length-append entries (entry ∷ [])) in
    ap (λ n. option_map (λ e. e.key) (slice_get (entries ++ entry ∷ []) n)) place
    ∙ ap (option_map (λ e. e.key)) (last-added entries entry)

-- a key that is too long, before any value
pub key_too_large : (key_read value_read : Option (List ℕ)) (key value : List ℕ) → key_read ≡ Some key → 65535 < length key → value_read ≡ Some value → (entry : Entry) × (entry_of_put key_read value_read ≡ Some entry) × IsFalse (is_within entry)
key_too_large key_read value_read key value e long f =
    (unnumbered key (Put value), ap (λ k. entry_of_put k value_read) e ∙ ap (entry_of_put (Some key)) f, and_left (nat_le (length key) 65535) (nat_le (length value) 1048576) (lt-leb (length key) 65535 long))

-- a key that is too long, before what isn't read as a value
pub fault_behind_long : (fault : WordFault) (key_read value_read : Option (List ℕ)) (key : List ℕ) → key_read ≡ Some key → 65535 < length key → GivesBytes (Err fault) 1048576 value_read → GivesEntry (Err (line_fault_of_word fault)) (entry_of_put key_read value_read)
fault_behind_long NotAWord key_read value_read key e long gives = ap (λ k. entry_of_put k value_read) e ∙ ap (entry_of_put (Some key)) gives
fault_behind_long TooLong key_read value_read key e long gives = key_too_large key_read value_read key gives.0 e long gives.1
fault_behind_long OutOfMemory key_read value_read key e long gives = tt
