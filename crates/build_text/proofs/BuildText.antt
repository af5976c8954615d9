-- A build text is that of the entries that it is read as, and they are rows.
use Rattle.std.proofs.Common.{◌≡◌, ℕ, Bool, true, false, cond, not, ◌&&◌, ◌==◌, ◌<◌, ◌≤◌, ◌+◌, ◌-◌, nat_le, IsTrue, List, [], ◌∷◌, ◌++◌, length, take, refl, sym, ap, ◌∙◌, subst, arith, lit≤, append_assoc, append-nil}
use Rattle.std.specs.Prelude.{⊤, codes, Option, Some, None, Result, Ok, Err, option_map, slice_get}
use Rattle.std.specs.List.{AllByRecursion as Each, join_with_byte, list_all}
use Rattle.std.specs.Ordering.{nat_cmp, ordering_then, is_lt}
use Rattle.std.specs.declared.cmp.Ordering.{Ordering}
use Rattle.std.specs.declared.cmp.Ordering.TheVariants.{Less, Equal, Greater}
use Rattle.std.proofs.lemmas.Bool.{false≢true, and_parts, and_from, leb-true, le-leb}
use Rattle.std.proofs.lemmas.List.{take_at}
use Rattle.std.proofs.lemmas.List.Splits.{join_with_byte-slice_split}
use Rattle.st_base.proofs.Same.{same_true}
use Rattle.st_base.specs.Bytes.{below, bytes_cmp, same}
use Rattle.st_base.specs.Entries.{mark_length}
use Rattle.st_base.specs.Order.{comes_before, in_order, rises_behind}
use Rattle.st_base.specs.Rows.{AreRows, Fits, FitsMark, last_key}
use Rattle.st_base.specs.declared.entry.Entry.{Entry}
use Rattle.st_base.specs.declared.entry.Mark.{Mark}
use Rattle.st_base.specs.declared.entry.Mark.TheVariants.{Put, Gone}
use Rattle.st_base.specs.Word.{word}
use Rattle.build_text.specs.declared.fault.BuildFault.{BuildFault}
use Rattle.build_text.specs.declared.fault.BuildFault.TheVariants.{TooLarge, NotRising}
use Rattle.build_text.specs.Words.{AreBytes, bytes_of_word, text_parts, words}
use Rattle.build_text.specs.Build.{IsBuildEntry, IsMarkOfBytes, and_then, at_end, build_line, build_of, build_text, build_words, del_entry, entries_from, entry_of_line, entry_of_words, is_above, is_within, put_entry, entry_of_put, some_entries, unnumbered, with_build_line, with_found}
use Rattle.build_text.proofs.Building.{build_line_read, entry_added, last_key_added, line_some, some_stay}
use Rattle.build_text.proofs.Joining.{cut_first, join_lacks, lacks, other_than, words_join, word_lacks}
use Rattle.build_text.proofs.SpelledBytes.{read_word, only_word}

-- ---- the line of an entry

-- it is read as the entry
words-read : (key : List ℕ) (mark : Mark) → AreBytes key → IsMarkOfBytes mark → entry_of_words (build_words key mark) ≡ Some (unnumbered key mark)
unfolding put_entry del_entry
words-read key (Put value) are value_are =
    ap (λ k. entry_of_put k (bytes_of_word (word value))) (read_word key are) ∙ ap (entry_of_put (Some key)) (read_word value value_are)
words-read key Gone are none = ap (option_map (λ k. unnumbered k Gone)) (read_word key are)

name-lacks : (c x y z : ℕ) → c < 33 → 33 ≤ x → 33 ≤ y → 33 ≤ z → lacks c (x ∷ y ∷ z ∷ []) ≡ true
name-lacks c x y z low l m n =
    and_from (not (x == c)) _ (other_than c x (λ e. omega arith))
    (and_from (not (y == c)) _ (other_than c y (λ e. omega arith)) (and_from (not (z == c)) true (other_than c z (λ e. omega arith)) refl))

words-lack : (c : ℕ) (key : List ℕ) (mark : Mark) → c < 33 → list_all (lacks c) (build_words key mark) ≡ true
words-lack c key (Put value) low =
    and_from (lacks c (codes "put")) _ (name-lacks c 112 117 116 low (lit≤ tt) (lit≤ tt) (lit≤ tt))
    (and_from (lacks c (word key)) _ (word_lacks c key low) (and_from (lacks c (word value)) true (word_lacks c value low) refl))
words-lack c key Gone low =
    and_from (lacks c (codes "del")) _ (name-lacks c 100 101 108 low (lit≤ tt) (lit≤ tt) (lit≤ tt))
    (and_from (lacks c (word key)) true (word_lacks c key low) refl)

line-lacks : (key : List ℕ) (mark : Mark) → lacks 10 (join_with_byte 32 (build_words key mark)) ≡ true
line-lacks key (Put value) =
    let low : 10 < 33 = omega arith in
    join_lacks 10 (codes "put ") (word key ++ 32 ∷ word value) refl
    (join_lacks 10 (word key) (32 ∷ word value) (word_lacks 10 key low) (word_lacks 10 value low))
line-lacks key Gone =
    let low : 10 < 33 = omega arith in
    join_lacks 10 (codes "del ") (word key) refl (word_lacks 10 key low)

line-words : (key : List ℕ) (mark : Mark) → words (join_with_byte 32 (build_words key mark)) ≡ build_words key mark
line-words key (Put value) = words_join (codes "put") (word key ∷ word value ∷ []) (words-lack 32 key (Put value) (omega arith))
line-words key Gone = words_join (codes "del") (word key ∷ []) (words-lack 32 key Gone (omega arith))

as-unnumbered : (entry : Entry) → entry.number ≡ 0 → unnumbered entry.key entry.mark ≡ entry
as-unnumbered entry e = ap (λ n. record { key = entry.key; number = n; mark = entry.mark }) (sym e)

line-read : (entry : Entry) → IsBuildEntry entry → entry_of_line (join_with_byte 32 (build_words entry.key entry.mark)) ≡ Some entry
line-read entry is =
    ap entry_of_words (line-words entry.key entry.mark) ∙ words-read entry.key entry.mark is.key is.mark ∙ ap Some (as-unnumbered entry is.number)

-- ---- a line that is read is that of its entry

abbrev IsLine : List (List ℕ) → Entry → Type 0
IsLine words entry = (words ≡ build_words entry.key entry.mark) × IsBuildEntry entry

put-line : (name first second : List ℕ) (key value : Option (List ℕ)) (entry : Entry) → name ≡ codes "put" → bytes_of_word first ≡ key → bytes_of_word second ≡ value → entry_of_put key value ≡ Some entry → IsLine (name ∷ first ∷ second ∷ []) entry
put-line name first second None value entry n e f g = absurd (cc)
put-line name first second (Some key) None entry n e f g = absurd (cc)
put-line name first second (Some key) (Some value) entry n e f g =
    let k = only_word first key e in
    let v = only_word second value f in
    let same : unnumbered key (Put value) ≡ entry = cc in
    subst (IsLine (name ∷ first ∷ second ∷ [])) same (
      ap (λ w. w ∷ first ∷ second ∷ []) n ∙ ap (λ w. codes "put" ∷ w ∷ second ∷ []) k.0 ∙ ap (λ w. codes "put" ∷ word key ∷ w ∷ []) v.0,
      record { key = k.1; mark = v.1; number = refl },
    )

del-line : (name first : List ℕ) (key : Option (List ℕ)) (entry : Entry) → name ≡ codes "del" → bytes_of_word first ≡ key → option_map (λ k. unnumbered k Gone) key ≡ Some entry → IsLine (name ∷ first ∷ []) entry
del-line name first None entry n e g = absurd (cc)
del-line name first (Some key) entry n e g =
    let k = only_word first key e in
    let same : unnumbered key Gone ≡ entry = cc in
    subst (IsLine (name ∷ first ∷ [])) same
    (ap (λ w. w ∷ first ∷ []) n ∙ ap (λ w. codes "del" ∷ w ∷ []) k.0, record { key = k.1; mark = tt; number = refl })

put-is : (name : List ℕ) (arguments : List (List ℕ)) (entry : Entry) → name ≡ codes "put" → put_entry arguments ≡ Some entry → IsLine (name ∷ arguments) entry
unfolding put_entry
put-is name [] entry n e = absurd (cc)
put-is name (first ∷ []) entry n e = absurd (cc)
put-is name (first ∷ second ∷ []) entry n e = put-line name first second (bytes_of_word first) (bytes_of_word second) entry n refl refl e
put-is name (first ∷ second ∷ third ∷ others) entry n e = absurd (cc)

del-is : (name : List ℕ) (arguments : List (List ℕ)) (entry : Entry) → name ≡ codes "del" → del_entry arguments ≡ Some entry → IsLine (name ∷ arguments) entry
unfolding del_entry
del-is name [] entry n e = absurd (cc)
del-is name (first ∷ []) entry n e = del-line name first (bytes_of_word first) entry n refl e
del-is name (first ∷ second ∷ others) entry n e = absurd (cc)

named-is : (name : List ℕ) (arguments : List (List ℕ)) (entry : Entry) (p d : Bool) → same name (codes "put") ≡ p → same name (codes "del") ≡ d → cond p (put_entry arguments) (cond d (del_entry arguments) None) ≡ Some entry → IsLine (name ∷ arguments) entry
named-is name arguments entry true d p_is d_is e = put-is name arguments entry (same_true name (codes "put") p_is) e
named-is name arguments entry false true p_is d_is e = del-is name arguments entry (same_true name (codes "del") d_is) e
named-is name arguments entry false false p_is d_is e = absurd (cc)

words-are : (words : List (List ℕ)) (entry : Entry) → entry_of_words words ≡ Some entry → IsLine words entry
words-are [] entry e = absurd (cc)
words-are (name ∷ arguments) entry e = named-is name arguments entry (same name (codes "put")) (same name (codes "del")) refl refl e

-- the line of what it is read as
line-is : (line : List ℕ) (entry : Entry) → entry_of_line line ≡ Some entry → (line ++ 10 ∷ [] ≡ build_line entry) × IsBuildEntry entry
line-is line entry e =
    let is = words-are (words line) entry e in
    (ap (λ l. l ++ 10 ∷ []) (sym (join_with_byte-slice_split 32 line) ∙ ap (join_with_byte 32) is.0), is.1)

-- ---- one line more

-- the line gives this entry, which goes behind these
record IsNext (entries : List Entry) (line : List ℕ) (entry : Entry) : Type 0 where
  pub read : entry_of_line line ≡ Some entry
  pub within : is_within entry ≡ true
  pub above : is_above (last_key entries) entry.key ≡ true

abbrev Added : List Entry → List ℕ → List Entry → Type 0
Added entries line more = (entry : Entry) × (more ≡ entries ++ entry ∷ []) × IsNext entries line entry

added-by : (fits : List Entry → Bool) (entries more : List Entry) (number : ℕ) (line : List ℕ) (entry : Entry) (w a f : Bool) → entry_of_line line ≡ Some entry → is_within entry ≡ w → is_above (last_key entries) entry.key ≡ a → cond (not w) (Err (TooLarge number)) (cond (not a) (Err (NotRising number)) (cond (not f) (Err (TooLarge number)) (Ok (entries ++ entry ∷ [])))) ≡ Ok more → Added entries line more
added-by fits entries more number line entry false a f read w_is a_is e = absurd (cc)
added-by fits entries more number line entry true false f read w_is a_is e = absurd (cc)
added-by fits entries more number line entry true true false read w_is a_is e = absurd (cc)
added-by fits entries more number line entry true true true read w_is a_is e = (entry, cc, record { read = read; within = w_is; above = a_is })

found-by : (fits : List Entry → Bool) (entries more : List Entry) (number : ℕ) (line : List ℕ) (found : Option Entry) → entry_of_line line ≡ found → with_found fits entries number found ≡ Ok more → Added entries line more
found-by fits entries more number line None read e = absurd (cc)
found-by fits entries more number line (Some entry) read e =
    added-by fits entries more number line entry (is_within entry) (is_above (last_key entries) entry.key) (fits (entries ++ entry ∷ [])) read refl refl e

added : (fits : List Entry → Bool) (entries more : List Entry) (number : ℕ) (line : List ℕ) → with_build_line fits entries number line ≡ Ok more → Added entries line more
added fits entries more number line e = found-by fits entries more number line (entry_of_line line) refl e

-- ---- a text is that of what it is read as

-- these entries are read behind the others, and the parts are their text
abbrev AreRead : List Entry → List (List ℕ) → List Entry → Type 0
AreRead before parts entries = (more : List Entry) × (entries ≡ before ++ more) × (join_with_byte 10 parts ≡ build_text more)

end-is : (before entries : List Entry) (number : ℕ) (last : List ℕ) → at_end before number last ≡ Ok entries → AreRead before (last ∷ []) entries
end-is before entries number [] e =
    let same : before ≡ entries = cc in
    ([], sym same ∙ sym (append-nil before), refl)
end-is before entries number (byte ∷ bytes) e = absurd (cc)

one-more : (before mid entries : List Entry) (line : List ℕ) (parts : List (List ℕ)) → Added before line mid → AreRead mid parts entries → (more : List Entry) × (entries ≡ before ++ more) × (line ++ 10 ∷ join_with_byte 10 parts ≡ build_text more)
one-more before mid entries line parts (entry, grown, next) (more, all, text) =
    let is = line-is line entry next.read in (
      entry ∷ more,
      all ∙ ap (λ b. b ++ more) grown ∙ append_assoc before (entry ∷ []) more,
      sym (append_assoc line (10 ∷ []) (join_with_byte 10 parts)) ∙ ap (λ l. l ++ join_with_byte 10 parts) is.0 ∙ ap (λ l. build_line entry ++ l) text,
    )

module _ (fits : List Entry → Bool) where
  parts-by : (before entries : List Entry) (number : ℕ) (line : List ℕ) (parts : List (List ℕ)) → ((mid : List Entry) → entries_from fits mid (number + 1) parts ≡ Ok entries → AreRead mid parts entries) → (r : Result (List Entry) BuildFault) → with_build_line fits before number line ≡ r → and_then r (λ more. entries_from fits more (number + 1) parts) ≡ Ok entries → (more : List Entry) × (entries ≡ before ++ more) × (line ++ 10 ∷ join_with_byte 10 parts ≡ build_text more)
  parts-by before entries number line parts others (Ok mid) e f = one-more before mid entries line parts (added fits before mid number line e) (others mid f)
  parts-by before entries number line parts others (Err fault) e f = absurd (cc)

  parts-are : (before entries : List Entry) (number : ℕ) (parts : List (List ℕ)) → entries_from fits before number parts ≡ Ok entries → AreRead before parts entries
  parts-are before entries number [] e =
      let same : before ≡ entries = cc in
      ([], sym same ∙ sym (append-nil before), refl)
  parts-are before entries number (last ∷ []) e = end-is before entries number last e
  parts-are before entries number (line ∷ next ∷ parts) e =
      parts-by before entries number line (next ∷ parts) (λ mid f. parts-are mid entries (number + 1) (next ∷ parts) f)
      (with_build_line fits before number line) refl e

  some-are : (r : Result (List Entry) BuildFault) (entries : List Entry) → some_entries r ≡ Ok entries → r ≡ Ok entries
  some-are (Ok []) entries e = absurd (cc)
  some-are (Ok (entry ∷ others)) entries e = e
  some-are (Err fault) entries e = absurd (cc)

  -- what is read of the text, before its emptiness is tested
  read-of : (text : List ℕ) (entries : List Entry) → build_of fits text ≡ Ok entries → entries_from fits [] 1 (text_parts text) ≡ Ok entries
  unfolding build_of
  read-of text entries e = some-are (entries_from fits [] 1 (text_parts text)) entries e

  -- the text is that of the entries
  pub text_of_read : (text : List ℕ) (entries : List Entry) → build_of fits text ≡ Ok entries → text ≡ build_text entries
  text_of_read text entries e =
      let are = parts-are [] entries 1 (text_parts text) (read-of text entries e) in
      sym (join_with_byte-slice_split 10 text) ∙ are.2 ∙ ap build_text (sym are.1)

-- ---- entries that are read are rows

-- each entry of a build text, in strict order and within the limits
record AreBuilt (entries : List Entry) : Type 0 where
  pub ordered : in_order entries ≡ true
  pub within : Each Fits entries
  pub each : Each IsBuildEntry entries

-- an entry is within the limits, as the test and as the facts
within-fits : (entry : Entry) → entry.number ≡ 0 → is_within entry ≡ true → Fits entry
within-fits entry zero e =
    let each = and_parts (nat_le (length entry.key) 65535) (nat_le (mark_length entry.mark) 1048576) e in
    record { key = leb-true (length entry.key) 65535 each.0; mark = mark-fits entry.mark (leb-true (mark_length entry.mark) 1048576 each.1); number = omega (arith, zero) }
  where
    mark-fits : (mark : Mark) → mark_length mark ≤ 1048576 → FitsMark mark
    mark-fits (Put value) short = short
    mark-fits Gone short = tt

fits-within : (key : List ℕ) (mark : Mark) → length key ≤ 65535 → FitsMark mark → (nat_le (length key) 65535 && nat_le (mark_length mark) 1048576) ≡ true
fits-within key (Put value) small fit =
    and_from (nat_le (length key) 65535) (nat_le (length value) 1048576) (le-leb (length key) 65535 small) (le-leb (length value) 1048576 fit)
fits-within key Gone small fit = and_from (nat_le (length key) 65535) (nat_le 0 1048576) (le-leb (length key) 65535 small) refl

each-push : (P : Entry → Type 0) (entries : List Entry) (entry : Entry) → Each P entries → P entry → Each P (entries ++ entry ∷ [])
each-push P [] entry each last = (last, tt)
each-push P (first ∷ entries) entry each last = (each.0, each-push P entries entry each.1 last)

last-of : Entry → List Entry → Entry
last-of first [] = first
last-of first (next ∷ entries) = last-of next entries

last-place : (first : Entry) (entries : List Entry) → slice_get (first ∷ entries) (length entries) ≡ Some (last-of first entries)
unfolding last-of
last-place first [] = refl
last-place first (next ∷ entries) = last-place next entries

last-key-of : (first : Entry) (entries : List Entry) → last_key (first ∷ entries) ≡ Some (last-of first entries).key
last-key-of first entries =
    let place : length (first ∷ entries) - 1 ≡ length entries = omega arith in
    ap (λ n. option_map (λ e. e.key) (slice_get (first ∷ entries) n)) place ∙ ap (option_map (λ e. e.key)) (last-place first entries)

comes-by : (o other : Ordering) → is_lt o ≡ true → is_lt (ordering_then o other) ≡ true
comes-by Less other e = refl
comes-by Equal other e = absurd (cc)
comes-by Greater other e = absurd (cc)

below-comes : (one other : Entry) → below one.key other.key ≡ true → comes_before one other ≡ true
below-comes one other e = comes-by (bytes_cmp one.key other.key) (nat_cmp other.number one.number) e

behind-added : (first : Entry) (entries : List Entry) (entry : Entry) → rises_behind comes_before first entries ≡ true → comes_before (last-of first entries) entry ≡ true → rises_behind comes_before first (entries ++ entry ∷ []) ≡ true
unfolding last-of
behind-added first [] entry e f = and_from (comes_before first entry) true f refl
behind-added first (next ∷ entries) entry e f =
    let each = and_parts (comes_before first next) (rises_behind comes_before next entries) e in
    and_from (comes_before first next) (rises_behind comes_before next (entries ++ entry ∷ [])) each.0 (behind-added next entries entry each.1 f)

order-added : (entries : List Entry) (entry : Entry) → in_order entries ≡ true → is_above (last_key entries) entry.key ≡ true → in_order (entries ++ entry ∷ []) ≡ true
order-added [] entry e f = refl
order-added (first ∷ entries) entry e f =
    behind-added first entries entry e
    (below-comes (last-of first entries) entry (ap (λ k. is_above k entry.key) (sym (last-key-of first entries)) ∙ f))

built-added : (entries more : List Entry) (line : List ℕ) → AreBuilt entries → Added entries line more → AreBuilt more
built-added entries more line built (entry, grown, next) =
    let is = (line-is line entry next.read).1 in
    subst AreBuilt (sym grown) (record {
      ordered = order-added entries entry built.ordered next.above;
      within = each-push Fits entries entry built.within (within-fits entry is.number next.within);
      each = each-push IsBuildEntry entries entry built.each is;
    })

module _ (fits : List Entry → Bool) where
  end-built : (before entries : List Entry) (number : ℕ) (last : List ℕ) → AreBuilt before → at_end before number last ≡ Ok entries → AreBuilt entries
  end-built before entries number [] built e =
      let same : before ≡ entries = cc in
      subst AreBuilt same built
  end-built before entries number (byte ∷ bytes) built e = absurd (cc)

  built-by : (before entries : List Entry) (number : ℕ) (line : List ℕ) (parts : List (List ℕ)) → AreBuilt before → ((mid : List Entry) → AreBuilt mid → entries_from fits mid (number + 1) parts ≡ Ok entries → AreBuilt entries) → (r : Result (List Entry) BuildFault) → with_build_line fits before number line ≡ r → and_then r (λ more. entries_from fits more (number + 1) parts) ≡ Ok entries → AreBuilt entries
  built-by before entries number line parts built others (Ok mid) e f = others mid (built-added before mid line built (added fits before mid number line e)) f
  built-by before entries number line parts built others (Err fault) e f = absurd (cc)

  parts-built : (before entries : List Entry) (number : ℕ) (parts : List (List ℕ)) → AreBuilt before → entries_from fits before number parts ≡ Ok entries → AreBuilt entries
  parts-built before entries number [] built e =
      let same : before ≡ entries = cc in
      subst AreBuilt same built
  parts-built before entries number (last ∷ []) built e = end-built before entries number last built e
  parts-built before entries number (line ∷ next ∷ parts) built e =
      built-by before entries number line (next ∷ parts) built (λ mid now f. parts-built mid entries (number + 1) (next ∷ parts) now f)
      (with_build_line fits before number line) refl e

  built-of : (text : List ℕ) (entries : List Entry) → build_of fits text ≡ Ok entries → AreBuilt entries
  built-of text entries e =
      parts-built [] entries 1 (text_parts text) (record { ordered = refl; within = tt; each = tt }) (read-of fits text entries e)

  -- the entries are rows
  pub rows_of_read : (text : List ℕ) (entries : List Entry) → build_of fits text ≡ Ok entries → AreRows entries
  rows_of_read text entries e =
      let built = built-of text entries e in
      record { ordered = built.ordered; within = built.within }

  -- of bytes, with the number 0
  pub each_of_read : (text : List ℕ) (entries : List Entry) → build_of fits text ≡ Ok entries → Each IsBuildEntry entries
  each_of_read text entries e = (built-of text entries e).each

  -- ---- the text of entries is read as them

  -- each entry goes behind those before it
  abbrev Accepted : List Entry → List Entry → Type 0
  Accepted before [] = ⊤
  Accepted before (entry ∷ entries) = (is_within entry ≡ true) × (is_above (last_key before) entry.key ≡ true) × (fits (before ++ entry ∷ []) ≡ true) × IsBuildEntry entry × Accepted (before ++ entry ∷ []) entries

  text-read : (before entries : List Entry) (number : ℕ) → Accepted before entries → entries_from fits before number (text_parts (build_text entries)) ≡ Ok (before ++ entries)
  text-read before [] number accepted = ap Ok (sym (append-nil before))
  text-read before (entry ∷ entries) number (within, above, fit, is, others) =
      let line = join_with_byte 32 (build_words entry.key entry.mark) in
      let rest = build_text entries in
      let parts : text_parts (build_text (entry ∷ entries)) ≡ line ∷ text_parts rest = ap text_parts (append_assoc line (10 ∷ []) rest) ∙ cut_first 10 line rest (text_parts rest) (line-lacks entry.key entry.mark) refl in
      let read : with_build_line fits before number line ≡ Ok (before ++ entry ∷ []) = line_some fits before number line entry (line-read entry is) ∙ entry_added fits before number entry within above fit in
      sym (build_line_read fits before (before ++ entry ∷ []) number (build_text (entry ∷ entries)) line rest read parts)
      ∙ text-read (before ++ entry ∷ []) entries (number + 1) others
      ∙ ap Ok (append_assoc before (entry ∷ []) entries)

  below-by : (o : Ordering) (m n : ℕ) → m ≡ 0 → n ≡ 0 → is_lt (ordering_then o (nat_cmp m n)) ≡ true → is_lt o ≡ true
  below-by Less m n e f g = refl
  below-by Equal m n e f g =
      let never : is_lt (nat_cmp 0 0) ≡ true = ap (λ v. is_lt (nat_cmp v 0)) (sym e) ∙ ap (λ v. is_lt (nat_cmp m v)) (sym f) ∙ g in
      absurd (false≢true never)
  below-by Greater m n e f g = g

  front-fits : (all before entries : List Entry) (entry : Entry) → all ≡ before ++ entry ∷ entries → ((count : ℕ) → IsTrue (fits (take count all))) → fits (before ++ entry ∷ []) ≡ true
  front-fits all before entries entry e fit =
      let front = before ++ entry ∷ [] in
      let same : take (length front) all ≡ front = ap (take (length front)) (e ∙ sym (append_assoc before (entry ∷ []) entries)) ∙ take_at front entries (length front) refl in
      subst (λ l. fits l ≡ true) same (fit (length front))

  accepted-behind : (all before entries : List Entry) (last : Entry) → all ≡ before ++ entries → ((count : ℕ) → IsTrue (fits (take count all))) → last_key before ≡ Some last.key → last.number ≡ 0 → rises_behind comes_before last entries ≡ true → Each Fits entries → Each IsBuildEntry entries → Accepted before entries
  accepted-behind all before [] last e fit last_is zero rising within each = tt
  accepted-behind all before (entry ∷ entries) last e fit last_is zero rising within each =
      let rise = and_parts (comes_before last entry) (rises_behind comes_before entry entries) rising in (
        fits-within entry.key entry.mark within.0.key within.0.mark,
        ap (λ k. is_above k entry.key) last_is ∙ below-by (bytes_cmp last.key entry.key) entry.number last.number each.0.number zero rise.0,
        front-fits all before entries entry e fit,
        each.0,
        accepted-behind all (before ++ entry ∷ []) entries entry (e ∙ sym (append_assoc before (entry ∷ []) entries)) fit (last_key_added before entry) each.0.number rise.1 within.1 each.1,
      )

  accepted : (entries : List Entry) → ((count : ℕ) → IsTrue (fits (take count entries))) → AreRows entries → Each IsBuildEntry entries → Accepted [] entries
  accepted [] fit rows each = tt
  accepted (entry ∷ entries) fit rows each = (
    fits-within entry.key entry.mark rows.within.0.key rows.within.0.mark,
    refl,
    front-fits (entry ∷ entries) [] entries entry refl fit,
    each.0,
    accepted-behind (entry ∷ entries) (entry ∷ []) entries entry refl fit refl each.0.number rows.ordered rows.within.1 each.1,
  )

  pub read_of_text : (entries : List Entry) → 0 < length entries → AreRows entries → Each IsBuildEntry entries → ((count : ℕ) → IsTrue (fits (take count entries))) → build_of fits (build_text entries) ≡ Ok entries
  unfolding build_of
  read_of_text entries some rows each fit =
      ap some_entries (text-read [] entries 1 (accepted entries fit rows each)) ∙ some_stay entries (λ none. absurd (omega (arith, some, ap length none)))
