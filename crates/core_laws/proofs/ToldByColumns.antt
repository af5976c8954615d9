-- Lists in order are told by their look-ups, or by their columns; the newest mark is the first along the walk.
use Rattle.std.proofs.Common.{◌≡◌, ℕ, ◌≤◌, ◌⊎◌, Bool, true, false, cond, List, [], ◌∷◌, ◌++◌, reverse, Option, Some, None, Ordering, Less, Equal, Greater, option_map, unwrap_or, is_eq, is_lt, refl, sym, ap, ap₂, subst, ◌∙◌, inl, inr, append-nil}
use Rattle.std.specs.Prelude.{IsTrue, flat_map, fold}
use Rattle.std.specs.List.{AllByRecursion as Each}
use Rattle.std.specs.Option.{option_or}
use Rattle.std.specs.Ordering.{ordering_reverse, ordering_then, nat_cmp}
use Rattle.std.proofs.lemmas.Bool.{false≢true, le-leb}
use Rattle.std.proofs.lemmas.Cmp.{nat_list_cmp_total, tied_itself}
use Rattle.std.proofs.lemmas.List.{reverse-append}
use Rattle.std.proofs.lemmas.List.Elements.{filter-append}
use Rattle.std.proofs.lemmas.Map.Lookups.{exact_bytes}
use Rattle.st_base.specs.Bytes.{bytes_cmp, same, below}
use Rattle.st_base.specs.Entries.{last_mark}
use Rattle.st_base.specs.Map.{value_at, set_at}
use Rattle.st_base.specs.Order.{comes_before, in_order}
use Rattle.st_base.specs.declared.entry.Mark.{Mark}
use Rattle.st_base.specs.declared.entry.Entry.{Entry}
use Rattle.st_base.proofs.Ordered.{entries_pairs}
use Rattle.base_laws.proofs.Keys.{at_itself, at_key, below_trans}
use Rattle.base_laws.proofs.Lists.{each_as}
use Rattle.base_laws.proofs.Maps.{value_set}
use Rattle.st_base.proofs.Same.{same_self, same_true}
use Rattle.core_laws.specs.Claims.{CompactionIsOne, MapsAreOne, NewestIsFirst}
use Rattle.core_model.specs.Picture.{walk}
use Rattle.core_laws.proofs.ChangesSound.{Rise, less_of}
use Rattle.core_laws.proofs.InstalledLevels.{column_each}
use Rattle.core_laws.proofs.Members.{pairs_of_all}
use Rattle.st_order.specs.Columns.{Pairwise, of_key, column}
use Rattle.job_model.specs.Column.{first_at, found_at}

-- ---- maps

not_at : (a b : List ℕ) → below a b ≡ true → is_eq (bytes_cmp a b) ≡ false
not_at a b h = ap is_eq (less_of a b h)

module _ {X : Type 0} where
  -- a key below all keys isn't there
  pub none_below : (key : List ℕ) (pairs : List (List ℕ × X)) → Each (λ pair. IsTrue (below key pair.0)) pairs → value_at pairs key ≡ None
  none_below key [] h = refl
  none_below key (p ∷ ps) h = ap (λ b. cond b (Some p.1) (value_at ps key)) (not_at key p.0 h.0) ∙ none_below key ps h.1

  hit_value : (key name : List ℕ) (x : X) (rest : Option X) → is_eq (bytes_cmp key name) ≡ true → cond (is_eq (bytes_cmp key name)) (Some x) rest ≡ Some x
  hit_value key name x rest e = ap (λ b. cond b (Some x) rest) e

  pub maps_are_one : (xs ys : List (List ℕ × X)) → Rise xs → Rise ys → ((key : List ℕ) → value_at xs key ≡ value_at ys key) → xs ≡ ys
  maps_are_one [] [] h k e = refl
  maps_are_one [] (y ∷ ys) h k e = absurd (let w : None ≡ Some y.1 = e y.0 ∙ hit_value y.0 y.0 y.1 (value_at ys y.0) (at_itself y.0) in cc)
  maps_are_one (x ∷ xs) [] h k e = absurd (let w : Some x.1 ≡ None = sym (hit_value x.0 x.0 x.1 (value_at xs x.0) (at_itself x.0)) ∙ e x.0 in cc)
  maps_are_one (x ∷ xs) (y ∷ ys) h k e = by (bytes_cmp x.0 y.0) refl (maps_are_one xs ys h.1 k.1)
    where
      lower : (p q : List ℕ × X) (ps qs : List (List ℕ × X)) → below p.0 q.0 ≡ true → Each (λ (other : List ℕ × X). IsTrue (below q.0 other.0)) qs → value_at (p ∷ ps) p.0 ≡ value_at (q ∷ qs) p.0 → ⊥
      lower p q ps qs lt up same = let w : Some p.1 ≡ None = sym (hit_value p.0 p.0 p.1 (value_at ps p.0) (at_itself p.0)) ∙ same
          ∙ none_below p.0 (q ∷ qs) (lt, each_as (λ (other : List ℕ × X). IsTrue (below q.0 other.0)) (λ other. IsTrue (below p.0 other.0)) (λ other g. below_trans p.0 q.0 other.0 lt g) qs up) in cc

      tails : x.0 ≡ y.0 → (key : List ℕ) → value_at xs key ≡ value_at ys key
      tails n key = at (is_eq (bytes_cmp key x.0)) refl (e key)
        where
          at : (b : Bool) → is_eq (bytes_cmp key x.0) ≡ b → value_at (x ∷ xs) key ≡ value_at (y ∷ ys) key → value_at xs key ≡ value_at ys key
          at true f g = let key_is : key ≡ x.0 = at_key key x.0 f in
              none_below key xs (subst (λ (q : List ℕ). Each (λ (other : List ℕ × X). IsTrue (below q other.0)) xs) (sym key_is) h.0)
              ∙ sym (none_below key ys (subst (λ (q : List ℕ). Each (λ (other : List ℕ × X). IsTrue (below q other.0)) ys) (sym (key_is ∙ n)) k.0))
          at false f g = sym (ap (λ b. cond b (Some x.1) (value_at xs key)) f) ∙ g ∙ ap (λ b. cond b (Some y.1) (value_at ys key)) (subst (λ q. is_eq (bytes_cmp key q) ≡ false) n f)

      by : (o : Ordering) → bytes_cmp x.0 y.0 ≡ o → (((key : List ℕ) → value_at xs key ≡ value_at ys key) → xs ≡ ys) → x ∷ xs ≡ y ∷ ys
      by Less f rest = absurd (lower x y xs ys (ap is_lt f) k.0 (e x.0))
      by Equal f rest =
          let n : x.0 ≡ y.0 = exact_bytes x.0 y.0 f in
          let v : Some x.1 ≡ Some y.1 = sym (hit_value x.0 x.0 x.1 (value_at xs x.0) (at_itself x.0)) ∙ e x.0 ∙ hit_value x.0 y.0 y.1 (value_at ys x.0) (subst (λ q. is_eq (bytes_cmp x.0 q) ≡ true) n (at_itself x.0)) in
          ap₂ (λ (p : List ℕ × X) (ps : List (List ℕ × X)). p ∷ ps) (ap₂ (λ (a : List ℕ) (b : X). (a, b)) n (ap (λ o. unwrap_or o x.1) v)) (rest (tails n))
      by Greater f rest = absurd (lower y x ys xs (ap is_lt (nat_list_cmp_total.antisymm y.0 x.0 ∙ ap ordering_reverse f)) h.0 (sym (e y.0)))

pub maps_are_one_of : MapsAreOne
maps_are_one_of one other h k e = maps_are_one one other (pairs_of_all (λ (x y : List ℕ × Mark). IsTrue (below x.0 y.0)) one h) (pairs_of_all (λ (x y : List ℕ × Mark). IsTrue (below x.0 y.0)) other k) e

-- ---- entries in order

-- of two entries in order the first has no greater key
pub key_order : (x e : Entry) → comes_before x e ≡ true → (bytes_cmp x.key e.key ≡ Less) ⊎ (x.key ≡ e.key)
key_order x e h = by (bytes_cmp x.key e.key) refl h
  where
    by : (o : Ordering) → bytes_cmp x.key e.key ≡ o → is_lt (ordering_then o (nat_cmp e.number x.number)) ≡ true → (bytes_cmp x.key e.key ≡ Less) ⊎ (x.key ≡ e.key)
    by Less f g = inl f
    by Equal f g = inr (exact_bytes x.key e.key f)
    by Greater f g = absurd cc

-- a key below the first has no entry
pub none_of_key : (key : List ℕ) (entries : List Entry) → Each (λ e. below key e.key ≡ true) entries → of_key key entries ≡ []
none_of_key key [] h = refl
none_of_key key (e ∷ es) h = at (same e.key key) refl (none_of_key key es h.1)
  where
    at : (b : Bool) → same e.key key ≡ b → of_key key es ≡ [] → cond b (e ∷ of_key key es) (of_key key es) ≡ []
    at true f rest = absurd (false≢true (sym (ap is_lt (tied_itself nat_list_cmp_total key)) ∙ subst (λ k. below key k ≡ true) (same_true e.key key f) h.0))
    at false f rest = rest

abbrev InOrder : List Entry → Type 0
InOrder entries = Pairwise (λ one other. comes_before one other ≡ true) entries

hit_column : (key : List ℕ) (e : Entry) (rest : List Entry) → same e.key key ≡ true → cond (same e.key key) (e ∷ rest) rest ≡ e ∷ rest
hit_column key e rest f = ap (λ b. cond b (e ∷ rest) rest) f

abbrev head_entry : Entry → List Entry → Entry
head_entry d [] = d
head_entry d (x ∷ xs) = x

abbrev tail_entries : List Entry → List Entry
tail_entries [] = []
tail_entries (x ∷ xs) = xs

columns_tell : (xs ys : List Entry) → InOrder xs → InOrder ys → ((key : List ℕ) → of_key key xs ≡ of_key key ys) → xs ≡ ys
columns_tell [] [] h k e = refl
columns_tell [] (y ∷ ys) h k e = absurd (let w : [] ≡ y ∷ of_key y.key ys = e y.key ∙ hit_column y.key y (of_key y.key ys) (same_self y.key) in cc)
columns_tell (x ∷ xs) [] h k e = absurd (let w : x ∷ of_key x.key xs ≡ [] = sym (hit_column x.key x (of_key x.key xs) (same_self x.key)) ∙ e x.key in cc)
columns_tell (x ∷ xs) (y ∷ ys) h k e = by (bytes_cmp x.key y.key) refl (columns_tell xs ys h.1 k.1)
  where
    lower : (p q : Entry) (ps qs : List Entry) → bytes_cmp p.key q.key ≡ Less → Each (λ other. comes_before q other ≡ true) qs → of_key p.key (p ∷ ps) ≡ of_key p.key (q ∷ qs) → ⊥
    lower p q ps qs lt up same = let w : p ∷ of_key p.key ps ≡ [] = sym (hit_column p.key p (of_key p.key ps) (same_self p.key)) ∙ same
        ∙ none_of_key p.key (q ∷ qs) (ap is_lt lt, each_as (λ (other : Entry). comes_before q other ≡ true) (λ other. below p.key other.key ≡ true) (λ other g. further other (key_order q other g)) qs up) in cc
      where
        further : (other : Entry) → (bytes_cmp q.key other.key ≡ Less) ⊎ (q.key ≡ other.key) → below p.key other.key ≡ true
        further other (inl g) = ap is_lt (nat_list_cmp_total.trans p.key q.key other.key lt g)
        further other (inr g) = subst (λ key. below p.key key ≡ true) g (ap is_lt lt)

    tails : x ≡ y → (key : List ℕ) → of_key key xs ≡ of_key key ys
    tails n key = at (same x.key key) refl (e key)
      where
        at : (b : Bool) → same x.key key ≡ b → of_key key (x ∷ xs) ≡ of_key key (y ∷ ys) → of_key key xs ≡ of_key key ys
        at true f g = ap tail_entries (sym (hit_column key x (of_key key xs) f) ∙ g ∙ hit_column key y (of_key key ys) (subst (λ (z : Entry). same z.key key ≡ true) n f))
        at false f g = sym (ap (λ b. cond b (x ∷ of_key key xs) (of_key key xs)) f) ∙ g ∙ ap (λ b. cond b (y ∷ of_key key ys) (of_key key ys)) (subst (λ (z : Entry). same z.key key ≡ false) n f)

    by : (o : Ordering) → bytes_cmp x.key y.key ≡ o → (((key : List ℕ) → of_key key xs ≡ of_key key ys) → xs ≡ ys) → x ∷ xs ≡ y ∷ ys
    by Less f rest = absurd (lower x y xs ys f k.0 (e x.key))
    by Equal f rest =
        let one : x ≡ y = ap (head_entry x) (sym (hit_column x.key x (of_key x.key xs) (same_self x.key)) ∙ e x.key
        ∙ hit_column x.key y (of_key x.key ys) (subst (λ key. same y.key key ≡ true) (sym (exact_bytes x.key y.key f)) (same_self y.key))) in
        ap₂ (λ (p : Entry) (ps : List Entry). p ∷ ps) one (rest (tails one))
    by Greater f rest = absurd (lower y x ys xs (nat_list_cmp_total.antisymm y.key x.key ∙ ap ordering_reverse f) h.0 (sym (e y.key)))

pub entries_are_one : (one other : List Entry) → IsTrue (in_order one) → IsTrue (in_order other) → ((key : List ℕ) → of_key key one ≡ of_key key other) → one ≡ other
entries_are_one one other h k e = columns_tell one other (pairs_of_all (λ (x y : Entry). comes_before x y ≡ true) one (entries_pairs one h)) (pairs_of_all (λ (x y : Entry). comes_before x y ≡ true) other (entries_pairs other k)) e

pub compaction_is_one : CompactionIsOne
compaction_is_one inputs live drops one other h k = entries_are_one one other h.ordered k.ordered (λ key. h.columns key ∙ sym (k.columns key))

-- ---- newest marks

abbrev set_mark : List (List ℕ × Mark) → Entry → List (List ℕ × Mark)
set_mark marks entry = set_at marks entry.key entry.mark

pub or_assoc : (a b c : Option Mark) → option_or (option_or a b) c ≡ option_or a (option_or b c)
or_assoc None b c = refl
or_assoc (Some x) b c = refl

-- marks set one after the other: the last of the key, else what was there
pub marks_set : (entries : List Entry) (marks : List (List ℕ × Mark)) (key : List ℕ) → value_at (fold set_mark marks entries) key ≡ option_or (last_mark (of_key key entries)) (value_at marks key)
marks_set [] marks key = refl
marks_set (e ∷ es) marks key = marks_set es (set_at marks e.key e.mark) key ∙ ap (option_or (last_mark (of_key key es))) (value_set marks e.key e.mark key) ∙ at (same e.key key)
  where
    at : (b : Bool) → option_or (last_mark (of_key key es)) (cond b (Some e.mark) (value_at marks key)) ≡ option_or (last_mark (cond b (e ∷ of_key key es) (of_key key es))) (value_at marks key)
    at true = sym (or_assoc (last_mark (of_key key es)) (Some e.mark) (value_at marks key))
    at false = refl

abbrev first_mark : List Entry → Option Mark
first_mark [] = None
first_mark (e ∷ es) = Some e.mark

last_pushed : (xs : List Entry) (e : Entry) → last_mark (xs ++ e ∷ []) ≡ Some e.mark
last_pushed [] e = refl
last_pushed (x ∷ xs) e = ap (λ (o : Option Mark). option_or o (Some x.mark)) (last_pushed xs e)

-- the last of a list turned about is the first
turned : (entries : List Entry) (key : List ℕ) → last_mark (of_key key (reverse entries)) ≡ first_mark (of_key key entries)
turned [] key = refl
turned (e ∷ es) key =
    ap (λ (l : List Entry). last_mark (of_key key l)) (reverse-append (e ∷ []) es)
    ∙ ap last_mark (filter-append (λ (entry : Entry). same entry.key key) (reverse es) (e ∷ []))
    ∙ at (same e.key key) (turned es key)
  where
    at : (b : Bool) → last_mark (of_key key (reverse es)) ≡ first_mark (of_key key es) → last_mark (of_key key (reverse es) ++ cond b (e ∷ []) []) ≡ first_mark (cond b (e ∷ of_key key es) (of_key key es))
    at true rest = last_pushed (of_key key (reverse es)) e
    at false rest = ap last_mark (append-nil (of_key key (reverse es))) ∙ rest

pub column_joined : (key : List ℕ) (runs : List (List Entry)) → of_key key (flat_map (λ (entries : List Entry). entries) runs) ≡ column key runs
column_joined key [] = refl
column_joined key (run ∷ runs) = filter-append (λ (entry : Entry). same entry.key key) run (flat_map (λ (entries : List Entry). entries) runs) ∙ ap (λ (rest : List Entry). of_key key run ++ rest) (column_joined key runs)

first_found : (last : ℕ) (entries : List Entry) → Each (λ entry. entry.number ≤ last) entries → first_mark entries ≡ found_at last entries
first_found last [] h = refl
first_found last (e ∷ es) h = sym (ap (λ b. option_map (λ (one : Entry). one.mark) (cond b (Some e) (first_at last es))) (le-leb e.number last h.0))

or_none : (o : Option Mark) → option_or o None ≡ o
or_none None = refl
or_none (Some x) = refl

pub newest_is_first : NewestIsFirst
newest_is_first family last key within =
    marks_set (reverse (flat_map (λ (entries : List Entry). entries) (walk family))) [] key
    ∙ or_none (last_mark (of_key key (reverse (flat_map (λ (entries : List Entry). entries) (walk family)))))
    ∙ turned (flat_map (λ (entries : List Entry). entries) (walk family)) key
    ∙ ap first_mark (column_joined key (walk family))
    ∙ first_found last (column key (walk family)) (column_each (λ entry. entry.number ≤ last) key (walk family) within)
