-- The least key from a bound on, and the greatest before an end, run after run.
use Rattle.std.proofs.Common.{◌≡◌, ℕ, ◌+◌, ◌<◌, ◌≤◌, Bool, true, false, ◌⊎◌, List, [], ◌∷◌, ◌++◌, flat_map, length, get_or, take, drop, Some, None, refl, sym, ap, subst, ◌∙◌, inl, inr, arith}
use Rattle.std.specs.Prelude.{slice_get}
use Rattle.std.specs.List.{Contains, AllByRecursion as Each}
use Rattle.std.proofs.lemmas.Bool.{cases_lt, false≢true}
use Rattle.std.proofs.lemmas.List.{flat_map_more, take_more}
use Rattle.std.proofs.lemmas.List.Elements.{Contains-append_left, Contains-append_right}
use Rattle.st_base.specs.Bytes.{at_most, below}
use Rattle.st_base.specs.Range.{keys_of}
use Rattle.st_base.specs.Rows.{AreRows, Fits, lower_index}
use Rattle.st_base.specs.declared.entry.Entry.{Entry}
use Rattle.base_laws.proofs.Keys.{at_most_itself, at_most_trans, below_not}
use Rattle.base_laws.proofs.Lists.{each_as, each_join, each_map}
use Rattle.st_order.proofs.Halves.{back_reaches, each_at, front_below, get_there, keys_rise}
use Rattle.st_drops.specs.Ends.{FindsLeastFrom, IsLeastFrom, IsRaised, is_before_end}
use Rattle.st_drops.proofs.Lists.{each_contains, each_from, each_front_at, each_back_at}

abbrev most : ℕ
most = 18446744073709551615

-- ---- one run more

pub keys_more : (runs : List (List Entry)) (i : ℕ) → i < length runs → flat_map keys_of (take (i + 1) runs) ≡ flat_map keys_of (take i runs) ++ keys_of (get_or runs i [])
keys_more runs i lt = ap (flat_map keys_of) (take_more runs i [] lt) ∙ sym (flat_map_more keys_of [] (take i runs) (get_or runs i []))

-- ---- keys of entries

contains_key : (entries : List Entry) (i : ℕ) (entry : Entry) → slice_get entries i ≡ Some entry → Contains (keys_of entries) entry.key
contains_key entries i entry at =
    let here = get_there entries i entry entry at in
    let parts = at_map entries i here.0 here.1 in
    (i, parts.0, parts.1)
  where
    at_map : (entries : List Entry) (i : ℕ) → i < length entries → get_or entries i entry ≡ entry → (i < length (keys_of entries)) × (get_or (keys_of entries) i entry.key ≡ entry.key)
    at_map [] i lt e = absurd (omega arith)
    at_map (x ∷ xs) Rattle.std.proofs.Common.zero lt e = (omega arith, ap (λ (one : Entry). one.key) e)
    at_map (x ∷ xs) (Rattle.std.proofs.Common.suc i) lt e = let rest = at_map xs i (omega arith) e in (omega (arith, rest.0), rest.1)

pub key_fits : (entries : List Entry) (i : ℕ) (entry : Entry) → AreRows entries → slice_get entries i ≡ Some entry → length entry.key ≤ 65535
key_fits entries i entry are at =
    let here = get_there entries i entry entry at in
    let fits : Fits (get_or entries i entry) = each_at Fits entries i entry are.within here.0 in
    subst (λ (x : Entry). length x.key ≤ 65535) here.1 fits.key

-- ---- the least

module _ (bound : List ℕ) where
  -- keys below the bound change nothing
  pub least_kept : (found : Bool) (keys more : List (List ℕ)) (key : List ℕ) → Each (λ one. below one bound ≡ true) more → FindsLeastFrom bound keys found key → FindsLeastFrom bound (keys ++ more) found key
  least_kept false keys more key each finds = each_join (λ one. below one bound ≡ true) keys more finds each
  least_kept true keys more key each finds = record {
    reaches = finds.reaches;
    among = Contains-append_left keys more key finds.among;
    least = each_join (λ one. at_most bound one ≡ true → at_most key one ≡ true) keys more finds.least
        (each_as (λ one. below one bound ≡ true) (λ one. at_most bound one ≡ true → at_most key one ≡ true) (λ one less reaches. absurd (false≢true (sym (below_not one bound less) ∙ reaches))) more each);
    fits = finds.fits;
  }

  -- nor do keys that are at least the one that was found
  pub least_stays : (keys more : List (List ℕ)) (key other : List ℕ) → IsLeastFrom bound keys key → IsLeastFrom bound more other → at_most key other ≡ true → IsLeastFrom bound (keys ++ more) key
  least_stays keys more key other one two le = record {
    reaches = one.reaches;
    among = Contains-append_left keys more key one.among;
    least = each_join (λ x. at_most bound x ≡ true → at_most key x ≡ true) keys more one.least
        (each_as (λ x. at_most bound x ≡ true → at_most other x ≡ true) (λ x. at_most bound x ≡ true → at_most key x ≡ true) (λ x reaches from. at_most_trans key other x le (reaches from)) more two.least);
    fits = one.fits;
  }

  -- a lesser one is taken
  pub least_taken : (found : Bool) (keys more : List (List ℕ)) (old other : List ℕ) → FindsLeastFrom bound keys found old → (found ≡ true → at_most other old ≡ true) → IsLeastFrom bound more other → IsLeastFrom bound (keys ++ more) other
  least_taken found keys more old other finds le is = record {
    reaches = is.reaches;
    among = Contains-append_right keys more other is.among;
    least = each_join (λ x. at_most bound x ≡ true → at_most other x ≡ true) keys more (front found finds le) is.least;
    fits = is.fits;
  }
    where
      front : (found : Bool) → FindsLeastFrom bound keys found old → (found ≡ true → at_most other old ≡ true) → Each (λ x. at_most bound x ≡ true → at_most other x ≡ true) keys
      front false finds le = each_as (λ one. below one bound ≡ true) (λ one. at_most bound one ≡ true → at_most other one ≡ true) (λ one less reaches. absurd (false≢true (sym (below_not one bound less) ∙ reaches))) keys finds
      front true finds le = each_as (λ x. at_most bound x ≡ true → at_most old x ≡ true) (λ x. at_most bound x ≡ true → at_most other x ≡ true) (λ x reaches from. at_most_trans other old x (le refl) (reaches from)) keys finds.least

  module _ (entries : List Entry) (are : AreRows entries) (d : Entry) where
    -- of a run whose entries all come before the bound
    pub none_reaches : length entries ≡ lower_index entries bound most → Each (λ one. below one bound ≡ true) (keys_of entries)
    none_reaches e =
        each_map (λ one. below one bound ≡ true) (λ (entry : Entry). entry.key) entries
        (each_from (λ (entry : Entry). below entry.key bound ≡ true) entries d (λ i lt. front_below entries bound i d are.within (omega (arith, e))))

    pub least_there : (i : ℕ) (entry : Entry) → i ≡ lower_index entries bound most → slice_get entries i ≡ Some entry → IsLeastFrom bound (keys_of entries) entry.key
    least_there i entry at there =
        let here = get_there entries i entry entry there in
        record {
          reaches = subst (λ (x : Entry). at_most bound x.key ≡ true) here.1 (back_reaches entries bound most i entry are.ordered (omega arith) here.0);
          among = contains_key entries i entry there;
          least = each_map (λ one. at_most bound one ≡ true → at_most entry.key one ≡ true) (λ (x : Entry). x.key) entries
              (each_from (λ (x : Entry). at_most bound x.key ≡ true → at_most entry.key x.key ≡ true) entries entry (λ j lt reaches. elim (cases_lt j i) [
                | inl less ↦ absurd (false≢true (sym (below_not (get_or entries j entry).key bound (front_below entries bound j entry are.within (omega arith))) ∙ reaches))
                | inr more ↦ subst (λ (x : Entry). at_most x.key (get_or entries j entry).key ≡ true) here.1 (keys_rise entries i j entry are.ordered more lt)
              ]));
          fits = key_fits entries i entry are there;
        }

-- ---- the greatest

module _ (test : List ℕ → Bool) where
  pub raised_none : (old : List ℕ) → length old ≤ 65535 → IsRaised test [] old old
  raised_none old fits = record { among = inl refl; greatest = tt; rises = at_most_itself old; fits = fits }

  pub raised_more : (keys more : List (List ℕ)) (old now new : List ℕ) → IsRaised test keys old now → IsRaised test more now new → IsRaised test (keys ++ more) old new
  raised_more keys more old now new one two = record {
    among = elim two.among [
      | inl is ↦ elim one.among [
        | inl was ↦ inl (is ∙ was)
        | inr has ↦ inr (subst (λ key. Contains (keys ++ more) key × (test key ≡ true)) (sym is) (Contains-append_left keys more now has.0, has.1))
      ]
      | inr has ↦ inr (Contains-append_right keys more new has.0, has.1)
    ];
    greatest = each_join (λ x. test x ≡ true → at_most x new ≡ true) keys more
        (each_as (λ x. test x ≡ true → at_most x now ≡ true) (λ x. test x ≡ true → at_most x new ≡ true) (λ x under e. at_most_trans x now new (under e) two.rises) keys one.greatest) two.greatest;
    rises = at_most_trans old now new one.rises two.rises;
    fits = two.fits;
  }

  -- keys that don't pass raise nothing
  raised_out : (keys : List (List ℕ)) (old : List ℕ) → length old ≤ 65535 → Each (λ x. test x ≡ false) keys → IsRaised test keys old old
  raised_out keys old fits each = record {
    among = inl refl;
    greatest = each_as (λ x. test x ≡ false) (λ x. test x ≡ true → at_most x old ≡ true) (λ x out e. absurd (false≢true (sym out ∙ e))) keys each;
    rises = at_most_itself old;
    fits = fits;
  }

  -- where all pass
  raised_in : (keys : List (List ℕ)) (old new : List ℕ) → Each (λ x. test x ≡ true) keys → IsRaised (is_before_end None) keys old new → IsRaised test keys old new
  raised_in keys old new each raised = record {
    among = elim raised.among [
      | inl is ↦ inl is
      | inr has ↦ inr (has.0, each_contains (λ x. test x ≡ true) new keys each has.0)
    ];
    greatest = each_as (λ x. true ≡ true → at_most x new ≡ true) (λ x. test x ≡ true → at_most x new ≡ true) (λ x under e. under refl) keys raised.greatest;
    rises = raised.rises;
    fits = raised.fits;
  }

  pub raised_front : (n : ℕ) (entries : List Entry) (old new : List ℕ) → Each (λ (x : Entry). test x.key ≡ true) (take n entries) → Each (λ (x : Entry). test x.key ≡ false) (drop n entries)
      → IsRaised (is_before_end None) (keys_of (take n entries)) old new → IsRaised test (keys_of entries) old new
  raised_front n entries old new front back raised =
      subst (λ keys. IsRaised test keys old new) (sym (parts n entries))
      (raised_more (keys_of (take n entries)) (keys_of (drop n entries)) old new new
      (raised_in (keys_of (take n entries)) old new (each_map (λ x. test x ≡ true) (λ (x : Entry). x.key) (take n entries) front) raised)
      (raised_out (keys_of (drop n entries)) new raised.fits (each_map (λ x. test x ≡ false) (λ (x : Entry). x.key) (drop n entries) back)))
    where
      parts : (n : ℕ) (entries : List Entry) → keys_of entries ≡ keys_of (take n entries) ++ keys_of (drop n entries)
      parts Rattle.std.proofs.Common.zero entries = refl
      parts (Rattle.std.proofs.Common.suc n) [] = refl
      parts (Rattle.std.proofs.Common.suc n) (x ∷ xs) = ap (λ rest. x.key ∷ rest) (parts n xs)

-- the last of so many entries is their greatest
pub raised_last : (entries : List Entry) (n : ℕ) (old new : List ℕ) (entry : Entry) → AreRows entries → n < length entries → slice_get entries n ≡ Some entry
    → length new ≤ 65535 → (new ≡ old) ⊎ (new ≡ entry.key) → at_most old new ≡ true → at_most entry.key new ≡ true → IsRaised (is_before_end None) (keys_of (take (n + 1) entries)) old new
raised_last entries n old new entry are lt at fits among rises over =
    let here = get_there entries n entry entry at in
    record {
      among = elim among [
        | inl is ↦ inl is
        | inr is ↦ inr (subst (λ key. Contains (keys_of (take (n + 1) entries)) key) (sym is) (contains_key (take (n + 1) entries) n entry (still entries n entry at)), refl)
      ];
      greatest = each_map (λ x. true ≡ true → at_most x new ≡ true) (λ (x : Entry). x.key) (take (n + 1) entries)
          (each_front_at (λ (x : Entry). true ≡ true → at_most x.key new ≡ true) (n + 1) entries entry
          (λ i less long e. at_most_trans (get_or entries i entry).key entry.key new (subst (λ (x : Entry). at_most (get_or entries i entry).key x.key ≡ true) here.1 (keys_rise entries i n entry are.ordered (omega arith) lt)) over));
      rises = rises;
      fits = fits;
    }
  where
    still : (entries : List Entry) (n : ℕ) (entry : Entry) → slice_get entries n ≡ Some entry → slice_get (take (n + 1) entries) n ≡ Some entry
    still entries n entry at = rw Rattle.std.proofs.Common.add-one (go entries n at)
      where
        go : (entries : List Entry) (n : ℕ) → slice_get entries n ≡ Some entry → slice_get (take (Rattle.std.proofs.Common.suc n) entries) n ≡ Some entry
        go [] n at = absurd cc
        go (x ∷ xs) Rattle.std.proofs.Common.zero at = at
        go (x ∷ xs) (Rattle.std.proofs.Common.suc n) at = go xs n at

-- entries before an end
module _ (end : List ℕ) (entries : List Entry) (are : AreRows entries) (d : Entry) where
  pub front_before : Each (λ (x : Entry). below x.key end ≡ true) (take (lower_index entries end most) entries)
  front_before = each_front_at (λ (x : Entry). below x.key end ≡ true) (lower_index entries end most) entries d (λ i less long. front_below entries end i d are.within less)

  pub back_after : Each (λ (x : Entry). below x.key end ≡ false) (drop (lower_index entries end most) entries)
  back_after = each_back_at (λ (x : Entry). below x.key end ≡ false) (lower_index entries end most) entries d
      (λ i le long. Rattle.base_laws.proofs.Keys.below_flips (get_or entries i d).key end ∙ ap Rattle.std.proofs.Common.not (back_reaches entries end most i d are.ordered le long))
