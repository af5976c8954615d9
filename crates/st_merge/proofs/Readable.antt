-- A scan's pairs as a map: at each key of the range stands what a read finds.
use Rattle.std.proofs.Common.{◌≡◌, ℕ, Bool, true, false, cond, ◌&&◌, List, [], ◌∷◌, ◌++◌, Option, Some, None, refl, sym, ap, subst, ◌∙◌, inl, inr}
use Rattle.std.specs.Prelude.{find, nat_le, option_map}
use Rattle.std.specs.List.{AllByRecursion as Each}
use Rattle.std.proofs.lemmas.Bool.{and_from, and_parts, cases_Bool, false≢true}
use Rattle.st_base.specs.Bytes.{at_most, below, same}
use Rattle.st_base.specs.Map.{value_at}
use Rattle.st_base.specs.Order.{rises, rises_behind}
use Rattle.st_base.specs.Range.{is_in_range}
use Rattle.st_base.specs.Rows.{newest}
use Rattle.st_base.specs.declared.entry.Entry.{Entry}
use Rattle.st_base.specs.declared.entry.KeyRange.{KeyRange}
use Rattle.st_base.specs.declared.entry.Mark.{Mark}
use Rattle.st_base.specs.declared.entry.Mark.TheVariants.{Put, Gone}
use Rattle.st_base.proofs.Same.{same_self, same_sym, same_true}
use Rattle.base_laws.proofs.Keys.{at_is, below_trans, not_below}
use Rattle.base_laws.proofs.Lists.{each_as}
use Rattle.st_order.specs.Sorted.{merged}
use Rattle.st_order.proofs.Columns.{Weak}
use Rattle.st_order.proofs.Least.{both_at_most}
use Rattle.st_order.proofs.Sorted.{NotBefore}
use Rattle.st_merge.specs.Scan.{KeyValue, is_read_before, is_seen, keys_rise_in, live_behind, live_pairs, shown_pair, value_found}
use Rattle.st_merge.proofs.Scans.{key_up, merged_weak}

module _ (range : KeyRange) (number : ℕ) where
  -- a key that no entry has
  none_has : (before : Option (List ℕ)) (key : List ℕ) (entries : List Entry) → Each (λ entry. same entry.key key ≡ false) entries → value_at (live_behind range number before entries) key ≡ None
  none_has before key [] each = refl
  none_has before key (entry ∷ entries) each =
      all (none_has before key entries each.1) (none_has (Some entry.key) key entries each.1) (is_seen range number entry) (is_read_before before entry.key)
    where
      all : value_at (live_behind range number before entries) key ≡ None → value_at (live_behind range number (Some entry.key) entries) key ≡ None → (s r : Bool)
          → value_at (cond s (cond r (live_behind range number before entries) (shown_pair entry.key entry.mark ++ live_behind range number (Some entry.key) entries)) (live_behind range number before entries)) key ≡ None
      all one other false r = one
      all one other true true = one
      all one other true false = by_mark entry.mark
        where
          by_mark : (mark : Mark) → value_at (shown_pair entry.key mark ++ live_behind range number (Some entry.key) entries) key ≡ None
          by_mark Gone = other
          by_mark (Put value) = ap (λ b. cond b (Some value) (value_at (live_behind range number (Some entry.key) entries) key)) (at_is key entry.key ∙ each.0) ∙ other

  -- behind an entry of a greater key nothing has the key
  others_differ : (key : List ℕ) (entry : Entry) (entries : List Entry) → Each (NotBefore entry) entries → at_most key entry.key ≡ true → same entry.key key ≡ false → Each (λ other. same other.key key ≡ false) entries
  others_differ key entry [] each le differs = tt
  others_differ key entry (other ∷ entries) each le differs = (
    elim (cases_Bool (same other.key key)) [
      | inl is ↦
          let back : at_most entry.key key ≡ true = subst (λ (k : List ℕ). at_most entry.key k ≡ true) (same_true other.key key is) (key_up entry other each.0) in
          let one : key ≡ entry.key = both_at_most key entry.key le back in
          absurd (false≢true (sym differs ∙ ap (λ (k : List ℕ). same k key) (sym one) ∙ same_self key))
      | inr not_so ↦ not_so
    ],
    others_differ key entry entries each.1 le differs,
  )

  -- a key that was read shows nothing more
  key_passed : (key : List ℕ) (entries : List Entry) → Each (λ entry. at_most key entry.key ≡ true) entries → Weak entries → value_at (live_behind range number (Some key) entries) key ≡ None
  key_passed key [] each weak = refl
  key_passed key (entry ∷ entries) each weak = step (same entry.key key) refl (key_passed key entries each.1 weak.1)
    where
      both : (s : Bool) → value_at (live_behind range number (Some key) entries) key ≡ None
          → value_at (cond s (cond true (live_behind range number (Some key) entries) (shown_pair entry.key entry.mark ++ live_behind range number (Some entry.key) entries)) (live_behind range number (Some key) entries)) key ≡ None
      both true rest = rest
      both false rest = rest

      step : (b : Bool) → same entry.key key ≡ b → value_at (live_behind range number (Some key) entries) key ≡ None → value_at (live_behind range number (Some key) (entry ∷ entries)) key ≡ None
      step true is rest =
          ap (λ r. value_at (cond (is_seen range number entry) (cond r (live_behind range number (Some key) entries) (shown_pair entry.key entry.mark ++ live_behind range number (Some entry.key) entries)) (live_behind range number (Some key) entries)) key)
          (same_sym entry.key key is) ∙ both (is_seen range number entry) rest
      step false is rest = none_has (Some key) key (entry ∷ entries) (is, others_differ key entry entries weak.0 each.0 is)

  reached : (entry : Entry) (key : List ℕ) (entries : List Entry) → entry.key ≡ key → Each (NotBefore entry) entries → Each (λ other. at_most key other.key ≡ true) entries
  reached entry key entries is each =
      each_as (NotBefore entry) (λ other. at_most key other.key ≡ true) (λ other behind. subst (λ (k : List ℕ). at_most k other.key ≡ true) is (key_up entry other behind)) entries each

  abbrev told : List ℕ → Bool → List Entry → Option (List ℕ)
  told key b entries = cond b (value_found (newest entries key number)) None

  found_behind : (before : Option (List ℕ)) (key : List ℕ) (entries : List Entry) → is_read_before before key ≡ false → Weak entries → value_at (live_behind range number before entries) key ≡ told key (is_in_range range key) entries
  found_behind before key [] fresh weak = nothing (is_in_range range key)
    where
      nothing : (b : Bool) → None ≡ told key b []
      nothing true = refl
      nothing false = refl
  found_behind before key (entry ∷ entries) fresh weak =
      step (same entry.key key) refl (found_behind before key entries fresh weak.1) (λ differs. found_behind (Some entry.key) key entries differs weak.1)
    where
      mine : same entry.key key ≡ true → (b l : Bool) → value_at (live_behind range number before entries) key ≡ told key b entries
          → value_at (cond (b && l) (cond false (live_behind range number before entries) (shown_pair entry.key entry.mark ++ live_behind range number (Some entry.key) entries)) (live_behind range number before entries)) key
          ≡ cond b (value_found (option_map (λ (one : Entry). (one.number, one.mark)) (cond (true && l) (Some entry) (find (λ (one : Entry). same one.key key && nat_le one.number number) entries)))) None
      mine is false l rest = rest
      mine is true false rest = rest
      mine is true true rest = by_mark entry.mark
        where
          by_mark : (mark : Mark) → value_at (shown_pair entry.key mark ++ live_behind range number (Some entry.key) entries) key ≡ value_found (Some (entry.number, mark))
          by_mark Gone =
              ap (λ (k : List ℕ). value_at (live_behind range number (Some k) entries) key) (same_true entry.key key is)
              ∙ key_passed key entries (reached entry key entries (same_true entry.key key is) weak.0) weak.1
          by_mark (Put value) = ap (λ b. cond b (Some value) (value_at (live_behind range number (Some entry.key) entries) key)) (at_is key entry.key ∙ is)

      another : same entry.key key ≡ false → (s r : Bool) → value_at (live_behind range number before entries) key ≡ told key (is_in_range range key) entries
          → value_at (live_behind range number (Some entry.key) entries) key ≡ told key (is_in_range range key) entries
          → value_at (cond s (cond r (live_behind range number before entries) (shown_pair entry.key entry.mark ++ live_behind range number (Some entry.key) entries)) (live_behind range number before entries)) key
          ≡ told key (is_in_range range key) entries
      another differs false r one other = one
      another differs true true one other = one
      another differs true false one other = by_mark entry.mark
        where
          by_mark : (mark : Mark) → value_at (shown_pair entry.key mark ++ live_behind range number (Some entry.key) entries) key ≡ told key (is_in_range range key) entries
          by_mark Gone = other
          by_mark (Put value) = ap (λ b. cond b (Some value) (value_at (live_behind range number (Some entry.key) entries) key)) (at_is key entry.key ∙ differs) ∙ other

      step : (b : Bool) → same entry.key key ≡ b → value_at (live_behind range number before entries) key ≡ told key (is_in_range range key) entries
          → (same entry.key key ≡ false → value_at (live_behind range number (Some entry.key) entries) key ≡ told key (is_in_range range key) entries)
          → value_at (live_behind range number before (entry ∷ entries)) key ≡ told key (is_in_range range key) (entry ∷ entries)
      step true is one other =
          ap (λ (k : List ℕ). value_at (cond (is_in_range range k && nat_le entry.number number)
          (cond (is_read_before before k) (live_behind range number before entries) (shown_pair entry.key entry.mark ++ live_behind range number (Some entry.key) entries)) (live_behind range number before entries)) key) (same_true entry.key key is)
          ∙ ap (λ r. value_at (cond (is_in_range range key && nat_le entry.number number)
          (cond r (live_behind range number before entries) (shown_pair entry.key entry.mark ++ live_behind range number (Some entry.key) entries)) (live_behind range number before entries)) key) fresh
          ∙ mine is (is_in_range range key) (nat_le entry.number number) one
          ∙ ap (λ b. cond (is_in_range range key) (value_found (option_map (λ (one : Entry). (one.number, one.mark)) (cond (b && nat_le entry.number number) (Some entry) (find (λ (one : Entry). same one.key key && nat_le one.number number) entries)))) None) (sym is)
      step false is one other =
          another is (is_seen range number entry) (is_read_before before entry.key) one (other is)
          ∙ ap (λ b. cond (is_in_range range key) (value_found (option_map (λ (one : Entry). (one.number, one.mark)) (cond (b && nat_le entry.number number) (Some entry) (find (λ (one : Entry). same one.key key && nat_le one.number number) entries)))) None) (sym is)

  -- ---- keys rise

  abbrev up : KeyValue → KeyValue → Bool
  up one other = below one.0 other.0

  lower_front : (one other : KeyValue) (pairs : List KeyValue) → below one.0 other.0 ≡ true → rises_behind up other pairs ≡ true → rises_behind up one pairs ≡ true
  lower_front one other [] less e = refl
  lower_front one other (pair ∷ pairs) less e =
      let parts = and_parts (below other.0 pair.0) (rises_behind up pair pairs) e in
      and_from (below one.0 pair.0) (rises_behind up pair pairs) (below_trans one.0 other.0 pair.0 less parts.0) parts.1

  no_front : (one : KeyValue) (pairs : List KeyValue) → rises_behind up one pairs ≡ true → rises up pairs ≡ true
  no_front one [] e = refl
  no_front one (pair ∷ pairs) e = (and_parts (below one.0 pair.0) (rises_behind up pair pairs) e).1

  strictly : (key other : List ℕ) → at_most key other ≡ true → same key other ≡ false → below key other ≡ true
  strictly key other le differs = elim (cases_Bool (below key other)) [
    | inl less ↦ less
    | inr not_less ↦ absurd (false≢true (sym differs ∙ ap (same key) (sym (both_at_most key other le (not_below key other not_less))) ∙ same_self key))
  ]

  rise_behind : (key value : List ℕ) (entries : List Entry) → Each (λ entry. at_most key entry.key ≡ true) entries → Weak entries → rises_behind up (key, value) (live_behind range number (Some key) entries) ≡ true
  rise_behind key value [] each weak = refl
  rise_behind key value (entry ∷ entries) each weak =
      all (rise_behind key value entries each.1 weak.1) (λ shown. rise_behind entry.key shown entries (reached entry entry.key entries refl weak.0) weak.1) (is_seen range number entry) (same key entry.key) refl
    where
      all : rises_behind up (key, value) (live_behind range number (Some key) entries) ≡ true
          → ((shown : List ℕ) → rises_behind up (entry.key, shown) (live_behind range number (Some entry.key) entries) ≡ true)
          → (s r : Bool) → same key entry.key ≡ r
          → rises_behind up (key, value) (cond s (cond r (live_behind range number (Some key) entries) (shown_pair entry.key entry.mark ++ live_behind range number (Some entry.key) entries)) (live_behind range number (Some key) entries)) ≡ true
      all one other false r is = one
      all one other true true is = one
      all one other true false is = by_mark entry.mark
        where
          by_mark : (mark : Mark) → rises_behind up (key, value) (shown_pair entry.key mark ++ live_behind range number (Some entry.key) entries) ≡ true
          by_mark Gone = lower_front (key, value) (entry.key, []) (live_behind range number (Some entry.key) entries) (strictly key entry.key each.0 is) (other [])
          by_mark (Put shown) =
              and_from (below key entry.key) (rises_behind up (entry.key, shown) (live_behind range number (Some entry.key) entries)) (strictly key entry.key each.0 is) (other shown)

  rise_first : (entries : List Entry) → Weak entries → rises up (live_behind range number None entries) ≡ true
  rise_first [] weak = refl
  rise_first (entry ∷ entries) weak =
      all (rise_first entries weak.1) (λ shown. rise_behind entry.key shown entries (reached entry entry.key entries refl weak.0) weak.1) (is_seen range number entry)
    where
      all : rises up (live_behind range number None entries) ≡ true
          → ((shown : List ℕ) → rises_behind up (entry.key, shown) (live_behind range number (Some entry.key) entries) ≡ true)
          → (s : Bool)
          → rises up (cond s (shown_pair entry.key entry.mark ++ live_behind range number (Some entry.key) entries) (live_behind range number None entries)) ≡ true
      all one other false = one
      all one other true = by_mark entry.mark
        where
          by_mark : (mark : Mark) → rises up (shown_pair entry.key mark ++ live_behind range number (Some entry.key) entries) ≡ true
          by_mark Gone = no_front (entry.key, []) (live_behind range number (Some entry.key) entries) (other [])
          by_mark (Put shown) = other shown

pub found_in_scan : (range : KeyRange) (number : ℕ) (runs : List (List Entry)) (key : List ℕ) → value_at (live_pairs range number (merged runs)) key ≡ cond (is_in_range range key) (value_found (newest (merged runs) key number)) None
found_in_scan range number runs key = found_behind range number None key (merged runs) refl (merged_weak runs)

pub scan_rises : (range : KeyRange) (number : ℕ) (runs : List (List Entry)) → keys_rise_in (live_pairs range number (merged runs)) ≡ true
scan_rises range number runs = rise_first range number (merged runs) (merged_weak runs)
