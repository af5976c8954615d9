-- A key that isn't known has no write and no mark of the base, so it reads none.
use Rattle.std.proofs.Common.{◌≡◌, ℕ, Bool, true, false, cond, ◌&&◌, ◌||◌, nat_le, List, [], ◌∷◌, Some, None, is_some, refl, sym, ap, ap₂, subst, ◌∙◌, filter, inl, inr, IsTrue}
use Rattle.std.specs.List.{AllByRecursion as Each, list_any}
use Rattle.std.specs.Option.{option_or}
use Rattle.std.proofs.lemmas.Bool.{cases_Bool, and_from, false≢true}
use Rattle.st_base.specs.Bytes.{same, at_most}
use Rattle.st_base.specs.Entries.{last_mark}
use Rattle.st_base.specs.Map.{value_at}
use Rattle.st_base.specs.Range.{has_key, is_in_range, range_of, keys_of}
use Rattle.st_base.specs.Order.{in_order}
use Rattle.st_base.specs.declared.entry.Entry.{Entry}
use Rattle.st_base.specs.declared.entry.Mark.{Mark}
use Rattle.st_base.specs.declared.entry.KeyRange.{KeyRange}
use Rattle.st_base.proofs.Same.{same_true, same_is_eq, same_sym}
use Rattle.st_model.specs.declared.state.ModelFamily.{ModelFamily}
use Rattle.st_model.specs.Placing.{is_among_known}
use Rattle.st_model.specs.Read.{last_write, read, is_covered, value_of}
use Rattle.st_model.specs.State.{is_known}
use Rattle.base_laws.proofs.Ranges.{within_parts, range_has_keys}
use Rattle.model_laws.specs.Claims.{KnowsKeys}

-- ---- an unknown key

-- no known key is the same as it
apart : (family : ModelFamily) (other key : List ℕ) → IsTrue (is_known family other) → is_known family key ≡ false → same other key ≡ false
apart family other key known unknown = elim (cases_Bool (same other key)) [
  | inl e ↦ absurd (false≢true (sym unknown ∙ subst (λ k. is_known family k ≡ true) (same_true other key e) known))
  | inr e ↦ e
]

no_write : (family : ModelFamily) (writes : List Entry) (key : List ℕ) → Each (λ write. IsTrue (is_known family write.key)) writes → is_known family key ≡ false → has_key writes key ≡ false
no_write family [] key known unknown = refl
no_write family (write ∷ writes) key known unknown =
    ap₂ (λ a b. a || b) (apart family write.key key known.0 unknown) (no_write family writes key known.1 unknown)

no_last : (writes : List Entry) (number : ℕ) (key : List ℕ) → has_key writes key ≡ false → last_write writes number key ≡ None
no_last [] number key e = refl
no_last (write ∷ writes) number key e = go (same write.key key) e (no_last writes number key)
  where
    go : (b : Bool) → (b || has_key writes key) ≡ false → (has_key writes key ≡ false → last_write writes number key ≡ None)
        → last_mark (cond (b && nat_le write.number number) (write ∷ filter (λ other. same other.key key && nat_le other.number number) writes) (filter (λ other. same other.key key && nat_le other.number number) writes)) ≡ None
    go true e rest = absurd (false≢true (sym e))
    go false e rest = rest e

no_base : (family : ModelFamily) (pairs : List (List ℕ × Mark)) (key : List ℕ) → Each (λ pair. IsTrue (is_known family pair.0)) pairs → is_known family key ≡ false → value_at pairs key ≡ None
no_base family [] key known unknown = refl
no_base family (pair ∷ pairs) key known unknown =
    ap (λ b. cond b (Some pair.1) (value_at pairs key)) (sym (same_is_eq key pair.0) ∙ differs) ∙ no_base family pairs key known.1 unknown
  where
    differs : same key pair.0 ≡ false
    differs = elim (cases_Bool (same key pair.0)) [
      | inl e ↦ absurd (false≢true (sym (apart family pair.0 key known.0 unknown) ∙ same_sym key pair.0 e))
      | inr e ↦ e
    ]

pub reads_none : (family : ModelFamily) (number : ℕ) (key : List ℕ) → KnowsKeys family → is_known family key ≡ false → read family number key ≡ None
reads_none family number key knows unknown =
    ap₂ (λ write base. value_of (option_or write base)) (no_last family.writes number key (no_write family family.writes key knows.writes unknown)) (no_base family family.base key knows.base unknown)

pub uncovered : (family : ModelFamily) (key : List ℕ) → KnowsKeys family → is_known family key ≡ false → is_covered family key ≡ false
uncovered family key knows unknown =
    ap₂ (λ write base. write || is_some base) (no_write family family.writes key knows.writes unknown) (no_base family family.base key knows.base unknown)

-- ---- a file with no known key round it

any_of : (test : List ℕ → Bool) (keys : List (List ℕ)) (key : List ℕ) → list_any (λ known. same known key) keys ≡ true → test key ≡ true → list_any test keys ≡ true
any_of test [] key here holds = absurd (false≢true here)
any_of test (other ∷ keys) key here holds = go (same other key) refl here (any_of test keys key)
  where
    go : (b : Bool) → same other key ≡ b → (b || list_any (λ known. same known key) keys) ≡ true → (list_any (λ known. same known key) keys ≡ true → test key ≡ true → list_any test keys ≡ true)
        → (test other || list_any test keys) ≡ true
    go true e here rest = ap (λ b. b || list_any test keys) (subst (λ k. test k ≡ true) (sym (same_true other key e)) holds)
    go false e here rest = or_right (test other) (rest here holds)
      where
        or_right : (a : Bool) → list_any test keys ≡ true → (a || list_any test keys) ≡ true
        or_right true r = refl
        or_right false r = r

-- a known key of the range would stand at or before its last and at or after its first
unknown_within : (family : ModelFamily) (range : KeyRange) (key : List ℕ) → is_among_known family range ≡ false → is_in_range range key ≡ true → is_known family key ≡ false
unknown_within family range key none within = elim (cases_Bool (is_known family key)) [
  | inl known ↦ absurd (false≢true (sym none ∙ and_from
      (list_any (λ other. at_most other range.last) family.known) (list_any (at_most range.first) family.known)
      (any_of (λ other. at_most other range.last) family.known key known (within_parts range key within).1)
      (any_of (at_most range.first) family.known key known (within_parts range key within).0)))
  | inr unknown ↦ unknown
]

each_unknown : (family : ModelFamily) (range : KeyRange) (entries : List Entry) → is_among_known family range ≡ false → Each (λ entry. is_in_range range entry.key ≡ true) entries → Each (λ key. is_known family key ≡ false) (keys_of entries)
each_unknown family range [] none within = tt
each_unknown family range (entry ∷ entries) none within = (unknown_within family range entry.key none within.0, each_unknown family range entries none within.1)

-- none of the file's keys is known
pub unknown_keys : (family : ModelFamily) (entries : List Entry) → is_among_known family (range_of entries) ≡ false → in_order entries ≡ true → Each (λ key. is_known family key ≡ false) (keys_of entries)
unknown_keys family entries none ordered = each_unknown family (range_of entries) entries none (range_has_keys entries ordered)
