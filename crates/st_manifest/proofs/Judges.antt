-- Edits are judged one after the other.
use Rattle.std.proofs.Common.{◌≡◌, ℕ, suc, is_some, true≢false, ◌-◌, ◌+◌, ◌<◌, ◌≤◌, Bool, true, false, cond, not, ◌&&◌, ◌==◌, List, [], ◌∷◌, length, map, drop, get_or, Option, Some, None, Result, Ok, Err, refl, sym, ◌∙◌, ap, subst, arith}
use Rattle.std.proofs.lemmas.Bool.Decides.{nat_tests}
use Rattle.std.specs.List.{list_all}
use Rattle.std.proofs.lemmas.List.{drop_all, drop_more, length-drop, length-map}
use Rattle.manifest_edits.specs.Edits.{Edit as NamedEdit, GroupRecord, Named, edited, edited_all, ends_with_last, is_last_edit, is_right}
use Rattle.named_index.specs.Knows.{IsJudged, Knows}
use Rattle.named_index.specs.declared.index.NamedIndex.{NamedIndex}
use Rattle.st_manifest.specs.Edit.{as_edit}
use Rattle.st_manifest.specs.Payload.{fits_edit}
use Rattle.st_manifest.specs.Judging.{AreJudged, IsNamedSoFar, edited_next}
use Rattle.st_manifest.specs.declared.edit.Edit.{Edit}

-- what is left of the edits, in front of the next one
module _ (edits : List Edit) (i : ℕ) (one : Edit) (inside : i < length edits) (is : one ≡ get_or edits i one) where
  pub left_is : map as_edit (drop i edits) ≡ as_edit one ∷ map as_edit (drop (i + 1) edits)
  left_is = ap (λ (l : List Edit). map as_edit l) (drop_more edits i one inside ∙ ap (λ (e : Edit). e ∷ drop (i + 1) edits) (sym is))

pub none_left : (edits : List Edit) (i : ℕ) → length edits ≤ i → map as_edit (drop i edits) ≡ []
none_left edits i past = ap (λ (l : List Edit). map as_edit l) (drop_all i edits past)

-- ---- whether they are right

-- the index knows what is named after the edits so far
abbrev pub KnowsSoFar : List Edit → NamedIndex → Named → ℕ → Type 0
KnowsSoFar edits index named i = (mid : Named) × (Knows index mid × (edited_all named (map as_edit edits) ≡ edited_all mid (map as_edit (drop i edits))))

module _ (edits : List Edit) (i : ℕ) (named mid : Named) (so_far : edited_all named (map as_edit edits) ≡ edited_all mid (map as_edit (drop i edits))) where
  pub judged_end : length edits ≤ i → edited_all named (map as_edit edits) ≡ Some mid
  judged_end past = so_far ∙ ap (edited_all mid) (none_left edits i past)

  module _ (one : Edit) (inside : i < length edits) (is : one ≡ get_or edits i one) where
    here : edited_all named (map as_edit edits) ≡ cond (is_right mid (as_edit one)) (edited_all (edited mid (as_edit one)) (map as_edit (drop (i + 1) edits))) None
    here = so_far ∙ ap (edited_all mid) (left_is edits i one inside is)

    pub judged_wrong : is_right mid (as_edit one) ≡ false → edited_all named (map as_edit edits) ≡ None
    judged_wrong wrong = here ∙ ap (λ (b : Bool). cond b (edited_all (edited mid (as_edit one)) (map as_edit (drop (i + 1) edits))) None) wrong

    pub judged_right : is_right mid (as_edit one) ≡ true → edited_all named (map as_edit edits) ≡ edited_all (edited mid (as_edit one)) (map as_edit (drop (i + 1) edits))
    judged_right right = here ∙ ap (λ (b : Bool). cond b (edited_all (edited mid (as_edit one)) (map as_edit (drop (i + 1) edits))) None) right

pub stops_wrong : (edits : List Edit) (i : ℕ) (named : Named) (old new : NamedIndex) (one : Edit) → KnowsSoFar edits old named i → i < length edits → one ≡ get_or edits i one
    → ((mid : Named) → Knows old mid → IsJudged new mid (as_edit one) false) → AreJudged new named (map as_edit edits) false
stops_wrong edits i named old new one so_far inside is judged = judged_wrong edits i named so_far.0 so_far.1.1 one inside is (judged so_far.0 so_far.1.0)

pub goes_on : (edits : List Edit) (i : ℕ) (named : Named) (old new : NamedIndex) (one : Edit) → KnowsSoFar edits old named i → i < length edits → one ≡ get_or edits i one
    → ((mid : Named) → Knows old mid → IsJudged new mid (as_edit one) true) → KnowsSoFar edits new named (i + 1)
goes_on edits i named old new one so_far inside is judged =
    let right = judged so_far.0 so_far.1.0 in
    (edited so_far.0 (as_edit one), (right.1, judged_right edits i named so_far.0 so_far.1.1 one inside is right.0))

pub all_right : (edits : List Edit) (i : ℕ) (named : Named) (index : NamedIndex) → KnowsSoFar edits index named i → length edits ≤ i → AreJudged index named (map as_edit edits) true
all_right edits i named index so_far past = (so_far.0, judged_end edits i named so_far.0 so_far.1.1 past, so_far.1.0)

-- ---- a record

module _ (index : NamedIndex) (named : Named) (next : GroupRecord) where
  pub record_right : AreJudged index named next.edits true → IsNamedSoFar index None (edited_next (Ok named) next)
  record_right is = subst (λ (found : Option Named). IsNamedSoFar index None (elim found [ None ↦ Err next.at | Some after ↦ Ok after ])) (sym is.1) is.2

  pub record_wrong : AreJudged index named next.edits false → IsNamedSoFar index (Some next.at) (edited_next (Ok named) next)
  record_wrong is = subst (λ (found : Option Named). IsNamedSoFar index (Some next.at) (elim found [ None ↦ Err next.at | Some after ↦ Ok after ])) (sym is) refl

-- a fault stays
pub fault_stays : (old new : NamedIndex) (fault : ℕ) (so_far : Result Named ℕ) (next : GroupRecord) → IsNamedSoFar old (Some fault) so_far → IsNamedSoFar new (Some fault) (edited_next so_far next)
fault_stays old new fault (Ok named) next is = absurd is
fault_stays old new fault (Err at) next is = is

-- ---- the end of a group

pub ends_so : (edits : List NamedEdit) (one : NamedEdit) → is_last_edit one ≡ true → ends_with_last (one ∷ edits) ≡ (length edits == 0)
ends_so [] one is = is
ends_so (other ∷ edits) one is = ap (λ (b : Bool). not b && ends_with_last (other ∷ edits)) is ∙ sym (some_more (length edits))
  where
    some_more : (n : ℕ) → (suc n == 0) ≡ false
    some_more n = grind arith

pub goes_past : (edits : List NamedEdit) (one : NamedEdit) → is_last_edit one ≡ false → ends_with_last (one ∷ edits) ≡ ends_with_last edits
goes_past [] one is = is
goes_past (other ∷ edits) one is = ap (λ (b : Bool). not b && ends_with_last (other ∷ edits)) is

module _ (edits : List Edit) (i : ℕ) (so_far : ends_with_last (map as_edit edits) ≡ ends_with_last (map as_edit (drop i edits))) where
  pub ends_never : length edits ≤ i → ends_with_last (map as_edit edits) ≡ false
  ends_never past = so_far ∙ ap ends_with_last (none_left edits i past)

  module _ (one : Edit) (inside : i < length edits) (is : one ≡ get_or edits i one) where
    pub ends_here : is_last_edit (as_edit one) ≡ true → ends_with_last (map as_edit edits) ≡ (i + 1 == length edits)
    ends_here last =
        so_far ∙ ap ends_with_last (left_is edits i one inside is) ∙ ends_so (map as_edit (drop (i + 1) edits)) (as_edit one) last
        ∙ at_end (length (map as_edit (drop (i + 1) edits))) (length edits) i (length-map (drop (i + 1) edits) as_edit ∙ length-drop (i + 1) edits) inside
      where
        at_end : (rest all i : ℕ) → rest ≡ all - (i + 1) → i < all → (rest == 0) ≡ (i + 1 == all)
        at_end rest all i is lt = grind (arith, nat_tests, is, lt)

    pub ends_later : is_last_edit (as_edit one) ≡ false → ends_with_last (map as_edit edits) ≡ ends_with_last (map as_edit (drop (i + 1) edits))
    ends_later other = so_far ∙ ap ends_with_last (left_is edits i one inside is) ∙ goes_past (map as_edit (drop (i + 1) edits)) (as_edit one) other

-- ---- tests of a whole list

pub all_mapped : (edits : List Edit) → list_all (λ edit. fits_edit (as_edit edit)) edits ≡ list_all fits_edit (map as_edit edits)
all_mapped [] = refl
all_mapped (edit ∷ edits) = ap (λ (b : Bool). fits_edit (as_edit edit) && b) (all_mapped edits)

-- ---- a record, where none before it is faulty

module _ (old new : NamedIndex) (next : GroupRecord) where
  pub judged_right_so : (fault : Option ℕ) (so_far : Result Named ℕ) → is_some fault ≡ false → IsNamedSoFar old fault so_far → ((named : Named) → Knows old named → AreJudged new named next.edits true) → IsNamedSoFar new None (edited_next so_far next)
  judged_right_so (Some at) so_far none is judged = absurd (true≢false none)
  judged_right_so None (Err at) none is judged = absurd is
  judged_right_so None (Ok named) none is judged = record_right new named next (judged named is)

  pub judged_wrong_so : (fault : Option ℕ) (so_far : Result Named ℕ) → is_some fault ≡ false → IsNamedSoFar old fault so_far → ((named : Named) → Knows old named → AreJudged new named next.edits false) → IsNamedSoFar new (Some next.at) (edited_next so_far next)
  judged_wrong_so (Some at) so_far none is judged = absurd (true≢false none)
  judged_wrong_so None (Err at) none is judged = absurd is
  judged_wrong_so None (Ok named) none is judged = record_wrong new named next (judged named is)
