-- Edits are read one after the other.
use Rattle.std.proofs.Common.{◌≡◌, ◌≢◌, ℕ, zero, suc, ◌+◌, ◌-◌, ◌<◌, ◌≤◌, ◌==◌, List, [], ◌∷◌, ◌++◌, length, map, Option, Some, None, Bool, true, false, cond, refl, sym, ◌∙◌, ap, subst, arith, append_assoc}
use Rattle.std.specs.Prelude.{option_map}
use Rattle.std.proofs.lemmas.Bool.Decides.{nat_tests}
use Rattle.std.proofs.lemmas.List.{append-nil}
use Rattle.manifest_edits.specs.Edits.{Edit as NamedEdit}
use Rattle.st_code.specs.Fixed.{fixed32_at}
use Rattle.st_manifest.specs.Edit.{as_edit}
use Rattle.st_manifest.specs.Payload.{edit_at, edits_at}
use Rattle.st_manifest.specs.Reads.{AddsEdits, IsPayloadRead}
use Rattle.st_manifest.specs.declared.edit.Edit.{Edit}

-- these edits in front of others, if there are others
abbrev pub prefixed : List NamedEdit → Option (List NamedEdit) → Option (List NamedEdit)
prefixed edits None = None
prefixed edits (Some rest) = Some (edits ++ rest)

prefixed_none : (o : Option (List NamedEdit)) → prefixed [] o ≡ o
prefixed_none None = refl
prefixed_none (Some rest) = refl

prefixed_push : (edits : List NamedEdit) (edit : NamedEdit) (o : Option (List NamedEdit)) → prefixed edits (option_map (λ rest. edit ∷ rest) o) ≡ prefixed (edits ++ edit ∷ []) o
prefixed_push edits edit None = refl
prefixed_push edits edit (Some rest) = ap (λ (l : List NamedEdit). Some l) (sym (append_assoc edits (edit ∷ []) rest))

-- one edit in front of at most so many more
abbrev pub stepped : ℕ → List ℕ → Option (NamedEdit × ℕ) → Option (List NamedEdit)
stepped most bytes None = None
stepped most bytes (Some found) = option_map (λ edits. found.0 ∷ edits) (edits_at most bytes found.1)

same_number : (n : ℕ) → (n == n) ≡ true
same_number n = grind arith

other_number : (n m : ℕ) → n ≢ m → (n == m) ≡ false
other_number n m differs = grind (arith, nat_tests)

pub at_end : (most : ℕ) (bytes : List ℕ) (at : ℕ) → at ≡ length bytes → edits_at most bytes at ≡ Some []
at_end zero bytes at here = ap (λ (b : Bool). cond b (Some []) None) (ap (λ (n : ℕ). n == length bytes) here ∙ same_number (length bytes))
at_end (suc most) bytes at here = ap (λ (b : Bool). cond b (Some []) (stepped most bytes (edit_at bytes at))) (ap (λ (n : ℕ). n == length bytes) here ∙ same_number (length bytes))

pub one_step : (most : ℕ) (bytes : List ℕ) (at : ℕ) (found : Option (NamedEdit × ℕ)) → at ≢ length bytes → edit_at bytes at ≡ found → edits_at (suc most) bytes at ≡ stepped most bytes found
one_step most bytes at found apart is =
    ap (λ (b : Bool). cond b (Some []) (stepped most bytes (edit_at bytes at))) (other_number at (length bytes) apart) ∙ ap (λ (o : Option (NamedEdit × ℕ)). stepped most bytes o) is

-- the edits up to an offset were read
pub record SoFar (bytes : List ℕ) (old : List Edit) (at : ℕ) (out : List Edit) : Type 0 where
  pub edits : List NamedEdit
  pub most : ℕ
  pub out_is : map as_edit out ≡ map as_edit old ++ edits
  pub enough : length bytes ≤ at + most
  pub left : edits_at (length bytes) bytes 4 ≡ prefixed edits (edits_at most bytes at)

map_push : (xs : List Edit) (x : Edit) → map as_edit (xs ++ x ∷ []) ≡ map as_edit xs ++ as_edit x ∷ []
map_push [] x = refl
map_push (y ∷ xs) x = ap (λ (l : List NamedEdit). as_edit y ∷ l) (map_push xs x)

module _ (bytes : List ℕ) (old : List Edit) where
  pub so_start : SoFar bytes old 4 old
  so_start = record {
    edits = [];
    most = length bytes;
    out_is = sym (append-nil (map as_edit old));
    enough = omega arith;
    left = sym (prefixed_none (edits_at (length bytes) bytes 4));
  }

  module _ (at : ℕ) (out : List Edit) (so : SoFar bytes old at out) where
    some_left : at < length bytes → so.most ≡ suc (so.most - 1)
    some_left more = let e = so.enough in omega (arith, e, more)

    step : at < length bytes → (found : Option (NamedEdit × ℕ)) → edit_at bytes at ≡ found → edits_at (length bytes) bytes 4 ≡ prefixed so.edits (stepped (so.most - 1) bytes found)
    step more found is =
        so.left ∙ ap (λ (n : ℕ). prefixed so.edits (edits_at n bytes at)) (some_left more)
        ∙ ap (λ (o : Option (List NamedEdit)). prefixed so.edits o) (one_step (so.most - 1) bytes at found (λ here. omega (arith, more, here)) is)

    pub so_more : (edit : Edit) (next : ℕ) (new : List Edit) → at < length bytes → at < next → edit_at bytes at ≡ Some (as_edit edit, next) → new ≡ out ++ edit ∷ [] → SoFar bytes old next new
    so_more edit next new more later is pushed = record {
      edits = so.edits ++ as_edit edit ∷ [];
      most = so.most - 1;
      out_is = ap (λ (l : List Edit). map as_edit l) pushed ∙ map_push out edit ∙ ap (λ (l : List NamedEdit). l ++ as_edit edit ∷ []) so.out_is ∙ append_assoc (map as_edit old) so.edits (as_edit edit ∷ []);
      enough = let e = so.enough in omega (arith, e, more, later);
      left = step more (Some (as_edit edit, next)) is ∙ prefixed_push so.edits (as_edit edit) (edits_at (so.most - 1) bytes next);
    }

    pub so_none : at < length bytes → edit_at bytes at ≡ None → AddsEdits false old out (edits_at (length bytes) bytes 4)
    so_none more none = subst (λ o. AddsEdits false old out o) (sym (step more None none)) tt

    pub so_end : at ≡ length bytes → AddsEdits true old out (edits_at (length bytes) bytes 4)
    so_end here = subst (λ o. AddsEdits true old out o) (sym (so.left ∙ ap (λ o. prefixed so.edits o) (at_end so.most bytes at here) ∙ ap (λ (l : List NamedEdit). Some l) (append-nil so.edits))) so.out_is

-- of a payload
pub read_some : (left : ℕ) (old new : List Edit) (o : Option (List NamedEdit)) → AddsEdits true old new o → IsPayloadRead (Some left) old new (option_map (λ edits. (left, edits)) o)
read_some left old new None is = is
read_some left old new (Some edits) is = (refl, is)

pub read_none : (left : ℕ) (old new : List Edit) (o : Option (List NamedEdit)) → AddsEdits false old new o → IsPayloadRead None old new (option_map (λ edits. (left, edits)) o)
read_none left old new None is = is
read_none left old new (Some edits) is = is

pub room_for : (bytes : List ℕ) (left : ℕ) → Some left ≡ fixed32_at bytes 0 → 4 ≤ length bytes
room_for bytes left is = grind (arith, nat_tests)
