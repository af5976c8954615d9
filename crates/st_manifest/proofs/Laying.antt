-- Edits are laid into bodies, and bodies are numbered.
use Rattle.std.proofs.Common.{◌≡◌, inl, inr, ℕ, zero, suc, ◌+◌, ◌-◌, ◌<◌, ◌≤◌, List, [], ◌∷◌, ◌++◌, length, map, take, drop, get_or, Bool, true, false, cond, refl, sym, ◌∙◌, ap, subst, arith, append_assoc, length-append, nat_le}
use Rattle.std.specs.Prelude.{IsTrue}
use Rattle.std.specs.List.{AllByRecursion as Each}
use Rattle.std.proofs.lemmas.Bool.Decides.{nat_tests}
use Rattle.std.proofs.lemmas.List.{append-nil, drop_more, take_all, drop_all}
use Rattle.st_code.specs.Fixed.{fixed32}
use Rattle.manifest_edits.specs.Edits.{Edit as NamedEdit, AddFamily, DropFamily, AddTable, DropTable, Flushed, Last, AddLog, DropLog, ends_with_last}
use Rattle.manifest_edits.specs.Groups.{cut_edits, cut_edits_behind, edit_size, record_room}
use Rattle.st_manifest.specs.Edit.{as_edit}
use Rattle.st_manifest.proofs.Fits.{FitsEdit}
use Rattle.st_manifest.specs.Payload.{written_edit, written_edits}
use Rattle.st_manifest.specs.Laid.{bodies_laid, body_laid, group_bodies, numbered_bodies}
use Rattle.std.proofs.lemmas.Bool.{cases_lt}
use Rattle.st_manifest.specs.declared.edit.Edit.{Edit}
use Rattle.st_manifest.proofs.Again.{family_short, size_is}

pub written_push : (edits : List NamedEdit) (edit : NamedEdit) → written_edits (edits ++ edit ∷ []) ≡ written_edits edits ++ written_edit edit
written_push [] edit = append-nil (written_edit edit)
written_push (e ∷ edits) edit = ap (λ (l : List ℕ). written_edit e ++ l) (written_push edits edit) ∙ sym (append_assoc (written_edit e) (written_edits edits) (written_edit edit))

bodies_push : (chunks : List (List NamedEdit)) (chunk : List NamedEdit) → map written_edits (chunks ++ chunk ∷ []) ≡ map written_edits chunks ++ written_edits chunk ∷ []
bodies_push [] chunk = refl
bodies_push (c ∷ chunks) chunk = ap (λ (l : List (List ℕ)). written_edits c ∷ l) (bodies_push chunks chunk)

-- an edit within the bounds fits a record
pub edit_small : (edit : NamedEdit) → FitsEdit edit → edit_size edit ≤ 70
edit_small (AddFamily id name) fits = let short = family_short name fits.1 in omega (arith, short)
edit_small (DropFamily id) fits = omega arith
edit_small (AddTable id placed) fits = omega arith
edit_small (DropTable id file) fits = omega arith
edit_small (Flushed id number) fits = omega arith
edit_small (Last number) fits = omega arith
edit_small (AddLog file) fits = omega arith
edit_small (DropLog file) fits = omega arith

-- the edits up to a place were laid: the bodies that are closed, and the one that is being filled
pub record Laid (edits : List NamedEdit) (i : ℕ) (bodies : List (List ℕ)) (body : List ℕ) : Type 0 where
  pub closed : List (List NamedEdit)
  pub filled : List NamedEdit
  pub bodies_are : bodies ≡ map written_edits closed
  pub body_is : body ≡ written_edits filled
  pub small : length body ≤ record_room
  pub cut : cut_edits_behind record_room 0 [] edits ≡ closed ++ cut_edits_behind record_room (length body) filled (drop i edits)

pub laid_start : (edits : List NamedEdit) (bodies : List (List ℕ)) (body : List ℕ) → bodies ≡ [] → body ≡ [] → Laid edits 0 bodies body
laid_start edits bodies body none empty = record {
  closed = [];
  filled = [];
  bodies_are = none;
  body_is = empty;
  small = let size = ap length empty in omega (arith, size);
  cut = ap (λ (n : ℕ). cut_edits_behind record_room n [] edits) (sym (ap length empty));
}

has_room : (n : ℕ) → n ≤ record_room → nat_le n record_room ≡ true
has_room n le = grind (arith, nat_tests)

no_room : (n : ℕ) → record_room < n → nat_le n record_room ≡ false
no_room n lt = grind (arith, nat_tests)

cut_fits : (used : ℕ) (now : List NamedEdit) (edit : NamedEdit) (edits : List NamedEdit) → used + edit_size edit ≤ record_room → cut_edits_behind record_room used now (edit ∷ edits) ≡ cut_edits_behind record_room (used + edit_size edit) (now ++ edit ∷ []) edits
cut_fits used now edit edits le = ap (λ (b : Bool). cond b (cut_edits_behind record_room (used + edit_size edit) (now ++ edit ∷ []) edits) (now ∷ cut_edits_behind record_room (edit_size edit) (edit ∷ []) edits)) (has_room (used + edit_size edit) le)

cut_closes : (used : ℕ) (now : List NamedEdit) (edit : NamedEdit) (edits : List NamedEdit) → record_room < used + edit_size edit → cut_edits_behind record_room used now (edit ∷ edits) ≡ now ∷ cut_edits_behind record_room (edit_size edit) (edit ∷ []) edits
cut_closes used now edit edits lt = ap (λ (b : Bool). cond b (cut_edits_behind record_room (used + edit_size edit) (now ++ edit ∷ []) edits) (now ∷ cut_edits_behind record_room (edit_size edit) (edit ∷ []) edits)) (no_room (used + edit_size edit) lt)

module _ (edits : List NamedEdit) (i : ℕ) (bodies : List (List ℕ)) (body : List ℕ) (laid : Laid edits i bodies body) (edit : NamedEdit) (rest : drop i edits ≡ edit ∷ drop (i + 1) edits) where
  -- the edit has room
  pub laid_fits : length body + edit_size edit ≤ record_room → (new : List ℕ) → new ≡ body ++ written_edit edit → Laid edits (i + 1) bodies new
  laid_fits le new is =
      let size : length new ≡ length body + edit_size edit = ap length is ∙ length-append body (written_edit edit) ∙ ap (λ (n : ℕ). length body + n) (size_is edit) in
      record {
        closed = laid.closed;
        filled = laid.filled ++ edit ∷ [];
        bodies_are = laid.bodies_are;
        body_is = is ∙ ap (λ (l : List ℕ). l ++ written_edit edit) laid.body_is ∙ sym (written_push laid.filled edit);
        small = omega (arith, size, le);
        cut = laid.cut ∙ ap (λ (l : List NamedEdit). laid.closed ++ cut_edits_behind record_room (length body) laid.filled l) rest
            ∙ ap (λ (l : List (List NamedEdit)). laid.closed ++ l) (cut_fits (length body) laid.filled edit (drop (i + 1) edits) le)
            ∙ ap (λ (n : ℕ). laid.closed ++ cut_edits_behind record_room n (laid.filled ++ edit ∷ []) (drop (i + 1) edits)) (sym size);
      }

  -- the body is closed before it
  pub laid_closes : record_room < length body + edit_size edit → edit_size edit ≤ 70 → (all : List (List ℕ)) (new : List ℕ) → all ≡ bodies ++ body ∷ [] → new ≡ written_edit edit → Laid edits (i + 1) all new
  laid_closes lt few all new pushed is =
      let size : length new ≡ edit_size edit = ap length is ∙ size_is edit in
      record {
        closed = laid.closed ++ laid.filled ∷ [];
        filled = edit ∷ [];
        bodies_are = pushed ∙ ap (λ (l : List (List ℕ)). l ++ body ∷ []) laid.bodies_are ∙ ap (λ (l : List ℕ). map written_edits laid.closed ++ l ∷ []) laid.body_is ∙ sym (bodies_push laid.closed laid.filled);
        body_is = is ∙ sym (append-nil (written_edit edit));
        small = omega (arith, size, few);
        cut = laid.cut ∙ ap (λ (l : List NamedEdit). laid.closed ++ cut_edits_behind record_room (length body) laid.filled l) rest
            ∙ ap (λ (l : List (List NamedEdit)). laid.closed ++ l) (cut_closes (length body) laid.filled edit (drop (i + 1) edits) lt)
            ∙ sym (append_assoc laid.closed (laid.filled ∷ []) (cut_edits_behind record_room (edit_size edit) (edit ∷ []) (drop (i + 1) edits)))
            ∙ ap (λ (n : ℕ). (laid.closed ++ laid.filled ∷ []) ++ cut_edits_behind record_room n (edit ∷ []) (drop (i + 1) edits)) (sym size);
      }

  pub laid_goes_on : edit_size edit ≤ 70 → (all : List (List ℕ)) (new : List ℕ) → all ≡ bodies_laid bodies body edit → new ≡ body_laid body edit → Laid edits (i + 1) all new
  laid_goes_on few all new all_is new_is = elim (cases_lt record_room (length body + edit_size edit)) [
    | inl over ↦ laid_closes over few all new (all_is ∙ ap (λ (b : Bool). cond b bodies (bodies ++ body ∷ [])) (no_room (length body + edit_size edit) over)) (new_is ∙ ap (λ (b : Bool). cond b (body ++ written_edit edit) (written_edit edit)) (no_room (length body + edit_size edit) over))
    | inr fits ↦ subst (λ (l : List (List ℕ)). Laid edits (i + 1) l new) (sym (all_is ∙ ap (λ (b : Bool). cond b bodies (bodies ++ body ∷ [])) (has_room (length body + edit_size edit) fits))) (laid_fits fits new (new_is ∙ ap (λ (b : Bool). cond b (body ++ written_edit edit) (written_edit edit)) (has_room (length body + edit_size edit) fits)))
  ]

-- all were laid
cut_first : (edits : List NamedEdit) → Each FitsEdit edits → 1 ≤ length edits → cut_edits_behind record_room 0 [] edits ≡ cut_edits record_room edits
cut_first [] fits some = absurd (omega (arith, some))
cut_first (edit ∷ edits) fits some = let few = edit_small edit fits.0 in cut_fits 0 [] edit edits (omega (arith, few)) ∙ ap (λ (n : ℕ). cut_edits_behind record_room n (edit ∷ []) edits) (let e : 0 + edit_size edit ≡ edit_size edit = omega arith in e)

pub laid_all : (edits : List NamedEdit) (i : ℕ) (bodies all : List (List ℕ)) (body : List ℕ) → Laid edits i bodies body → length edits ≤ i → Each FitsEdit edits → 1 ≤ length edits → all ≡ bodies ++ body ∷ [] → all ≡ group_bodies edits
laid_all edits i bodies all body laid past fits some pushed =
    let whole : closed ++ filled ∷ [] ≡ cut_edits record_room edits =
    sym (laid.cut ∙ ap (λ (l : List NamedEdit). closed ++ cut_edits_behind record_room (length body) filled l) (drop_all i edits past)) ∙ cut_first edits fits some in
    pushed ∙ ap (λ (l : List (List ℕ)). l ++ body ∷ []) laid.bodies_are ∙ ap (λ (l : List ℕ). map written_edits closed ++ l ∷ []) laid.body_is ∙ sym (bodies_push closed filled) ∙ ap (λ (l : List (List NamedEdit)). map written_edits l) whole
  where
    closed : List (List NamedEdit)
    closed = laid.closed

    filled : List NamedEdit
    filled = laid.filled

-- ---- of the edits of the code

pub map_length : (edits : List Edit) → length (map as_edit edits) ≡ length edits
map_length [] = refl
map_length (e ∷ edits) = ap suc (map_length edits)

pub map_drop : (i : ℕ) (edits : List Edit) → drop i (map as_edit edits) ≡ map as_edit (drop i edits)
map_drop zero edits = refl
map_drop (suc i) [] = refl
map_drop (suc i) (e ∷ edits) = map_drop i edits

pub rest_is : (edits : List Edit) (i : ℕ) (edit : Edit) → i < length edits → edit ≡ get_or edits i edit → drop i (map as_edit edits) ≡ as_edit edit ∷ drop (i + 1) (map as_edit edits)
rest_is edits i edit inside is =
    map_drop i edits ∙ ap (λ (l : List Edit). map as_edit l) (drop_more edits i edit inside ∙ ap (λ (e : Edit). e ∷ drop (i + 1) edits) (sym is))
    ∙ ap (λ (l : List NamedEdit). as_edit edit ∷ l) (sym (map_drop (i + 1) edits))

pub some_edits : (edits : List NamedEdit) → IsTrue (ends_with_last edits) → 1 ≤ length edits
some_edits [] last = absurd (cc last)
some_edits (e ∷ edits) last = omega arith

-- ---- numbered

pub numbered_length : (bodies : List (List ℕ)) → length (numbered_bodies bodies) ≡ length bodies
numbered_length [] = refl
numbered_length (body ∷ bodies) = ap suc (numbered_length bodies)

numbered_next : (bodies : List (List ℕ)) (i : ℕ) (body : List ℕ) → i < length bodies → body ≡ get_or bodies i body → take (suc i) (numbered_bodies bodies) ≡ take i (numbered_bodies bodies) ++ (fixed32 (length bodies - suc i) ++ body) ∷ []
numbered_next [] i body inside is = absurd (omega (arith, inside))
numbered_next (b ∷ bodies) zero body inside is = (λ j. (fixed32 (count j) ++ sym is j) ∷ [])
  where
    count : length bodies ≡ suc (length bodies) - 1
    count = omega arith
numbered_next (b ∷ bodies) (suc i) body inside is =
    ap (λ (l : List (List ℕ)). (fixed32 (length bodies) ++ b) ∷ l) (numbered_next bodies i body (omega (arith, inside)) is)
    ∙ ap (λ (n : ℕ). (fixed32 (length bodies) ++ b) ∷ (take i (numbered_bodies bodies) ++ (fixed32 n ++ body) ∷ [])) (let e : length bodies - suc i ≡ suc (length bodies) - suc (suc i) = omega arith in e)

numbered_at : (bodies : List (List ℕ)) (i : ℕ) (body : List ℕ) → i < length bodies → body ≡ get_or bodies i body → take (i + 1) (numbered_bodies bodies) ≡ take i (numbered_bodies bodies) ++ (fixed32 (length bodies - (i + 1)) ++ body) ∷ []
numbered_at bodies i body inside is =
    ap (λ (n : ℕ). take n (numbered_bodies bodies)) (let e : i + 1 ≡ suc i = omega arith in e) ∙ numbered_next bodies i body inside is
    ∙ ap (λ (n : ℕ). take i (numbered_bodies bodies) ++ (fixed32 (length bodies - n) ++ body) ∷ []) (let e : suc i ≡ i + 1 = omega arith in e)

pub numbered_more : (bodies payloads all : List (List ℕ)) (i left : ℕ) (body payload : List ℕ) → i < length bodies → body ≡ get_or bodies i body → payloads ≡ take i (numbered_bodies bodies) → left ≡ length bodies - (i + 1) → payload ≡ fixed32 left ++ body → all ≡ payloads ++ payload ∷ [] → all ≡ take (i + 1) (numbered_bodies bodies)
numbered_more bodies payloads all i left body payload inside is so_far count written pushed =
    pushed ∙ ap (λ (l : List (List ℕ)). l ++ payload ∷ []) so_far
    ∙ ap (λ (l : List ℕ). take i (numbered_bodies bodies) ++ l ∷ []) (written ∙ ap (λ (n : ℕ). fixed32 n ++ body) count)
    ∙ sym (numbered_at bodies i body inside is)

pub numbered_all : (bodies payloads : List (List ℕ)) (i : ℕ) → payloads ≡ take i (numbered_bodies bodies) → length bodies ≤ i → payloads ≡ numbered_bodies bodies
numbered_all bodies payloads i so_far past = so_far ∙ take_all i (numbered_bodies bodies) (let size = numbered_length bodies in omega (arith, size, past))
