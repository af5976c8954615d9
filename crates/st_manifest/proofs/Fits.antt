-- Edits within the bounds.
use Rattle.std.proofs.Common.{◌≡◌, ℕ, zero, suc, ◌<◌, ◌≤◌, List, [], ◌∷◌, ◌&&◌, length, map, get_or, true, false, Bool, refl, ap, ◌∙◌, arith}
use Rattle.std.specs.Prelude.{Result, Ok, Err, OnOk}
use Rattle.std.specs.List.{AllByRecursion as Each}
use Rattle.std.proofs.lemmas.Bool.Decides.{nat_tests}
use Rattle.st_base.specs.Names.{is_family}
use Rattle.manifest_edits.specs.Edits.{Edit, AddFamily, DropFamily, AddTable, DropTable, Flushed, Last, AddLog, DropLog}
use Rattle.st_manifest.specs.Edit.{as_edit}
use Rattle.st_manifest.specs.Payload.{fit_edits, fits_edit}
use Rattle.st_manifest.specs.declared.edit.Edit.{Edit as CodeEdit}

-- an edit that is read again
abbrev pub FitsEdit : Edit → Type 0
FitsEdit (AddFamily id name) = (id < 4294967295) × (is_family name ≡ true)
FitsEdit (DropFamily id) = id < 4294967295
FitsEdit (AddTable id placed) = (id < 4294967295) × (placed.level ≤ 6) × (placed.file < 18446744073709551615) × (placed.length ≤ 18446744073709551615) × (placed.number ≤ 72057594037927935)
FitsEdit (DropTable id file) = (id < 4294967295) × (file < 18446744073709551615)
FitsEdit (Flushed id number) = (id < 4294967295) × (number ≤ 72057594037927935)
FitsEdit (Last number) = number ≤ 72057594037927935
FitsEdit (AddLog file) = file < 18446744073709551615
FitsEdit (DropLog file) = file < 18446744073709551615

pub edit_fits : (edit : Edit) → fits_edit edit ≡ true → FitsEdit edit
edit_fits (AddFamily id name) is = (grind (arith, nat_tests), grind (arith, nat_tests))
edit_fits (DropFamily id) is = grind (arith, nat_tests)
edit_fits (AddTable id placed) is = (grind (arith, nat_tests), grind (arith, nat_tests), grind (arith, nat_tests), grind (arith, nat_tests), grind (arith, nat_tests))
edit_fits (DropTable id file) is = (grind (arith, nat_tests), grind (arith, nat_tests))
edit_fits (Flushed id number) is = (grind (arith, nat_tests), grind (arith, nat_tests))
edit_fits (Last number) is = grind (arith, nat_tests)
edit_fits (AddLog file) is = grind (arith, nat_tests)
edit_fits (DropLog file) is = grind (arith, nat_tests)

pub both_true : (a b : Bool) → (a && b) ≡ true → (a ≡ true) × (b ≡ true)
both_true true b is = (refl, is)
both_true false b is = absurd (cc is)

pub all_fit : (edits : List Edit) → fit_edits edits ≡ true → Each FitsEdit edits
all_fit [] is = tt
all_fit (edit ∷ edits) is = let parts = both_true (fits_edit edit) (fit_edits edits) is in (edit_fits edit parts.0, all_fit edits parts.1)

-- with an answer
pub on_ok : {T E P Q : Type 0} (r : Result T E) → (P → Q) → OnOk r P → OnOk r Q
on_ok (Ok x) f p = f p
on_ok (Err e) f p = tt

-- one of these
pub fits_at : (edits : List CodeEdit) (i : ℕ) (edit : CodeEdit) → i < length edits → edit ≡ get_or edits i edit → fit_edits (map as_edit edits) ≡ true → fits_edit (as_edit edit) ≡ true
fits_at [] i edit inside is fits = absurd (omega (arith, inside))
fits_at (e ∷ edits) zero edit inside is fits = ap (λ (x : CodeEdit). fits_edit (as_edit x)) is ∙ (both_true (fits_edit (as_edit e)) (fit_edits (map as_edit edits)) fits).0
fits_at (e ∷ edits) (suc i) edit inside is fits = fits_at edits i edit (omega (arith, inside)) is (both_true (fits_edit (as_edit e)) (fit_edits (map as_edit edits)) fits).1
