-- What is written is read again.
use Rattle.std.proofs.Common.{◌≡◌, ℕ, zero, suc, ◌+◌, ◌-◌, ◌^◌, ◌<◌, ◌≤◌, ◌&&◌, List, [], ◌∷◌, ◌++◌, length, take, drop, Option, Some, None, Bool, true, cond, refl, sym, ◌∙◌, ap, arith, length-append, length-drop, nat_le, nat_lt}
use Rattle.std.specs.Prelude.{slice_get, slice_range, option_map}
use Rattle.std.specs.Int.{w32, w64, from_le_bytes}
use Rattle.std.specs.List.{AllByRecursion as Each}
use Rattle.std.proofs.lemmas.Bool.Decides.{nat_tests}
use Rattle.std.proofs.lemmas.List.{drop-drop, drop_at, take_at}
use Rattle.std.proofs.lemmas.Nat.{from_le_bytes-to_le_bytes_4, from_le_bytes-to_le_bytes_8}
use Rattle.st_base.specs.Names.{is_family}
use Rattle.st_code.specs.Fixed.{fixed32, fixed64, fixed32_at, fixed64_at}
use Rattle.manifest_edits.specs.Edits.{Edit, AddFamily, DropFamily, AddTable, DropTable, Flushed, Last, AddLog, DropLog}
use Rattle.manifest_edits.specs.Groups.{edit_size, edits_size}
use Rattle.st_manifest.proofs.Fits.{FitsEdit}
use Rattle.st_manifest.specs.Payload.{edit_at, edits_at, file_at, id_at, kind_read, table_level_at, number_at, payload_from, payload_read, with_name, with_one, with_place, with_two, passing, written_edit, written_edits, written_payload}
use Rattle.st_manifest.proofs.Reading.{at_end, one_step}

-- ---- what stands at an offset

module _ (bytes : List ℕ) (at : ℕ) where
  room : (front rest : List ℕ) → drop at bytes ≡ front ++ rest → 1 ≤ length front → at + length front ≤ length bytes
  room front rest is some =
      let size = length-drop at bytes in
      let both = ap length is ∙ length-append front rest in
      omega (arith, size, both, some)

  pub behind : (front rest : List ℕ) (n end : ℕ) → drop at bytes ≡ front ++ rest → length front ≡ n → end ≡ at + n → drop end bytes ≡ rest
  behind front rest n end is size e = ap (λ (k : ℕ). drop k bytes) e ∙ sym (drop-drop n at bytes) ∙ ap (λ (l : List ℕ). drop n l) is ∙ drop_at front rest n size

  pub byte_there : (b : ℕ) (rest : List ℕ) → drop at bytes ≡ b ∷ rest → slice_get bytes at ≡ Some b
  byte_there b rest is = got bytes at is
    where
      got : (xs : List ℕ) (n : ℕ) → drop n xs ≡ b ∷ rest → slice_get xs n ≡ Some b
      got [] zero e = absurd (cc e)
      got [] (suc n) e = absurd (cc e)
      got (x ∷ xs) zero e = let same : x ≡ b = cc e in ap (λ (y : ℕ). Some y) same
      got (x ∷ xs) (suc n) e = got xs n e

  inside32 : at + 4 ≤ length bytes → fixed32_at bytes at ≡ Some (from_le_bytes w32 (drop at bytes))
  inside32 fits = grind (arith, nat_tests)

  inside64 : at + 8 ≤ length bytes → fixed64_at bytes at ≡ Some (from_le_bytes w64 (drop at bytes))
  inside64 fits = grind (arith, nat_tests)

  pub fixed32_there : (n : ℕ) (rest : List ℕ) → drop at bytes ≡ fixed32 n ++ rest → n < 2 ^ 32 → fixed32_at bytes at ≡ Some n
  fixed32_there n rest is lt =
      let long : at + 4 ≤ length bytes = room (fixed32 n) rest is (omega arith) in
      let number : from_le_bytes w32 (fixed32 n ++ rest) ≡ n = from_le_bytes-to_le_bytes_4 n lt in
      inside32 long ∙ ap (λ (l : List ℕ). Some (from_le_bytes w32 l)) is ∙ ap (λ (k : ℕ). Some k) number

  pub fixed64_there : (n : ℕ) (rest : List ℕ) → drop at bytes ≡ fixed64 n ++ rest → n < 2 ^ 64 → fixed64_at bytes at ≡ Some n
  fixed64_there n rest is lt =
      let long : at + 8 ≤ length bytes = room (fixed64 n) rest is (omega arith) in
      let number : from_le_bytes w64 (fixed64 n ++ rest) ≡ n = from_le_bytes-to_le_bytes_8 n lt in
      inside64 long ∙ ap (λ (l : List ℕ). Some (from_le_bytes w64 l)) is ∙ ap (λ (k : ℕ). Some k) number

  passes : (test : ℕ → Bool) (n : ℕ) → test n ≡ true → passing test (Some n) ≡ Some n
  passes test n passed = ap (λ (b : Bool). cond b (Some n) None) passed

  less : (n m : ℕ) → n < m → nat_lt n m ≡ true
  less n m lt = grind (arith, nat_tests)

  no_more : (n m : ℕ) → n ≤ m → nat_le n m ≡ true
  no_more n m le = grind (arith, nat_tests)

  id_there : (id : ℕ) (rest : List ℕ) → drop at bytes ≡ fixed32 id ++ rest → id < 4294967295 → id_at bytes at ≡ Some id
  id_there id rest is lt = ap (λ (o : Option ℕ). passing (λ id. nat_lt id 4294967295) o) (fixed32_there id rest is (omega arith)) ∙ passes (λ id. nat_lt id 4294967295) id (less id 4294967295 lt)

  level_there : (level : ℕ) (rest : List ℕ) → drop at bytes ≡ level ∷ rest → level ≤ 6 → table_level_at bytes at ≡ Some level
  level_there level rest is le = ap (λ (o : Option ℕ). passing (λ level. nat_le level 6) o) (byte_there level rest is) ∙ passes (λ level. nat_le level 6) level (no_more level 6 le)

  pub file_there : (file : ℕ) (rest : List ℕ) → drop at bytes ≡ fixed64 file ++ rest → file < 18446744073709551615 → file_at bytes at ≡ Some file
  file_there file rest is lt = ap (λ (o : Option ℕ). passing (λ file. nat_lt file 18446744073709551615) o) (fixed64_there file rest is (omega arith)) ∙ passes (λ file. nat_lt file 18446744073709551615) file (less file 18446744073709551615 lt)

  number_there : (number : ℕ) (rest : List ℕ) → drop at bytes ≡ fixed64 number ++ rest → number ≤ 72057594037927935 → number_at bytes at ≡ Some number
  number_there number rest is le = ap (λ (o : Option ℕ). passing (λ number. nat_le number 72057594037927935) o) (fixed64_there number rest is (omega arith)) ∙ passes (λ number. nat_le number 72057594037927935) number (no_more number 72057594037927935 le)

-- ---- an edit

pub size_is : (edit : Edit) → length (written_edit edit) ≡ edit_size edit
size_is (AddFamily id name) = let e : suc (suc (suc (suc (suc (suc (length name)))))) ≡ 6 + length name = omega arith in e
size_is (DropFamily id) = refl
size_is (AddTable id placed) = refl
size_is (DropTable id file) = refl
size_is (Flushed id number) = refl
size_is (Last number) = refl
size_is (AddLog file) = refl
size_is (DropLog file) = refl

named_fits : (bytes name : List ℕ) (at id : ℕ) → at + length name ≤ length bytes → slice_range bytes at (at + length name) ≡ name → is_family name ≡ true → with_name bytes at (Some id) (Some (length name)) ≡ Some (AddFamily id name, at + length name)
named_fits bytes name at id fits is family =
    let test : (nat_le (at + length name) (length bytes) && is_family (slice_range bytes at (at + length name))) ≡ true =
    ap (λ (l : List ℕ). nat_le (at + length name) (length bytes) && is_family l) is ∙ ap (λ (b : Bool). nat_le (at + length name) (length bytes) && b) family ∙ both (at + length name) (length bytes) fits in
    ap (λ (b : Bool). cond b (Some (AddFamily id (slice_range bytes at (at + length name)), at + length name)) None) test
    ∙ ap (λ (l : List ℕ). Some (AddFamily id l, at + length name)) is
  where
    both : (n m : ℕ) → n ≤ m → (nat_le n m && true) ≡ true
    both n m le = grind (arith, nat_tests)

family_some : (name : List ℕ) → is_family name ≡ true → 1 ≤ length name
family_some [] is = absurd (cc is)
family_some (b ∷ name) is = omega arith

pub family_short : (name : List ℕ) → is_family name ≡ true → length name ≤ 64
family_short name is = grind (arith, nat_tests)

-- its kind, and its fields behind
module _ (bytes rest : List ℕ) (at : ℕ) where
  kind_there : (kind : ℕ) (fields : List ℕ) → drop at bytes ≡ (kind ∷ fields) ++ rest → edit_at bytes at ≡ kind_read bytes at (Some kind)
  unfolding edit_at
  kind_there kind fields is = ap (λ (o : Option ℕ). kind_read bytes at o) (byte_there bytes at kind (fields ++ rest) is)

  fields_there : (kind : ℕ) (fields : List ℕ) → drop at bytes ≡ (kind ∷ fields) ++ rest → drop (at + 1) bytes ≡ fields ++ rest
  fields_there kind fields is = behind bytes at (kind ∷ []) (fields ++ rest) 1 (at + 1) is refl (omega arith)

  number_edit : (kind n : ℕ) → drop at bytes ≡ (kind ∷ fixed64 n) ++ rest → drop (at + 1) bytes ≡ fixed64 n ++ rest
  number_edit kind n is = fields_there kind (fixed64 n) is

  pub edit_again : (edit : Edit) → FitsEdit edit → drop at bytes ≡ written_edit edit ++ rest → edit_at bytes at ≡ Some (edit, at + edit_size edit)
  edit_again (AddFamily id name) fits is =
      let f = fields_there 1 (fixed32 id ++ length name ∷ name) is in
      let l = behind bytes (at + 1) (fixed32 id) (length name ∷ (name ++ rest)) 4 (at + 5) f refl (omega arith) in
      let n = behind bytes (at + 5) (length name ∷ []) (name ++ rest) 1 (at + 6) l refl (omega arith) in
      kind_there 1 (fixed32 id ++ length name ∷ name) is
      ∙ (λ i. with_name bytes (at + 6) (id_there bytes (at + 1) id (length name ∷ (name ++ rest)) f fits.0 i) (byte_there bytes (at + 5) (length name) (name ++ rest) l i))
      ∙ named_fits bytes name (at + 6) id (name_room n) (name_is n) fits.1
      ∙ ap (λ (n : ℕ). Some (AddFamily id name, n)) (let e : at + 6 + length name ≡ at + (6 + length name) = omega arith in e)
    where
      name_room : drop (at + 6) bytes ≡ name ++ rest → at + 6 + length name ≤ length bytes
      name_room n = let size = length-drop (at + 6) bytes in let both = ap length n ∙ length-append name rest in let some : 1 ≤ length name = family_some name fits.1 in omega (arith, size, both, some)

      name_is : drop (at + 6) bytes ≡ name ++ rest → slice_range bytes (at + 6) (at + 6 + length name) ≡ name
      name_is n = ap (λ (l : List ℕ). take (at + 6 + length name - (at + 6)) l) n ∙ take_at name rest (at + 6 + length name - (at + 6)) (omega arith)
  edit_again (DropFamily id) fits is = kind_there 2 (fixed32 id) is ∙ ap (λ (o : Option ℕ). with_one DropFamily o (at + 5)) (id_there bytes (at + 1) id rest (fields_there 2 (fixed32 id) is) fits)
  edit_again (AddTable id placed) fits is =
      let fields = fixed32 id ++ placed.level ∷ (fixed64 placed.file ++ (fixed64 placed.length ++ fixed64 placed.number)) in
      let f = fields_there 3 fields is in
      let l = behind bytes (at + 1) (fixed32 id) (placed.level ∷ (fixed64 placed.file ++ (fixed64 placed.length ++ (fixed64 placed.number ++ rest)))) 4 (at + 5) f refl (omega arith) in
      let p = behind bytes (at + 5) (placed.level ∷ []) (fixed64 placed.file ++ (fixed64 placed.length ++ (fixed64 placed.number ++ rest))) 1 (at + 6) l refl (omega arith) in
      let s = behind bytes (at + 6) (fixed64 placed.file) (fixed64 placed.length ++ (fixed64 placed.number ++ rest)) 8 (at + 14) p refl (omega arith) in
      let n = behind bytes (at + 14) (fixed64 placed.length) (fixed64 placed.number ++ rest) 8 (at + 22) s refl (omega arith) in
      kind_there 3 fields is
      ∙ (λ i. with_place (id_there bytes (at + 1) id (placed.level ∷ (fixed64 placed.file ++ (fixed64 placed.length ++ (fixed64 placed.number ++ rest)))) f fits.0 i)
      (level_there bytes (at + 5) placed.level (fixed64 placed.file ++ (fixed64 placed.length ++ (fixed64 placed.number ++ rest))) l fits.1 i)
      (file_there bytes (at + 6) placed.file (fixed64 placed.length ++ (fixed64 placed.number ++ rest)) p fits.2 i)
      (fixed64_there bytes (at + 14) placed.length (fixed64 placed.number ++ rest) s (omega (arith, fits.3)) i)
      (number_there bytes (at + 22) placed.number rest n fits.4 i) (at + 30))
  edit_again (DropTable id file) fits is =
      let f = fields_there 4 (fixed32 id ++ fixed64 file) is in
      let n = behind bytes (at + 1) (fixed32 id) (fixed64 file ++ rest) 4 (at + 5) f refl (omega arith) in
      kind_there 4 (fixed32 id ++ fixed64 file) is ∙ (λ i. with_two DropTable (id_there bytes (at + 1) id (fixed64 file ++ rest) f fits.0 i) (file_there bytes (at + 5) file rest n fits.1 i) (at + 13))
  edit_again (Flushed id number) fits is =
      let f = fields_there 5 (fixed32 id ++ fixed64 number) is in
      let n = behind bytes (at + 1) (fixed32 id) (fixed64 number ++ rest) 4 (at + 5) f refl (omega arith) in
      kind_there 5 (fixed32 id ++ fixed64 number) is ∙ (λ i. with_two Flushed (id_there bytes (at + 1) id (fixed64 number ++ rest) f fits.0 i) (number_there bytes (at + 5) number rest n fits.1 i) (at + 13))
  edit_again (Last number) fits is = kind_there 6 (fixed64 number) is ∙ ap (λ (o : Option ℕ). with_one Last o (at + 9)) (number_there bytes (at + 1) number rest (fields_there 6 (fixed64 number) is) fits)
  edit_again (AddLog file) fits is = kind_there 7 (fixed64 file) is ∙ ap (λ (o : Option ℕ). with_one AddLog o (at + 9)) (file_there bytes (at + 1) file rest (fields_there 7 (fixed64 file) is) fits)
  edit_again (DropLog file) fits is = kind_there 8 (fixed64 file) is ∙ ap (λ (o : Option ℕ). with_one DropLog o (at + 9)) (file_there bytes (at + 1) file rest (fields_there 8 (fixed64 file) is) fits)

-- ---- edits

pub sizes_are : (edits : List Edit) → length (written_edits edits) ≡ edits_size edits
sizes_are [] = refl
sizes_are (edit ∷ edits) = length-append (written_edit edit) (written_edits edits) ∙ (λ i. size_is edit i + sizes_are edits i)

some_size : (edit : Edit) → 1 ≤ edit_size edit
some_size (AddFamily id name) = omega arith
some_size (DropFamily id) = omega arith
some_size (AddTable id placed) = omega arith
some_size (DropTable id file) = omega arith
some_size (Flushed id number) = omega arith
some_size (Last number) = omega arith
some_size (AddLog file) = omega arith
some_size (DropLog file) = omega arith

pub edits_again : (edits : List Edit) (bytes : List ℕ) (at most : ℕ) → Each FitsEdit edits → drop at bytes ≡ written_edits edits → at ≤ length bytes → length bytes ≤ at + most → edits_at most bytes at ≡ Some edits
edits_again [] bytes at most fit is le enough = at_end most bytes at (let size = length-drop at bytes in let none = ap length is in omega (arith, size, none, le))
edits_again (edit ∷ edits) bytes at zero fit is le enough =
    absurd (let size = length-drop at bytes in let both = ap length is ∙ length-append (written_edit edit) (written_edits edits) in let one = size_is edit in let some = some_size edit in omega (arith, size, both, one, some, le, enough))
edits_again (edit ∷ edits) bytes at (suc most) fit is le enough =
    let size = length-drop at bytes in
    let both = ap length is ∙ length-append (written_edit edit) (written_edits edits) in
    let one = size_is edit in
    let some = some_size edit in
    one_step most bytes at (Some (edit, at + edit_size edit)) (λ here. omega (arith, size, both, one, some, here)) (edit_again bytes (written_edits edits) at edit fit.0 is)
    ∙ ap (λ (o : Option (List Edit)). option_map (λ more. edit ∷ more) o)
    (edits_again edits bytes (at + edit_size edit) most fit.1 (behind bytes at (written_edit edit) (written_edits edits) (edit_size edit) (at + edit_size edit) is one refl) (omega (arith, size, both, one)) (omega (arith, size, both, one, some, enough)))

payload_fits : (bytes : List ℕ) (left : ℕ) (edits : List Edit) → length bytes ≤ 4096 → edits_at (length bytes) bytes 4 ≡ Some edits → payload_from bytes (Some left) ≡ Some (left, edits)
payload_fits bytes left edits le is =
    ap (λ (b : Bool). cond b (payload_of (edits_at (length bytes) bytes 4)) None) (no_more bytes 0 (length bytes) 4096 le)
    ∙ ap (λ (o : Option (List Edit)). payload_of o) is
  where
    payload_of : Option (List Edit) → Option (ℕ × List Edit)
    payload_of o = option_map (λ edits. (left, edits)) o

-- a payload that fits a record
pub payload_again : (left : ℕ) (edits : List Edit) → left < 4294967296 → Each FitsEdit edits → edits_size edits ≤ 4092 → payload_read (written_payload left edits) ≡ Some (left, edits)
unfolding payload_read
payload_again left edits few fit small =
    let bytes = written_payload left edits in
    let size : length bytes ≡ 4 + length (written_edits edits) = length-append (fixed32 left) (written_edits edits) in
    let sizes = sizes_are edits in
    ap (λ (o : Option ℕ). payload_from bytes o) (fixed32_there bytes 0 left (written_edits edits) refl few)
    ∙ payload_fits bytes left edits (omega (arith, size, sizes, small)) (edits_again edits bytes 4 (length bytes) fit refl (omega (arith, size)) (omega arith))
