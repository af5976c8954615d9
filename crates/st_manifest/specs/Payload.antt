-- The payload of a manifest's record: the bytes of its edits, and how they are read.
--
--   how many records of its group follow (fixed32) | edit | .. | edit
use Rattle.std.specs.Prelude.{◌+◌, ◌==◌, ◌&&◌, ◌++◌, ◌∷◌, ℕ, zero, suc, Bool, nat_le, nat_lt, List, [], length, slice_get, slice_range, Option, Some, None, option_map, if◌then◌else◌}
use Rattle.std.specs.List.{list_all}
use Rattle.st_base.specs.Count.{greatest_count}
use Rattle.st_base.specs.Names.{is_family}
use Rattle.st_base.specs.declared.limits.TheConstants.{GREATEST_NUMBER, LAST_FAMILY_ID}
use Rattle.st_code.specs.Fixed.{fixed32, fixed64, fixed32_at, fixed64_at}
use Rattle.manifest_edits.specs.Edits.{Edit, AddFamily, DropFamily, AddTable, DropTable, Flushed, Last, AddLog, DropLog}

-- ---- written

-- a kind, 1 to 8, and the fields
abbrev pub written_edit : Edit → List ℕ
written_edit (AddFamily id name) = 1 ∷ (fixed32 id ++ length name ∷ name)
written_edit (DropFamily id) = 2 ∷ fixed32 id
written_edit (AddTable id placed) =
    3 ∷ (fixed32 id ++ placed.level ∷ (fixed64 placed.file ++ (fixed64 placed.length ++ fixed64 placed.number)))
written_edit (DropTable id file) = 4 ∷ (fixed32 id ++ fixed64 file)
written_edit (Flushed id number) = 5 ∷ (fixed32 id ++ fixed64 number)
written_edit (Last number) = 6 ∷ fixed64 number
written_edit (AddLog file) = 7 ∷ fixed64 file
written_edit (DropLog file) = 8 ∷ fixed64 file

abbrev pub written_edits : List Edit → List ℕ
written_edits [] = []
written_edits (edit ∷ edits) = written_edit edit ++ written_edits edits

abbrev pub written_payload : ℕ → List Edit → List ℕ
written_payload left edits = fixed32 left ++ written_edits edits

-- ---- read

-- a number that passes a test
abbrev pub passing : (ℕ → Bool) → Option ℕ → Option ℕ
passing test None = None
passing test (Some n) = if test n then Some n else None

-- a family's id, a level, a file and a sequence number at an offset
abbrev pub id_at : List ℕ → ℕ → Option ℕ
id_at bytes at = passing (λ id. nat_lt id LAST_FAMILY_ID) (fixed32_at bytes at)

abbrev pub table_level_at : List ℕ → ℕ → Option ℕ
table_level_at bytes at = passing (λ level. nat_le level 6) (slice_get bytes at)

abbrev pub file_at : List ℕ → ℕ → Option ℕ
file_at bytes at = passing (λ file. nat_lt file greatest_count) (fixed64_at bytes at)

abbrev pub number_at : List ℕ → ℕ → Option ℕ
number_at bytes at = passing (λ number. nat_le number GREATEST_NUMBER) (fixed64_at bytes at)

-- an edit with one field, or with two, and the offset after it
abbrev pub with_one : (ℕ → Edit) → Option ℕ → ℕ → Option (Edit × ℕ)
with_one edit None end = None
with_one edit (Some n) end = Some (edit n, end)

abbrev pub with_two : (ℕ → ℕ → Edit) → Option ℕ → Option ℕ → ℕ → Option (Edit × ℕ)
with_two edit None m end = None
with_two edit (Some n) None end = None
with_two edit (Some n) (Some m) end = Some (edit n m, end)

-- a family's name of a stated length
abbrev pub with_name : List ℕ → ℕ → Option ℕ → Option ℕ → Option (Edit × ℕ)
with_name bytes at None size = None
with_name bytes at (Some id) None = None
with_name bytes at (Some id) (Some size) =
    if nat_le (at + size) (length bytes) && is_family (slice_range bytes at (at + size))
    then Some (AddFamily id (slice_range bytes at (at + size)), at + size) else None

-- a table, with its family and where it is placed
abbrev pub with_place : Option ℕ → Option ℕ → Option ℕ → Option ℕ → Option ℕ → ℕ → Option (Edit × ℕ)
with_place None level file size number end = None
with_place (Some id) None file size number end = None
with_place (Some id) (Some level) None size number end = None
with_place (Some id) (Some level) (Some file) None number end = None
with_place (Some id) (Some level) (Some file) (Some size) None end = None
with_place (Some id) (Some level) (Some file) (Some size) (Some number) end =
    Some (AddTable id (record { level = level; file = file; length = size; number = number }), end)

-- the edit of this kind at an offset
abbrev pub edit_of_kind : ℕ → List ℕ → ℕ → Option (Edit × ℕ)
edit_of_kind kind bytes at =
    if kind == 1 then with_name bytes (at + 6) (id_at bytes (at + 1)) (slice_get bytes (at + 5)) else
    if kind == 2 then with_one DropFamily (id_at bytes (at + 1)) (at + 5) else
    if kind == 3 then with_place (id_at bytes (at + 1)) (table_level_at bytes (at + 5)) (file_at bytes (at + 6)) (fixed64_at bytes (at + 14)) (number_at bytes (at + 22)) (at + 30) else
    if kind == 4 then with_two DropTable (id_at bytes (at + 1)) (file_at bytes (at + 5)) (at + 13) else
    if kind == 5 then with_two Flushed (id_at bytes (at + 1)) (number_at bytes (at + 5)) (at + 13) else
    if kind == 6 then with_one Last (number_at bytes (at + 1)) (at + 9) else
    if kind == 7 then with_one AddLog (file_at bytes (at + 1)) (at + 9) else
    if kind == 8 then with_one DropLog (file_at bytes (at + 1)) (at + 9) else None

abbrev pub kind_read : List ℕ → ℕ → Option ℕ → Option (Edit × ℕ)
kind_read bytes at None = None
kind_read bytes at (Some kind) = edit_of_kind kind bytes at

-- the edit at an offset, and the offset after it
unfoldable pub edit_at : List ℕ → ℕ → Option (Edit × ℕ)
edit_at bytes at = kind_read bytes at (slice_get bytes at)

-- the edits from an offset up to the end, of which there are at most so many
abbrev pub edits_at : ℕ → List ℕ → ℕ → Option (List Edit)
edits_at zero bytes at = if at == length bytes then Some [] else None
edits_at (suc most) bytes at =
    if at == length bytes then Some []
    else elim (edit_at bytes at) [
      | None ↦ None
      | Some found ↦ option_map (λ edits. found.0 ∷ edits) (edits_at most bytes found.1)
    ]

-- a payload has at most so many bytes
abbrev pub payload_bytes : ℕ
payload_bytes = 4096

abbrev pub payload_from : List ℕ → Option ℕ → Option (ℕ × List Edit)
payload_from bytes None = None
payload_from bytes (Some left) =
    if nat_le (length bytes) payload_bytes then option_map (λ edits. (left, edits)) (edits_at (length bytes) bytes 4)
    else None

-- how many records follow, and the edits; none, where the payload isn't of the kind
unfoldable pub payload_read : List ℕ → Option (ℕ × List Edit)
payload_read bytes = payload_from bytes (fixed32_at bytes 0)

-- ---- within the bounds

-- whether an edit is read again as it is written
abbrev pub fits_edit : Edit → Bool
fits_edit (AddFamily id name) = nat_lt id LAST_FAMILY_ID && is_family name
fits_edit (DropFamily id) = nat_lt id LAST_FAMILY_ID
fits_edit (AddTable id placed) =
    nat_lt id LAST_FAMILY_ID && nat_le placed.level 6 && nat_lt placed.file greatest_count
    && nat_le placed.length greatest_count && nat_le placed.number GREATEST_NUMBER
fits_edit (DropTable id file) = nat_lt id LAST_FAMILY_ID && nat_lt file greatest_count
fits_edit (Flushed id number) = nat_lt id LAST_FAMILY_ID && nat_le number GREATEST_NUMBER
fits_edit (Last number) = nat_le number GREATEST_NUMBER
fits_edit (AddLog file) = nat_lt file greatest_count
fits_edit (DropLog file) = nat_lt file greatest_count

-- of each of these
abbrev pub fit_edits : List Edit → Bool
fit_edits edits = list_all fits_edit edits
