-- An edit of the code, as the edits of a manifest have it.
use Rattle.std.specs.Prelude.{ℕ, Option, Some, None}
use Rattle.manifest_edits.specs.Edits.{Edit as NamedEdit, AddFamily, DropFamily, AddTable, DropTable, Flushed, Last, AddLog, DropLog}
use Rattle.st_manifest.specs.declared.edit.Edit.{Edit}
use Rattle.st_manifest.specs.declared.edit.Edit.TheVariants.{AddFamily as AddsFamily, DropFamily as DropsFamily, AddTable as AddsTable, DropTable as DropsTable, Flushed as SetsFlushed, Last as SetsLast, AddLog as AddsLog, DropLog as DropsLog}

-- the fields that place a table are one word
abbrev pub as_edit : Edit → NamedEdit
as_edit (AddsFamily id name) = AddFamily id name
as_edit (DropsFamily id) = DropFamily id
as_edit (AddsTable family level file size number) =
    AddTable family (record { level = level; file = file; length = size; number = number })
as_edit (DropsTable family file) = DropTable family file
as_edit (SetsFlushed family number) = Flushed family number
as_edit (SetsLast number) = Last number
as_edit (AddsLog file) = AddLog file
as_edit (DropsLog file) = DropLog file

-- an edit that was read, with the offset after it
abbrev pub shown_edit : Option (Edit × ℕ) → Option (NamedEdit × ℕ)
shown_edit None = None
shown_edit (Some found) = Some (as_edit found.0, found.1)
