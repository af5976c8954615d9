-- The build text of a table's rows.
use Rattle.std.proofs.Common.{◌≡◌, ℕ, ◌+◌, List, [], ◌∷◌, ◌++◌, take, refl, sym, ◌∙◌, ap, subst, append-nil}
use Rattle.std.specs.Prelude.{Some, slice_get}
use Rattle.std.proofs.lemmas.List.{take_more}
use Rattle.std.proofs.lemmas.List.Concat.{flat_map-append}
use Rattle.std.proofs.lemmas.Option.{get_or_from_slice_get, slice_get_within}
use Rattle.st_base.specs.Rows.{entry_of}
use Rattle.st_base.specs.declared.entry.Entry.{Entry}
use Rattle.st_base.specs.declared.entry_ref.EntryRef.{EntryRef}
use Rattle.st_table.specs.IsTable.{IsTable}
use Rattle.st_table.specs.Table.{acting}
use Rattle.st_table.specs.declared.kind.TableKind.TheVariants.{External}
use Rattle.build_text.specs.Build.{build_line, build_text}
use Rattle.ingest_app.specs.Convert.{IsShown}

-- the rows with one more
take-more : (rows : List Entry) (place : ℕ) (entry : Entry) → slice_get rows place ≡ Some entry → take (place + 1) rows ≡ take place rows ++ entry ∷ []
take-more rows place entry is =
    take_more rows place entry (slice_get_within rows place entry is) ∙ ap (λ (e : Entry). take place rows ++ e ∷ []) (get_or_from_slice_get rows place entry entry is)

pub shown_more : (rows : List Entry) (place : ℕ) (found : EntryRef) (text more : List ℕ) → text ≡ build_text (take place rows) → slice_get rows place ≡ Some (entry_of found) → more ≡ text ++ build_line (entry_of found) → more ≡ build_text (take (place + 1) rows)
shown_more rows place found text more so_far at line =
    line ∙ ap (λ t. t ++ build_line (entry_of found)) so_far
    ∙ sym (ap build_text (take-more rows place (entry_of found) at) ∙ flat_map-append build_line (take place rows) (entry_of found ∷ []) ∙ ap (λ l. build_text (take place rows) ++ l) (append-nil (build_line (entry_of found))))

-- entries under their own numbers
own : (entries : List Entry) → acting 0 entries ≡ entries
own [] = refl
own (entry ∷ entries) = ap (λ rest. entry ∷ rest) (own entries)

pub opened_shown : (bytes shared : List ℕ) (rows : List Entry) (text : List ℕ) → shared ≡ bytes → ((entries : List Entry) × IsTable shared External entries × (rows ≡ acting 0 entries)) → text ≡ build_text rows → IsShown bytes text
opened_shown bytes shared rows text same opened printed = record {
  entries = opened.0;
  table = subst (λ b. IsTable b External opened.0) same opened.1;
  written = printed ∙ ap build_text (opened.2 ∙ own opened.0);
}
