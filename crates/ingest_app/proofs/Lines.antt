-- The lines of a build text, given to a table's writer one by one.
use Rattle.std.proofs.Common.{◌≡◌, inl, ℕ, ◌<◌, ◌≤◌, Bool, true, false, List, [], ◌∷◌, ◌++◌, length, Option, Some, None, IsFalse, refl, sym, ◌∙◌, ap, subst}
use Rattle.std.specs.Prelude.{Result, Ok, Err, ◌↔◌}
use Rattle.std.proofs.lemmas.Bool.{le-leb, lt-leb}
use Rattle.st_base.specs.declared.limits.TheConstants.{SOURCE_BYTES}
use Rattle.st_base.specs.Rows.{last_key}
use Rattle.st_base.specs.declared.entry.Entry.{Entry}
use Rattle.st_base.specs.declared.entry.Mark.{Mark}
use Rattle.st_table.specs.Footer.{greatest_size}
use Rattle.table_writer.specs.Written.{written_table}
use Rattle.st_table.specs.declared.kind.TableKind.TheVariants.{External}
use Rattle.sst_writer.specs.Sst.{rises_to}
use Rattle.sst_writer.specs.Sst as sst
use Rattle.sst_writer.specs.declared.fault.FinishFault.{FinishFault}
use Rattle.sst_writer.specs.declared.fault.FinishFault.TheVariants as finish
use Rattle.sst_writer.specs.declared.fault.WriterFault.{WriterFault}
use Rattle.sst_writer.specs.declared.fault.WriterFault.TheVariants as writer
use Rattle.build_text.specs.declared.fault.BuildFault.{BuildFault}
use Rattle.build_text.specs.declared.fault.BuildFault.TheVariants as build
use Rattle.build_text.specs.Words.{text_parts}
use Rattle.build_text.specs.Build.{GivesEntries, GivesMore, build_of, entries_from, is_above, is_within, some_entries, unnumbered, with_line_entry}
use Rattle.build_text.proofs.Building.{build_begin, entry_added, entry_not_fitting, entry_not_rising, some_stay}
use Rattle.ingest_app.specs.Convert.{EndsBytes, GivesTable, build_cause, fault_at, fit_table, unfinished}
use Rattle.ingest_app.specs.Texts.{refused_text}
use Rattle.ingest_app.specs.declared.command_line.Conversion.TheVariants.{Build}
use Rattle.ingest_app.specs.declared.status.Status.{Status}
use Rattle.ingest_app.specs.declared.status.Status.TheVariants.{Refused}

-- ---- one entry

same-above : (last : Option (List ℕ)) (key : List ℕ) → sst.is_above last key ≡ is_above last key
same-above None key = refl
same-above (Some last) key = refl

is-true : (b : Bool) → (IsFalse b → ⊥) → b ≡ true
is-true true h = refl
is-true false h = absurd (h refl)

module _ (old : List Entry) (number : ℕ) (key : List ℕ) (mark : Mark) (within : is_within (unnumbered key mark) ≡ true) where
  above : (IsFalse (rises_to old key) → ⊥) → is_above (last_key old) key ≡ true
  above rises = sym (same-above (last_key old) key) ∙ is-true (rises_to old key) rises

  -- the writer takes it
  pub taken : (new : List Entry) → new ≡ old ++ unnumbered key mark ∷ [] → length (written_table External new) ≤ greatest_size External → (IsFalse (rises_to old key) → ⊥) → with_line_entry fit_table old number (unnumbered key mark) ≡ Ok new
  taken new is fits rises =
      let fit : fit_table (old ++ unnumbered key mark ∷ []) ≡ true = subst (λ l. fit_table l ≡ true) is (le-leb (length (written_table External new)) (greatest_size External) fits) in
      entry_added fit_table old number (unnumbered key mark) within (above rises) fit ∙ ap Ok (sym is)

  -- the writer doesn't take it
  pub not_taken : (new : List Entry) (fault : WriterFault) → (fault ≡ writer.NotRising) ↔ IsFalse (rises_to old key) → (fault ≡ writer.TooLarge → greatest_size External < length (written_table External (old ++ unnumbered key mark ∷ [])))
      → GivesMore {X = Unit {0}} (Err (fault_at number fault)) new (with_line_entry fit_table old number (unnumbered key mark))
  not_taken new writer.NotRising rises large =
      entry_not_rising fit_table old number (unnumbered key mark) within (sym (same-above (last_key old) key) ∙ rises.0 refl)
  not_taken new writer.TooLarge rises large =
      entry_not_fitting fit_table old number (unnumbered key mark) within (above (λ falls. cc (rises.1 falls)))
      (lt-leb (length (written_table External (old ++ unnumbered key mark ∷ []))) (greatest_size External) (large refl))
  not_taken new writer.OutOfMemory rises large = tt

-- ---- the table

pub finished_gives : (entries : List Entry) (table : List ℕ) → (entries ≡ [] → ⊥) → table ≡ written_table External entries → GivesTable (Ok table) (some_entries (Ok entries))
finished_gives entries table some written = (entries, some_stay entries some, written)

pub unfinished_gives : (entries : List Entry) (fault : FinishFault) → (fault ≡ finish.NoEntry) ↔ (entries ≡ []) → GivesTable (Err (unfinished fault)) (some_entries (Ok entries))
unfinished_gives entries finish.NoEntry none = ap (λ (l : List Entry). some_entries (Ok l)) (none.0 refl)
unfinished_gives entries finish.OutOfMemory none = tt

-- the fault at which the lines end, whatever was taken before
stopped : (fault : BuildFault) (entries : List Entry) (reading : Result (List Entry) BuildFault) → GivesMore {X = Unit {0}} (Err fault) entries reading → GivesEntries (Err fault) reading
stopped (build.Line n) entries reading h = h
stopped (build.TooLarge n) entries reading h = h
stopped (build.NotRising n) entries reading h = h
stopped build.NoEntry entries reading h = h
stopped build.OutOfMemory entries reading h = tt

pub stops_at : (before : List Entry) → before ≡ [] → (fault : BuildFault) (entries : List Entry) (text : List ℕ) → GivesMore {X = Unit {0}} (Err fault) entries (entries_from fit_table before 1 (text_parts text)) → GivesEntries (Err fault) (entries_from fit_table [] 1 (text_parts text))
stops_at before none fault entries text h =
    stopped fault entries (entries_from fit_table [] 1 (text_parts text))
    (subst (λ (l : List Entry). GivesMore {X = Unit {0}} (Err fault) entries (entries_from fit_table l 1 (text_parts text))) none h)

-- a text that is read
pub read_gives : (entries : List Entry) (text : List ℕ) (table : Result (List ℕ) BuildFault) → entries_from fit_table [] 1 (text_parts text) ≡ Ok entries → GivesTable table (some_entries (Ok entries)) → GivesTable table (build_of fit_table text)
read_gives entries text table read h = subst (GivesTable table) (sym (ap some_entries read) ∙ build_begin fit_table text) h

-- a text that isn't read has no table
unread-by : (fault : BuildFault) (reading : Result (List Entry) BuildFault) (text : List ℕ) → some_entries reading ≡ build_of fit_table text → GivesEntries (Err fault) reading → GivesTable (Err fault) (build_of fit_table text)
unread-by (build.Line n) reading text is h = sym is ∙ ap some_entries h
unread-by (build.TooLarge n) reading text is h = sym is ∙ ap some_entries h
unread-by (build.NotRising n) reading text is h = sym is ∙ ap some_entries h
unread-by build.NoEntry reading text is h = sym is ∙ ap some_entries h
unread-by build.OutOfMemory reading text is h = tt

pub unread_gives : (fault : BuildFault) (text : List ℕ) → GivesEntries (Err fault) (entries_from fit_table [] 1 (text_parts text)) → GivesTable (Err fault) (build_of fit_table text)
unread_gives fault text h = unread-by fault (entries_from fit_table [] 1 (text_parts text)) text (build_begin fit_table text) h

fault-gives : (fault : BuildFault) (reading : Result (List Entry) BuildFault) → (fault ≡ build.OutOfMemory → ⊥) → GivesTable (Err fault) reading → reading ≡ Err fault
fault-gives (build.Line n) reading other h = h
fault-gives (build.TooLarge n) reading other h = h
fault-gives (build.NotRising n) reading other h = h
fault-gives build.NoEntry reading other h = h
fault-gives build.OutOfMemory reading other h = absurd (other refl)

-- and is refused by its fault
pub refused_build : (bytes cause text : List ℕ) (fault : BuildFault) (status : Status) → length bytes ≤ SOURCE_BYTES → GivesTable (Err fault) (build_of fit_table bytes) → (fault ≡ build.OutOfMemory → ⊥) → cause ≡ build_cause fault → status ≡ Refused → text ≡ refused_text cause
    → EndsBytes Build bytes status text
refused_build bytes cause text fault status short gives other is refused printed =
    subst (λ (s : Status). EndsBytes Build bytes s text) (sym refused)
    (inl (record { short = short; fault = fault; read = fault-gives fault (build_of fit_table bytes) other gives; printed = printed ∙ ap refused_text is }))
