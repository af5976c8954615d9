-- The table that is built of a text is shown as this text.
use Rattle.std.proofs.Common.{◌≡◌, ◌⊎◌, inl, inr, ℕ, ◌+◌, ◌<◌, ◌≤◌, ◌^◌, Bool, true, false, not, cond, List, [], ◌∷◌, ◌++◌, length, Option, Some, None, IsTrue, refl, sym, ◌∙◌, ap, subst, arith, lit≤}
use Rattle.std.specs.Prelude.{Result, Ok, Err, ◌↔◌}
use Rattle.std.specs.List.{AllByRecursion as Each}
use Rattle.std.proofs.lemmas.Bool.Decides.{nat_tests}
use Rattle.st_base.specs.Rows.{AreRows, Fits, last_key}
use Rattle.st_base.specs.declared.entry.Entry.{Entry}
use Rattle.st_table.specs.Entries.{may_have}
use Rattle.st_table.specs.Footer.{greatest_size}
use Rattle.st_table.specs.IsTable.{IsTable}
use Rattle.st_table.specs.Table.{first_fault}
use Rattle.table_writer.specs.Written.{MayBeTable, MayPut, written_table}
use Rattle.st_table.specs.declared.kind.TableKind.TheVariants.{External}
use Rattle.build_text.specs.declared.fault.BuildFault.{BuildFault}
use Rattle.build_text.specs.declared.fault.BuildFault.TheVariants.{TooLarge, NotRising}
use Rattle.build_text.specs.Words.{text_parts}
use Rattle.build_text.specs.Build.{IsBuildEntry, and_then, at_end, build_of, build_text, entries_from, entry_of_line, is_above, is_within, some_entries, with_build_line, with_found}
use Rattle.ingest_app.specs.Convert.{EndsBytes, IsBuilt, IsShown, fit_table}
use Rattle.ingest_app.specs.declared.command_line.Conversion.TheVariants.{Show}
use Rattle.ingest_app.specs.declared.status.Status.{Status}
use Rattle.ingest_app.specs.declared.status.Status.TheVariants.{Done, Refused, Memory, InputFault, DiskFault, SinkFault, Script, Damaged, NotYet}

-- ---- entries that are read fit together

module _ (fits : List Entry → Bool) where
  line-fits : (entries : List Entry) (number : ℕ) (found : Option Entry) (more : List Entry) → with_found fits entries number found ≡ Ok more → fits more ≡ true
  line-fits entries number None more is = absurd (cc is)
  line-fits entries number (Some entry) more is = go (is_within entry) (is_above (last_key entries) entry.key) (fits (entries ++ entry ∷ [])) refl is
    where
      go : (a b c : Bool) → fits (entries ++ entry ∷ []) ≡ c → cond (not a) (Err (TooLarge number)) (cond (not b) (Err (NotRising number)) (cond (not c) (Err (TooLarge number)) (Ok (entries ++ entry ∷ [])))) ≡ Ok more → fits more ≡ true
      go false b c f e = absurd (cc e)
      go true false c f e = absurd (cc e)
      go true true false f e = absurd (cc e)
      go true true true f e = let same : entries ++ entry ∷ [] ≡ more = cc e in subst (λ l. fits l ≡ true) same f

  -- none, or such as fit
  abbrev pub AreFitting : List Entry → Type 0
  AreFitting entries = (entries ≡ []) ⊎ (fits entries ≡ true)

  end-fits : (entries : List Entry) (number : ℕ) (last : List ℕ) (out : List Entry) → AreFitting entries → at_end entries number last ≡ Ok out → AreFitting out
  end-fits entries number [] out fit is = let same : entries ≡ out = cc is in subst AreFitting same fit
  end-fits entries number (byte ∷ bytes) out fit is = absurd (cc is)

  from-fits : (entries : List Entry) (number : ℕ) (parts : List (List ℕ)) (out : List Entry) → AreFitting entries → entries_from fits entries number parts ≡ Ok out → AreFitting out
  from-fits entries number [] out fit is = let same : entries ≡ out = cc is in subst AreFitting same fit
  from-fits entries number (last ∷ []) out fit is = end-fits entries number last out fit is
  from-fits entries number (line ∷ next ∷ parts) out fit is =
      go (with_build_line fits entries number line) refl (λ more fitting e. from-fits more (number + 1) (next ∷ parts) out fitting e) is
    where
      go : (step : Result (List Entry) BuildFault) → with_build_line fits entries number line ≡ step → ((more : List Entry) → AreFitting more → entries_from fits more (number + 1) (next ∷ parts) ≡ Ok out → AreFitting out)
          → and_then step (λ more. entries_from fits more (number + 1) (next ∷ parts)) ≡ Ok out → AreFitting out
      go (Ok more) was rest e = rest more (inr (line-fits entries number (entry_of_line line) more was)) e
      go (Err fault) was rest e = absurd (cc e)

  some-fits : (found : Result (List Entry) BuildFault) (out : List Entry) → ((entries : List Entry) → found ≡ Ok entries → AreFitting entries) → some_entries found ≡ Ok out → fits out ≡ true
  some-fits (Ok []) out fit is = absurd (cc is)
  some-fits (Ok (entry ∷ entries)) out fit is = go (fit (entry ∷ entries) refl)
    where
      go : AreFitting (entry ∷ entries) → fits out ≡ true
      go (inl none) = absurd (cc none)
      go (inr f) = let same : entry ∷ entries ≡ out = cc is in subst (λ l. fits l ≡ true) same f
  some-fits (Err fault) out fit is = absurd (cc is)

  pub build_fits : (text : List ℕ) (entries : List Entry) → build_of fits text ≡ Ok entries → fits entries ≡ true
  unfolding build_of
  build_fits text entries is = some-fits (entries_from fits [] 1 (text_parts text)) entries (λ out e. from-fits [] 1 (text_parts text) out (inl refl) e) is

-- ---- they may stand in an external table

may-each : (entries : List Entry) → Each Fits entries → Each IsBuildEntry entries → Each (MayPut External) entries
may-each [] limits are = tt
may-each (entry ∷ entries) limits are = (
  record {
    limits = limits.0;
    number = subst (λ n. n < 2 ^ 56) (sym are.0.number) (lit≤ tt);
    allowed = subst (λ n. IsTrue (may_have External n)) (sym are.0.number) refl;
  },
  may-each entries limits.1 are.1,
)

pub may_be_table : (entries : List Entry) → AreRows entries → Each IsBuildEntry entries → MayBeTable External entries
may_be_table entries rows are = record { ordered = rows.ordered; each = may-each entries rows.within are }

-- ---- what is built is shown

module _ (only : (fits : List Entry → Bool) (text : List ℕ) (entries : List Entry) → build_of fits text ≡ Ok entries → text ≡ build_text entries)
    (rows : (fits : List Entry → Bool) (text : List ℕ) (entries : List Entry) → build_of fits text ≡ Ok entries → AreRows entries)
    (are : (fits : List Entry → Bool) (text : List ℕ) (entries : List Entry) → build_of fits text ≡ Ok entries → Each IsBuildEntry entries)
    (opens : (entries : List Entry) → MayBeTable External entries → length (written_table External entries) ≤ greatest_size External → IsTable (written_table External entries) External entries) where
  pub built_is_shown : (text table : List ℕ) → IsBuilt text table → IsShown table text
  built_is_shown text table built =
      let entries = built.entries in
      let fit = build_fits fit_table text entries built.read in
      let short : length (written_table External entries) ≤ greatest_size External = grind (arith, nat_tests, fit) in
      record {
        entries = entries;
        table = subst (λ bytes. IsTable bytes External entries) (sym built.written) (opens entries (may_be_table entries (rows fit_table text entries built.read) (are fit_table text entries built.read)) short);
        written = only fit_table text entries built.read;
      }

  module _ (exact : (bytes : List ℕ) → (first_fault bytes External ≡ None) ↔ ((entries : List Entry) × IsTable bytes External entries)) (one : (bytes : List ℕ) (one other : List Entry) → IsTable bytes External one → IsTable bytes External other → one ≡ other) where
    pub only_shown : (text table out : List ℕ) (status : Status) → IsBuilt text table → EndsBytes Show table status out → (status ≡ Done) × (out ≡ text)
    only_shown text table out Done built shown =
        let back = built_is_shown text table built in
        (refl, shown.written ∙ ap build_text (one table shown.entries back.entries shown.table back.table) ∙ sym back.written)
    only_shown text table out Refused built shown =
        let back = built_is_shown text table built in
        let none = (exact table).1 (back.entries, back.table) in
        absurd (cc (sym none ∙ shown.found))
    only_shown text table out Memory built shown = absurd shown
    only_shown text table out InputFault built shown = absurd shown
    only_shown text table out DiskFault built shown = absurd shown
    only_shown text table out SinkFault built shown = absurd shown
    only_shown text table out Script built shown = absurd shown
    only_shown text table out Damaged built shown = absurd shown
    only_shown text table out NotYet built shown = absurd shown
