-- What the end of a conversion says, status by status.
use Rattle.std.proofs.Common.{◌≡◌, ◌⊎◌, inl, inr, ℕ, ◌+◌, ◌<◌, Bool, true, false, cond, List, [], ◌++◌, length, Some, IsTrue, refl, sym, ◌∙◌, ap, subst, arith, codes, true≢false}
use Rattle.std.specs.Prelude.{nat_lt, nat_le, Result, Ok, Err, IfOk}
use Rattle.std.proofs.lemmas.Bool.Decides.{nat_tests}
use Rattle.st_base.specs.declared.limits.TheConstants.{SOURCE_BYTES}
use Rattle.st_base.specs.Count.{Rose}
use Rattle.st_base.specs.declared.faults.TableFault.TheVariants.{TooLarge}
use Rattle.st_stream.specs.Source.{SourceTold}
use Rattle.st_stream.specs.Sink.{SinkTold}
use Rattle.st_stream.specs.SourceRead.{IsReadWithin, source_read}
use Rattle.st_stream.specs.declared.source_reading.SourceRead.{SourceRead}
use Rattle.st_stream.specs.declared.source_reading.SourceRead.TheVariants.{TooLong, Whole}
use Rattle.st_table.specs.Footer.{footer_of, greatest_size}
use Rattle.st_table.specs.Table.{first_fault, table_of}
use Rattle.st_table.specs.declared.kind.TableKind.TheVariants.{External}
use Rattle.ingest_app.specs.Convert.{ConversionCause, EndsBytes, EndsConverted, EndsSource, IsOfBytes}
use Rattle.ingest_app.specs.Ended.{AsksConversion, ConvertingCause, EndsConverting, EndsUnknown, IsConverted, UnknownCause}
use Rattle.ingest_app.specs.Form.{Form, Run, Convert, Unknown}
use Rattle.ingest_app.specs.Outside.{EndsWriting}
use Rattle.ingest_app.specs.Texts.{refused_text}
use Rattle.ingest_app.specs.declared.command_line.Conversion.{Conversion}
use Rattle.ingest_app.specs.declared.command_line.Conversion.TheVariants.{Build, Show}
use Rattle.ingest_app.specs.declared.status.Status.{Status}
use Rattle.ingest_app.specs.declared.status.Status.TheVariants.{Done, Refused, Memory, InputFault, DiskFault, SinkFault, Script, Damaged, NotYet}
use Rattle.ingest_app.proofs.Ends.{beyond, bytes_beyond, le_no, le_yes}
use Rattle.ingest_app.proofs.Outcomes.{ends_as}

-- bytes past the limit of a source are past that of a table
pub long_table : (bytes : List ℕ) → SOURCE_BYTES < length bytes → first_fault bytes External ≡ Some TooLarge
unfolding table_of footer_of
long_table bytes long = let is : nat_lt (greatest_size External) (length bytes) ≡ true = grind (arith, nat_tests) in rw is refl

-- so they are shown as too large
pub long_shown : (bytes : List ℕ) (status : Status) (text : List ℕ) → SOURCE_BYTES < length bytes → status ≡ Refused → text ≡ refused_text (codes "TooLarge") → EndsBytes Show bytes status text
long_shown bytes status text long is printed =
    subst (λ (s : Status). EndsBytes Show bytes s text) (sym is) (record { fault = TooLarge; found = long_table bytes long; printed = printed })

-- what was read of a source, by its bytes
pub whole_is : (limit : ℕ) (left bytes : List ℕ) → Whole bytes ≡ source_read limit left → left ≡ bytes
whole_is limit left bytes is = go (nat_le (length left) limit) is
  where
    go : (b : Bool) → Whole bytes ≡ cond b (Whole left) TooLong → left ≡ bytes
    go true e = cc e
    go false e = absurd (cc e)

pub too_long_is : (limit : ℕ) (left : List ℕ) → TooLong ≡ source_read limit left → limit < length left
too_long_is limit left is = go (nat_le (length left) limit) refl is
  where
    go : (b : Bool) → nat_le (length left) limit ≡ b → TooLong ≡ cond b (Whole left) TooLong → limit < length left
    go true le e = absurd (cc e)
    go false le e = grind (arith, nat_tests, le)

pub of_bytes : (form : Conversion) (bytes : List ℕ) (status : Status) (text : List ℕ) → EndsBytes form bytes status text → IsOfBytes status
of_bytes form bytes Done text h = tt
of_bytes form bytes Refused text h = tt
of_bytes Build bytes Memory text h = absurd h
of_bytes Build bytes InputFault text h = absurd h
of_bytes Build bytes DiskFault text h = absurd h
of_bytes Build bytes SinkFault text h = absurd h
of_bytes Build bytes Script text h = absurd h
of_bytes Build bytes Damaged text h = absurd h
of_bytes Build bytes NotYet text h = absurd h
of_bytes Show bytes Memory text h = absurd h
of_bytes Show bytes InputFault text h = absurd h
of_bytes Show bytes DiskFault text h = absurd h
of_bytes Show bytes SinkFault text h = absurd h
of_bytes Show bytes Script text h = absurd h
of_bytes Show bytes Damaged text h = absurd h
of_bytes Show bytes NotYet text h = absurd h

-- a conversion of bytes ends as one of the source
pub source_ends : (form : Conversion) (before after : SourceTold) (status : Status) (text : List ℕ) → IsOfBytes status → EndsConverted form before status text → EndsSource form before after status text
source_ends form before after Done text is h = h
source_ends form before after Refused text is h = h
source_ends form before after Memory text is h = absurd is
source_ends form before after InputFault text is h = absurd is
source_ends form before after DiskFault text is h = absurd is
source_ends form before after SinkFault text is h = absurd is
source_ends form before after Script text is h = absurd is
source_ends form before after Damaged text is h = absurd is
source_ends form before after NotYet text is h = absurd is

-- what was read is what is read of some bytes
bytes_of : (limit : ℕ) (read : SourceRead) → IsReadWithin limit read → (bytes : List ℕ) × (read ≡ source_read limit bytes)
bytes_of limit (Whole bytes) within = (bytes, sym (ap (λ b. cond b (Whole bytes) TooLong) (le_yes (length bytes) limit within)))
bytes_of limit TooLong within =
    let long : nat_le (length (bytes_beyond limit)) limit ≡ false = le_no (length (bytes_beyond limit)) limit (beyond limit) in
    (bytes_beyond limit, sym (ap (λ b. cond b (Whole (bytes_beyond limit)) TooLong) long))

-- so a conversion of what was read is one of bytes, which are those of the source, where it tells them
pub read_converted : (limit : ℕ) (form : Conversion) (source : SourceTold) (status : Status) (text : List ℕ) (read : SourceRead) → IsReadWithin limit read → (IsTrue source.known → read ≡ source_read limit source.left)
    → ((bytes : List ℕ) → read ≡ source_read limit bytes → EndsBytes form bytes status text) → EndsConverted form source status text
read_converted limit form source status text read within told ends = go source.known refl
  where
    go : (known : Bool) → source.known ≡ known → EndsConverted form source status text
    go true known = record { bytes = source.left; theirs = λ _. refl; ends = ends source.left (told known) }
    go false unknown = let found = bytes_of limit read within in record { bytes = found.0; theirs = λ known. absurd (true≢false (sym known ∙ unknown)); ends = ends found.0 found.1 }

pub if_ok_both : {T E : Type 0} (P Q R : T → Type 0) (r : Result T E) → ((x : T) → P x → Q x → R x) → IfOk r P → IfOk r Q → IfOk r R
if_ok_both P Q R (Ok x) f p q = f x p q
if_ok_both P Q R (Err e) f p q = tt

pub if_ok_three : {T E : Type 0} (P Q R S : T → Type 0) (r : Result T E) → ((x : T) → P x → Q x → R x → S x) → IfOk r P → IfOk r Q → IfOk r R → IfOk r S
if_ok_three P Q R S (Ok x) f p q r = f x p q r
if_ok_three P Q R S (Err e) f p q r = tt

-- ---- the cause of a status

module _ (form : Conversion) (before after : SourceTold) (sink_before sink_after : SinkTold) where
  pub conversion_cause : (status : Status) → EndsWriting (EndsSource form before after) sink_before sink_after status → (status ≡ Done → (after.faults ≡ before.faults) × (sink_after.faults ≡ sink_before.faults))
      → ConversionCause form before after sink_before sink_after status
  conversion_cause Done h quiet =
      let converted : EndsConverted form before Done h.0 = h.1 in
      (λ known. (h.0, subst (λ bytes. EndsBytes form bytes Done h.0) (converted.theirs known) converted.ends), (quiet refl).0, (quiet refl).1)
  conversion_cause Refused h quiet =
      let converted : EndsConverted form before Refused h.0 = h.1 in
      λ known. (h.0, subst (λ bytes. EndsBytes form bytes Refused h.0) (converted.theirs known) converted.ends)
  conversion_cause Memory h quiet = λ known. h.2 known ∙ ap (λ text. sink_before.written ++ text) h.1
  conversion_cause InputFault h quiet = h.1.0
  conversion_cause SinkFault h quiet = h.0
  conversion_cause DiskFault h quiet = absurd h.1
  conversion_cause Script h quiet = absurd h.1
  conversion_cause Damaged h quiet = absurd h.1
  conversion_cause NotYet h quiet = absurd h.1

  pub conversion_complete : (status : Status) → ConversionCause form before after sink_before sink_after status → ¬ Rose before.faults after.faults → ¬ Rose sink_before.faults sink_after.faults → IsConverted status
  conversion_complete Done cause no_source no_sink = inl refl
  conversion_complete Refused cause no_source no_sink = inr (inl refl)
  conversion_complete Memory cause no_source no_sink = inr (inr refl)
  conversion_complete InputFault cause no_source no_sink = absurd (no_source cause)
  conversion_complete SinkFault cause no_source no_sink = absurd (no_sink cause)
  conversion_complete DiskFault cause no_source no_sink = absurd cause
  conversion_complete Script cause no_source no_sink = absurd cause
  conversion_complete Damaged cause no_source no_sink = absurd cause
  conversion_complete NotYet cause no_source no_sink = absurd cause

pub asked_complete : (form : Form) (before after : SourceTold) (sink_before sink_after : SinkTold) (status : Status) → ConvertingCause form before after sink_before sink_after status
    → AsksConversion form → ¬ Rose before.faults after.faults → ¬ Rose sink_before.faults sink_after.faults → IsConverted status
asked_complete (Convert form) before after sink_before sink_after status cause asks = conversion_complete form before after sink_before sink_after status cause
asked_complete (Run name) before after sink_before sink_after status cause asks = absurd asks
asked_complete Unknown before after sink_before sink_after status cause asks = absurd asks

-- words that ask for no conversion end as those that are no form
pub unasked_ends : (form : Form) (source : SourceTold) (sink_before sink_after : SinkTold) (status : Status) → (AsksConversion form → ⊥)
    → EndsWriting EndsUnknown sink_before sink_after status → EndsWriting (EndsConverting form source source) sink_before sink_after status
unasked_ends (Run name) source sink_before sink_after status other =
    ends_as EndsUnknown (EndsConverting (Run name) source source) (λ status text h. h) sink_before sink_after status
unasked_ends Unknown source sink_before sink_after status other =
    ends_as EndsUnknown (EndsConverting Unknown source source) (λ status text h. h) sink_before sink_after status
unasked_ends (Convert form) source sink_before sink_after status other = absurd (other tt)

pub unasked_cause : (form : Form) (source : SourceTold) (sink_before sink_after : SinkTold) (status : Status) → (AsksConversion form → ⊥)
    → UnknownCause sink_before sink_after status → ConvertingCause form source source sink_before sink_after status
unasked_cause (Run name) source sink_before sink_after status other cause = cause
unasked_cause Unknown source sink_before sink_after status other cause = cause
unasked_cause (Convert form) source sink_before sink_after status other cause = absurd (other tt)
