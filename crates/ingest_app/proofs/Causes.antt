-- What the end of words says, by what they ask for.
use Rattle.std.proofs.Common.{◌≡◌, ◌⊎◌, inl, inr, ⊎_elim, ℕ, true, false, List, [], ◌++◌, IsTrue, refl, ◌∙◌, ap, sym, subst}
use Rattle.st_base.specs.Count.{Rose}
use Rattle.st_device.specs.Disk.{IsHonest}
use Rattle.st_stream.specs.Sink.{SinkTold}
use Rattle.ingest_app.specs.Client.{IsRun, client_script}
use Rattle.ingest_app.specs.Convert.{EndsBytes, EndsConverted}
use Rattle.ingest_app.specs.Ended.{Cause, Ended, EndsUnknown, IsComplete, UnknownCause}
use Rattle.ingest_app.specs.Form.{Form, Run, Convert, Unknown}
use Rattle.ingest_app.specs.Memory.{IsCompleteInMemory, RunsInMemory}
use Rattle.ingest_app.specs.Outside.{EndsWriting, OutsideTold}
use Rattle.ingest_app.specs.Run.{EndsRead, IsScript, IsUnopened, one_client}
use Rattle.ingest_app.specs.Texts.{not_yet_text}
use Rattle.ingest_app.specs.declared.status.Status.{Status}
use Rattle.ingest_app.specs.declared.status.Status.TheVariants.{Done, Refused, Memory, InputFault, DiskFault, SinkFault, Script, Damaged, NotYet}
use Rattle.ingest_app.proofs.Converting.{conversion_complete}
use Rattle.ingest_app.proofs.Ends.{run_complete}

-- ---- words that are no form

pub unknown_ends : (status : Status) (text : List ℕ) → status ≡ NotYet → text ≡ not_yet_text → EndsUnknown status text
unknown_ends status text is printed = subst (λ (s : Status). EndsUnknown s text) (sym is) printed

pub unknown_cause : (before after : SinkTold) (status : Status) → EndsWriting EndsUnknown before after status → UnknownCause before after status
unknown_cause before after NotYet h = tt
unknown_cause before after Memory h = λ known. h.2 known ∙ ap (λ text. before.written ++ text) h.1
unknown_cause before after SinkFault h = h.0
unknown_cause before after Done h = absurd h.1
unknown_cause before after Refused h = absurd h.1
unknown_cause before after InputFault h = absurd h.1
unknown_cause before after DiskFault h = absurd h.1
unknown_cause before after Script h = absurd h.1
unknown_cause before after Damaged h = absurd h.1

unknown_complete : (before after : SinkTold) (status : Status) → UnknownCause before after status → ¬ Rose before.faults after.faults → (status ≡ NotYet) ⊎ (status ≡ Memory)
unknown_complete before after NotYet cause no_sink = inl refl
unknown_complete before after Memory cause no_sink = inr refl
unknown_complete before after SinkFault cause no_sink = absurd (no_sink cause)
unknown_complete before after Done cause no_sink = absurd cause
unknown_complete before after Refused cause no_sink = absurd cause
unknown_complete before after InputFault cause no_sink = absurd cause
unknown_complete before after DiskFault cause no_sink = absurd cause
unknown_complete before after Script cause no_sink = absurd cause
unknown_complete before after Damaged cause no_sink = absurd cause

-- ---- any words

-- what is answered where nothing fails follows from the causes
pub complete_of : (form : Form) (before after : OutsideTold) (status : Status) → Cause form before after status → IsComplete form before after status
complete_of (Run name) before after status cause = run_complete name before after status cause
complete_of (Convert form) before after status cause = conversion_complete form before.source after.source before.sink after.sink status cause
complete_of Unknown before after status cause = unknown_complete before.sink after.sink status cause

-- ---- in memory

module _ (before after : OutsideTold) (honest : IsHonest before.disk) (inputs : IsTrue before.inputs.known) (source : IsTrue before.source.known) (sink : IsTrue before.sink.known) where
  pub runs_in_memory : (form : Form) (status : Status) → Ended form before after status → RunsInMemory form before after status
  runs_in_memory (Run name) Done h =
      let read : EndsRead name before.inputs before.disk after.disk Done h.0 = h.1 in
      let script : IsScript read.file name before.disk after.disk Done h.0 = read.ends in
      let ran : IsRun (one_client name script.commands) h.0 before.disk after.disk false = script.ends in
      record {
        commands = script.commands;
        script = ap client_script (sym (read.theirs inputs)) ∙ script.read;
        from = ran.from;
        transcripts = ran.transcripts;
        text = h.0;
        answers = ran.answers;
        images = ran.images honest;
        written = h.2 sink;
      }
  runs_in_memory (Run name) DiskFault h =
      let read : EndsRead name before.inputs before.disk after.disk DiskFault h.0 = h.1.1 in
      let script : IsScript read.file name before.disk after.disk DiskFault h.0 = read.ends in
      ⊎_elim
      (λ (ran : IsRun (one_client name script.commands) h.0 before.disk after.disk true). inl (record {
        commands = script.commands;
        script = ap client_script (sym (read.theirs inputs)) ∙ script.read;
        from = ran.from;
        transcripts = ran.transcripts;
        text = h.0;
        answers = ran.answers;
        images = ran.images honest;
        written = h.2 sink;
      }))
      (λ (unopened : IsUnopened h.0 before.disk after.disk). inr (record { stays = unopened.stays honest; written = h.2 sink ∙ ap (λ text. before.sink.written ++ text) unopened.printed }))
      script.ends
  runs_in_memory (Run name) Refused h = tt
  runs_in_memory (Run name) Memory h = tt
  runs_in_memory (Run name) InputFault h = tt
  runs_in_memory (Run name) SinkFault h = tt
  runs_in_memory (Run name) Script h = tt
  runs_in_memory (Run name) Damaged h = tt
  runs_in_memory (Run name) NotYet h = tt
  runs_in_memory (Convert form) Done h =
      let converted : EndsConverted form before.source Done h.0 = h.1 in
      (h.0, subst (λ bytes. EndsBytes form bytes Done h.0) (converted.theirs source) converted.ends, h.2 sink)
  runs_in_memory (Convert form) Refused h =
      let converted : EndsConverted form before.source Refused h.0 = h.1 in
      (h.0, subst (λ bytes. EndsBytes form bytes Refused h.0) (converted.theirs source) converted.ends, h.2 sink)
  runs_in_memory (Convert form) Memory h = tt
  runs_in_memory (Convert form) InputFault h = tt
  runs_in_memory (Convert form) DiskFault h = tt
  runs_in_memory (Convert form) SinkFault h = tt
  runs_in_memory (Convert form) Script h = tt
  runs_in_memory (Convert form) Damaged h = tt
  runs_in_memory (Convert form) NotYet h = tt
  runs_in_memory Unknown status h = tt

  pub complete_in_memory : (form : Form) (status : Status) → IsComplete form before after status → IsCompleteInMemory form before after status
  complete_in_memory (Run name) status complete = λ script from is no_input no_disk no_sink. complete inputs script (honest, (from, is)) no_input no_disk no_sink
  complete_in_memory (Convert form) status complete = complete
  complete_in_memory Unknown status complete = tt
