-- The end of a run or a conversion whose outcome was handed to the sink.
use Rattle.std.proofs.Common.{◌≡◌, inl, inr, ℕ, List, [], refl, sym, subst, append-nil}
use Rattle.std.specs.Prelude.{IfOk, IsErr, IsOkAnd, Result, Ok, Err}
use Rattle.st_stream.specs.Sink.{SinkTold}
use Rattle.ingest_app.specs.Outside.{EndsWriting, Writes, WritesOutcome}
use Rattle.ingest_app.specs.declared.outcome.Outcome.{Outcome}
use Rattle.ingest_app.specs.declared.status.Status.{Status}
use Rattle.ingest_app.specs.declared.status.Status.TheVariants.{Done, Refused, Memory, InputFault, DiskFault, SinkFault, Script, Damaged, NotYet}

module _ (ends : Status → List ℕ → Type 0) (before after : SinkTold) (no_sink : (text : List ℕ) → ends SinkFault text → ⊥) where
  -- the sink took the text
  took : (wanted : Status) (text : List ℕ) → ends wanted text → Writes before after text → EndsWriting ends before after wanted
  took Done text h w = (text, h, w)
  took Refused text h w = (text, h, w)
  took Memory text h w = (text, h, w)
  took InputFault text h w = (text, h, w)
  took DiskFault text h w = (text, h, w)
  took Script text h w = (text, h, w)
  took Damaged text h w = (text, h, w)
  took NotYet text h w = (text, h, w)
  took SinkFault text h w = absurd (no_sink text h)

  -- an outcome that was handed to the sink
  pub written_of : (wanted : Status) (text : List ℕ) (status : Status) → ends wanted text → WritesOutcome wanted text before after status → EndsWriting ends before after status
  written_of wanted text status h (inl w) = subst (EndsWriting ends before after) (sym w.0) (took wanted text h w.1)
  written_of wanted text status h (inr w) = subst (EndsWriting ends before after) (sym w.0) (w.1, (wanted, text, h, w.2))

-- the same end in other words
pub ends_as : (ends others : Status → List ℕ → Type 0) → ((status : Status) (text : List ℕ) → ends status text → others status text) → (before after : SinkTold) (status : Status) → EndsWriting ends before after status → EndsWriting others before after status
ends_as ends others goes before after Done h = (h.0, goes Done h.0 h.1, h.2)
ends_as ends others goes before after Refused h = (h.0, goes Refused h.0 h.1, h.2)
ends_as ends others goes before after Memory h = (h.0, goes Memory h.0 h.1, h.2)
ends_as ends others goes before after InputFault h = (h.0, goes InputFault h.0 h.1, h.2)
ends_as ends others goes before after DiskFault h = (h.0, goes DiskFault h.0 h.1, h.2)
ends_as ends others goes before after Script h = (h.0, goes Script h.0 h.1, h.2)
ends_as ends others goes before after Damaged h = (h.0, goes Damaged h.0 h.1, h.2)
ends_as ends others goes before after NotYet h = (h.0, goes NotYet h.0 h.1, h.2)
ends_as ends others goes before after SinkFault h = (h.0, (h.1.0, h.1.1, goes h.1.0 h.1.1 h.1.2, h.1.3))

-- want of memory leaves the sink as it was
pub unwritten : (ends : Status → List ℕ → Type 0) (sink : SinkTold) → ends Memory [] → EndsWriting ends sink sink Memory
unwritten ends sink h = ([], h, λ known. sym (append-nil sink.written))

module _ {K E : Type 0} (tells : K → SinkTold) (ends : Status → List ℕ → Type 0) (no_sink : (text : List ℕ) → ends SinkFault text → ⊥) (memory : ends Memory []) where
  -- an outcome, or want of memory, that was handed to the sink
  pub ended_of : (old new : K) (outcome : Result Outcome E) (status : Status) → IfOk outcome (λ outcome. ends outcome.status outcome.text) → IfOk outcome (λ outcome. WritesOutcome outcome.status outcome.text (tells old) (tells new) status)
      → (IsErr outcome → (status ≡ Memory) × (new ≡ old)) → EndsWriting ends (tells old) (tells new) status
  ended_of old new (Ok outcome) status h wrote none = written_of ends (tells old) (tells new) no_sink outcome.status outcome.text status h wrote
  ended_of old new (Err error) status h wrote none =
      let is = none refl in
      subst (λ k. EndsWriting ends (tells old) (tells k) status) (sym is.1) (subst (EndsWriting ends (tells old) (tells old)) (sym is.0) (unwritten ends (tells old) memory))

-- where the status is Done, what is said of an outcome of this status holds
pub done_is_quiet : {E X : Type 0} (outcome : Result Outcome E) → IfOk outcome (λ outcome. outcome.status ≡ Done → X) → IsOkAnd outcome (λ outcome. outcome.status ≡ Done) → X
done_is_quiet (Ok outcome) quiet done = quiet done
done_is_quiet (Err error) quiet done = absurd done
