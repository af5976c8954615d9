-- A run, from the opening of the disk on.
use Rattle.std.proofs.Common.{◌||◌, true≢false, ◌≡◌, ◌⊎◌, inl, inr, ⊎_elim, ℕ, Bool, true, false, List, Ok, sym, ◌∙◌, subst}
use Rattle.st_device.specs.Disk.{DiskTold, IsHonest, Leaves, Passes}
use Rattle.st_model.specs.declared.state.ModelState.{ModelState}
use Rattle.log_recover.specs.Contents.{OpenedContents, SameContents, disk_contents}
use Rattle.log_recover.specs.Opens.{IsDamageOf}
use Rattle.log_recover.specs.declared.fault.OpenFault.{OpenFault}
use Rattle.log_recover.specs.declared.fault.OpenFault.TheVariants.{Damaged as DamagedFault, DiskFault as DiskFailed, OutOfMemory}
use Rattle.ingest_app.specs.Client.{ClientScript, EndsAnswered, AreClientsAnswered, IsRun, answered_status, opening_of}
use Rattle.ingest_app.specs.Run.{EndsOpening, EndsScripts, StaysAsRead}
use Rattle.ingest_app.specs.declared.status.Status.{Status}
use Rattle.ingest_app.specs.declared.status.Status.TheVariants.{Done, Refused, Memory, InputFault, DiskFault, SinkFault, Script, Damaged, NotYet}

-- ---- clients that were answered

module _ (clients : List ClientScript) (text : List ℕ) (opening : ModelState) (before after : DiskTold) where
  -- the disk failed besides
  answered_failed : (stopped : Bool) → AreClientsAnswered clients text opening before after stopped → AreClientsAnswered clients text opening before after true
  answered_failed stopped a = record {
    transcripts = a.transcripts;
    answers = record {
      answered = a.answers.answered;
      legal = let legal = a.answers.legal in record {
        begins = legal.begins;
        asked = legal.asked;
        once = legal.once;
        in_order = legal.in_order;
        awaits = legal.awaits;
        within = legal.within;
        accepted = legal.accepted;
        answered = legal.answered;
        files = legal.files;
        cut = legal.cut;
        causes = record { inputs = legal.causes.inputs; disk = λ none. absurd (true≢false none); stopped = legal.causes.stopped };
      };
      faults = a.answers.faults;
      printed = a.answers.printed;
    };
    moments = a.moments;
    each_change = a.each_change;
    in_turn = a.in_turn;
    crash = a.crash;
    kept = a.kept;
    end = a.end;
    whole = λ none. absurd (true≢false none);
  }

  -- they end so, by whether a fault stopped the store, or the count rose
  pub answered_as : (stopped counted : Bool) → AreClientsAnswered clients text opening before after stopped → EndsAnswered clients opening before after (answered_status (stopped || counted)) text
  answered_as true counted a = a
  answered_as false true a = answered_failed false a
  answered_as false false a = a

-- ---- the run

module _ (clients : List ClientScript) (text : List ℕ) (before mid after : DiskTold) (from : OpenedContents) (p : Passes before mid) (q : Passes mid after) (read : IsHonest before → disk_contents false before.reads ≡ Ok from)
    (stays : IsHonest before → Leaves (λ image. before.now image ⊎ SameContents image before.reads) before mid) where
  is_run : (failed : Bool) → AreClientsAnswered clients text (opening_of from) mid after failed → IsRun clients text before after failed
  is_run failed a = record {
    from = from;
    transcripts = a.transcripts;
    answers = a.answers;
    images = λ honest. record {
      read = read honest;
      opened = mid.moment;
      moments = a.moments;
      later = p.later;
      each_change = a.each_change;
      in_turn = a.in_turn;
      crash = λ image left. ⊎_elim
          (λ (w : mid.since before.moment image). ⊎_elim
          (λ (now : before.now image). inl now)
          (λ (same : SameContents image before.reads). inr (inl (same false ∙ read honest)))
          (stays honest image w))
          (λ (w : after.since mid.moment image). inr (inr w))
          (q.was before.moment image p.later left);
      since = a.crash (p.honest_on honest);
      kept = a.kept (p.honest_on honest);
      end = a.end (p.honest_on honest);
      whole = λ none image now. a.whole none (p.honest_on honest) image now;
    };
  }

  pub answered_ends : (status : Status) → EndsAnswered clients (opening_of from) mid after status text → EndsScripts clients before after status text
  answered_ends Done h = is_run false h
  answered_ends DiskFault h = inl (is_run true h)
  answered_ends Refused h = absurd h
  answered_ends Memory h = absurd h
  answered_ends InputFault h = absurd h
  answered_ends SinkFault h = absurd h
  answered_ends Script h = absurd h
  answered_ends Damaged h = absurd h
  answered_ends NotYet h = absurd h

-- ---- an opening that failed

pub opening_ends : (clients : List ClientScript) (before after : DiskTold) (fault : OpenFault) (status : Status) (text : List ℕ) → (IsHonest before → IsDamageOf (disk_contents false before.reads) fault) → StaysAsRead before after → EndsOpening fault status text
    → EndsScripts clients before after status text
opening_ends clients before after (DamagedFault file at) status text damage stays h =
    subst (λ (s : Status). EndsScripts clients before after s text) (sym h.0) (record { damage = record { file = file; at = at }; found = damage; printed = h.1; stays = stays })
opening_ends clients before after DiskFailed status text damage stays h =
    subst (λ (s : Status). EndsScripts clients before after s text) (sym h.0) (inr (record { printed = h.1; stays = stays }))
opening_ends clients before after OutOfMemory status text damage stays h = absurd h
