use Rattle.std.proofs.Common.{length, append-nil, ◌≡◌, inl, inr, ⊎_elim, ◌+◌, ◌++◌, ◌∷◌, [], ◌∙◌, None, map, take, refl, ap, sym, subst}
use Rattle.std.proofs.lemmas.List.{map-append, take_all, take_more}
use Rattle.std.specs.List.{AllByRecursion as Each}
use Rattle.st_base.specs.Count.{Rose}
use Rattle.st_device.specs.Disk.{Image, IsHonest}
use Rattle.st_device.proofs.Calls.{rose_later, rose_then}
use Rattle.st_device.proofs.Moments.{passes_start, passes_then}
use Rattle.log_engine.specs.Engine.{OpensTo, Stands}
use Rattle.log_engine.proofs.Writing.{tied_opens}
use Rattle.st_model.specs.declared.command.Command.{Command}
use Rattle.st_model.specs.declared.state.ModelState.{ModelState}
use Rattle.st_model.specs.State.{IsOpening}
use Rattle.cmd_text.specs.declared.script.Numbered.{Numbered}
use Rattle.st_model.specs.Calls.{AreCallsOf}
use Rattle.st_model.specs.History.{state_at}
use Rattle.ingest_app.specs.Client.{commands_alone, transcript}
use Rattle.ingest_app.specs.Faults.{IsFaultTold}
use Rattle.ingest_app.specs.Op.{IsServed}
use Rattle.ingest_app.proofs.Along.{Along, along_grows, along_start, each_at, no_files, none_of}
use Rattle.ingest_app.proofs.client.answer_script.Goals as goal

pub loop-numbered-init : goal.loop-numbered-init
loop-numbered-init g c =
    let engine = c.args.engine.now in
    let disk = g.D.Disk.tells engine.disk in
    let clock = g.met.D.Disk.clock engine.disk in
    let opens : (opening : ModelState) → Stands engine opening → IsHonest disk → (image : Image) → disk.now image → OpensTo opening image = λ opening h honest image now. tied_opens engine.wal engine.store opening (c.requires.ready honest c.requires.running) h image now in
    record {
      passes = passes_start clock;
      capacity = refl;
      cause = inl c.requires.running;
      ready = c.requires.ready;
      along = λ opening h fresh. along_start c.args.name.now c.in_ok-text.text opening disk (Stands engine) engine.stopped c.in_ok-text.ensures h fresh c.requires.running
          (λ honest image left. opens opening h honest image (clock.only_now image left)) (opens opening h);
    }

pub loop-numbered-preserved : goal.loop-numbered-preserved
loop-numbered-preserved g c =
    let i = c.loop-numbered.invariant in
    let e = c.in_ok-print_answer.ensures in
    let first = c.args.engine.now in
    let old = c.loop-numbered.engine in
    let new = c.print_answer.new.engine in
    let items = c.as_slice-numbered-items.result.now in
    let named : Numbered → Command = λ numbered. numbered.command in
    let command = c.numbered-item.result.command in
    let served : IsServed command = each_at (λ (n : Numbered). IsServed n.command) items c.loop-numbered.numbered-index c.numbered-item.result c.loop-numbered-test.true c.numbered-item.is
    (subst (Each (λ (n : Numbered). IsServed n.command)) (sym c.as_slice-numbered-items.ensures) c.requires.served) in
    let taken : map named (take c.loop-numbered.numbered-index items) ++ command ∷ [] ≡ map named (take (c.loop-numbered.numbered-index + 1) items) =
    sym (map-append named (take c.loop-numbered.numbered-index items) (c.numbered-item.result ∷ []))
    ∙ ap (λ (n : Numbered). map named (take c.loop-numbered.numbered-index items ++ n ∷ [])) c.numbered-item.is
    ∙ sym (ap (map named) (take_more items c.loop-numbered.numbered-index c.numbered-item.result c.loop-numbered-test.true)) in
    record {
      passes = passes_then i.passes e.passes;
      capacity = e.options.1 ∙ i.capacity;
      cause = ⊎_elim
          (λ (same : new.stopped ≡ old.stopped). ⊎_elim
          (λ (none : old.stopped ≡ None). inl (same ∙ none))
          (λ (rose : Rose (g.D.Disk.tells first.disk).faults (g.D.Disk.tells old.disk).faults). inr (rose_later (g.D.Disk.tells first.disk).faults (g.D.Disk.tells old.disk).faults (g.D.Disk.tells new.disk).faults e.passes.faults rose))
          i.cause)
          (λ (rose : Rose (g.D.Disk.tells old.disk).faults (g.D.Disk.tells new.disk).faults). inr (rose_then (g.D.Disk.tells first.disk).faults (g.D.Disk.tells old.disk).faults (g.D.Disk.tells new.disk).faults i.passes.faults rose))
          e.cause;
      ready = e.ready;
      along = λ (opening : ModelState) (h : Stands first opening) (fresh : IsOpening opening).
          subst (λ commands. Along c.args.name.now c.print_answer.new.text opening (g.D.Disk.tells first.disk) (g.D.Disk.tells new.disk) (Stands new) new.stopped commands) taken
          (along_grows g.D.Disk.tells c.args.name.now c.loop-numbered.text c.print_answer.new.text opening (g.D.Disk.tells first.disk) old new (map named (take c.loop-numbered.numbered-index items)) command
          c.len-heading.result (c.len-heading.ensures ∙ ap length c.in_ok-text.ensures) served
          i.passes e.passes (i.capacity ∙ c.requires.capacity) (i.along opening h fresh) e.printed e.untouched (g.met.D.Disk.clock new.disk));
    }

pub returns-clause-answered : goal.returns-clause-answered
returns-clause-answered g c = λ opening h fresh.
    let i = c.loop-numbered.invariant in
    let a = i.along opening h fresh in
    let items = c.as_slice-numbered-items.result.now in
    let all : commands_alone (take c.loop-numbered.numbered-index items) ≡ commands_alone c.args.script.now.commands = ap commands_alone (take_all c.loop-numbered.numbered-index items c.loop-numbered-test.false ∙ c.as_slice-numbered-items.ensures) in
    record {
      transcripts = a.calls ∷ [];
      answers = record {
        answered = (record { seen = no_files (commands_alone c.args.script.now.commands); answers = a.answers; are = subst (λ commands. AreCallsOf commands (no_files commands) a.answers a.calls) all a.are; unknown = a.unknown; stop = a.stop }, tt);
        legal = a.legal;
        faults = subst (λ calls. Each (IsFaultTold opening (a.calls ∷ [])) calls) (sym (append-nil a.calls)) a.faults;
        printed = a.printed ∙ sym (append-nil (transcript c.args.name.now a.calls));
      };
      moments = a.moments;
      each_change = a.each_change;
      in_turn = a.in_turn;
      crash = a.crash;
      kept = a.kept;
      end = a.end;
      whole = λ none honest image now. subst (λ (s : ModelState). OpensTo s image) (a.is ∙ ap (state_at opening (a.calls ∷ [])) a.newest) (a.whole honest (none_of c.loop-numbered.engine.stopped none) image now);
    }
