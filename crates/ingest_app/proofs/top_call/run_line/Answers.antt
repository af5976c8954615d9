use Rattle.std.proofs.Common.{refl, subst, sym}
use Rattle.ingest_app.specs.Convert.{EndsSource}
use Rattle.ingest_app.specs.Ended.{Cause, Ended, Ends, EndsUnknown, LeavesDisk, LeavesInputs, LeavesSource}
use Rattle.ingest_app.specs.Form.{HasFileName, form_read, Run, Convert, Unknown}
use Rattle.ingest_app.specs.Outside.{outside}
use Rattle.ingest_app.specs.declared.command_line.CommandLine.{CommandLine}
use Rattle.ingest_app.specs.Run.{EndsRun}
use Rattle.ingest_app.proofs.Ends.{run_cause}
use Rattle.ingest_app.proofs.Outcomes.{ends_as}
use Rattle.ingest_app.proofs.top_call.run_line.Goals as goal

pub run_named-requires : goal.run_named-requires
run_named-requires g c = subst HasFileName c.in-Run.is c.requires

pub returns-in-Run : goal.returns-in-Run
returns-in-Run g c =
    let e = c.run_named.ensures in
    let source = g.S.Source.tells c.args.source.now in
    let before = outside (g.I.Inputs.tells c.args.inputs.now) source (g.D.Disk.tells c.args.disk) (g.K.Sink.tells c.args.sink.now) in
    let after = outside (g.I.Inputs.tells c.run_named.new.inputs) source (g.D.Disk.tells c.run_named.result.1) (g.K.Sink.tells c.run_named.new.sink) in
    let status = c.run_named.result.0 in
    record {
      ended = subst (λ (line : CommandLine). Ended (form_read line) before after status) (sym c.in-Run.is)
          (ends_as (EndsRun c.in-Run.name.now before.inputs after.inputs before.disk after.disk) (Ends (Run c.in-Run.name.now) before after) (λ status text h. h) before.sink after.sink status e.ended);
      cause = subst (λ (line : CommandLine). Cause (form_read line) before after status) (sym c.in-Run.is)
          (run_cause c.in-Run.name.now before after status e.ended (λ done. let quiet = e.quiet done in record { disk = quiet.0; source = refl; sink = quiet.1 }));
      passes = e.passes;
      files = e.inputs_untouched;
      disk = λ leaves. e.disk_untouched (subst (λ (line : CommandLine). LeavesDisk (form_read line) status) c.in-Run.is leaves);
      inputs = λ leaves. absurd (subst (λ (line : CommandLine). LeavesInputs (form_read line)) c.in-Run.is leaves);
      source = λ leaves. refl;
    }

pub returns-in-Convert-clause-ended : goal.returns-in-Convert-clause-ended
returns-in-Convert-clause-ended g c =
    let inputs = g.I.Inputs.tells c.args.inputs.now in
    let disk = g.D.Disk.tells c.args.disk in
    let before = outside inputs (g.S.Source.tells c.args.source.now) disk (g.K.Sink.tells c.args.sink.now) in
    let after = outside inputs (g.S.Source.tells c.convert_source_to.new.source) disk (g.K.Sink.tells c.convert_source_to.new.sink) in
    subst (λ (line : CommandLine). Ended (form_read line) before after c.convert_source_to.result) (sym c.in-Convert.is)
    (ends_as (EndsSource c.in-Convert.form before.source after.source) (Ends (Convert c.in-Convert.form) before after) (λ status text h. h) before.sink after.sink c.convert_source_to.result c.convert_source_to.ensures.ended)

pub returns-in-Convert-clause-cause : goal.returns-in-Convert-clause-cause
returns-in-Convert-clause-cause g c =
    let inputs = g.I.Inputs.tells c.args.inputs.now in
    let disk = g.D.Disk.tells c.args.disk in
    let before = outside inputs (g.S.Source.tells c.args.source.now) disk (g.K.Sink.tells c.args.sink.now) in
    let after = outside inputs (g.S.Source.tells c.convert_source_to.new.source) disk (g.K.Sink.tells c.convert_source_to.new.sink) in
    subst (λ (line : CommandLine). Cause (form_read line) before after c.convert_source_to.result) (sym c.in-Convert.is) c.convert_source_to.ensures.cause

pub returns-in-Convert-clause-source : goal.returns-in-Convert-clause-source
returns-in-Convert-clause-source g c = λ leaves. absurd (subst (λ (line : CommandLine). LeavesSource (form_read line)) c.in-Convert.is leaves)

pub returns-in-Unknown-clause-ended : goal.returns-in-Unknown-clause-ended
returns-in-Unknown-clause-ended g c =
    let inputs = g.I.Inputs.tells c.args.inputs.now in
    let source = g.S.Source.tells c.args.source.now in
    let disk = g.D.Disk.tells c.args.disk in
    let before = outside inputs source disk (g.K.Sink.tells c.args.sink.now) in
    let after = outside inputs source disk (g.K.Sink.tells c.write_unknown.new.sink) in
    subst (λ (line : CommandLine). Ended (form_read line) before after c.write_unknown.result) (sym c.in-Unknown.is)
    (ends_as EndsUnknown (Ends Unknown before after) (λ status text h. h) before.sink after.sink c.write_unknown.result c.write_unknown.ensures.ended)

pub returns-in-Unknown-clause-cause : goal.returns-in-Unknown-clause-cause
returns-in-Unknown-clause-cause g c =
    let inputs = g.I.Inputs.tells c.args.inputs.now in
    let source = g.S.Source.tells c.args.source.now in
    let disk = g.D.Disk.tells c.args.disk in
    let before = outside inputs source disk (g.K.Sink.tells c.args.sink.now) in
    let after = outside inputs source disk (g.K.Sink.tells c.write_unknown.new.sink) in
    subst (λ (line : CommandLine). Cause (form_read line) before after c.write_unknown.result) (sym c.in-Unknown.is) c.write_unknown.ensures.cause
