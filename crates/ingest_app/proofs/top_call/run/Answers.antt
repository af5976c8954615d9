use Rattle.std.proofs.Common.{map, string_bytes, subst, sym, ap}
use Rattle.ingest_app.specs.Ended.{Cause, Ended, LeavesDisk, LeavesInputs, LeavesSource}
use Rattle.ingest_app.specs.Form.{Form, form_of}
use Rattle.ingest_app.specs.Outside.{outside}
use Rattle.ingest_app.proofs.Causes.{complete_of}
use Rattle.ingest_app.proofs.top_call.run.Goals as goal

pub returns : goal.returns
returns g c =
    let e = c.run_line.ensures in
    let same = c.read_command_line.ensures.form in
    let status = c.run_line.result.0 in
    let before = outside (g.I.Inputs.tells c.args.inputs.now) (g.S.Source.tells c.args.source.now) (g.D.Disk.tells c.args.disk) (g.K.Sink.tells c.args.sink.now) in
    let after = outside (g.I.Inputs.tells c.run_line.new.inputs) (g.S.Source.tells c.run_line.new.source) (g.D.Disk.tells c.run_line.result.1) (g.K.Sink.tells c.run_line.new.sink) in
    let cause = subst (λ (form : Form). Cause form before after status) same e.cause in
    record {
      ended = subst (λ (form : Form). Ended form before after status) same e.ended;
      cause = cause;
      complete = complete_of (form_of (map string_bytes c.args.words.now)) before after status cause;
      passes = e.passes;
      files = e.files;
      disk = λ leaves. e.disk (subst (λ (form : Form). LeavesDisk form status) (sym same) leaves);
      inputs = λ leaves. e.inputs (subst LeavesInputs (sym same) leaves);
      source = λ leaves. e.source (subst LeavesSource (sym same) leaves);
    }
