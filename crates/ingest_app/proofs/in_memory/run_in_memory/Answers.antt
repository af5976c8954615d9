use Rattle.std.proofs.Common.{map, string_bytes, refl}
use Rattle.st_device.specs.MemDisk.{told}
use Rattle.st_stream.specs.MemInputsState.{mem_inputs_told}
use Rattle.st_stream.specs.MemSink.{mem_sink_told}
use Rattle.st_stream.specs.MemSource.{mem_source_told}
use Rattle.ingest_app.specs.Form.{form_of}
use Rattle.ingest_app.specs.Outside.{outside}
use Rattle.ingest_app.proofs.Causes.{complete_in_memory, runs_in_memory}
use Rattle.ingest_app.proofs.in_memory.run_in_memory.Goals as goal

pub returns : goal.returns
returns c =
    let form = form_of (map string_bytes c.args.words.now) in
    let before = outside (mem_inputs_told c.args.inputs.now) (mem_source_told c.args.source.now) (told c.args.disk) (mem_sink_told c.args.sink.now) in
    let after = outside (mem_inputs_told c.run.new.inputs) (mem_source_told c.run.new.source) (told c.run.result.1) (mem_sink_told c.run.new.sink) in
    let honest = c.memory_disks_are_honest.ensures c.args.disk in
    record {
      ended = runs_in_memory before after honest refl refl refl form c.run.result.0 c.run.ensures.ended;
      complete = complete_in_memory before after honest refl refl refl form c.run.result.0 c.run.ensures.complete;
    }
