use Rattle.ingest_app.proofs.Fits.{script_fits}
use Rattle.ingest_app.proofs.client_run.run_text.Goals as goal

pub run_script-requires : goal.run_script-requires
run_script-requires g c = script_fits c.args.text.now c.in-Ok.script.commands c.in-Ok.ensures.ok
