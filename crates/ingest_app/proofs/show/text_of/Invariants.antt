use Rattle.std.proofs.Common.{◌≡◌, take}
use Rattle.build_text.specs.Build.{build_text}
use Rattle.ingest_app.proofs.show.text_of.Given as goal

abbrev pub invariant-loop-index : goal.invariant-loop-index
invariant-loop-index g l = l.text ≡ build_text (take l.index (g.T.Rows.rows l.rows))
