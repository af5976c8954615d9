use Rattle.ingest_app.proofs.Shown.{shown_more}
use Rattle.ingest_app.proofs.show.text_of.Goals as goal

pub loop-index-preserved : goal.loop-index-preserved
loop-index-preserved g c =
    shown_more (g.T.Rows.rows c.args.rows.now) c.loop-index.index c.at.result c.loop-index.text c.push_build_line.new.out c.loop-index.invariant c.at.ensures c.in_ok-push_build_line.ensures.ok
