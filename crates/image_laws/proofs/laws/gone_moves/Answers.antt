use Rattle.image_laws.proofs.EventMoves.{gone_compact_moves, gone_flush_moves}
use Rattle.image_laws.proofs.laws.gone_moves.Goals as goal

pub returns-clause-flush : goal.returns-clause-flush
returns-clause-flush c = gone_flush_moves

pub returns-clause-compaction : goal.returns-clause-compaction
returns-clause-compaction c = gone_compact_moves
