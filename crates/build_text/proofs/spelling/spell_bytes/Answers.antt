use Rattle.build_text.specs.Words.{spelled_bytes}
use Rattle.build_text.proofs.SpelledBytes.{spelled_begin, spelled_less}
use Rattle.build_text.proofs.spelling.spell_bytes.Goals as goal

pub loop-rest-init : goal.loop-rest-init
loop-rest-init c = spelled_begin c.truncate.new.self (spelled_bytes c.args.spelling.now) c.truncate.ensures

pub loop-rest-preserved : goal.loop-rest-preserved
loop-rest-preserved c =
    rw c.in_ok-push.ensures.ok
    (spelled_less (spelled_bytes c.args.spelling.now) c.loop-rest.scratch c.loop-rest.rest.now c.in-Some.after.now c.in-Some.byte c.loop-rest.invariant c.in-Some.ensures.first)
