use Rattle.std.proofs.Common.{◌∙◌, ◌∷◌, [], Some, cond, ap, sym}
use Rattle.st_base.specs.Bytes.{same}
use Rattle.st_wal.specs.Batch.{Operation}
use Rattle.log_engine.specs.Newest.{HasRoom, newest_at}
use Rattle.log_engine.proofs.Write.{after_push, each_front, each_end}
use Rattle.log_engine.proofs.newest.Newest.set_all.Goals as goal

pub loop-key-preserved : goal.loop-key-preserved
loop-key-preserved c =
    let op : Operation = (c.in-Some.field-0-0, c.in-Some.key, c.in-Some.mark) in
    let has : Operation → _ = λ operation. HasRoom c.args.self.now operation.1 in
    record {
      keeps = λ key room. c.set.ensures.rooms key (c.loop-key.invariant.keeps key room);
      marks = λ rooms key.
          let here : HasRoom c.args.self.now op.1 = each_end has c.loop-key.yielded op rooms in
          c.set.ensures.set (c.loop-key.invariant.keeps op.1 here) key
          ∙ ap (cond (same op.1 key) (Some op.2)) (c.loop-key.invariant.marks (each_front has c.loop-key.yielded (op ∷ []) rooms) key)
          ∙ sym (after_push (newest_at c.args.self.now) c.loop-key.yielded op key);
    }
