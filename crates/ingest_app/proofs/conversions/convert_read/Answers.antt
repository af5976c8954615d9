use Rattle.std.proofs.Common.{subst, sym, ◌∙◌}
use Rattle.ingest_app.specs.Convert.{EndsBytes}
use Rattle.ingest_app.proofs.Answering.{if_ok_map}
use Rattle.ingest_app.proofs.Converting.{of_bytes, too_long_is, whole_is}
use Rattle.ingest_app.proofs.conversions.convert_read.Goals as goal

pub returns-in-Whole-clause-status : goal.returns-in-Whole-clause-status
returns-in-Whole-clause-status c =
    if_ok_map _ _ c.convert_bytes.result (λ outcome h. of_bytes c.args.form c.in-Whole.bytes outcome.status outcome.text h) c.convert_bytes.ensures

pub returns-in-Whole-clause-ends : goal.returns-in-Whole-clause-ends
returns-in-Whole-clause-ends c =
    if_ok_map _ _ c.convert_bytes.result
    (λ outcome h left is. subst (λ b. EndsBytes c.args.form b outcome.status outcome.text) (sym (whole_is 268435456 left c.in-Whole.bytes (sym c.in-Whole.is ∙ is))) h) c.convert_bytes.ensures

pub returns-in-TooLong-clause-status : goal.returns-in-TooLong-clause-status
returns-in-TooLong-clause-status c = if_ok_map _ _ c.too_long.result (λ outcome is. rw is tt) c.too_long.ensures.status

pub returns-in-TooLong-clause-ends : goal.returns-in-TooLong-clause-ends
returns-in-TooLong-clause-ends c =
    if_ok_map _ _ c.too_long.result (λ outcome h left is. h left (too_long_is 268435456 left (sym c.in-TooLong.is ∙ is))) c.too_long.ensures.ends
