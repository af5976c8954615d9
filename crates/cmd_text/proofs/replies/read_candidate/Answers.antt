use Rattle.std.proofs.Common.{◌≡◌, ◌∷◌, ◌∙◌, ap}
use Rattle.std.specs.Fmt.{decimal}
use Rattle.std.specs.List.{join_with_byte}
use Rattle.st_model.specs.Line.{reply_words}
use Rattle.cmd_text.specs.Readings.{place_and_reply_of}
use Rattle.cmd_text.proofs.InForm.{in_form}
use Rattle.cmd_text.proofs.ReadBack.{given_back, line_back}
use Rattle.cmd_text.proofs.ReplyWords.{line_words}
use Rattle.cmd_text.proofs.replies.read_candidate.Goals as goal

pub returns-clause-whole : goal.returns-clause-whole
returns-clause-whole c = λ place reply small is e.
    let line = join_with_byte 32 (decimal place ∷ reply_words reply) in
    let text = rw c.in_ok-text.ensures.ok_part at (c.without_last.ensures line 10 e) in
    let same : c.in_ok-text.text.now ≡ line = cc in
    given_back c.read_line_words.result (place, reply) _ c.read_line_words.ensures
    (ap place_and_reply_of (c.new.ensures ∙ line_words place reply c.in_ok-text.text.now small is same) ∙ line_back place reply small is)

pub returns-clause-form : goal.returns-clause-form
returns-clause-form c = in_form c.read_line_words.result _ c.read_line_words.ensures
