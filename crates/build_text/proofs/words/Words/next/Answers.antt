use Rattle.std.proofs.Common.{◌∙◌, sym}
use Rattle.build_text.proofs.words.Words.next.Goals as goal

pub returns-in-None : goal.returns-in-None
returns-in-None c =
    let left = rw c.in_ok-line.was at c.self.view_is in
    sym left ∙ c.in-None.ensures.parts

pub returns-in-Some : goal.returns-in-Some
returns-in-Some c =
    let left = rw c.in_ok-line.was at c.self.view_is in
    sym left ∙ c.in-Some.ensures.parts
