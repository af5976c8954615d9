use Rattle.std.proofs.Common.{◌≡◌, IsTrue, Some, length, sym, ◌∙◌}
use Rattle.std.specs.Prelude.{◌↔◌}
use Rattle.std.proofs.lemmas.Result.{IfOk-weaker}
use Rattle.st_model.specs.declared.reply.Reply.TheVariants.{Refused}
use Rattle.st_model.specs.Asked.{names_files}
use Rattle.st_model.specs.Reply.{IsIngestReply}
use Rattle.st_model.specs.Request.{request_of}
use Rattle.plain_request.specs.Large.{large_refusal}
use Rattle.plain_reply.proofs.Large.{large_reply, few_arguments, few_files}
use Rattle.plain_reply.proofs.command.is_ingest.Goals as goal

pub returns-then-is_large : goal.returns-then-is_large
returns-then-is_large c =
    let large = large_reply c.args.state.now c.args.capacity c.args.arguments.now c.args.seen.now c.args.reply.now (sym c.is_large.ensures ∙ c.if-is_large.true) in
    IfOk-weaker c.is_large_reply.result
    (λ holds. IsTrue holds ↔ (c.args.reply.now ≡ Refused (large_refusal c.args.arguments.now)))
    (λ holds. IsTrue holds ↔ IsIngestReply c.args.state.now c.args.capacity (request_of c.args.arguments.now c.args.seen.now) c.args.reply.now)
    (λ holds same. ((λ t. large.1 (same.0 t)), (λ is. same.1 (large.0 is))))
    c.is_large_reply.ensures

pub request_of-requires-clause-arguments : goal.request_of-requires-clause-arguments
request_of-requires-clause-arguments c =
    few_arguments (length c.args.arguments.now) (names_files (Some c.args.arguments.now)) (sym c.is_large.ensures ∙ c.if-is_large.false)

pub request_of-requires-clause-files : goal.request_of-requires-clause-files
request_of-requires-clause-files c =
    few_files (length c.args.arguments.now) (names_files (Some c.args.arguments.now)) (sym c.is_large.ensures ∙ c.if-is_large.false)
