use Rattle.std.proofs.Common.{◌==◌, not, rules, ap, ◌∙◌}
use Rattle.std.proofs.lemmas.Fn.{filter_same}
use Rattle.st_core.specs.Shared.{jobs_shared}
use Rattle.st_core.proofs.Options.{filter_mapped}
use Rattle.st_core.proofs.jobs.forget.Goals as goal

pub returns : goal.returns
returns g c =
    ap jobs_shared (filter_same _ (λ job. not (job.value.number == c.args.number)) _ (λ x b f' k. search rules) _ _ c.retain.ensures.filtered)
    ∙ filter_mapped (λ job. job.value) (λ job. not (job.number == c.args.number)) _
