use Rattle.std.proofs.Common.{[], ◌∷◌, ap, ◌∙◌}
use Rattle.st_core.specs.Shared.{jobs_shared}
use Rattle.st_core.proofs.Options.{map_append}
use Rattle.st_core.proofs.jobs.push_job.Goals as goal

pub returns : goal.returns
returns g c = ap jobs_shared c.in_ok-push.ensures.items ∙ map_append (λ job. job.value) c.args.jobs.now.items (c.args.job ∷ [])
