use Rattle.std.proofs.Common.{sym, ap, ◌∙◌}
use Rattle.core_model.specs.Pick.{least_unused}
use Rattle.st_core.specs.Shared.{jobs_shared}
use Rattle.st_core.proofs.Options.{map_length}
use Rattle.st_core.proofs.jobs.first_unused.Goals as goal

pub returns : goal.returns
returns g c = c.least_unused.ensures ∙ ap (λ tries. least_unused tries 1 (jobs_shared c.args.jobs.now)) (sym (map_length (λ job. job.value) c.args.jobs.now))
