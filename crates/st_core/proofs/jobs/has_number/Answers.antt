use Rattle.std.proofs.Common.{◌==◌, ◌∙◌}
use Rattle.st_core.proofs.Options.{any_mapped}
use Rattle.st_core.proofs.jobs.has_number.Goals as goal

pub returns : goal.returns
returns g c = c.shares_number.ensures ∙ any_mapped (λ job. job.value) (λ job. job.number == c.args.number) c.args.jobs.now
