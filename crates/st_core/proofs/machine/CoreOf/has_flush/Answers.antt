use Rattle.std.proofs.Common.{◌==◌, ap, ap₂, ◌∙◌}
use Rattle.std.specs.Prelude.{◌&&◌}
use Rattle.std.specs.List.{list_any}
use Rattle.core_model.specs.Picture.{is_flush}
use Rattle.core_model.specs.Step.{has_flush}
use Rattle.st_core.specs.Shared.{jobs_shared}
use Rattle.st_core.proofs.Flushes.{any_filtered}
use Rattle.st_core.proofs.Options.{any_mapped}
use Rattle.st_core.proofs.machine.CoreOf.has_flush.Goals as goal

pub returns : goal.returns
returns g c =
    c.has_flush_of.ensures
    ∙ (ap₂ (λ jobs id. list_any (λ job. job.value.family == id && is_flush job.value) jobs) c.as_slice.ensures.value c.id.ensures
    ∙ (any_mapped (λ job. job.value) (λ job. job.family == c.args.family.now.id && is_flush job) c.self.inside.jobs.items
    ∙ (any_filtered (λ job. job.family == c.args.family.now.id) is_flush (jobs_shared c.self.inside.jobs.items) ∙ ap (λ core. has_flush core c.args.family.now) c.self.view_is)))
