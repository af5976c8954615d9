use Rattle.std.proofs.Common.{◌==◌, Some, find, option_map, sym, ap, ◌∙◌}
use Rattle.core_model.specs.Step.{noted_job}
use Rattle.st_core.specs.Shared.{jobs_shared}
use Rattle.st_core.proofs.Options.{copied_map, find_mapped}
use Rattle.st_core.proofs.machine.CoreOf.noted.Goals as goal

pub returns-in-Some : goal.returns-in-Some
returns-in-Some g c =
    ap Some c.deref.ensures ∙ (ap (option_map (λ job. job.now.value)) (sym c.in-Some.is)
    ∙ (copied_map (λ job. job.value) c.job_of.result ∙ (ap (option_map (λ job. job.value)) c.job_of.ensures
    ∙ (sym (find_mapped (λ job. job.value) (λ job. job.number == c.args.number) c.as_slice.result.now)
    ∙ (ap (λ jobs. find (λ job. job.number == c.args.number) (jobs_shared jobs)) c.as_slice.ensures.value ∙ ap (λ core. noted_job core c.args.number) c.self.view_is)))))

pub returns-in-None : goal.returns-in-None
returns-in-None g c =
    ap (option_map (λ job. job.now.value)) (sym c.in-None.is)
    ∙ (copied_map (λ job. job.value) c.job_of.result ∙ (ap (option_map (λ job. job.value)) c.job_of.ensures
    ∙ (sym (find_mapped (λ job. job.value) (λ job. job.number == c.args.number) c.as_slice.result.now)
    ∙ (ap (λ jobs. find (λ job. job.number == c.args.number) (jobs_shared jobs)) c.as_slice.ensures.value ∙ ap (λ core. noted_job core c.args.number) c.self.view_is))))
