use Rattle.std.proofs.Common.{◌≡◌, ◌==◌, List, [], ◌∷◌, ℕ, true, Some, None, find, option_map, sym, ap, subst, ◌∙◌}
use Rattle.std.specs.Option.{option_copied}
use Rattle.std.specs.Prelude.{IfSome, IsTrue}
use Rattle.st_base.specs.Map.{changed_at, value_at}
use Rattle.core_model.specs.Compaction.{with_flushed}
use Rattle.core_model.specs.Event.{FlushInstalled}
use Rattle.core_model.specs.Picture.{FamilyView, Job, is_flush}
use Rattle.core_model.specs.Run.{IsCoreStep}
use Rattle.core_model.specs.Step.{AreOutputs, Installs, noted_job, without_job}
use Rattle.st_core.proofs.InstalledJobs.{both_ok, flush_step, installs_gone, installs_there}
use Rattle.st_core.proofs.machine.CoreOf.prepare_flush_installed.Goals as goal

pub returns-in_default-family_of : goal.returns-in_default-family_of
returns-in_default-family_of g c =
    let found : noted_job c.args.self.now c.args.number ≡ Some c.in-Some.job.now = sym c.noted.ensures ∙ ap option_copied c.in-Some.is in
    let flush : is_flush c.in-Some.job.now ≡ true = cc (c.is_flush.ensures, c.if-not-is_flush.false) in
    let asked = subst (λ there. IfSome there (λ (job : Job). IsTrue (is_flush job) → AreOutputs c.args.self.now job (c.args.output.now.value.table ∷ []))) found c.requires in
    let gone : find (λ (one : List ℕ × FamilyView). one.1.id == c.in-Some.job.now.family) c.args.self.now.families ≡ None =
    sym (ap (λ id. find (λ (one : List ℕ × FamilyView). one.1.id == id) c.args.self.now.families) c.family-id.ensures)
    ∙ (sym c.family_of.ensures.found ∙ ap (option_map {U = List ℕ × FamilyView} (λ pair. (pair.0.now, pair.1.now))) c.in_default-family_of.is) in
    both_ok c.gone.result _ _ (λ step. IsCoreStep c.args.self.now (FlushInstalled c.args.number c.args.output.now.value.table) step.reply step.next)
    (λ step reply next. flush_step c.args.self.now step.next c.args.number c.args.output.now.value.table c.in-Some.job.now step.reply found flush (asked flush)
    (subst (λ answer. Installs c.args.self.now c.in-Some.job.now (with_flushed c.args.output.now.value.table) answer step.next) (sym reply)
    (installs_gone c.args.self.now step.next c.in-Some.job.now (with_flushed c.args.output.now.value.table) gone
    (next ∙ ap (λ number. record c.args.self.now { jobs = without_job number c.args.self.now.jobs }) c.number-its.ensures))))
    c.gone.ensures.reply c.gone.ensures.next

pub returns : goal.returns
returns g c =
    let found : noted_job c.args.self.now c.args.number ≡ Some c.in-Some.job.now = sym c.noted.ensures ∙ ap option_copied c.in-Some.is in
    let flush : is_flush c.in-Some.job.now ≡ true = cc (c.is_flush.ensures, c.if-not-is_flush.false) in
    let asked = subst (λ there. IfSome there (λ (job : Job). IsTrue (is_flush job) → AreOutputs c.args.self.now job (c.args.output.now.value.table ∷ []))) found c.requires in
    let there : find (λ (one : List ℕ × FamilyView). one.1.id == c.in-Some.job.now.family) c.args.self.now.families ≡ Some (c.in-Some-family_of.name.now, c.in-Some-family_of.family.now) =
    sym (ap (λ id. find (λ (one : List ℕ × FamilyView). one.1.id == id) c.args.self.now.families) c.family-id.ensures)
    ∙ (sym c.family_of.ensures.found ∙ ap (option_map {U = List ℕ × FamilyView} (λ pair. (pair.0.now, pair.1.now))) c.in-Some-family_of.is) in
    let change : FamilyView → FamilyView = with_flushed c.args.output.now.value.table in
    let makes : IfSome (value_at c.args.self.now.families c.in-Some-family_of.name.now) (λ family. c.in_ok-view.view.value ≡ change family) =
    subst (λ named. IfSome named (λ family. c.in_ok-view.view.value ≡ change family)) (sym c.in-Some-family_of.ensures.value) (c.in_ok-view.ensures.ok ∙ c.in_ok-with_flushed.ensures) in
    both_ok c.installed.result _ _ (λ step. IsCoreStep c.args.self.now (FlushInstalled c.args.number c.args.output.now.value.table) step.reply step.next)
    (λ step reply next. flush_step c.args.self.now step.next c.args.number c.args.output.now.value.table c.in-Some.job.now step.reply found flush (asked flush)
    (subst (λ answer. Installs c.args.self.now c.in-Some.job.now change answer step.next) (sym reply)
    (installs_there c.args.self.now step.next c.in-Some.job.now change (c.in-Some-family_of.name.now, c.in-Some-family_of.family.now) there
    (next change makes ∙ ap (λ number. record c.args.self.now { families = changed_at c.args.self.now.families c.in-Some-family_of.name.now change; jobs = without_job number c.args.self.now.jobs }) c.number-its.ensures))))
    c.installed.ensures.reply c.installed.ensures.next
