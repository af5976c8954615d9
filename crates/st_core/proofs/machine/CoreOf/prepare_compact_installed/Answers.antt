use Rattle.std.proofs.Common.{◌≡◌, ◌==◌, List, ℕ, false, Some, None, find, option_map, sym, ap, subst, ◌∙◌}
use Rattle.std.specs.Option.{option_copied}
use Rattle.std.specs.Prelude.{IfSome, IsFalse}
use Rattle.st_base.specs.Map.{changed_at, value_at}
use Rattle.core_model.specs.Compaction.{with_compacted}
use Rattle.core_model.specs.Event.{CompactInstalled}
use Rattle.core_model.specs.Picture.{FamilyView, Job, is_flush}
use Rattle.core_model.specs.Run.{IsCoreStep}
use Rattle.core_model.specs.Step.{AreOutputs, Installs, family_of_job, noted_job, without_job}
use Rattle.st_version.specs.Held.{tables_of}
use Rattle.st_version.specs.Replace.{FitLevel, replaced}
use Rattle.st_core.proofs.InstalledJobs.{both_ok, compact_step, installs_gone, installs_there, level_above}
use Rattle.st_core.proofs.machine.CoreOf.prepare_compact_installed.Goals as goal

pub returns-in_default-family_of : goal.returns-in_default-family_of
returns-in_default-family_of g c =
    let found : noted_job c.args.self.now c.args.number ≡ Some c.in-Some.job.now = sym c.noted.ensures ∙ ap option_copied c.in-Some.is in
    let flush : is_flush c.in-Some.job.now ≡ false = sym c.is_flush.ensures ∙ c.if-is_flush.false in
    let asked = subst (λ there. IfSome there (λ (job : Job). IsFalse (is_flush job) → AreOutputs c.args.self.now job (tables_of c.args.outputs.now) × IfSome (family_of_job c.args.self.now job) (λ named. FitLevel job.files job.level (tables_of c.args.outputs.now) named.1))) found c.requires in
    let gone : find (λ (one : List ℕ × FamilyView). one.1.id == c.in-Some.job.now.family) c.args.self.now.families ≡ None =
    sym (ap (λ id. find (λ (one : List ℕ × FamilyView). one.1.id == id) c.args.self.now.families) c.family-id.ensures)
    ∙ (sym c.family_of.ensures.found ∙ ap (option_map {U = List ℕ × FamilyView} (λ pair. (pair.0.now, pair.1.now))) c.in_default-family_of.is) in
    both_ok c.gone.result _ _ (λ step. IsCoreStep c.args.self.now (CompactInstalled c.args.number (tables_of c.args.outputs.now)) step.reply step.next)
    (λ step reply next. compact_step c.args.self.now step.next c.args.number (tables_of c.args.outputs.now) c.in-Some.job.now step.reply found flush (asked flush).0
    (subst (λ answer. Installs c.args.self.now c.in-Some.job.now (with_compacted c.in-Some.job.now (tables_of c.args.outputs.now)) answer step.next) (sym reply)
    (installs_gone c.args.self.now step.next c.in-Some.job.now (with_compacted c.in-Some.job.now (tables_of c.args.outputs.now)) gone
    (next ∙ ap (λ number. record c.args.self.now { jobs = without_job number c.args.self.now.jobs }) c.number-its.ensures))))
    c.gone.ensures.reply c.gone.ensures.next

pub replace-requires-clause-fit : goal.replace-requires-clause-fit
replace-requires-clause-fit g c =
    let found : noted_job c.args.self.now c.args.number ≡ Some c.in-Some.job.now = sym c.noted.ensures ∙ ap option_copied c.in-Some.is in
    let flush : is_flush c.in-Some.job.now ≡ false = sym c.is_flush.ensures ∙ c.if-is_flush.false in
    let asked = subst (λ there. IfSome there (λ (job : Job). IsFalse (is_flush job) → AreOutputs c.args.self.now job (tables_of c.args.outputs.now) × IfSome (family_of_job c.args.self.now job) (λ named. FitLevel job.files job.level (tables_of c.args.outputs.now) named.1))) found c.requires in
    let there : find (λ (one : List ℕ × FamilyView). one.1.id == c.in-Some.job.now.family) c.args.self.now.families ≡ Some (c.in-Some-family_of.name.now, c.in-Some-family_of.family.now) =
    sym (ap (λ id. find (λ (one : List ℕ × FamilyView). one.1.id == id) c.args.self.now.families) c.family-id.ensures)
    ∙ (sym c.family_of.ensures.found ∙ ap (option_map {U = List ℕ × FamilyView} (λ pair. (pair.0.now, pair.1.now))) c.in-Some-family_of.is) in
    rw (c.files.ensures, c.level.ensures.value)
    (subst (λ named. IfSome named (λ one. FitLevel c.in-Some.job.now.files c.in-Some.job.now.level (tables_of c.args.outputs.now) one.1)) there (asked flush).1)

pub returns : goal.returns
returns g c =
    let found : noted_job c.args.self.now c.args.number ≡ Some c.in-Some.job.now = sym c.noted.ensures ∙ ap option_copied c.in-Some.is in
    let flush : is_flush c.in-Some.job.now ≡ false = sym c.is_flush.ensures ∙ c.if-is_flush.false in
    let asked = subst (λ there. IfSome there (λ (job : Job). IsFalse (is_flush job) → AreOutputs c.args.self.now job (tables_of c.args.outputs.now) × IfSome (family_of_job c.args.self.now job) (λ named. FitLevel job.files job.level (tables_of c.args.outputs.now) named.1))) found c.requires in
    let there : find (λ (one : List ℕ × FamilyView). one.1.id == c.in-Some.job.now.family) c.args.self.now.families ≡ Some (c.in-Some-family_of.name.now, c.in-Some-family_of.family.now) =
    sym (ap (λ id. find (λ (one : List ℕ × FamilyView). one.1.id == id) c.args.self.now.families) c.family-id.ensures)
    ∙ (sym c.family_of.ensures.found ∙ ap (option_map {U = List ℕ × FamilyView} (λ pair. (pair.0.now, pair.1.now))) c.in-Some-family_of.is) in
    let change : FamilyView → FamilyView = with_compacted c.in-Some.job.now (tables_of c.args.outputs.now) in
    let placed : c.in_ok-next.next ≡ change c.in-Some-family_of.family.now =
    c.in_ok-next.ensures ∙ (ap (λ files. replaced files c.level.result (tables_of c.args.outputs.now) c.in-Some-family_of.family.now) c.files.ensures
    ∙ (ap (λ level. replaced c.in-Some.job.now.files level (tables_of c.args.outputs.now) c.in-Some-family_of.family.now) c.level.ensures.value
    ∙ c.replace_is_the_cores.ensures.compacted c.in-Some.job.now (tables_of c.args.outputs.now) c.in-Some-family_of.family.now (level_above c.in-Some.job.now.level flush))) in
    let makes : IfSome (value_at c.args.self.now.families c.in-Some-family_of.name.now) (λ family. c.in_ok-view.view.value ≡ change family) =
    subst (λ named. IfSome named (λ family. c.in_ok-view.view.value ≡ change family)) (sym c.in-Some-family_of.ensures.value) (c.in_ok-view.ensures.ok ∙ placed) in
    both_ok c.installed.result _ _ (λ step. IsCoreStep c.args.self.now (CompactInstalled c.args.number (tables_of c.args.outputs.now)) step.reply step.next)
    (λ step reply next. compact_step c.args.self.now step.next c.args.number (tables_of c.args.outputs.now) c.in-Some.job.now step.reply found flush (asked flush).0
    (subst (λ answer. Installs c.args.self.now c.in-Some.job.now change answer step.next) (sym reply)
    (installs_there c.args.self.now step.next c.in-Some.job.now change (c.in-Some-family_of.name.now, c.in-Some-family_of.family.now) there
    (next change makes ∙ ap (λ number. record c.args.self.now { families = changed_at c.args.self.now.families c.in-Some-family_of.name.now change; jobs = without_job number c.args.self.now.jobs }) c.number-its.ensures))))
    c.installed.ensures.reply c.installed.ensures.next
