use Rattle.std.proofs.Common.{◌≡◌, ◌==◌, List, ℕ, Some, None, option_map, find, sym, ap, ◌∙◌}
use Rattle.core_model.specs.Picture.{FamilyView}
use Rattle.st_version.specs.State.{named_views}
use Rattle.st_core.proofs.InstalledJobs.{names_apart, found_at_name}
use Rattle.st_core.proofs.installs.named_of.Goals as goal

pub returns-in-Some : goal.returns-in-Some
returns-in-Some g c =
    let one : List ℕ × FamilyView = (c.in-Some.name.now, c.deref.result.now) in
    let found : Some one ≡ find (λ (named : List ℕ × FamilyView). named.1.id == c.args.id) (named_views c.args.families.now.entries) =
    ap (λ (view : FamilyView). Some (c.in-Some.name.now, view)) c.deref.ensures ∙ (ap (option_map {U = List ℕ × FamilyView} (λ pair. (pair.0.now, pair.1.now.value))) (sym c.in-Some.is) ∙ c.entry_of.ensures) in
    record {
      found = found;
      value = found_at_name (λ named. named.1.id == c.args.id) (named_views c.args.families.now.entries) one (names_apart (λ shared. shared.value) c.args.families.now.entries c.len.ensures.ordered) (sym found);
    }

pub returns-in-None : goal.returns-in-None
returns-in-None g c = record { found = ap (option_map {U = List ℕ × FamilyView} (λ pair. (pair.0.now, pair.1.now.value))) (sym c.in-None.is) ∙ c.entry_of.ensures; value = tt }
