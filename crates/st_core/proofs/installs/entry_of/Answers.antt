use Rattle.std.proofs.Common.{◌==◌, List, ℕ, option_map, rules, tests, sym, ap, ◌∙◌}
use Rattle.std.proofs.lemmas.Iterator.Consumers.{YieldsList-from_rest}
use Rattle.std.proofs.lemmas.Iterator.Search.{find_from_yields_List}
use Rattle.core_model.specs.Picture.{FamilyView}
use Rattle.st_core.proofs.Options.{find_mapped, map_twice}
use Rattle.st_core.proofs.installs.entry_of.Goals as goal

pub returns : goal.returns
returns g c =
    let found = find_from_yields_List (λ named. named.1.value.id == c.args.id) _ _ c.find.result c.find.ensures.ran (YieldsList-from_rest c.args.families.now.entries c.iter.ensures.rest) (λ x b q k. search (rules, tests)) in
    sym (map_twice (λ x. (x.0.now, x.1.now)) (λ pair. (pair.0, pair.1.value)) c.find.result)
    ∙ (ap (option_map {U = List ℕ × FamilyView} (λ pair. (pair.0, pair.1.value))) found
    ∙ sym (find_mapped {Y = List ℕ × FamilyView} (λ pair. (pair.0, pair.1.value)) (λ named. named.1.id == c.args.id) c.args.families.now.entries))
