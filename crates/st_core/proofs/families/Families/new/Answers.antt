use Rattle.std.proofs.Common.{◌∙◌}
use Rattle.st_core.proofs.Named.{cloned_seen}
use Rattle.st_core.proofs.families.Families.new.Goals as goal

pub returns : goal.returns
returns g c = cloned_seen (λ shared. shared.value) _ _ (λ a b h. h) (λ x y h. h) c.families.result.now.entries _ c.in_ok-clone.ensures.cases ∙ c.families.ensures
