use Rattle.std.proofs.Common.{map, sym, subst, ap, ◌∙◌, List}
use Rattle.core_model.specs.Picture.{FamilyView, FileEntries}
use Rattle.st_base.specs.Levels.{levels_of}
use Rattle.st_version.specs.Held.{tables_of}
use Rattle.st_version.specs.Replace.{AreLevels, FitLevel}
use Rattle.st_version.proofs.Placed.{levels_replaced}
use Rattle.st_version.proofs.view.FamilyView.replace.Goals as goal

pub invariant_of-result : goal.invariant_of-result
invariant_of-result g c =
    let fit = subst (λ (family : FamilyView). FitLevel c.args.inputs.now c.args.level (tables_of c.args.outputs.now) family) (sym c.self.view_is) c.requires.fit in
    subst AreLevels (sym c.in_ok-changed_levels.ensures.levels)
    (levels_replaced c.args.inputs.now c.args.level (tables_of c.args.outputs.now) (map tables_of (levels_of c.self.inside.levels)) c.self.invariant c.in_ok-changed_levels.ensures.rows (λ le. fit.filled) fit.apart)
