use Rattle.std.proofs.Common.{option_map, ap, ◌∙◌}
use Rattle.st_core.proofs.Flushes.{last_is, last_mapped}
use Rattle.st_core.proofs.Options.{copied_map}
use Rattle.st_core.proofs.flush.oldest_of.Goals as goal

pub returns : goal.returns
returns c =
    copied_map (λ mem. mem.value.entries) c.last.result
    ∙ (ap (option_map (λ mem. mem.value.entries)) (c.last.ensures.value ∙ last_is c.args.sealed.now) ∙ last_mapped (λ mem. mem.value.entries) c.args.sealed.now)
