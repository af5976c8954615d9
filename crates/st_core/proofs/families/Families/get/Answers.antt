use Rattle.std.proofs.Common.{Some, option_map, sym, ap, ◌∙◌}
use Rattle.std.specs.BTreeMap.{is_at}
use Rattle.st_base.specs.Bytes.{bytes_cmp}
use Rattle.st_core.proofs.Options.{found_seen}
use Rattle.st_core.proofs.families.Families.get.Goals as goal

pub returns-in-Some : goal.returns-in-Some
returns-in-Some g c =
    ap Some c.deref.ensures ∙ (ap (option_map (λ one. one.now.value)) (sym c.in-Some.is)
    ∙ found_seen (λ shared. shared.value) (is_at (bytes_cmp c.args.name.now)) c.self.inside.by_name.entries c.args.self.now c.get.result c.self.view_is c.get.ensures.value)

pub returns-in-None : goal.returns-in-None
returns-in-None g c =
    ap (option_map (λ one. one.now.value)) (sym c.in-None.is)
    ∙ found_seen (λ shared. shared.value) (is_at (bytes_cmp c.args.name.now)) c.self.inside.by_name.entries c.args.self.now c.get.result c.self.view_is c.get.ensures.value
