use Rattle.std.proofs.Common.{◌≤◌, ◌∙◌, ap, subst, length, map, List, ℕ}
use Rattle.st_manifest.specs.Edit.{as_edit}
use Rattle.st_manifest.specs.Laid.{numbered_bodies}
use Rattle.st_manifest.proofs.Groups.{group_made}
use Rattle.st_manifest.proofs.group.Group.new.Goals as goal

pub invariant_of-result : goal.invariant_of-result
invariant_of-result c = (group_made (map as_edit c.args.edits.now) c.in_ok-bodies.bodies c.in_ok-payloads.payloads c.requires.fits c.requires.last c.in_ok-bodies.ensures
    (c.in_ok-payloads.ensures.payloads ∙ ap (λ (l : List (List ℕ)). numbered_bodies l) c.as_slice.ensures) (subst (λ (l : List (List ℕ)). length l ≤ 4294967295) c.as_slice.ensures c.in_ok-payloads.ensures.few)).0

pub returns : goal.returns
returns c = (group_made (map as_edit c.args.edits.now) c.in_ok-bodies.bodies c.in_ok-payloads.payloads c.requires.fits c.requires.last c.in_ok-bodies.ensures
    (c.in_ok-payloads.ensures.payloads ∙ ap (λ (l : List (List ℕ)). numbered_bodies l) c.as_slice.ensures) (subst (λ (l : List (List ℕ)). length l ≤ 4294967295) c.as_slice.ensures c.in_ok-payloads.ensures.few)).1
