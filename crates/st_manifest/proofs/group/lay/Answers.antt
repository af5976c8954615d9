use Rattle.std.proofs.Common.{map, arith}
use Rattle.st_manifest.specs.Edit.{as_edit}
use Rattle.st_manifest.proofs.Fits.{all_fit, edit_fits, fits_at}
use Rattle.st_manifest.proofs.Laying.{edit_small, laid_all, laid_goes_on, laid_start, map_length, rest_is}
use Rattle.st_manifest.proofs.group.lay.Goals as goal

pub loop-edit-init : goal.loop-edit-init
loop-edit-init c = laid_start (map as_edit c.args.edits.now) c.new-bodies.result c.new-body.result c.new-bodies.ensures c.new-body.ensures

pub loop-edit-preserved : goal.loop-edit-preserved
loop-edit-preserved c =
    let edits = c.args.edits.now in
    laid_goes_on (map as_edit edits) c.loop-edit.edit-index c.loop-edit.bodies c.loop-edit.body c.loop-edit.invariant (as_edit c.edit-item.result) (rest_is edits c.loop-edit.edit-index c.edit-item.result c.loop-edit-test.true c.edit-item.is)
    (edit_small (as_edit c.edit-item.result) (edit_fits (as_edit c.edit-item.result) (fits_at edits c.loop-edit.edit-index c.edit-item.result c.loop-edit-test.true c.edit-item.is c.requires.fits)))
    c.lay_edit.new.bodies _ c.in_ok-body.ensures.bodies c.in_ok-body.ensures.body

pub returns : goal.returns
returns c =
    let edits = c.args.edits.now in
    let size = map_length edits in
    laid_all (map as_edit edits) c.loop-edit.edit-index c.loop-edit.bodies c.push.new.self c.loop-edit.body c.loop-edit.invariant (omega (arith, size)) (all_fit (map as_edit edits) c.requires.fits) (let some = c.requires.some in omega (arith, size, some)) c.in_ok-push.ensures.ok
