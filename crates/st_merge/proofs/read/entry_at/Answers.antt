use Rattle.std.proofs.Common.{List, [], map, ap, ◌∙◌, arith}
use Rattle.std.specs.Prelude.{slice_get}
use Rattle.std.proofs.lemmas.List.{length-map}
use Rattle.st_base.specs.Rows.{entry_of}
use Rattle.st_base.specs.declared.entry.Entry.{Entry}
use Rattle.st_order.proofs.Mapped.{mapped_there}
use Rattle.st_merge.proofs.Spots.{some_part, index_of, fits_at}
use Rattle.st_merge.proofs.read.entry_at.Goals as goal

pub offset_bounds-parts-entry_index : goal.offset_bounds-parts-entry_index
offset_bounds-parts-entry_index g c = let lt = some_part (map g.T.Rows.rows c.args.parts.now) c.args.entry_index.part c.args.entry_index.index c.requires in omega (arith, lt, length-map c.args.parts.now g.T.Rows.rows)

pub bounds-parts-entry_index : goal.bounds-parts-entry_index
bounds-parts-entry_index g c = let lt = some_part (map g.T.Rows.rows c.args.parts.now) c.args.entry_index.part c.args.entry_index.index c.requires in omega (arith, lt, length-map c.args.parts.now g.T.Rows.rows)

pub at-requires : goal.at-requires
at-requires g c =
    let lt = some_part (map g.T.Rows.rows c.args.parts.now) c.args.entry_index.part c.args.entry_index.index c.requires in
    index_of (map g.T.Rows.rows c.args.parts.now) c.args.entry_index.part c.args.entry_index.index (g.T.Rows.rows c.index-parts-entry_index.result)
    (mapped_there g.T.Rows.rows c.args.parts.now c.args.entry_index.part c.index-parts-entry_index.result [] (omega (arith, lt, length-map c.args.parts.now g.T.Rows.rows)) c.index-parts-entry_index.is) c.requires

pub returns : goal.returns
returns g c =
    let lt = some_part (map g.T.Rows.rows c.args.parts.now) c.args.entry_index.part c.args.entry_index.index c.requires in
    record {
      value = ap (λ (entries : List Entry). slice_get entries c.args.entry_index.index)
          (mapped_there g.T.Rows.rows c.args.parts.now c.args.entry_index.part c.index-parts-entry_index.result [] (omega (arith, lt, length-map c.args.parts.now g.T.Rows.rows)) c.index-parts-entry_index.is) ∙ c.at.ensures;
      fits = fits_at (g.T.Rows.rows c.index-parts-entry_index.result) c.args.entry_index.index (entry_of c.at.result) c.len-length.ensures.rows c.at.ensures;
    }
