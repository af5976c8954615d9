use Rattle.std.proofs.Common.{ℕ, List, [], ◌∷◌, ap, length, ◌∙◌, arith}
use Rattle.st_block.specs.Written.{written_block}
use Rattle.st_table.specs.Metaindex.{properties_name}
use Rattle.table_writer.specs.Written.{Pair}
use Rattle.st_table.proofs.Lengths.{handle_short}
use Rattle.table_writer.proofs.ending.metaindex_block.Goals as goal

pub add_name-requires : goal.add_name-requires
add_name-requires c =
    omega (arith, ap length c.in_ok-writer.ensures.holds.entries, ap length c.in_ok-writer.ensures.holds.restarts, handle_short c.args.properties, ap length c.as_slice.ensures, ap length c.in_ok-handle.ensures)

pub returns : goal.returns
returns c =
    let one = c.in_ok-add_name.ensures.holds [] c.in_ok-writer.ensures.holds in
    let pairs : List ℕ → List Pair = λ handle. (properties_name, handle) ∷ [] in
    c.in_ok-bytes.ensures.written (pairs c.as_slice.result.now) one
    ∙ ap (λ (i : ℕ). written_block i (pairs c.as_slice.result.now)) (c.in_ok-add_name.ensures.interval ∙ c.in_ok-writer.ensures.interval)
    ∙ ap (λ (l : List ℕ). written_block 1 (pairs l)) (c.as_slice.ensures ∙ c.in_ok-handle.ensures)
