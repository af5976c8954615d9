use Rattle.std.proofs.Common.{ℕ, List, [], ◌∷◌, ◌++◌, ap, length, ◌∙◌, arith}
use Rattle.std.proofs.lemmas.List.{length-append}
use Rattle.st_block.specs.Written.{written_block}
use Rattle.st_code.specs.Varint.{varint}
use Rattle.st_table.specs.Properties.{bytewise, comparator_name, entries_name}
use Rattle.table_writer.specs.Written.{Pair, kind_pairs}
use Rattle.st_table.proofs.Lengths.{varint_short}
use Rattle.table_writer.proofs.ending.properties_block.Goals as goal

pub returns : goal.returns
returns c =
    let one = c.in_ok-add_name.ensures.holds [] c.in_ok-writer.ensures.holds in
    let two = c.in_ok-add_kind.ensures.holds _ one in
    let three = c.in_ok-add_name-2.ensures.holds _ two in
    let interval = c.in_ok-add_name-2.ensures.interval ∙ c.in_ok-add_kind.ensures.interval ∙ c.in_ok-add_name.ensures.interval ∙ c.in_ok-writer.ensures.interval in
    let pairs : List ℕ → List Pair = λ count. (comparator_name, bytewise) ∷ kind_pairs c.args.kind ++ (entries_name, count) ∷ [] in
    c.in_ok-bytes.ensures.written (pairs c.as_slice.result.now) three
    ∙ ap (λ (i : ℕ). written_block i (pairs c.as_slice.result.now)) interval
    ∙ ap (λ (l : List ℕ). written_block 1 (pairs l)) (c.as_slice.ensures ∙ c.in_ok-push_varint.ensures.ok ∙ ap (λ (l : List ℕ). l ++ varint c.args.count) c.new-number.ensures)

pub add_name-requires-2 : goal.add_name-requires-2
add_name-requires-2 c =
    omega (arith, c.in_ok-add_kind.ensures.size, c.in_ok-add_name.ensures.size, ap length c.in_ok-writer.ensures.holds.entries, ap length c.in_ok-writer.ensures.holds.restarts, ap length c.as_slice.ensures, ap length c.in_ok-push_varint.ensures.ok, length-append c.new-number.result (varint c.args.count), ap length c.new-number.ensures, varint_short c.args.count)
