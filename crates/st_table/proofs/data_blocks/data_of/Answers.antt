use Rattle.std.proofs.Common.{ℕ, List, [], sym, ap, subst, refl, ◌∙◌, arith}
use Rattle.st_base.specs.Rows.{AreRows}
use Rattle.st_base.specs.declared.entry.Entry.{Entry}
use Rattle.st_block.specs.Block.{Cell}
use Rattle.st_block.specs.BlockContents.{cells_at}
use Rattle.st_table.specs.DataBlocks.{with_blocks}
use Rattle.st_table.proofs.data_blocks.data_of.Goals as goal

pub loop-entry-init : goal.loop-entry-init
loop-entry-init c =
    let index = c.args.index.now in
    record {
      stands = c.start-offset.ensures.stands c.in_ok-scratch.scratch;
      rest =
          ap (λ (cells : List Cell). with_blocks c.args.kind c.args.bytes.now.value c.args.at index.end 0 [] cells []) (sym c.start-offset.ensures.value)
          ∙ ap (λ (before : List ℕ). with_blocks c.args.kind c.args.bytes.now.value c.args.at index.end 0 before (cells_at c.start-offset.result index.cells) []) (sym c.in_ok-before.ensures)
          ∙ ap (λ (entries : List Entry). with_blocks c.args.kind c.args.bytes.now.value c.args.at index.end 0 c.in_ok-before.before (cells_at c.start-offset.result index.cells) entries) (sym c.new-entries.ensures);
      rows = subst (λ (l : List Entry). AreRows l) (sym c.new-entries.ensures) (record { ordered = refl; within = tt });
      count = omega arith;
    }
