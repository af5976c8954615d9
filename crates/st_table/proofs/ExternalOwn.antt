-- An external table passes as an own one.
use Rattle.std.proofs.Common.{ℕ, List, [], ◌∷◌, refl, arith}
use Rattle.std.specs.List.{AllByRecursion}
use Rattle.st_base.specs.declared.entry.Entry.{Entry}
use Rattle.st_block.specs.Block.{Cell}
use Rattle.st_table.specs.IsTable.{IsEntry, IsTable, joined}
use Rattle.st_table.specs.declared.kind.TableKind.TheVariants.{External, Own}

fits : (cells : List Cell) → AllByRecursion (IsEntry External) cells → AllByRecursion (IsEntry Own) cells
fits [] h = tt
fits (cell ∷ cells) h = (record { kind_fits = h.0.kind_fits; number_fits = refl; size = h.0.size }, fits cells h.1)

pub external_own : (bytes : List ℕ) (entries : List Entry) → IsTable bytes External entries → IsTable bytes Own entries
external_own bytes entries is = (
  is.0,
  record {
    size = let small = is.1.size in omega arith;
    footer = is.1.footer;
    metaindex = is.1.metaindex;
    names = is.1.names;
    properties = is.1.properties;
    values = record { version = tt; comparator = is.1.values.comparator; index_type = is.1.values.index_type };
    index = is.1.index;
    data_blocks = is.1.data_blocks;
    fit = fits (joined is.0.data_blocks) is.1.fit;
    entries_are = is.1.entries_are;
    ordered = is.1.ordered;
  },
)
