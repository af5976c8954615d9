-- A scan under way.
use Rattle.std.specs.Prelude.{List, ◌++◌}
use Rattle.st_base.specs.declared.entry.Entry.{Entry}
use Rattle.st_merge.specs.Scan.{KeyValue, cut_pairs, live_behind}
use Rattle.st_order.specs.Order.{between}
use Rattle.st_merge.specs.declared.reader.Reader.{Reader}

-- all pairs in the end, where these entries are to come
abbrev pub read_all : Reader → List Entry → List KeyValue
read_all reader entries =
    reader.pairs.items ++ cut_pairs reader.room reader.bytes
    (live_behind (between reader.first.now reader.last.now) reader.number reader.before entries)
