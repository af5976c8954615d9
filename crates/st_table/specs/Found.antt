-- What the code finds under a name.
use Rattle.std.specs.Prelude.{ℕ, List}
use Rattle.st_table.specs.declared.metaindex.NamedValue.{NamedValue}

-- where it begins in its block, and the value
abbrev pub found_of : NamedValue → ℕ × List ℕ
found_of found = (found.at, found.value.now)
