-- A compaction under way.
use Rattle.std.specs.Prelude.{ℕ, Bool, false, List, [], ◌∷◌, ◌++◌, if◌then◌else◌, Option, Some, None}
use Rattle.st_base.specs.Bytes.{same}
use Rattle.st_base.specs.declared.entry.Entry.{Entry}
use Rattle.st_base.specs.declared.entry.KeyRange.{KeyRange}
use Rattle.st_compact.specs.Cut.{rows_of}
use Rattle.st_compact.specs.Pass.{finished, pass_on}
use Rattle.st_compact.specs.declared.keeper.Keeper.{Keeper}

-- whether an entry of the key is held
abbrev pub stands_held : Option Entry → List ℕ → Bool
stands_held None key = false
stands_held (Some held) key = same held.key key

-- what becomes of the entry that is held: it stays where its key goes on
abbrev pub let_go : List KeyRange → Bool → Option Entry → List Entry
let_go drops goes_on None = []
let_go drops goes_on (Some held) = if goes_on then held ∷ [] else finished drops held

-- all that is left in the end, where these entries are to come
abbrev pub kept_in_all : Keeper → List Entry → List Entry
kept_in_all keeper rest =
    rows_of keeper.tables ++ pass_on keeper.live.now keeper.drops.now keeper.held keeper.before rest
