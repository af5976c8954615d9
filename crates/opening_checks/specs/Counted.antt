-- The counted operations of a family.
use Rattle.std.specs.Prelude.{List, []}
use Rattle.st_base.specs.declared.entry.Entry.{Entry}
use Rattle.opening_checks.specs.declared.counted.Counted.{Counted}
use Rattle.opening_checks.specs.declared.counted.Counted.TheVariants.{Nothing, Run}

module _ {C : Type 0} (rows : C → List Entry) where
  -- none, or those of the run
  abbrev pub counted_rows : Counted C → List Entry
  counted_rows Nothing = []
  counted_rows (Run run) = rows run
