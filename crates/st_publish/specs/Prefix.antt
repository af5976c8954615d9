-- A beginning of a history, with the book that it is of.
use Rattle.std.specs.Prelude.{◌≡◌, ℕ, ◌<◌, List, [], length}
use mathlib.Core.List.{IsPrefix}
use mathlib.Core.Option.{some}
use lib.ListN.{get_elem?}
use Rattle.logbook.specs.Pages.{Book}
use Rattle.st_publish.specs.declared.entry.HistoryEntry.{HistoryEntry}

-- a history's first entries, and which history it is
pub record PrefixView : Type 0 where
  pub book : Book
  pub list : List HistoryEntry

-- what no reader has seen yet
abbrev pub unseen : PrefixView
unseen = record { book = record { number = 0; log_name = 0; cells_name = 0 }; list = [] }

-- one begins the other, if it has seen anything
abbrev pub GoesOn : PrefixView → PrefixView → Type 0
GoesOn one other = 0 < length one.list → (other.book ≡ one.book) × IsPrefix one.list other.list

-- what each reader and the writer saw begins what is published
abbrev pub AllBelow : PrefixView → List PrefixView → Type 0
AllBelow published views = (seat : ℕ) (view : PrefixView) → get_elem? views seat ≡ some view → GoesOn view published
