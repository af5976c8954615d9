-- The rule of the history, and what its steps tell.
use Rattle.std.specs.Prelude.{ℕ, ◌≡◌, ◌==◌, true, List, [], ◌∷◌, ◌++◌, length, MatchBool}
use Rattle.logbook.specs.Pages.{Cell, Step, View, Book, Named}
use Rattle.st_publish.specs.declared.entry.HistoryEntry.{HistoryEntry}
use Rattle.st_publish.specs.History.{is_calm}

-- the first word is the length of the history, in which only quiet changes stand behind a stop
pub record IsCounted (cells : List Cell) (log : List HistoryEntry) : Type 0 where
  pub words : cells ≡ (length log, true) ∷ (0, true) ∷ []
  pub calm : is_calm log ≡ true

abbrev pub length_word_of : Book → Named
length_word_of b = record { tracked = true; key = 0; book = b }

-- the entry was added to all that had been seen, or nothing is said
abbrev pub AddsOne : Step HistoryEntry → View HistoryEntry ℕ → ℕ → View HistoryEntry ℕ → Type 0
AddsOne s v found w = MatchBool (found == s.old) (w.0 ≡ v.0 ++ s.ask ∷ []) (Unit {0})
