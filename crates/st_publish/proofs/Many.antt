-- Whether a stop was noted, behind more entries.
use Rattle.std.proofs.Common.{◌≡◌, ℕ, List, [], ◌∷◌, ◌++◌, map, true, refl}
use Rattle.st_model.specs.declared.change.Change.{Change}
use Rattle.st_publish.specs.declared.entry.Accepted.{Accepted}
use Rattle.st_publish.specs.declared.entry.HistoryEntry.{HistoryEntry}
use Rattle.st_publish.specs.declared.entry.HistoryEntry.TheVariants.{Opened, Made, Stopped}
use Rattle.st_publish.specs.History.{has_stop, made}

-- one more change notes none
pub stop_kept : (log : List HistoryEntry) (one : Accepted) → has_stop (log ++ Made one ∷ []) ≡ has_stop log
stop_kept [] one = refl
stop_kept (Opened s ∷ log) one = stop_kept log one
stop_kept (Made other ∷ log) one = stop_kept log one
stop_kept (Stopped ∷ log) one = refl

-- a stop does
pub stop_noted : (log : List HistoryEntry) → has_stop (log ++ Stopped ∷ []) ≡ true
stop_noted [] = refl
stop_noted (Opened s ∷ log) = stop_noted log
stop_noted (Made other ∷ log) = stop_noted log
stop_noted (Stopped ∷ log) = refl

-- several changes note none
module _ {X : Type 0} (change : X → Change) (files : X → List ℕ) where
  abbrev made_of : ℕ × X → HistoryEntry
  made_of p = made p.0 (change p.1) (files p.1)

  stop_made : (items : List (ℕ × X)) → has_stop (map made_of items) ≡ has_stop []
  stop_made [] = refl
  stop_made (p ∷ ps) = stop_made ps

  pub stop_before : (log : List HistoryEntry) (items : List (ℕ × X)) → has_stop (log ++ map made_of items) ≡ has_stop log
  stop_before [] items = stop_made items
  stop_before (Opened s ∷ log) items = stop_before log items
  stop_before (Made one ∷ log) items = stop_before log items
  stop_before (Stopped ∷ log) items = refl
