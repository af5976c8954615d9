-- The places that transcripts print.
use Rattle.std.specs.Prelude.{ℕ, ◌≡◌, ◌+◌, ◌<◌, ◌≤◌, length, List, [], ◌∷◌, map, MatchBool, ⊤}
use Rattle.st_model.specs.declared.command.Call.{Call}
use Rattle.st_model.specs.History.{is_change, all_calls, accepted, accepted_calls}

-- how many changes were accepted
abbrev pub changes_in : List (List Call) → ℕ
changes_in transcripts = length (accepted (all_calls transcripts))

-- each place is one above the place before it, and the first above `before`
abbrev pub ArePlacesNext : ℕ → List ℕ → Type 0
ArePlacesNext before [] = ⊤
ArePlacesNext before (place ∷ places) = (place ≡ before + 1) × ArePlacesNext place places

-- the accepted changes have the places from 1 on, each once
abbrev pub ArePlacesOnce : List (List Call) → Type 0
ArePlacesOnce transcripts = ArePlacesNext 0 (map (λ call. call.place) (accepted_calls transcripts))

-- along a transcript places never fall, and a change has a greater one than what stands before it
abbrev pub IsInOrder : ℕ → List Call → Type 0
IsInOrder before [] = ⊤
IsInOrder before (call ∷ calls) =
    MatchBool (is_change call.reply) (before < call.place) (before ≤ call.place) × IsInOrder call.place calls
