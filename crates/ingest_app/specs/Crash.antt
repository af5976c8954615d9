-- What a crash leaves of a run.
use Rattle.std.specs.Prelude.{ℕ, ◌≡◌, ◌⊎◌, ◌≤◌, ◌+◌, ⊤, List, [], ◌∷◌}
use Rattle.st_device.specs.Disk.{Image, DiskTold}
use Rattle.st_model.specs.declared.command.Call.{Call}
use Rattle.st_model.specs.declared.refusal.Refusal.TheVariants.{DiskFault}
use Rattle.st_model.specs.declared.reply.Reply.TheVariants.{Refused}
use Rattle.st_model.specs.declared.state.ModelState.{ModelState}
use Rattle.st_model.specs.History.{after_call, all_calls, state_at}
use Rattle.st_model.specs.Places.{changes_in}
use Rattle.log_engine.specs.Engine.{OpensTo}

-- the state after all changes of the clients' transcripts
abbrev pub state_now : ModelState → List (List Call) → ModelState
state_now opening transcripts = state_at opening transcripts (changes_in transcripts)

-- the image opens to the contents after the first changes, at least so many
pub record IsAfterFirst (opening : ModelState) (transcripts : List (List Call)) (least : ℕ) (image : Image) : Type 0 where
  pub count : ℕ
  pub at_least : least ≤ count
  pub within : count ≤ changes_in transcripts
  pub opens : OpensTo (state_at opening transcripts count) image

-- the call is one of these
abbrev pub IsAmong : Call → List Call → Type 0
IsAmong call [] = ⊥
IsAmong call (other ∷ others) = (other ≡ call) ⊎ IsAmong call others

-- a change was cut off by a disk fault, and the image opens to the contents after the changes before it and this one
pub record IsWithCutOff (opening : ModelState) (transcripts : List (List Call)) (image : Image) : Type 0 where
  pub call : Call
  pub among : IsAmong call (all_calls transcripts)
  pub refused : call.reply ≡ Refused DiskFault
  pub opens : OpensTo (after_call (state_at opening transcripts call.place) call) image

-- the image opens to the contents after the first changes, at least so many, or to those with the change that was cut off
abbrev pub IsOfRun : ModelState → List (List Call) → ℕ → Image → Type 0
IsOfRun opening transcripts least image =
    IsAfterFirst opening transcripts least image ⊎ IsWithCutOff opening transcripts image

-- moments of a disk between two others, none before the one in front of it
abbrev pub AreMoments : ℕ → ℕ → List ℕ → Type 0
AreMoments from until [] = from ≤ until
AreMoments from until (moment ∷ moments) = (from ≤ moment) × AreMoments moment until moments

-- each change has a moment from which on no image lacks it, or one before it; so many stand before these
abbrev pub AreKept : ModelState → List (List Call) → DiskTold → ℕ → List ℕ → Type 0
AreKept opening transcripts disk before [] = ⊤
AreKept opening transcripts disk before (moment ∷ moments) =
    ((image : Image) → disk.since moment image → IsOfRun opening transcripts (before + 1) image)
    × AreKept opening transcripts disk (before + 1) moments
