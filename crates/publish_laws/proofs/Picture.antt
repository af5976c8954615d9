-- What standing in a history means, by pictures of the model.
use Rattle.std.proofs.Common.{◌≡◌, ◌<◌, List, [], ◌∷◌, ◌++◌, length, map, refl, sym, ◌∙◌, ap, arith}
use Rattle.core_laws.proofs.StateContents.{state_has_contents, state_is_opened}
use Rattle.core_model.specs.StatePicture.{CoreRepresentsState, StatePicture}
use Rattle.st_model.specs.Apply.{apply, apply_all}
use Rattle.st_model.specs.declared.state.ModelState.{ModelState}
use Rattle.publish_laws.specs.Claims.{AcceptedApplies, BeginsOpened, ContentsAreTheModels, CoreStands, PlaceCounts, StandingIsPicture}
use Rattle.st_publish.specs.declared.entry.Accepted.{Accepted}
use Rattle.st_publish.specs.declared.entry.HistoryEntry.{HistoryEntry}
use Rattle.st_publish.specs.declared.entry.HistoryEntry.TheVariants.{Opened, Made, Stopped}
use Rattle.st_publish.specs.History.{changes_of, made, model_after, begun_with}
use Rattle.st_publish.specs.Standing.{first_state, state_after}
use Rattle.st_publish.proofs.Adding.{changes_of-append}
use Rattle.st_publish.proofs.Meaning.{is_picture, place_counts}

pub standing : StandingIsPicture
standing history picture place = is_picture history picture place

pub counts : PlaceCounts
counts history picture place h = place_counts history (picture, place) h

pub models_contents : ContentsAreTheModels
models_contents history picture place h =
    state_has_contents picture place (model_after history) ((is_picture history picture place).0 h)

state_stands : CoreRepresentsState
state_stands core state stands = record {
  same = record {
    at = stands.same.place;
    last = stands.same.last;
    charge = stands.same.charge;
    behind = stands.same.behind;
    families = stands.same.families;
    live = stands.same.live;
  };
  reads = stands.reads;
  falls = stands.falls;
  within = stands.within;
  apart = stands.apart;
  ranges = stands.ranges;
  marks = stands.marks;
  known = stands.known;
  written = stands.written;
  views = stands.views;
  sound = stands.sound;
}

pub core_stands : CoreStands
core_stands history core h = (is_picture history _ _).1 (state_stands core (model_after history) h)

pub begins_opened : BeginsOpened
begins_opened core state first h = sym (state_is_opened core state first h)

opening_stays : (history : List HistoryEntry) (entry : HistoryEntry) → 0 < length history → begun_with (history ++ entry ∷ []) ≡ begun_with history
opening_stays [] entry some = absurd (omega arith)
opening_stays (Opened state ∷ history) entry some = refl
opening_stays (Made one ∷ history) entry some = refl
opening_stays (Stopped ∷ history) entry some = refl

after_more : (state : ModelState) (accepted : List Accepted) (one : Accepted)
    → apply_all state (map (λ (a : Accepted). a.change) (accepted ++ one ∷ [])) ≡ apply (apply_all state (map (λ (a : Accepted). a.change) accepted)) one.change
after_more state [] one = refl
after_more state (other ∷ accepted) one = after_more (apply state other.change) accepted one

pub applies : AcceptedApplies
applies history seat change files some =
    let one : Accepted = record { seat = seat; change = change; files = files } in
    let more = changes_of-append history (made seat change files ∷ []) in
    ap (λ (first : StatePicture). state_after first (changes_of (history ++ made seat change files ∷ []))) (opening_stays history (made seat change files) some)
    ∙ (ap (λ (accepted : List Accepted). state_after (begun_with history) accepted) more ∙ after_more (first_state (begun_with history)) (changes_of history) one)
