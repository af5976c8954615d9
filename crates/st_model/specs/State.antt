-- What a state has, and the limits.
use Rattle.std.specs.Prelude.{ℕ, Bool, ◌≡◌, ◌&&◌, ◌==◌, ◌^◌, ◌-◌, List, [], ◌∷◌, if◌then◌else◌}
use Rattle.std.specs.Prelude.{Option, is_some}
use Rattle.std.specs.List.{list_any}
use Rattle.st_base.specs.Bytes.{same, default_family}
use Rattle.st_base.specs.Map.{value_at}
use Rattle.st_model.specs.declared.state.ModelFamily.{ModelFamily}
use Rattle.st_model.specs.declared.state.ModelState.{ModelState}
use Rattle.st_model.specs.declared.state.Snapshot.{Snapshot}

-- the greatest sequence number, and the greatest place
abbrev pub greatest_number : ℕ
greatest_number = 2 ^ 56 - 1

-- the family id that is never given
abbrev pub last_family_id : ℕ
last_family_id = 2 ^ 32 - 1

abbrev pub most_families : ℕ
most_families = 64

abbrev pub most_request_arguments : ℕ
most_request_arguments = 64

abbrev pub most_request_files : ℕ
most_request_files = 1024

abbrev pub most_snapshots : ℕ
most_snapshots = 1024

-- a scan ends with the pair with which its bytes reach this
abbrev pub most_scan_bytes : ℕ
most_scan_bytes = 1048576

-- a transcript of this many bytes answers reads `long`
abbrev pub long_transcript : ℕ
long_transcript = 16777216

-- the family of that name
abbrev pub family_of : ModelState → List ℕ → Option ModelFamily
family_of state name = value_at state.families name

abbrev pub has_family : ModelState → List ℕ → Bool
has_family state name = is_some (family_of state name)

-- the lowest level of files that aren't behind
abbrev pub lowest : ModelState → ℕ
lowest state = if state.behind then 5 else 6

-- whether the snapshot lives
abbrev pub lives : ModelState → Snapshot → Bool
lives state snapshot = list_any (λ live. live.id == snapshot.id && live.number == snapshot.number) state.live

-- whether the key was written, taken in, or found at the opening
abbrev pub is_known : ModelFamily → List ℕ → Bool
is_known family key = list_any (λ known. same known key) family.known

-- no key was ever there
abbrev pub new_family : ℕ → ModelFamily
new_family id = record { id = id; base = []; writes = []; ranges = []; known = [] }

-- the state at the opening of a new store: one family, `default`, and nothing in it
abbrev pub new_store : Bool → ModelState
new_store behind = record {
  place = 0;
  last = 0;
  charge = 0;
  behind = behind;
  families = (default_family, new_family 0) ∷ [];
  next_family = 1;
  live = [];
}

-- a state at which a run can begin: nothing has changed since the opening, and no snapshot lives
pub record IsOpening (state : ModelState) : Type 0 where
  pub place : state.place ≡ 0
  pub live : state.live ≡ []
