-- The contents of an image, as the list model has them.
use Rattle.std.specs.Prelude.{ℕ, ◌≡◌, Bool, List, [], ◌∷◌, map, Option, option_map, Result, Ok, Err}
use Rattle.std.specs.Result.{result_ok}
use Rattle.st_base.specs.Bytes.{default_family}
use Rattle.st_base.specs.declared.entry.Entry.{Entry}
use Rattle.st_base.specs.declared.entry.Mark.{Mark}
use Rattle.st_device.specs.Disk.{Image}
use Rattle.st_model.specs.declared.contents.Contents.{Contents}
use Rattle.st_model.specs.Contents.{as_entry, kept_marks, with_marks}
use Rattle.st_wal.specs.declared.logged.Logged.{Logged}
use Rattle.log_recover.specs.Opens.{Damage, last_number, opens}

abbrev pub logged_entry : Logged → Entry
logged_entry op = record { key = op.key; number = op.number; mark = op.mark }

-- the newest mark of each key
abbrev pub written_marks : List Logged → List (List ℕ × Mark)
written_marks ops = with_marks [] (map logged_entry ops)

-- the contents of a store with these operations, whose flag is that of the opening's options
abbrev pub contents_of : Bool → List Logged → Contents
contents_of behind ops = record {
  last = last_number 0 ops;
  behind = behind;
  families = record { id = 0; name = default_family; marks = map as_entry (kept_marks behind (written_marks ops)); ranges = [] } ∷ [];
}

-- the keys of these operations are known in `default`
abbrev pub known_of : List Logged → List (List (List ℕ))
known_of ops = map (λ op. op.key) ops ∷ []

-- the contents of a store, with the known keys of each of its families
pub record OpenedContents : Type 0 where
  pub contents : Contents
  pub known : List (List (List ℕ))

abbrev pub opened_contents : Bool → List Logged → OpenedContents
opened_contents behind ops = record { contents = contents_of behind ops; known = known_of ops }

abbrev pub opened_or_damage : Bool → Result (List Logged) Damage → Result OpenedContents Damage
opened_or_damage behind (Ok ops) = Ok (opened_contents behind ops)
opened_or_damage behind (Err damage) = Err damage

-- What an image opens to, under the flag of the opening's options: its contents with the keys that are known, or its damage.
abbrev pub disk_contents : Bool → Image → Result OpenedContents Damage
disk_contents behind image = opened_or_damage behind (opens image)

-- two images open to the same, whatever the flag
abbrev pub SameContents : Image → Image → Type 0
SameContents image other = (behind : Bool) → disk_contents behind image ≡ disk_contents behind other

-- the contents of an image; none, where it is damaged
abbrev pub contents_in : Bool → Image → Option Contents
contents_in behind image = option_map (λ (opened : OpenedContents). opened.contents) (result_ok (disk_contents behind image))
