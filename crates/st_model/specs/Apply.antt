-- The state after a change.
use Rattle.std.specs.Prelude.{ℕ, Bool, true, not, ◌||◌, ◌+◌, ◌==◌, ◌<◌, ◌^◌, IsTrue, length, List, [], ◌∷◌, ◌++◌}
use Rattle.std.specs.Prelude.{filter, fold, sum_by, if◌then◌else◌}
use Rattle.std.specs.Prelude.{is_some}
use Rattle.std.specs.List.{list_any}
use Rattle.st_base.specs.Entries.{entry_charge, add_charge}
use Rattle.st_base.specs.Range.{keys_of, has_key, under_number, range_of, file_charge}
use Rattle.st_base.specs.Map.{value_at, set_at, without, changed_at}
use Rattle.st_base.specs.declared.entry.Mark.{Mark}
use Rattle.st_base.specs.declared.entry.Mark.TheVariants.{Put, Gone}
use Rattle.st_base.specs.declared.entry.Entry.{Entry}
use Rattle.st_model.specs.declared.change.Op.{Op}
use Rattle.st_model.specs.declared.change.Op.TheVariants.{Put as OpPut, Del as OpDel}
use Rattle.st_model.specs.declared.change.Taken.{Taken}
use Rattle.st_model.specs.declared.change.Change.{Change}
use Rattle.st_model.specs.declared.change.Change.TheVariants.{Write, Snap, Release, Make, Drop, Ingest}
use Rattle.st_model.specs.declared.state.ModelFamily.{ModelFamily}
use Rattle.st_model.specs.declared.state.ModelState.{ModelState}
use Rattle.st_model.specs.State.{has_family, new_family}

-- ---- one operation of a write

abbrev pub op_family : Op → List ℕ
op_family (OpPut family key value) = family
op_family (OpDel family key) = family

abbrev pub op_key : Op → List ℕ
op_key (OpPut family key value) = key
op_key (OpDel family key) = key

abbrev pub op_mark : Op → Mark
op_mark (OpPut family key value) = Put value
op_mark (OpDel family key) = Gone

abbrev pub op_entry : ℕ → Op → Entry
op_entry number op = record { key = op_key op; number = number; mark = op_mark op }

-- what a write counts against the capacity
abbrev pub write_charge : List Op → ℕ
write_charge ops = sum_by (λ op. entry_charge (op_key op) (op_mark op)) ops

-- the family with one more write
abbrev pub with_write : Entry → ModelFamily → ModelFamily
with_write entry family = record family { writes = family.writes ++ entry ∷ []; known = family.known ++ entry.key ∷ [] }

-- the families after the operations, of which the first takes the number after `last`
abbrev pub with_ops : ℕ → List Op → List (List ℕ × ModelFamily) → List (List ℕ × ModelFamily)
with_ops last [] families = families
with_ops last (op ∷ ops) families =
    with_ops (last + 1) ops (changed_at families (op_family op) (with_write (op_entry (last + 1) op)))

-- ---- one file of a request

-- the base with these marks
abbrev pub with_marks : List (List ℕ × Mark) → List Entry → List (List ℕ × Mark)
with_marks base entries = fold (λ marks entry. set_at marks entry.key entry.mark) base entries

-- a numbered file's entries are writes under its number
abbrev pub with_numbered : ℕ → List Entry → ModelFamily → ModelFamily
with_numbered number entries family = record family { writes = family.writes ++ under_number number entries }

-- an early file's marks come below all snapshots and stand alone: the writes of its keys go
abbrev pub with_early : List Entry → ModelFamily → ModelFamily
with_early entries family = record family {
  base = with_marks family.base entries;
  writes = filter (λ write. not (has_key entries write.key)) family.writes;
}

-- a behind file's marks fill what the base lacks
abbrev pub with_behind : List Entry → ModelFamily → ModelFamily
with_behind entries family = record family {
  base = with_marks family.base (filter (λ entry. not (is_some (value_at family.base entry.key))) entries);
  ranges = family.ranges ++ range_of entries ∷ [];
}

abbrev pub with_taken_file : Taken → ModelFamily → ModelFamily
with_taken_file file family =
    if file.behind then with_behind file.entries family
    else (if file.number == 0 then with_early file.entries family else with_numbered file.number file.entries family)

-- the keys of the entries become known
abbrev pub with_known : List Entry → ModelFamily → ModelFamily
with_known entries family = record family { known = family.known ++ keys_of entries }

-- the number of a numbered file becomes the last one; a behind file has none
abbrev pub last_after : Taken → ℕ → ℕ
last_after file last = if (file.behind || file.number == 0) then last else file.number

abbrev pub apply_file : ModelState → Taken → ModelState
apply_file state file = record state {
  last = last_after file state.last;
  charge = add_charge state.charge (file_charge file.entries);
  families = changed_at state.families file.family (λ family. with_known file.entries (with_taken_file file family));
}

-- ---- a change

-- the place grows by one, and what the change says changes; the rest stays
abbrev pub apply : ModelState → Change → ModelState
apply state (Write batch) = record state {
  place = state.place + 1;
  last = state.last + length batch.ops;
  charge = add_charge state.charge (write_charge batch.ops);
  families = with_ops state.last batch.ops state.families;
}
apply state Snap = record state {
  place = state.place + 1;
  live = state.live ++ record { id = state.place + 1; number = state.last } ∷ [];
}
apply state (Release id) = record state {
  place = state.place + 1;
  live = filter (λ live. not (live.id == id)) state.live;
}
apply state (Make name) = record state {
  place = state.place + 1;
  families = set_at state.families name (new_family state.next_family);
  next_family = state.next_family + 1;
}
apply state (Drop name) = record state {
  place = state.place + 1;
  families = without state.families name;
}
apply state (Ingest files) = record (fold apply_file state files) { place = state.place + 1 }

-- the changes, one after the other
abbrev pub apply_all : ModelState → List Change → ModelState
apply_all state changes = fold apply state changes

-- ---- when a change can be applied

-- the families that it names are there, a made one isn't, a released snapshot lives
abbrev pub names_rightly : ModelState → Change → Bool
names_rightly state (Write batch) = not (list_any (λ op. not (has_family state (op_family op))) batch.ops)
names_rightly state Snap = true
names_rightly state (Release id) = list_any (λ live. live.id == id) state.live
names_rightly state (Make name) = not (has_family state name)
names_rightly state (Drop name) = has_family state name
names_rightly state (Ingest files) = not (list_any (λ file. not (has_family state file.family)) files)

-- what `apply` asks of its caller
pub record IsApplicable (state : ModelState) (change : Change) : Type 0 where
  pub names : IsTrue (names_rightly state change)
  pub place : (apply state change).place < 2 ^ 64
  pub last : (apply state change).last < 2 ^ 64
  pub next_family : (apply state change).next_family < 2 ^ 32
