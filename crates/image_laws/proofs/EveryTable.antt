-- The table of an opening, where memtables can be joined in one way; and an opening of an image with a counted operation.
use Rattle.std.specs.Prelude.{ℕ, Bool, true, false, ◌≡◌, refl, List, [], ◌∷◌, Option, Some, None, Ok, ◌==◌, IsTrue}
use Rattle.std.proofs.Common.{inl, arith, sym, ap, ◌∙◌, append-nil}
use Rattle.std.specs.List.{AllByRecursion as Each}
use Rattle.st_base.specs.Bytes.{default_family, below}
use Rattle.st_base.specs.declared.entry.Entry.{Entry}
use Rattle.st_base.specs.declared.entry.Mark.TheVariants.{Put}
use Rattle.core_model.specs.Event.{Crashed}
use Rattle.core_model.specs.declared.reply.CoreReply.TheVariants.{Done}
use Rattle.core_model.specs.Crash.{IsFlushedByCrash}
use Rattle.core_model.specs.Picture.{Core, FamilyView, FileEntries}
use Rattle.core_model.specs.Run.{IsCoreStep}
use Rattle.manifest_edits.specs.Edits.{Edit, AddFamily, AddTable, Flushed, Last, AddLog, Placement, Named}
use Rattle.store_image.specs.Every.{IsOpenedAs, IsReopened, IsDecoded, OpeningEnds, TableIsNew}
use Rattle.store_image.specs.Opens.{OpenedImage, image_opens}
use Rattle.store_image.specs.Parts.{ImageParts, TableFile, file_entries}
use Rattle.store_image.specs.Recover.{recovered_core}
use Rattle.store_image.specs.Tie.{EngineFiles}
use Rattle.image_laws.proofs.EveryEdits.{NamedPair, all_of_pairs}
use Rattle.image_laws.proofs.OpeningHolds.{opening_holds, joined_is_one}
use Rattle.manifest_edits.specs.Logs.{LogReading, LogFound, LogOp, records_in, log_op_entry}
use Rattle.st_order.specs.Columns.{of_key, IsJoined}
use Rattle.core_model.specs.RelationParts.{IsSortedRun, FitsSizes}

pub table_is_new : TableIsNew
table_is_new parts file before after old new entries joined flushed tables at = record {
  flushed = flushed;
  tables = tables;
  written = at ∙ ap {B = FileEntries} (λ l. record { file = file; length = flushed.length; entries = l }) (joined_is_one _ entries flushed.entries joined flushed.joined);
}

-- ---- an image with an operation

abbrev entries : List Entry
entries = record { key = 97 ∷ []; number = 1; mark = Put (5 ∷ []) } ∷ []

abbrev ops : List LogOp
ops = record { family = 0; number = 1; key = 97 ∷ []; mark = Put (5 ∷ []); at = 8 } ∷ []

abbrev table_eight : Bool → Option TableFile
table_eight true = Some (record { length = 10; entries = Some entries })
table_eight false = None

abbrev log_three : Bool → LogReading LogOp
log_three true = LogFound ops None
log_three false = LogFound [] None

abbrev image : List (ℕ × Bool) → List Edit → ImageParts
image root edits = record {
  marked = true;
  more = true;
  root = LogFound root None;
  manifest = λ file. LogFound (record { at = 8; left = 0; edits = edits } ∷ []) None;
  log = λ file. log_three (file == 3);
  table = λ file. table_eight (file == 8);
}

abbrev placed : Placement
placed = record { level = 0; file = 8; length = 10; number = 0 }

abbrev old_edits : List Edit
old_edits = AddFamily 0 default_family ∷ AddLog 3 ∷ Last 0 ∷ []

abbrev new_edits : List Edit
new_edits = AddFamily 0 default_family ∷ AddTable 0 placed ∷ Flushed 0 0 ∷ AddLog 10 ∷ Last 1 ∷ []

abbrev parts : ImageParts
parts = image ((2, false) ∷ []) old_edits

abbrev other : ImageParts
other = image ((2, false) ∷ (9, false) ∷ []) new_edits

abbrev read : OpenedImage
read = record { behind = false; last = 1; families = (default_family, record { id = 0; counted = entries; levels = [] ∷ [] ∷ [] ∷ [] ∷ [] ∷ [] ∷ [] ∷ [] }) ∷ [] }

abbrev old_named : Named
old_named = record { families = (default_family, record { id = 0; flushed = 0; tables = [] }) ∷ []; logs = 3 ∷ []; last = 0 }

abbrev new_named : Named
new_named = record { families = (default_family, record { id = 0; flushed = 0; tables = placed ∷ [] }) ∷ []; logs = 10 ∷ []; last = 1 }

it_opens : image_opens true parts ≡ Ok read
it_opens = refl

to : IsOpenedAs true parts read
to = record {
  behind = false;
  named = old_named;
  names = inl (2, record { marked = refl; before = []; root = refl; records = record { at = 8; left = 0; edits = old_edits } ∷ []; reads = refl; begun = []; read = refl });
  right = record { files = tt; ids = (tt, tt); names = all_of_pairs (λ (one other : NamedPair). IsTrue (below one.0 other.0)) old_named.families (tt, tt); placed = tt };
  is = refl;
  none = refl;
}

decoded : IsDecoded parts
decoded = record { tables = λ file. by (file == 8); logs = λ file. of_log (file == 3) }
  where
    by : (b : Bool) → IsSortedRun (file_entries (table_eight b))
    by true = record { ordered = refl; within = ((omega arith, omega arith), tt) }
    by false = record { ordered = refl; within = tt }

    of_log : (b : Bool) → Each (λ op. FitsSizes (log_op_entry op)) (records_in (log_three b))
    of_log true = ((omega arith, omega arith), tt)
    of_log false = tt

is_joined : IsJoined (entries ∷ []) entries
is_joined = record { ordered = refl; columns = λ key. sym (append-nil (of_key key entries)) }

abbrev family_before : List ℕ × FamilyView
family_before = (default_family, record { id = 0; mem = entries; sealed = []; levels = [] ∷ [] ∷ [] ∷ [] ∷ [] ∷ [] ∷ [] ∷ [] })

abbrev family_after : List ℕ × FamilyView
family_after = (default_family, record { id = 0; mem = []; sealed = []; levels = (record { file = 8; length = 10; entries = entries } ∷ []) ∷ [] ∷ [] ∷ [] ∷ [] ∷ [] ∷ [] ∷ [] })

abbrev flushed : IsFlushedByCrash 8 family_before.1 family_after.1
flushed = record { length = 10; entries = entries; joined = is_joined; view = refl }

abbrev after : Core
after = record (recovered_core 1000 read) {
  families = family_after ∷ [];
}

step : IsCoreStep (recovered_core 1000 read) (Crashed 8) Done after
step = inl ((tt, omega arith), (refl, record { families = after.families; reopened = ((refl, flushed), tt); core_after = refl }))

abbrev files : EngineFiles
files = record { manifest = 9; log = 10; older_logs = []; root = (2, false) ∷ []; root_last = (9, false); named = new_named }

reopened : IsReopened parts other (recovered_core 1000 read) after 8 old_named files
reopened = record {
  manifest_is = refl;
  log_is = refl;
  marked = refl;
  root_is = refl;
  root = refl;
  counts = refl;
  records = record { at = 8; left = 0; edits = new_edits } ∷ [];
  manifest = refl;
  read = refl;
  apart = record { manifest = ((λ e. omega (arith, e)), ((λ e. omega (arith, e)), ((λ e. omega (arith, e)), ((λ e. omega (arith, e)), tt)))); log = ((λ e. omega (arith, e)), ((λ e. omega (arith, e)), ((λ e. omega (arith, e)), tt))) };
  families = (
    record {
      name = refl;
      id = refl;
      flushed = refl;
      sound = (refl, tt);
      tables = table_is_new other 8 family_before family_after (default_family, record { id = 0; flushed = 0; tables = [] }) (default_family, record { id = 0; flushed = 0; tables = placed ∷ [] }) entries is_joined flushed refl refl;
    },
    tt,
  );
  same = record { logs = (refl, tt); tables = (tt, tt) };
  older = refl;
  logs = refl;
  empty = refl;
  last = refl;
}

-- so the store stands for what was read, with the operation in a table
ends : OpeningEnds true other (recovered_core 1000 read) after files read
unfolding to
ends = (opening_holds true parts read decoded it_opens).2 to true other 1000 8 after files step reopened
