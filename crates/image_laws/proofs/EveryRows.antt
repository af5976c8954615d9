-- An opening that is met: an image with a table, and the image that the opening leaves.
use Rattle.std.specs.Prelude.{ℕ, Bool, true, false, ◌≡◌, refl, List, [], ◌∷◌, Option, Some, None, Ok, ◌==◌, IsTrue}
use Rattle.std.proofs.Common.{inl, arith}
use Rattle.st_base.specs.Bytes.{default_family, below}
use Rattle.st_base.specs.declared.entry.Entry.{Entry}
use Rattle.st_base.specs.declared.entry.Mark.TheVariants.{Put}
use Rattle.core_model.specs.Event.{Crashed}
use Rattle.core_model.specs.declared.reply.CoreReply.TheVariants.{Done}
use Rattle.core_model.specs.Picture.{Core, FileEntries}
use Rattle.core_model.specs.Run.{IsCoreStep}
use Rattle.manifest_edits.specs.Edits.{Edit, AddFamily, AddTable, Flushed, Last, AddLog, Placement, Named}
use Rattle.store_image.specs.Every.{IsOpenedAs, IsReopened, IsDecoded, OpeningEnds}
use Rattle.store_image.specs.Opens.{OpenedImage, image_opens}
use Rattle.store_image.specs.Parts.{ImageParts, TableFile, file_entries}
use Rattle.store_image.specs.Recover.{recovered_core}
use Rattle.store_image.specs.Tie.{EngineFiles}
use Rattle.image_laws.proofs.EveryEdits.{NamedPair, all_of_pairs}
use Rattle.image_laws.proofs.OpeningHolds.{opening_holds}
use Rattle.manifest_edits.specs.Logs.{LogFound}
use Rattle.core_model.specs.RelationParts.{IsSortedRun}

abbrev entries : List Entry
entries = record { key = 97 ∷ []; number = 1; mark = Put (5 ∷ []) } ∷ []

abbrev placed : Placement
placed = record { level = 0; file = 7; length = 10; number = 0 }

abbrev old_edits : List Edit
old_edits = AddFamily 0 default_family ∷ AddLog 3 ∷ AddTable 0 placed ∷ Last 1 ∷ []

abbrev new_edits : List Edit
new_edits = AddFamily 0 default_family ∷ AddTable 0 placed ∷ Flushed 0 0 ∷ AddLog 9 ∷ Last 1 ∷ []

abbrev table_seven : Bool → Option TableFile
table_seven true = Some (record { length = 10; entries = Some entries })
table_seven false = None

abbrev image : List (ℕ × Bool) → List Edit → ImageParts
image root edits = record {
  marked = true;
  more = true;
  root = LogFound root None;
  manifest = λ file. LogFound (record { at = 8; left = 0; edits = edits } ∷ []) None;
  log = λ file. LogFound [] None;
  table = λ file. table_seven (file == 7);
}

abbrev parts : ImageParts
parts = image ((2, false) ∷ []) old_edits

abbrev other : ImageParts
other = image ((2, false) ∷ (8, false) ∷ []) new_edits

abbrev levels : List (List FileEntries)
levels = (record { file = 7; length = 10; entries = entries } ∷ []) ∷ [] ∷ [] ∷ [] ∷ [] ∷ [] ∷ [] ∷ []

abbrev read : OpenedImage
read = record { behind = false; last = 1; families = (default_family, record { id = 0; counted = []; levels = levels }) ∷ [] }

abbrev named : List ℕ → Named
named logs = record { families = (default_family, record { id = 0; flushed = 0; tables = placed ∷ [] }) ∷ []; logs = logs; last = 1 }

it_opens : image_opens true parts ≡ Ok read
it_opens = refl

to : IsOpenedAs true parts read
to = record {
  behind = false;
  named = named (3 ∷ []);
  names = inl (2, record { marked = refl; before = []; root = refl; records = record { at = 8; left = 0; edits = old_edits } ∷ []; reads = refl; begun = []; read = refl });
  right = record { files = (tt, tt); ids = (tt, tt); names = all_of_pairs (λ (one other : NamedPair). IsTrue (below one.0 other.0)) (named (3 ∷ [])).families (tt, tt); placed = (refl, tt) };
  is = refl;
  none = refl;
}

decoded : IsDecoded parts
decoded = record { tables = λ file. by (file == 7); logs = λ file. tt }
  where
    by : (b : Bool) → IsSortedRun (file_entries (table_seven b))
    by true = record { ordered = refl; within = ((omega arith, omega arith), tt) }
    by false = record { ordered = refl; within = tt }

abbrev after : Core
after = record (recovered_core 1000 read) { turn = None }

step : IsCoreStep (recovered_core 1000 read) (Crashed 8) Done after
step = inl (((omega arith, tt), omega arith), (refl, record { families = (recovered_core 1000 read).families; reopened = ((refl, refl), tt); core_after = refl }))

abbrev files : EngineFiles
files = record { manifest = 8; log = 9; older_logs = []; root = (2, false) ∷ []; root_last = (8, false); named = named (9 ∷ []) }

reopened : IsReopened parts other (recovered_core 1000 read) after 8 (named (3 ∷ [])) files
reopened = record {
  manifest_is = refl;
  log_is = refl;
  marked = refl;
  root_is = refl;
  root = refl;
  counts = refl;
  records = record { at = 8; left = 0; edits = new_edits } ∷ [];
  manifest = refl;
  read = refl;
  apart = record { manifest = ((λ e. omega (arith, e)), ((λ e. omega (arith, e)), ((λ e. omega (arith, e)), ((λ e. omega (arith, e)), tt)))); log = ((λ e. omega (arith, e)), ((λ e. omega (arith, e)), ((λ e. omega (arith, e)), tt))) };
  families = (record { name = refl; id = refl; flushed = refl; sound = (refl, tt); tables = refl }, tt);
  same = record { logs = (refl, tt); tables = ((refl, tt), tt) };
  older = refl;
  logs = refl;
  empty = refl;
  last = refl;
}

-- so the store stands for what was read
ends : OpeningEnds true other (recovered_core 1000 read) after files read
unfolding to
ends = (opening_holds true parts read decoded it_opens).2 to true other 1000 8 after files step reopened
