-- What the layers of bytes export gives what the laws of images ask.
use Rattle.std.proofs.Common.{◌≡◌, ◌≢◌, ◌⊎◌, inl, inr, ⊎_elim, ℕ, List, [], ◌∷◌, ◌++◌, map, flat_map, Option, Some, None, Ok, refl, sym, ap, ◌∙◌}
use Rattle.std.specs.Prelude.{is_some}
use Rattle.std.specs.List.{AllByRecursion as Each}
use Rattle.st_device.specs.Disk.{Image, SameBut}
use Rattle.st_wal.specs.Logged.{IsWithOrWithout, Operations, read_as_log}
use Rattle.st_wal.specs.Logged.Operations.{Whole}
use Rattle.st_wal.specs.declared.logged.Logged.{Logged}
use Rattle.manifest_edits.specs.Edits.{GroupRecord, NamedFamily, Placement, files_in, manifest_reading_none, read_records}
use Rattle.manifest_edits.specs.Logs.{HasAllOrNone, LogFound, LogReading, LogOp, with_more}
use Rattle.st_manifest.specs.Manifest.{manifest_read}
use Rattle.st_manifest.specs.Root.{root_read}
use Rattle.store_image.specs.Steps.{HasMore}
use Rattle.store_image.specs.Tie.{EngineFiles}
use Rattle.image_bytes.specs.Laws.{GroupIsSomeMore, WriteIsAllOrNone, WriteIsMore}
use Rattle.image_bytes.specs.Parts.{image_parts, log_op, log_read, operations_reading, table_read}

-- ---- the write-ahead log

map_append : (xs ys : List Logged) → map log_op (xs ++ ys) ≡ map log_op xs ++ map log_op ys
map_append [] ys = refl
map_append (x ∷ xs) ys = ap (λ (l : List LogOp). log_op x ∷ l) (map_append xs ys)

-- a whole log reads whole
log_whole : (this : Option (List ℕ)) (ops : List Logged) (end : ℕ) → read_as_log this ≡ Whole ops end → log_read this ≡ LogFound (map log_op ops) None
log_whole None ops end e = absurd (cc e)
log_whole (Some bytes) ops end e = ap operations_reading e

pub write_more : WriteIsMore
write_more before this ops more end far whole longer =
    log_whole this (ops ++ more) far longer ∙ ap (λ (l : List LogOp). LogFound l None) (map_append ops more)
    ∙ ap (λ (read : LogReading LogOp). with_more read (map log_op more)) (sym (log_whole before ops end whole))

pub write_all_or_none : WriteIsAllOrNone
write_all_or_none before this ops more end whole (inl is) = inl (log_whole this ops is.0 is.1 ∙ sym (log_whole before ops end whole))
write_all_or_none before this ops more end whole (inr is) = inr (write_more before this ops more end is.0 whole is.1)

-- ---- a group

module _ (m : ℕ) (image other : Image) (same : SameBut m image other) where
  logs_same : (logs rest : List ℕ) → Each (λ file. file ≢ m) (logs ++ rest) → Each (λ file. log_read (other file) ≡ log_read (image file)) logs × Each (λ file. file ≢ m) rest
  logs_same [] rest apart = (tt, apart)
  logs_same (log ∷ logs) rest apart = let more = logs_same logs rest apart.1 in ((ap log_read (same log apart.0), more.0), more.1)

  tables_same : (tables rest : List Placement) → Each (λ file. file ≢ m) (map (λ placed. placed.file) (tables ++ rest)) → Each (λ placed. table_read (other placed.file) ≡ table_read (image placed.file)) tables × Each (λ file. file ≢ m) (map (λ placed. placed.file) rest)
  tables_same [] rest apart = (tt, apart)
  tables_same (placed ∷ tables) rest apart = let more = tables_same tables rest apart.1 in ((ap table_read (same placed.file apart.0), more.0), more.1)

  families_same : (families : List (List ℕ × NamedFamily)) → Each (λ file. file ≢ m) (map (λ placed. placed.file) (flat_map (λ family. family.1.tables) families)) → Each (λ family. Each (λ placed. table_read (other placed.file) ≡ table_read (image placed.file)) family.1.tables) families
  families_same [] apart = tt
  families_same (family ∷ families) apart = let parts = tables_same family.1.tables (flat_map (λ family. family.1.tables) families) apart in (parts.0, families_same families parts.1)

pub group_some_more : GroupIsSomeMore
group_some_more files image other records more apart same whole right read =
    let logs = logs_same files.manifest image other same files.named.logs (map (λ placed. placed.file) (flat_map (λ family. family.1.tables) files.named.families)) apart.1.1 in
    record {
      marked = ap (λ (o : Option (List ℕ)). is_some o) (same 1 apart.1.0);
      root = ap root_read (same 0 apart.0);
      same = record { logs = logs.0; tables = families_same files.manifest image other same files.named.families logs.1 };
      records = records;
      before = whole;
      read = right;
      after = read ∙ ap (λ (r : LogReading GroupRecord). with_more r more) whole;
    }
