-- What the layers that know bytes give of every file is enough for an opening.
use Rattle.std.proofs.Common.{◌≡◌, ℕ, Bool, true, false, cond, ◌&&◌, ◌||◌, not, List, [], ◌∷◌, map, filter, Option, Some, None, refl, sym, ap, subst, ◌∙◌}
use Rattle.std.specs.Prelude.{IsTrue, ◌==◌}
use Rattle.std.specs.declared.cmp.Ordering.{Ordering}
use Rattle.std.specs.declared.cmp.Ordering.TheVariants.{Less, Equal, Greater}
use Rattle.std.specs.Ordering.{is_lt, ordering_then, nat_cmp}
use Rattle.std.specs.List.{flat_map, AllByRecursion as Each}
use Rattle.std.specs.Option.{option_or}
use Rattle.std.proofs.lemmas.Bool.{false≢true, true≢false}
use Rattle.std.proofs.lemmas.Map.Lookups.{exact_bytes}
use Rattle.st_base.specs.Bytes.{same, bytes_cmp}
use Rattle.st_base.specs.Order.{comes_before, rises_behind, in_order}
use Rattle.st_base.specs.declared.entry.Entry.{Entry}
use Rattle.st_base.proofs.Ordered.{key_up}
use Rattle.st_base.proofs.Same.{same_self}
use Rattle.base_laws.proofs.Lists.{each_as, each_back, each_filter, each_front, each_join, each_map}
use Rattle.core_model.specs.Picture.{FileEntries, runs_of, tables_in}
use Rattle.st_base.specs.Range.{under_number, with_number, has_key}
use Rattle.manifest_edits.specs.Edits.{Placement, tables_named}
use Rattle.store_image.specs.Every.{IsDecoded, DecodedHasRows, EveryOpening, EveryOpeningCanEnd}
use Rattle.store_image.specs.Opens.{OpenedImageFamily, image_opened, image_family, unsound, least_damage, is_sound, holds_table, is_table, image_files_meeting_in, unfallen_in, image_log_damage}
use Rattle.store_image.specs.Parts.{ImageParts, TableFile, log_ops_of, counts_for, entries_acting, file_entries, table_at, image_levels, has_twice}
use Rattle.store_image.specs.Recover.{HasRows, HasOps}
use Rattle.image_laws.proofs.Recovered.{no_first, least_none, all_sound}
use Rattle.image_laws.proofs.RecoveredReads.{each_reverse}
use Rattle.image_laws.proofs.EveryEdits.{NamedPair}
use Rattle.image_laws.proofs.EveryFamily.{levels_each}
use Rattle.image_laws.proofs.EveryOpening.{every_opens, within_opens}
use Rattle.image_laws.proofs.EveryEnds.{every_opening_ends, every_opening_steps}
use Rattle.manifest_edits.specs.Logs.{LogOp, log_op_entry, records_in}
use Rattle.core_model.specs.RelationParts.{IsSortedRun, FitsSizes}

-- ---- rows under one number

both : (b c : Bool) → (b && c) ≡ true → (b ≡ true) × (c ≡ true)
both true c e = (refl, e)
both false c e = absurd (false≢true e)

either : (b c : Bool) → (b || c) ≡ false → (b ≡ false) × (c ≡ false)
either true c e = absurd (false≢true (sym e))
either false c e = (refl, e)

and_from : (b c : Bool) → b ≡ true → c ≡ true → (b && c) ≡ true
and_from true c e f = f
and_from false c e f = absurd (false≢true e)

-- of two keys that differ the order needs no number
up_under : (n : ℕ) (x y : Entry) → comes_before x y ≡ true → same y.key x.key ≡ false → comes_before (with_number n x) (with_number n y) ≡ true
up_under n x y h differ = by (bytes_cmp x.key y.key) refl h
  where
    by : (r : Ordering) → bytes_cmp x.key y.key ≡ r → is_lt (ordering_then r (nat_cmp y.number x.number)) ≡ true → comes_before (with_number n x) (with_number n y) ≡ true
    by Less e h = ap is_lt (key_up x.key y.key n n e)
    by Equal e h = absurd (true≢false (sym (ap (same y.key) (exact_bytes x.key y.key e) ∙ same_self y.key) ∙ differ))
    by Greater e h = absurd (false≢true h)

behind_under : (n : ℕ) (x : Entry) (ys : List Entry) → rises_behind comes_before x ys ≡ true → has_twice (x ∷ ys) ≡ false → rises_behind comes_before (with_number n x) (map (with_number n) ys) ≡ true
behind_under n x [] h once = refl
behind_under n x (y ∷ ys) h once =
    let parts = both (comes_before x y) (rises_behind comes_before y ys) h in
    let twice = either (has_key (y ∷ ys) x.key) (has_twice (y ∷ ys)) once in
    and_from (comes_before (with_number n x) (with_number n y)) (rises_behind comes_before (with_number n y) (map (with_number n) ys))
    (up_under n x y parts.0 (either (same y.key x.key) (has_key ys x.key) twice.0).0) (behind_under n y ys parts.1 twice.1)

rows_under : (n : ℕ) (entries : List Entry) → has_twice entries ≡ false → IsSortedRun entries → IsSortedRun (under_number n entries)
rows_under n entries once rows = record { ordered = by entries once rows.ordered; within = each_map FitsSizes (with_number n) entries (each_as FitsSizes (λ entry. FitsSizes (with_number n entry)) (λ entry h. h) entries rows.within) }
  where
    by : (entries : List Entry) → has_twice entries ≡ false → in_order entries ≡ true → in_order (under_number n entries) ≡ true
    by [] once h = refl
    by (x ∷ xs) once h = behind_under n x xs h once

-- a sound table's entries are rows as they act
acting_rows : (parts : ImageParts) (placed : Placement) → IsDecoded parts → IsTrue (is_sound parts placed) → IsSortedRun (table_at parts placed).entries
acting_rows parts placed decoded sound = by (parts.table placed.file) sound (decoded.tables placed.file)
  where
    not_true : (b : Bool) → not b ≡ true → b ≡ false
    not_true true e = absurd (false≢true e)
    not_true false e = refl

    under : (b : Bool) (entries : List Entry) → (b || not (has_twice entries)) ≡ true → IsSortedRun entries → IsSortedRun (cond b entries (under_number placed.number entries))
    under true entries e rows = rows
    under false entries e rows = rows_under placed.number entries (not_true (has_twice entries) e) rows

    has : (entries : List Entry) → is_table placed.number entries ≡ true → IsSortedRun entries → IsSortedRun (entries_acting placed.number entries)
    has [] e rows = absurd (false≢true e)
    has (entry ∷ entries) e rows = under (placed.number == 0) (entry ∷ entries) e rows

    never : (b : Bool) → (b && false) ≡ false
    never true = refl
    never false = refl

    inner : (size : ℕ) (entries : Option (List Entry)) → holds_table placed (Some (record { length = size; entries = entries })) ≡ true → IsSortedRun (file_entries (Some (record { length = size; entries = entries })))
        → IsSortedRun (entries_acting placed.number (file_entries (Some (record { length = size; entries = entries }))))
    inner n None e rows = absurd (false≢true (sym (never (n == placed.length)) ∙ e))
    inner n (Some entries) e rows = has entries (both (n == placed.length) (is_table placed.number entries) e).1 rows

    by : (file : Option TableFile) → IsTrue (holds_table placed file) → IsSortedRun (file_entries file) → IsSortedRun (entries_acting placed.number (file_entries file))
    by None e rows = absurd (false≢true e)
    by (Some file) e rows = inner file.length file.entries e rows

-- ---- all families

abbrev opened_named : ImageParts → List LogOp → NamedPair → List ℕ × OpenedImageFamily
opened_named parts ops family = (family.0, image_family parts ops family.1)

all_rows : (parts : ImageParts) (ops : List LogOp) (ns : List NamedPair) → IsDecoded parts → Each (λ one. IsTrue (is_sound parts one)) (flat_map (λ family. family.1.tables) ns)
    → Each (λ named. Each IsSortedRun (runs_of (tables_in named.1.levels))) (map (opened_named parts ops) ns)
all_rows parts ops [] decoded sound = tt
all_rows parts ops (n ∷ ns) decoded sound = (
  each_map IsSortedRun (λ (table : FileEntries). table.entries) (tables_in (image_levels parts n.1.tables)) (levels_each (λ table. IsSortedRun table.entries) parts n.1.tables
      (each_as (λ one. IsTrue (is_sound parts one)) (λ one. IsSortedRun (table_at parts one).entries) (λ one h. acting_rows parts one decoded h) n.1.tables (each_front (λ one. IsTrue (is_sound parts one)) n.1.tables (flat_map (λ family. family.1.tables) ns) sound))),
  all_rows parts ops ns decoded (each_back (λ one. IsTrue (is_sound parts one)) n.1.tables (flat_map (λ family. family.1.tables) ns) sound),
)

ops_fit : (parts : ImageParts) (logs : List ℕ) → IsDecoded parts → Each (λ op. FitsSizes (log_op_entry op)) (log_ops_of parts logs)
ops_fit parts [] decoded = tt
ops_fit parts (file ∷ logs) decoded = each_join (λ op. FitsSizes (log_op_entry op)) (records_in (parts.log file)) (log_ops_of parts logs) (decoded.logs file) (ops_fit parts logs decoded)

one_row : (entry : Entry) → FitsSizes entry → IsSortedRun (entry ∷ [])
one_row entry h = record { ordered = refl; within = (h, tt) }

all_ops : (parts : ImageParts) (ops : List LogOp) (ns : List NamedPair) → Each (λ op. FitsSizes (log_op_entry op)) ops → Each (λ named. Each (λ entry. IsSortedRun (entry ∷ [])) named.1.counted) (map (opened_named parts ops) ns)
all_ops parts ops [] h = tt
all_ops parts ops (n ∷ ns) h = (
  each_reverse (λ entry. IsSortedRun (entry ∷ [])) (map log_op_entry (filter (counts_for n.1) ops)) (each_map (λ entry. IsSortedRun (entry ∷ [])) log_op_entry (filter (counts_for n.1) ops)
      (each_filter (λ op. IsSortedRun (log_op_entry op ∷ [])) (counts_for n.1) ops (each_as (λ op. FitsSizes (log_op_entry op)) (λ op. IsSortedRun (log_op_entry op ∷ [])) (λ op f. one_row (log_op_entry op) f) ops h))),
  all_ops parts ops ns h,
)

pub decoded_has_rows : DecodedHasRows
decoded_has_rows flag parts o decoded to = subst (λ o. HasRows o × HasOps o) to.is (all_rows parts (log_ops_of parts to.named.logs) to.named.families decoded sound, all_ops parts (log_ops_of parts to.named.logs) to.named.families (ops_fit parts to.named.logs decoded))
  where
    meets_ : List ℕ
    meets_ = flat_map (λ family. image_files_meeting_in family.1) (image_opened to.behind parts to.named).families

    falls_ : List ℕ
    falls_ = flat_map (λ family. unfallen_in (image_opened to.behind parts to.named).last family.1) (image_opened to.behind parts to.named).families

    first : (image_log_damage parts 0 to.named.logs ≡ None) × (option_or (least_damage (unsound parts (tables_named to.named))) (option_or (least_damage meets_) (least_damage falls_)) ≡ None)
    first = no_first (image_log_damage parts 0 to.named.logs) (option_or (least_damage (unsound parts (tables_named to.named))) (option_or (least_damage meets_) (least_damage falls_))) to.none

    sound : Each (λ one. IsTrue (is_sound parts one)) (tables_named to.named)
    sound = all_sound parts (tables_named to.named) (least_none (unsound parts (tables_named to.named)) (no_first (least_damage (unsound parts (tables_named to.named))) (option_or (least_damage meets_) (least_damage falls_)) first.1).0)

-- the opening's crash sentence
pub every_opening : EveryOpening
every_opening refines flag parts o decoded e =
    let to = every_opens flag parts o e in
    let rows = decoded_has_rows flag parts o decoded to in (
      to,
      (λ other later within. within_opens later parts other within),
      (λ to later other capacity first after files step is. every_opening_ends refines flag later parts other o capacity first after files to rows.0 rows.1 step is),
    )

pub every_opening_can_end : EveryOpeningCanEnd
every_opening_can_end steps flag parts o capacity first decoded e now =
    let to = every_opens flag parts o e in
    let rows = decoded_has_rows flag parts o decoded to in
    every_opening_steps steps flag parts o capacity first to rows.0 rows.1 now
