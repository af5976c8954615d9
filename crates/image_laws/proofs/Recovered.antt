-- What an opening reads is tied to the core that it makes of it.
use Rattle.std.proofs.Common.{◌≡◌, ℕ, ◌<◌, ◌≤◌, Bool, true, false, cond, not, List, [], ◌∷◌, ◌++◌, map, filter, reverse, Option, Some, None, refl, sym, ap, subst, ◌∙◌, append-nil, arith}
use Rattle.std.specs.Prelude.{IsTrue, nat_lt}
use Rattle.std.specs.Option.{option_or, option_map}
use Rattle.std.specs.List.{flat_map, AllByRecursion as Each, AllZip}
use Rattle.std.proofs.lemmas.Bool.{ltb-true}
use Rattle.std.proofs.lemmas.List.{reverse-append}
use Rattle.st_base.specs.Bytes.{same}
use Rattle.st_base.specs.declared.entry.Entry.{Entry}
use Rattle.base_laws.proofs.Lists.{each_as, each_back, each_front, each_join}
use Rattle.core_laws.proofs.Lists.{pairs_filter, pairs_join}
use Rattle.core_laws.proofs.WrittenFamily.{put_each}
use Rattle.core_model.specs.Picture.{FamilyView}
use Rattle.manifest_edits.specs.Edits.{Placement, NamedFamily, Named, tables_named}
use Rattle.store_image.specs.Opens.{ImageDamage, OpenedImageFamily, image_opened, image_family, image_damage, damage_at, image_log_damage, least_file, lesser_file, least_damage, unsound, is_sound, image_files_meeting_in, unfallen_in, unrisen, last_op}
use Rattle.store_image.specs.Parts.{ImageParts, log_ops_of, counts_for, counted_entries}
use Rattle.store_image.specs.Recover.{mem_of, recovered_view, recovered_core}
use Rattle.store_image.specs.Tie.{IsTiedFamily, IsReadByOpening}
use Rattle.image_laws.proofs.Logs.{whole_of}
use Rattle.image_laws.proofs.Write.{put_column}
use Rattle.manifest_edits.specs.Logs.{LogOp, log_op_entry, records_in}
use Rattle.st_order.specs.Columns.{Pairwise, of_key}

-- ---- numbers of operations rise, and those of counted entries fall

abbrev IsOlder : LogOp → LogOp → Type 0
IsOlder one other = one.number < other.number

each_above : (low last : ℕ) (ops : List LogOp) → low ≤ last → unrisen last ops ≡ None → Each (λ op. low < op.number) ops
each_above low last [] le e = tt
each_above low last (op ∷ ops) le e = go (nat_lt last op.number) refl e (λ le rest. each_above low op.number ops le rest)
  where
    go : (b : Bool) → nat_lt last op.number ≡ b → cond b (unrisen op.number ops) (Some op.at) ≡ None → (low ≤ op.number → unrisen op.number ops ≡ None → Each (λ op. low < op.number) ops) → Each (λ op. low < op.number) (op ∷ ops)
    go true is e rest = let less = ltb-true last op.number is in (omega arith, rest (omega arith) e)
    go false is e rest = absurd (cc e)

ops_rise : (last : ℕ) (ops : List LogOp) → unrisen last ops ≡ None → Pairwise IsOlder ops
ops_rise last [] e = tt
ops_rise last (op ∷ ops) e = go (nat_lt last op.number) e (λ e. (each_above op.number op.number ops (omega arith) e, ops_rise op.number ops e))
  where
    go : (b : Bool) → cond b (unrisen op.number ops) (Some op.at) ≡ None → (unrisen op.number ops ≡ None → Pairwise IsOlder (op ∷ ops)) → Pairwise IsOlder (op ∷ ops)
    go true e rest = rest e
    go false e rest = absurd (cc e)

rise_join : (last : ℕ) (xs ys : List LogOp) → unrisen last xs ≡ None → unrisen (last_op last xs) ys ≡ None → unrisen last (xs ++ ys) ≡ None
rise_join last [] ys e f = f
rise_join last (x ∷ xs) ys e f = go (nat_lt last x.number) e (λ e. rise_join x.number xs ys e f)
  where
    go : (b : Bool) → cond b (unrisen x.number xs) (Some x.at) ≡ None → (unrisen x.number xs ≡ None → unrisen x.number (xs ++ ys) ≡ None) → cond b (unrisen x.number (xs ++ ys)) (Some x.at) ≡ None
    go true e rest = rest e
    go false e rest = absurd (cc e)

pub logs_rise : (parts : ImageParts) (last : ℕ) (logs : List ℕ) → image_log_damage parts last logs ≡ None → unrisen last (log_ops_of parts logs) ≡ None
logs_rise parts last [] e = refl
logs_rise parts last (file ∷ logs) e =
    let whole = whole_of file last (parts.log file) (λ n. image_log_damage parts n logs) e in
    rise_join last (records_in (parts.log file)) (log_ops_of parts logs) whole.rises (logs_rise parts (last_op last (records_in (parts.log file))) logs whole.rest_none)

abbrev pub FallsTo : Entry → Entry → Type 0
FallsTo one other = other.number < one.number

falls_last : (xs : List Entry) (y : Entry) → Pairwise FallsTo xs → Each (λ x. y.number < x.number) xs → Pairwise FallsTo (xs ++ y ∷ [])
falls_last xs y falls above = pairs_join FallsTo xs (y ∷ []) falls (tt, tt) (each_as (λ (x : Entry). y.number < x.number) (λ x. Each (FallsTo x) (y ∷ [])) (λ x less. (less, tt)) xs above)

each_reverse : (P : Entry → Type 0) (entries : List Entry) → Each P entries → Each P (reverse entries)
each_reverse P [] h = tt
each_reverse P (entry ∷ entries) h = subst (Each P) (sym (reverse-append (entry ∷ []) entries)) (each_join P (reverse entries) (entry ∷ []) (each_reverse P entries h.1) (h.0, tt))

each_entries : (n : ℕ) (ops : List LogOp) → Each (λ op. n < op.number) ops → Each (λ (entry : Entry). n < entry.number) (map log_op_entry ops)
each_entries n [] h = tt
each_entries n (op ∷ ops) h = (h.0, each_entries n ops h.1)

reverse_falls : (ops : List LogOp) → Pairwise IsOlder ops → Pairwise FallsTo (reverse (map log_op_entry ops))
reverse_falls [] h = tt
reverse_falls (op ∷ ops) h =
    subst (Pairwise FallsTo) (sym (reverse-append (log_op_entry op ∷ []) (map log_op_entry ops)))
    (falls_last (reverse (map log_op_entry ops)) (log_op_entry op) (reverse_falls ops h.1) (each_reverse (λ (x : Entry). op.number < x.number) (map log_op_entry ops) (each_entries op.number ops h.0)))

pub counted_falls : (parts : ImageParts) (logs : List ℕ) (family : NamedFamily) → image_log_damage parts 0 logs ≡ None → Pairwise FallsTo (counted_entries family (log_ops_of parts logs))
counted_falls parts logs family e = reverse_falls (filter (counts_for family) (log_ops_of parts logs)) (pairs_filter IsOlder (counts_for family) (log_ops_of parts logs) (ops_rise 0 (log_ops_of parts logs) (logs_rise parts 0 logs e)))

-- ---- the memtable of them

pub each_mem : (P : Entry → Type 0) (entries : List Entry) → Each P entries → Each P (mem_of entries)
each_mem P [] h = tt
each_mem P (entry ∷ entries) h = put_each P entry (mem_of entries) h.0 (each_mem P entries h.1)

pub mem_column : (key : List ℕ) (entries : List Entry) → Pairwise FallsTo entries → of_key key (mem_of entries) ≡ of_key key entries
mem_column key [] falls = refl
mem_column key (entry ∷ entries) falls =
    put_column entry (mem_of entries) key (each_mem (FallsTo entry) entries falls.0) ∙ ap (λ l. cond (same entry.key key) (entry ∷ l) l) (mem_column key entries falls.1)

-- ---- no damage

pub no_first : (a b : Option ImageDamage) → option_or a b ≡ None → (a ≡ None) × (b ≡ None)
no_first None b e = (refl, e)
no_first (Some damage) b e = absurd (cc e)

pub least_none : (files : List ℕ) → least_damage files ≡ None → files ≡ []
least_none [] e = refl
least_none (file ∷ files) e = go (least_file files) e
  where
    some : (b : Bool) (x y : ℕ) → option_map (λ file. damage_at file 0) (cond b (Some x) (Some y)) ≡ None → file ∷ files ≡ []
    some true x y e = absurd (cc e)
    some false x y e = absurd (cc e)

    go : (found : Option ℕ) → option_map (λ file. damage_at file 0) (lesser_file found file) ≡ None → file ∷ files ≡ []
    go None e = absurd (cc e)
    go (Some other) e = some (nat_lt file other) file other e

pub all_sound : (parts : ImageParts) (placed : List Placement) → unsound parts placed ≡ [] → Each (λ one. IsTrue (is_sound parts one)) placed
all_sound parts [] e = tt
all_sound parts (one ∷ placed) e = go (is_sound parts one) refl e (all_sound parts placed)
  where
    go : (b : Bool) → is_sound parts one ≡ b → map (λ (one : Placement). one.file) (cond (not b) (one ∷ filter (λ one. not (is_sound parts one)) placed) (filter (λ one. not (is_sound parts one)) placed)) ≡ []
        → (unsound parts placed ≡ [] → Each (λ one. IsTrue (is_sound parts one)) placed) → Each (λ one. IsTrue (is_sound parts one)) (one ∷ placed)
    go true is e rest = (is, rest e)
    go false is e rest = absurd (cc e)

-- ---- the families

read_families : (parts : ImageParts) (logs : List ℕ) (ns : List (List ℕ × NamedFamily)) → image_log_damage parts 0 logs ≡ None → Each (λ one. IsTrue (is_sound parts one)) (flat_map (λ family. family.1.tables) ns)
    → AllZip (λ here there. (n : ℕ) × IsTiedFamily parts (log_ops_of parts logs) n here there)
    (map {B = List ℕ × FamilyView} (λ named. (named.0, recovered_view named.1)) (map {B = List ℕ × OpenedImageFamily} (λ family. (family.0, image_family parts (log_ops_of parts logs) family.1)) ns)) ns
read_families parts logs [] none sound = tt
read_families parts logs (family ∷ ns) none sound = (
  (
    family.1.flushed,
    record {
      name = refl;
      id = refl;
      levels = refl;
      memory = λ key. append-nil (of_key key (mem_of (counted_entries family.1 (log_ops_of parts logs)))) ∙ mem_column key (counted_entries family.1 (log_ops_of parts logs)) (counted_falls parts logs family.1 none);
      order = (tt, tt);
      flushed = omega arith;
      tables = each_front (λ one. IsTrue (is_sound parts one)) family.1.tables (flat_map (λ family. family.1.tables) ns) sound;
    },
  ),
  read_families parts logs ns none (each_back (λ one. IsTrue (is_sound parts one)) family.1.tables (flat_map (λ family. family.1.tables) ns) sound),
)

-- what an opening without damage reads is tied to the recovered core
pub recovered_read : (behind : Bool) (parts : ImageParts) (named : Named) (capacity : ℕ) → image_damage parts named (image_opened behind parts named) ≡ None → IsReadByOpening (recovered_core capacity (image_opened behind parts named)) parts named
recovered_read behind parts named capacity none =
    let first = no_first (image_log_damage parts 0 named.logs) (option_or (least_damage (unsound parts (tables_named named))) (option_or (least_damage (flat_map (λ family. image_files_meeting_in family.1) (image_opened behind parts named).families)) (least_damage (flat_map (λ family. unfallen_in (image_opened behind parts named).last family.1) (image_opened behind parts named).families)))) none in
    let second = no_first (least_damage (unsound parts (tables_named named))) (option_or (least_damage (flat_map (λ family. image_files_meeting_in family.1) (image_opened behind parts named).families)) (least_damage (flat_map (λ family. unfallen_in (image_opened behind parts named).last family.1) (image_opened behind parts named).families))) first.1 in
    read_families parts named.logs named.families first.0 (all_sound parts (tables_named named) (least_none (unsound parts (tables_named named)) second.0))
