-- Every image without damage: an opening reads what it names, leaves it within, and ends with a store that stands for it.
use Rattle.std.proofs.Common.{◌≡◌, ℕ, Bool, true, false, cond, not, List, [], ◌∷◌, ◌++◌, map, filter, Option, Some, None, Result, Ok, Err, refl, sym, ap, subst, ◌∙◌, inl, inr}
use Rattle.std.specs.Prelude.{IsTrue, ◌==◌, max}
use Rattle.std.specs.Option.{option_or}
use Rattle.std.specs.List.{flat_map, AllByRecursion as Each}
use Rattle.st_base.specs.Bytes.{below}
use Rattle.base_laws.proofs.Lists.{each_join}
use Rattle.manifest_edits.specs.Edits.{Placement, Named, named_none, GroupRecord, ManifestReading, manifest_reading_none, read_record, read_records, edited_all, edited_by, group_edited, group_closed, follows_in_group, ends_with_last, edits_of, tables_named}
use Rattle.store_image.specs.Every.{IsRooted, IsUnrooted, default_named, IsOpenedAs, EveryOpens, WithinOpens}
use Rattle.store_image.specs.Opens.{ImageDamage, OpenedImageFamily, OpenedImage, image_opens, image_opened, image_family, image_damage, unsound, least_damage, is_sound, holds_table, image_files_meeting_in, unfallen_in, last_root_record, last_op, image_log_damage, root_opens, manifest_opens, reading_opens, named_opens, new_opened, opened_unless, damage_at}
use Rattle.store_image.specs.Parts.{ImageParts, log_ops_of, counted_entries}
use Rattle.store_image.specs.Recover.{IsNamed}
use Rattle.store_image.specs.Steps.{SameNamed}
use Rattle.image_laws.proofs.Frame.{ops_frame, damage_frame, levels_frame}
use Rattle.image_laws.proofs.NewStore.{unmarked_is_new, unrooted_is_new}
use Rattle.image_laws.proofs.Opening.{root_at}
use Rattle.image_laws.proofs.EveryEdits.{NamedPair, edits_keep_named, all_of_pairs}
use Rattle.manifest_edits.specs.Logs.{LogReading, LogAbsent, LogFound, LogOp}

-- ---- what the manifest names is right

abbrev IsLess : NamedPair → NamedPair → Type 0
IsLess one other = IsTrue (below one.0 other.0)

none_named : IsNamed named_none
none_named = record { files = tt; ids = tt; names = all_of_pairs IsLess [] tt; placed = tt }

default_right : IsNamed default_named
default_right = record { files = tt; ids = (tt, tt); names = all_of_pairs IsLess default_named.families (tt, tt); placed = tt }

records_right : (named after : Named) (records : List GroupRecord) → IsNamed named → edited_by named records ≡ Ok after → IsNamed after
records_right named after [] h e = subst IsNamed (cc e) h
records_right named after (one ∷ more) h e = by (edited_all named one.edits) refl e (λ next right f. records_right next after more right f)
  where
    by : (found : Option Named) → edited_all named one.edits ≡ found → ◌≡◌ {A = Result Named ℕ} (elim found [ None ↦ Err one.at | Some next ↦ edited_by next more ]) (Ok after) → ((next : Named) → IsNamed next → edited_by next more ≡ Ok after → IsNamed after) → IsNamed after
    by None f e rest = absurd (cc e)
    by (Some next) f e rest = rest next (edits_keep_named named next one.edits h f) e

group_right : (named : Named) (begun : List GroupRecord) (at : ℕ) (after : ManifestReading) → IsNamed named → group_closed (group_edited named at begun) ≡ Ok after → IsNamed after.named
group_right named begun at after h e = by (edited_by named begun) refl e
  where
    end : (next : Named) (b : Bool) → IsNamed next → group_closed (cond b (Ok next) (Err at)) ≡ Ok after → IsNamed after.named
    end next true right e = let same : record { named = next; begun = [] } ≡ after = cc e in subst (λ (r : ManifestReading). IsNamed r.named) same right
    end next false right e = absurd (cc e)

    by : (found : Result Named ℕ) → edited_by named begun ≡ found → group_closed (elim found [ Err fault ↦ Err fault | Ok next ↦ cond (ends_with_last (edits_of begun)) (Ok next) (Err at) ]) ≡ Ok after → IsNamed after.named
    by (Err fault) f e = absurd (cc e)
    by (Ok next) f e = end next (ends_with_last (edits_of begun)) (records_right named next begun h f) e

record_right : (reading after : ManifestReading) (next : GroupRecord) → IsNamed reading.named → read_record reading next ≡ Ok after → IsNamed after.named
record_right reading after next h e = by (follows_in_group reading.begun next) (next.left == 0) e
  where
    by : (b c : Bool) → cond b (cond c (group_closed (group_edited reading.named next.at (reading.begun ++ next ∷ []))) (Ok (record { named = reading.named; begun = reading.begun ++ next ∷ [] }))) (Err next.at) ≡ Ok after → IsNamed after.named
    by true true e = group_right reading.named (reading.begun ++ next ∷ []) next.at after h e
    by true false e = let same : record { named = reading.named; begun = reading.begun ++ next ∷ [] } ≡ after = cc e in subst (λ (r : ManifestReading). IsNamed r.named) same h
    by false c e = absurd (cc e)

-- whatever a manifest names is right
pub manifest_right : (reading after : ManifestReading) (records : List GroupRecord) → IsNamed reading.named → read_records reading records ≡ Ok after → IsNamed after.named
manifest_right reading after [] h e = let same : reading ≡ after = cc e in subst (λ (r : ManifestReading). IsNamed r.named) same h
manifest_right reading after (next ∷ more) h e = by (read_record reading next) refl e (λ one right f. manifest_right one after more right f)
  where
    by : (found : Result ManifestReading ℕ) → read_record reading next ≡ found → ◌≡◌ {A = Result ManifestReading ℕ} (elim found [ Err fault ↦ Err fault | Ok one ↦ read_records one more ]) (Ok after) → ((one : ManifestReading) → IsNamed one.named → read_records one more ≡ Ok after → IsNamed after.named) → IsNamed after.named
    by (Err fault) f e rest = absurd (cc e)
    by (Ok one) f e rest = rest one (record_right reading one next h f) e

-- ---- every image that opens

split_last : {X : Type 0} (x : X) (xs : List X) → (before : List X) × (x ∷ xs ≡ before ++ last_root_record x xs ∷ [])
split_last x [] = ([], refl)
split_last x (y ∷ ys) = let rest = split_last y ys in (x ∷ rest.0, ap (λ l. x ∷ l) rest.1)

new_opens_to : (flag : Bool) (parts : ImageParts) (o : OpenedImage) → IsUnrooted parts → new_opened flag ≡ o → IsOpenedAs flag parts o
new_opens_to flag parts o new e = record { behind = flag; named = default_named; names = inr (new, refl, refl); right = default_right; is = e; none = refl }

named_opens_to : (flag behind : Bool) (parts : ImageParts) (manifest : ℕ) (named : Named) (o : OpenedImage) → IsRooted parts behind manifest named → IsNamed named → named_opens behind parts named ≡ Ok o → IsOpenedAs flag parts o
named_opens_to flag behind parts manifest named o rooted right e = by (image_damage parts named (image_opened behind parts named)) refl e
  where
    by : (found : Option ImageDamage) → image_damage parts named (image_opened behind parts named) ≡ found → opened_unless found (image_opened behind parts named) ≡ Ok o → IsOpenedAs flag parts o
    by None f e = record { behind = behind; named = named; names = inl (manifest, rooted); right = right; is = cc e; none = f }
    by (Some damage) f e = absurd (cc e)

pub every_opens : EveryOpens
every_opens flag parts o e = by (parts.marked) refl e
  where
    read_ : (before : List (ℕ × Bool)) (counts : ℕ × Bool) → parts.marked ≡ true → parts.root ≡ LogFound (before ++ counts ∷ []) None → (found : LogReading GroupRecord) → parts.manifest counts.0 ≡ found → manifest_opens counts.1 parts counts.0 found ≡ Ok o → IsOpenedAs flag parts o
    read_ before counts marked root LogAbsent f e = absurd (cc e)
    read_ before counts marked root (LogFound records end) f e = reading_ end f (read_records manifest_reading_none records) refl e
      where
        reading_ : (end : Option ℕ) → parts.manifest counts.0 ≡ LogFound records end → (result : Result ManifestReading ℕ) → read_records manifest_reading_none records ≡ result → reading_opens counts.1 parts counts.0 end result ≡ Ok o → IsOpenedAs flag parts o
        reading_ end f (Err at) g e = absurd (cc e)
        reading_ (Some at) f (Ok reading) g e = absurd (cc e)
        reading_ None f (Ok reading) g e =
            named_opens_to flag counts.1 parts counts.0 reading.named o (record { marked = marked; before = before; root = root; records = records; reads = f; begun = reading.begun; read = g }) (manifest_right manifest_reading_none reading records none_named g) e

    rooted : (found : LogReading (ℕ × Bool)) → parts.marked ≡ true → parts.root ≡ found → root_opens flag parts found ≡ Ok o → IsOpenedAs flag parts o
    rooted LogAbsent marked f e = absurd (cc e)
    rooted (LogFound records (Some at)) marked f e = absurd (cc e)
    rooted (LogFound [] None) marked f e = new_opens_to flag parts o (inr (marked, f)) (cc e)
    rooted (LogFound (one ∷ records) None) marked f e =
        let split = split_last one records in
        read_ split.0 (last_root_record one records) marked (f ∙ ap (λ l. LogFound l None) split.1) (parts.manifest (last_root_record one records).0) refl e

    unmarked : (b : Bool) → parts.marked ≡ false → parts.more ≡ b → cond b (Err (damage_at 1 0)) (Ok (new_opened flag)) ≡ Ok o → IsOpenedAs flag parts o
    unmarked true marked f e = absurd (cc e)
    unmarked false marked f e = new_opens_to flag parts o (inl (marked, f)) (cc e)

    by : (b : Bool) → parts.marked ≡ b → cond b (root_opens flag parts parts.root) (cond parts.more (Err (damage_at 1 0)) (Ok (new_opened flag))) ≡ Ok o → IsOpenedAs flag parts o
    by true f e = rooted parts.root f refl e
    by false f e = unmarked parts.more f refl e

-- ---- within the opening

rooted_opens : (flag behind : Bool) (parts : ImageParts) (manifest : ℕ) (named : Named) → IsRooted parts behind manifest named → image_opens flag parts ≡ named_opens behind parts named
rooted_opens flag behind parts manifest named rooted =
    ap (λ b. cond b (root_opens flag parts parts.root) (cond parts.more (Err (damage_at 1 0)) (Ok (new_opened flag)))) rooted.marked
    ∙ ap (root_opens flag parts) rooted.root
    ∙ root_at flag parts rooted.before (manifest, behind)
    ∙ ap (manifest_opens behind parts manifest) rooted.reads
    ∙ ap (reading_opens behind parts manifest None) rooted.read

abbrev SameTable : ImageParts → ImageParts → Placement → Type 0
SameTable parts other placed = other.table placed.file ≡ parts.table placed.file

abbrev opened_named : ImageParts → List LogOp → NamedPair → List ℕ × OpenedImageFamily
opened_named parts ops family = (family.0, image_family parts ops family.1)

families_same : (parts other : ImageParts) (ops : List LogOp) (ns : List NamedPair) → Each (λ family. Each (SameTable parts other) family.1.tables) ns → map (opened_named other ops) ns ≡ map (opened_named parts ops) ns
families_same parts other ops [] h = refl
families_same parts other ops (n ∷ ns) h = λ i. (n.0, record { id = n.1.id; counted = counted_entries n.1 ops; levels = levels_frame parts other n.1.tables h.0 i }) ∷ families_same parts other ops ns h.1 i

opened_same : (behind : Bool) (parts other : ImageParts) (named : Named) → SameNamed parts other named → image_opened behind other named ≡ image_opened behind parts named
opened_same behind parts other named same =
    ap {B = OpenedImage} (λ ops. record { behind = behind; last = max named.last (last_op 0 ops); families = map (opened_named other ops) named.families }) (ops_frame parts other named.logs same.logs)
    ∙ λ i. record { behind = behind; last = max named.last (last_op 0 (log_ops_of parts named.logs)); families = families_same parts other (log_ops_of parts named.logs) named.families same.tables i }

placed_same : (parts other : ImageParts) (ns : List NamedPair) → Each (λ family. Each (SameTable parts other) family.1.tables) ns → Each (SameTable parts other) (flat_map (λ family. family.1.tables) ns)
placed_same parts other [] h = tt
placed_same parts other (n ∷ ns) h = each_join (SameTable parts other) n.1.tables (flat_map (λ family. family.1.tables) ns) h.0 (placed_same parts other ns h.1)

unsound_same : (parts other : ImageParts) (placed : List Placement) → Each (SameTable parts other) placed → unsound other placed ≡ unsound parts placed
unsound_same parts other [] h = refl
unsound_same parts other (one ∷ placed) h =
    ap (λ file. map (λ (one : Placement). one.file) (cond (not (holds_table one file)) (one ∷ filter (λ one. not (is_sound other one)) placed) (filter (λ one. not (is_sound other one)) placed))) h.0 ∙ by (is_sound parts one) (unsound_same parts other placed h.1)
  where
    by : (b : Bool) → unsound other placed ≡ unsound parts placed
        → map (λ (one : Placement). one.file) (cond (not b) (one ∷ filter (λ one. not (is_sound other one)) placed) (filter (λ one. not (is_sound other one)) placed))
        ≡ map (λ (one : Placement). one.file) (cond (not b) (one ∷ filter (λ one. not (is_sound parts one)) placed) (filter (λ one. not (is_sound parts one)) placed))
    by true rest = rest
    by false rest = ap (λ l. one.file ∷ l) rest

named_same : (behind : Bool) (parts other : ImageParts) (named : Named) → SameNamed parts other named → named_opens behind other named ≡ named_opens behind parts named
named_same behind parts other named same =
    ap (λ o. opened_unless (image_damage other named o) o) (opened_same behind parts other named same)
    ∙ ap (λ found. opened_unless (option_or found (option_or (least_damage (unsound other (tables_named named))) rest)) (image_opened behind parts named)) (damage_frame parts other named.logs same.logs 0)
    ∙ ap (λ files. opened_unless (option_or (image_log_damage parts 0 named.logs) (option_or (least_damage files) rest)) (image_opened behind parts named)) (unsound_same parts other (tables_named named) (placed_same parts other named.families same.tables))
  where
    rest : Option ImageDamage
    rest = option_or (least_damage (flat_map (λ family. image_files_meeting_in family.1) (image_opened behind parts named).families)) (least_damage (flat_map (λ family. unfallen_in (image_opened behind parts named).last family.1) (image_opened behind parts named).families))

unrooted_opens : (flag : Bool) (parts : ImageParts) → IsUnrooted parts → image_opens flag parts ≡ Ok (new_opened flag)
unrooted_opens flag parts (inl h) = unmarked_is_new flag parts h.0 h.1
unrooted_opens flag parts (inr h) = unrooted_is_new flag parts h.0 h.1

pub within_opens : WithinOpens
within_opens flag parts other (inl h) =
    let rooted = h.3 in
    let only = h.4 in
    rooted_opens flag h.0 other h.1 h.2 (record {
      marked = only.marked ∙ rooted.marked;
      before = rooted.before;
      root = only.root ∙ rooted.root;
      records = rooted.records;
      reads = only.reads ∙ rooted.reads;
      begun = rooted.begun;
      read = rooted.read;
    })
    ∙ named_same h.0 parts other h.2 only.same
    ∙ sym (rooted_opens flag h.0 parts h.1 h.2 rooted)
within_opens flag parts other (inr h) = unrooted_opens flag other h.1 ∙ sym (unrooted_opens flag parts h.0)
