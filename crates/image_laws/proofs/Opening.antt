-- An image that is tied to the core opens to the contents of the state that the core stands for.
use Rattle.std.proofs.Common.{◌≡◌, ℕ, Bool, true, false, cond, not, List, [], ◌∷◌, ◌++◌, map, Some, None, Ok, Err, is_eq, refl, sym, ap, subst, ◌∙◌, arith}
use Rattle.std.specs.Prelude.{IsTrue, IsFalse, unwrap_or, slice_get, Contains}
use Rattle.std.specs.Option.{option_or}
use Rattle.std.specs.Map.{keys_of}
use Rattle.std.specs.List.{flat_map, AllByRecursion as Each, AllZip}
use Rattle.st_base.specs.Bytes.{bytes_cmp}
use Rattle.st_base.specs.Map.{value_at}
use Rattle.st_base.proofs.Same.{same_self}
use Rattle.st_model.specs.declared.state.ModelFamily.{ModelFamily}
use Rattle.st_model.specs.declared.state.ModelState.{ModelState}
use Rattle.st_model.specs.Contents.{contents, as_entry, sorted_ranges, contents_of_family as model_family}
use Rattle.st_model.specs.Sound.{KeysRise, WritesWithin}
use Rattle.base_laws.proofs.Keys.{at_is}
use Rattle.base_laws.proofs.Lists.{each_join, filter_none}
use Rattle.base_laws.proofs.Maps.{found_each}
use Rattle.core_model.specs.Relation.{Represents}
use Rattle.core_model.specs.Picture.{FamilyView, Core, table_range, find_mark}
use Rattle.st_model.specs.Read.{value_of}
use Rattle.st_model.specs.Early.{read_numbers}
use Rattle.core_model.specs.RelationParts.{HasRanges, NumbersFall, NumbersWithin, LevelsApart, ids_of, model_ids}
use Rattle.store_image.specs.Claims.{TiedOpens}
use Rattle.manifest_edits.specs.Edits.{NamedFamily, Named, Placement, tables_named, GroupRecord}
use Rattle.store_image.specs.Image.{image_contents, image_contents_of_family, image_ranges, image_mark}
use Rattle.store_image.specs.Opens.{OpenedImageFamily, image_opens, image_opened, image_family, image_damage, unsound, least_damage, is_sound, image_files_meeting_in, unfallen_in, last_root_record, root_opens, manifest_opens, named_opens, reading_opens, new_opened, opened_unless}
use Rattle.store_image.specs.Parts.{ImageParts, log_ops_of}
use Rattle.store_image.specs.Tie.{EngineFiles, IsTiedToImage, IsTiedFamily, HoldsNamed}
use Rattle.image_laws.proofs.Best.{HasColumns, mark_found, levels_seven, levels_lower, IsSeven, IsLower}
use Rattle.image_laws.proofs.Maps.{AreRising, past_first}
use Rattle.image_laws.proofs.Same.{HasReads, marks_same, rising_keys}
use Rattle.image_laws.proofs.Checks.{no_meeting, no_unfallen}
use Rattle.manifest_edits.specs.Logs.{LogOp, LogFound}

-- ---- families, one by one

has_columns : (parts : ImageParts) (ops : List LogOp) (last : ℕ) (here : List ℕ × FamilyView) (there : List ℕ × NamedFamily) → IsTiedFamily parts ops last here there → HasColumns (image_family parts ops there.1) here.1
has_columns parts ops last here there tied = record {
  seven = subst IsSeven tied.levels (levels_seven parts there.1.tables);
  lower = subst IsLower tied.levels (levels_lower parts there.1.tables);
  levels = tied.levels;
  memory = tied.memory;
}

value_first : {X : Type 0} (pair : List ℕ × X) (pairs : List (List ℕ × X)) → value_at (pair ∷ pairs) pair.0 ≡ Some pair.1
value_first pair pairs = ap (λ b. cond b (Some pair.1) (value_at pairs pair.0)) (at_is pair.0 pair.0 ∙ same_self pair.0)

-- what the map has behind its first pair, it has
value_behind : {X : Type 0} (pair : List ℕ × X) (pairs : List (List ℕ × X)) (name : List ℕ) (x : X) → AreRising (keys_of (pair ∷ pairs)) → value_at pairs name ≡ Some x → value_at (pair ∷ pairs) name ≡ Some x
value_behind pair pairs name x rises there = go (is_eq (bytes_cmp name pair.0)) refl
  where
    go : (b : Bool) → is_eq (bytes_cmp name pair.0) ≡ b → value_at (pair ∷ pairs) name ≡ Some x
    go true e = let nothing : None ≡ Some x = sym (past_first name pair pairs rises e) ∙ there in absurd (cc nothing)
    go false e = ap (λ b. cond b (Some pair.1) (value_at pairs name)) e ∙ there

abbrev SameName : List ℕ × FamilyView → List ℕ × ModelFamily → Type 0
SameName here kept = (here.0 ≡ kept.0) × (here.1.id ≡ kept.1.id)

head_same : {X : Type 0} (x y : X) (xs ys : List X) → x ∷ xs ≡ y ∷ ys → (x ≡ y) × (xs ≡ ys)
head_same x y xs ys e = (cc e, cc e)

same_names : (cs : List (List ℕ × FamilyView)) (ms : List (List ℕ × ModelFamily)) → ids_of cs ≡ model_ids ms → AllZip SameName cs ms
same_names [] [] e = tt
same_names [] (m ∷ ms) e = absurd (cc e)
same_names (c ∷ cs) [] e = absurd (cc e)
same_names (c ∷ cs) (m ∷ ms) e =
    let parts = head_same {X = List ℕ × ℕ} (c.0, c.1.id) (m.0, m.1.id) (ids_of cs) (model_ids ms) e in
    ((ap (λ (pair : List ℕ × ℕ). pair.0) parts.0, ap (λ (pair : List ℕ × ℕ). pair.1) parts.0), same_names cs ms parts.1)

-- what holds of each name holds pair by pair
zipped : (R : FamilyView → ModelFamily → Type 0) (cs : List (List ℕ × FamilyView)) (ms : List (List ℕ × ModelFamily)) → AllZip SameName cs ms → AreRising (keys_of cs) → AreRising (keys_of ms)
    → ((name : List ℕ) (family : FamilyView) (kept : ModelFamily) → value_at cs name ≡ Some family → value_at ms name ≡ Some kept → R family kept)
    → AllZip (λ here kept. R here.1 kept.1) cs ms
zipped R [] [] names rise also h = tt
zipped R [] (m ∷ ms) names rise also h = names
zipped R (c ∷ cs) [] names rise also h = names
zipped R (c ∷ cs) (m ∷ ms) names rise also h = (
  h c.0 c.1 m.1 (value_first c cs) (ap (value_at (m ∷ ms)) names.0.0 ∙ value_first m ms),
  zipped R cs ms names.1 rise.1 also.1 (λ name family kept here there. h name family kept (value_behind c cs name family rise here) (value_behind m ms name kept also there)),
)

keys_same : (cs : List (List ℕ × FamilyView)) (ms : List (List ℕ × ModelFamily)) → AllZip SameName cs ms → keys_of ms ≡ keys_of cs
keys_same [] [] names = refl
keys_same [] (m ∷ ms) names = absurd names
keys_same (c ∷ cs) [] names = absurd names
keys_same (c ∷ cs) (m ∷ ms) names = λ i. sym names.0.0 i ∷ keys_same cs ms names.1 i

-- ---- contents

-- all that is needed of one family
pub record FitsFamily (behind : Bool) (last : ℕ) (family : FamilyView) (kept : ModelFamily) : Type 0 where
  pub reads : (opened : OpenedImageFamily) → HasColumns opened family → HasReads behind last opened kept
  pub ranges : IsTrue behind → HasRanges family kept
  pub none : IsFalse behind → kept.ranges ≡ []
  pub writes : WritesWithin last kept
  pub base : KeysRise kept.base

ranges_same : (behind : Bool) (opened : OpenedImageFamily) (family : FamilyView) (kept : ModelFamily) → opened.levels ≡ family.levels → (IsTrue behind → HasRanges family kept) → (IsFalse behind → kept.ranges ≡ []) → image_ranges behind opened ≡ sorted_ranges kept.ranges
ranges_same true opened family kept levels ranges none = ap (λ levels. map table_range (unwrap_or (slice_get levels 6) [])) levels ∙ ranges refl
ranges_same false opened family kept levels ranges none = ap sorted_ranges (sym (none refl))

family_same : (behind : Bool) (last : ℕ) (parts : ImageParts) (ops : List LogOp) (number : ℕ) (here : List ℕ × FamilyView) (there : List ℕ × NamedFamily) (kept : List ℕ × ModelFamily)
    → IsTiedFamily parts ops number here there → SameName here kept → FitsFamily behind last here.1 kept.1
    → image_contents_of_family behind (there.0, image_family parts ops there.1) ≡ model_family behind kept
family_same behind last parts ops number here there kept tied names fits =
    let has = has_columns parts ops number here there tied in
    let opened = image_family parts ops there.1 in
    let marks = ap (map as_entry) (marks_same behind last opened kept.1 (fits.reads opened has) fits.writes fits.base) in
    let ids = tied.id ∙ names.1 in
    let names_ = tied.name ∙ names.0 in
    let ranges = ranges_same behind opened here.1 kept.1 tied.levels fits.ranges fits.none in
    λ i. record { id = ids i; name = names_ i; marks = marks i; ranges = ranges i }

families_same : (behind : Bool) (last : ℕ) (parts : ImageParts) (ops : List LogOp) (number : ℕ) (cs : List (List ℕ × FamilyView)) (ns : List (List ℕ × NamedFamily)) (ms : List (List ℕ × ModelFamily))
    → AllZip (IsTiedFamily parts ops number) cs ns → AllZip SameName cs ms → AllZip (λ here kept. FitsFamily behind last here.1 kept.1) cs ms
    → map (image_contents_of_family behind) (map (λ family. (family.0, image_family parts ops family.1)) ns) ≡ map (model_family behind) ms
families_same behind last parts ops number [] [] [] tied names fits = refl
families_same behind last parts ops number [] [] (m ∷ ms) tied names fits = absurd names
families_same behind last parts ops number [] (n ∷ ns) ms tied names fits = absurd tied
families_same behind last parts ops number (c ∷ cs) [] ms tied names fits = absurd tied
families_same behind last parts ops number (c ∷ cs) (n ∷ ns) [] tied names fits = absurd names
families_same behind last parts ops number (c ∷ cs) (n ∷ ns) (m ∷ ms) tied names fits =
    let first = family_same behind last parts ops number c n m tied.0 names.0 fits.0 in
    let rest = families_same behind last parts ops number cs ns ms tied.1 names.1 fits.1 in
    λ i. first i ∷ rest i

-- ---- the core's facts

fits_at : (core : Core) (state : ModelState) → Represents core state → (name : List ℕ) (family : FamilyView) (kept : ModelFamily) → value_at core.families name ≡ Some family → value_at state.families name ≡ Some kept → FitsFamily core.behind core.last family kept
fits_at core state stands name family kept here there = record {
  reads = λ opened has. record {
    reads = λ key. ap value_of (found opened has key) ∙ stands.reads name family kept here there core.last key now;
    marks = λ flag key. found opened has key ∙ stands.marks flag name family kept here there core.last key now;
  };
  ranges = λ flag. stands.ranges flag name family kept here there;
  none = λ off. found_each (λ (one : ModelFamily). one.ranges ≡ []) state.families name kept (stands.sound.unranged (sym stands.same.behind ∙ off)) there;
  writes = subst (λ last. WritesWithin last kept) (sym stands.same.last) (found_each (WritesWithin state.last) state.families name kept stands.sound.writes there);
  base = found_each (λ (one : ModelFamily). KeysRise one.base) state.families name kept stands.sound.bases there;
}
  where
    now : Contains (read_numbers state) core.last
    now = (0, omega arith, sym stands.same.last)

    found : (opened : OpenedImageFamily) → HasColumns opened family → (key : List ℕ) → image_mark opened key ≡ find_mark family core.last key
    found opened has key =
        mark_found opened family core.last key has (found_each NumbersFall core.families name family stands.falls here) (found_each (NumbersWithin core.last) core.families name family stands.within here)

-- ---- no damage

sound_none : (parts : ImageParts) (placed : List Placement) → Each (λ one. IsTrue (is_sound parts one)) placed → unsound parts placed ≡ []
sound_none parts placed h = ap (map (λ (one : Placement). one.file)) (filter_none (λ one. not (is_sound parts one)) placed (each_not placed h))
  where
    each_not : (placed : List Placement) → Each (λ one. IsTrue (is_sound parts one)) placed → Each (λ one. not (is_sound parts one) ≡ false) placed
    each_not [] h = tt
    each_not (one ∷ more) h = (ap not h.0, each_not more h.1)

placed_sound : (parts : ImageParts) (ops : List LogOp) (last : ℕ) (cs : List (List ℕ × FamilyView)) (ns : List (List ℕ × NamedFamily)) → AllZip (IsTiedFamily parts ops last) cs ns
    → Each (λ one. IsTrue (is_sound parts one)) (flat_map (λ family. family.1.tables) ns)
placed_sound parts ops last [] [] tied = tt
placed_sound parts ops last [] (n ∷ ns) tied = absurd tied
placed_sound parts ops last (c ∷ cs) [] tied = absurd tied
placed_sound parts ops last (c ∷ cs) (n ∷ ns) tied = each_join (λ one. IsTrue (is_sound parts one)) n.1.tables (flat_map (λ family. family.1.tables) ns) tied.0.tables (placed_sound parts ops last cs ns tied.1)

abbrev opened_named : ImageParts → List LogOp → List ℕ × NamedFamily → List ℕ × OpenedImageFamily
opened_named parts ops family = (family.0, image_family parts ops family.1)

none_meets : (parts : ImageParts) (ops : List LogOp) (last : ℕ) (cs : List (List ℕ × FamilyView)) (ns : List (List ℕ × NamedFamily)) → AllZip (IsTiedFamily parts ops last) cs ns → Each (λ named. LevelsApart named.1) cs
    → flat_map (λ family. image_files_meeting_in family.1) (map (opened_named parts ops) ns) ≡ []
none_meets parts ops last [] [] tied apart = refl
none_meets parts ops last [] (n ∷ ns) tied apart = absurd tied
none_meets parts ops last (c ∷ cs) [] tied apart = absurd tied
none_meets parts ops last (c ∷ cs) (n ∷ ns) tied apart =
    ap (λ l. l ++ flat_map (λ family. image_files_meeting_in family.1) (map (opened_named parts ops) ns)) (no_meeting (image_family parts ops n.1) c.1 (has_columns parts ops last c n tied.0) apart.0)
    ∙ none_meets parts ops last cs ns tied.1 apart.1

all_fall : (parts : ImageParts) (ops : List LogOp) (number last : ℕ) (cs : List (List ℕ × FamilyView)) (ns : List (List ℕ × NamedFamily)) → AllZip (IsTiedFamily parts ops number) cs ns
    → Each (λ named. NumbersFall named.1) cs → Each (λ named. NumbersWithin last named.1) cs → flat_map (λ family. unfallen_in last family.1) (map (opened_named parts ops) ns) ≡ []
all_fall parts ops number last [] [] tied falls within = refl
all_fall parts ops number last [] (n ∷ ns) tied falls within = absurd tied
all_fall parts ops number last (c ∷ cs) [] tied falls within = absurd tied
all_fall parts ops number last (c ∷ cs) (n ∷ ns) tied falls within =
    ap (λ l. l ++ flat_map (λ family. unfallen_in last family.1) (map (opened_named parts ops) ns)) (no_unfallen (image_family parts ops n.1) c.1 last (has_columns parts ops number c n tied.0) falls.0 within.0)
    ∙ all_fall parts ops number last cs ns tied.1 falls.1 within.1

pub no_damage : (core : Core) (state : ModelState) (parts : ImageParts) (named : Named) → Represents core state → HoldsNamed core parts named → image_damage parts named (image_opened core.behind parts named) ≡ None
no_damage core state parts named stands holds =
    ap (λ found. option_or found (option_or (least_damage (unsound parts (tables_named named))) (option_or (least_damage meets_) (least_damage falls_)))) holds.logs
    ∙ ap (λ files. option_or (least_damage files) (option_or (least_damage meets_) (least_damage falls_))) (sound_none parts (tables_named named) (placed_sound parts (log_ops_of parts named.logs) core.last core.families named.families holds.families))
    ∙ ap (λ files. option_or (least_damage files) (least_damage falls_)) (none_meets parts (log_ops_of parts named.logs) core.last core.families named.families holds.families stands.apart)
    ∙ ap least_damage (ap (λ last. flat_map (λ family. unfallen_in last family.1) (map (opened_named parts (log_ops_of parts named.logs)) named.families)) holds.last
    ∙ all_fall parts (log_ops_of parts named.logs) core.last core.last core.families named.families holds.families stands.falls stands.within)
  where
    meets_ : List ℕ
    meets_ = flat_map (λ family. image_files_meeting_in family.1) (image_opened core.behind parts named).families

    falls_ : List ℕ
    falls_ = flat_map (λ family. unfallen_in (image_opened core.behind parts named).last family.1) (image_opened core.behind parts named).families

-- ---- the root and the manifest

last_is : {X : Type 0} (y : X) (ys : List X) (x : X) → last_root_record y (ys ++ x ∷ []) ≡ x
last_is y [] x = refl
last_is y (z ∷ ys) x = last_is z ys x

pub root_at : (flag : Bool) (parts : ImageParts) (xs : List (ℕ × Bool)) (x : ℕ × Bool) → root_opens flag parts (LogFound (xs ++ x ∷ []) None) ≡ manifest_opens x.1 parts x.0 (parts.manifest x.0)
root_at flag parts [] x = refl
root_at flag parts (y ∷ ys) x = ap {A = ℕ × Bool} (λ counts. manifest_opens counts.1 parts counts.0 (parts.manifest counts.0)) (last_is y ys x)

pub named_at : (core : Core) (files : EngineFiles) {begun : List GroupRecord} (parts : ImageParts) (flag : Bool) → IsTiedToImage core files begun parts → image_opens flag parts ≡ named_opens core.behind parts files.named
named_at core files parts flag tied =
    ap (λ b. cond b (root_opens flag parts parts.root) (cond parts.more (Err (record { file = 1; at = 0 })) (Ok (new_opened flag)))) tied.marked
    ∙ ap (root_opens flag parts) tied.root
    ∙ root_at flag parts files.root files.root_last
    ∙ ap {A = ℕ × Bool} (λ counts. manifest_opens counts.1 parts counts.0 (parts.manifest counts.0)) tied.counts
    ∙ ap (manifest_opens core.behind parts files.manifest) tied.manifest
    ∙ ap (reading_opens core.behind parts files.manifest None) tied.read

pub tied_opens : TiedOpens
tied_opens core state files begun parts flag stands tied = (
  named_at core files parts flag tied ∙ ap (λ found. opened_unless found (image_opened core.behind parts files.named)) (no_damage core state parts files.named stands tied.holds),
  λ i. record { last = (tied.holds.last ∙ stands.same.last) i; behind = stands.same.behind i; families = families i },
)
  where
    names : AllZip SameName core.families state.families
    names = same_names core.families state.families stands.same.families

    rise : AreRising (keys_of state.families)
    rise = rising_keys state.families stands.sound.names

    also : AreRising (keys_of core.families)
    also = subst AreRising (keys_same core.families state.families names) rise

    families : (image_contents (image_opened core.behind parts files.named)).families ≡ (contents state).families
    families =
        families_same core.behind core.last parts (log_ops_of parts files.named.logs) core.last core.families files.named.families state.families tied.holds.families names
        (zipped (FitsFamily core.behind core.last) core.families state.families names also rise (fits_at core state stands))
        ∙ ap (λ behind. map (model_family behind) state.families) stands.same.behind
