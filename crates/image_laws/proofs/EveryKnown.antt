-- After an opening the keys of what was read are known: as a set those of the core's walk are those of the image.
use Rattle.std.proofs.Common.{◌≡◌, ℕ, ◌<◌, ◌≤◌, Bool, true, false, cond, ◌||◌, List, [], ◌∷◌, ◌++◌, map, Some, is_eq, refl, sym, ap, subst, ◌∙◌}
use Rattle.std.specs.Prelude.{IsTrue}
use Rattle.std.specs.List.{flat_map, list_any, AllByRecursion as Each, AllZip}
use Rattle.st_base.specs.Bytes.{same, below, bytes_cmp}
use Rattle.st_base.specs.Map.{value_at}
use Rattle.st_base.specs.Order.{comes_before}
use Rattle.st_base.specs.declared.entry.Entry.{Entry}
use Rattle.st_base.specs.declared.entry.Mark.{Mark}
use Rattle.st_model.specs.declared.contents.Contents.{Contents}
use Rattle.st_model.specs.declared.contents.ContentsFamily.{ContentsFamily}
use Rattle.st_model.specs.declared.state.ModelFamily.{ModelFamily}
use Rattle.st_model.specs.Contents.{opened, opened_family, opened_families}
use Rattle.st_base.specs.Range.{keys_of}
use Rattle.st_model.specs.Sound.{KeysRise}
use Rattle.base_laws.proofs.Lists.{each_as}
use Rattle.core_laws.proofs.LevelLists.{map_append}
use Rattle.core_model.specs.Crash.{known_keys}
use Rattle.core_model.specs.Relation.{Represents}
use Rattle.core_model.specs.Picture.{FamilyView, Core, FileEntries, runs_of, tables_in, walk}
use Rattle.core_model.specs.RelationParts.{ForBoth, ReadsAs, HasModelMarks, HasRanges, HasKnownKeys, HasWritten, model_ids}
use Rattle.core_model.specs.Step.{put_in_memory}
use Rattle.store_image.specs.Image.{image_known_keys, image_keys}
use Rattle.store_image.specs.Opens.{OpenedImageFamily, OpenedImage, image_entries_of}
use Rattle.store_image.specs.Recover.{mem_of, recovered_view, recovered_core}
use Rattle.image_laws.proofs.EveryEdits.{pairs_of_all, all_of_pairs}
use Rattle.st_order.specs.Columns.{Pairwise}

-- the same keys, in any order
abbrev pub SameKeys : List (List ℕ) → List (List ℕ) → Type 0
SameKeys one other = (key : List ℕ) → list_any (λ known. same known key) one ≡ list_any (λ known. same known key) other

-- ---- of one family

any_join : {X : Type 0} (p : X → Bool) (xs ys : List X) → list_any p (xs ++ ys) ≡ (list_any p xs || list_any p ys)
any_join p [] ys = refl
any_join p (x ∷ xs) ys = ap (λ b. p x || b) (any_join p xs ys) ∙ assoc (p x)
  where
    assoc : (b : Bool) → (b || (list_any p xs || list_any p ys)) ≡ ((b || list_any p xs) || list_any p ys)
    assoc true = refl
    assoc false = refl

put_any : (p : List ℕ → Bool) (entry : Entry) (entries : List Entry) → list_any p (keys_of (put_in_memory entry entries)) ≡ (p entry.key || list_any p (keys_of entries))
put_any p entry [] = refl
put_any p entry (other ∷ others) = by (comes_before entry other) (put_any p entry others)
  where
    swap : (a b c : Bool) → (b || (a || c)) ≡ (a || (b || c))
    swap true true c = refl
    swap true false c = refl
    swap false b c = refl

    by : (b : Bool) → list_any p (keys_of (put_in_memory entry others)) ≡ (p entry.key || list_any p (keys_of others))
        → list_any p (keys_of (cond b (entry ∷ other ∷ others) (other ∷ put_in_memory entry others))) ≡ (p entry.key || (p other.key || list_any p (keys_of others)))
    by true rest = refl
    by false rest = ap (λ b. p other.key || b) rest ∙ swap (p entry.key) (p other.key) (list_any p (keys_of others))

mem_any : (p : List ℕ → Bool) (entries : List Entry) → list_any p (keys_of (mem_of entries)) ≡ list_any p (keys_of entries)
mem_any p [] = refl
mem_any p (entry ∷ entries) = put_any p entry (mem_of entries) ∙ ap (λ b. p entry.key || b) (mem_any p entries)

runs_keys : (tables : List FileEntries) → flat_map keys_of (runs_of tables) ≡ keys_of (image_entries_of tables)
runs_keys [] = refl
runs_keys (table ∷ tables) = ap (λ l. keys_of table.entries ++ l) (runs_keys tables) ∙ sym (map_append (λ (entry : Entry). entry.key) table.entries (image_entries_of tables))

family_keys : (family : OpenedImageFamily) → SameKeys (flat_map keys_of (walk (recovered_view family))) (image_keys family)
family_keys family key =
    any_join (λ known. same known key) (keys_of (mem_of family.counted)) (flat_map keys_of (runs_of (tables_in family.levels)))
    ∙ ap (λ b. b || list_any (λ known. same known key) (flat_map keys_of (runs_of (tables_in family.levels)))) (mem_any (λ known. same known key) family.counted)
    ∙ ap (λ l. list_any (λ known. same known key) (keys_of family.counted) || list_any (λ known. same known key) l) (runs_keys (tables_in family.levels))
    ∙ sym (any_join (λ known. same known key) (keys_of family.counted) (keys_of (image_entries_of (tables_in family.levels))))

all_keys : (families : List (List ℕ × OpenedImageFamily)) → AllZip SameKeys (map (λ named. flat_map keys_of (walk named.1)) (map {B = List ℕ × FamilyView} (λ named. (named.0, recovered_view named.1)) families)) (map (λ named. image_keys named.1) families)
all_keys [] = tt
all_keys (f ∷ fs) = (family_keys f.1, all_keys fs)

pub known_same : (capacity : ℕ) (o : OpenedImage) → AllZip SameKeys (known_keys (recovered_core capacity o)) (image_known_keys o)
known_same capacity o = all_keys o.families

-- ---- of a state only which keys are known may differ

record Alike (one other : ModelFamily) : Type 0 where
  same : other ≡ record one { known = other.known }
  keys : SameKeys one.known other.known

value_turned : (fs : List ContentsFamily) (k1 k2 : List (List (List ℕ))) → AllZip SameKeys k1 k2 → (name : List ℕ) (kept : ModelFamily) → value_at (opened_families k2 fs) name ≡ Some kept
    → (other : ModelFamily) × (value_at (opened_families k1 fs) name ≡ Some other) × Alike other kept
value_turned [] k1 k2 zip name kept there = absurd (cc there)
value_turned (f ∷ fs) [] (b ∷ k2) zip name kept there = absurd zip
value_turned (f ∷ fs) (a ∷ k1) [] zip name kept there = absurd zip
value_turned (f ∷ fs) [] [] zip name kept there = by (is_eq (bytes_cmp name f.name)) there (value_turned fs [] [] tt name kept)
  where
    by : (c : Bool) → cond c (Some (opened_family [] f).1) (value_at (opened_families [] fs) name) ≡ Some kept
        → (value_at (opened_families [] fs) name ≡ Some kept → (other : ModelFamily) × (value_at (opened_families [] fs) name ≡ Some other) × Alike other kept)
        → (other : ModelFamily) × (cond c (Some (opened_family [] f).1) (value_at (opened_families [] fs) name) ≡ Some other) × Alike other kept
    by true e rest = (kept, e, record { same = refl; keys = λ key. refl })
    by false e rest = rest e
value_turned (f ∷ fs) (a ∷ k1) (b ∷ k2) zip name kept there = by (is_eq (bytes_cmp name f.name)) there (value_turned fs k1 k2 zip.1 name kept)
  where
    by : (c : Bool) → cond c (Some (opened_family b f).1) (value_at (opened_families k2 fs) name) ≡ Some kept
        → (value_at (opened_families k2 fs) name ≡ Some kept → (other : ModelFamily) × (value_at (opened_families k1 fs) name ≡ Some other) × Alike other kept)
        → (other : ModelFamily) × (cond c (Some (opened_family a f).1) (value_at (opened_families k1 fs) name) ≡ Some other) × Alike other kept
    by true e rest =
        let is : (opened_family b f).1 ≡ kept = cc e in
        ((opened_family a f).1, refl, subst (Alike (opened_family a f).1) is (record { same = refl; keys = zip.0 }))
    by false e rest = rest e

both_turned : (core : Core) (c : Contents) (k1 k2 : List (List (List ℕ))) → AllZip SameKeys k1 k2 → (P Q : FamilyView → ModelFamily → Type 0) → ((view : FamilyView) (one other : ModelFamily) → Alike one other → P view one → Q view other)
    → ForBoth core (opened c k1) P → ForBoth core (opened c k2) Q
both_turned core c k1 k2 zip P Q turn h name view kept here there =
    let found = value_turned c.families k1 k2 zip name kept there in
    turn view found.0 kept found.2 (h name view found.0 here found.1)

-- what asks for no known key
opened_ids : (fs : List ContentsFamily) (k1 k2 : List (List (List ℕ))) → model_ids (opened_families k1 fs) ≡ model_ids (opened_families k2 fs)
opened_ids [] k1 k2 = refl
opened_ids (f ∷ fs) [] [] = refl
opened_ids (f ∷ fs) [] (b ∷ k2) = ap {B = List (List ℕ × ℕ)} (λ l. (f.name, f.id) ∷ l) (opened_ids fs [] k2)
opened_ids (f ∷ fs) (a ∷ k1) [] = ap {B = List (List ℕ × ℕ)} (λ l. (f.name, f.id) ∷ l) (opened_ids fs k1 [])
opened_ids (f ∷ fs) (a ∷ k1) (b ∷ k2) = ap {B = List (List ℕ × ℕ)} (λ l. (f.name, f.id) ∷ l) (opened_ids fs k1 k2)

abbrev Facts : Type 1
Facts = List ℕ → ℕ → List (List ℕ × Mark) → List Entry → Type 0

abbrev EachFact : Facts → List (List ℕ × ModelFamily) → Type 0
EachFact P families = Each (λ named. P named.0 named.1.id named.1.base named.1.writes) families

each_turned : (P : Facts) (fs : List ContentsFamily) (k1 k2 : List (List (List ℕ))) → EachFact P (opened_families k1 fs) → EachFact P (opened_families k2 fs)
each_turned P [] k1 k2 h = tt
each_turned P (f ∷ fs) [] [] h = h
each_turned P (f ∷ fs) [] (b ∷ k2) h = (h.0, each_turned P fs [] k2 h.1)
each_turned P (f ∷ fs) (a ∷ k1) [] h = (h.0, each_turned P fs k1 [] h.1)
each_turned P (f ∷ fs) (a ∷ k1) (b ∷ k2) h = (h.0, each_turned P fs k1 k2 h.1)

ranges_turned : (fs : List ContentsFamily) (k1 k2 : List (List (List ℕ))) → Each (λ named. named.1.ranges ≡ []) (opened_families k1 fs) → Each (λ named. named.1.ranges ≡ []) (opened_families k2 fs)
ranges_turned [] k1 k2 h = tt
ranges_turned (f ∷ fs) [] [] h = h
ranges_turned (f ∷ fs) [] (b ∷ k2) h = (h.0, ranges_turned fs [] k2 h.1)
ranges_turned (f ∷ fs) (a ∷ k1) [] h = (h.0, ranges_turned fs k1 [] h.1)
ranges_turned (f ∷ fs) (a ∷ k1) (b ∷ k2) h = (h.0, ranges_turned fs k1 k2 h.1)

abbrev PairFacts : (List ℕ → ℕ → List ℕ → ℕ → Type 0) → List (List ℕ × ModelFamily) → Type 0
PairFacts R families = Pairwise (λ one other. R one.0 one.1.id other.0 other.1.id) families

pairs_turned : (R : List ℕ → ℕ → List ℕ → ℕ → Type 0) (fs : List ContentsFamily) (k1 k2 : List (List (List ℕ))) → PairFacts R (opened_families k1 fs) → PairFacts R (opened_families k2 fs)
pairs_turned R [] k1 k2 h = tt
pairs_turned R (f ∷ fs) [] [] h = h
pairs_turned R (f ∷ fs) [] (b ∷ k2) h = (each_turned (λ name id base writes. R f.name f.id name id) fs [] k2 h.0, pairs_turned R fs [] k2 h.1)
pairs_turned R (f ∷ fs) (a ∷ k1) [] h = (each_turned (λ name id base writes. R f.name f.id name id) fs k1 [] h.0, pairs_turned R fs k1 [] h.1)
pairs_turned R (f ∷ fs) (a ∷ k1) (b ∷ k2) h = (each_turned (λ name id base writes. R f.name f.id name id) fs k1 k2 h.0, pairs_turned R fs k1 k2 h.1)

pub stands_turned : (core : Core) (c : Contents) (k1 k2 : List (List (List ℕ))) → AllZip SameKeys k1 k2 → Represents core (opened c k1) → Represents core (opened c k2)
stands_turned core c k1 k2 zip s = record {
  same = record {
    place = s.same.place;
    last = s.same.last;
    charge = s.same.charge;
    behind = s.same.behind;
    families = s.same.families ∙ opened_ids c.families k1 k2;
    next_family = s.same.next_family;
    live = s.same.live;
  };
  reads = both_turned core c k1 k2 zip (ReadsAs (opened c k1)) (ReadsAs (opened c k2)) (λ view one other a h. subst (ReadsAs (opened c k2) view) (sym a.same) h) s.reads;
  falls = s.falls;
  within = s.within;
  apart = s.apart;
  ranges = λ on. both_turned core c k1 k2 zip HasRanges HasRanges (λ view one other a h. subst (HasRanges view) (sym a.same) h) (s.ranges on);
  marks = λ on. both_turned core c k1 k2 zip (HasModelMarks (opened c k1)) (HasModelMarks (opened c k2)) (λ view one other a h. subst (HasModelMarks (opened c k2) view) (sym a.same) h) (s.marks on);
  known = both_turned core c k1 k2 zip HasKnownKeys HasKnownKeys (λ view one other a h. each_as (Each (λ (entry : Entry). IsTrue (list_any (λ known. same known entry.key) one.known))) (Each (λ entry. IsTrue (list_any (λ known. same known entry.key) other.known)))
      (λ run k. each_as (λ (entry : Entry). IsTrue (list_any (λ known. same known entry.key) one.known)) (λ entry. IsTrue (list_any (λ known. same known entry.key) other.known)) (λ entry e. sym (a.keys entry.key) ∙ e) run k) (walk view) h) s.known;
  written = both_turned core c k1 k2 zip HasWritten HasWritten (λ view one other a h. subst (HasWritten view) (sym a.same) h) s.written;
  jobs = s.jobs;
  kept = s.kept;
  turn = s.turn;
  views = s.views;
  files = s.files;
  noted = s.noted;
  sound = record {
    names = all_of_pairs (λ (one other : List ℕ × ModelFamily). IsTrue (below one.0 other.0)) (opened_families k2 c.families)
        (pairs_turned (λ name n other m. IsTrue (below name other)) c.families k1 k2 (pairs_of_all (λ (one other : List ℕ × ModelFamily). IsTrue (below one.0 other.0)) (opened_families k1 c.families) s.sound.names));
    bases = each_turned (λ name id base writes. KeysRise base) c.families k1 k2 s.sound.bases;
    writes = each_turned (λ name id base writes. Each (λ (write : Entry). write.number ≤ c.last) writes) c.families k1 k2 s.sound.writes;
    live = s.sound.live;
    snapshots = s.sound.snapshots;
    taken = s.sound.taken;
    above = s.sound.above;
    ids = all_of_pairs (λ (one other : List ℕ × ModelFamily). one.1.id ≡ other.1.id → ⊥) (opened_families k2 c.families)
        (pairs_turned (λ name n other m. n ≡ m → ⊥) c.families k1 k2 (pairs_of_all (λ (one other : List ℕ × ModelFamily). one.1.id ≡ other.1.id → ⊥) (opened_families k1 c.families) s.sound.ids));
    next = each_turned (λ name id base writes. id < (opened c k2).next_family) c.families k1 k2 s.sound.next;
    unranged = λ off. ranges_turned c.families k1 k2 (s.sound.unranged off);
  };
}
