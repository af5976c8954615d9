-- A stop and an opening are the core's own crash: what an opening reads of an image that is tied to the core, and the core itself, are the same after a
-- crash, since a crash sees of memtables their columns alone.
use Rattle.std.proofs.Common.{◌≡◌, ℕ, ◌+◌, ◌≤◌, ◌<◌, Bool, true, false, cond, List, [], ◌∷◌, ◌++◌, map, filter, length, None, Result, Ok, refl, sym, ap, ap₂, subst, ◌∙◌, inl, inr, append-nil, arith, suc}
use Rattle.std.specs.Prelude.{MatchBool, nat_le, nat_lt, max, fold, flat_map, reverse, slice_get, unwrap_or, set}
use Rattle.std.specs.List.{list_any, AllByRecursion as Each, AllZip}
use Rattle.std.specs.Option.{option_or}
use Rattle.std.proofs.lemmas.Bool.{false≢true, le-leb}
use Rattle.st_base.specs.Bytes.{same}
use Rattle.st_base.specs.Entries.{add_charge, entry_charge, last_mark}
use Rattle.st_base.specs.Map.{value_at}
use Rattle.st_base.specs.declared.entry.Entry.{Entry}
use Rattle.st_base.specs.declared.entry.Mark.{Mark}
use Rattle.st_base.proofs.Same.{same_self}
use Rattle.st_model.specs.Contents.{is_kept}
use Rattle.st_model.specs.declared.state.ModelState.{ModelState}
use Rattle.core_laws.proofs.ToldByColumns.{column_joined, maps_are_one_of, marks_set}
use Rattle.core_model.specs.Crash.{newest_of, opened_charge, IsFlushedByCrash, rank, Reopens, IsCrashed}
use Rattle.core_model.specs.Event.{Crashed}
use Rattle.core_model.specs.declared.reply.CoreReply.TheVariants.{Done}
use Rattle.core_model.specs.Picture.{Core, FamilyView, FileEntries, memories, runs_of, tables_in, walk}
use Rattle.core_model.specs.Relation.{Represents}
use Rattle.core_model.specs.RelationParts.{IsView}
use Rattle.core_model.specs.Run.{IsCoreStep}
use Rattle.core_model.specs.Step.{has_memory, IsNow}
use Rattle.manifest_edits.specs.Edits.{NamedFamily, GroupRecord}
use Rattle.manifest_edits.specs.Logs.{LogOp}
use Rattle.store_image.specs.Opens.{ImageDamage, OpenedImage, OpenedImageFamily, image_family, image_log_damage, image_opened, image_opens}
use Rattle.store_image.specs.Parts.{ImageParts, counted_entries, log_ops_of}
use Rattle.store_image.specs.Recover.{mem_of, recovered_core, recovered_view}
use Rattle.store_image.specs.Tie.{EngineFiles, IsTiedFamily, IsTiedToImage}
use Rattle.image_laws.specs.Laws.{ReopeningIsCrash}
use Rattle.image_laws.proofs.EveryStands.{newest_rises}
use Rattle.image_laws.proofs.Opening.{tied_opens}
use Rattle.image_laws.proofs.Recovered.{counted_falls, mem_column}
use Rattle.image_laws.proofs.RecoveredReads.{filter_reverse}
use Rattle.image_laws.proofs.Reopen.{column_empty, either, run_empty}
use Rattle.st_order.specs.Columns.{of_key, column}

-- ---- two families that a crash leaves the same

abbrev Pair : Type 0
Pair = List ℕ × FamilyView

record IsReadAs (one other : Pair) : Type 0 where
  pub name : one.0 ≡ other.0
  pub id : one.1.id ≡ other.1.id
  pub levels : one.1.levels ≡ other.1.levels
  pub memory : (key : List ℕ) → column key (memories one.1) ≡ column key (memories other.1)
  pub has : has_memory one ≡ has_memory other
  pub none : has_memory one ≡ false → one.1 ≡ other.1

turned : (one other : Pair) → IsReadAs one other → IsReadAs other one
turned one other is = record {
  name = sym is.name;
  id = sym is.id;
  levels = sym is.levels;
  memory = λ key. sym (is.memory key);
  has = sym is.has;
  none = λ e. sym (is.none (is.has ∙ e));
}

all_turned : (ones others : List Pair) → AllZip IsReadAs ones others → AllZip IsReadAs others ones
all_turned [] [] zip = tt
all_turned [] (other ∷ others) zip = absurd zip
all_turned (one ∷ ones) [] zip = absurd zip
all_turned (one ∷ ones) (other ∷ others) zip = (turned one other zip.0, all_turned ones others zip.1)

-- ---- newest marks are told by columns

newest_value : (runs : List (List Entry)) (key : List ℕ) → value_at (newest_of runs) key ≡ option_or (last_mark (reverse (column key runs))) None
newest_value runs key =
    marks_set (reverse (flat_map (λ (entries : List Entry). entries) runs)) [] key
    ∙ ap (λ (l : List Entry). option_or (last_mark l) None) (filter_reverse (λ (entry : Entry). same entry.key key) (flat_map (λ (entries : List Entry). entries) runs) ∙ ap reverse (column_joined key runs))

newest_told : (one other : List (List Entry)) → ((key : List ℕ) → column key one ≡ column key other) → newest_of one ≡ newest_of other
newest_told one other same_columns = maps_are_one_of (newest_of one) (newest_of other) (newest_rises one) (newest_rises other)
    (λ key. newest_value one key ∙ ap (λ (l : List Entry). option_or (last_mark (reverse l)) None) (same_columns key) ∙ sym (newest_value other key))

columns_join : (key : List ℕ) (xs ys : List (List Entry)) → column key (xs ++ ys) ≡ column key xs ++ column key ys
columns_join key [] ys = refl
columns_join key (x ∷ xs) ys = ap (λ (l : List Entry). of_key key x ++ l) (columns_join key xs ys) ∙ sym (assoc (of_key key x) (column key xs) (column key ys))
  where
    assoc : (a b c : List Entry) → (a ++ b) ++ c ≡ a ++ (b ++ c)
    assoc [] b c = refl
    assoc (e ∷ a) b c = ap (λ (l : List Entry). e ∷ l) (assoc a b c)

walk_newest : (one other : Pair) → IsReadAs one other → newest_of (walk one.1) ≡ newest_of (walk other.1)
walk_newest one other is = newest_told (walk one.1) (walk other.1) (λ key.
    columns_join key (memories one.1) (runs_of (tables_in one.1.levels))
    ∙ ap₂ (λ (a b : List Entry). a ++ b) (is.memory key) (ap (λ levels. column key (runs_of (tables_in levels))) is.levels)
    ∙ sym (columns_join key (memories other.1) (runs_of (tables_in other.1.levels))))

-- ---- what a crash takes of all families

abbrev charge_of_family : Bool → ℕ → Pair → ℕ
charge_of_family behind charge named =
    fold (λ (sum : ℕ) (pair : List ℕ × Mark). cond (is_kept behind pair.1) (add_charge sum (entry_charge pair.0 pair.1)) sum) charge (newest_of (walk named.1))

charges_alike : (behind : Bool) (charge : ℕ) (ones others : List Pair) → AllZip IsReadAs ones others → fold (charge_of_family behind) charge ones ≡ fold (charge_of_family behind) charge others
charges_alike behind charge [] [] zip = refl
charges_alike behind charge [] (other ∷ others) zip = absurd zip
charges_alike behind charge (one ∷ ones) [] zip = absurd zip
charges_alike behind charge (one ∷ ones) (other ∷ others) zip =
    charges_alike behind (charge_of_family behind charge one) ones others zip.1
    ∙ ap (λ n. fold (charge_of_family behind) n others)
    (ap (λ (marks : List (List ℕ × Mark)). fold (λ (sum : ℕ) (pair : List ℕ × Mark). cond (is_kept behind pair.1) (add_charge sum (entry_charge pair.0 pair.1)) sum) charge marks) (walk_newest one other zip.0))

greatest_alike : (n : ℕ) (ones others : List Pair) → AllZip IsReadAs ones others → fold (λ greatest (named : Pair). max greatest named.1.id) n ones ≡ fold (λ greatest (named : Pair). max greatest named.1.id) n others
greatest_alike n [] [] zip = refl
greatest_alike n [] (other ∷ others) zip = absurd zip
greatest_alike n (one ∷ ones) [] zip = absurd zip
greatest_alike n (one ∷ ones) (other ∷ others) zip =
    greatest_alike (max n one.1.id) ones others zip.1 ∙ ap (λ id. fold (λ greatest (named : Pair). max greatest named.1.id) (max n id) others) zip.0.id

ids_alike : (ones others : List Pair) → AllZip IsReadAs ones others → map (λ (named : Pair). named.1.id) (filter has_memory ones) ≡ map (λ (named : Pair). named.1.id) (filter has_memory others)
ids_alike [] [] zip = refl
ids_alike [] (other ∷ others) zip = absurd zip
ids_alike (one ∷ ones) [] zip = absurd zip
ids_alike (one ∷ ones) (other ∷ others) zip =
    go (has_memory one) (has_memory other) zip.0.has (ids_alike ones others zip.1)
  where
    go : (b c : Bool) → b ≡ c → map (λ (named : Pair). named.1.id) (filter has_memory ones) ≡ map (λ (named : Pair). named.1.id) (filter has_memory others)
        → map (λ (named : Pair). named.1.id) (cond b (one ∷ filter has_memory ones) (filter has_memory ones)) ≡ map (λ (named : Pair). named.1.id) (cond c (other ∷ filter has_memory others) (filter has_memory others))
    go true true e rest = ap₂ (λ (id : ℕ) (ids : List ℕ). id ∷ ids) zip.0.id rest
    go true false e rest = absurd (false≢true (sym e))
    go false true e rest = absurd (false≢true e)
    go false false e rest = rest

counts_alike : (ones others : List Pair) → AllZip IsReadAs ones others → length (filter has_memory ones) ≡ length (filter has_memory others)
counts_alike [] [] zip = refl
counts_alike [] (other ∷ others) zip = absurd zip
counts_alike (one ∷ ones) [] zip = absurd zip
counts_alike (one ∷ ones) (other ∷ others) zip = go (has_memory one) (has_memory other) zip.0.has (counts_alike ones others zip.1)
  where
    go : (b c : Bool) → b ≡ c → length (filter has_memory ones) ≡ length (filter has_memory others)
        → length (cond b (one ∷ filter has_memory ones) (filter has_memory ones)) ≡ length (cond c (other ∷ filter has_memory others) (filter has_memory others))
    go true true e rest = ap suc rest
    go true false e rest = absurd (false≢true (sym e))
    go false true e rest = absurd (false≢true e)
    go false false e rest = rest

tables_alike : (ones others : List Pair) → AllZip IsReadAs ones others → flat_map (λ (named : Pair). tables_in named.1.levels) ones ≡ flat_map (λ (named : Pair). tables_in named.1.levels) others
tables_alike [] [] zip = refl
tables_alike [] (other ∷ others) zip = absurd zip
tables_alike (one ∷ ones) [] zip = absurd zip
tables_alike (one ∷ ones) (other ∷ others) zip = ap₂ (λ (a b : List FileEntries). a ++ b) (ap tables_in zip.0.levels) (tables_alike ones others zip.1)

-- ---- the crash of one is the crash of the other

record IsCoreReadAs (one other : Core) : Type 0 where
  pub behind : one.behind ≡ other.behind
  pub capacity : one.capacity ≡ other.capacity
  pub last : one.last ≡ other.last
  pub families : AllZip IsReadAs one.families other.families

core_turned : (one other : Core) → IsCoreReadAs one other → IsCoreReadAs other one
core_turned one other is = record { behind = sym is.behind; capacity = sym is.capacity; last = sym is.last; families = all_turned one.families other.families is.families }

family_as : (first n m : ℕ) (one other after : Pair) → n ≡ m → IsReadAs one other
    → (one.0 ≡ after.0) × MatchBool (has_memory one) (IsFlushedByCrash (first + n) one.1 after.1) (after.1 ≡ one.1)
    → (other.0 ≡ after.0) × MatchBool (has_memory other) (IsFlushedByCrash (first + m) other.1 after.1) (after.1 ≡ other.1)
family_as first n m one other after ranked is h = (sym is.name ∙ h.0, subst (λ b. MatchBool b (IsFlushedByCrash (first + m) other.1 after.1) (after.1 ≡ other.1)) is.has (go (has_memory one) refl h.1))
  where
    go : (b : Bool) → has_memory one ≡ b → MatchBool b (IsFlushedByCrash (first + n) one.1 after.1) (after.1 ≡ one.1) → MatchBool b (IsFlushedByCrash (first + m) other.1 after.1) (after.1 ≡ other.1)
    go true e flushed = record {
      length = flushed.length;
      entries = flushed.entries;
      joined = record { ordered = flushed.joined.ordered; columns = λ key. flushed.joined.columns key ∙ is.memory key };
      view = flushed.view ∙ λ i. record {
        id = is.id i;
        mem = [];
        sealed = [];
        levels = set (is.levels i) 0 (record { file = first + ranked i; length = flushed.length; entries = flushed.entries } ∷ unwrap_or (slice_get (is.levels i) 0) []);
      };
    }
    go false e same_view = same_view ∙ is.none e

families_as : (first : ℕ) (one other : Core) → ((id : ℕ) → rank one id ≡ rank other id) → (ones others after : List Pair) → AllZip IsReadAs ones others → AllZip (Reopens one first) ones after → AllZip (Reopens other first) others after
families_as first one other ranks [] [] [] zip h = tt
families_as first one other ranks [] [] (a ∷ after) zip h = absurd h
families_as first one other ranks [] (o ∷ others) after zip h = absurd zip
families_as first one other ranks (n ∷ ones) [] after zip h = absurd zip
families_as first one other ranks (n ∷ ones) (o ∷ others) [] zip h = absurd h
families_as first one other ranks (n ∷ ones) (o ∷ others) (a ∷ after) zip h =
    (family_as first (rank one n.1.id) (rank other o.1.id) n o a (ranks n.1.id ∙ ap (rank other) zip.0.id) zip.0 h.0, families_as first one other ranks ones others after zip.1 h.1)

crash_as : (first : ℕ) (one other after : Core) → IsCoreReadAs one other → IsCrashed first one after → IsCrashed first other after
crash_as first one other after is crashed = record {
  families = crashed.families;
  reopened = families_as first one other (λ id. ap (λ (ids : List ℕ). length (filter (λ other. nat_lt other id) ids)) (ids_alike one.families other.families is.families)) one.families other.families crashed.families is.families crashed.reopened;
  core_after = crashed.core_after ∙ λ i. record {
    behind = is.behind i;
    capacity = is.capacity i;
    place = 0;
    last = is.last i;
    charge = charge i;
    families = crashed.families;
    next_family = greatest_alike 0 one.families other.families is.families i + 1;
    live = [];
    jobs = [];
    jobs_made = 0;
    turn = None;
  };
}
  where
    charge : opened_charge one ≡ opened_charge other
    charge = ap (λ b. fold (charge_of_family b) 0 one.families) is.behind ∙ charges_alike other.behind 0 one.families other.families is.families

now_as : (first : ℕ) (one other : Core) → IsCoreReadAs one other → IsNow one (Crashed first) → IsNow other (Crashed first)
now_as first one other is now = (
  subst (Each (λ (table : FileEntries). table.file < first)) (tables_alike one.families other.families is.families) now.0,
  subst (λ n. first + n ≤ 18446744073709551615) (counts_alike one.families other.families is.families) now.1,
)

step_as : (first : ℕ) (one other after : Core) → IsCoreReadAs one other → IsCoreStep one (Crashed first) Done after → IsCoreStep other (Crashed first) Done after
step_as first one other after is (inl h) = inl (now_as first one other is h.0, (refl, crash_as first one other after is h.1.1))
step_as first one other after is (inr h) = absurd (cc h.1)

-- ---- what is tied is read so

abbrev is_filled : List Entry → Bool
is_filled entries = nat_le 1 (length entries)

filled_first : (entry : Entry) (entries : List Entry) → is_filled (entry ∷ entries) ≡ true
filled_first entry entries = le-leb 1 (length (entry ∷ entries)) (omega arith)

none_filled : (runs : List (List Entry)) → ((key : List ℕ) → column key runs ≡ []) → list_any is_filled runs ≡ false
none_filled [] h = refl
none_filled ([] ∷ runs) h = none_filled runs h
none_filled ((entry ∷ entries) ∷ runs) h =
    absurd (let w : entry ∷ (of_key entry.key entries ++ column entry.key runs) ≡ [] = sym (ap (λ b. cond b (entry ∷ of_key entry.key entries) (of_key entry.key entries) ++ column entry.key runs) (same_self entry.key)) ∙ h entry.key in cc)

filled_alike : (ones others : List (List Entry)) → ((key : List ℕ) → column key ones ≡ column key others) → list_any is_filled ones ≡ list_any is_filled others
filled_alike ones others h = go (list_any is_filled ones) (list_any is_filled others) refl refl
  where
    go : (b c : Bool) → list_any is_filled ones ≡ b → list_any is_filled others ≡ c → b ≡ c
    go true true e f = refl
    go false false e f = refl
    go true false e f = sym e ∙ none_filled ones (λ key. h key ∙ column_empty key others f)
    go false true e f = sym (none_filled others (λ key. sym (h key) ∙ column_empty key ones e)) ∙ f

none_sealed : (sealed : List (List Entry)) → Each (λ entries. 1 ≤ length entries) sealed → list_any is_filled sealed ≡ false → sealed ≡ []
none_sealed [] filled e = refl
none_sealed (run ∷ sealed) filled e = absurd (false≢true (sym (either (is_filled run) (list_any is_filled sealed) e).0 ∙ le-leb 1 (length run) filled.0))

abbrev read_pair : ImageParts → List LogOp → List ℕ × NamedFamily → Pair
read_pair parts ops family = (family.0, recovered_view (image_family parts ops family.1))

family_read : (parts : ImageParts) (logs : List ℕ) (last : ℕ) (here : Pair) (there : List ℕ × NamedFamily) → image_log_damage parts 0 logs ≡ None → IsView here.1
    → IsTiedFamily parts (log_ops_of parts logs) last here there → IsReadAs here (read_pair parts (log_ops_of parts logs) there)
family_read parts logs last here there whole view tied = record {
  name = sym tied.name;
  id = sym tied.id;
  levels = sym tied.levels;
  memory = columns;
  has = filled_alike (memories here.1) (mem_of counted ∷ []) columns;
  none = λ e. same_view (either (is_filled here.1.mem) (list_any is_filled here.1.sealed) e) (either (is_filled (mem_of counted)) false (sym (filled_alike (memories here.1) (mem_of counted ∷ []) columns) ∙ e)).0;
}
  where
    counted : List Entry
    counted = counted_entries there.1 (log_ops_of parts logs)

    columns : (key : List ℕ) → column key (memories here.1) ≡ column key (mem_of counted ∷ [])
    columns key = tied.memory key ∙ sym (append-nil (of_key key (mem_of counted)) ∙ mem_column key counted (counted_falls parts logs there.1 whole))

    same_view : (is_filled here.1.mem ≡ false) × (list_any is_filled here.1.sealed ≡ false) → is_filled (mem_of counted) ≡ false → here.1 ≡ recovered_view (image_family parts (log_ops_of parts logs) there.1)
    same_view none read_none = λ i. record {
      id = sym tied.id i;
      mem = (run_empty here.1.mem none.0 ∙ sym (run_empty (mem_of counted) read_none)) i;
      sealed = none_sealed here.1.sealed view.sealed none.1 i;
      levels = sym tied.levels i;
    }

families_read : (parts : ImageParts) (logs : List ℕ) (last : ℕ) (cs : List Pair) (ns : List (List ℕ × NamedFamily)) → image_log_damage parts 0 logs ≡ None → Each (λ named. IsView named.1) cs
    → AllZip (IsTiedFamily parts (log_ops_of parts logs) last) cs ns
    → AllZip IsReadAs cs (map {B = Pair} (λ (named : List ℕ × OpenedImageFamily). (named.0, recovered_view named.1)) (map {B = List ℕ × OpenedImageFamily} (λ (family : List ℕ × NamedFamily). (family.0, image_family parts (log_ops_of parts logs) family.1)) ns))
families_read parts logs last [] [] whole views tied = tt
families_read parts logs last [] (n ∷ ns) whole views tied = absurd tied
families_read parts logs last (c ∷ cs) [] whole views tied = absurd tied
families_read parts logs last (c ∷ cs) (n ∷ ns) whole views tied = (family_read parts logs last c n whole views.0 tied.0, families_read parts logs last cs ns whole views.1 tied.1)

-- what an opening reads is the core, as far as a crash sees it
core_read : (core : Core) (state : ModelState) (files : EngineFiles) (begun : List GroupRecord) (parts : ImageParts) → Represents core state → IsTiedToImage core files begun parts
    → IsCoreReadAs core (recovered_core core.capacity (image_opened core.behind parts files.named))
core_read core state files begun parts stands tied = record {
  behind = refl;
  capacity = refl;
  last = sym tied.holds.last;
  families = families_read parts files.named.logs core.last core.families files.named.families tied.holds.logs stands.views tied.holds.families;
}

ok_is : (one other : OpenedImage) (opens : Result OpenedImage ImageDamage) → opens ≡ Ok one → opens ≡ Ok other → one ≡ other
ok_is one other opens e f = cc

pub reopening_is_crash : ReopeningIsCrash
reopening_is_crash core state files begun parts flag o stands tied opens first after =
    (step_as first (recovered_core core.capacity o) core after (core_turned core (recovered_core core.capacity o) read), step_as first core (recovered_core core.capacity o) after read)
  where
    o_is : image_opened core.behind parts files.named ≡ o
    o_is = ok_is (image_opened core.behind parts files.named) o (image_opens flag parts) (tied_opens core state files begun parts flag stands tied).0 opens

    read : IsCoreReadAs core (recovered_core core.capacity o)
    read = subst (λ o. IsCoreReadAs core (recovered_core core.capacity o)) o_is (core_read core state files begun parts stands tied)
