-- What a group of edits needs, and what is named after it: what was named before, and what it adds.
use Rattle.std.proofs.Common.{◌≡◌, ℕ, Bool, true, false, cond, not, List, [], ◌∷◌, ◌++◌, map, flat_map, Option, Some, None, Result, Ok, Err, sym, ap, subst, ◌∙◌}
use Rattle.std.specs.Prelude.{⊤, ◌≢◌, ◌==◌, nat_lt}
use Rattle.std.specs.Ordering.{match_ordering}
use Rattle.std.specs.declared.cmp.Ordering.{Ordering}
use Rattle.std.specs.declared.cmp.Ordering.TheVariants.{Less, Equal, Greater}
use Rattle.std.specs.List.{AllByRecursion as Each}
use Rattle.st_base.specs.Bytes.{bytes_cmp}
use Rattle.st_base.specs.Map.{set_at}
use Rattle.base_laws.proofs.Lists.{each_as, each_back, each_filter, each_front, each_join}
use Rattle.manifest_edits.specs.Edits.{Placement, Edit, AddFamily, DropFamily, AddTable, DropTable, Flushed, Last, AddLog, DropLog, NamedFamily, Named, GroupRecord, is_right, is_file, with_table, without_table, with_flushed_number, edited, edited_all, edited_by, edits_of, changed_named, put_number, table_files, files_in, AddsBoth, AddsFile}
use Rattle.manifest_edits.specs.Groups.{IsGroup}
use Rattle.manifest_edits.proofs.Cut.{edited_append, then_edits, laid_edits, cut_joined}
use Rattle.manifest_edits.specs.Groups.{group_of_edits, cut_edits, record_room}
use Rattle.store_image.specs.Tie.{EngineFiles, IsApart, IsUnwritten}

-- ---- the edits of a group are right

records_right : (named after : Named) (records : List GroupRecord) → edited_by named records ≡ Ok after → edited_all named (edits_of records) ≡ Some after
records_right named after [] e = some_of e
  where
    some_of : ◌≡◌ {A = Result Named ℕ} (Ok named) (Ok after) → Some named ≡ Some after
    some_of e = ap Some (cc e)
records_right named after (one ∷ more) e = edited_append named one.edits (edits_of more) ∙ go (edited_all named one.edits) (λ next. records_right next after more) e
  where
    go : (found : Option Named) → ((next : Named) → edited_by next more ≡ Ok after → edited_all next (edits_of more) ≡ Some after) → ◌≡◌ {A = Result Named ℕ} (elim found [ None ↦ Err one.at | Some next ↦ edited_by next more ]) (Ok after) → then_edits found (edits_of more) ≡ Some after
    go None rest e = absurd (cc e)
    go (Some next) rest e = rest next e

-- what the manifest's append asks of edits is what a group has
pub group_right : (before after : Named) (at : ℕ → ℕ) (edits : List Edit) → IsGroup before after (group_of_edits at edits) → edited_all before edits ≡ Some after
group_right before after at edits is =
    ap (edited_all before) (sym (laid_edits at (cut_edits record_room edits) ∙ cut_joined record_room edits)) ∙ records_right before after (group_of_edits at edits) is.edits

-- ---- what is named after edits was named before, or is added by one

abbrev TablesOf : (ℕ → Type 0) → List (List ℕ × NamedFamily) → Type 0
TablesOf P families = Each (λ family. Each (λ placed. P placed.file) family.1.tables) families

abbrev Names : (Q P : ℕ → Type 0) → Named → Type 0
Names Q P named = Each Q named.logs × TablesOf P named.families

-- to and from one list
pub each_placed : (P : ℕ → Type 0) (families : List (List ℕ × NamedFamily)) → Each P (map (λ placed. placed.file) (flat_map (λ family. family.1.tables) families)) → Each (λ family. Each (λ placed. P placed.file) family.1.tables) families
each_placed P [] h = tt
each_placed P (family ∷ families) h = (here family.1.tables h, each_placed P families (rest family.1.tables h))
  where
    here : (tables : List Placement) → Each P (map (λ placed. placed.file) (tables ++ flat_map (λ one. one.1.tables) families)) → Each (λ placed. P placed.file) tables
    here [] h = tt
    here (table ∷ tables) h = (h.0, here tables h.1)

    rest : (tables : List Placement) → Each P (map (λ placed. placed.file) (tables ++ flat_map (λ one. one.1.tables) families)) → Each P (map (λ placed. placed.file) (flat_map (λ one. one.1.tables) families))
    rest [] h = h
    rest (table ∷ tables) h = rest tables h.1

placed_each : (P : ℕ → Type 0) (families : List (List ℕ × NamedFamily)) → TablesOf P families → Each P (map (λ placed. placed.file) (flat_map (λ family. family.1.tables) families))
placed_each P [] h = tt
placed_each P (family ∷ families) h = here family.1.tables h.0 (placed_each P families h.1)
  where
    here : (tables : List Placement) → Each (λ placed. P placed.file) tables → Each P (map (λ placed. placed.file) (flat_map (λ one. one.1.tables) families)) → Each P (map (λ placed. placed.file) (tables ++ flat_map (λ one. one.1.tables) families))
    here [] h rest = rest
    here (table ∷ tables) h rest = (h.0, here tables h.1 rest)

pub each_names : (P : ℕ → Type 0) (named : Named) → Each P (files_in named) → Names P P named
each_names P named h = (each_front P named.logs (table_files named) h, each_placed P named.families (each_back P named.logs (table_files named) h))

names_each : (P : ℕ → Type 0) (named : Named) → Names P P named → Each P (files_in named)
names_each P named h = each_join P named.logs (table_files named) h.0 (placed_each P named.families h.1)

pub changed_tables : (P : Placement → Type 0) (id : ℕ) (change : NamedFamily → NamedFamily) (families : List (List ℕ × NamedFamily)) → ((family : NamedFamily) → Each P family.tables → Each P (change family).tables) → Each (λ family. Each P family.1.tables) families → Each (λ family. Each P family.1.tables) (changed_named id change families)
changed_tables P id change [] f h = tt
changed_tables P id change (family ∷ families) f h = (go (family.1.id == id), changed_tables P id change families f h.1)
  where
    go : (b : Bool) → Each P (cond b (change family.1) family.1).tables
    go true = f family.1 h.0
    go false = h.0

pub set_tables : (P : Placement → Type 0) (name : List ℕ) (new : NamedFamily) (families : List (List ℕ × NamedFamily)) → Each P new.tables → Each (λ family. Each P family.1.tables) families → Each (λ family. Each P family.1.tables) (set_at families name new)
set_tables P name new [] here h = (here, tt)
set_tables P name new (family ∷ families) here h = go (bytes_cmp name family.0) (set_tables P name new families here h.1)
  where
    go : (r : Ordering) → Each (λ family. Each P family.1.tables) (set_at families name new) → Each (λ family. Each P family.1.tables) (match_ordering r ((name, new) ∷ family ∷ families) ((family.0, new) ∷ families) (family ∷ set_at families name new))
    go Less rest = (here, h)
    go Equal rest = (here, h.1)
    go Greater rest = (h.0, rest)

abbrev Any : ℕ → Type 0
Any file = ⊤

put_each : (P : ℕ → Type 0) (n : ℕ) (ns : List ℕ) → P n → Each P ns → Each P (put_number n ns)
put_each P n [] p h = (p, tt)
put_each P n (m ∷ ns) p h = go (nat_lt n m) (put_each P n ns p h.1)
  where
    go : (b : Bool) → Each P (put_number n ns) → Each P (cond b (n ∷ m ∷ ns) (m ∷ put_number n ns))
    go true rest = (p, (h.0, h.1))
    go false rest = (h.0, rest)

one_edit : (Q P : ℕ → Type 0) (named : Named) (edit : Edit) → AddsBoth Q P edit → Names Q P named → Names Q P (edited named edit)
one_edit Q P named (AddFamily id name) adds h = (h.0, set_tables (λ (placed : Placement). P placed.file) name (record { id = id; flushed = 0; tables = [] }) named.families tt h.1)
one_edit Q P named (DropFamily id) adds h = (h.0, each_filter (λ (family : List ℕ × NamedFamily). Each (λ placed. P placed.file) family.1.tables) (λ family. not (family.1.id == id)) named.families h.1)
one_edit Q P named (AddTable id placed) adds h = (h.0, changed_tables (λ (placed : Placement). P placed.file) id (with_table placed) named.families (λ family tables. (adds, tables)) h.1)
one_edit Q P named (DropTable id file) adds h = (h.0, changed_tables (λ (placed : Placement). P placed.file) id (without_table file) named.families (λ family tables. each_filter (λ (placed : Placement). P placed.file) (λ placed. not (is_file file placed)) family.tables tables) h.1)
one_edit Q P named (Flushed id number) adds h = (h.0, changed_tables (λ (placed : Placement). P placed.file) id (with_flushed_number number) named.families (λ family tables. tables) h.1)
one_edit Q P named (Last number) adds h = h
one_edit Q P named (AddLog file) adds h = (put_each Q file named.logs adds h.0, h.1)
one_edit Q P named (DropLog file) adds h = (each_filter Q (λ log. not (log == file)) named.logs h.0, h.1)

all_edits : (Q P : ℕ → Type 0) (named after : Named) (edits : List Edit) → edited_all named edits ≡ Some after → Each (AddsBoth Q P) edits → Names Q P named → Names Q P after
all_edits Q P named after [] e adds h = subst (Names Q P) (some_is e) h
  where
    some_is : Some named ≡ Some after → named ≡ after
    some_is e = cc e
all_edits Q P named after (edit ∷ edits) e adds h = go (is_right named edit) e (λ e. all_edits Q P (edited named edit) after edits e adds.1 (one_edit Q P named edit adds.0 h))
  where
    go : (b : Bool) → cond b (edited_all (edited named edit) edits) None ≡ Some after → (edited_all (edited named edit) edits ≡ Some after → Names Q P after) → Names Q P after
    go true e rest = rest e
    go false e rest = absurd (cc e)

-- P of all that is named before, and of each file that an edit adds, is P of all that is named after
pub edited_names : (P : ℕ → Type 0) (named after : Named) (edits : List Edit) → edited_all named edits ≡ Some after → Each (AddsFile P) edits → Each P (files_in named) → Each P (files_in after)
edited_names P named after edits e adds h = names_each P after (all_edits P P named after edits e adds (each_names P named h))

-- with a weaker fact of what is added
pub adds_weaker : (Q P R S : ℕ → Type 0) → ((file : ℕ) → Q file → R file) → ((file : ℕ) → P file → S file) → (edits : List Edit) → Each (AddsBoth Q P) edits → Each (AddsBoth R S) edits
adds_weaker Q P R S f g edits adds = each_as (AddsBoth Q P) (AddsBoth R S) one edits adds
  where
    one : (edit : Edit) → AddsBoth Q P edit → AddsBoth R S edit
    one (AddFamily id name) h = tt
    one (DropFamily id) h = tt
    one (AddTable id placed) h = g placed.file h
    one (DropTable id file) h = tt
    one (Flushed id number) h = tt
    one (Last number) h = tt
    one (AddLog file) h = f file h
    one (DropLog file) h = tt

-- the same of tables alone
pub edited_tables : (P : ℕ → Type 0) (named after : Named) (edits : List Edit) → edited_all named edits ≡ Some after → Each (AddsFile P) edits → Each P (table_files named) → Each P (table_files after)
edited_tables P named after edits e adds h =
    placed_each P after.families (all_edits Any P named after edits e (adds_weaker P P Any P (λ file p. tt) (λ file p. p) edits adds) (any_each named.logs, each_placed P named.families h)).1
  where
    any_each : (logs : List ℕ) → Each Any logs
    any_each [] = tt
    any_each (log ∷ logs) = (tt, any_each logs)

-- ---- the two files that are written to stay apart

pub older_apart : (files : EngineFiles) → IsApart files → Each (λ file. file ≢ files.log) files.older_logs
older_apart files apart = each_front (λ file. file ≢ files.log) files.older_logs (table_files files.named) apart.log.1.1

-- after a group that adds neither of them
pub apart_after : (files : EngineFiles) (after : Named) (older : List ℕ) (at : ℕ → ℕ) (edits : List Edit) → IsGroup files.named after (group_of_edits at edits) → Each (AddsFile (IsUnwritten files)) edits → Each (λ file. file ≢ files.log) older → IsApart files
    → IsApart (record files { named = after; older_logs = older })
apart_after files after older at edits is adds older_is apart =
    let right = group_right files.named after at edits is in
    record {
      manifest = (apart.manifest.0, (apart.manifest.1.0, edited_names (λ file. file ≢ files.manifest) files.named after edits right (adds_weaker (IsUnwritten files) (IsUnwritten files) (λ file. file ≢ files.manifest) (λ file. file ≢ files.manifest) (λ file h. h.manifest) (λ file h. h.manifest) edits adds) apart.manifest.1.1));
      log = (
        apart.log.0,
        (
          apart.log.1.0,
          each_join (λ file. file ≢ files.log) older (table_files after) older_is
              (edited_tables (λ file. file ≢ files.log) files.named after edits right (adds_weaker (IsUnwritten files) (IsUnwritten files) (λ file. file ≢ files.log) (λ file. file ≢ files.log) (λ file h. h.log) (λ file h. h.log) edits adds)
              (each_back (λ file. file ≢ files.log) files.older_logs (table_files files.named) apart.log.1.1)),
        ),
      );
    }

-- the logs stay
pub apart_named : (files : EngineFiles) (after : Named) (at : ℕ → ℕ) (edits : List Edit) → IsGroup files.named after (group_of_edits at edits) → Each (AddsFile (IsUnwritten files)) edits → IsApart files → IsApart (record files { named = after })
apart_named files after at edits is adds apart = apart_after files after files.older_logs at edits is adds (older_apart files apart) apart
