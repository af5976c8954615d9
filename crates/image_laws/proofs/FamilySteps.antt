-- Making and dropping a family, rolling the log, sealing a memtable, and the events that leave the disk alone.
use Rattle.std.proofs.Common.{◌≡◌, ℕ, ◌<◌, Bool, true, false, cond, ◌&&◌, ◌||◌, not, List, [], ◌∷◌, ◌++◌, Option, Some, None, refl, sym, ap, subst, ◌∙◌, is_eq, arith}
use Rattle.std.specs.Prelude.{◌≢◌, IsFalse, nat_lt, ◌==◌, is_some}
use Rattle.std.specs.List.{list_any, AllByRecursion as Each, AllZip}
use Rattle.std.proofs.lemmas.Bool.{le-ltb, ltb-true}
use Rattle.st_base.specs.Bytes.{same, bytes_cmp}
use Rattle.st_base.specs.Map.{value_at, changed_at}
use Rattle.st_model.specs.declared.state.ModelState.{ModelState}
use Rattle.base_laws.proofs.Lists.{each_as, each_join}
use Rattle.core_model.specs.Relation.{Represents}
use Rattle.core_model.specs.Picture.{Core, FamilyView, Job}
use Rattle.core_model.specs.Step.{with_family, without_family, with_sealed, installed, is_there, changed_found}
use Rattle.manifest_edits.specs.Edits.{AddFamily, DropFamily, AddLog, Last, NamedFamily, GroupRecord, put_number, table_files}
use Rattle.store_image.specs.Parts.{ImageParts, log_ops_of}
use Rattle.store_image.specs.Steps.{HasMore}
use Rattle.store_image.specs.Tie.{EngineFiles, IsApart, IsTiedToImage, IsTiedFamily, HoldsNamed}
use Rattle.image_laws.proofs.CompactStep.{id_named}
use Rattle.manifest_edits.proofs.Cut.{cut_group}
use Rattle.image_laws.proofs.Families.{make_holds, drop_holds, roll_holds, seal_family}
use Rattle.image_laws.proofs.Frame.{holds_frame}
use Rattle.image_laws.proofs.Added.{apart_named, edited_names, group_right}
use Rattle.image_laws.proofs.RightEdits.{one_right, turned}
use Rattle.image_laws.proofs.StandsNames.{families_apart, ids_given, names_family}
use Rattle.image_laws.proofs.StepOpens.{image_of, step_begun, step_written, step_named}
use Rattle.manifest_edits.specs.Logs.{LogFound, LogOp}
use Rattle.manifest_edits.specs.Groups.{IsGroup}
use Rattle.store_image.specs.Calls.{IsImageOf, files_with}
use Rattle.store_image.specs.Calls.{IsEngineAt, make_group, make_named, drop_group, drop_named, roll_group, roll_named, roll_files, HasSameDiskFields, Ties}
use Rattle.core_laws.proofs.ById.{not_found}

-- ---- a family is made

none_has : (n : ℕ) (cs : List (List ℕ × FamilyView)) → Each (λ here. here.1.id < n) cs → list_any (λ here. here.1.id == n) cs ≡ false
none_has n [] h = refl
none_has n (c ∷ cs) h = ap (λ b. b || list_any (λ here. here.1.id == n) cs) (other c.1.id n h.0) ∙ none_has n cs h.1
  where
    other : (m n : ℕ) → m < n → (m == n) ≡ false
    other m n less = grind (arith, less)

none_named : (parts : ImageParts) (ops : List LogOp) (last : ℕ) (name : List ℕ) (cs : List (List ℕ × FamilyView)) (ns : List (List ℕ × NamedFamily)) → AllZip (IsTiedFamily parts ops last) cs ns → value_at cs name ≡ None → is_some (value_at ns name) ≡ false
none_named parts ops last name [] [] tied e = refl
none_named parts ops last name [] (n ∷ ns) tied e = absurd tied
none_named parts ops last name (c ∷ cs) [] tied e = absurd tied
none_named parts ops last name (c ∷ cs) (n ∷ ns) tied e = go (is_eq (bytes_cmp name c.0)) refl e (none_named parts ops last name cs ns tied.1)
  where
    go : (b : Bool) → is_eq (bytes_cmp name c.0) ≡ b → cond b (Some c.1) (value_at cs name) ≡ None → (value_at cs name ≡ None → is_some (value_at ns name) ≡ false) → is_some (cond (is_eq (bytes_cmp name n.0)) (Some n.1) (value_at ns name)) ≡ false
    go true f e rest = absurd (cc e)
    go false f e rest = ap (λ key. is_some (cond (is_eq (bytes_cmp name key)) (Some n.1) (value_at ns name))) tied.0.name ∙ ap (λ b. is_some (cond b (Some n.1) (value_at ns name))) f ∙ rest e

pub make_is_group : (core : Core) (state : ModelState) (files : EngineFiles) (parts : ImageParts) (at : ℕ → ℕ) (name : List ℕ) → IsEngineAt core state files parts → value_at core.families name ≡ None
    → IsGroup files.named (make_named core name files.named) (make_group at core name)
make_is_group core state files parts at name is new =
    cut_group files.named (make_named core name files.named) at (AddFamily core.next_family name ∷ Last core.last ∷ [])
    (one_right files.named (AddFamily core.next_family name) (Last core.last ∷ [])
    (ap (λ b. not b && not (is_some (value_at files.named.families name))) (sym (id_named parts (log_ops_of parts files.named.logs) core.last core.next_family core.families files.named.families is.tied.holds.families) ∙ none_has core.next_family core.families (ids_given core state is.stands))
    ∙ ap not (none_named parts (log_ops_of parts files.named.logs) core.last name core.families files.named.families is.tied.holds.families new))) refl

pub make_begun : (core : Core) (state : ModelState) (files : EngineFiles) (parts other : ImageParts) (flag : Bool) (at : ℕ → ℕ) (name : List ℕ) (front more : List GroupRecord) (next : GroupRecord) → IsEngineAt core state files parts → value_at core.families name ≡ None
    → make_group at core name ≡ front ++ next ∷ more → HasMore files parts other front → IsImageOf core state files front other flag
make_begun core state files parts other flag at name front more next is new cut has =
    step_begun core state files (make_named core name files.named) parts other flag front more next is.stands is.tied (subst (IsGroup files.named (make_named core name files.named)) cut (make_is_group core state files parts at name is new)) has

pub make_opens : (core : Core) (state after : ModelState) (files : EngineFiles) (parts other : ImageParts) (flag : Bool) (at : ℕ → ℕ) (name : List ℕ) → IsEngineAt core state files parts → value_at core.families name ≡ None
    → Represents (with_family core name) after → HasMore files parts other (make_group at core name) → IsImageOf (with_family core name) after (files_with files (make_named core name files.named)) [] other flag
make_opens core state after files parts other flag at name is new stands has =
    step_named core (with_family core name) after files (make_named core name files.named) parts other flag (make_group at core name) stands is.tied refl (make_is_group core state files parts at name is new) has refl
    (apart_named files (make_named core name files.named) at (AddFamily core.next_family name ∷ Last core.last ∷ []) (make_is_group core state files parts at name is new) (tt, (tt, tt)) is.tied.apart)
    (make_holds core other files.named name (holds_frame core parts other files.named has.same is.tied.holds))

-- ---- a family is dropped

itself : (n : ℕ) → (n == n) ≡ true
itself n = grind arith

there_has : (cs : List (List ℕ × FamilyView)) (name : List ℕ) (family : FamilyView) → value_at cs name ≡ Some family → list_any (λ here. here.1.id == family.id) cs ≡ true
there_has [] name family e = absurd (cc e)
there_has (c ∷ cs) name family e = go (is_eq (bytes_cmp name c.0)) e (there_has cs name family)
  where
    some_is : Some c.1 ≡ Some family → c.1 ≡ family
    some_is e = cc e

    right : (b : Bool) → (b || true) ≡ true
    right true = refl
    right false = refl

    go : (b : Bool) → cond b (Some c.1) (value_at cs name) ≡ Some family → (value_at cs name ≡ Some family → list_any (λ here. here.1.id == family.id) cs ≡ true) → ((c.1.id == family.id) || list_any (λ here. here.1.id == family.id) cs) ≡ true
    go true e rest = ap (λ (v : FamilyView). (v.id == family.id) || list_any (λ here. here.1.id == family.id) cs) (some_is e) ∙ ap (λ b. b || list_any (λ here. here.1.id == family.id) cs) (itself family.id)
    go false e rest = ap (λ b. (c.1.id == family.id) || b) (rest e) ∙ right (c.1.id == family.id)

pub drop_is_group : (core : Core) (state : ModelState) (files : EngineFiles) (parts : ImageParts) (at : ℕ → ℕ) (name : List ℕ) (family : FamilyView) → IsEngineAt core state files parts → value_at core.families name ≡ Some family
    → IsGroup files.named (drop_named core family.id files.named) (drop_group at core family.id)
drop_is_group core state files parts at name family is there =
    cut_group files.named (drop_named core family.id files.named) at (DropFamily family.id ∷ Last core.last ∷ [])
    (one_right files.named (DropFamily family.id) (Last core.last ∷ [])
    (sym (id_named parts (log_ops_of parts files.named.logs) core.last family.id core.families files.named.families is.tied.holds.families) ∙ there_has core.families name family there)) refl

pub drop_begun : (core : Core) (state : ModelState) (files : EngineFiles) (parts other : ImageParts) (flag : Bool) (at : ℕ → ℕ) (name : List ℕ) (family : FamilyView) (front more : List GroupRecord) (next : GroupRecord) → IsEngineAt core state files parts → value_at core.families name ≡ Some family
    → drop_group at core family.id ≡ front ++ next ∷ more → HasMore files parts other front → IsImageOf core state files front other flag
drop_begun core state files parts other flag at name family front more next is there cut has =
    step_begun core state files (drop_named core family.id files.named) parts other flag front more next is.stands is.tied (subst (IsGroup files.named (drop_named core family.id files.named)) cut (drop_is_group core state files parts at name family is there)) has

pub drop_opens : (core : Core) (state after : ModelState) (files : EngineFiles) (parts other : ImageParts) (flag : Bool) (at : ℕ → ℕ) (name : List ℕ) (family : FamilyView) → IsEngineAt core state files parts → value_at core.families name ≡ Some family
    → Represents (without_family core name) after → HasMore files parts other (drop_group at core family.id) → IsImageOf (without_family core name) after (files_with files (drop_named core family.id files.named)) [] other flag
drop_opens core state after files parts other flag at name family is there stands has =
    step_named core (without_family core name) after files (drop_named core family.id files.named) parts other flag (drop_group at core family.id) stands is.tied refl (drop_is_group core state files parts at name family is there) has refl
    (apart_named files (drop_named core family.id files.named) at (DropFamily family.id ∷ Last core.last ∷ []) (drop_is_group core state files parts at name family is there) (tt, (tt, tt)) is.tied.apart)
    (drop_holds core other files.named name family.id (holds_frame core parts other files.named has.same is.tied.holds)
    (each_as (λ (here : List ℕ × FamilyView). same here.0 name ≡ (family.id == here.1.id)) (λ here. same here.0 name ≡ (here.1.id == family.id)) (λ here e. e ∙ turned family.id here.1.id) core.families (names_family core.families name family (families_apart core state is.stands) there)))

-- ---- a log is rolled

-- the new log's file is above all others
put_last : (file : ℕ) (logs : List ℕ) → Each (λ log. log < file) logs → put_number file logs ≡ logs ++ file ∷ []
put_last file [] h = refl
put_last file (log ∷ logs) h = ap (λ b. cond b (file ∷ log ∷ logs) (log ∷ put_number file logs)) (le-ltb file log (let less = h.0 in omega arith)) ∙ ap (λ l. log ∷ l) (put_last file logs h.1)

new_log : (file : ℕ) (logs : List ℕ) → Each (λ log. log < file) logs → list_any (λ log. log == file) logs ≡ false
new_log file [] h = refl
new_log file (log ∷ logs) h = ap (λ b. b || list_any (λ log. log == file) logs) (other log file h.0) ∙ new_log file logs h.1
  where
    other : (m n : ℕ) → m < n → (m == n) ≡ false
    other m n less = grind (arith, less)

pub roll_is_group : (core : Core) (files : EngineFiles) (at : ℕ → ℕ) (file : ℕ) → Each (λ log. log < file) files.named.logs → nat_lt 1 file ≡ true → IsGroup files.named (roll_named core file files.named) (roll_group at core file)
roll_is_group core files at file above high =
    cut_group files.named (roll_named core file files.named) at (AddLog file ∷ Last core.last ∷ [])
    (one_right files.named (AddLog file) (Last core.last ∷ []) (ap (λ b. not b && nat_lt 1 file) (new_log file files.named.logs above) ∙ high)) refl

pub roll_begun : (core : Core) (state : ModelState) (files : EngineFiles) (parts other : ImageParts) (flag : Bool) (at : ℕ → ℕ) (file : ℕ) (front more : List GroupRecord) (next : GroupRecord) → IsEngineAt core state files parts → Each (λ log. log < file) files.named.logs → nat_lt 1 file ≡ true
    → roll_group at core file ≡ front ++ next ∷ more → HasMore files parts other front → IsImageOf core state files front other flag
roll_begun core state files parts other flag at file front more next is above high cut has =
    step_begun core state files (roll_named core file files.named) parts other flag front more next is.stands is.tied (subst (IsGroup files.named (roll_named core file files.named)) cut (roll_is_group core files at file above high)) has

-- the new log's file is no other named file
roll_apart : (core : Core) (files : EngineFiles) (at : ℕ → ℕ) (file : ℕ) → Each (λ log. log < file) files.named.logs → nat_lt 1 file ≡ true → Each (λ other. other ≢ file) (files.manifest ∷ table_files files.named) → IsApart files → IsApart (roll_files core file files)
roll_apart core files at file above high other_files apart = record {
  manifest = (
    apart.manifest.0,
    (
      apart.manifest.1.0,
      edited_names (λ other. other ≢ files.manifest) files.named (roll_named core file files.named) (AddLog file ∷ Last core.last ∷ [])
          (group_right files.named (roll_named core file files.named) at (AddLog file ∷ Last core.last ∷ []) (roll_is_group core files at file above high)) ((λ e. other_files.0 (sym e)), (tt, tt)) apart.manifest.1.1,
    ),
  );
  log = (less_differs 0 file (let less = ltb-true 1 file high in omega (arith, less)), (less_differs 1 file (ltb-true 1 file high), each_join (λ other. other ≢ file) files.named.logs (table_files files.named) (each_as (λ log. log < file) (λ other. other ≢ file) (λ log less. less_differs log file less) files.named.logs above) other_files.1));
}
  where
    less_differs : (m n : ℕ) → m < n → m ≢ n
    less_differs m n less e = omega (arith, less, e)

pub roll_opens : (core : Core) (state : ModelState) (files : EngineFiles) (parts other : ImageParts) (flag : Bool) (at : ℕ → ℕ) (file : ℕ) → IsEngineAt core state files parts → Each (λ log. log < file) files.named.logs → nat_lt 1 file ≡ true
    → Each (λ other. other ≢ file) (files.manifest ∷ table_files files.named)
    → other.log file ≡ LogFound [] None → HasMore files parts other (roll_group at core file) → IsImageOf core state (roll_files core file files) [] other flag
roll_opens core state files parts other flag at file is above high other_files new has =
    step_written core core state files (roll_files core file files) parts other flag (roll_group at core file) is.stands is.tied refl (roll_is_group core files at file above high) has refl (put_last file files.named.logs above)
    (roll_apart core files at file above high other_files is.tied.apart)
    (roll_holds core other files.named file (holds_frame core parts other files.named has.same is.tied.holds) new)

-- ---- a memtable is sealed

pub seal_zip : (parts : ImageParts) (ops : List LogOp) (last : ℕ) (name : List ℕ) (cs : List (List ℕ × FamilyView)) (ns : List (List ℕ × NamedFamily)) → AllZip (IsTiedFamily parts ops last) cs ns
    → AllZip (IsTiedFamily parts ops last) (changed_at cs name (λ family. record family { mem = []; sealed = family.mem ∷ family.sealed })) ns
seal_zip parts ops last name [] [] tied = tt
seal_zip parts ops last name [] (n ∷ ns) tied = absurd tied
seal_zip parts ops last name (c ∷ cs) [] tied = absurd tied
seal_zip parts ops last name (c ∷ cs) (n ∷ ns) tied = (go (same c.0 name), seal_zip parts ops last name cs ns tied.1)
  where
    go : (b : Bool) → IsTiedFamily parts ops last (c.0, cond b (record c.1 { mem = []; sealed = c.1.mem ∷ c.1.sealed }) c.1) n
    go true = seal_family parts ops last c n tied.0
    go false = tied.0

-- the same image is tied to the core after
pub tied_with : (core after : Core) (files : EngineFiles) {begun : List GroupRecord} (parts : ImageParts) → IsTiedToImage core files begun parts → after.behind ≡ core.behind → HoldsNamed after parts files.named → IsTiedToImage after files begun parts
tied_with core after files parts tied behind holds = record {
  marked = tied.marked;
  root = tied.root;
  counts = tied.counts ∙ ap (λ b. (files.manifest, b)) (sym behind);
  records = tied.records;
  manifest = tied.manifest;
  read = tied.read;
  log = tied.log;
  apart = tied.apart;
  holds = holds;
}

-- the tie alone: that the core stands isn't needed
-- a memtable is sealed
pub seal_tie : (core : Core) (name : List ℕ) → Ties core (with_sealed core name)
seal_tie core name files begun parts tied = tied_with core (with_sealed core name) files parts tied refl (record { families = seal_zip parts (log_ops_of parts files.named.logs) core.last name core.families files.named.families tied.holds.families; logs = tied.holds.logs; last = tied.holds.last; given = tied.holds.given })

pub seal_opens : (core : Core) (state : ModelState) (files : EngineFiles) {begun : List GroupRecord} (parts : ImageParts) (flag : Bool) (name : List ℕ) → IsTiedToImage core files begun parts → Represents (with_sealed core name) state → IsImageOf (with_sealed core name) state files begun parts flag
seal_opens core state files parts flag name tied stands = image_of (with_sealed core name) state files parts flag stands (seal_tie core name files _ parts tied)

-- ---- events that leave families and numbers: snapshots, jobs that are picked or given up, turns

-- the families and the last number are the same
pub fields_tie : (core after : Core) → HasSameDiskFields core after → Ties core after
fields_tie core after same files begun parts tied = tied_with core after files parts tied same.behind (record {
  families = subst (λ n. AllZip (IsTiedFamily parts (log_ops_of parts files.named.logs) n) after.families files.named.families) (sym same.last)
      (subst (λ cs. AllZip (IsTiedFamily parts (log_ops_of parts files.named.logs) core.last) cs files.named.families) (sym same.families) tied.holds.families);
  logs = tied.holds.logs;
  last = tied.holds.last ∙ sym same.last;
  given = subst (λ n. Each (λ (op : LogOp). op.family < n) (log_ops_of parts files.named.logs)) (sym same.next_family) tied.holds.given;
})

pub fields_open : (core after : Core) (state : ModelState) (files : EngineFiles) {begun : List GroupRecord} (parts : ImageParts) (flag : Bool) → IsTiedToImage core files begun parts → HasSameDiskFields core after → Represents after state → IsImageOf after state files begun parts flag
fields_open core after state files parts flag tied same stands = image_of after state files parts flag stands (fields_tie core after same files _ parts tied)

-- an install of a family that is gone
pub gone_opens : (core : Core) (state : ModelState) (files : EngineFiles) (begun : List GroupRecord) (parts : ImageParts) (flag : Bool) (job : Job) (change : FamilyView → FamilyView) → IsTiedToImage core files begun parts → IsFalse (is_there core job) → Represents (installed core job change) state
    → IsImageOf (installed core job change) state files begun parts flag
gone_opens core state files begun parts flag job change tied gone stands =
    fields_open core (installed core job change) state files parts flag tied (record { behind = refl; families = ap (λ (found : Option (List ℕ × FamilyView)). changed_found found change core.families) (not_found job.family core.families gone); last = refl; next_family = refl }) stands
