-- Families that are made and dropped, and a log that is rolled.
use Rattle.std.proofs.Common.{◌≡◌, ℕ, ◌+◌, ◌<◌, Bool, true, false, cond, ◌&&◌, not, List, [], ◌∷◌, ◌++◌, map, filter, reverse, None, refl, sym, ap, subst, ◌∙◌, arith}
use Rattle.std.specs.Prelude.{nat_lt, ◌==◌, max}
use Rattle.std.specs.Ordering.{match_ordering}
use Rattle.std.specs.declared.cmp.Ordering.{Ordering}
use Rattle.std.specs.declared.cmp.Ordering.TheVariants.{Less, Equal, Greater}
use Rattle.std.specs.List.{AllByRecursion as Each, AllZip}
use Rattle.std.proofs.lemmas.Bool.{false≢true, eqb-true}
use Rattle.st_base.specs.Bytes.{same, bytes_cmp}
use Rattle.st_base.specs.Map.{set_at, without}
use Rattle.st_base.specs.declared.entry.Entry.{Entry}
use Rattle.base_laws.proofs.Lists.{each_as, filter_none}
use Rattle.core_model.specs.Picture.{Core, FamilyView, new_view}
use Rattle.core_model.specs.Step.{with_family, without_family}
use Rattle.manifest_edits.specs.Edits.{NamedFamily, Named, put_number}
use Rattle.store_image.specs.Opens.{image_log_damage, read_damage, last_op}
use Rattle.store_image.specs.Parts.{ImageParts, log_ops_of, counts_for}
use Rattle.store_image.specs.Tie.{HoldsNamed, IsTiedFamily}
use Rattle.image_laws.proofs.Logs.{IsWhole, whole_of, none_of}
use Rattle.manifest_edits.specs.Logs.{LogFound, LogOp, log_op_entry, records_in}
use Rattle.st_order.specs.Columns.{of_key}

-- the last number may have been read anew
family_last : (parts : ImageParts) (ops : List LogOp) (last : ℕ) (here : List ℕ × FamilyView) (there : List ℕ × NamedFamily) (name other : List ℕ) → other ≡ name → IsTiedFamily parts ops last here there → IsTiedFamily parts ops last (name, here.1) (other, there.1)
family_last parts ops last here there name other e tied = record {
  name = e;
  id = tied.id;
  levels = tied.levels;
  memory = tied.memory;
  order = tied.order;
  flushed = tied.flushed;
  tables = tied.tables;
}

-- ---- a family is made

abbrev new_named : ℕ → NamedFamily
new_named id = record { id = id; flushed = 0; tables = [] }

-- no operation has the new id
none_counts : (id : ℕ) (ops : List LogOp) → Each (λ op. op.family < id) ops → filter (counts_for (new_named id)) ops ≡ []
none_counts id ops h = filter_none (counts_for (new_named id)) ops (each_as (λ (op : LogOp). op.family < id) (λ op. counts_for (new_named id) op ≡ false) (λ op less. go (op.family == id) refl (nat_lt 0 op.number) less) ops h)
  where
    go : {n : ℕ} (b : Bool) → (n == id) ≡ b → (c : Bool) → n < id → (b && c) ≡ false
    go {n} true e c less = let same_ : n ≡ id = eqb-true n id e in absurd (omega arith)
    go false e c less = refl

new_family : (parts : ImageParts) (ops : List LogOp) (last id : ℕ) (name : List ℕ) → Each (λ op. op.family < id) ops → IsTiedFamily parts ops last (name, new_view id) (name, new_named id)
new_family parts ops last id name given = record {
  name = refl;
  id = refl;
  levels = refl;
  memory = λ key. sym (ap (λ found. of_key key (reverse (map log_op_entry found))) (none_counts id ops given));
  order = (tt, tt);
  flushed = omega arith;
  tables = tt;
}

make_zip : (parts : ImageParts) (ops : List LogOp) (last id : ℕ) (name : List ℕ) (cs : List (List ℕ × FamilyView)) (ns : List (List ℕ × NamedFamily)) → IsTiedFamily parts ops last (name, new_view id) (name, new_named id)
    → AllZip (IsTiedFamily parts ops last) cs ns → AllZip (IsTiedFamily parts ops last) (set_at cs name (new_view id)) (set_at ns name (new_named id))
make_zip parts ops last id name [] [] new tied = (new, tt)
make_zip parts ops last id name [] (n ∷ ns) new tied = absurd tied
make_zip parts ops last id name (c ∷ cs) [] new tied = absurd tied
make_zip parts ops last id name (c ∷ cs) (n ∷ ns) new tied = go (bytes_cmp name c.0) (bytes_cmp name n.0) (ap (bytes_cmp name) tied.0.name) (make_zip parts ops last id name cs ns new tied.1)
  where
    go : (r s : Ordering) → s ≡ r → AllZip (IsTiedFamily parts ops last) (set_at cs name (new_view id)) (set_at ns name (new_named id))
        → AllZip (IsTiedFamily parts ops last) (match_ordering r ((name, new_view id) ∷ c ∷ cs) ((c.0, new_view id) ∷ cs) (c ∷ set_at cs name (new_view id))) (match_ordering s ((name, new_named id) ∷ n ∷ ns) ((n.0, new_named id) ∷ ns) (n ∷ set_at ns name (new_named id)))
    go Less Less e rest = (new, tied)
    go Equal Equal e rest = (family_last parts ops last (name, new_view id) (name, new_named id) c.0 n.0 tied.0.name new, tied.1)
    go Greater Greater e rest = (tied.0, rest)
    go Less Equal e rest = absurd (cc e)
    go Less Greater e rest = absurd (cc e)
    go Equal Less e rest = absurd (cc e)
    go Equal Greater e rest = absurd (cc e)
    go Greater Less e rest = absurd (cc e)
    go Greater Equal e rest = absurd (cc e)

-- the group: AddFamily, Last
pub make_holds : (core : Core) (parts : ImageParts) (named : Named) (name : List ℕ) → HoldsNamed core parts named
    → HoldsNamed (with_family core name) parts (record { families = set_at named.families name (new_named core.next_family); logs = named.logs; last = max named.last core.last })
make_holds core parts named name holds = record {
  families = make_zip parts (log_ops_of parts named.logs) core.last core.next_family name core.families named.families (new_family parts (log_ops_of parts named.logs) core.last core.next_family name holds.given) holds.families;
  logs = holds.logs;
  last = numbers (last_op 0 (log_ops_of parts named.logs)) holds.last;
  given = each_as (λ (op : LogOp). op.family < core.next_family) (λ op. op.family < core.next_family + 1) (λ op less. omega arith) (log_ops_of parts named.logs) holds.given;
}
  where
    numbers : (ops : ℕ) → max named.last ops ≡ core.last → max (max named.last core.last) ops ≡ core.last
    numbers ops e = omega arith

-- ---- a family is dropped

drop_zip : (parts : ImageParts) (ops : List LogOp) (last id : ℕ) (name : List ℕ) (cs : List (List ℕ × FamilyView)) (ns : List (List ℕ × NamedFamily)) → Each (λ here. same here.0 name ≡ (here.1.id == id)) cs
    → AllZip (IsTiedFamily parts ops last) cs ns → AllZip (IsTiedFamily parts ops last) (without cs name) (filter (λ (family : List ℕ × NamedFamily). not (family.1.id == id)) ns)
drop_zip parts ops last id name [] [] names tied = tt
drop_zip parts ops last id name [] (n ∷ ns) names tied = absurd tied
drop_zip parts ops last id name (c ∷ cs) [] names tied = absurd tied
drop_zip parts ops last id name (c ∷ cs) (n ∷ ns) names tied = go (same c.0 name) (n.1.id == id) (ap (λ m. m == id) tied.0.id ∙ sym names.0) (drop_zip parts ops last id name cs ns names.1 tied.1)
  where
    go : (b c' : Bool) → c' ≡ b → AllZip (IsTiedFamily parts ops last) (without cs name) (filter (λ (family : List ℕ × NamedFamily). not (family.1.id == id)) ns)
        → AllZip (IsTiedFamily parts ops last) (cond (not b) (c ∷ without cs name) (without cs name)) (cond (not c') (n ∷ filter (λ (family : List ℕ × NamedFamily). not (family.1.id == id)) ns) (filter (λ (family : List ℕ × NamedFamily). not (family.1.id == id)) ns))
    go true true e rest = rest
    go false false e rest = (tied.0, rest)
    go true false e rest = absurd (false≢true e)
    go false true e rest = absurd (false≢true (sym e))

-- the group: DropFamily, Last
pub drop_holds : (core : Core) (parts : ImageParts) (named : Named) (name : List ℕ) (id : ℕ) → HoldsNamed core parts named → Each (λ here. same here.0 name ≡ (here.1.id == id)) core.families
    → HoldsNamed (without_family core name) parts (record { families = filter (λ (family : List ℕ × NamedFamily). not (family.1.id == id)) named.families; logs = named.logs; last = max named.last core.last })
drop_holds core parts named name id holds names = record {
  families = drop_zip parts (log_ops_of parts named.logs) core.last id name core.families named.families names holds.families;
  logs = holds.logs;
  last = numbers (last_op 0 (log_ops_of parts named.logs)) holds.last;
  given = holds.given;
}
  where
    numbers : (ops : ℕ) → max named.last ops ≡ core.last → max (max named.last core.last) ops ≡ core.last
    numbers ops e = omega arith

-- ---- a log is rolled

-- a new log without operations
abbrev IsNew : ImageParts → ℕ → Type 0
IsNew parts file = parts.log file ≡ LogFound [] None

rolled_ops : (parts : ImageParts) (file : ℕ) (logs : List ℕ) → IsNew parts file → log_ops_of parts (put_number file logs) ≡ log_ops_of parts logs
rolled_ops parts file [] new = ap (λ read. records_in read ++ []) new
rolled_ops parts file (log ∷ logs) new = go (nat_lt file log) (rolled_ops parts file logs new)
  where
    go : (b : Bool) → log_ops_of parts (put_number file logs) ≡ log_ops_of parts logs → log_ops_of parts (cond b (file ∷ log ∷ logs) (log ∷ put_number file logs)) ≡ log_ops_of parts (log ∷ logs)
    go true rest = ap (λ read. records_in read ++ log_ops_of parts (log ∷ logs)) new
    go false rest = ap (λ l. records_in (parts.log log) ++ l) rest

rolled_whole : (parts : ImageParts) (file last : ℕ) (logs : List ℕ) → IsNew parts file → image_log_damage parts last logs ≡ None → image_log_damage parts last (put_number file logs) ≡ None
rolled_whole parts file last [] new none = ap (λ read. read_damage file last read (λ n. None)) new
rolled_whole parts file last (log ∷ logs) new none = go (nat_lt file log) (whole_of log last (parts.log log) (λ n. image_log_damage parts n logs) none) (λ n. rolled_whole parts file n logs new)
  where
    go : (b : Bool) → IsWhole last (parts.log log) (λ n. image_log_damage parts n logs) → ((n : ℕ) → image_log_damage parts n logs ≡ None → image_log_damage parts n (put_number file logs) ≡ None)
        → image_log_damage parts last (cond b (file ∷ log ∷ logs) (log ∷ put_number file logs)) ≡ None
    go true whole rest = ap (λ read. read_damage file last read (λ n. image_log_damage parts n (log ∷ logs))) new ∙ none
    go false whole rest = none_of log last (parts.log log) (λ n. image_log_damage parts n (put_number file logs)) whole.whole whole.rises (rest (last_op last (records_in (parts.log log))) whole.rest_none)

-- the group: AddLog, Last
pub roll_holds : (core : Core) (parts : ImageParts) (named : Named) (file : ℕ) → HoldsNamed core parts named → IsNew parts file
    → HoldsNamed core parts (record { families = named.families; logs = put_number file named.logs; last = max named.last core.last })
roll_holds core parts named file holds new = record {
  families = subst (λ ops. AllZip (IsTiedFamily parts ops core.last) core.families named.families) (sym (rolled_ops parts file named.logs new)) holds.families;
  logs = rolled_whole parts file 0 named.logs new holds.logs;
  last = ap (λ ops. max (max named.last core.last) (last_op 0 ops)) (rolled_ops parts file named.logs new) ∙ numbers (last_op 0 (log_ops_of parts named.logs)) holds.last;
  given = subst (Each (λ (op : LogOp). op.family < core.next_family)) (sym (rolled_ops parts file named.logs new)) holds.given;
}
  where
    numbers : (ops : ℕ) → max named.last ops ≡ core.last → max (max named.last core.last) ops ≡ core.last
    numbers ops e = omega arith

-- ---- a memtable is sealed: nothing on the disk changes

pub seal_family : (parts : ImageParts) (ops : List LogOp) (last : ℕ) (here : List ℕ × FamilyView) (there : List ℕ × NamedFamily) → IsTiedFamily parts ops last here there
    → IsTiedFamily parts ops last (here.0, record here.1 { mem = []; sealed = here.1.mem ∷ here.1.sealed }) there
seal_family parts ops last here there tied = record {
  name = tied.name;
  id = tied.id;
  levels = tied.levels;
  memory = tied.memory;
  order = (empty (here.1.mem ∷ here.1.sealed), tied.order);
  flushed = tied.flushed;
  tables = tied.tables;
}
  where
    empty : (runs : List (List Entry)) → Each (λ older. Each (λ (one : Entry). Each (λ other. other.number < one.number) older) []) runs
    empty [] = tt
    empty (run ∷ runs) = (tt, empty runs)
