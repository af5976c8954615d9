-- A write keeps the tie: operation by operation.
use Rattle.std.proofs.Common.{◌≡◌, ℕ, ◌+◌, ◌<◌, ◌≤◌, Bool, true, false, cond, ◌&&◌, List, [], ◌∷◌, ◌++◌, map, filter, reverse, Some, None, refl, sym, ap, subst, ◌∙◌, append-nil, true≢false, is_eq, arith}
use Rattle.std.specs.Prelude.{nat_lt, ◌==◌, max, length, Contains, ⊤}
use Rattle.std.specs.Ordering.{nat_cmp, is_lt, ordering_then}
use Rattle.std.specs.declared.cmp.Ordering.{Ordering}
use Rattle.std.specs.declared.cmp.Ordering.TheVariants.{Less, Equal, Greater}
use Rattle.std.specs.List.{AllByRecursion as Each, AllZip}
use Rattle.std.proofs.lemmas.Bool.{false≢true, lt-ltb}
use Rattle.std.proofs.lemmas.List.{reverse-append}
use Rattle.std.proofs.lemmas.List.Elements.{All-from_recursion}
use Rattle.st_base.specs.Bytes.{same, bytes_cmp}
use Rattle.st_base.specs.Order.{comes_before}
use Rattle.st_base.specs.Map.{changed_at}
use Rattle.st_base.proofs.Same.{same_self, same_true, same_is_eq}
use Rattle.st_base.specs.declared.entry.Entry.{Entry}
use Rattle.base_laws.proofs.Lists.{append_one, each_as, each_join}
use Rattle.core_laws.proofs.LevelLists.{map_append}
use Rattle.core_laws.proofs.Lists.{filter_join}
use Rattle.core_laws.proofs.WrittenFamily.{put_each}
use Rattle.core_model.specs.Picture.{Core, FamilyView, walk, runs_of, tables_in}
use Rattle.core_model.specs.RelationParts.{NumbersWithin}
use Rattle.core_model.specs.Step.{put_in_memory, with_memory_entry, with_operations, with_batch}
use Rattle.st_model.specs.declared.change.Op.{Op}
use Rattle.st_model.specs.Apply.{op_family, op_entry as model_entry}
use Rattle.manifest_edits.specs.Edits.{NamedFamily}
use Rattle.std.specs.Option.{option_map, option_or}
use Rattle.st_model.specs.declared.change.Batch.{Batch}
use Rattle.store_image.specs.Opens.{damage_at, last_op, unrisen, image_log_damage, read_damage}
use Rattle.store_image.specs.Parts.{ImageParts, log_ops_of, counts_for, counted_entries}
use Rattle.image_laws.proofs.Logs.{whole_of, none_of, last_append}
use Rattle.image_laws.proofs.Frame.{families_frame}
use Rattle.store_image.specs.Tie.{EngineFiles, HoldsNamed, IsTiedFamily}
use Rattle.manifest_edits.specs.Logs.{LogOp, log_op_entry, records_in}
use Rattle.store_image.specs.Calls.{HasLogMore}
use Rattle.st_order.specs.Columns.{of_key, column}

-- ---- an entry among those of a memtable

equal_self : (key : List ℕ) → bytes_cmp key key ≡ Equal
equal_self key = go (bytes_cmp key key) (sym (same_is_eq key key) ∙ same_self key)
  where
    go : (r : Ordering) → is_eq r ≡ true → r ≡ Equal
    go Less e = absurd (false≢true e)
    go Equal e = refl
    go Greater e = absurd (false≢true e)

less_number : (a b : ℕ) → a < b → is_lt (nat_cmp a b) ≡ true
less_number a b h = ap (λ c. is_lt (cond c Less (cond (a == b) Equal Greater))) (lt-ltb a b h)

-- a newer entry of its key comes before it
newer_before : (entry other : Entry) → other.number < entry.number → entry.key ≡ other.key → comes_before entry other ≡ true
newer_before entry other less keys =
    ap (λ key. is_lt (ordering_then (bytes_cmp entry.key key) (nat_cmp other.number entry.number))) (sym keys)
    ∙ ap (λ r. is_lt (ordering_then r (nat_cmp other.number entry.number))) (equal_self entry.key)
    ∙ less_number other.number entry.number less

pub put_column : (entry : Entry) (mem : List Entry) (key : List ℕ) → Each (λ other. other.number < entry.number) mem → of_key key (put_in_memory entry mem) ≡ cond (same entry.key key) (entry ∷ of_key key mem) (of_key key mem)
put_column entry [] key h = refl
put_column entry (other ∷ mem) key h = go (comes_before entry other) refl (same other.key key) refl (same entry.key key) refl (put_column entry mem key h.1)
  where
    go : (b : Bool) → comes_before entry other ≡ b → (c : Bool) → same other.key key ≡ c → (d : Bool) → same entry.key key ≡ d
        → of_key key (put_in_memory entry mem) ≡ cond (same entry.key key) (entry ∷ of_key key mem) (of_key key mem)
        → of_key key (cond b (entry ∷ other ∷ mem) (other ∷ put_in_memory entry mem)) ≡ cond (same entry.key key) (entry ∷ of_key key (other ∷ mem)) (of_key key (other ∷ mem))
    go true e c f d g rest = refl
    go false e true f true g rest =
        absurd (true≢false (sym (newer_before entry other h.0 (same_true entry.key key g ∙ sym (same_true other.key key f))) ∙ e))
    go false e true f false g rest =
        ap (λ c. cond c (other ∷ of_key key (put_in_memory entry mem)) (of_key key (put_in_memory entry mem))) f
        ∙ ap (λ l. other ∷ l) (rest ∙ ap (λ d. cond d (entry ∷ of_key key mem) (of_key key mem)) g)
        ∙ sym (ap (λ d. cond d (entry ∷ of_key key (other ∷ mem)) (of_key key (other ∷ mem))) g ∙ ap (λ c. cond c (other ∷ of_key key mem) (of_key key mem)) f)
    go false e false f d g rest =
        ap (λ c. cond c (other ∷ of_key key (put_in_memory entry mem)) (of_key key (put_in_memory entry mem))) f
        ∙ rest
        ∙ ap (λ l. cond (same entry.key key) (entry ∷ l) l) (sym (ap (λ c. cond c (other ∷ of_key key mem) (of_key key mem)) f))

-- ---- one operation more

counted_more : (family : NamedFamily) (ops : List LogOp) (op : LogOp) → counted_entries family (ops ++ op ∷ []) ≡ cond (counts_for family op) (log_op_entry op ∷ counted_entries family ops) (counted_entries family ops)
counted_more family ops op =
    ap (λ found. reverse (map log_op_entry found)) (filter_join (counts_for family) ops (op ∷ [])) ∙ go (counts_for family op)
  where
    go : (b : Bool) → reverse (map log_op_entry (filter (counts_for family) ops ++ cond b (op ∷ []) [])) ≡ cond b (log_op_entry op ∷ counted_entries family ops) (counted_entries family ops)
    go true = ap (λ (l : List Entry). reverse l) (map_append log_op_entry (filter (counts_for family) ops) (op ∷ [])) ∙ reverse-append (map log_op_entry (filter (counts_for family) ops)) (log_op_entry op ∷ [])
    go false = ap (λ found. reverse (map log_op_entry found)) (append-nil (filter (counts_for family) ops))

-- the family that the operation names gets its entry, the others stay
pub write_family : (parts : ImageParts) (ops : List LogOp) (last : ℕ) (op : LogOp) (b : Bool) (here : List ℕ × FamilyView) (there : List ℕ × NamedFamily) → IsTiedFamily parts ops last here there
    → NumbersWithin last here.1 → op.number ≡ last + 1 → (op.family == there.1.id) ≡ b
    → IsTiedFamily parts (ops ++ op ∷ []) (last + 1) (here.0, cond b (with_memory_entry (log_op_entry op) here.1) here.1) there
write_family parts ops last op false here there tied within number names = record {
  name = tied.name;
  id = tied.id;
  levels = tied.levels;
  memory = λ key. tied.memory key ∙ sym (ap (of_key key) (counted_more there.1 ops op ∙ ap (λ b. cond (b && nat_lt there.1.flushed op.number) (log_op_entry op ∷ counted_entries there.1 ops) (counted_entries there.1 ops)) names));
  order = tied.order;
  flushed = let old = tied.flushed in omega arith;
  tables = tied.tables;
}
write_family parts ops last op true here there tied within number names = record {
  name = tied.name;
  id = tied.id;
  levels = tied.levels;
  memory = λ key.
      ap (λ l. l ++ column key here.1.sealed) (put_column (log_op_entry op) here.1.mem key mem_below)
      ∙ go (same op.key key) (of_key key here.1.mem) (column key here.1.sealed)
      ∙ ap (λ l. cond (same op.key key) (log_op_entry op ∷ l) l) (tied.memory key)
      ∙ sym (ap (of_key key) (counted_more there.1 ops op ∙ ap (λ b. cond (b && nat_lt there.1.flushed op.number) (log_op_entry op ∷ counted_entries there.1 ops) (counted_entries there.1 ops)) names
      ∙ ap (λ b. cond b (log_op_entry op ∷ counted_entries there.1 ops) (counted_entries there.1 ops)) (lt-ltb there.1.flushed op.number (let old = tied.flushed in omega arith))));
  order = (newer here.1.sealed tied.order.0 within.1, tied.order.1);
  flushed = let old = tied.flushed in omega arith;
  tables = tied.tables;
}
  where
    mem_below : Each (λ (other : Entry). other.number < op.number) here.1.mem
    mem_below = each_as (λ (other : Entry). other.number ≤ last) (λ other. other.number < op.number) (λ other h. omega arith) here.1.mem within.0

    go : (b : Bool) (mem sealed : List Entry) → cond b (log_op_entry op ∷ mem) mem ++ sealed ≡ cond b (log_op_entry op ∷ (mem ++ sealed)) (mem ++ sealed)
    go true mem sealed = refl
    go false mem sealed = refl

    newer : (sealed : List (List Entry)) → Each (λ older. Each (λ one. Each (λ other. other.number < one.number) older) here.1.mem) sealed
        → Each (Each (λ entry. entry.number ≤ last)) (sealed ++ runs_of (tables_in here.1.levels))
        → Each (λ older. Each (λ one. Each (λ other. other.number < one.number) older) (put_in_memory (log_op_entry op) here.1.mem)) sealed
    newer [] h within = tt
    newer (older ∷ sealed) h within = (
      put_each (λ one. Each (λ other. other.number < one.number) older) (log_op_entry op) here.1.mem (each_as (λ (other : Entry). other.number ≤ last) (λ other. other.number < op.number) (λ other h. omega arith) older within.0) h.0,
      newer sealed h.1 within.1,
    )

-- the operation's family id is that of the family that it names, and no other's
abbrev pub NamesFamily : List ℕ → ℕ → List (List ℕ × FamilyView) → Type 0
NamesFamily name id cs = Each (λ here. same here.0 name ≡ (id == here.1.id)) cs

write_families : (parts : ImageParts) (ops : List LogOp) (last : ℕ) (op : LogOp) (name : List ℕ) (cs : List (List ℕ × FamilyView)) (ns : List (List ℕ × NamedFamily)) → AllZip (IsTiedFamily parts ops last) cs ns
    → Each (λ here. NumbersWithin last here.1) cs → op.number ≡ last + 1 → NamesFamily name op.family cs → AllZip (IsTiedFamily parts (ops ++ op ∷ []) (last + 1)) (changed_at cs name (with_memory_entry (log_op_entry op))) ns
write_families parts ops last op name [] [] tied within number names = tt
write_families parts ops last op name [] (n ∷ ns) tied within number names = absurd tied
write_families parts ops last op name (c ∷ cs) [] tied within number names = absurd tied
write_families parts ops last op name (c ∷ cs) (n ∷ ns) tied within number names =
    (write_family parts ops last op (same c.0 name) c n tied.0 within.0 number (ap (λ id. op.family == id) tied.0.id ∙ sym names.0), write_families parts ops last op name cs ns tied.1 within.1 number names.1)

-- the numbers stay within the last one
write_within : (last : ℕ) (entry : Entry) (name : List ℕ) (cs : List (List ℕ × FamilyView)) → entry.number ≡ last + 1 → Each (λ here. NumbersWithin last here.1) cs → Each (λ here. NumbersWithin (last + 1) here.1) (changed_at cs name (with_memory_entry entry))
write_within last entry name [] number within = tt
write_within last entry name (c ∷ cs) number within = (go (same c.0 name), write_within last entry name cs number within.1)
  where
    more : (runs : List (List Entry)) → Each (Each (λ (one : Entry). one.number ≤ last)) runs → Each (Each (λ (one : Entry). one.number ≤ last + 1)) runs
    more [] h = tt
    more (run ∷ runs) h = (each_as (λ (one : Entry). one.number ≤ last) (λ one. one.number ≤ last + 1) (λ one le. omega arith) run h.0, more runs h.1)

    go : (b : Bool) → NumbersWithin (last + 1) (cond b (with_memory_entry entry c.1) c.1)
    go true = (put_each (λ (one : Entry). one.number ≤ last + 1) entry c.1.mem (omega arith) (more (walk c.1) within.0).0, (more (walk c.1) within.0).1)
    go false = more (walk c.1) within.0

-- ---- the operations of a write

-- each is logged under the next number, with its entry and its family's id
abbrev pub AreLogged : ℕ → List (List ℕ × FamilyView) → List Op → List LogOp → Type 0
AreLogged last cs [] [] = ⊤
AreLogged last cs (op ∷ ops) (one ∷ more) =
    ((one.number ≡ last + 1) × (log_op_entry one ≡ model_entry (last + 1) op) × NamesFamily (op_family op) one.family cs) × AreLogged (last + 1) cs ops more
AreLogged last cs ops more = ⊥

names_stay : (name other : List ℕ) (id : ℕ) (entry : Entry) (cs : List (List ℕ × FamilyView)) → NamesFamily name id cs → NamesFamily name id (changed_at cs other (with_memory_entry entry))
names_stay name other id entry [] h = tt
names_stay name other id entry (c ∷ cs) h = (h.0 ∙ go (same c.0 other), names_stay name other id entry cs h.1)
  where
    go : (b : Bool) → (id == c.1.id) ≡ (id == (cond b (with_memory_entry entry c.1) c.1).id)
    go true = refl
    go false = refl

logged_stay : (last : ℕ) (other : List ℕ) (entry : Entry) (cs : List (List ℕ × FamilyView)) (ops : List Op) (more : List LogOp) → AreLogged last cs ops more → AreLogged last (changed_at cs other (with_memory_entry entry)) ops more
logged_stay last other entry cs [] [] h = tt
logged_stay last other entry cs [] (one ∷ more) h = absurd h
logged_stay last other entry cs (op ∷ ops) [] h = absurd h
logged_stay last other entry cs (op ∷ ops) (one ∷ more) h = ((h.0.0, h.0.1, names_stay (op_family op) other one.family entry cs h.0.2), logged_stay (last + 1) other entry cs ops more h.1)

-- a write keeps the families tied
pub write_ops : (parts : ImageParts) (ops : List LogOp) (last : ℕ) (batch : List Op) (logged : List LogOp) (cs : List (List ℕ × FamilyView)) (ns : List (List ℕ × NamedFamily)) → AllZip (IsTiedFamily parts ops last) cs ns
    → Each (λ here. NumbersWithin last here.1) cs → AreLogged last cs batch logged → AllZip (IsTiedFamily parts (ops ++ logged) (last + length batch)) (with_operations last batch cs) ns
write_ops parts ops last [] [] cs ns tied within are = subst (λ n. AllZip (IsTiedFamily parts (ops ++ []) n) cs ns) (omega arith) (subst (λ ops. AllZip (IsTiedFamily parts ops last) cs ns) (sym (append-nil ops)) tied)
write_ops parts ops last [] (one ∷ logged) cs ns tied within are = absurd are
write_ops parts ops last (op ∷ batch) [] cs ns tied within are = absurd are
write_ops parts ops last (op ∷ batch) (one ∷ logged) cs ns tied within are =
    subst (λ entry. AllZip (IsTiedFamily parts (ops ++ one ∷ logged) (last + length (op ∷ batch))) (with_operations (last + 1) batch (changed_at cs (op_family op) (with_memory_entry entry))) ns) are.0.1
    (subst (λ n. AllZip (IsTiedFamily parts (ops ++ one ∷ logged) n) (with_operations (last + 1) batch (changed_at cs (op_family op) (with_memory_entry (log_op_entry one)))) ns) (omega arith)
    (subst (λ ops. AllZip (IsTiedFamily parts ops (last + 1 + length batch)) (with_operations (last + 1) batch (changed_at cs (op_family op) (with_memory_entry (log_op_entry one)))) ns) (append_one ops one logged)
    (write_ops parts (ops ++ one ∷ []) (last + 1) batch logged (changed_at cs (op_family op) (with_memory_entry (log_op_entry one))) ns (write_families parts ops last one (op_family op) cs ns tied within are.0.0 are.0.2)
    (write_within last (log_op_entry one) (op_family op) cs are.0.0 within) (logged_stay (last + 1) (op_family op) (log_op_entry one) cs batch logged are.1))))

-- ---- the log

logged_rise : (n last : ℕ) (cs : List (List ℕ × FamilyView)) (batch : List Op) (logged : List LogOp) → n ≤ last → AreLogged last cs batch logged → unrisen n logged ≡ None
logged_rise n last cs [] [] le are = refl
logged_rise n last cs [] (one ∷ logged) le are = absurd are
logged_rise n last cs (op ∷ batch) [] le are = absurd are
logged_rise n last cs (op ∷ batch) (one ∷ logged) le are =
    let number = are.0.0 in
    ap (λ b. cond b (unrisen one.number logged) (Some one.at)) (lt-ltb n one.number (omega arith)) ∙ logged_rise one.number (last + 1) cs batch logged (omega arith) are.1

logged_last : (m n last : ℕ) (cs : List (List ℕ × FamilyView)) (batch : List Op) (logged : List LogOp) → max m n ≡ last → AreLogged last cs batch logged → max m (last_op n logged) ≡ last + length batch
logged_last m n last cs [] [] e are = omega arith
logged_last m n last cs [] (one ∷ logged) e are = absurd are
logged_last m n last cs (op ∷ batch) [] e are = absurd are
logged_last m n last cs (op ∷ batch) (one ∷ logged) e are =
    let number = are.0.0 in
    let rest : max m (last_op one.number logged) ≡ (last + 1) + length batch = logged_last m one.number (last + 1) cs batch logged (omega arith) are.1 in omega arith

rise_append : (last : ℕ) (xs ys : List LogOp) → unrisen last xs ≡ None → unrisen (last_op last xs) ys ≡ None → unrisen last (xs ++ ys) ≡ None
rise_append last [] ys e f = f
rise_append last (x ∷ xs) ys e f = go (nat_lt last x.number) e (λ e. rise_append x.number xs ys e f)
  where
    go : (b : Bool) → cond b (unrisen x.number xs) (Some x.at) ≡ None → (unrisen x.number xs ≡ None → unrisen x.number (xs ++ ys) ≡ None) → cond b (unrisen x.number (xs ++ ys)) (Some x.at) ≡ None
    go true e rest = rest e
    go false e rest = absurd (cc e)

assoc : {Z : Type 0} (a b c : List Z) → a ++ (b ++ c) ≡ (a ++ b) ++ c
assoc [] b c = refl
assoc (z ∷ a) b c = ap (λ l. z ∷ l) (assoc a b c)

more_ops : (parts other : ImageParts) (older : List ℕ) (log : ℕ) (new : List LogOp) → HasLogMore parts other older log new → log_ops_of other (older ++ log ∷ []) ≡ log_ops_of parts (older ++ log ∷ []) ++ new
more_ops parts other [] log new is = ap (λ read. records_in read ++ []) is.more ∙ append-nil (records_in (parts.log log) ++ new) ∙ ap (λ l. l ++ new) (sym (append-nil (records_in (parts.log log))))
more_ops parts other (file ∷ older) log new is =
    ap (λ read. records_in read ++ log_ops_of other (older ++ log ∷ [])) is.same.0
    ∙ ap (λ l. records_in (parts.log file) ++ l) (more_ops parts other older log new (record { same = is.same.1; more = is.more }))
    ∙ assoc (records_in (parts.log file)) (log_ops_of parts (older ++ log ∷ [])) new

more_whole : (parts other : ImageParts) (older : List ℕ) (log last : ℕ) (new : List LogOp) → HasLogMore parts other older log new → image_log_damage parts last (older ++ log ∷ []) ≡ None
    → unrisen (last_op last (log_ops_of parts (older ++ log ∷ []))) new ≡ None → image_log_damage other last (older ++ log ∷ []) ≡ None
more_whole parts other [] log last new is none rises =
    let whole = whole_of log last (parts.log log) (λ n. None) none in
    ap (λ read. read_damage log last read (λ n. None)) is.more
    ∙ ap (λ a. option_or (option_map (damage_at log) (option_or a None)) None) (rise_append last (records_in (parts.log log)) new whole.rises (ap (λ ops. unrisen (last_op last ops) new) (sym (append-nil (records_in (parts.log log)))) ∙ rises))
more_whole parts other (file ∷ older) log last new is none rises =
    let whole = whole_of file last (parts.log file) (λ n. image_log_damage parts n (older ++ log ∷ [])) none in
    ap (λ read. read_damage file last read (λ n. image_log_damage other n (older ++ log ∷ []))) is.same.0
    ∙ none_of file last (parts.log file) (λ n. image_log_damage other n (older ++ log ∷ [])) whole.whole whole.rises
    (more_whole parts other older log (last_op last (records_in (parts.log file))) new (record { same = is.same.1; more = is.more }) whole.rest_none
    (ap (λ n. unrisen n new) (sym (last_append last (records_in (parts.log file)) (log_ops_of parts (older ++ log ∷ [])))) ∙ rises))

-- ---- the store

ids_below : (n : ℕ) (cs : List (List ℕ × FamilyView)) → Each (λ here. here.1.id < n) cs → Each (λ id. id < n) (map (λ (here : List ℕ × FamilyView). here.1.id) cs)
ids_below n [] h = tt
ids_below n (c ∷ cs) h = (h.0, ids_below n cs h.1)

-- with its record in the last log, the image is tied to the core after the write
pub write_holds : (core : Core) (parts other : ImageParts) (files : EngineFiles) (batch : Batch) (logged : List LogOp) → HoldsNamed core parts files.named → files.named.logs ≡ files.older_logs ++ files.log ∷ []
    → Each (λ here. NumbersWithin core.last here.1) core.families → AreLogged core.last core.families batch.ops logged → HasLogMore parts other files.older_logs files.log logged
    → Each (λ family. Each (λ placed. other.table placed.file ≡ parts.table placed.file) family.1.tables) files.named.families
    → Each (λ here. here.1.id < core.next_family) core.families → Each (λ op. Contains (map (λ (here : List ℕ × FamilyView). here.1.id) core.families) op.family) logged
    → HoldsNamed (with_batch core batch) other files.named
write_holds core parts other files batch logged holds logs within are more tables ids there = record {
  given = subst (Each (λ (op : LogOp). op.family < core.next_family)) (sym ops_are) (each_join (λ (op : LogOp). op.family < core.next_family) (log_ops_of parts files.named.logs) logged holds.given
      (each_as (λ (op : LogOp). Contains (map (λ (here : List ℕ × FamilyView). here.1.id) core.families) op.family) (λ op. op.family < core.next_family) (λ op has. id_given op.family core.families ids has) logged there));
  families = subst (λ ops. AllZip (IsTiedFamily other ops (core.last + length batch.ops)) (with_operations core.last batch.ops core.families) files.named.families) (sym ops_are)
      (write_ops other (log_ops_of parts files.named.logs) core.last batch.ops logged core.families files.named.families
      (families_frame parts other (log_ops_of parts files.named.logs) core.last core.families files.named.families tables holds.families) within are);
  logs = ap (image_log_damage other 0) logs ∙ more_whole parts other files.older_logs files.log 0 logged more (ap (image_log_damage parts 0) (sym logs) ∙ holds.logs)
      (logged_rise (last_op 0 (log_ops_of parts (files.older_logs ++ files.log ∷ []))) core.last core.families batch.ops logged below are);
  last = ap (λ ops. max files.named.last (last_op 0 ops)) ops_are ∙ ap (max files.named.last) (last_append 0 (log_ops_of parts files.named.logs) logged)
      ∙ logged_last files.named.last (last_op 0 (log_ops_of parts files.named.logs)) core.last core.families batch.ops logged holds.last are;
}
  where
    ops_are : log_ops_of other files.named.logs ≡ log_ops_of parts files.named.logs ++ logged
    ops_are = ap (log_ops_of other) logs ∙ more_ops parts other files.older_logs files.log logged more ∙ ap (λ l. log_ops_of parts l ++ logged) (sym logs)

    id_given : (id : ℕ) (cs : List (List ℕ × FamilyView)) → Each (λ here. here.1.id < core.next_family) cs → Contains (map (λ (here : List ℕ × FamilyView). here.1.id) cs) id → id < core.next_family
    id_given id cs h has = subst (λ n. n < core.next_family) has.2 (All-from_recursion (λ n. n < core.next_family) (map (λ (here : List ℕ × FamilyView). here.1.id) cs) (ids_below core.next_family cs h) has.0 id has.1)

    at_most : (m n last : ℕ) → max m n ≡ last → n ≤ last
    at_most m n last e = omega arith

    below : last_op 0 (log_ops_of parts (files.older_logs ++ files.log ∷ [])) ≤ core.last
    below = subst (λ l. last_op 0 (log_ops_of parts l) ≤ core.last) logs (at_most files.named.last (last_op 0 (log_ops_of parts files.named.logs)) core.last holds.last)
