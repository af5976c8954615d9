-- Every change keeps that each key with a write or a mark of the base is known.
use Rattle.std.proofs.Common.{◌≡◌, ℕ, ◌+◌, Bool, true, false, cond, not, ◌||◌, ◌==◌, List, [], ◌∷◌, ◌++◌, filter, fold, is_some, refl, ap, Ordering, Less, Equal, Greater}
use Rattle.std.specs.List.{AllZip, AllByRecursion as Each, list_any}
use Rattle.std.specs.Ordering.{match_ordering}
use Rattle.std.proofs.lemmas.Bool.{false≢true}
use Rattle.st_base.specs.Bytes.{same, bytes_cmp}
use Rattle.st_base.specs.Map.{set_at, changed_at, value_at}
use Rattle.st_base.specs.Range.{keys_of, has_key, under_number}
use Rattle.st_base.specs.declared.entry.Entry.{Entry}
use Rattle.st_base.specs.declared.entry.Mark.{Mark}
use Rattle.st_base.proofs.Same.{same_self}
use Rattle.st_model.specs.declared.change.Change.{Change}
use Rattle.st_model.specs.declared.change.Change.TheVariants as change
use Rattle.st_model.specs.declared.change.Op.{Op}
use Rattle.st_model.specs.declared.change.Taken.{Taken}
use Rattle.st_model.specs.declared.state.ModelFamily.{ModelFamily}
use Rattle.st_model.specs.declared.state.ModelState.{ModelState}
use Rattle.st_model.specs.Apply.{apply, apply_file, op_entry, op_family, with_behind, with_early, with_taken_file, with_known, with_marks, with_numbered, with_ops, with_write}
use Rattle.st_model.specs.State.{new_family}
use Rattle.st_model.specs.declared.contents.Contents.{Contents}
use Rattle.st_model.specs.declared.contents.ContentsFamily.{ContentsFamily}
use Rattle.st_model.specs.Contents.{opened, opened_families}
use Rattle.base_laws.proofs.Lists.{any_left, any_right, each_as, each_filter, each_join, each_map}
use Rattle.base_laws.proofs.Maps.{each_changed, each_set}
use Rattle.base_laws.proofs.Ranges.{under_each}
use Rattle.model_laws.specs.Claims.{HoldsMarks, KnowsKeys, KnowsAllKeys, KeepsKnown, OpensKnown}

-- ---- lists of known keys

-- the key is one of these
abbrev pub IsOf : List (List ℕ) → List ℕ → Type 0
IsOf keys key = list_any (λ other. same other key) keys ≡ true

-- each entry's key is among their keys
each_own : (entries : List Entry) → Each (λ entry. list_any (λ other. same other entry.key) (keys_of entries) ≡ true) entries
each_own [] = tt
each_own (entry ∷ entries) = (
  ap (λ b. b || list_any (λ other. same other entry.key) (keys_of entries)) (same_self entry.key),
  each_as (λ (one : Entry). list_any (λ other. same other one.key) (keys_of entries) ≡ true) (λ (one : Entry). list_any (λ other. same other one.key) (keys_of (entry ∷ entries)) ≡ true)
      (λ one h. any_right (λ other. same other one.key) (entry.key ∷ []) (keys_of entries) h) entries (each_own entries),
)

-- ---- maps and lists

each_marks : (P : List ℕ → Type 0) (base : List (List ℕ × Mark)) (entries : List Entry) → Each (λ pair. P pair.0) base → Each (λ entry. P entry.key) entries → Each (λ pair. P pair.0) (with_marks base entries)
each_marks P base [] h k = h
each_marks P base (entry ∷ entries) h k =
    each_marks P (set_at base entry.key entry.mark) entries (each_set (λ pair. P pair.0) base entry.key entry.mark (λ other old q. q) h k.0) k.1

-- ---- one family

-- with more known keys
writes-more : (keys more : List (List ℕ)) (writes : List Entry) → Each (λ write. IsOf keys write.key) writes → Each (λ write. IsOf (keys ++ more) write.key) writes
writes-more keys more writes h = each_as (λ (write : Entry). IsOf keys write.key) (λ (write : Entry). IsOf (keys ++ more) write.key) (λ write k. any_left (λ other. same other write.key) keys more k) writes h

base-more : (keys more : List (List ℕ)) (base : List (List ℕ × Mark)) → Each (λ pair. IsOf keys pair.0) base → Each (λ pair. IsOf (keys ++ more) pair.0) base
base-more keys more base h = each_as (λ (pair : List ℕ × Mark). IsOf keys pair.0) (λ (pair : List ℕ × Mark). IsOf (keys ++ more) pair.0) (λ pair k. any_left (λ other. same other pair.0) keys more k) base h

own-more : (keys : List (List ℕ)) (entries : List Entry) → Each (λ entry. IsOf (keys ++ keys_of entries) entry.key) entries
own-more keys entries =
    each_as (λ (entry : Entry). IsOf (keys_of entries) entry.key) (λ (entry : Entry). IsOf (keys ++ keys_of entries) entry.key) (λ entry k. any_right (λ other. same other entry.key) keys (keys_of entries) k) entries (each_own entries)

knows_write : (entry : Entry) (family : ModelFamily) → KnowsKeys family → KnowsKeys (with_write entry family)
knows_write entry family h = record {
  writes = each_join (λ (write : Entry). IsOf (family.known ++ entry.key ∷ []) write.key) family.writes (entry ∷ [])
      (writes-more family.known (entry.key ∷ []) family.writes h.writes) (own-more family.known (entry ∷ []));
  base = base-more family.known (entry.key ∷ []) family.base h.base;
}

knows_file : (file : Taken) (family : ModelFamily) → KnowsKeys family → KnowsKeys (with_known file.entries (with_taken_file file family))
knows_file file family h = go file.behind (file.number == 0)
  where
    own : Each (λ entry. IsOf (family.known ++ keys_of file.entries) entry.key) file.entries
    own = own-more family.known file.entries

    writes : Each (λ write. IsOf (family.known ++ keys_of file.entries) write.key) family.writes
    writes = writes-more family.known (keys_of file.entries) family.writes h.writes

    base : Each (λ pair. IsOf (family.known ++ keys_of file.entries) pair.0) family.base
    base = base-more family.known (keys_of file.entries) family.base h.base

    go : (behind none : Bool) → KnowsKeys (with_known file.entries (cond behind (with_behind file.entries family) (cond none (with_early file.entries family) (with_numbered file.number file.entries family))))
    go true none = record {
      writes = writes;
      base = each_marks (IsOf (family.known ++ keys_of file.entries)) family.base (filter (λ entry. not (is_some (value_at family.base entry.key))) file.entries) base
          (each_filter (λ (entry : Entry). IsOf (family.known ++ keys_of file.entries) entry.key) (λ entry. not (is_some (value_at family.base entry.key))) file.entries own);
    }
    go false true = record {
      writes = each_filter (λ (write : Entry). IsOf (family.known ++ keys_of file.entries) write.key) (λ write. not (has_key file.entries write.key)) family.writes writes;
      base = each_marks (IsOf (family.known ++ keys_of file.entries)) family.base file.entries base own;
    }
    go false false = record {
      writes = each_join (λ (write : Entry). IsOf (family.known ++ keys_of file.entries) write.key) family.writes (under_number file.number file.entries) writes
          (under_each (IsOf (family.known ++ keys_of file.entries)) file.number file.entries own);
      base = base;
    }

knows_new : (id : ℕ) → KnowsKeys (new_family id)
knows_new id = record { writes = tt; base = tt }

-- ---- a change

knows_ops : (last : ℕ) (ops : List Op) (families : List (List ℕ × ModelFamily)) → Each (λ named. KnowsKeys named.1) families → Each (λ named. KnowsKeys named.1) (with_ops last ops families)
knows_ops last [] families h = h
knows_ops last (op ∷ ops) families h =
    knows_ops (last + 1) ops (changed_at families (op_family op) (with_write (op_entry (last + 1) op)))
    (each_changed KnowsKeys families (op_family op) (with_write (op_entry (last + 1) op)) (knows_write (op_entry (last + 1) op)) h)

knows_files : (files : List Taken) (state : ModelState) → KnowsAllKeys state → KnowsAllKeys (fold apply_file state files)
knows_files [] state h = h
knows_files (file ∷ files) state h =
    knows_files files (apply_file state file) (each_changed KnowsKeys state.families file.family (λ family. with_known file.entries (with_taken_file file family)) (knows_file file) h)

knows_after : (state : ModelState) (change : Change) → KnowsAllKeys state → KnowsAllKeys (apply state change)
knows_after state (change.Write batch) h = knows_ops state.last batch.ops state.families h
knows_after state change.Snap h = h
knows_after state (change.Release id) h = h
knows_after state (change.Make name) h = each_set (λ named. KnowsKeys named.1) state.families name (new_family state.next_family) (λ other old q. knows_new state.next_family) h (knows_new state.next_family)
knows_after state (change.Drop name) h = each_filter (λ named. KnowsKeys named.1) (λ named. not (same named.0 name)) state.families h
knows_after state (change.Ingest files) h = knows_files files state h

pub keeps_known : KeepsKnown
keeps_known = (λ behind. (knows_new 0, tt), knows_after)

-- ---- an opening

opens_families : (known : List (List (List ℕ))) (families : List ContentsFamily) → AllZip HoldsMarks known families → Each (λ named. KnowsKeys named.1) (opened_families known families)
opens_families [] [] h = tt
opens_families [] (family ∷ families) h = absurd h
opens_families (keys ∷ known) [] h = tt
opens_families (keys ∷ known) (family ∷ families) h = (
  record {
    writes = tt;
    base = each_map (λ (pair : List ℕ × Mark). IsOf keys pair.0) (λ (entry : Entry). (entry.key, entry.mark)) family.marks h.0;
  },
  opens_families known families h.1,
)

pub opens_known : OpensKnown
opens_known contents known h = opens_families known contents.families h
