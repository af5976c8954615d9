-- A write, on the marks of the store, in the model and on the log.
use Rattle.std.proofs.Common.{◌≡◌, ℕ, ◌+◌, ◌≤◌, Bool, true, false, not, cond, nat_lt, List, [], ◌∷◌, ◌++◌, map, length, Option, Some, None, slice_get, refl, sym, ◌∙◌, ap, subst, arith}
use Rattle.std.specs.List.{AllByRecursion as Each}
use Rattle.st_base.specs.Bytes.{same, default_family}
use Rattle.st_base.specs.Entries.{add_charge}
use Rattle.st_base.specs.Map.{set_at, value_at}
use Rattle.st_base.specs.declared.entry.Entry.{Entry}
use Rattle.st_base.specs.declared.entry.Mark.{Mark}
use Rattle.st_base.proofs.Same.{same_sym}
use Rattle.st_model.specs.declared.change.Op.{Op}
use Rattle.st_model.specs.declared.refusal.Refusal.{Refusal}
use Rattle.st_model.specs.declared.refusal.Refusal.TheVariants.{UnknownFamily, NumbersSpent, StoreFull}
use Rattle.st_model.specs.declared.state.ModelFamily.{ModelFamily}
use Rattle.st_model.specs.declared.state.ModelState.{ModelState}
use Rattle.st_model.specs.Answer.{refused_if, place_spent, write_refusals}
use Rattle.st_model.specs.Apply.{op_entry, op_family, op_key, op_mark, with_ops, with_write, write_charge}
use Rattle.st_model.specs.Contents.{as_entry, contents, contents_of_family, kept_marks, newest_marks, sorted_ranges, with_marks}
use Rattle.st_model.specs.State.{greatest_number}
use Rattle.base_laws.proofs.Lists.{each_as, each_join}
use Rattle.model_laws.proofs.ReadAfter.{mark_after}
use Rattle.log_recover.specs.Contents.{contents_of, logged_entry, written_marks}
use Rattle.log_recover.specs.Opens.{first_log_fault, last_number}
use Rattle.st_wal.specs.Batch.{Operation}
use Rattle.st_wal.specs.Logged.{logged}
use Rattle.st_wal.specs.declared.logged.Logged.{Logged}
use Rattle.log_engine.specs.Newest.{shown}
use Rattle.log_engine.specs.Op.{logged_op, marks_after, marks_after_all, strangers}
use Rattle.log_engine.specs.MarkStore.{HasMarks, IsSorted}
use Rattle.log_engine.proofs.Default.{HasDefault, unknown_is}
use Rattle.log_engine.proofs.Marks.{kept_at, sorted_filter, sorted_same, sorted_with, value_set, value_with}

-- ---- the marks after operations

pub after_all_same : (f g : List ℕ → Option Mark) (ops : List Operation) → ((q : List ℕ) → f q ≡ g q) → (q : List ℕ) → marks_after_all f ops q ≡ marks_after_all g ops q
after_all_same f g [] h q = h q
after_all_same f g (op ∷ ops) h q = after_all_same (marks_after f op) (marks_after g op) ops (λ k. ap (cond (same op.1 k) (Some op.2)) (h k)) q

pub after_push : (f : List ℕ → Option Mark) (ops : List Operation) (op : Operation) (q : List ℕ) → marks_after_all f (ops ++ op ∷ []) q ≡ cond (same op.1 q) (Some op.2) (marks_after_all f ops q)
after_push f [] op q = refl
after_push f (first ∷ ops) op q = after_push (marks_after f first) ops op q

-- the parts of a fact of each element
pub each_front : {X : Type 0} (P : X → Type 0) (xs ys : List X) → Each P (xs ++ ys) → Each P xs
each_front P [] ys h = tt
each_front P (x ∷ xs) ys h = (h.0, each_front P xs ys h.1)

pub each_end : {X : Type 0} (P : X → Type 0) (xs : List X) (x : X) → Each P (xs ++ x ∷ []) → P x
each_end P [] x h = h.0
each_end P (first ∷ xs) x h = each_end P xs x h.1

-- what the contents show of them depends on what they show before
pub after_all_shown : (behind : Bool) (f g : List ℕ → Option Mark) (ops : List Operation) → ((q : List ℕ) → shown behind (f q) ≡ shown behind (g q)) → (q : List ℕ) → shown behind (marks_after_all f ops q) ≡ shown behind (marks_after_all g ops q)
after_all_shown behind f g [] h q = h q
after_all_shown behind f g (op ∷ ops) h q = after_all_shown behind (marks_after f op) (marks_after g op) ops (λ k. go (same op.1 k) k) q
  where
    go : (b : Bool) (k : List ℕ) → shown behind (cond b (Some op.2) (f k)) ≡ shown behind (cond b (Some op.2) (g k))
    go true k = refl
    go false k = h k

-- ---- on the log

pub with_append : (m : List (List ℕ × Mark)) (xs ys : List Logged) → with_marks m (map logged_entry (xs ++ ys)) ≡ with_marks (with_marks m (map logged_entry xs)) (map logged_entry ys)
with_append m [] ys = refl
with_append m (x ∷ xs) ys = with_append (set_at m x.key x.mark) xs ys

value_logged : (at first : ℕ) (ops : List Operation) (m : List (List ℕ × Mark)) (q : List ℕ) → value_at (with_marks m (map logged_entry (logged at first ops))) q ≡ marks_after_all (value_at m) ops q
value_logged at first [] m q = refl
value_logged at first (op ∷ ops) m q =
    value_logged at (first + 1) ops (set_at m op.1 op.2) q ∙ after_all_same (value_at (set_at m op.1 op.2)) (marks_after (value_at m) op) ops (λ k. value_set m op.1 op.2 k) q

-- the marks that a log has after more operations
pub written_more : (at first : ℕ) (logs : List Logged) (ops : List Operation) (q : List ℕ) → value_at (written_marks (logs ++ logged at first ops)) q ≡ marks_after_all (value_at (written_marks logs)) ops q
written_more at first logs ops q = ap (λ m. value_at m q) (with_append [] logs (logged at first ops)) ∙ value_logged at first ops (written_marks logs) q

-- more operations of `default`, numbered behind the last number, are at no fault
pub more_sound : (at last : ℕ) (ops : List Op) → first_log_fault last (logged at (last + 1) (map logged_op ops)) ≡ None
more_sound at last [] = refl
more_sound at last (op ∷ ops) =
    let rises : nat_lt last (last + 1) ≡ true = grind arith in
    ap (λ b. cond b (first_log_fault (last + 1) (logged at (last + 1 + 1) (map logged_op ops))) (Some at)) rises ∙ more_sound at (last + 1) ops

pub more_last : (at last : ℕ) (ops : List Op) → last_number last (logged at (last + 1) (map logged_op ops)) ≡ last + length ops
more_last at last [] = omega arith
more_last at last (op ∷ ops) = more_last at (last + 1) ops ∙ omega arith

-- ---- in the model

-- the family after the operations, of which the first takes the number after `last`
abbrev pub family_after : ℕ → List Op → ModelFamily → ModelFamily
family_after last [] family = family
family_after last (op ∷ ops) family = family_after (last + 1) ops (with_write (op_entry (last + 1) op) family)

pub family_id : (last : ℕ) (ops : List Op) (family : ModelFamily) → (family_after last ops family).id ≡ family.id
family_id last [] family = refl
family_id last (op ∷ ops) family = family_id (last + 1) ops (with_write (op_entry (last + 1) op) family)

pub family_ranges : (last : ℕ) (ops : List Op) (family : ModelFamily) → (family_after last ops family).ranges ≡ family.ranges
family_ranges last [] family = refl
family_ranges last (op ∷ ops) family = family_ranges (last + 1) ops (with_write (op_entry (last + 1) op) family)

pub family_base : (last : ℕ) (ops : List Op) (family : ModelFamily) → (family_after last ops family).base ≡ family.base
family_base last [] family = refl
family_base last (op ∷ ops) family = family_base (last + 1) ops (with_write (op_entry (last + 1) op) family)

marks_one : (marks : List ℕ → Option Mark) (family : ModelFamily) (last : ℕ) (op : Op) → HasMarks marks family last → HasMarks (marks_after marks (logged_op op)) (with_write (op_entry (last + 1) op) family) (last + 1)
marks_one marks family last op h = record {
  numbers = each_join (λ (write : Entry). write.number ≤ last + 1) family.writes (op_entry (last + 1) op ∷ [])
      (each_as (λ (write : Entry). write.number ≤ last) (λ (write : Entry). write.number ≤ last + 1) (λ write k. omega (arith, k)) family.writes h.numbers)
      (omega arith, tt);
  newest = λ key. mark_after family last (op_entry (last + 1) op) key h.numbers refl ∙ ap (cond (same (op_key op) key) (Some (op_mark op))) (h.newest key);
}

-- all operations
pub marks_all : (marks : List ℕ → Option Mark) (family : ModelFamily) (last : ℕ) (ops : List Op) → HasMarks marks family last
    → HasMarks (marks_after_all marks (map logged_op ops)) (family_after last ops family) (last + length ops)
marks_all marks family last [] h = let e : last ≡ last + 0 = omega arith in subst (λ n. HasMarks marks family n) e h
marks_all marks family last (op ∷ ops) h =
    let e : last + 1 + length ops ≡ last + length (op ∷ ops) = omega arith in
    let more : HasMarks (marks_after_all (marks_after marks (logged_op op)) (map logged_op ops)) (family_after (last + 1) ops (with_write (op_entry (last + 1) op) family)) (last + 1 + length ops) =
    marks_all (marks_after marks (logged_op op)) (with_write (op_entry (last + 1) op) family) (last + 1) ops (marks_one marks family last op h) in
    subst (λ n. HasMarks (marks_after_all marks (map logged_op (op ∷ ops))) (family_after last (op ∷ ops) family) n) e more

-- the same marks at each key
pub marks_same : (f g : List ℕ → Option Mark) (family : ModelFamily) (last : ℕ) → ((key : List ℕ) → g key ≡ f key) → HasMarks f family last → HasMarks g family last
marks_same f g family last e h = record { numbers = h.numbers; newest = λ key. h.newest key ∙ sym (e key) }

none_strange : (op : Op) (ops : List Op) → strangers (op ∷ ops) ≡ [] → (same (op_family op) default_family ≡ true) × (strangers ops ≡ [])
none_strange op ops e = go (same (op_family op) default_family) refl e
  where
    go : (b : Bool) → same (op_family op) default_family ≡ b → cond (not b) (op_family op ∷ strangers ops) (strangers ops) ≡ [] → (same (op_family op) default_family ≡ true) × (strangers ops ≡ [])
    go true is f = (is, f)
    go false is f = cc

-- the operations change the one family
pub with_ops_is : (last : ℕ) (ops : List Op) (family : ModelFamily) → strangers ops ≡ [] → with_ops last ops ((default_family, family) ∷ []) ≡ (default_family, family_after last ops family) ∷ []
with_ops_is last [] family e = refl
with_ops_is last (op ∷ ops) family e =
    let none : (same (op_family op) default_family ≡ true) × (strangers ops ≡ []) = none_strange op ops e in
    let here : same default_family (op_family op) ≡ true = same_sym (op_family op) default_family none.0 in
    let entry : Entry = op_entry (last + 1) op in
    ap (λ b. with_ops (last + 1) ops ((default_family, cond b (with_write entry family) family) ∷ [])) here
    ∙ with_ops_is (last + 1) ops (with_write entry family) none.1

none_left : {X : Type 0} (xs : List X) → slice_get xs 0 ≡ None → xs ≡ []
none_left [] e = refl
none_left (x ∷ xs) e = cc

left_of : {X : Type 0} (xs ys : List X) → xs ++ ys ≡ [] → xs ≡ []
left_of [] ys e = refl
left_of (x ∷ xs) ys e = cc

-- a write that isn't refused names `default` alone
pub accepted_known : (state : ModelState) (family : ModelFamily) (capacity : ℕ) (ops : List Op) → HasDefault state family → slice_get (write_refusals state capacity ops) 0 ≡ None → strangers ops ≡ []
accepted_known state family capacity ops h e =
    let a : List Refusal = refused_if (nat_lt greatest_number (state.last + length ops)) NumbersSpent in
    let b : List Refusal = place_spent state in
    let c : List Refusal = refused_if (nat_lt capacity (add_charge state.charge (write_charge ops))) StoreFull in
    let none : write_refusals state capacity ops ≡ [] = none_left (write_refusals state capacity ops) e in
    let unknown : map UnknownFamily (strangers ops) ++ a ++ b ++ c ≡ [] = sym (ap (λ us. us ++ a ++ b ++ c) (unknown_is state family (map op_family ops) h)) ∙ none in
    no_names (strangers ops) (left_of (map UnknownFamily (strangers ops)) a (left_of (map UnknownFamily (strangers ops) ++ a) b (left_of (map UnknownFamily (strangers ops) ++ a ++ b) c unknown)))
  where
    no_names : (names : List (List ℕ)) → map UnknownFamily names ≡ [] → names ≡ []
    no_names [] e = refl
    no_names (name ∷ names) e = cc

-- ---- the contents

-- a state's contents are those of a log that shows the same marks
pub contents_is : (marks : List ℕ → Option Mark) (state : ModelState) (family : ModelFamily) (logs : List Logged) → state.families ≡ (default_family, family) ∷ [] → family.id ≡ 0 → family.ranges ≡ [] → IsSorted family.base → HasMarks marks family state.last
    → state.last ≡ last_number 0 logs → ((q : List ℕ) → shown state.behind (marks q) ≡ shown state.behind (value_at (written_marks logs) q)) → contents state ≡ contents_of state.behind logs
contents_is marks state family logs families id ranges sorted h last log =
    let behind : Bool = state.behind in
    let new : IsSorted (newest_marks family) = sorted_with family.base family.writes sorted in
    let old : IsSorted (written_marks logs) = sorted_with [] (map logged_entry logs) tt in
    let kept : kept_marks behind (newest_marks family) ≡ kept_marks behind (written_marks logs) =
    sorted_same (kept_marks behind (newest_marks family)) (kept_marks behind (written_marks logs)) (sorted_filter _ (newest_marks family) new) (sorted_filter _ (written_marks logs) old)
    (λ q. kept_at behind (newest_marks family) q new ∙ ap (shown behind) (value_with state.last family.writes family.base q h.numbers ∙ h.newest q) ∙ log q ∙ sym (kept_at behind (written_marks logs) q old)) in
    (λ i. record { last = last i; behind = behind; families = map (contents_of_family behind) (families i) })
    ∙ (λ i. record { last = last_number 0 logs; behind = behind; families = record { id = id i; name = default_family; marks = map as_entry (kept i); ranges = sorted_ranges (ranges i) } ∷ [] })
