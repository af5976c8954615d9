-- A family found by its id, and what is installed there.
use Rattle.std.proofs.Common.{◌≡◌, ℕ, zero, suc, ◌≤◌, ◌==◌, Bool, true, false, cond, List, [], ◌∷◌, find, Option, Some, None, is_some, refl, sym, ap, subst, ◌∙◌, inl, Bor, arith}
use Rattle.std.specs.Prelude.{◌||◌, IfOk, IfSome, IsSomeAnd, IsTrue, IsFalse, Result, Ok, Err}
use Rattle.std.specs.List.{AllByRecursion as Each, list_any}
use Rattle.std.specs.List.Sorted.{IsStrictlySortedBy}
use Rattle.std.specs.Map.{keys_of}
use Rattle.std.specs.Ordering.{is_eq}
use Rattle.std.proofs.lemmas.Map.Keys.{sorted_head, sorted_tail}
use Rattle.std.proofs.lemmas.Bool.{false≢true}
use Rattle.st_base.specs.Bytes.{bytes_cmp, same}
use Rattle.st_base.specs.Map.{value_at, changed_at}
use Rattle.st_order.specs.Columns.{Pairwise}
use Rattle.base_laws.proofs.Keys.{at_is, at_key, at_itself}
use Rattle.base_laws.proofs.Maps.{found_each}
use Rattle.core_model.specs.Compaction.{with_flushed, with_compacted}
use Rattle.core_model.specs.Event.{FlushInstalled, CompactInstalled}
use Rattle.core_model.specs.declared.reply.CoreReply.{CoreReply}
use Rattle.core_model.specs.declared.reply.CoreReply.TheVariants.{Done, FamilyGone}
use Rattle.core_model.specs.Picture.{Core, FamilyView, FileEntries, Job, is_flush}
use Rattle.core_model.specs.Run.{IsCoreStep}
use Rattle.core_model.specs.Step.{AreOutputs, Installs, changed_found, noted_job, without_job}
use Rattle.st_core.specs.Written.{AreWithin, IsWithin}
use Rattle.st_core.proofs.Named.{later_differ, same_is, seen}

-- no later name is an earlier one
abbrev pub NamesApart : List (List ℕ × FamilyView) → Type 0
NamesApart families = Pairwise (λ one other. same other.0 one.0 ≡ false) families

each_seen : {X : Type 0} (f : X → FamilyView) (P : List ℕ → Type 0) (pairs : List (List ℕ × X)) → Each P (keys_of pairs) → Each (λ named. P named.0) (seen f pairs)
each_seen f P [] h = tt
each_seen f P (p ∷ ps) h = (h.0, each_seen f P ps h.1)

pub names_apart : {X : Type 0} (f : X → FamilyView) (pairs : List (List ℕ × X)) → IsStrictlySortedBy bytes_cmp (keys_of pairs) → NamesApart (seen f pairs)
names_apart f [] h = tt
names_apart f (p ∷ ps) h =
    (each_seen f (λ later. same later p.0 ≡ false) ps (later_differ p.0 (keys_of ps) (sorted_head bytes_cmp p.0 (keys_of ps) h)), names_apart f ps (sorted_tail bytes_cmp p.0 (keys_of ps) h))

-- what is found has what each has
each_found : {X : Type 0} (P : X → Type 0) (test : X → Bool) (xs : List X) (x : X) → Each P xs → find test xs ≡ Some x → P x
each_found P test [] x h e = absurd cc
each_found P test (y ∷ ys) x h e = step (test y) e (each_found P test ys x h.1)
  where
    step : (b : Bool) → cond b (Some y) (find test ys) ≡ Some x → (find test ys ≡ Some x → P x) → P x
    step true e rest = let same : y ≡ x = cc in subst P same h.0
    step false e rest = rest e

any_found : {X : Type 0} (test : X → Bool) (xs : List X) → list_any test xs ≡ is_some (find test xs)
any_found test [] = refl
any_found test (x ∷ xs) = step (test x) (any_found test xs)
  where
    step : (b : Bool) → list_any test xs ≡ is_some (find test xs) → (b || list_any test xs) ≡ is_some (cond b (Some x) (find test xs))
    step true rest = refl
    step false rest = rest

-- names that differ do so both ways
other_name : (one other : List ℕ) → same other one ≡ false → is_eq (bytes_cmp other one) ≡ false
other_name one other h = step (is_eq (bytes_cmp other one)) refl
  where
    step : (b : Bool) → is_eq (bytes_cmp other one) ≡ b → is_eq (bytes_cmp other one) ≡ false
    step false e = e
    step true e =
        let is : other ≡ one = at_key other one e in
        absurd (false≢true (sym h ∙ (ap (λ (name : List ℕ). same name one) is ∙ (sym (at_is one one) ∙ at_itself one))))

-- a family that a test finds is what a look-up of its name finds
pub found_at_name : (test : List ℕ × FamilyView → Bool) (families : List (List ℕ × FamilyView)) (found : List ℕ × FamilyView) → NamesApart families → find test families ≡ Some found
    → value_at families found.0 ≡ Some found.1
found_at_name test [] found names e = absurd cc
found_at_name test (f ∷ fs) found names e = step (test f) e (found_at_name test fs found names.1)
  where
    step : (b : Bool) → cond b (Some f) (find test fs) ≡ Some found → (find test fs ≡ Some found → value_at fs found.0 ≡ Some found.1) → value_at (f ∷ fs) found.0 ≡ Some found.1
    step true is rest = let it : f ≡ found = cc in subst (λ (one : List ℕ × FamilyView). value_at (f ∷ fs) one.0 ≡ Some one.1) it (rw (at_itself f.0) refl)
    step false is rest = rw (other_name f.0 found.0 (each_found (λ named. same named.0 f.0 ≡ false) test fs found names.0 is)) (rest is)

-- ---- what is installed

module _ (old new : Core) (job : Job) (change : FamilyView → FamilyView) where
  -- the family is there
  pub installs_there : (named : List ℕ × FamilyView) → find (λ one. one.1.id == job.family) old.families ≡ Some named
      → new ≡ record old { families = changed_at old.families named.0 change; jobs = without_job job.number old.jobs } → Installs old job change Done new
  installs_there named found is = (
    sym (ap (λ (b : Bool). cond b Done FamilyGone) (any_found (λ (one : List ℕ × FamilyView). one.1.id == job.family) old.families ∙ ap is_some found)),
    is ∙ sym (ap (λ there. record old { families = changed_found there change old.families; jobs = without_job job.number old.jobs }) found),
  )

  -- the family is gone
  pub installs_gone : find (λ one. one.1.id == job.family) old.families ≡ None → new ≡ record old { jobs = without_job job.number old.jobs } → Installs old job change FamilyGone new
  installs_gone found is = (
    sym (ap (λ (b : Bool). cond b Done FamilyGone) (any_found (λ (one : List ℕ × FamilyView). one.1.id == job.family) old.families ∙ ap is_some found)),
    is ∙ sym (ap (λ there. record old { families = changed_found there change old.families; jobs = without_job job.number old.jobs }) found),
  )

pub flush_step : (old new : Core) (number : ℕ) (output : FileEntries) (job : Job) (answer : CoreReply) → noted_job old number ≡ Some job → is_flush job ≡ true → AreOutputs old job (output ∷ [])
    → Installs old job (with_flushed output) answer new → IsCoreStep old (FlushInstalled number output) answer new
flush_step old new number output job answer found flush outputs does = inl (
  subst (λ there. IsSomeAnd there (λ one. IsTrue (is_flush one) × AreOutputs old one (output ∷ []))) (sym found) (flush, outputs),
  subst (λ there. IsSomeAnd there (λ one. Installs old one (with_flushed output) answer new)) (sym found) does,
)

pub compact_step : (old new : Core) (number : ℕ) (outputs : List FileEntries) (job : Job) (answer : CoreReply) → noted_job old number ≡ Some job → is_flush job ≡ false → AreOutputs old job outputs
    → Installs old job (with_compacted job outputs) answer new → IsCoreStep old (CompactInstalled number outputs) answer new
compact_step old new number outputs job answer found flush are does = inl (
  subst (λ there. IsSomeAnd there (λ one. IsFalse (is_flush one) × AreOutputs old one outputs)) (sym found) (flush, are),
  subst (λ there. IsSomeAnd there (λ one. Installs old one (with_compacted one outputs) answer new)) (sym found) does,
)

-- a family that was found has a memtable within the last number
pub within_found : (found : Option (Bor (List ℕ) × Bor FamilyView)) (last : ℕ) (families : List (List ℕ × FamilyView)) → AreWithin last families
    → IfSome found (λ one. value_at families one.0.now ≡ Some one.1.now) → IfSome found (λ one. IsWithin last one.1.now.mem)
within_found None last families within value = tt
within_found (Some one) last families within value = found_each (λ family. IsWithin last family.mem) families one.0.now one.1.now within value

-- what two clauses say of an answer that is Ok
pub both_ok : {S E : Type 0} (result : Result S E) (P Q R : S → Type 0) → ((step : S) → P step → Q step → R step) → IfOk result P → IfOk result Q → IfOk result R
both_ok (Ok step) P Q R join p q = join step p q
both_ok (Err fault) P Q R join p q = tt

-- a level that isn't 0
pub level_above : (level : ℕ) → (level == 0) ≡ false → 1 ≤ level
level_above zero other = absurd (false≢true (sym other))
level_above (suc level) other = omega arith
