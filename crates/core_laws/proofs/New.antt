-- The new core stands for the new store.
use Rattle.std.proofs.Common.{◌≡◌, ℕ, Bool, true, false, cond, List, Some, None, refl, ap, subst, arith}
use Rattle.std.specs.Prelude.{unwrap_or}
use Rattle.st_base.specs.Map.{value_at}
use Rattle.std.specs.BTreeMap.{is_at}
use Rattle.st_base.specs.Bytes.{bytes_cmp, default_family}
use Rattle.st_model.specs.declared.state.ModelFamily.{ModelFamily}
use Rattle.st_model.specs.State.{new_store, new_family, family_of}
use Rattle.core_model.specs.Relation.{Represents}
use Rattle.core_model.specs.Picture.{FamilyView, new_view}
use Rattle.core_model.specs.Run.{new_core}
use Rattle.core_model.specs.RelationParts.{ForBoth, ReadsAs, HasModelMarks, HasRanges, HasKnownKeys, HasWritten}

-- a map of one pair has nothing else
some_same : {X : Type 0} (d : X) (b : Bool) (x y : X) → cond b (Some x) None ≡ Some y → x ≡ y
some_same d true x y e = ap (λ found. unwrap_or found d) e
some_same d false x y e = absurd cc

the_family : (behind : Bool) (capacity : ℕ) (name : List ℕ) (family : FamilyView) → value_at (new_core behind capacity).families name ≡ Some family → new_view 0 ≡ family
the_family behind capacity name family e = some_same (new_view 0) (is_at (bytes_cmp name) default_family) (new_view 0) family e

the_kept : (behind : Bool) (name : List ℕ) (kept : ModelFamily) → family_of (new_store behind) name ≡ Some kept → new_family 0 ≡ kept
the_kept behind name kept e = some_same (new_family 0) (is_at (bytes_cmp name) default_family) (new_family 0) kept e

both : (behind : Bool) (capacity : ℕ) (R : FamilyView → ModelFamily → Type 0) → R (new_view 0) (new_family 0) → ForBoth (new_core behind capacity) (new_store behind) R
both behind capacity R holds name family kept here there =
    subst (λ one. R one kept) (the_family behind capacity name family here) (subst (λ one. R (new_view 0) one) (the_kept behind name kept there) holds)

pub new_stands : (behind : Bool) (capacity : ℕ) → Represents (new_core behind capacity) (new_store behind)
new_stands behind capacity = record {
  same = record { place = refl; last = refl; charge = refl; behind = refl; families = refl; next_family = refl; live = refl };
  reads = both behind capacity (ReadsAs (new_store behind)) (λ number key there. refl);
  falls = ((λ key. record { above = tt; below = tt; across = tt }), tt);
  within = ((tt, tt), tt);
  apart = ((tt, (tt, (tt, (tt, (tt, (tt, tt)))))), tt);
  ranges = λ flag. both behind capacity HasRanges refl;
  marks = λ flag. both behind capacity (HasModelMarks (new_store behind)) (λ number key there. refl);
  known = both behind capacity HasKnownKeys (tt, tt);
  written = both behind capacity HasWritten (tt, tt);
  jobs = (record { each = tt; ranges = tt; apart = tt }, tt);
  kept = (tt, tt);
  turn = tt;
  views = (record { levels = refl; rows = (record { ordered = refl; within = tt }, tt); filled = tt; sealed = tt; order = (tt, tt) }, tt);
  files = tt;
  noted = record { numbers = tt; made = λ more. tt; families = tt; outputs = tt; live = tt };
  sound = record {
    names = λ i j d lt in'. absurd (omega arith);
    bases = ((λ i j d lt in'. absurd (omega arith)), tt);
    writes = (tt, tt);
    live = tt;
    snapshots = λ i j d lt in'. absurd (omega arith);
    taken = tt;
    above = tt;
    ids = λ i j d lt in'. absurd (omega arith);
    next = (omega arith, tt);
    unranged = λ flag. (refl, tt);
  };
}
