-- The steps of the rule of what viewers take.
use Rattle.std.proofs.Common.{◌≡◌, ℕ, ◌≢◌, List, [], ◌∷◌, set, refl, sym, ◌∙◌, subst, ⊎_elim, arith}
use mathlib.Core.Option.{some}
use mathlib.Core.List.{IsPrefix}
use lib.ListN.{get_elem?}
use Rattle.left_right.specs.Register.{Admits, TurnsAt, Forks, Merges}
use Rattle.atomic_table.proofs.Lists.{at_set, at_snoc}
use Rattle.st_publish.specs.declared.published.Published.{Published}
use Rattle.st_publish.specs.Prefix.{PrefixView, unseen, GoesOn, AllBelow}
use Rattle.st_publish.proofs.Prefixes.{prefix_self, prefix_trans}

abbrev pub Held : Published → List PrefixView → Type 0
Held s = AllBelow s.1

unseen_first : (x : PrefixView) → GoesOn unseen x
unseen_first x more = absurd (omega (arith, more))

pub begins : (s : Published) → Held s (unseen ∷ [])
begins s seat v at = ⊎_elim (λ (e : get_elem? {A = PrefixView} [] seat ≡ some v). absurd cc) (λ (e : unseen ≡ v). subst (λ z. GoesOn z s.1) e (unseen_first s.1)) (at_snoc [] unseen v seat at)

pub admits : Admits Held unseen
admits s views h seat v at = ⊎_elim (h seat v) (λ (e : unseen ≡ v). subst (λ z. GoesOn z s.1) e (unseen_first s.1)) (at_snoc views unseen v seat at)

pub goes_on_self : (x : PrefixView) → GoesOn x x
goes_on_self x more = (refl, prefix_self x.list)

goes_on_trans : (x y z : PrefixView) → GoesOn x y → (y.book ≡ z.book) → IsPrefix y.list z.list → GoesOn x z
goes_on_trans x y z h b p more = let k = h more in (sym b ∙ k.0, prefix_trans x.list y.list z.list k.1 p)

-- the value goes on, and this view becomes the value's
pub rises : (seat : ℕ) (v : PrefixView) (x y : Published) → x.1.book ≡ y.1.book → IsPrefix x.1.list y.1.list → TurnsAt Held seat v x y (λ v x y w. GoesOn v x.1 × (w ≡ y.1))
rises seat v x y b p views h at = (
  y.1,
  (λ j u e. ⊎_elim (λ (t : (j ≡ seat) × (y.1 ≡ u)). subst (λ z. GoesOn z y.1) t.1 (goes_on_self y.1)) (λ (t : (j ≢ seat) × (get_elem? views j ≡ some u)). goes_on_trans u x.1 y.1 (h j u t.1) b p)
      (at_set views seat j y.1 u e)),
  (h seat v at, refl),
)

set_below : (x : PrefixView) (views : List PrefixView) (seat : ℕ) (v : PrefixView) → AllBelow x views → GoesOn v x → AllBelow x (set views seat v)
set_below x views seat v h low j u e = ⊎_elim (λ (t : (j ≡ seat) × (v ≡ u)). subst (λ z. GoesOn z x) t.1 low) (λ (t : (j ≢ seat) × (get_elem? views j ≡ some u)). h j u t.1) (at_set views seat j v u e)

pub forks : (seat : ℕ) (v : PrefixView) → Forks Held seat v v v
forks seat v x views h at j u e = ⊎_elim (set_below x.1 views seat v h (h seat v at) j u) (λ (same : v ≡ u). subst (λ z. GoesOn z x.1) same (h seat v at)) (at_snoc (set views seat v) v u j e)

pub merges : (seat : ℕ) (v : PrefixView) (other : ℕ) (w : PrefixView) → Merges Held seat v other w w unseen
merges seat v other w x views h at apart there =
    let b : GoesOn w x.1 = ⊎_elim (λ (t : (other ≡ seat) × (w ≡ w)). absurd (apart t.0)) (λ (t : (other ≢ seat) × (get_elem? views other ≡ some w)). h other w t.1) (at_set views seat other w w there) in
    set_below x.1 (set views seat w) other unseen (set_below x.1 views seat w h b) (unseen_first x.1)
