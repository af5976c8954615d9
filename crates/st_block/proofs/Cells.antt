-- Reading one entry.
use Rattle.std.proofs.Common.{◌≡◌, ℕ, ◌+◌, ◌≤◌, Bool, true, cond, leb, ◌&&◌, List, length, Option, Some, None, sym, ap, ◌∙◌}
use Rattle.std.specs.Prelude.{option_and_then}
use Rattle.std.proofs.lemmas.Bool.{and_parts, leb-true}
use Rattle.st_block.specs.Block.{Head, head_at, fits, laid, cell_at}

pub fitting_is : (area before : List ℕ) (at : ℕ) (head : Head) → Some head ≡ head_at area at → fits area before head ≡ true → cell_at area before at ≡ Some (laid area before at head)
unfolding cell_at
fitting_is area before at head e f =
    ap (λ (o : Option Head). option_and_then (λ (h : Head). cond (fits area before h) (Some (laid area before at h)) None) o) (sym e)
    ∙ ap (λ (t : Bool). cond t (Some (laid area before at head)) None) f

-- what a head that fits keeps to
pub fits_parts : (area before : List ℕ) (head : Head) → fits area before head ≡ true → (head.shared ≤ length before) × (head.shared + head.unshared ≤ 65543) × (head.behind + head.unshared + head.value ≤ length area)
fits_parts area before head f =
    let a = and_parts (leb head.shared (length before)) (leb (head.shared + head.unshared) 65543 && leb (head.behind + head.unshared + head.value) (length area)) f in
    let b = and_parts (leb (head.shared + head.unshared) 65543) (leb (head.behind + head.unshared + head.value) (length area)) a.1 in
    (leb-true _ _ a.0, leb-true _ _ b.0, leb-true _ _ b.1)
