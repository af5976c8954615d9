-- A state stands for a longer beginning too, if that has no more changes.
use Rattle.std.proofs.Common.{◌≡◌, ℕ, ◌<◌, ◌≤◌, List, [], ◌∷◌, ◌++◌, length, length-append, refl, ap, sym, ◌∙◌, subst, arith, ⊎_elim, ◌⊎◌}
use mathlib.Core.List.{IsPrefix}
use Rattle.core_model.specs.StatePicture.{StatePicture}
use Rattle.st_publish.specs.declared.entry.Accepted.{Accepted}
use Rattle.st_publish.specs.declared.entry.HistoryEntry.{HistoryEntry}
use Rattle.st_publish.specs.declared.entry.HistoryEntry.TheVariants.{Opened, Made, Stopped}
use Rattle.st_publish.specs.Standing.{StandsFor}
use Rattle.st_publish.specs.History.{changes_of, begun_with, StandsIn}
use Rattle.st_publish.proofs.Adding.{changes_of-append}
use Rattle.st_publish.proofs.Meaning.{place_counts}
use Rattle.st_publish.proofs.Prefixes.{prefix_whole, prefix_trans}

pub prefix_opening : (xs ys : List HistoryEntry) → 0 < length xs → IsPrefix xs ys → begun_with xs ≡ begun_with ys
prefix_opening [] ys some p = absurd (omega arith)
prefix_opening (Opened s ∷ xs) ys some p = ap begun_with p.1
prefix_opening (Made one ∷ xs) ys some p = ap begun_with p.1
prefix_opening (Stopped ∷ xs) ys some p = ap begun_with p.1

pub prefix_changes : (xs ys : List HistoryEntry) → IsPrefix xs ys → IsPrefix (changes_of xs) (changes_of ys)
prefix_changes xs ys p = (changes_of p.0, sym (changes_of-append xs p.0) ∙ ap changes_of p.1)

pub same_changes : (xs ys : List HistoryEntry) → IsPrefix xs ys → length (changes_of ys) ≤ length (changes_of xs) → changes_of xs ≡ changes_of ys
same_changes xs ys p le = prefix_whole (changes_of xs) (changes_of ys) (prefix_changes xs ys p) le

pub stands_on : (xs ys : List HistoryEntry) (state : StatePicture × ℕ) → 0 < length xs → IsPrefix xs ys → changes_of xs ≡ changes_of ys → StandsIn xs state → StandsIn ys state
stands_on xs ys state some p e h = subst (λ (f : StatePicture). StandsFor f (changes_of ys) state) (prefix_opening xs ys some p) (subst (λ (cs : List Accepted). StandsFor (begun_with xs) cs state) e h)

-- what a viewer has after it took a state that is no older than what it knew
pub taken : (mine found both : List HistoryEntry) (state : StatePicture × ℕ) (count : ℕ) → 0 < length found
    → StandsIn found state → count ≡ length (changes_of found) → length (changes_of mine) ≤ count
    → (both ≡ mine) ⊎ (both ≡ found) → IsPrefix found both → StandsIn both state × (state.1 ≡ length (changes_of both))
taken mine found both state count some h at le one p =
    let few : length (changes_of both) ≤ length (changes_of found) = ⊎_elim
    (λ (e : both ≡ mine). let k = ap (λ l. length (changes_of l)) e in omega arith)
    (λ (e : both ≡ found). let k = ap (λ l. length (changes_of l)) e in omega arith) one in
    let there : StandsIn both state = stands_on found both state some p (same_changes found both p few) h in
    (there, place_counts both state there)

pub prefix_snoc : (ws xs ys : List HistoryEntry) (e : HistoryEntry) → IsPrefix ws xs → ys ≡ xs ++ e ∷ [] → IsPrefix ws ys
prefix_snoc ws xs ys e p is = rw is (prefix_trans ws xs (xs ++ e ∷ []) p (e ∷ [], refl))

-- a stop changes nothing of what the history stands for
pub stopped_on : (xs ys : List HistoryEntry) (state : StatePicture × ℕ) → 0 < length xs → ys ≡ xs ++ Stopped ∷ [] → StandsIn xs state → StandsIn ys state
stopped_on xs ys state some is h =
    let p : IsPrefix xs ys = (Stopped ∷ [], sym is) in
    let few : length (changes_of ys) ≤ length (changes_of xs) = rw (is, changes_of-append xs (Stopped ∷ [])) (omega (arith, length-append (changes_of xs) [])) in
    stands_on xs ys state some p (same_changes xs ys p few) h
