-- The exchange that adds an entry keeps the rule.
use Rattle.std.proofs.Common.{◌≡◌, ℕ, ◌+◌, ◌<◌, ◌≤◌, ◌==◌, Bool, true, false, ◌&&◌, List, [], ◌∷◌, ◌++◌, length, refl, ap, sym, subst, arith, inl, length-append, None}
use Rattle.std.proofs.lemmas.List.{append-nil}
use Rattle.std.proofs.lemmas.Bool.Decides.{nat_tests}
use mathlib.Core.List.{IsPrefix}
use prog.Atomic.{either}
use Rattle.logbook.specs.Pages.{Cell, cell, keeps, no_nib, step, Moves, Goes}
use Rattle.st_publish.specs.declared.entry.HistoryEntry.{HistoryEntry}
use Rattle.st_publish.specs.declared.entry.HistoryEntry.TheVariants.{Opened, Made, Stopped}
use Rattle.st_publish.specs.History.{changes_of, has_stop, may_rest, all_rest, is_calm}
use Rattle.st_publish.specs.Rule.{IsCounted, AddsOne}
use Rattle.st_publish.proofs.Prefixes.{prefix_whole}

and_more : (a b c : Bool) → (a && b) ≡ true → (b ≡ true → c ≡ true) → (a && c) ≡ true
and_more true b c h f = f h
and_more false b c h f = absurd cc

pub changes_of-append : (es fs : List HistoryEntry) → changes_of (es ++ fs) ≡ changes_of es ++ changes_of fs
changes_of-append [] fs = refl
changes_of-append (Opened s ∷ es) fs = changes_of-append es fs
changes_of-append (Made one ∷ es) fs = ap (λ r. one ∷ r) (changes_of-append es fs)
changes_of-append (Stopped ∷ es) fs = changes_of-append es fs

pub changes_fewer : (es : List HistoryEntry) → length (changes_of es) ≤ length es
changes_fewer [] = omega arith
changes_fewer (Opened s ∷ es) = omega (arith, changes_fewer es)
changes_fewer (Made one ∷ es) = omega (arith, changes_fewer es)
changes_fewer (Stopped ∷ es) = omega (arith, changes_fewer es)

pub all_rest_more : (es : List HistoryEntry) (e : HistoryEntry) → all_rest es ≡ true → may_rest e ≡ true → all_rest (es ++ e ∷ []) ≡ true
all_rest_more [] e h m = rw m refl
all_rest_more (x ∷ es) e h m = and_more (may_rest x) (all_rest es) (all_rest (es ++ e ∷ [])) h (λ r. all_rest_more es e r m)

-- a history with one more entry, which is quiet where a stop was noted, is calm
pub calm_more : (es : List HistoryEntry) (e : HistoryEntry) → is_calm es ≡ true → (has_stop es ≡ true → may_rest e ≡ true) → is_calm (es ++ e ∷ []) ≡ true
calm_more [] (Opened s) h m = refl
calm_more [] (Made one) h m = refl
calm_more [] Stopped h m = refl
calm_more (Opened s ∷ es) e h m = calm_more es e h m
calm_more (Made one ∷ es) e h m = calm_more es e h m
calm_more (Stopped ∷ es) e h m = all_rest_more es e h (m refl)

-- what a prefix with one more entry has
pub prefix_more : (log new : List HistoryEntry) (e : HistoryEntry) (entries place places : ℕ) → new ≡ log ++ e ∷ [] → entries ≡ length log → place ≡ length (changes_of log) → places ≡ length (changes_of (e ∷ []))
    → is_calm log ≡ true → (has_stop log ≡ true → may_rest e ≡ true)
    → (entries + 1 ≡ length new) × (place + places ≡ length (changes_of new)) × (is_calm new ≡ true)
prefix_more log new e entries place places is n p q calm may =
    rw is (omega (arith, length-append log (e ∷ [])), rw (changes_of-append log (e ∷ [])) (omega (arith, length-append (changes_of log) (changes_of (e ∷ [])))), calm_more log e calm may)

abbrev pub shown : List HistoryEntry → List HistoryEntry
shown log = []

abbrev pub moved : List HistoryEntry → List HistoryEntry → ℕ → Type 0
moved xs ys n = Unit {0}

pub adds_goes : (log v : List HistoryEntry) (e : HistoryEntry) (old : ℕ) → length v ≡ old → (has_stop v ≡ true → may_rest e ≡ true) → is_calm log ≡ true → IsPrefix v log
    → (b : Bool) → (length log == old) ≡ b
    → Goes IsCounted shown moved 0 (v, (no_nib, None)) (λ n. either (n == old) (old + 1) n) (AddsOne (step 0 old (old + 1) e) (v, (no_nib, None))) ((length log, true) ∷ (0, true) ∷ []) log
adds_goes log v e old len may calm pre true is =
    let here : length log ≡ old = grind (arith, nat_tests) in
    let same : v ≡ log = prefix_whole v log pre (omega arith) in
    let calm' : is_calm (log ++ e ∷ []) ≡ true = calm_more log e calm (subst (λ (l : List HistoryEntry). has_stop l ≡ true → may_rest e ≡ true) same may) in
    let n : either (length log == old) (old + 1) (length log) ≡ length (log ++ e ∷ []) = rw is (omega (arith, length-append log (e ∷ []))) in (
      keeps,
      e ∷ [],
      None,
      tt,
      record { words = ap (λ (k : ℕ). (k, true) ∷ (0, true) ∷ []) n; calm = calm' },
      inl (refl, refl),
      rw is (ap (λ w. w ++ e ∷ []) (sym same)),
    )
adds_goes log v e old len may calm pre false is =
    let all : log ++ [] ≡ log = append-nil log in
    let calm' : is_calm (log ++ []) ≡ true = rw all calm in
    let n : either (length log == old) (old + 1) (length log) ≡ length (log ++ []) = rw is (ap length (sym all)) in (
      keeps,
      [],
      None,
      tt,
      record { words = ap (λ (k : ℕ). (k, true) ∷ (0, true) ∷ []) n; calm = calm' },
      inl (refl, refl),
      rw is tt,
    )

-- whatever the book is, the exchange adds the entry to all that was seen, or says nothing
pub adds_moves : (v : List HistoryEntry) (e : HistoryEntry) (old : ℕ) → length v ≡ old → (has_stop v ≡ true → may_rest e ≡ true)
    → Moves IsCounted shown moved 0 (v, (no_nib, None)) (λ n. either (n == old) (old + 1) n) (AddsOne (step 0 old (old + 1) e) (v, (no_nib, None)))
adds_moves v e old len may cs log kept pre away =
    let P : List Cell → Type 0 = λ c. (0 < length c) × ((cell c 0).1 ≡ true) × Goes IsCounted shown moved 0 (v, (no_nib, None)) (λ n. either (n == old) (old + 1) n) (AddsOne (step 0 old (old + 1) e) (v, (no_nib, None))) c log in
    subst P (sym kept.words) (omega arith, refl, adds_goes log v e old len may kept.calm pre (length log == old) refl)
