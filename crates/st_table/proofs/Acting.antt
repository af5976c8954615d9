-- Entries that act under the number of their table.
use Rattle.std.proofs.Common.{◌≡◌, ◌⊎◌, ℕ, ◌+◌, ◌^◌, ◌<◌, Bool, true, false, cond, eqb, List, [], ◌∷◌, refl, sym, ap, subst, ◌∙◌, inl, inr, arith}
use Rattle.std.specs.Prelude.{sum_by}
use Rattle.std.proofs.lemmas.Bool.{cases_Bool, eq-eqb, false≢true, ne_eqb}
use Rattle.std.proofs.lemmas.List.Sums.{sum_by-cons}
use Rattle.st_base.proofs.Numbered.{rows_under}
use Rattle.st_base.specs.Entries.{add_charge, entry_charge}
use Rattle.st_base.specs.Range.{entries_charge, keys_rise, under_number, with_number}
use Rattle.st_base.specs.Rows.{AreRows}
use Rattle.st_base.specs.declared.entry.Entry.{Entry}
use Rattle.st_table.specs.Table.{act_under, acting}

-- a number of 0 changes nothing, another is put into the entry
act_own : (number : ℕ) (e : Entry) → eqb number 0 ≡ true → act_under number e ≡ e
act_own number e t = ap (λ (b : Bool). cond b e (with_number number e)) t

act_other : (number : ℕ) (e : Entry) → eqb number 0 ≡ false → act_under number e ≡ with_number number e
act_other number e t = ap (λ (b : Bool). cond b e (with_number number e)) t

pub acting_own : (number : ℕ) (entries : List Entry) → eqb number 0 ≡ true → entries ≡ acting number entries
acting_own number [] t = refl
acting_own number (e ∷ es) t = ap (λ (h : Entry). h ∷ es) (sym (act_own number e t)) ∙ ap (λ (l : List Entry). act_under number e ∷ l) (acting_own number es t)

acting_other : (number : ℕ) (entries : List Entry) → eqb number 0 ≡ false → under_number number entries ≡ acting number entries
acting_other number [] f = refl
acting_other number (e ∷ es) f = ap (λ (h : Entry). h ∷ under_number number es) (sym (act_other number e f)) ∙ ap (λ (l : List Entry). act_under number e ∷ l) (acting_other number es f)

-- rows act under their own numbers, or where no key stands twice under one
pub acting_rows : (number : ℕ) (entries : List Entry) → number < 2 ^ 64 → (number ≡ 0) ⊎ (keys_rise entries ≡ true) → AreRows entries → AreRows (acting number entries)
acting_rows number entries small h rows =
    elim (cases_Bool (eqb number 0)) [
      | inl t ↦ subst (λ (l : List Entry). AreRows l) (acting_own number entries t) rows
      | inr f ↦ subst (λ (l : List Entry). AreRows l) (acting_other number entries f) (rows_under number entries small rows (rise h f))
    ]
  where
    rise : (number ≡ 0) ⊎ (keys_rise entries ≡ true) → eqb number 0 ≡ false → keys_rise entries ≡ true
    rise (inl e) f = absurd (false≢true (sym f ∙ eq-eqb number 0 e))
    rise (inr k) f = k

-- ---- another number

with_other : (number old : ℕ) (e : Entry) → with_number number e ≡ with_number number (act_under old e)
with_other number old e = by (eqb old 0)
  where
    by : (t : Bool) → with_number number e ≡ with_number number (cond t e (with_number old e))
    by true = refl
    by false = refl

under_other : (number old : ℕ) (entries : List Entry) → under_number number entries ≡ under_number number (acting old entries)
under_other number old [] = refl
under_other number old (e ∷ es) = ap (λ (h : Entry). h ∷ under_number number es) (with_other number old e) ∙ ap (λ (l : List Entry). with_number number (act_under old e) ∷ l) (under_other number old es)

-- entries that act under a number, put under another
pub acting_again : (number old : ℕ) (entries : List Entry) → 0 < number → acting number entries ≡ under_number number (acting old entries)
acting_again number old entries some = sym (acting_other number entries (ne_eqb number 0 (λ z. omega arith))) ∙ under_other number old entries

-- ---- charges

charge_same : (number : ℕ) (e : Entry) → entry_charge e.key e.mark ≡ entry_charge (act_under number e).key (act_under number e).mark
charge_same number e = by (eqb number 0)
  where
    by : (t : Bool) → entry_charge e.key e.mark ≡ entry_charge (cond t e (with_number number e)).key (cond t e (with_number number e)).mark
    by true = refl
    by false = refl

sum_same : (number : ℕ) (entries : List Entry) → sum_by (λ (e : Entry). entry_charge e.key e.mark) entries ≡ sum_by (λ (e : Entry). entry_charge e.key e.mark) (acting number entries)
sum_same number [] = refl
sum_same number (e ∷ es) =
    let f : Entry → ℕ = λ x. entry_charge x.key x.mark in
    sum_by-cons f e es ∙ ap (λ (n : ℕ). n + sum_by f es) (charge_same number e) ∙ ap (λ (n : ℕ). f (act_under number e) + n) (sum_same number es) ∙ sym (sum_by-cons f (act_under number e) (acting number es))

pub charge_acting : (number : ℕ) (entries : List Entry) → entries_charge entries ≡ entries_charge (acting number entries)
charge_acting number entries = ap (add_charge 0) (sum_same number entries)
