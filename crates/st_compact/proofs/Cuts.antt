-- Tables that grow.
use Rattle.std.proofs.Common.{◌≡◌, ℕ, ◌+◌, ◌-◌, ◌^◌, ◌≤◌, min, Bool, true, false, cond, ◌&&◌, not, List, [], ◌∷◌, ◌++◌, length, Some, refl, sym, ap, ap₂, subst, ◌∙◌, arith, append_assoc, append-nil}
use Rattle.std.specs.Prelude.{slice_get, nat_le}
use Rattle.std.proofs.lemmas.Bool.{le-leb, lt-leb, leb-true, leb-false}
use Rattle.std.proofs.lemmas.List.Sums.{sum_by_push}
use Rattle.st_base.specs.Bytes.{same}
use Rattle.st_base.specs.Entries.{entry_charge}
use Rattle.st_base.specs.declared.entry.Entry.{Entry}
use Rattle.job_model.specs.Compaction.{cut_behind, cut_tables}
use Rattle.st_base.specs.Range.{key_at_end}
use Rattle.st_order.proofs.Ends.{end_there}
use Rattle.st_compact.specs.Cut.{IsCutSoFar, charges_of, cut_from, is_closed_before, rows_of}
use Rattle.st_order.specs.Sorted.{joined}
use Rattle.st_compact.specs.declared.cut_tables.CutTables.{CutTables}

pub full_is : (target charge : ℕ) (table : List Entry) (entry last : Entry) → target ≤ charge → Some last ≡ slice_get table (length table - 1) → not (same last.key entry.key) ≡ is_closed_before target charge table entry
full_is target charge [] entry last le e = absurd cc
full_is target charge (first ∷ others) entry last le e =
    ap (λ key. not (same key entry.key)) (sym (end_there (first ∷ others) last e))
    ∙ ap (λ b. b && not (same (key_at_end (first ∷ others)) entry.key)) (sym (le-leb target charge le))

abbrev count : Entry → ℕ
count entry = entry_charge entry.key entry.mark

charge_more : (table : List Entry) (entry : Entry) → charges_of (table ++ entry ∷ []) ≡ charges_of table + count entry
charge_more table entry = sum_by_push (λ (one : Entry). entry_charge one.key one.mark) table entry

end_more : (table : List Entry) (entry : Entry) → key_at_end (table ++ entry ∷ []) ≡ entry.key
end_more [] entry = refl
end_more (x ∷ []) entry = refl
end_more (x ∷ y ∷ ys) entry = end_more (y ∷ ys) entry

joined_more : (done : List (List Entry)) (table : List Entry) → joined (done ++ table ∷ []) ≡ joined done ++ table
joined_more [] table = append-nil table
joined_more (one ∷ done) table = ap (λ rest. one ++ rest) (joined_more done table) ∙ sym (append_assoc one (joined done) table)

-- a sum that stands still passes the target where the whole sum does
at_end : (target sum : ℕ) → target ≤ 2 ^ 64 - 1 → nat_le target (min sum (2 ^ 64 - 1)) ≡ nat_le target sum
at_end target sum fits = step (nat_le target sum) refl
  where
    step : (b : Bool) → nat_le target sum ≡ b → nat_le target (min sum (2 ^ 64 - 1)) ≡ b
    step true e = le-leb target (min sum (2 ^ 64 - 1)) (let le : target ≤ sum = leb-true target sum e in omega arith)
    step false e = lt-leb target (min sum (2 ^ 64 - 1)) (let lt = leb-false target sum e in omega arith)

-- what a table that isn't closed, or is, does before an entry
cut_on : (target charge : ℕ) (table : List Entry) (entry : Entry) (rest : List Entry) → target ≤ 2 ^ 64 - 1 → charge ≡ min (charges_of table) (2 ^ 64 - 1) → is_closed_before target charge table entry ≡ false
    → cut_from target table (entry ∷ rest) ≡ cut_from target (table ++ entry ∷ []) rest
cut_on target charge [] entry rest fits sum is_open = ap (λ n. cut_behind target n entry.key (entry ∷ []) rest) (let e : count entry ≡ 0 + count entry = omega arith in e)
cut_on target charge (first ∷ others) entry rest fits sum is_open =
    step (nat_le target (charges_of (first ∷ others))) (same (key_at_end (first ∷ others)) entry.key)
    (subst (λ b. (b && not (same (key_at_end (first ∷ others)) entry.key)) ≡ false) (ap (nat_le target) sum ∙ at_end target (charges_of (first ∷ others)) fits) is_open)
  where
    grown : List (List Entry)
    grown = cut_behind target (charges_of (first ∷ others) + count entry) entry.key ((first ∷ others) ++ entry ∷ []) rest

    same_grown : grown ≡ cut_from target ((first ∷ others) ++ entry ∷ []) rest
    same_grown = ap₂ (λ n key. cut_behind target n key ((first ∷ others) ++ entry ∷ []) rest) (sym (charge_more (first ∷ others) entry)) (sym (end_more (first ∷ others) entry))

    step : (b c : Bool) → (b && not c) ≡ false → cond b (cond c grown ((first ∷ others) ∷ cut_behind target (count entry) entry.key (entry ∷ []) rest)) grown ≡ cut_from target ((first ∷ others) ++ entry ∷ []) rest
    step true true e = same_grown
    step true false e = absurd cc
    step false c e = same_grown

cut_closed : (target charge : ℕ) (table : List Entry) (entry : Entry) (rest : List Entry) → target ≤ 2 ^ 64 - 1 → charge ≡ min (charges_of table) (2 ^ 64 - 1) → is_closed_before target charge table entry ≡ true
    → cut_from target table (entry ∷ rest) ≡ table ∷ cut_from target (entry ∷ []) rest
cut_closed target charge [] entry rest fits sum full = absurd cc
cut_closed target charge (first ∷ others) entry rest fits sum full =
    step (nat_le target (charges_of (first ∷ others))) (same (key_at_end (first ∷ others)) entry.key)
    (subst (λ b. (b && not (same (key_at_end (first ∷ others)) entry.key)) ≡ true) (ap (nat_le target) sum ∙ at_end target (charges_of (first ∷ others)) fits) full)
    ∙ ap (λ n. (first ∷ others) ∷ cut_behind target n entry.key (entry ∷ []) rest) (let e : count entry ≡ 0 + count entry = omega arith in e)
  where
    grown : List (List Entry)
    grown = cut_behind target (charges_of (first ∷ others) + count entry) entry.key ((first ∷ others) ++ entry ∷ []) rest

    closed : List (List Entry)
    closed = (first ∷ others) ∷ cut_behind target (count entry) entry.key (entry ∷ []) rest

    step : (b c : Bool) → (b && not c) ≡ true → cond b (cond c grown closed) grown ≡ closed
    step true true e = absurd cc
    step true false e = refl
    step false c e = absurd cc

-- ---- an entry more

module _ (old new : CutTables) (entry : Entry) (cut : IsCutSoFar old) (target : new.target ≡ old.target) where
  pub open_entries : new.done.items ≡ old.done.items → new.table ≡ old.table ++ entry ∷ [] → rows_of new ≡ rows_of old ++ entry ∷ []
  open_entries done table = ap₂ (λ a b. joined a ++ b) done table ∙ sym (append_assoc (joined old.done.items) old.table (entry ∷ []))

  pub open_cut : is_closed_before old.target old.charge old.table entry ≡ false → new.done.items ≡ old.done.items → new.table ≡ old.table ++ entry ∷ [] → new.charge ≡ min (old.charge + count entry) (2 ^ 64 - 1) → IsCutSoFar new
  open_cut is_open done table charge = record {
    fits = subst (λ n. n ≤ 18446744073709551615) (sym target) cut.fits;
    sum = charge ∙ ap (λ n. min (n + count entry) (2 ^ 64 - 1)) cut.sum ∙ (let e : min (min (charges_of old.table) (2 ^ 64 - 1) + count entry) (2 ^ 64 - 1) ≡ min (charges_of old.table + count entry) (2 ^ 64 - 1) = omega arith in e)
        ∙ ap (λ n. min n (2 ^ 64 - 1)) (sym (charge_more old.table entry)) ∙ ap (λ found. min (charges_of found) (2 ^ 64 - 1)) (sym table);
    cut = λ rest.
        ap₂ (λ t found. cut_tables t (found ++ rest)) target (open_entries done table)
        ∙ ap (cut_tables old.target) (append_assoc (rows_of old) (entry ∷ []) rest)
        ∙ cut.cut (entry ∷ rest)
        ∙ ap (λ more. old.done.items ++ more) (cut_on old.target old.charge old.table entry rest cut.fits cut.sum is_open)
        ∙ ap₂ (λ d found. d ++ cut_from old.target found rest) (sym done) (sym table)
        ∙ ap (λ t. new.done.items ++ cut_from t new.table rest) (sym target);
  }

  pub closed_entries : new.done.items ≡ old.done.items ++ old.table ∷ [] → new.table ≡ [] ++ entry ∷ [] → rows_of new ≡ rows_of old ++ entry ∷ []
  closed_entries done table = ap₂ (λ a b. joined a ++ b) done table ∙ ap (λ front. front ++ entry ∷ []) (joined_more old.done.items old.table)

  pub closed_cut : is_closed_before old.target old.charge old.table entry ≡ true → new.done.items ≡ old.done.items ++ old.table ∷ [] → new.table ≡ [] ++ entry ∷ [] → new.charge ≡ min (0 + count entry) (2 ^ 64 - 1) → IsCutSoFar new
  closed_cut full done table charge = record {
    fits = subst (λ n. n ≤ 18446744073709551615) (sym target) cut.fits;
    sum = charge ∙ ap (λ found. min (charges_of found) (2 ^ 64 - 1)) (sym table);
    cut = λ rest.
        ap₂ (λ t found. cut_tables t (found ++ rest)) target (closed_entries done table)
        ∙ ap (cut_tables old.target) (append_assoc (rows_of old) (entry ∷ []) rest)
        ∙ cut.cut (entry ∷ rest)
        ∙ ap (λ more. old.done.items ++ more) (cut_closed old.target old.charge old.table entry rest cut.fits cut.sum full)
        ∙ sym (append_assoc old.done.items (old.table ∷ []) (cut_from old.target (entry ∷ []) rest))
        ∙ ap₂ (λ d found. d ++ cut_from old.target found rest) (sym done) (sym table)
        ∙ ap (λ t. new.done.items ++ cut_from t new.table rest) (sym target);
  }

-- ---- the end

pub ended : (tables : CutTables) → IsCutSoFar tables → cut_tables tables.target (rows_of tables) ≡ tables.done.items ++ cut_from tables.target tables.table []
ended tables cut = ap (cut_tables tables.target) (sym (append-nil (rows_of tables))) ∙ cut.cut []

pub ended_none : (tables : CutTables) → IsCutSoFar tables → tables.table ≡ [] → (tables.done.items ≡ cut_tables tables.target (rows_of tables)) × (joined tables.done.items ≡ rows_of tables)
ended_none tables cut none = (
  sym (ended tables cut ∙ ap (λ found. tables.done.items ++ cut_from tables.target found []) none ∙ append-nil tables.done.items),
  sym (ap (λ found. joined tables.done.items ++ found) none ∙ append-nil (joined tables.done.items)),
)

pub ended_some : (tables : CutTables) (done : List (List Entry)) → IsCutSoFar tables → (tables.table ≡ [] → ⊥) → done ≡ tables.done.items ++ tables.table ∷ [] → (done ≡ cut_tables tables.target (rows_of tables)) × (joined done ≡ rows_of tables)
ended_some tables done cut some e = (
  e ∙ ap (λ more. tables.done.items ++ more) (sym (last tables.table some)) ∙ sym (ended tables cut),
  ap joined e ∙ joined_more tables.done.items tables.table,
)
  where
    last : (table : List Entry) → (table ≡ [] → ⊥) → cut_from tables.target table [] ≡ table ∷ []
    last [] some = absurd (some refl)
    last (x ∷ xs) some = refl
