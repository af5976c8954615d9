-- Entries with one more behind them are rows again.
use Rattle.std.proofs.Common.{◌≡◌, ℕ, suc, ◌-◌, ◌^◌, ◌<◌, ◌≤◌, Bool, true, false, cond, ltb, eqb, List, [], ◌∷◌, ◌++◌, length, Option, Some, None, refl, sym, ap, ◌∙◌, arith}
use Rattle.std.specs.Prelude.{not, slice_get}
use Rattle.std.specs.List.{AllByRecursion}
use Rattle.std.proofs.lemmas.Bool.{and_parts, and_from, ltb-false}
use Rattle.std.proofs.lemmas.List.{length-take}
use Rattle.st_base.specs.Order.{comes_before, in_order, rises_behind}
use Rattle.st_base.specs.Rows.{AreRows, Fits, FitsMark}
use Rattle.st_base.specs.declared.entry.Entry.{Entry}
use Rattle.st_base.specs.declared.entry.Mark.TheVariants.{Put, Gone}
use Rattle.st_base.specs.declared.faults.TableFault.{TableFault}
use Rattle.st_block.specs.InternalKey.{entry_under, is_kind, kind_of, mark_under, number_of, user_key}
use Rattle.st_table.specs.Entries.{entry_fault, is_behind, last_entry, may_have}
use Rattle.st_table.specs.declared.kind.TableKind.{TableKind}

-- ---- order

pub last_more : (x y : Entry) (ys : List Entry) → last_entry (x ∷ y ∷ ys) ≡ last_entry (y ∷ ys)
last_more x y ys = ap (λ (k : ℕ). slice_get (x ∷ y ∷ ys) k) (let k : length (x ∷ y ∷ ys) - 1 ≡ suc (length (y ∷ ys) - 1) = omega arith in k)

behind_more : (x : Entry) (xs : List Entry) (e : Entry) → rises_behind comes_before x xs ≡ true → is_behind (last_entry (x ∷ xs)) e.key e.number ≡ true → rises_behind comes_before x (xs ++ e ∷ []) ≡ true
behind_more x [] e h b = and_from (comes_before x e) true b refl
behind_more x (y ∷ ys) e h b =
    let p = and_parts (comes_before x y) (rises_behind comes_before y ys) h in
    and_from (comes_before x y) (rises_behind comes_before y (ys ++ e ∷ [])) p.0 (behind_more y ys e p.1 (sym (ap (λ (o : Option Entry). is_behind o e.key e.number) (last_more x y ys)) ∙ b))

pub order_more : (front : List Entry) (e : Entry) → in_order front ≡ true → is_behind (last_entry front) e.key e.number ≡ true → in_order (front ++ e ∷ []) ≡ true
order_more [] e h b = refl
order_more (x ∷ xs) e h b = behind_more x xs e h b

fits_more : (front : List Entry) (e : Entry) → AllByRecursion Fits front → Fits e → AllByRecursion Fits (front ++ e ∷ [])
fits_more [] e h f = (f, tt)
fits_more (x ∷ xs) e h f = (h.0, fits_more xs e h.1 f)

-- ---- an entry without a fault

without : (a b c d : Bool) (x y z w : TableFault) → cond (not a) (Some x) (cond (not b) (Some y) (cond c (Some z) (cond (not d) (Some w) None))) ≡ None → (a ≡ true) × (b ≡ true) × (c ≡ false) × (d ≡ true)
without false b c d x y z w e = absurd cc
without true false c d x y z w e = absurd cc
without true true true d x y z w e = absurd cc
without true true false false x y z w e = absurd cc
without true true false true x y z w e = (refl, refl, refl, refl)

-- what the tests of an entry say where none finds a fault
pub record Passes (kind : TableKind) (before : Option Entry) (internal value : List ℕ) : Type 0 where
  pub kind_fits : is_kind (kind_of internal) value ≡ true
  pub number_fits : may_have kind (number_of internal) ≡ true
  pub size : length value ≤ 1048576
  pub behind : is_behind before (user_key internal) (number_of internal) ≡ true

pub passes_of : (kind : TableKind) (index : ℕ) (before : Option Entry) (internal value : List ℕ) → entry_fault kind index before internal value ≡ None → Passes kind before internal value
passes_of kind index before internal value e =
    let p = without (is_kind (kind_of internal) value) (may_have kind (number_of internal)) (ltb 1048576 (length value)) (is_behind before (user_key internal) (number_of internal)) _ _ _ _ e in
    record { kind_fits = p.0; number_fits = p.1; size = ltb-false _ _ p.2; behind = p.3 }

mark_fits : (kind : ℕ) (value : List ℕ) → length value ≤ 1048576 → FitsMark (mark_under kind value)
mark_fits kind value le = by_kind (eqb kind 0)
  where
    by_kind : (t : Bool) → FitsMark (cond t Gone (Put value))
    by_kind true = tt
    by_kind false = le

pub rows_more : (kind : TableKind) (front : List Entry) (internal value : List ℕ) → entry_fault kind (length front) (last_entry front) internal value ≡ None → length internal ≤ 65543 → number_of internal < 2 ^ 64 → AreRows front → AreRows (front ++ entry_under internal value ∷ [])
rows_more kind front internal value e room small rows =
    let p = passes_of kind (length front) (last_entry front) internal value e in
    record {
      ordered = order_more front (entry_under internal value) rows.ordered p.behind;
      within = fits_more front (entry_under internal value) rows.within (record { key = omega (arith, length-take (length internal - 8) internal); mark = mark_fits (kind_of internal) value p.size; number = small });
    }

-- what the tests of an entry found, in the words of the list that it is put behind
pub no_fault : (kind : TableKind) (front : List Entry) (index : ℕ) (before : Option Entry) (internal value : List ℕ) → index ≡ length front → before ≡ last_entry front
    → entry_fault kind index before internal value ≡ None → entry_fault kind (length front) (last_entry front) internal value ≡ None
no_fault kind front index before internal value p b e =
    ap (λ (n : ℕ). entry_fault kind n (last_entry front) internal value) (sym p)
    ∙ ap (λ (o : Option Entry). entry_fault kind index o internal value) (sym b)
    ∙ e
