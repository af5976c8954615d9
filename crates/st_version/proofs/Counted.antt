-- The charge and the least number of one entry more.
use Rattle.std.proofs.Common.{◌≡◌, ℕ, ◌+◌, ◌<◌, Bool, true, false, cond, List, [], ◌∷◌, ◌++◌, length, get_or, take, Option, Some, None, refl, sym, ap, ◌∙◌, arith}
use Rattle.std.specs.Prelude.{filter, min, nat_lt, slice_get, sum_by}
use Rattle.std.proofs.lemmas.List.{take_more}
use Rattle.std.proofs.lemmas.List.Sums.{sum_by_push}
use Rattle.st_base.specs.Entries.{add_charge, entry_charge}
use Rattle.st_base.specs.Range.{entries_charge}
use Rattle.st_base.specs.declared.entry.Entry.{Entry}
use Rattle.st_memtable.specs.Memtable.{least_number, lesser}
use Rattle.st_order.proofs.Halves.{get_there}
use Rattle.st_version.proofs.Steps.{filter_end}

lesser_again : (a b c : Option ℕ) → lesser a (lesser b c) ≡ lesser (lesser a b) c
lesser_again None b c = refl
lesser_again (Some a) None c = refl
lesser_again (Some a) (Some b) None = refl
lesser_again (Some a) (Some b) (Some c) = ap Some (let e : min a (min b c) ≡ min (min a b) c = omega arith in e)

least_end : (xs : List Entry) (x : Entry) → least_number (xs ++ x ∷ []) ≡ lesser (least_number xs) (Some x.number)
least_end [] x = refl
least_end (y ∷ xs) x = ap (lesser (Some y.number)) (least_end xs x) ∙ lesser_again (Some y.number) (least_number xs) (Some x.number)

one_more : (rows : List Entry) (i : ℕ) (x : Entry) → slice_get rows i ≡ Some x → take (i + 1) rows ≡ take i rows ++ x ∷ []
one_more rows i x at = let there = get_there rows i x x at in take_more rows i x there.0 ∙ ap (λ one. take i rows ++ one ∷ []) there.1

abbrev above : Entry → Bool
above entry = nat_lt 0 entry.number

pub least_step : (rows : List Entry) (i : ℕ) (x : Entry) (least after : Option ℕ) → slice_get rows i ≡ Some x → least ≡ least_number (filter (λ entry. nat_lt 0 entry.number) (take i rows))
    → after ≡ cond (nat_lt 0 x.number) (lesser least (Some x.number)) least → after ≡ least_number (filter (λ entry. nat_lt 0 entry.number) (take (i + 1) rows))
least_step rows i x least after at is e =
    e ∙ step (nat_lt 0 x.number)
    ∙ sym (ap (λ some. least_number (filter above some)) (one_more rows i x at) ∙ ap least_number (filter_end above (take i rows) x))
  where
    passed : List Entry
    passed = filter above (take i rows)

    step : (b : Bool) → cond b (lesser least (Some x.number)) least ≡ least_number (passed ++ cond b (x ∷ []) [])
    step true = ap (λ found. lesser found (Some x.number)) is ∙ sym (least_end passed x)
    step false = is ∙ ap least_number (sym (Rattle.std.proofs.Common.append-nil passed))

pub charge_step : (rows : List Entry) (i : ℕ) (x : Entry) (sum after : ℕ) → slice_get rows i ≡ Some x → sum ≡ entries_charge (take i rows)
    → after ≡ add_charge sum (entry_charge x.key x.mark) → after ≡ entries_charge (take (i + 1) rows)
charge_step rows i x sum after at is e =
    e ∙ ap (λ n. add_charge n (entry_charge x.key x.mark)) is ∙ joined (sum_by counts (take i rows)) (counts x)
    ∙ ap (add_charge 0) (sym (ap (sum_by counts) (one_more rows i x at) ∙ sum_by_push counts (take i rows) x))
  where
    counts : Entry → ℕ
    counts entry = entry_charge entry.key entry.mark

    joined : (a b : ℕ) → add_charge (add_charge 0 a) b ≡ add_charge 0 (a + b)
    joined a b = omega arith
