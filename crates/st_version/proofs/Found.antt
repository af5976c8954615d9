-- The first mark of a key along runs.
use Rattle.std.proofs.Common.{◌≡◌, ℕ, Bool, true, false, cond, ◌&&◌, List, [], ◌∷◌, ◌++◌, length, take, drop, Option, Some, None, refl, sym, ap, ◌∙◌}
use Rattle.std.specs.Prelude.{nat_le, filter, find, flat_map, map, option_map}
use Rattle.std.specs.Option.{option_or}
use Rattle.st_base.specs.Bytes.{same}
use Rattle.st_base.specs.Rows.{mark_of, newest}
use Rattle.st_base.specs.declared.entry_ref.MarkRef.{MarkRef}
use Rattle.st_base.specs.declared.entry.Entry.{Entry}
use Rattle.st_base.specs.declared.entry.Mark.{Mark}
use Rattle.st_order.specs.Columns.{column, of_key}
use Rattle.job_model.specs.Column.{first_at, found_at}

-- an entry that passes two tests, as the first of those that pass one
pub find_both : {X : Type 0} (test other : X → Bool) (xs : List X) → find (λ x. test x && other x) xs ≡ find other (filter test xs)
find_both test other [] = refl
find_both {X} test other (x ∷ xs) = step (test x) (find_both test other xs)
  where
    step : (b : Bool) → find (λ y. test y && other y) xs ≡ find other (filter test xs)
        → cond (b && other x) (Some x) (find (λ y. test y && other y) xs) ≡ find other (cond b (x ∷ filter test xs) (filter test xs))
    step false rest = rest
    step true rest = ap (λ (found : Option X). cond (other x) (Some x) found) rest

-- the mark that the newest entry of a run has
pub newest_found : (entries : List Entry) (key : List ℕ) (number : ℕ) → option_map (λ (found : ℕ × Mark). found.1) (newest entries key number) ≡ found_at number (of_key key entries)
newest_found entries key number = twice (find (λ entry. same entry.key key && nat_le entry.number number) entries) ∙ ap (option_map (λ entry. entry.mark)) (find_both (λ (entry : Entry). same entry.key key) (λ entry. nat_le entry.number number) entries)
  where
    twice : (found : Option Entry) → option_map (λ (one : ℕ × Mark). one.1) (option_map (λ (entry : Entry). (entry.number, entry.mark)) found) ≡ option_map (λ (entry : Entry). entry.mark) found
    twice None = refl
    twice (Some entry) = refl

-- the same of a mark where it lies
pub mark_there : (found : Option (ℕ × MarkRef)) (entries : List Entry) (key : List ℕ) (number : ℕ) → option_map (λ (one : ℕ × MarkRef). (one.0, mark_of one.1)) found ≡ newest entries key number
    → option_map (λ (one : ℕ × MarkRef). mark_of one.1) found ≡ found_at number (of_key key entries)
mark_there found entries key number is = twice found ∙ ap (option_map (λ (one : ℕ × Mark). one.1)) is ∙ newest_found entries key number
  where
    twice : (some : Option (ℕ × MarkRef)) → option_map (λ (one : ℕ × MarkRef). mark_of one.1) some ≡ option_map (λ (one : ℕ × Mark). one.1) (option_map (λ (one : ℕ × MarkRef). (one.0, mark_of one.1)) some)
    twice None = refl
    twice (Some one) = refl

-- what isn't found in the first is found in the others
pub found_join : (number : ℕ) (xs ys : List Entry) → found_at number (xs ++ ys) ≡ option_or (found_at number xs) (found_at number ys)
found_join number [] ys = refl
found_join number (x ∷ xs) ys = step (nat_le x.number number) (found_join number xs ys)
  where
    step : (b : Bool) → found_at number (xs ++ ys) ≡ option_or (found_at number xs) (found_at number ys)
        → option_map (λ (entry : Entry). entry.mark) (cond b (Some x) (first_at number (xs ++ ys))) ≡ option_or (option_map (λ (entry : Entry). entry.mark) (cond b (Some x) (first_at number xs))) (found_at number ys)
    step true rest = refl
    step false rest = rest
