-- An entry at a index of parts.
use Rattle.std.proofs.Common.{◌≡◌, ℕ, ◌<◌, List, [], length, get_or, Option, Some, ap, subst, inl, inr, arith}
use Rattle.std.specs.Prelude.{slice_get, IsSome}
use Rattle.std.proofs.lemmas.Bool.{cases_lt, false≢true}
use Rattle.std.proofs.lemmas.List.{get_or_past}
use Rattle.std.proofs.lemmas.Option.{slice_get_past}
use Rattle.st_base.specs.Rows.{AreRows, Fits}
use Rattle.st_base.specs.declared.entry.Entry.{Entry}
use Rattle.st_order.proofs.Halves.{each_at, get_there}
use Rattle.st_merge.specs.Heads.{entry_at_index}

some_index : (entries : List Entry) (index : ℕ) → IsSome (slice_get entries index) → index < length entries
some_index entries index some = elim (cases_lt index (length entries)) [
  | inl less ↦ less
  | inr more ↦ absurd (false≢true (subst (λ (o : Option Entry). IsSome o) (slice_get_past entries index more) some))
]

pub some_part : (runs : List (List Entry)) (part index : ℕ) → IsSome (entry_at_index runs part index) → part < length runs
some_part runs part index some = elim (cases_lt part (length runs)) [
  | inl less ↦ less
  | inr more ↦ absurd (let lt : index < length (get_or runs part []) = some_index (get_or runs part []) index some in let e = ap length (get_or_past runs part [] more) in omega (arith, lt, e))
]

pub index_of : (runs : List (List Entry)) (part index : ℕ) (entries : List Entry) → get_or runs part [] ≡ entries → IsSome (entry_at_index runs part index) → index < length entries
index_of runs part index entries at some = some_index entries index (subst (λ (found : List Entry). IsSome (slice_get found index)) at some)

pub fits_at : (entries : List Entry) (index : ℕ) (entry : Entry) → AreRows entries → slice_get entries index ≡ Some entry → Fits entry
fits_at entries index entry are at =
    let here = get_there entries index entry entry at in
    subst Fits here.1 (each_at Fits entries index entry are.within here.0)
