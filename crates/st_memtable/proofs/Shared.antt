-- Lists of shared entries.
use Rattle.std.proofs.Common.{◌≡◌, ℕ, zero, suc, ◌+◌, ◌<◌, true, false, List, [], ◌∷◌, ◌++◌, length, get_or, take, drop, map, refl, sym, ap, ◌∙◌, arith}
use Rattle.std.specs.declared.alloc.Global.{Global}
use Rattle.std.specs.declared.sync.Arc.{Arc}
use Rattle.st_base.specs.declared.entry.Entry.{Entry}
use Rattle.st_memtable.specs.Runs.{is_next, values}
use Rattle.st_memtable.specs.Memtable.{lengths_of}

abbrev pub Shared : Type 0
Shared = Arc Entry Global

pub first_and_rest : (entries : List Shared) (x : Shared) → x ≡ get_or entries 0 x → 0 < length entries → values entries ≡ x.value ∷ values (drop 1 entries)
first_and_rest [] x is lt = absurd (omega arith)
first_and_rest (y ∷ entries) x is lt = ap (λ (one : Shared). one.value ∷ values entries) (sym is)

pub some_one : (one : List Shared) (other : List Entry) → is_next (values one) other ≡ true → 0 < length one
some_one [] other e = absurd cc
some_one (x ∷ one) other e = omega arith

pub some_other : (one other : List Shared) → is_next (values one) (values other) ≡ false → (length one ≡ 0 → 0 < length other) → 0 < length other
some_other [] other e some = some refl
some_other (x ∷ one) [] e some = absurd cc
some_other (x ∷ one) (y ∷ other) e some = omega arith

pub values_more : (entries : List Shared) (x : Shared) (y : Entry) → x.value ≡ y → values (entries ++ x ∷ []) ≡ values entries ++ y ∷ []
values_more [] x y e = ap (λ one. one ∷ []) e
values_more (z ∷ entries) x y e = ap (λ rest. z.value ∷ rest) (values_more entries x y e)

-- ---- runs

pub run_at : (runs : List (List Entry)) (i : ℕ) (run d : List Entry) → run ≡ get_or runs i run → i < length runs → get_or runs i d ≡ run
run_at [] i run d is lt = absurd (omega arith)
run_at (one ∷ runs) zero run d is lt = sym is
run_at (one ∷ runs) (suc i) run d is lt = run_at runs i run d is (omega arith)

pub len_at : (runs : List (List Entry)) (i : ℕ) (run : List Entry) → run ≡ get_or runs i run → i < length runs → get_or (lengths_of runs) i 0 ≡ length run
len_at [] i run is lt = absurd (omega arith)
len_at (one ∷ runs) zero run is lt = ap length (sym is)
len_at (one ∷ runs) (suc i) run is lt = len_at runs i run is (omega arith)

-- ---- entries

module _ {X Y : Type 0} (f : X → Y) where
  pub map_at : (xs : List X) (i : ℕ) (x : X) (d : Y) → x ≡ get_or xs i x → i < length xs → get_or (map f xs) i d ≡ f x
  map_at xs i x d is lt = Rattle.st_order.proofs.Mapped.mapped_there f xs i x d lt is

pub long_of : (entries : List Shared) → length (values entries) ≡ length entries
long_of entries = Rattle.std.proofs.lemmas.List.length-map entries (λ (entry : Shared). entry.value)

pub there_at : (xs : List Shared) (i : ℕ) (x : Shared) → i < length xs → x ≡ get_or xs i x → Rattle.std.specs.Prelude.slice_get (values xs) i ≡ Rattle.std.proofs.Common.Some x.value
there_at [] i x lt is = absurd (omega arith)
there_at (y ∷ xs) zero x lt is = ap (λ (one : Shared). Rattle.std.proofs.Common.Some one.value) (sym is)
there_at (y ∷ xs) (suc i) x lt is = there_at xs i x (omega arith) is
