-- The premises can be met: two compactions at adjacent levels run beside each other, and the upper one is installed.
use Rattle.std.proofs.Common.{◌≡◌, ℕ, zero, suc, Bool, true, false, cond, [], ◌∷◌, ◌++◌, refl, inr, arith}
use Rattle.std.specs.List.{AllByRecursion as Each}
use Rattle.st_base.specs.Bytes.{same}
use Rattle.st_base.specs.declared.entry.Mark.TheVariants.{Gone}
use Rattle.st_base.specs.declared.entry.Entry.{Entry}
use Rattle.core_laws.specs.Claims.{Compacts, AreOutputsOf}
use Rattle.core_model.specs.Compaction.{with_compacted}
use Rattle.core_model.specs.Picture.{FileEntries, FamilyView, Job, level_at, is_input}
use Rattle.core_model.specs.RelationParts.{IsView, LevelsApart, IsCompacting, IsInputLevel, JobsApart, IsSortedRun}
use Rattle.core_laws.proofs.JobsBeside.{installed_leaves_running}
use Rattle.job_model.specs.Column.{compacted}

abbrev entry : ℕ → ℕ → Entry
entry key number = record { key = key ∷ []; number = number; mark = Gone }

abbrev table : ℕ → ℕ → ℕ → FileEntries
table file key number = record { file = file; length = 4096; entries = entry key number ∷ [] }

-- the key 1 at levels 1 and 2, the key 5 at levels 2 and 3
abbrev family : FamilyView
family = record {
  id = 0;
  mem = [];
  sealed = [];
  levels = [] ∷ (table 1 1 3 ∷ []) ∷ (table 2 1 2 ∷ table 3 5 5 ∷ []) ∷ (table 4 5 1 ∷ []) ∷ [] ∷ [] ∷ [] ∷ [];
}

abbrev upper : Job
upper = record {
  number = 1;
  family = 0;
  level = 2;
  files = 1 ∷ 2 ∷ [];
  inputs = (entry 1 3 ∷ []) ∷ (entry 1 2 ∷ []) ∷ [];
  range = record { first = 1 ∷ []; last = 1 ∷ [] };
  live = [];
  began = 5;
  drops = [];
}

abbrev lower : Job
lower = record {
  number = 2;
  family = 0;
  level = 3;
  files = 3 ∷ 4 ∷ [];
  inputs = (entry 5 5 ∷ []) ∷ (entry 5 1 ∷ []) ∷ [];
  range = record { first = 5 ∷ []; last = 5 ∷ [] };
  live = [];
  began = 5;
  drops = [];
}

row : (key number : ℕ) → IsSortedRun (entry key number ∷ [])
row key number = record { ordered = refl; within = ((omega arith, tt), tt) }

view : IsView family
view = record {
  levels = refl;
  rows = (record { ordered = refl; within = tt }, (row 1 3, (row 1 2, (row 5 5, (row 5 1, tt)))));
  filled = (omega arith, (omega arith, (omega arith, (omega arith, tt))));
  sealed = tt;
  order = (tt, tt);
}

apart : LevelsApart family
apart = ((tt, tt), (((refl, tt), (tt, tt)), ((tt, tt), (tt, (tt, (tt, tt))))))

upper_runs : Compacts 6 family upper
upper_runs = record {
  view = view;
  apart = apart;
  positive = omega arith;
  bottom = omega arith;
  running = record {
    level = omega arith;
    some = omega arith;
    files = refl;
    inputs = refl;
    levels = at_level;
    clear = ((λ none. absurd cc), ((λ none. refl), tt));
    below = (tt, tt);
  };
  range = refl;
}
  where
    at_level : (n : ℕ) → Each (λ t. is_input upper t ≡ true → IsInputLevel 6 2 n) (level_at family n)
    at_level zero = tt
    at_level (suc zero) = ((λ is. record { above = omega arith; near = inr (omega arith) }), tt)
    at_level (suc (suc zero)) = ((λ is. record { above = omega arith; near = inr (omega arith) }), ((λ is. absurd cc), tt))
    at_level (suc (suc (suc zero))) = ((λ is. absurd cc), tt)
    at_level (suc (suc (suc (suc zero)))) = tt
    at_level (suc (suc (suc (suc (suc zero))))) = tt
    at_level (suc (suc (suc (suc (suc (suc zero)))))) = tt
    at_level (suc (suc (suc (suc (suc (suc (suc n))))))) = tt

lower_runs : Compacts 6 family lower
lower_runs = record {
  view = view;
  apart = apart;
  positive = omega arith;
  bottom = omega arith;
  running = record {
    level = omega arith;
    some = omega arith;
    files = refl;
    inputs = refl;
    levels = at_level;
    clear = ((λ none. absurd cc), tt);
    below = (((λ is. absurd cc), ((λ is. absurd cc), tt)), (((λ is. absurd cc), tt), (tt, tt)));
  };
  range = refl;
}
  where
    at_level : (n : ℕ) → Each (λ t. is_input lower t ≡ true → IsInputLevel 6 3 n) (level_at family n)
    at_level zero = tt
    at_level (suc zero) = ((λ is. absurd cc), tt)
    at_level (suc (suc zero)) = ((λ is. absurd cc), ((λ is. record { above = omega arith; near = inr (omega arith) }), tt))
    at_level (suc (suc (suc zero))) = ((λ is. record { above = omega arith; near = inr (omega arith) }), tt)
    at_level (suc (suc (suc (suc zero)))) = tt
    at_level (suc (suc (suc (suc (suc zero))))) = tt
    at_level (suc (suc (suc (suc (suc (suc zero)))))) = tt
    at_level (suc (suc (suc (suc (suc (suc (suc n))))))) = tt

one : JobsApart 6 upper lower
one = record { files = (refl, (refl, tt)); flush = refl; lone = λ a b. (omega arith, omega arith); outputs = λ a e. absurd (omega arith) }

two : JobsApart 6 lower upper
two = record { files = (refl, (refl, tt)); flush = refl; lone = λ a b. (omega arith, omega arith); outputs = λ a e. absurd (omega arith) }

outs : AreOutputsOf upper (table 9 1 3 ∷ [])
outs = record {
  joined = record { ordered = refl; columns = λ key. columns_are (same (1 ∷ []) key) };
  some = (omega arith, tt);
  apart = (tt, tt);
  fresh = (refl, tt);
}
  where
    columns_are : (b : Bool) → cond b (entry 1 3 ∷ []) [] ≡ compacted [] false (cond b (entry 1 3 ∷ []) [] ++ (cond b (entry 1 2 ∷ []) [] ++ []))
    columns_are true = refl
    columns_are false = refl

two_jobs : IsCompacting 6 (with_compacted upper (table 9 1 3 ∷ []) family) lower
two_jobs = installed_leaves_running 6 family upper lower (table 9 1 3 ∷ []) upper_runs lower_runs one two outs (refl, tt)

installed_there : level_at (with_compacted upper (table 9 1 3 ∷ []) family) 2 ≡ table 9 1 3 ∷ table 3 5 5 ∷ []
installed_there = refl
