-- Relations of replies as tests, which decide them.
use Rattle.std.specs.Prelude.{ℕ, Bool, true, false, ◌&&◌, ◌||◌, not, ◌+◌, ◌==◌, nat_lt, nat_le, length, take, drop, List, [], ◌∷◌}
use Rattle.std.specs.Prelude.{Option, Some, None, is_some, cond, if◌then◌else◌}
use Rattle.std.specs.List.{list_all}
use Rattle.st_base.specs.Bytes.{below}
use Rattle.st_base.specs.declared.entry.Entry.{Entry}
use Rattle.st_model.specs.declared.refusal.Refusal.{Refusal}
use Rattle.st_model.specs.declared.reply.Placed.{Placed}
use Rattle.st_model.specs.declared.request.IngestExternalFileOptions.{IngestExternalFileOptions}
use Rattle.st_model.specs.declared.state.ModelFamily.{ModelFamily}
use Rattle.st_model.specs.declared.state.ModelState.{ModelState}
use Rattle.st_model.specs.Early.{is_empty}
use Rattle.st_model.specs.Placing.{is_among_known, numbers_of, last_number_after}
use Rattle.st_model.specs.Read.{read, is_covered}
use Rattle.st_model.specs.Refusals.{step_of, sure_cause, exact_refusals, is_full}
use Rattle.st_model.specs.Request.{File, Argument, asks_behind, entries_of_file, range_of_file}
use Rattle.st_model.specs.State.{family_of, lowest, greatest_number}

abbrev pub comes_first : List Refusal → Refusal → Bool
comes_first holding refusal = list_all (λ other. not (below (step_of other) (step_of refusal))) holding

-- ---- the sequence number 0

abbrev pub reads_none : ModelFamily → ℕ → List ℕ → Bool
reads_none family number key = not (is_some (read family number key))

-- now, and at each live snapshot
abbrev pub always_none : ModelState → ModelFamily → List ℕ → Bool
always_none state family key =
    reads_none family state.last key && list_all (λ live. reads_none family live.number key) state.live

abbrev pub may_be_early : ModelState → ModelFamily → List Entry → IngestExternalFileOptions → Bool
may_be_early state family entries options =
    (is_empty state.live || not options.snapshot_consistency)
    && (list_all (λ entry. always_none state family entry.key) entries
    && (not state.behind || list_all (λ entry. not (is_covered family entry.key)) entries))

-- ---- placing

abbrev pub placed_behind : File → Placed → Bool
placed_behind file placed = placed.level == 6 && placed.number == 0

abbrev pub placed_number : ModelState → ModelFamily → Argument → File → Placed → Bool
placed_number state family argument file placed =
    cond (placed.number == 0)
    (not (is_some (sure_cause state argument)) && may_be_early state family (entries_of_file file) argument.options)
    ((is_some (sure_cause state argument) || is_among_known family (range_of_file file)) && argument.options.allow_global_seqno)

abbrev pub placed_level : ModelState → Argument → Placed → Bool
placed_level state argument placed =
    nat_le placed.level (lowest state)
    && (not argument.options.fail_if_not_bottommost_level || placed.level == lowest state)

abbrev pub placed_file : ModelState → ModelFamily → Argument → File → Placed → Bool
placed_file state family argument file placed =
    placed_level state argument placed && placed_number state family argument file placed

module _ {A B : Type 0} (test : A → B → Bool) where
  -- as many, and each pair passes
  abbrev pub zip_all : List A → List B → Bool
  zip_all [] [] = true
  zip_all [] (y ∷ ys) = false
  zip_all (x ∷ xs) [] = false
  zip_all (x ∷ xs) (y ∷ ys) = test x y && zip_all xs ys

abbrev pub are_next : ℕ → List ℕ → Bool
are_next last [] = true
are_next last (number ∷ numbers) = (number == last + 1) && are_next number numbers

abbrev pub placed_in : ModelState → Argument → List Placed → Option ModelFamily → Bool
placed_in state argument placed None = false
placed_in state argument placed (Some family) = zip_all (placed_file state family argument) argument.files placed

abbrev pub placed_argument : ModelState → ℕ → Argument → List Placed → Bool
placed_argument state last argument placed =
    cond (asks_behind argument) (zip_all placed_behind argument.files placed)
    (are_next last (numbers_of placed) && placed_in state argument placed (family_of state argument.family))

abbrev pub are_placed : ModelState → ℕ → List Argument → List Placed → Bool
are_placed state last [] placed = nat_le (length placed) 0
are_placed state last (argument ∷ arguments) placed =
    placed_argument state last argument (take (length argument.files) placed)
    && are_placed state (last_number_after last (take (length argument.files) placed)) arguments
    (drop (length argument.files) placed)

abbrev pub is_ingested : ModelState → ℕ → List Argument → List Placed → Bool
is_ingested state capacity request placed =
    nat_le (length (exact_refusals state request)) 0
    && (not (is_full state capacity request)
    && (nat_lt state.place greatest_number
    && (nat_le (last_number_after state.last placed) greatest_number
    && are_placed state state.last request placed)))

-- how many numbers the argument can need
abbrev pub needed : Argument → ℕ
needed argument = if asks_behind argument then 0 else argument.named
