-- A request placed file by file: what the core would be, with the first refusals and the places so far. The core itself
-- is only read, so a refusal leaves nothing to be put back.
use Rattle.std.specs.Prelude.{ℕ, Bool, true, false, ◌||◌, not, ◌+◌, ◌++◌, nat_le, nat_lt, List, [], ◌∷◌, find, fold, map, if◌then◌else◌, Option, Some, None}
use Rattle.std.specs.Option.{option_map, option_or, option_and_then}
use Rattle.st_base.specs.Map.{value_at}
use Rattle.st_base.specs.Range.{meet}
use Rattle.st_model.specs.Early.{is_empty}
use Rattle.st_model.specs.Refusals.{lowest_live}
use Rattle.st_model.specs.Request.{meeting_after}
use Rattle.st_model.specs.State.{greatest_number}
use Rattle.st_model.specs.declared.refusal.Refusal.{Refusal}
use Rattle.st_model.specs.declared.refusal.Refusal.TheVariants.{BehindDoesNotFit, NumbersSpent, StoreFull}
use Rattle.st_model.specs.declared.refusal.Why.{Why}
use Rattle.st_model.specs.declared.refusal.Why.TheVariants.{Files, Snapshot}
use Rattle.st_model.specs.declared.reply.Placed.{Placed}
use Rattle.core_model.specs.Commit.{Planned, RequestFile, comes_behind, level_refusal, number_refusal, outline, placed_in_plan, plan_file, put_planned, request_files}
use Rattle.core_model.specs.Picture.{Core, FileEntries, Part, level_at, lowest_level, table_range}

-- the core with the files so far, the first refusals of a number and of a level, and where the files went
pub record Draft : Type 0 where
  pub core : Core
  pub number : Option Refusal
  pub level : Option Refusal
  pub files : List Placed

-- nothing is placed yet
abbrev pub new_draft : Core → Draft
new_draft core = record { core = core; number = None; level = None; files = [] }

-- with one planned file more
abbrev pub with_planned : Draft → Planned → Draft
with_planned draft planned = record {
  core = put_planned draft.core planned;
  number = option_or draft.number (number_refusal planned);
  level = option_or draft.level (level_refusal (lowest_level draft.core) planned);
  files = draft.files ++ placed_in_plan planned ∷ [];
}

-- with one file of the request more, which is placed in the core that the earlier ones left
abbrev pub with_request_file : Draft → RequestFile → Draft
with_request_file draft wanted = with_planned draft (plan_file draft.core wanted)

-- these files one after the other
abbrev pub with_request_files : Draft → List RequestFile → Draft
with_request_files draft wanted = fold with_request_file draft wanted

-- the whole request
abbrev pub drafted : Core → List Part → Draft
drafted core parts = with_request_files (new_draft core) (request_files core parts)

-- why each file of the part is numbered, whichever argument it is: two of its files meet, or a live snapshot must not
-- see them
abbrev pub sure_of : Core → Part → Option Why
sure_of core part =
    option_or (option_map (λ pair. Files pair.0 pair.1) (meeting_after [] (map table_range part.files)))
    (if is_empty core.live || not part.options.snapshot_consistency then None
    else Some (Snapshot (lowest_live (outline core))))

-- ---- the first refusal, by one test after the other

-- the first table of the last level that meets the file
abbrev pub met_below : Core → List ℕ → FileEntries → Option FileEntries
met_below core name table =
    option_and_then (λ family. find (λ other. meet (table_range other) (table_range table)) (level_at family 6))
    (value_at core.families name)

-- refusal 15 of the first of a part's files that meets one, from file i on
abbrev pub first_met : Core → List ℕ → ℕ → ℕ → List FileEntries → Option Refusal
first_met core name a i [] = None
first_met core name a i (table ∷ tables) =
    option_or
    (option_map (λ other. BehindDoesNotFit (record { arg = a; file = i }) (table_range other)) (met_below core name table))
    (first_met core name a (i + 1) tables)

-- of the parts that are taken in behind, from part a on
abbrev pub first_unfit : Core → ℕ → List Part → Option Refusal
first_unfit core a [] = None
first_unfit core a (part ∷ parts) =
    option_or (if comes_behind part then first_met core part.family a 1 part.files else None)
    (first_unfit core (a + 1) parts)

-- the refusal, where it holds
abbrev pub refused_where : Bool → Refusal → Option Refusal
refused_where true refusal = Some refusal
refused_where false refusal = None

-- the first of refusals 15 to 19, where the request is drafted so: six tests in a row
abbrev pub first_of_draft : Option Refusal → Core → Draft → Option Refusal
first_of_draft unfit core draft =
    option_or (option_or (option_or (option_or (option_or unfit draft.number) draft.level)
    (refused_where (nat_lt greatest_number draft.core.last) NumbersSpent))
    (refused_where (nat_le greatest_number core.place) NumbersSpent))
    (refused_where (nat_lt core.capacity draft.core.charge) StoreFull)
