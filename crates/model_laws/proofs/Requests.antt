-- A plain request, as its arguments with their files.
use Rattle.std.proofs.Common.{◌≡◌, ℕ, ◌+◌, ◌-◌, ◌≤◌, ◌<◌, true, List, [], ◌∷◌, map, take, drop, length, length-drop, length-take, refl, ap, ◌∙◌, sym, arith, IsFalse, IsTrue, Some}
use Rattle.std.specs.List.{AllByRecursion as Each}
use Rattle.std.proofs.lemmas.List.Sums.{sum_by-cons}
use Rattle.st_base.specs.Order.{in_order}
use Rattle.st_model.specs.declared.command.FileSeen.{FileSeen}
use Rattle.st_model.specs.declared.command.FileSeen.TheVariants.{Missing, Bad, Table}
use Rattle.st_model.specs.declared.request.IngestExternalFileArg.{IngestExternalFileArg}
use Rattle.st_model.specs.declared.state.ModelState.{ModelState}
use Rattle.st_model.specs.Answer.{unknown_families}
use Rattle.st_model.specs.Asked.{IsSeenRightly, names_files}
use Rattle.st_model.specs.Refusals.{file_refusals, is_full, numbers_needed, shape_refusals}
use Rattle.st_model.specs.Request.{Argument, arguments_from, default_options, entries_of_file, files_from, request_of}
use Rattle.st_model.specs.State.{greatest_number}
use Rattle.base_laws.proofs.Keys.{rise_in_order}
use Rattle.base_laws.proofs.Lists.{each_drop, each_take}
use Rattle.model_laws.specs.Claims.{IsPlainRequest}

-- the options of each argument are the default ones
abbrev pub ArePlain : List Argument → Type 0
ArePlain request = Each (λ argument. argument.options ≡ default_options) request

pub record IsPlain (state : ModelState) (capacity : ℕ) (request : List Argument) : Type 0 where
  pub options : ArePlain request
  pub shape : shape_refusals request ≡ []
  pub files : file_refusals request ≡ []
  -- each file that is named is seen, and its entries are in order
  pub whole : Each (λ argument. length argument.files ≡ argument.named) request
  pub ordered : Each (λ argument. Each (λ file. IsTrue (in_order (entries_of_file file))) argument.files) request
  pub families : unknown_families state (map (λ argument. argument.family) request) ≡ []
  pub numbers : state.last + numbers_needed request ≤ greatest_number
  pub place : state.place < greatest_number
  pub room : IsFalse (is_full state capacity request)

options_are : (a : ℕ) (arguments : List IngestExternalFileArg) (seen : List FileSeen) → Each (λ argument. argument.options ≡ default_options) arguments → ArePlain (arguments_from a arguments seen)
options_are a [] seen h = tt
options_are a (argument ∷ arguments) seen h = (h.0, options_are (a + 1) arguments (drop (length argument.files) seen) h.1)

pub names_are : (a : ℕ) (arguments : List IngestExternalFileArg) (seen : List FileSeen) → map (λ argument. argument.family) (arguments_from a arguments seen) ≡ map (λ argument. argument.family) arguments
names_are a [] seen = refl
names_are a (argument ∷ arguments) seen = ap (λ names. argument.family ∷ names) (names_are (a + 1) arguments (drop (length argument.files) seen))

files_ordered : (argument i : ℕ) (seen : List FileSeen) → Each IsSeenRightly seen → Each (λ file. IsTrue (in_order (entries_of_file file))) (files_from argument i seen)
files_ordered argument i [] h = tt
files_ordered argument i (Missing ∷ seen) h = (refl, files_ordered argument (i + 1) seen h.1)
files_ordered argument i (Bad fault ∷ seen) h = (refl, files_ordered argument (i + 1) seen h.1)
files_ordered argument i (Table entries ∷ seen) h = (rise_in_order entries h.0.rise, files_ordered argument (i + 1) seen h.1)

all_ordered : (a : ℕ) (arguments : List IngestExternalFileArg) (seen : List FileSeen) → Each IsSeenRightly seen
    → Each (λ argument. Each (λ file. IsTrue (in_order (entries_of_file file))) argument.files) (arguments_from a arguments seen)
all_ordered a [] seen h = tt
all_ordered a (argument ∷ arguments) seen h = (
  files_ordered a 1 (take (length argument.files) seen) (each_take IsSeenRightly (length argument.files) seen h),
  all_ordered (a + 1) arguments (drop (length argument.files) seen) (each_drop IsSeenRightly (length argument.files) seen h),
)

length-files : (argument i : ℕ) (seen : List FileSeen) → length (files_from argument i seen) ≡ length seen
length-files argument i [] = refl
length-files argument i (one ∷ seen) = omega (arith, length-files argument (i + 1) seen)

-- each named file is seen, where as many are seen as are named
pub all_whole : (a : ℕ) (arguments : List IngestExternalFileArg) (seen : List FileSeen) → length seen ≡ names_files (Some arguments)
    → Each (λ argument. length argument.files ≡ argument.named) (arguments_from a arguments seen)
all_whole a [] seen h = tt
all_whole a (argument ∷ arguments) seen h =
    let count : ℕ = length argument.files in
    let sum = h ∙ sum_by-cons (λ (one : IngestExternalFileArg). length one.files) argument arguments in (
      length-files a 1 (take count seen) ∙ taken count seen (omega (arith, sum)),
      all_whole (a + 1) arguments (drop count seen) (length-drop count seen ∙ omega (arith, sum)),
    )
  where
    taken : (n : ℕ) (xs : List FileSeen) → n ≤ length xs → length (take n xs) ≡ n
    taken n xs l = omega (arith, length-take n xs)

pub plain_is : (state : ModelState) (capacity : ℕ) (arguments : List IngestExternalFileArg) (seen : List FileSeen) → IsPlainRequest state capacity arguments seen → IsPlain state capacity (request_of arguments seen)
plain_is state capacity arguments seen h = record {
  options = options_are 1 arguments seen h.options;
  shape = h.shape;
  files = h.files;
  whole = all_whole 1 arguments seen h.sees.each_named;
  ordered = all_ordered 1 arguments seen h.sees.tables;
  families = ap (unknown_families state) (names_are 1 arguments seen) ∙ h.families;
  numbers = h.numbers;
  place = h.place;
  room = h.room;
}
