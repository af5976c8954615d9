-- A request as its arguments with their files, counted from 1.
use Rattle.std.specs.Prelude.{ℕ, Bool, ◌+◌, ◌==◌, true, false, length, take, drop, List, [], ◌∷◌, ◌++◌, map, sum_by}
use Rattle.std.specs.Prelude.{Option, None, flat_map, find}
use Rattle.std.specs.Option.{option_map, option_or}
use Rattle.std.specs.List.{position}
use Rattle.st_base.specs.Range.{range_of, file_charge}
use Rattle.st_base.specs.Range.{meet}
use Rattle.st_base.specs.declared.entry.Entry.{Entry}
use Rattle.st_base.specs.declared.entry.KeyRange.{KeyRange}
use Rattle.st_model.specs.declared.command.FileSeen.{FileSeen}
use Rattle.st_model.specs.declared.command.FileSeen.TheVariants.{Missing, Bad, Table}
use Rattle.st_model.specs.declared.refusal.FileAt.{FileAt}
use Rattle.st_model.specs.declared.request.IngestExternalFileArg.{IngestExternalFileArg}
use Rattle.st_model.specs.declared.request.IngestExternalFileOptions.{IngestExternalFileOptions}

-- a file, and how the inputs and the table format see it
pub record File : Type 0 where
  pub at : FileAt
  pub seen : FileSeen

-- an argument: how many files it names, and those that are seen
pub record Argument : Type 0 where
  pub number : ℕ
  pub family : List ℕ
  pub options : IngestExternalFileOptions
  pub named : ℕ
  pub files : List File

-- file i of the argument and those after it
abbrev pub files_from : ℕ → ℕ → List FileSeen → List File
files_from argument i [] = []
files_from argument i (seen ∷ more) =
    record { at = record { arg = argument; file = i }; seen = seen } ∷ files_from argument (i + 1) more

-- argument a and those after it; the files are seen in the order of the request
abbrev pub arguments_from : ℕ → List IngestExternalFileArg → List FileSeen → List Argument
arguments_from a [] seen = []
arguments_from a (argument ∷ arguments) seen =
    record {
      number = a;
      family = argument.family;
      options = argument.options;
      named = length argument.files;
      files = files_from a 1 (take (length argument.files) seen);
    } ∷ arguments_from (a + 1) arguments (drop (length argument.files) seen)

-- the request of a command, of which the files are seen so
abbrev pub request_of : List IngestExternalFileArg → List FileSeen → List Argument
request_of arguments seen = arguments_from 1 arguments seen

abbrev pub default_options : IngestExternalFileOptions
default_options = record {
  snapshot_consistency = true;
  allow_global_seqno = true;
  allow_blocking_flush = true;
  ingest_behind = false;
  fail_if_not_bottommost_level = false;
}

abbrev pub entries_seen : FileSeen → List Entry
entries_seen (Table entries) = entries
entries_seen Missing = []
entries_seen (Bad fault) = []

abbrev pub entries_of_file : File → List Entry
entries_of_file file = entries_seen file.seen

abbrev pub range_of_file : File → KeyRange
range_of_file file = range_of (entries_of_file file)

abbrev pub all_files : List Argument → List File
all_files request = flat_map (λ argument. argument.files) request

-- how many files the request names
abbrev pub files_named : List Argument → ℕ
files_named request = sum_by (λ argument. argument.named) request

-- whether the argument is to be taken in behind
abbrev pub asks_behind : Argument → Bool
asks_behind argument = argument.options.ingest_behind

-- what the files of the request count against the capacity
abbrev pub request_charge : List Argument → ℕ
request_charge request = sum_by (λ file. file_charge (entries_of_file file)) (all_files request)

-- of the ranges after `earlier`, the first that meets one before it: the places of both
abbrev pub meeting_after : List KeyRange → List KeyRange → Option (ℕ × ℕ)
meeting_after earlier [] = None
meeting_after earlier (range ∷ ranges) =
    option_or (option_map (λ i. (i + 1, length earlier + 1)) (position (meet range) earlier))
    (meeting_after (earlier ++ range ∷ []) ranges)

-- the first two files of the argument that meet, by the second, then the first
abbrev pub meeting : Argument → Option (ℕ × ℕ)
meeting argument = meeting_after [] (map range_of_file argument.files)

-- the argument of that number
abbrev pub argument_of : List Argument → ℕ → Option Argument
argument_of request number = find (λ argument. argument.number == number) request

abbrev pub file_of_argument : Argument → ℕ → Option File
file_of_argument argument i = find (λ file. file.at.file == i) argument.files
