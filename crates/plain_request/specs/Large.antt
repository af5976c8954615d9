-- What a request that is too large is refused for: by its shape alone, before its files are counted.
use Rattle.std.specs.Prelude.{ℕ, ◌+◌, nat_le, length, List, [], ◌∷◌, Option, Some, None, unwrap_or, if◌then◌else◌}
use Rattle.std.specs.List.{list_any}
use Rattle.std.specs.Option.{option_map}
use Rattle.st_base.specs.Bytes.{same}
use Rattle.st_model.specs.declared.refusal.Refusal.{Refusal}
use Rattle.st_model.specs.declared.refusal.Refusal.TheVariants.{NoFiles, FamilyTwice, TooManyFiles}
use Rattle.st_model.specs.declared.request.IngestExternalFileArg.{IngestExternalFileArg}

-- the number of the first argument without files; the first of these arguments has this number
abbrev pub first_empty : ℕ → List IngestExternalFileArg → Option ℕ
first_empty number [] = None
first_empty number (argument ∷ arguments) =
    if nat_le (length argument.files) 0 then Some number else first_empty (number + 1) arguments

-- that of the first argument which names one of these families, or that of an argument before it
abbrev pub first_twice : ℕ → List (List ℕ) → List IngestExternalFileArg → Option ℕ
first_twice number named [] = None
first_twice number named (argument ∷ arguments) =
    if list_any (same argument.family) named then Some number
    else first_twice (number + 1) (argument.family ∷ named) arguments

-- the first refusal of a request with too many arguments or files
abbrev pub large_refusal : List IngestExternalFileArg → Refusal
large_refusal arguments =
    unwrap_or (option_map NoFiles (first_empty 1 arguments))
    (unwrap_or (option_map FamilyTwice (first_twice 1 [] arguments)) TooManyFiles)
