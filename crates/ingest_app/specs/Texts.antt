-- The texts that go with the statuses, but for transcripts, tables and build texts.
use Rattle.std.specs.Prelude.{ℕ, List, [], ◌∷◌, ◌++◌, codes}
use Rattle.std.specs.Fmt.{decimal}

abbrev pub not_yet_text : List ℕ
not_yet_text = codes "notyet" ++ 10 ∷ []

abbrev pub input_text : List ℕ → List ℕ
input_text name = codes "input " ++ name ++ 10 ∷ []

abbrev pub source_text : List ℕ
source_text = codes "input" ++ 10 ∷ []

abbrev pub script_text : List ℕ → ℕ → List ℕ
script_text name line = codes "script " ++ name ++ codes " " ++ decimal line ++ 10 ∷ []

abbrev pub disk_text : List ℕ
disk_text = codes "disk" ++ 10 ∷ []

abbrev pub damaged_text : ℕ → ℕ → List ℕ
damaged_text file at = codes "damaged " ++ decimal file ++ codes " " ++ decimal at ++ 10 ∷ []

abbrev pub refused_text : List ℕ → List ℕ
refused_text cause = codes "refused " ++ cause ++ 10 ∷ []
