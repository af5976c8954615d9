-- The newest mark of each key, as the engine keeps it.
use Rattle.std.specs.Prelude.{ℕ, Bool, List, [], ◌∷◌, Option, Some, None, IsSome}
use Rattle.std.proofs.lemmas.Map.Entries.{option_filter}
use Rattle.std.specs.BTreeMap.{get}
use Rattle.st_base.specs.Bytes.{bytes_cmp}
use Rattle.st_base.specs.declared.entry.Mark.{Mark}
use Rattle.st_model.specs.Contents.{is_kept}
use Rattle.log_engine.specs.declared.newest.Newest.{Newest}

abbrev pub flat : Option (Option Mark) → Option Mark
flat None = None
flat (Some mark) = mark

-- the key's newest mark
abbrev pub newest_at : Newest → List ℕ → Option Mark
newest_at newest key = flat (get bytes_cmp newest.map key)

-- there is a slot for the key's mark
abbrev pub HasRoom : Newest → List ℕ → Type 0
HasRoom newest key = IsSome (get bytes_cmp newest.map key)

-- the marks that are there, in key order
abbrev pub present : List (List ℕ × Option Mark) → List (List ℕ × Mark)
present [] = []
present (pair ∷ pairs) = elim pair.1 [ None ↦ present pairs | Some mark ↦ (pair.0, mark) ∷ present pairs ]

-- the mark, where the contents keep it
abbrev pub shown : Bool → Option Mark → Option Mark
shown behind mark = option_filter (is_kept behind) mark
