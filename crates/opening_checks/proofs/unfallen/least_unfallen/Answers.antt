use Rattle.std.proofs.Common.{◌≡◌, ◌++◌, List, Some, length, map, take, ap, sym, ◌∙◌, append-nil}
use Rattle.std.proofs.lemmas.List.{length-map}
use Rattle.core_model.specs.Picture.{FileEntries, tables_in}
use Rattle.st_base.specs.Levels.{levels_of}
use Rattle.st_version.specs.Held.{SharedTable, tables_of}
use Rattle.opening_checks.proofs.Falling.{finished}
use Rattle.opening_checks.proofs.unfallen.least_unfallen.Goals as goal

same_tables : (a b : List SharedTable) → Some a ≡ Some b → a ≡ b
same_tables a b e = cc

pub returns : goal.returns
returns g c = λ family is.
    finished c.args.last (length c.as_slice-upper.result.now) (g.C.Rows.rows c.args.counted.now) (map tables_of (levels_of c.args.levels.now)) (tables_of c.as_slice.result.now) c.in_ok-least.least c.in_ok-least.ensures
    (ap tables_of c.as_slice.ensures.value ∙ c.in_ok-push_tables.ensures ∙ ap (λ front. front ++ tables_of c.at.result.now) c.in_ok-tables.ensures
    ∙ ap (λ back. tables_in (take 6 (map tables_of (levels_of c.args.levels.now))) ++ back)
    (sym (ap tables_of (same_tables c.args.levels.now.six.value c.at.result.now c.at.ensures)) ∙ sym (append-nil (tables_of c.args.levels.now.six.value))))
    (sym (length-map c.as_slice-upper.result.now (λ (held : SharedTable). held.value.table))
    ∙ ap (λ (tables : List FileEntries). length tables) (ap tables_of c.as_slice-upper.ensures.value ∙ c.in_ok-tables.ensures))
    family is
