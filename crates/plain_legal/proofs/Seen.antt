-- Whether a command sees its files rightly, as a test.
use Rattle.std.proofs.Common.{◌≡◌, ℕ, Bool, List, ◌==◌, length, Option, Some, refl, sym, ◌∙◌, IsTrue}
use Rattle.std.specs.Bool.{Decides}
use Rattle.std.specs.Prelude.{◌↔◌}
use Rattle.std.specs.List.{list_all, AllByRecursion as Each}
use Rattle.std.proofs.lemmas.Bool.Decides.{Decides-eqb, Decides-and, Decides-like, Decides-at}
use Rattle.st_base.specs.Range.{keys_rise}
use Rattle.st_base.specs.declared.entry.Entry.{Entry}
use Rattle.st_model.specs.declared.command.FileSeen.{FileSeen}
use Rattle.st_model.specs.declared.command.FileSeen.TheVariants.{Missing, Bad, Table}
use Rattle.st_model.specs.declared.request.IngestExternalFileArg.{IngestExternalFileArg}
use Rattle.st_model.specs.Asked.{IsSeenRightly, SeesRightly, names_files}
use Rattle.plain_legal.specs.Runs.{is_seen_rightly}
use Rattle.plain_legal.proofs.Decide.{each_decides}

itself : (b : Bool) → Decides b (IsTrue b)
itself b = ((λ h. h), (λ h. h))

one_decides : (seen : FileSeen) → Decides (is_seen_rightly seen) (IsSeenRightly seen)
one_decides Missing = ((λ h. tt), (λ h. refl))
one_decides (Bad fault) = ((λ h. tt), (λ h. refl))
one_decides (Table entries) =
    Decides-like (is_seen_rightly (Table entries)) (λ both. record { rise = both.0; numbers = both.1 }) (λ is. (is.rise, is.numbers))
    (Decides-and (keys_rise entries) _ (itself (keys_rise entries))
    (each_decides (λ (entry : Entry). entry.number == 0) (λ (entry : Entry). entry.number ≡ 0) (λ (entry : Entry). Decides-eqb entry.number 0) entries))

pub seen_decides : (request : Option (List IngestExternalFileArg)) (arguments : List IngestExternalFileArg) (seen : List FileSeen) (holds : Bool)
    → names_files (Some arguments) ≡ names_files request → length seen ≡ names_files (Some arguments) → holds ≡ list_all is_seen_rightly seen
    → IsTrue holds ↔ SeesRightly request seen
seen_decides request arguments seen holds same count e =
    Decides-like holds (λ (all : Each IsSeenRightly seen). record { each_named = count ∙ same; tables = all }) (λ is. is.tables)
    (Decides-at holds _ e (each_decides is_seen_rightly IsSeenRightly one_decides seen))
