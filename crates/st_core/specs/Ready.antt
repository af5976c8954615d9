-- When a step may be asked for.
use Rattle.std.specs.Prelude.{ℕ, List, [], ◌∷◌, take, IfSome, IsTrue, IsFalse, ⊤}
use Rattle.core_model.specs.Event as events
use Rattle.core_model.specs.declared.reply.CoreReply.{CoreReply}
use Rattle.core_model.specs.Picture.{Core, is_flush}
use Rattle.core_model.specs.Run.{IsCoreStep, IsCoreRun}
use Rattle.core_model.specs.Request.{IsRequest}
use Rattle.core_model.specs.RelationParts.{files_in_parts}
use Rattle.core_model.specs.Step.{AreFresh, AreOutputs, family_of_job, noted_job}
use Rattle.st_version.specs.Replace.{FitLevel}

-- What an event asks of who brings it: outputs are those of the job, and a compaction's fit its level; a request passed the
-- tests of its shape, and its files are fresh.
abbrev pub IsAdmissible : Core → events.Event → Type 0
IsAdmissible core (events.FlushInstalled number output) =
    IfSome (noted_job core number) (λ job. IsTrue (is_flush job) → AreOutputs core job (output ∷ []))
IsAdmissible core (events.CompactInstalled number outputs) =
    IfSome (noted_job core number) (λ job. IsFalse (is_flush job) → AreOutputs core job outputs
    × IfSome (family_of_job core job) (λ named. FitLevel job.files job.level outputs named.1))
IsAdmissible core (events.TurnTaken parts) = IsRequest parts × AreFresh core (files_in_parts parts)
IsAdmissible core event = ⊤

-- at each event, whatever the answers before it
abbrev pub AreAdmissible : Core → List events.Event → Type 0
AreAdmissible core [] = ⊤
AreAdmissible core (event ∷ more) =
    IsAdmissible core event
    × ((answer : CoreReply) (next : Core) → IsCoreStep core event answer next → AreAdmissible next more)

-- a run of the first of the events
abbrev pub HasBegun : Core → List events.Event → Core → Type 0
HasBegun core all after = (done : ℕ) × (answers : List CoreReply) × IsCoreRun core (take done all) answers after
