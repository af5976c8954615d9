-- A transcript with one more call.
use Rattle.std.proofs.Common.{◌≡◌, ℕ, ◌+◌, ◌-◌, List, [], ◌∷◌, ◌++◌, length, ap, ◌∙◌, sym, arith, append_assoc, codes, append-nil, length-append}
use Rattle.std.specs.List.{flat_map}
use Rattle.std.proofs.lemmas.List.Concat.{flat_map-append, length-flat_map}
use Rattle.st_model.specs.declared.command.Call.{Call}
use Rattle.st_model.specs.Line.{line_of}
use Rattle.st_model.specs.Long.{printed_length}
use Rattle.ingest_app.specs.Client.{transcript}

pub transcript_grows : (name : List ℕ) (calls : List Call) (call : Call) (text before : List ℕ) → before ≡ transcript name calls → text ≡ before ++ line_of call.place call.reply → text ≡ transcript name (calls ++ call ∷ [])
transcript_grows name calls call text before old new =
    let line : Call → List ℕ = λ c. line_of c.place c.reply in
    let more : flat_map line (calls ++ call ∷ []) ≡ flat_map line calls ++ line call =
    flat_map-append line calls (call ∷ []) ∙ ap (λ rest. flat_map line calls ++ rest) (append-nil (line call)) in
    new ∙ ap (λ t. t ++ line call) old
    ∙ append_assoc (codes "client " ++ name ++ 10 ∷ []) (flat_map line calls) (line call)
    ∙ sym (ap (λ rest. codes "client " ++ name ++ 10 ∷ [] ++ rest) more)

-- behind its first line a transcript has the bytes that its calls print
pub transcript_length : (name : List ℕ) (calls : List Call) (text : List ℕ) (heading : ℕ) → text ≡ transcript name calls → heading ≡ length (transcript name []) → length text - heading ≡ printed_length calls
transcript_length name calls text heading is first =
    let line : Call → List ℕ = λ c. line_of c.place c.reply in
    let front : List ℕ = codes "client " ++ name ++ 10 ∷ [] in
    let whole : length text ≡ length front + printed_length calls = ap length is ∙ length-append front (flat_map line calls) ∙ ap (λ n. length front + n) (length-flat_map line calls) in
    let begin : heading ≡ length front = first ∙ ap length (append-nil front) in
    omega (arith, whole, begin)
