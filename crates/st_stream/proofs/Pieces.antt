-- What one more piece adds, in reading a file and in writing to a sink.
use Rattle.std.proofs.Common.{◌≡◌, ◌≤◌, ◌+◌, ◌-◌, ℕ, List, ◌++◌, length, min, take, drop, ap, sym, ◌∙◌, append_assoc, take-append-drop, arith}
use Rattle.std.proofs.Math.Seq.{take-add}
use Rattle.std.proofs.lemmas.List.{drop_all, drop-drop, take-take}
use Rattle.std.proofs.lemmas.Slice.{between_to_end}
use Rattle.st_stream.specs.Sink.{AppendsFirst}
use Rattle.st_stream.specs.Inputs.{InputsTold, ReadsAt, InputsUntouched}
use Rattle.st_stream.specs.Source.{TakesBytes}

-- the first n of what is left, appended behind the first `done`
pub appends_more : (before now after bytes : List ℕ) (done n : ℕ) → AppendsFirst before now bytes done → AppendsFirst now after (take (length bytes - done) (drop done bytes)) n → AppendsFirst before after bytes (done + n)
appends_more before now after bytes done n first then =
    let all : take (length bytes - done) (drop done bytes) ≡ drop done bytes = between_to_end bytes done (length bytes) (omega arith) in
    let last : after ≡ now ++ take n (drop done bytes) = rw all at then in
    rw (take-add done n bytes, ← append_assoc before (take done bytes) (take n (drop done bytes)), ← first) last

-- the first `kept` of the n that came, behind the first `at`
pub reads_more : (file had old new : List ℕ) (at n kept : ℕ) → kept ≤ n → had ≡ take at file → ReadsAt file at old new n → had ++ take kept new ≡ take (at + kept) file
reads_more file had old new at n kept le first reads =
    let same : take kept new ≡ take kept (drop at file) = sym (take-take kept n new le) ∙ ap (take kept) reads.front ∙ take-take kept n (drop at file) le in
    rw (take-add at kept file, first, same)

-- files that stay in each of two steps
pub stay_trans : (a b c : InputsTold) → InputsUntouched a b → InputsUntouched b c → InputsUntouched a c
stay_trans a b c first then = record {
  known = then.known ∙ first.known;
  file = then.file ∙ first.file;
  faults = omega arith;
}

-- what came of a source, and the first n that a read took behind it
pub takes_more : (all had before after new : List ℕ) (n : ℕ) → had ++ before ≡ all → take n new ++ after ≡ before → (had ++ take n new) ++ after ≡ all
takes_more all had before after new n first then = append_assoc had (take n new) after ∙ ap (λ rest. had ++ rest) then ∙ first

-- a copy of the front of what is left of a source
pub takes_front : (bytes old new : List ℕ) (given n : ℕ) → n ≡ min (length old) (length bytes - given) → take n new ≡ take n (drop given bytes) → drop n new ≡ drop n old → TakesBytes (drop given bytes) (drop (given + n) bytes) old new n
takes_front bytes old new given n count front rest = record {
  front = ap (λ (l : List ℕ). l ++ drop (given + n) bytes) front ∙ ap (λ (l : List ℕ). take n (drop given bytes) ++ l) (sym (drop-drop n given bytes)) ∙ take-append-drop n (drop given bytes);
  end = λ none some. drop_all given bytes (omega arith);
  rest = rest;
}
