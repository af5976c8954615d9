-- The first line of a text.
use Rattle.std.proofs.Common.{◌≡◌, ℕ, ◌==◌, ◌<◌, ◌-◌, List, [], ◌∷◌, length, take, drop, refl, sym, ap, ◌∙◌, arith}
use Rattle.std.proofs.lemmas.List.Splits.{length-slice_split}
use Rattle.std.proofs.lemmas.List.{drop_all}
use Rattle.build_text.specs.Words.{text_parts}
use Rattle.build_text.proofs.Cutting.{behind}
use Rattle.cmd_text.specs.Lines.{lines, without_empty_last}

-- a part that isn't the last one stands
without_empty_last-cons : (part : List ℕ) (parts : List (List ℕ)) → 0 < length parts → without_empty_last (part ∷ parts) ≡ part ∷ without_empty_last parts
without_empty_last-cons part [] more = absurd (omega arith)
without_empty_last-cons [] (next ∷ parts) more = refl
without_empty_last-cons (byte ∷ bytes) (next ∷ parts) more = refl

-- a line behind which a line feed stands
pub lines_first : (text line after : List ℕ) → text_parts text ≡ line ∷ text_parts after → lines text ≡ line ∷ lines after
lines_first text line after parts =
    ap without_empty_last parts
    ∙ without_empty_last-cons line (text_parts after) (omega (arith, length-slice_split (λ byte. byte == 10) after))

without_empty_last-one : (part : List ℕ) → 0 < length part → without_empty_last (part ∷ []) ≡ part ∷ []
without_empty_last-one [] some = absurd (omega arith)
without_empty_last-one (byte ∷ bytes) some = refl

-- a line without one, and nothing behind it
pub lines_last : (text : List ℕ) → 0 < length text → text_parts text ≡ text ∷ [] → lines text ≡ text ∷ lines (take (length text - length text) (drop (length text) text))
lines_last text some parts =
    ap without_empty_last parts ∙ without_empty_last-one text some
    ∙ ap (λ rest. text ∷ lines rest) (sym (behind text (length text) ∙ drop_all (length text) text (omega arith)))
