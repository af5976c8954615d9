-- The pieces of a line that are printed one after the other.
use Rattle.std.proofs.Common.{◌≡◌, ℕ, List, [], ◌∷◌, ◌++◌, take, drop, sym, ap, ◌∙◌, append_assoc, append-nil}
use Rattle.std.specs.Fmt.{decimal}
use Rattle.st_base.specs.Faults.{named, printed_block_fault}
use Rattle.st_base.specs.declared.faults.BlockFault.{BlockFault}
use Rattle.std.specs.List.{join_with_byte}
use Rattle.std.proofs.lemmas.List.{take-append-drop}
use Rattle.std.proofs.lemmas.List.Concat.{flat_map-append}
use Rattle.st_model.specs.declared.refusal.Refusal.{Refusal}
use Rattle.st_model.specs.declared.reply.Reply.{Reply}
use Rattle.st_model.specs.Line.{line_of, refusal_words, reply_words}
use Rattle.cmd_text.specs.Replies.{spaced, refusal_text, reply_text}

-- one word after a space
pub one_spaced : (out word : List ℕ) → (out ++ 32 ∷ []) ++ word ≡ out ++ spaced (word ∷ [])
one_spaced out word = append_assoc out (32 ∷ []) word ∙ ap (λ v. out ++ 32 ∷ v) (sym (append-nil word))

-- words after words
pub spaced_then : (out : List ℕ) (xs ys : List (List ℕ)) → (out ++ spaced xs) ++ spaced ys ≡ out ++ spaced (xs ++ ys)
spaced_then out xs ys =
    append_assoc out (spaced xs) (spaced ys) ∙ ap (λ v. out ++ v) (sym (flat_map-append (λ (word : List ℕ). 32 ∷ word) xs ys))

-- a number after a name, or after a name and other numbers
pub named_more : (out name : List ℕ) (number : ℕ) → (out ++ name) ++ spaced (decimal number ∷ []) ≡ out ++ named name number
named_more out name number =
    append_assoc out name (spaced (decimal number ∷ [])) ∙ ap (λ v. out ++ (name ++ 32 ∷ v)) (append-nil (decimal number))

-- the fault of a block after its offset
pub block_after : (out front : List ℕ) (fault : BlockFault) → ((out ++ front) ++ 32 ∷ []) ++ printed_block_fault fault ≡ out ++ (front ++ 32 ∷ printed_block_fault fault)
block_after out front fault =
    append_assoc (out ++ front) (32 ∷ []) (printed_block_fault fault) ∙ append_assoc out front (32 ∷ printed_block_fault fault)

-- the first words, and the others
parts : (n : ℕ) (out : List ℕ) (words : List (List ℕ)) → (out ++ spaced (take n words)) ++ spaced (drop n words) ≡ out ++ spaced words
parts n out words = spaced_then out (take n words) (drop n words) ∙ ap (λ w. out ++ spaced w) (take-append-drop n words)

pub refusal_parts : (out : List ℕ) (refusal : Refusal) → (out ++ spaced (take 2 (refusal_words refusal))) ++ spaced (drop 2 (refusal_words refusal)) ≡ out ++ refusal_text refusal
refusal_parts out refusal = parts 2 out (refusal_words refusal)

pub reply_parts : (out : List ℕ) (reply : Reply) → (out ++ spaced (take 1 (reply_words reply))) ++ spaced (drop 1 (reply_words reply)) ≡ out ++ reply_text reply
reply_parts out reply = parts 1 out (reply_words reply)

-- words that are parted by one space are the first one, and then each after a space
pub join-spaced : (first : List ℕ) (words : List (List ℕ)) → join_with_byte 32 (first ∷ words) ≡ first ++ spaced words
join-spaced first [] = sym (append-nil first)
join-spaced first (next ∷ words) = ap (λ v. first ++ 32 ∷ v) (join-spaced next words)

pub line : (out : List ℕ) (place : ℕ) (reply : Reply) → ((out ++ decimal place) ++ reply_text reply) ++ 10 ∷ [] ≡ out ++ line_of place reply
line out place reply =
    ap (λ v. v ++ 10 ∷ []) (append_assoc out (decimal place) (reply_text reply))
    ∙ append_assoc out (decimal place ++ reply_text reply) (10 ∷ [])
    ∙ ap (λ v. out ++ (v ++ 10 ∷ [])) (sym (join-spaced (decimal place) (reply_words reply)))
