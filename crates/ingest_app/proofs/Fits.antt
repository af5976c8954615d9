-- The commands of a script are within the limits of a write.
use Rattle.std.proofs.Common.{◌≡◌, ℕ, ◌+◌, ◌≤◌, Bool, true, false, cond, nat_le, nat_lt, List, [], ◌∷◌, length, Option, Some, None, Ok, Err, refl, subst, arith, codes, lit≤}
use Rattle.std.specs.Prelude.{Result}
use Rattle.std.specs.Option.{option_and_then}
use Rattle.std.specs.List.{AllByRecursion as Each}
use Rattle.st_base.specs.Bytes.{same}
use Rattle.st_model.specs.declared.change.Op.{Op}
use Rattle.st_model.specs.declared.change.Op.TheVariants.{Put, Del}
use Rattle.st_model.specs.declared.command.Command.{Command}
use Rattle.st_model.specs.declared.command.Command.TheVariants.{Get}
use Rattle.cmd_text.specs.declared.script.Numbered.{Numbered}
use Rattle.build_text.specs.Words.{bytes_of_word, three_words, two_words, words}
use Rattle.cmd_text.specs.Commands.{within, family_and_key, family_of_word, key_of_word, value_of_word, put_of, del_of, get_of, single, command_named, command_of_words, command_of}
use Rattle.cmd_text.specs.Script.{command_behind, commands_of, command_lines, in_front, script_of}
use Rattle.log_engine.specs.Op.{IsWrite}
use Rattle.ingest_app.specs.Op.{IsServed}

-- what stands behind a step that was found
step : {A B : Type 0} (found : Option A) (next : A → Option B) (b : B) → option_and_then next found ≡ Some b → (a : A) × (found ≡ Some a) × (next a ≡ Some b)
step None next b is = absurd (cc is)
step (Some a) next b is = (a, refl, is)

within_limit : (limit : ℕ) (bytes out : List ℕ) → within limit bytes ≡ Some out → length out ≤ limit
within_limit limit bytes out is = go (nat_le (length bytes) limit) refl is
  where
    go : (b : Bool) → nat_le (length bytes) limit ≡ b → cond b (Some bytes) None ≡ Some out → length out ≤ limit
    go true le e = let same_bytes : bytes ≡ out = cc e in subst (λ l. length l ≤ limit) same_bytes (grind (arith, le))
    go false le e = absurd (cc e)

key_limit : (word key : List ℕ) → key_of_word word ≡ Some key → length key ≤ 65535
key_limit word key is = let found = step (bytes_of_word word) (within 65535) key is in within_limit 65535 found.0 key found.2

value_limit : (word value : List ℕ) → value_of_word word ≡ Some value → length value ≤ 1048576
value_limit word value is = let found = step (bytes_of_word word) (within 1048576) value is in within_limit 1048576 found.0 value found.2

put_write : (family key value : List ℕ) → length key ≤ 65535 → length value ≤ 1048576 → IsWrite (Put family key value ∷ [])
put_write family key value k v = record { some = lit≤ tt; count = lit≤ tt; size = omega (arith, k, v) }

del_write : (family key : List ℕ) → length key ≤ 65535 → IsWrite (Del family key ∷ [])
del_write family key k = record { some = lit≤ tt; count = lit≤ tt; size = omega (arith, k) }

put_fits : (arguments : List (List ℕ)) (op : Op) → put_of arguments ≡ Some op → IsWrite (op ∷ [])
unfolding put_of
put_fits arguments op is =
    let three = step (three_words arguments) _ op is in
    let family = step (family_of_word three.0.0) _ op three.2 in
    let key = step (key_of_word three.0.1) _ op family.2 in
    let value = step (value_of_word three.0.2) _ op key.2 in
    let same_op : Put family.0 key.0 value.0 ≡ op = cc value.2 in
    subst (λ o. IsWrite (o ∷ [])) same_op (put_write family.0 key.0 value.0 (key_limit three.0.1 key.0 key.1) (value_limit three.0.2 value.0 value.1))

del_fits : (arguments : List (List ℕ)) (op : Op) → del_of arguments ≡ Some op → IsWrite (op ∷ [])
unfolding del_of
del_fits arguments op is =
    let named = step (family_and_key arguments) _ op is in
    let two = step (two_words arguments) _ named.0 named.1 in
    let family = step (family_of_word two.0.0) _ named.0 two.2 in
    let key = step (key_of_word two.0.1) _ named.0 family.2 in
    let same_key : key.0 ≡ named.0.1 = cc key.2 in
    let same_op : Del named.0.0 named.0.1 ≡ op = cc named.2 in
    subst (λ o. IsWrite (o ∷ [])) same_op (del_write named.0.0 named.0.1 (subst (λ k. length k ≤ 65535) same_key (key_limit two.0.1 key.0 key.1)))

get_fits : (arguments : List (List ℕ)) (command : Command) → get_of arguments ≡ Some command → IsServed command
unfolding get_of
get_fits arguments command is =
    let named = step (family_and_key arguments) _ command is in
    let same_command : Get named.0.0 named.0.1 ≡ command = cc named.2 in
    subst IsServed same_command tt

single_fits : (found : Option Op) (command : Command) → ((op : Op) → found ≡ Some op → IsWrite (op ∷ [])) → option_and_then (λ op. Some (single op)) found ≡ Some command → IsServed command
single_fits found command fits is =
    let op = step found (λ o. Some (single o)) command is in
    let same_command : single op.0 ≡ command = cc op.2 in
    subst IsServed same_command (fits op.0 op.1)

named_fits : (name : List ℕ) (arguments : List (List ℕ)) (command : Command) → command_named name arguments ≡ Some command → IsServed command
unfolding command_named
named_fits name arguments command is = go (same name (codes "put")) (same name (codes "del")) (same name (codes "get")) is
  where
    go : (p d g : Bool) → cond p (option_and_then (λ op. Some (single op)) (put_of arguments)) (cond d (option_and_then (λ op. Some (single op)) (del_of arguments)) (cond g (get_of arguments) None)) ≡ Some command → IsServed command
    go true d g e = single_fits (put_of arguments) command (put_fits arguments) e
    go false true g e = single_fits (del_of arguments) command (del_fits arguments) e
    go false false true e = get_fits arguments command e
    go false false false e = absurd (cc e)

words_fit : (parts : List (List ℕ)) (command : Command) → command_of_words parts ≡ Some command → IsServed command
words_fit [] command is = absurd (cc is)
words_fit (name ∷ arguments) command is = named_fits name arguments command is

behind_fits : (before : ℕ) (line : List ℕ) (command : Command) → command_behind before line ≡ Some command → IsServed command
behind_fits before line command is = go (nat_lt before 20000) is
  where
    go : (b : Bool) → cond b (command_of line) None ≡ Some command → IsServed command
    go true e = words_fit (words line) command e
    go false e = absurd (cc e)

front_fits : (number : ℕ) (found : Option Command) (others : Result (List Numbered) ℕ) (commands : List Numbered) → ((command : Command) → found ≡ Some command → IsServed command) → ((rest : List Numbered) → others ≡ Ok rest → Each (λ (numbered : Numbered). IsServed numbered.command) rest)
    → in_front number found others ≡ Ok commands → Each (λ (numbered : Numbered). IsServed numbered.command) commands
front_fits number None others commands first rest is = absurd (cc is)
front_fits number (Some command) (Err fault) commands first rest is = absurd (cc is)
front_fits number (Some command) (Ok more) commands first rest is =
    let numbered : Numbered = record { line = number; command = command } in
    let all : numbered ∷ more ≡ commands = cc is in
    subst (λ l. Each (λ (n : Numbered). IsServed n.command) l) all (first command refl, rest more refl)

lines_fit : (before : ℕ) (lines : List (ℕ × List ℕ)) (commands : List Numbered) → commands_of before lines ≡ Ok commands → Each (λ (numbered : Numbered). IsServed numbered.command) commands
lines_fit before [] commands is = let none : [] ≡ commands = cc is in subst (λ l. Each (λ (n : Numbered). IsServed n.command) l) none tt
lines_fit before (line ∷ lines) commands is =
    front_fits line.0 (command_behind before line.1) (commands_of (before + 1) lines) commands (λ command e. behind_fits before line.1 command e) (λ rest e. lines_fit (before + 1) lines rest e) is

pub script_fits : (text : List ℕ) (commands : List Numbered) → script_of text ≡ Ok commands → Each (λ (numbered : Numbered). IsServed numbered.command) commands
unfolding script_of
script_fits text commands is = lines_fit 0 (command_lines text) commands is
