-- The files of a request, over plain variables.
use Rattle.std.proofs.Common.{◌≡◌, ℕ, ◌+◌, ◌-◌, ◌<◌, List, [], ◌∷◌, ◌++◌, length, take, drop, get_or, refl, ap, ap₂, sym, ◌∙◌, arith, zero, suc, append_assoc, drop-cons}
use Rattle.st_base.specs.Range.{key_at_end}
use Rattle.st_base.specs.declared.entry.Entry.{Entry}
use Rattle.st_model.specs.declared.change.Taken.{Taken}
use Rattle.st_model.specs.declared.command.FileSeen.{FileSeen}
use Rattle.st_model.specs.declared.reply.Placed.{Placed}
use Rattle.st_model.specs.declared.request.IngestExternalFileArg.{IngestExternalFileArg}
use Rattle.st_model.specs.History.{taken, taken_files}
use Rattle.st_model.specs.Request.{File, arguments_from, files_from}
use Rattle.plain_model.specs.Seen.{seen_file, seen_files}

end_key_at : (entries : List Entry) (n : ℕ) (d : Entry) → n + 1 ≡ length entries → (get_or entries n d).key ≡ key_at_end entries
end_key_at [] n d e = absurd (omega (arith, e))
end_key_at (x ∷ []) zero d e = refl
end_key_at (x ∷ []) (suc n) d e = absurd (omega (arith, e))
end_key_at (x ∷ y ∷ ys) zero d e = absurd (omega (arith, e))
end_key_at (x ∷ y ∷ ys) (suc n) d e = end_key_at (y ∷ ys) n d (omega (arith, e))

-- the key at the end
pub end_key : (entries : List Entry) (d : Entry) → 0 < length entries → (get_or entries (length entries - 1) d).key ≡ key_at_end entries
end_key entries d l = end_key_at entries (length entries - 1) d (omega (arith, l))

pub seen_none : (argument : IngestExternalFileArg) (seen : List FileSeen) → seen_files argument seen [] ≡ []
seen_none argument [] = refl
seen_none argument (one ∷ seen) = refl

-- the files of an argument, as they are seen
pub taken_seen : (argument : IngestExternalFileArg) (number named : ℕ) (all : List File) (a i : ℕ) (seen : List FileSeen) (placed : List Placed)
    → taken_files (record { number = number; family = argument.family; options = argument.options; named = named; files = all }) (files_from a i seen) placed
    ≡ seen_files argument seen placed
taken_seen argument number named all a i [] placed = refl
taken_seen argument number named all a i (one ∷ seen) [] = refl
taken_seen argument number named all a i (one ∷ seen) (at ∷ placed) =
    ap (λ files. seen_file argument one at ∷ files) (taken_seen argument number named all a (i + 1) seen placed)

pub length-files_from : (a i : ℕ) (seen : List FileSeen) → length (files_from a i seen) ≡ length seen
length-files_from a i [] = refl
length-files_from a i (one ∷ seen) = omega (arith, length-files_from a (i + 1) seen)

-- one argument, and those behind it
pub taken-cons : (a : ℕ) (argument : IngestExternalFileArg) (arguments : List IngestExternalFileArg) (seen : List FileSeen) (placed : List Placed)
    → taken (arguments_from a (argument ∷ arguments) seen) placed
    ≡ seen_files argument (take (length argument.files) seen) placed
    ++ taken (arguments_from (a + 1) arguments (drop (length argument.files) seen)) (drop (length (take (length argument.files) seen)) placed)
taken-cons a argument arguments seen placed =
    ap₂ (λ (here later : List Taken). here ++ later)
    (taken_seen argument a (length argument.files) (files_from a 1 (take (length argument.files) seen)) a 1 (take (length argument.files) seen) placed)
    (ap (λ n. taken (arguments_from (a + 1) arguments (drop (length argument.files) seen)) (drop n placed)) (length-files_from a 1 (take (length argument.files) seen)))

-- one more argument is taken
pub taken_more : (files : List Taken) (arguments : List IngestExternalFileArg) (i : ℕ) (argument : IngestExternalFileArg) (seen : List FileSeen) (placed : List Placed) (whole : List Taken)
    → i < length arguments → argument ≡ get_or arguments i argument → whole ≡ files ++ taken (arguments_from (1 + i) (drop i arguments) seen) placed
    → (here left : List FileSeen) (placed_left : List Placed) (more : List Taken) → here ≡ take (length argument.files) seen → left ≡ drop (length argument.files) seen → placed_left ≡ drop (length here) placed
    → more ≡ files ++ seen_files argument here placed → whole ≡ more ++ taken (arguments_from (1 + (i + 1)) (drop (i + 1) arguments) left) placed_left
taken_more files arguments i argument seen placed whole within is so_far here left placed_left more h l p m =
    let next : suc i ≡ i + 1 = omega arith in
    let number : 1 + i + 1 ≡ 1 + (i + 1) = omega arith in
    let front : drop i arguments ≡ argument ∷ drop (i + 1) arguments =
    drop-cons arguments i argument within ∙ ap₂ (λ one n. one ∷ drop n arguments) (sym is) next in
    let split = taken-cons (1 + i) argument (drop (i + 1) arguments) seen placed in
    let rest = taken (arguments_from (1 + i + 1) (drop (i + 1) arguments) (drop (length argument.files) seen)) (drop (length (take (length argument.files) seen)) placed) in
    so_far
    ∙ ap (λ arguments. files ++ taken (arguments_from (1 + i) arguments seen) placed) front
    ∙ ap (λ tail. files ++ tail) split
    ∙ sym (append_assoc files (seen_files argument (take (length argument.files) seen) placed) rest)
    ∙ ap (λ one. (files ++ seen_files argument one placed) ++ rest) (sym h)
    ∙ ap (λ one. one ++ rest) (sym m)
    ∙ ap (λ n. more ++ taken (arguments_from n (drop (i + 1) arguments) (drop (length argument.files) seen)) (drop (length (take (length argument.files) seen)) placed)) number
    ∙ ap (λ one. more ++ taken (arguments_from (1 + (i + 1)) (drop (i + 1) arguments) one) (drop (length (take (length argument.files) seen)) placed)) (sym l)
    ∙ ap (λ one. more ++ taken (arguments_from (1 + (i + 1)) (drop (i + 1) arguments) left) (drop (length one) placed)) (sym h)
    ∙ ap (λ one. more ++ taken (arguments_from (1 + (i + 1)) (drop (i + 1) arguments) left) one) (sym p)
