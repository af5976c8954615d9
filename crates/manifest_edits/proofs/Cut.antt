-- A group's edits are cut into records that count down.
use Rattle.std.proofs.Common.{◌≡◌, ℕ, ◌+◌, ◌≤◌, ◌<◌, Bool, true, false, cond, List, [], ◌∷◌, ◌++◌, flat_map, Option, Some, None, Result, Ok, Err, refl, sym, ap, ◌∙◌, arith}
use Rattle.std.specs.Prelude.{nat_le, IsTrue}
use Rattle.std.specs.List.{AllByRecursion as Each}
use Rattle.std.proofs.lemmas.Bool.{false≢true}
use Rattle.std.proofs.lemmas.Bool.{leb-true, leb-false, le-leb}
use Rattle.manifest_edits.specs.Edits.{Edit, Named, is_right, edited, edited_all, edited_by, edits_of, ends_with_last, GroupRecord}
use Rattle.manifest_edits.specs.Groups.{CountsDown, IsGroup}
use Rattle.manifest_edits.specs.Groups.{edit_size, record_room, edits_size, cut_edits_behind, cut_edits, records_counting_down, group_of_edits, AreFull, AreCutToFit}
use Rattle.manifest_edits.proofs.Reading.{assoc_one}

-- ---- edits, then edits

abbrev pub then_edits : Option Named → List Edit → Option Named
then_edits None more = None
then_edits (Some after) more = edited_all after more

pub edited_append : (named : Named) (edits more : List Edit) → edited_all named (edits ++ more) ≡ then_edits (edited_all named edits) more
edited_append named [] more = refl
edited_append named (edit ∷ edits) more = go (is_right named edit) (edited_append (edited named edit) edits more)
  where
    go : (b : Bool) → edited_all (edited named edit) (edits ++ more) ≡ then_edits (edited_all (edited named edit) edits) more
        → cond b (edited_all (edited named edit) (edits ++ more)) None ≡ then_edits (cond b (edited_all (edited named edit) edits) None) more
    go true rest = rest
    go false rest = refl

abbrev ok_of : Named → Option Named → Result Named ℕ
ok_of other None = Ok other
ok_of other (Some named) = Ok named

-- record by record as all at once
pub edited_records : (named after : Named) (records : List GroupRecord) → edited_all named (edits_of records) ≡ Some after → edited_by named records ≡ Ok after
edited_records named after [] e = ap (ok_of named) e
edited_records named after (one ∷ more) e = go (edited_all named one.edits) (λ next. edited_records next after more) (sym (edited_append named one.edits (edits_of more)) ∙ e)
  where
    go : (found : Option Named) → ((next : Named) → edited_all next (edits_of more) ≡ Some after → edited_by next more ≡ Ok after) → then_edits found (edits_of more) ≡ Some after → ◌≡◌ {A = Result Named ℕ} (elim found [ None ↦ Err one.at | Some next ↦ edited_by next more ]) (Ok after)
    go None rest e = absurd (cc e)
    go (Some next) rest e = rest next e

-- records that count down over right edits are a group
pub records_group : (before after : Named) (records : List GroupRecord) → CountsDown records → edited_all before (edits_of records) ≡ Some after → IsTrue (ends_with_last (edits_of records)) → IsGroup before after records
records_group before after records counts edits last = record { counts = counts; edits = edited_records before after records edits; last = last }

-- ---- the cut

-- ---- the cut loses nothing

abbrev joined : List (List Edit) → List Edit
joined chunks = flat_map (λ one. one) chunks

behind_joined : (room used : ℕ) (now edits : List Edit) → joined (cut_edits_behind room used now edits) ≡ now ++ edits
behind_joined room used now [] = refl
behind_joined room used now (edit ∷ edits) = go (nat_le (used + edit_size edit) room) (behind_joined room (used + edit_size edit) (now ++ edit ∷ []) edits) (behind_joined room (edit_size edit) (edit ∷ []) edits)
  where
    go : (b : Bool) → joined (cut_edits_behind room (used + edit_size edit) (now ++ edit ∷ []) edits) ≡ (now ++ edit ∷ []) ++ edits → joined (cut_edits_behind room (edit_size edit) (edit ∷ []) edits) ≡ edit ∷ edits → joined (cond b (cut_edits_behind room (used + edit_size edit) (now ++ edit ∷ []) edits) (now ∷ cut_edits_behind room (edit_size edit) (edit ∷ []) edits)) ≡ now ++ edit ∷ edits
    go true here next = here ∙ assoc_one now edit edits
    go false here next = ap (λ l. now ++ l) next

pub cut_joined : (room : ℕ) (edits : List Edit) → joined (cut_edits room edits) ≡ edits
cut_joined room [] = refl
cut_joined room (edit ∷ edits) = behind_joined room (edit_size edit) (edit ∷ []) edits

pub laid_edits : (at : ℕ → ℕ) (chunks : List (List Edit)) → edits_of (records_counting_down at chunks) ≡ joined chunks
laid_edits at [] = refl
laid_edits at (one ∷ more) = ap (λ l. one ++ l) (laid_edits at more)

-- ---- it counts down

pub laid_down : (at : ℕ → ℕ) (one : List Edit) (more : List (List Edit)) → CountsDown (records_counting_down at (one ∷ more))
laid_down at one [] = refl
laid_down at one (two ∷ more) = (omega arith, laid_down at two more)

behind_down : (at : ℕ → ℕ) (room used : ℕ) (now edits : List Edit) → CountsDown (records_counting_down at (cut_edits_behind room used now edits))
behind_down at room used now [] = refl
behind_down at room used now (edit ∷ edits) = go (nat_le (used + edit_size edit) room) (behind_down at room (used + edit_size edit) (now ++ edit ∷ []) edits) (behind_down at room (edit_size edit) (edit ∷ []) edits)
  where
    front : (chunks : List (List Edit)) → CountsDown (records_counting_down at chunks) → CountsDown (records_counting_down at (now ∷ chunks))
    front [] down = absurd down
    front (one ∷ more) down = laid_down at now (one ∷ more)

    go : (b : Bool) → CountsDown (records_counting_down at (cut_edits_behind room (used + edit_size edit) (now ++ edit ∷ []) edits)) → CountsDown (records_counting_down at (cut_edits_behind room (edit_size edit) (edit ∷ []) edits)) → CountsDown (records_counting_down at (cond b (cut_edits_behind room (used + edit_size edit) (now ++ edit ∷ []) edits) (now ∷ cut_edits_behind room (edit_size edit) (edit ∷ []) edits)))
    go true here next = here
    go false here next = front (cut_edits_behind room (edit_size edit) (edit ∷ []) edits) next

-- Edits that are right and end with Last are a group, as they are cut.
pub cut_group : (before after : Named) (at : ℕ → ℕ) (edits : List Edit) → edited_all before edits ≡ Some after → IsTrue (ends_with_last edits) → IsGroup before after (group_of_edits at edits)
cut_group before after at [] right last = absurd (false≢true last)
cut_group before after at (edit ∷ edits) right last =
    records_group before after (group_of_edits at (edit ∷ edits)) (behind_down at record_room (edit_size edit) (edit ∷ []) edits)
    (ap (edited_all before) same ∙ right) (ap ends_with_last same ∙ last)
  where
    same : edits_of (group_of_edits at (edit ∷ edits)) ≡ edit ∷ edits
    same = laid_edits at (cut_edits record_room (edit ∷ edits)) ∙ cut_joined record_room (edit ∷ edits)

-- ---- records fit, and each is as full as whole edits allow

total_append : (xs ys : List Edit) → edits_size (xs ++ ys) ≡ edits_size xs + edits_size ys
total_append [] ys = omega arith
total_append (x ∷ xs) ys = let rest = total_append xs ys in omega arith

-- the first chunk begins with what is in hand
pub record BeginsWith (now : List Edit) (chunks : List (List Edit)) : Type 0 where
  pub first : List Edit
  pub rest : List (List Edit)
  pub is : chunks ≡ (now ++ first) ∷ rest

behind_begins : (room used : ℕ) (now edits : List Edit) → BeginsWith now (cut_edits_behind room used now edits)
behind_begins room used now [] = record { first = []; rest = []; is = ap (λ l. l ∷ []) (sym (nil now)) }
  where
    nil : (xs : List Edit) → xs ++ [] ≡ xs
    nil [] = refl
    nil (x ∷ xs) = ap (λ l. x ∷ l) (nil xs)
behind_begins room used now (edit ∷ edits) = go (nat_le (used + edit_size edit) room) (behind_begins room (used + edit_size edit) (now ++ edit ∷ []) edits)
  where
    nil : (xs : List Edit) → xs ++ [] ≡ xs
    nil [] = refl
    nil (x ∷ xs) = ap (λ l. x ∷ l) (nil xs)

    go : (b : Bool) → BeginsWith (now ++ edit ∷ []) (cut_edits_behind room (used + edit_size edit) (now ++ edit ∷ []) edits) → BeginsWith now (cond b (cut_edits_behind room (used + edit_size edit) (now ++ edit ∷ []) edits) (now ∷ cut_edits_behind room (edit_size edit) (edit ∷ []) edits))
    go true more =
        record { first = edit ∷ more.first; rest = more.rest; is = more.is ∙ ap (λ l. l ∷ more.rest) (assoc_one now edit more.first) }
    go false more = record { first = []; rest = cut_edits_behind room (edit_size edit) (edit ∷ []) edits; is = ap (λ l. l ∷ cut_edits_behind room (edit_size edit) (edit ∷ []) edits) (sym (nil now)) }

abbrev heads : List (List Edit) → Edit → Edit
heads [] d = d
heads ([] ∷ more) d = d
heads ((x ∷ xs) ∷ more) d = x

full_before : (room : ℕ) (one : List Edit) (edit : Edit) (chunks : List (List Edit)) → room < edits_size one + edit_size edit → BeginsWith (edit ∷ []) chunks → AreFull room chunks → AreFull room (one ∷ chunks)
full_before room one edit [] over begins full = tt
full_before room one edit ([] ∷ more) over begins full = absurd (cc begins.is)
full_before room one edit ((other ∷ edits) ∷ more) over begins full = (over_first (edit_size other) (edit_size edit) (ap (λ l. edit_size (heads l edit)) begins.is) over, full)
  where
    over_first : (n m : ℕ) → n ≡ m → room < edits_size one + m → room < edits_size one + n
    over_first n m e over = omega arith

le_of : (n m : ℕ) → nat_le n m ≡ true → n ≤ m
le_of n m e = omega (arith, leb-true n m e)

over_of : (n m : ℕ) → nat_le n m ≡ false → m < n
over_of n m e = omega (arith, leb-false n m e)

behind_fits : (room used : ℕ) (now edits : List Edit) → used ≡ edits_size now → used ≤ room → Each (λ edit. edit_size edit ≤ room) edits → AreCutToFit room (cut_edits_behind room used now edits)
behind_fits room used now [] is fit small = record { fit = ((omega arith), tt); full = tt }
behind_fits room used now (edit ∷ edits) is fit small =
    go (nat_le (used + edit_size edit) room) refl
    (λ le. behind_fits room (used + edit_size edit) (now ++ edit ∷ []) edits (is_more (total_append now (edit ∷ []))) le small.1)
    (behind_fits room (edit_size edit) (edit ∷ []) edits (omega arith) small.0 small.1)
  where
    is_more : edits_size (now ++ edit ∷ []) ≡ edits_size now + edits_size (edit ∷ []) → used + edit_size edit ≡ edits_size (now ++ edit ∷ [])
    is_more e = omega arith

    go : (b : Bool) → nat_le (used + edit_size edit) room ≡ b → (used + edit_size edit ≤ room → AreCutToFit room (cut_edits_behind room (used + edit_size edit) (now ++ edit ∷ []) edits)) → AreCutToFit room (cut_edits_behind room (edit_size edit) (edit ∷ []) edits)
        → AreCutToFit room (cond b (cut_edits_behind room (used + edit_size edit) (now ++ edit ∷ []) edits) (now ∷ cut_edits_behind room (edit_size edit) (edit ∷ []) edits))
    go true e here next = here (le_of (used + edit_size edit) room e)
    go false e here next = record {
      fit = ((omega arith), next.fit);
      full = full_before room now edit (cut_edits_behind room (edit_size edit) (edit ∷ []) edits) (let over = over_of (used + edit_size edit) room e in omega arith) (behind_begins room (edit_size edit) (edit ∷ []) edits) next.full;
    }

-- where no edit is greater than a record, none of the records is, and each but the last has no room for the next edit
pub cut_fits : (room : ℕ) (edits : List Edit) → Each (λ edit. edit_size edit ≤ room) edits → AreCutToFit room (cut_edits room edits)
cut_fits room [] small = record { fit = tt; full = tt }
cut_fits room (edit ∷ edits) small = behind_fits room (edit_size edit) (edit ∷ []) edits (omega arith) small.0 small.1

-- ---- one record

behind_one : (room used : ℕ) (now edits : List Edit) → used + edits_size edits ≤ room → cut_edits_behind room used now edits ≡ (now ++ edits) ∷ []
behind_one room used now [] le = ap (λ l. l ∷ []) (sym (nil now))
  where
    nil : (xs : List Edit) → xs ++ [] ≡ xs
    nil [] = refl
    nil (x ∷ xs) = ap (λ l. x ∷ l) (nil xs)
behind_one room used now (edit ∷ edits) le =
    ap (λ b. cond b (cut_edits_behind room (used + edit_size edit) (now ++ edit ∷ []) edits) (now ∷ cut_edits_behind room (edit_size edit) (edit ∷ []) edits)) (le-leb (used + edit_size edit) room (omega arith))
    ∙ behind_one room (used + edit_size edit) (now ++ edit ∷ []) edits (omega arith) ∙ ap (λ l. l ∷ []) (assoc_one now edit edits)

-- edits that fit one record are one
pub cut_one : (room : ℕ) (edit : Edit) (edits : List Edit) → edits_size (edit ∷ edits) ≤ room → cut_edits room (edit ∷ edits) ≡ (edit ∷ edits) ∷ []
cut_one room edit edits le = behind_one room (edit_size edit) (edit ∷ []) edits (omega arith)
