-- Operations over logs, where some logs go.
use Rattle.std.proofs.Common.{◌≡◌, ℕ, ◌≤◌, Bool, true, false, cond, not, List, [], ◌∷◌, ◌++◌, filter, Option, Some, None, refl, sym, ap, subst, ◌∙◌, arith}
use Rattle.std.specs.Prelude.{nat_lt}
use Rattle.std.specs.Option.{option_map, option_or}
use Rattle.std.specs.List.{AllByRecursion as Each}
use Rattle.std.proofs.lemmas.Bool.{lt-ltb, ltb-true}
use Rattle.base_laws.proofs.Lists.{each_back, each_front, each_join}
use Rattle.core_laws.proofs.Lists.{filter_join}
use Rattle.manifest_edits.specs.Edits.{NamedFamily}
use Rattle.store_image.specs.Parts.{ImageParts, log_ops_of, counts_for}
use Rattle.store_image.specs.Opens.{ImageDamage, damage_at, last_op, unrisen, image_log_damage, read_damage}
use Rattle.store_image.specs.Steps.{without_logs}
use Rattle.manifest_edits.specs.Logs.{LogReading, LogAbsent, LogFound, LogOp, records_in}

-- ---- one log

-- no fault is there
no_fault : (file : ℕ) (a b : Option ℕ) (rest : Option ImageDamage) → option_or (option_map (damage_at file) (option_or a b)) rest ≡ None → (a ≡ None) × (b ≡ None) × (rest ≡ None)
no_fault file None None rest e = (refl, refl, e)
no_fault file None (Some at) rest e = absurd (cc e)
no_fault file (Some at) b rest e = absurd (cc e)

-- numbers that rise from a number rise from a lesser one
rises_lower : (low last : ℕ) (ops : List LogOp) → low ≤ last → unrisen last ops ≡ None → unrisen low ops ≡ None
rises_lower low last [] le e = refl
rises_lower low last (op ∷ ops) le e = go (nat_lt last op.number) refl e
  where
    go : (b : Bool) → nat_lt last op.number ≡ b → cond b (unrisen op.number ops) (Some op.at) ≡ None → unrisen low (op ∷ ops) ≡ None
    go true is e = ap (λ b. cond b (unrisen op.number ops) (Some op.at)) (lt-ltb low op.number (omega (arith, ltb-true last op.number is))) ∙ e
    go false is e = absurd (cc e)

last_lower : (low last : ℕ) (ops : List LogOp) → low ≤ last → last_op low ops ≤ last_op last ops
last_lower low last [] le = le
last_lower low last (op ∷ ops) le = omega arith

-- the last number isn't below the first
last_above : (last : ℕ) (ops : List LogOp) → unrisen last ops ≡ None → last ≤ last_op last ops
last_above last [] e = omega arith
last_above last (op ∷ ops) e = go (nat_lt last op.number) refl e (last_above op.number ops)
  where
    go : (b : Bool) → nat_lt last op.number ≡ b → cond b (unrisen op.number ops) (Some op.at) ≡ None → (unrisen op.number ops ≡ None → op.number ≤ last_op op.number ops) → last ≤ last_op op.number ops
    go true is e rest = let more = rest e in omega (arith, ltb-true last op.number is)
    go false is e rest = absurd (cc e)

pub last_append : (last : ℕ) (xs ys : List LogOp) → last_op last (xs ++ ys) ≡ last_op (last_op last xs) ys
last_append last [] ys = refl
last_append last (x ∷ xs) ys = last_append x.number xs ys

-- ---- some logs go

-- what a log without damage has
pub record IsWhole (last : ℕ) (read : LogReading LogOp) (rest : ℕ → Option ImageDamage) : Type 0 where
  pub rises : unrisen last (records_in read) ≡ None
  pub rest_none : rest (last_op last (records_in read)) ≡ None
  pub whole : read ≡ LogFound (records_in read) None

pub whole_of : (file last : ℕ) (read : LogReading LogOp) (rest : ℕ → Option ImageDamage)
    → read_damage file last read rest ≡ None
    → IsWhole last read rest
whole_of file last LogAbsent rest e = absurd (cc e)
whole_of file last (LogFound ops end) rest e =
    let parts = no_fault file (unrisen last ops) end (rest (last_op last ops)) e in
    record { rises = parts.0; rest_none = parts.2; whole = ap (LogFound ops) parts.1 }

-- and back
pub none_of : (file last : ℕ) (read : LogReading LogOp) (rest : ℕ → Option ImageDamage) → read ≡ LogFound (records_in read) None → unrisen last (records_in read) ≡ None → rest (last_op last (records_in read)) ≡ None
    → read_damage file last read rest ≡ None
none_of file last LogAbsent rest whole rises more = absurd (cc whole)
none_of file last (LogFound ops (Some at)) rest whole rises more = absurd (cc whole)
none_of file last (LogFound ops None) rest whole rises more = ap (λ a. option_or (option_map (damage_at file) (option_or a None)) (rest (last_op last ops))) rises ∙ more

pub record StaysWhole (parts : ImageParts) (low last : ℕ) (kept logs : List ℕ) : Type 0 where
  pub none : image_log_damage parts low kept ≡ None
  pub last_of : last_op low (log_ops_of parts kept) ≤ last_op last (log_ops_of parts logs)

-- logs that stay are whole, and their last number isn't greater
pub logs_stay : (parts : ImageParts) (gone : ℕ → Bool) (logs : List ℕ) (low last : ℕ) → low ≤ last → image_log_damage parts last logs ≡ None → StaysWhole parts low last (without_logs gone logs) logs
logs_stay parts gone [] low last le e = record { none = refl; last_of = le }
logs_stay parts gone (file ∷ logs) low last le e = step (gone file) (whole_of file last (parts.log file) (λ n. image_log_damage parts n logs) e) (λ low. logs_stay parts gone logs low (last_op last (records_in (parts.log file))))
  where
    step : (b : Bool) → IsWhole last (parts.log file) (λ n. image_log_damage parts n logs)
        → ((low : ℕ) → low ≤ last_op last (records_in (parts.log file)) → image_log_damage parts (last_op last (records_in (parts.log file))) logs ≡ None → StaysWhole parts low (last_op last (records_in (parts.log file))) (without_logs gone logs) logs)
        → StaysWhole parts low last (cond (not b) (file ∷ without_logs gone logs) (without_logs gone logs)) (file ∷ logs)
    step true is rest =
        let more = rest low (omega (arith, le, last_above last (records_in (parts.log file)) is.rises)) is.rest_none in
        record { none = more.none; last_of = subst (λ n. last_op low (log_ops_of parts (without_logs gone logs)) ≤ n) (sym (last_append last (records_in (parts.log file)) (log_ops_of parts logs))) more.last_of }
    step false is rest =
        let more = rest (last_op low (records_in (parts.log file))) (last_lower low last (records_in (parts.log file)) le) is.rest_none in
        record {
          none = none_of file low (parts.log file) (λ n. image_log_damage parts n (without_logs gone logs)) is.whole (rises_lower low last (records_in (parts.log file)) le is.rises) more.none;
          last_of = subst (λ n. n ≤ last_op last (records_in (parts.log file) ++ log_ops_of parts logs)) (sym (last_append low (records_in (parts.log file)) (log_ops_of parts (without_logs gone logs))))
              (subst (λ n. last_op (last_op low (records_in (parts.log file))) (log_ops_of parts (without_logs gone logs)) ≤ n) (sym (last_append last (records_in (parts.log file)) (log_ops_of parts logs))) more.last_of);
        }

-- what counts stays, where no operation of the logs that go counts
pub counts_stay : (parts : ImageParts) (gone : ℕ → Bool) (family : NamedFamily) (logs : List ℕ) → Each (λ file. gone file ≡ true → filter (counts_for family) (records_in (parts.log file)) ≡ []) logs
    → filter (counts_for family) (log_ops_of parts (without_logs gone logs)) ≡ filter (counts_for family) (log_ops_of parts logs)
counts_stay parts gone family [] h = refl
counts_stay parts gone family (file ∷ logs) h = step (gone file) refl (counts_stay parts gone family logs h.1)
  where
    step : (b : Bool) → gone file ≡ b → filter (counts_for family) (log_ops_of parts (without_logs gone logs)) ≡ filter (counts_for family) (log_ops_of parts logs)
        → filter (counts_for family) (log_ops_of parts (cond (not b) (file ∷ without_logs gone logs) (without_logs gone logs))) ≡ filter (counts_for family) (log_ops_of parts (file ∷ logs))
    step true is rest =
        rest ∙ sym (filter_join (counts_for family) (records_in (parts.log file)) (log_ops_of parts logs) ∙ ap (λ l. l ++ filter (counts_for family) (log_ops_of parts logs)) (h.0 is))
    step false is rest =
        filter_join (counts_for family) (records_in (parts.log file)) (log_ops_of parts (without_logs gone logs))
        ∙ ap (λ l. filter (counts_for family) (records_in (parts.log file)) ++ l) rest
        ∙ sym (filter_join (counts_for family) (records_in (parts.log file)) (log_ops_of parts logs))

-- what holds of each operation holds of each that stays
pub each_stays : (P : LogOp → Type 0) (parts : ImageParts) (gone : ℕ → Bool) (logs : List ℕ) → Each P (log_ops_of parts logs) → Each P (log_ops_of parts (without_logs gone logs))
each_stays P parts gone [] h = tt
each_stays P parts gone (file ∷ logs) h = step (gone file) (each_stays P parts gone logs (each_back P (records_in (parts.log file)) (log_ops_of parts logs) h))
  where
    step : (b : Bool) → Each P (log_ops_of parts (without_logs gone logs)) → Each P (log_ops_of parts (cond (not b) (file ∷ without_logs gone logs) (without_logs gone logs)))
    step true rest = rest
    step false rest = each_join P (records_in (parts.log file)) (log_ops_of parts (without_logs gone logs)) (each_front P (records_in (parts.log file)) (log_ops_of parts logs) h) rest
