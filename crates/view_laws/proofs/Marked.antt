-- Each key that reads a value has a newest mark, and these stand in the order of their keys.
use Rattle.std.proofs.Common.{◌≡◌, ℕ, Bool, true, false, cond, ◌&&◌, List, [], ◌∷◌, Option, Some, None, refl, sym, ap, ◌∙◌}
use Rattle.std.specs.Prelude.{filter, nat_le}
use Rattle.std.specs.Option.{option_or}
use Rattle.st_base.specs.Bytes.{same}
use Rattle.st_base.specs.Entries.{last_mark}
use Rattle.st_base.specs.Map.{set_at, value_at}
use Rattle.st_base.specs.declared.entry.Entry.{Entry}
use Rattle.st_base.specs.declared.entry.Mark.{Mark}
use Rattle.base_laws.proofs.Maps.{value_set}
use Rattle.st_order.specs.Columns.{of_key}
use Rattle.st_model.specs.Contents.{newest_marks, with_marks}
use Rattle.st_model.specs.Read.{last_write, mark_at, read, value_of}
use Rattle.st_model.specs.declared.state.ModelFamily.{ModelFamily}

-- the newest mark of a key where none was set
left_none : (a b : Option Mark) → option_or a b ≡ None → a ≡ None
left_none None b e = refl
left_none (Some x) b e = absurd cc

right_none : (a b : Option Mark) → option_or a b ≡ None → b ≡ None
right_none None b e = e
right_none (Some x) b e = absurd cc

-- where writes leave no mark, none was there, and none of them has the key
unmarked : (writes : List Entry) (marks : List (List ℕ × Mark)) (key : List ℕ) → value_at (with_marks marks writes) key ≡ None → (value_at marks key ≡ None) × (of_key key writes ≡ [])
unmarked [] marks key e = (e, refl)
unmarked (w ∷ ws) marks key e =
    let rest = unmarked ws (set_at marks w.key w.mark) key e in
    step (same w.key key) refl (sym (value_set marks w.key w.mark key) ∙ rest.0) rest.1
  where
    step : (b : Bool) → same w.key key ≡ b → cond (same w.key key) (Some w.mark) (value_at marks key) ≡ None → of_key key ws ≡ [] → (value_at marks key ≡ None) × (of_key key (w ∷ ws) ≡ [])
    step true e found none = absurd (let is : Some w.mark ≡ None = sym (ap (λ b. cond b (Some w.mark) (value_at marks key)) e) ∙ found in cc)
    step false e found none = (sym (ap (λ b. cond b (Some w.mark) (value_at marks key)) e) ∙ found, ap (λ b. cond b (w ∷ of_key key ws) (of_key key ws)) e ∙ none)

fewer : (writes : List Entry) (number : ℕ) (key : List ℕ) → of_key key writes ≡ [] → filter (λ write. same write.key key && nat_le write.number number) writes ≡ []
fewer [] number key none = refl
fewer (w ∷ ws) number key none = step (same w.key key) none (λ rest. fewer ws number key rest)
  where
    step : (b : Bool) → cond b (w ∷ of_key key ws) (of_key key ws) ≡ [] → (of_key key ws ≡ [] → filter (λ write. same write.key key && nat_le write.number number) ws ≡ [])
        → cond (b && nat_le w.number number) (w ∷ filter (λ write. same write.key key && nat_le write.number number) ws) (filter (λ write. same write.key key && nat_le write.number number) ws) ≡ []
    step true e rest = absurd cc
    step false e rest = rest e

pub unmarked_reads_none : (kept : ModelFamily) (number : ℕ) (key : List ℕ) → value_at (newest_marks kept) key ≡ None → read kept number key ≡ None
unmarked_reads_none kept number key e =
    let gone = unmarked kept.writes kept.base key e in
    ap value_of (ap (λ writes. option_or (last_mark writes) (value_at kept.base key)) (fewer kept.writes number key gone.1) ∙ gone.0)
