-- A store that was opened.
use Rattle.std.proofs.Common.{◌≡◌, ℕ, Bool, true, false, not, cond, List, [], ◌∷◌, ◌++◌, map, Option, Some, None, slice_get, refl, sym, ◌∙◌, ap, subst}
use Rattle.std.specs.BTreeMap.{IsOrdered}
use Rattle.std.specs.Map.{keys_of}
use Rattle.st_base.specs.Bytes.{bytes_cmp, default_family, same}
use Rattle.st_base.specs.Map.{value_at}
use Rattle.st_base.specs.declared.entry.Entry.{Entry}
use Rattle.st_base.specs.declared.entry.Mark.{Mark}
use Rattle.st_model.specs.declared.refusal.Refusal.TheVariants.{UnknownFamily}
use Rattle.st_model.specs.declared.state.ModelFamily.{ModelFamily}
use Rattle.st_model.specs.declared.state.ModelState.{ModelState}
use Rattle.st_model.specs.Answer.{unknown_families}
use Rattle.st_model.specs.Contents.{as_entry, is_kept, kept_marks, marks_charge, opened}
use Rattle.log_recover.specs.Contents.{contents_of, logged_entry, known_of, written_marks}
use Rattle.log_recover.specs.Opens.{last_number}
use Rattle.st_wal.specs.declared.logged.Logged.{Logged}
use Rattle.log_engine.specs.Newest.{newest_at, present, shown}
use Rattle.log_engine.specs.MarkStore.{AreRising, HoldsOperations, IsSorted, StandsForState}
use Rattle.log_engine.specs.declared.newest.Newest.{Newest}
use Rattle.log_engine.specs.declared.store.MarkStore.{MarkStore}
use Rattle.log_engine.proofs.Default.{unknown_is}
use Rattle.log_engine.proofs.Marks.{kept_at, present_at, present_sorted, rising_of, sorted_filter, sorted_same, sorted_with, value_set}
use Rattle.log_engine.proofs.Write.{with_append}

-- ---- what the contents show

shown_cond : (behind : Bool) (b : Bool) (x y : Option Mark) → cond b (shown behind x) (shown behind y) ≡ shown behind (cond b x y)
shown_cond behind true x y = refl
shown_cond behind false x y = refl

kept_twice : (behind : Bool) (mark : Mark) (k : Bool) → is_kept behind mark ≡ k → shown behind (cond k (Some mark) None) ≡ cond k (Some mark) None
kept_twice behind mark true is = ap (λ b. cond b (Some mark) None) is
kept_twice behind mark false is = refl

pub shown_twice : (behind : Bool) (o : Option Mark) → shown behind (shown behind o) ≡ shown behind o
shown_twice behind None = refl
shown_twice behind (Some mark) = kept_twice behind mark (is_kept behind mark) refl

-- one operation more is taken in
pub opened_more : (behind : Bool) (logs : List Logged) (logged : Logged) (f g : List ℕ → Option Mark) → ((q : List ℕ) → g q ≡ cond (same logged.key q) (shown behind (Some logged.mark)) (f q)) → ((q : List ℕ) → f q ≡ shown behind (value_at (written_marks logs) q))
    → (q : List ℕ) → g q ≡ shown behind (value_at (written_marks (logs ++ logged ∷ [])) q)
opened_more behind logs logged f g new old q =
    new q ∙ ap (cond (same logged.key q) (shown behind (Some logged.mark))) (old q)
    ∙ shown_cond behind (same logged.key q) (Some logged.mark) (value_at (written_marks logs) q)
    ∙ ap (shown behind) (sym (value_set (written_marks logs) logged.key logged.mark q) ∙ ap (λ m. value_at m q) (sym (with_append [] logs (logged ∷ []))))

-- ---- the store

pairs_again : (pairs : List (List ℕ × Mark)) → map (λ (entry : Entry). (entry.key, entry.mark)) (map as_entry pairs) ≡ pairs
pairs_again [] = refl
pairs_again (pair ∷ pairs) = ap (λ rest. pair ∷ rest) (pairs_again pairs)

module _ (newest : Newest) (logs : List Logged) (behind : Bool) (capacity last charge : ℕ) (marks : (key : List ℕ) → newest_at newest key ≡ shown behind (value_at (written_marks logs) key)) (numbers : last ≡ last_number 0 logs) where
  store : MarkStore
  store = record { newest = newest; place = 0; last = last; charge = charge; behind = behind; capacity = capacity }

  written_sorted : IsSorted (written_marks logs)
  written_sorted = sorted_with [] (map logged_entry logs) tt

  kept : List (List ℕ × Mark)
  kept = kept_marks behind (written_marks logs)

  pub open_holds : HoldsOperations (record { newest = newest; place = 0; last = last; charge = charge; behind = behind; capacity = capacity }) logs
  open_holds = record { last = numbers; marks = λ key. ap (shown behind) (marks key) ∙ shown_twice behind (value_at (written_marks logs) key) }

  module _ (sum : charge ≡ marks_charge 0 (map as_entry (present newest.map.entries))) (ordered : IsOrdered bytes_cmp newest.map) where
    rising : AreRising (keys_of newest.map.entries)
    rising = rising_of (keys_of newest.map.entries) ordered

    present_is : present newest.map.entries ≡ kept_marks behind (written_marks logs)
    present_is = sorted_same (present newest.map.entries) (kept_marks behind (written_marks logs)) (present_sorted newest.map.entries rising) (sorted_filter _ (written_marks logs) written_sorted)
        (λ q. present_at newest.map.entries q rising ∙ marks q ∙ sym (kept_at behind (written_marks logs) q written_sorted))

    pub open_stands : StandsForState (record { newest = newest; place = 0; last = last; charge = charge; behind = behind; capacity = capacity }) (opened (contents_of behind logs) (known_of logs))
    open_stands =
        let again : map (λ (entry : Entry). (entry.key, entry.mark)) (map as_entry (kept_marks behind (written_marks logs))) ≡ kept_marks behind (written_marks logs) = pairs_again (kept_marks behind (written_marks logs)) in
        record {
          family = record { id = 0; base = map (λ (entry : Entry). (entry.key, entry.mark)) (map as_entry (kept_marks behind (written_marks logs))); writes = []; ranges = []; known = map (λ (op : Logged). op.key) logs };
          families = refl;
          id = refl;
          ranges = refl;
          sorted = subst IsSorted (sym again) (sorted_filter _ (written_marks logs) written_sorted);
          place = refl;
          last = sym numbers;
          charge = sym (sum ∙ ap (λ pairs. marks_charge 0 (map as_entry pairs)) present_is);
          behind = refl;
          marks = record {
            numbers = tt;
            newest = λ key. ap (λ pairs. value_at pairs key) again ∙ kept_at behind (written_marks logs) key written_sorted ∙ sym (marks key);
          };
        }

-- ---- a family that isn't there

pub stranger_refused : (state : ModelState) (family : ModelFamily) (name copy : List ℕ) → state.families ≡ (default_family, family) ∷ [] → same name default_family ≡ false → copy ≡ name
    → slice_get (unknown_families state (name ∷ [])) 0 ≡ Some (UnknownFamily copy)
stranger_refused state family name copy families apart is =
    ap (λ us. slice_get us 0) (unknown_is state family (name ∷ []) (record { families = families }))
    ∙ ap (λ b. slice_get (map UnknownFamily (cond (not b) (name ∷ []) [])) 0) apart
    ∙ ap (λ n. Some (UnknownFamily n)) (sym is)
