-- A file keeps what the model keeps by itself.
use Rattle.std.proofs.Common.{◌≡◌, ℕ, ◌+◌, ◌<◌, ◌≤◌, Bool, true, false, cond, not, List, [], ◌∷◌, ◌++◌, length, get_or, filter, Ordering, Less, Equal, Greater, is_lt, refl, sym, ap, subst, subst₂, ◌∙◌, inl, inr, ◌⊎◌, arith, AllPairs}
use Rattle.std.specs.Prelude.{◌||◌, ◌==◌, is_some}
use Rattle.std.specs.List.{AllByRecursion as Each}
use Rattle.std.specs.Ordering.{match_ordering, ordering_reverse}
use Rattle.std.proofs.lemmas.Bool.{false≢true, eqb-false}
use Rattle.std.proofs.lemmas.Cmp.{nat_list_cmp_total}
use Rattle.std.proofs.lemmas.List.{get_or-map, length-map}
use Rattle.st_base.specs.Bytes.{bytes_cmp, same, below}
use Rattle.st_base.specs.Map.{value_at, set_at, changed_at}
use Rattle.st_base.specs.declared.entry.Mark.{Mark}
use Rattle.st_base.specs.declared.entry.Entry.{Entry}
use Rattle.st_model.specs.declared.change.Taken.{Taken}
use Rattle.st_model.specs.declared.state.ModelFamily.{ModelFamily}
use Rattle.st_model.specs.declared.state.Snapshot.{Snapshot}
use Rattle.st_model.specs.Apply.{with_marks, with_taken_file, with_known, with_numbered, with_early, with_behind, last_after}
use Rattle.st_base.specs.Range.{under_number, has_key}
use Rattle.st_model.specs.Sound.{KeysRise, WritesWithin}
use Rattle.base_laws.proofs.Keys.{below_trans}
use Rattle.base_laws.proofs.Lists.{each_filter}
use Rattle.core_laws.specs.Claims.{FileSound}
use Rattle.core_laws.proofs.ByPlace.{from_pairs}
use Rattle.core_laws.proofs.Members.{pairs_of_all}
use Rattle.st_order.specs.Columns.{Pairwise}

-- ---- pairs by places and by recursion

-- ---- a map of families with one changed

module _ {X : Type 0} (key : List ℕ) (change : X → X) where
  pub changed_each : (P Q : List ℕ × X → Type 0) (pairs : List (List ℕ × X)) → ((pair : List ℕ × X) → P pair → Q (pair.0, pair.1)) → ((pair : List ℕ × X) → P pair → Q (pair.0, change pair.1)) → Each P pairs → Each Q (changed_at pairs key change)
  changed_each P Q [] stays changes each = tt
  changed_each P Q (pair ∷ pairs) stays changes each = (step (same pair.0 key), changed_each P Q pairs stays changes each.1)
    where
      step : (b : Bool) → Q (pair.0, cond b (change pair.1) pair.1)
      step true = changes pair each.0
      step false = stays pair each.0

  -- a relation that looks at what doesn't change
  pub changed_pairs : {Y : Type 0} (look : List ℕ × X → Y) (R : Y → Y → Type 0) (pairs : List (List ℕ × X)) → ((name : List ℕ) (x : X) → look (name, change x) ≡ look (name, x))
      → AllPairs (λ one other. R (look one) (look other)) pairs → AllPairs (λ one other. R (look one) (look other)) (changed_at pairs key change)
  changed_pairs look R pairs alike all i j d lt in' =
      let long : length (changed_at pairs key change) ≡ length pairs = length-map pairs (λ pair. (pair.0, cond (same pair.0 key) (change pair.1) pair.1)) in
      subst₂ R (sym (at i (omega arith))) (sym (at j (omega arith))) (all i j d lt (omega arith))
    where
      one : (pair : List ℕ × X) (b : Bool) → look (pair.0, cond b (change pair.1) pair.1) ≡ look (pair.0, pair.1)
      one pair true = alike pair.0 pair.1
      one pair false = refl

      at : (k : ℕ) → k < length pairs → look (get_or (changed_at pairs key change) k d) ≡ look (get_or pairs k d)
      at k lt =
          ap look (get_or-map (λ (pair : List ℕ × X). (pair.0, cond (same pair.0 key) (change pair.1) pair.1)) pairs k d d lt)
          ∙ one (get_or pairs k d) (same (get_or pairs k d).0 key)

-- ---- base keys rise

abbrev Rise : List (List ℕ × Mark) → Type 0
Rise pairs = Pairwise (λ one other. below one.0 other.0 ≡ true) pairs

set_each : (P : List ℕ → Type 0) (pairs : List (List ℕ × Mark)) (key : List ℕ) (mark : Mark) → P key → Each (λ pair. P pair.0) pairs → Each (λ pair. P pair.0) (set_at pairs key mark)
set_each P [] key mark here each = (here, tt)
set_each P (pair ∷ pairs) key mark here each = step (bytes_cmp key pair.0) (set_each P pairs key mark here each.1)
  where
    step : (o : Ordering) → Each (λ pair. P pair.0) (set_at pairs key mark) → Each (λ pair. P pair.0) (match_ordering o ((key, mark) ∷ pair ∷ pairs) ((pair.0, mark) ∷ pairs) (pair ∷ set_at pairs key mark))
    step Less rest = (here, each)
    step Equal rest = each
    step Greater rest = (each.0, rest)

each_pair : (P Q : List ℕ × Mark → Type 0) (pairs : List (List ℕ × Mark)) → ((pair : List ℕ × Mark) → P pair → Q pair) → Each P pairs → Each Q pairs
each_pair P Q [] f each = tt
each_pair P Q (pair ∷ pairs) f each = (f pair each.0, each_pair P Q pairs f each.1)

set_rises : (pairs : List (List ℕ × Mark)) (key : List ℕ) (mark : Mark) → Rise pairs → Rise (set_at pairs key mark)
set_rises [] key mark rise = (tt, tt)
set_rises (pair ∷ pairs) key mark rise = step (bytes_cmp key pair.0) refl (set_rises pairs key mark rise.1)
  where
    step : (o : Ordering) → bytes_cmp key pair.0 ≡ o → Rise (set_at pairs key mark) → Rise (match_ordering o ((key, mark) ∷ pair ∷ pairs) ((pair.0, mark) ∷ pairs) (pair ∷ set_at pairs key mark))
    step Less is rest = ((ap is_lt is, each_pair (λ other. below pair.0 other.0 ≡ true) (λ other. below key other.0 ≡ true) pairs (λ other lt. below_trans key pair.0 other.0 (ap is_lt is) lt) rise.0), rise)
    step Equal is rest = rise
    step Greater is rest = (set_each (λ other. below pair.0 other ≡ true) pairs key mark (ap is_lt (nat_list_cmp_total.antisymm pair.0 key ∙ ap ordering_reverse is)) rise.0, rest)

marks_rise : (entries : List Entry) (base : List (List ℕ × Mark)) → Rise base → Rise (with_marks base entries)
marks_rise [] base rise = rise
marks_rise (x ∷ xs) base rise = marks_rise xs (set_at base x.key x.mark) (set_rises base x.key x.mark rise)

-- ---- writes stay within the last number

more_within : (last more : ℕ) (writes : List Entry) → last ≤ more → Each (λ write. write.number ≤ last) writes → Each (λ write. write.number ≤ more) writes
more_within last more [] le each = tt
more_within last more (x ∷ xs) le each = (omega (arith, each.0), more_within last more xs le each.1)

under_within : (number : ℕ) (entries writes : List Entry) → Each (λ write. write.number ≤ number) writes → Each (λ write. write.number ≤ number) (writes ++ under_number number entries)
under_within number entries [] each = all entries
  where
    all : (some : List Entry) → Each (λ write. write.number ≤ number) (under_number number some)
    all [] = tt
    all (x ∷ xs) = (omega arith, all xs)
under_within number entries (x ∷ xs) each = (each.0, under_within number entries xs each.1)

-- ---- the family after a file

entries_rise : (file : Taken) (family : ModelFamily) → KeysRise family.base → KeysRise (with_taken_file file family).base
entries_rise file family rise = step file.behind (file.number == 0)
  where
    step : (b c : Bool) → KeysRise (cond b (with_behind file.entries family) (cond c (with_early file.entries family) (with_numbered file.number file.entries family))).base
    step true c =
        let chosen : List Entry = filter (λ entry. not (is_some (value_at family.base entry.key))) file.entries in
        from_pairs (λ one other. below one.0 other.0 ≡ true) (with_marks family.base chosen) (marks_rise chosen family.base (pairs_of_all (λ one other. below one.0 other.0 ≡ true) family.base rise))
    step false true = from_pairs (λ one other. below one.0 other.0 ≡ true) (with_marks family.base file.entries) (marks_rise file.entries family.base (pairs_of_all (λ one other. below one.0 other.0 ≡ true) family.base rise))
    step false false = rise

entries_within : (file : Taken) (last : ℕ) (family : ModelFamily) → (file.number ≡ 0) ⊎ (file.number ≡ last + 1) → WritesWithin last family → WritesWithin (last_after file last) (with_taken_file file family)
entries_within file last family number within = step file.behind (file.number == 0) refl
  where
    more : (file.number == 0) ≡ false → last ≤ file.number
    more is = let other : file.number ≡ 0 → ⊥ = eqb-false file.number 0 is in elim number [ inl e ↦ absurd (other e) | inr e ↦ omega arith ]

    step : (b c : Bool) → (file.number == 0) ≡ c → WritesWithin (cond (b || c) last file.number) (cond b (with_behind file.entries family) (cond c (with_early file.entries family) (with_numbered file.number file.entries family)))
    step true c is = within
    step false true is = each_filter (λ (write : Entry). write.number ≤ last) (λ write. not (has_key file.entries write.key)) family.writes within
    step false false is = under_within file.number file.entries family.writes (more_within last file.number family.writes (more is) within)

same_id : (file : Taken) (family : ModelFamily) → (with_known file.entries (with_taken_file file family)).id ≡ family.id
same_id file family = step file.behind (file.number == 0)
  where
    step : (b c : Bool) → (cond b (with_behind file.entries family) (cond c (with_early file.entries family) (with_numbered file.number file.entries family))).id ≡ family.id
    step true c = refl
    step false true = refl
    step false false = refl

pub file_sound : FileSound
file_sound state file sound flag number = record {
  names = changed_pairs file.family change (λ (pair : List ℕ × ModelFamily). pair.0) (λ one other. below one other ≡ true) state.families (λ name family. refl) sound.names;
  bases = changed_each file.family change (λ pair. KeysRise pair.1.base) (λ pair. KeysRise pair.1.base) state.families (λ pair rise. rise) (λ pair rise. entries_rise file pair.1 rise) sound.bases;
  writes = changed_each file.family change (λ pair. WritesWithin state.last pair.1) (λ pair. WritesWithin (last_after file state.last) pair.1) state.families
      (λ pair within. more_within state.last (last_after file state.last) pair.1.writes more within) (λ pair within. entries_within file state.last pair.1 number within) sound.writes;
  live = live_within state.live sound.live;
  snapshots = sound.snapshots;
  taken = sound.taken;
  above = sound.above;
  ids = changed_pairs file.family change (λ (pair : List ℕ × ModelFamily). pair.1.id) (λ one other. one ≡ other → ⊥) state.families (λ name family. same_id file family) sound.ids;
  next = changed_each file.family change (λ pair. pair.1.id < state.next_family) (λ pair. pair.1.id < state.next_family) state.families (λ pair lt. lt) (λ pair lt. subst (λ id. id < state.next_family) (sym (same_id file pair.1)) lt) sound.next;
  unranged = λ none. changed_each file.family change (λ pair. pair.1.ranges ≡ []) (λ pair. pair.1.ranges ≡ []) state.families (λ pair empty. empty) (λ pair empty. same_ranges none pair.1 empty file.behind (file.number == 0) refl) (sound.unranged none);
}
  where
    change : ModelFamily → ModelFamily
    change family = with_known file.entries (with_taken_file file family)

    same_ranges : state.behind ≡ false → (family : ModelFamily) → family.ranges ≡ [] → (b c : Bool) → file.behind ≡ b
        → (cond b (with_behind file.entries family) (cond c (with_early file.entries family) (with_numbered file.number file.entries family))).ranges ≡ []
    same_ranges none family empty true c is = absurd (false≢true (sym none ∙ flag is))
    same_ranges none family empty false true is = empty
    same_ranges none family empty false false is = empty

    up : (b c : Bool) → (file.number == 0) ≡ c → state.last ≤ cond (b || c) state.last file.number
    up true c is = omega arith
    up false true is = omega arith
    up false false is = let other : file.number ≡ 0 → ⊥ = eqb-false file.number 0 is in elim number [ inl e ↦ absurd (other e) | inr e ↦ omega arith ]

    more : state.last ≤ last_after file state.last
    more = up file.behind (file.number == 0) refl

    live_within : (live : List Snapshot) → Each (λ snapshot. snapshot.number ≤ state.last) live → Each (λ snapshot. snapshot.number ≤ last_after file state.last) live
    live_within [] each = tt
    live_within (one ∷ live) each = (omega (arith, each.0, more), live_within live each.1)
