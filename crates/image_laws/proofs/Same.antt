-- The marks of an image's family are those of the model's.
use Rattle.std.proofs.Common.{◌≡◌, ℕ, Bool, true, false, cond, ◌||◌, List, [], ◌∷◌, ◌++◌, map, fold, Option, Some, None, refl, sym, ap, ◌∙◌, get_or, suc, arith}
use Rattle.std.specs.Prelude.{IsTrue}
use Rattle.std.specs.declared.cmp.Ordering.TheVariants.{Less}
use Rattle.std.specs.List.{list_any, AllByRecursion as Each}
use Rattle.std.specs.Map.{keys_of}
use Rattle.std.specs.Option.{option_map, option_or}
use Rattle.std.proofs.lemmas.List.Elements.{recursion_from_All}
use Rattle.std.proofs.lemmas.Bool.{false≢true}
use Rattle.base_laws.proofs.Keys.{less_of}
use Rattle.base_laws.proofs.Maps.{value_set}
use Rattle.image_laws.proofs.Lists.{column_joined}
use Rattle.image_laws.proofs.Best.{ranked_column}
use Rattle.st_base.specs.Bytes.{same, bytes_cmp}
use Rattle.st_base.specs.Map.{value_at}
use Rattle.st_base.specs.declared.entry.Entry.{Entry}
use Rattle.st_base.specs.declared.entry.Mark.{Mark}
use Rattle.st_base.specs.declared.entry.Mark.TheVariants.{Put, Gone}
use Rattle.st_base.proofs.Same.{same_true}
use Rattle.st_base.specs.Range.{keys_of as keys}
use Rattle.st_model.specs.Contents.{is_kept, kept_marks, newest_marks}
use Rattle.st_model.specs.Read.{read, mark_at, value_of}
use Rattle.st_model.specs.Sound.{KeysRise, WritesWithin}
use Rattle.st_model.specs.declared.state.ModelFamily.{ModelFamily}
use Rattle.core_model.specs.Picture.{runs_of, tables_in}
use Rattle.store_image.specs.Image.{Ranked, all_ranked, best, ranked_of, image_mark, set_mark, image_keys, image_marks}
use Rattle.store_image.specs.Opens.{OpenedImageFamily, image_entries_of}
use Rattle.image_laws.proofs.Maps.{AreRising, IsSorted, shown, sorted_set, sorted_with, sorted_filter, sorted_same, kept_at, value_with}
use Rattle.st_order.specs.Columns.{column, of_key}

-- ---- maps whose keys rise

abbrev IsBehind : {X : Type 0} → List ℕ × X → List ℕ × X → Type 0
IsBehind pair other = bytes_cmp pair.0 other.0 ≡ Less

pub rising_keys : {X : Type 0} (pairs : List (List ℕ × X)) → KeysRise pairs → AreRising (keys_of pairs)
rising_keys [] h = tt
rising_keys {X} (pair ∷ pairs) h = (map_each pairs (recursion_from_All (IsBehind pair) pairs (λ k d lt. less_of (bytes_cmp pair.0 (get_or pairs k d).0) (h 0 (suc k) d (omega arith) (omega arith)))), rising_keys pairs (λ i j d lt in'. h (suc i) (suc j) d (omega arith) (omega arith)))
  where
    map_each : (others : List (List ℕ × X)) → Each (IsBehind pair) others → Each (λ other. bytes_cmp pair.0 other ≡ Less) (keys_of others)
    map_each [] e = tt
    map_each (other ∷ others) e = (e.0, map_each others e.1)

-- ---- the image's marks

-- of these keys, those that have a mark
abbrev step_of : OpenedImageFamily → List (List ℕ × Mark) → List ℕ → List (List ℕ × Mark)
step_of family marks key = set_mark marks key (image_mark family key)

set_value : (marks : List (List ℕ × Mark)) (key q : List ℕ) (found : Option Mark) → value_at (set_mark marks key found) q ≡ cond (same key q) (option_or found (value_at marks q)) (value_at marks q)
set_value marks key q None = both (same key q)
  where
    both : (b : Bool) → value_at marks q ≡ cond b (value_at marks q) (value_at marks q)
    both true = refl
    both false = refl
set_value marks key q (Some mark) = value_set marks key mark q

sorted_mark : (marks : List (List ℕ × Mark)) (key : List ℕ) (found : Option Mark) → IsSorted marks → IsSorted (set_mark marks key found)
sorted_mark marks key None s = s
sorted_mark marks key (Some mark) s = sorted_set marks key mark s

sorted_fold : (family : OpenedImageFamily) (keys : List (List ℕ)) (marks : List (List ℕ × Mark)) → IsSorted marks → IsSorted (fold (step_of family) marks keys)
sorted_fold family [] marks s = s
sorted_fold family (key ∷ keys) marks s = sorted_fold family keys (step_of family marks key) (sorted_mark marks key (image_mark family key) s)

-- at a key among them stands its mark
value_fold : (family : OpenedImageFamily) (keys : List (List ℕ)) (marks : List (List ℕ × Mark)) (q : List ℕ)
    → value_at (fold (step_of family) marks keys) q ≡ cond (list_any (λ key. same key q) keys) (option_or (image_mark family q) (value_at marks q)) (value_at marks q)
value_fold family [] marks q = refl
value_fold family (key ∷ keys) marks q =
    value_fold family keys (step_of family marks key) q
    ∙ ap (λ v. cond (list_any (λ key. same key q) keys) (option_or (image_mark family q) v) v) (set_value marks key q (image_mark family key))
    ∙ here (same key q) refl (list_any (λ key. same key q) keys)
  where
    again : (o v : Option Mark) → option_or o (option_or o v) ≡ option_or o v
    again None v = refl
    again (Some mark) v = refl

    here : (b : Bool) → same key q ≡ b → (c : Bool)
        → cond c (option_or (image_mark family q) (cond b (option_or (image_mark family key) (value_at marks q)) (value_at marks q))) (cond b (option_or (image_mark family key) (value_at marks q)) (value_at marks q))
        ≡ cond (b || c) (option_or (image_mark family q) (value_at marks q)) (value_at marks q)
    here true e true = ap (λ k. option_or (image_mark family q) (option_or (image_mark family k) (value_at marks q))) (same_true key q e) ∙ again (image_mark family q) (value_at marks q)
    here true e false = ap (λ k. option_or (image_mark family k) (value_at marks q)) (same_true key q e)
    here false e true = refl
    here false e false = refl

either : (b c : Bool) → (b || c) ≡ false → (b ≡ false) × (c ≡ false)
either true c e = absurd (false≢true (sym e))
either false c e = (refl, e)

any_append : {X : Type 0} (p : X → Bool) (xs ys : List X) → list_any p (xs ++ ys) ≡ false → (list_any p xs ≡ false) × (list_any p ys ≡ false)
any_append p [] ys e = (refl, e)
any_append p (x ∷ xs) ys e =
    let first = either (p x) (list_any p (xs ++ ys)) e in
    let rest = any_append p xs ys first.1 in
    (ap (λ b. b || list_any p xs) first.0 ∙ rest.0, rest.1)

none_of : (q : List ℕ) (entries : List Entry) → list_any (λ key. same key q) (keys entries) ≡ false → of_key q entries ≡ []
none_of q [] e = refl
none_of q (entry ∷ entries) e =
    let first = either (same entry.key q) (list_any (λ key. same key q) (keys entries)) e in
    ap (λ b. cond b (entry ∷ of_key q entries) (of_key q entries)) first.0 ∙ none_of q entries first.1

map_nothing : (xs : List Ranked) → map (λ (one : Ranked). one.entry) xs ≡ [] → xs ≡ []
map_nothing [] e = refl
map_nothing (x ∷ xs) e = absurd (cc e)

-- a key that isn't among them has none
no_mark : (family : OpenedImageFamily) (q : List ℕ) → list_any (λ key. same key q) (image_keys family) ≡ false → image_mark family q ≡ None
no_mark family q e =
    ap (λ found. option_map (λ (one : Ranked). one.entry.mark) (best found))
    (map_nothing (ranked_of q (all_ranked family)) (ranked_column family q
    ∙ ap (λ l. l ++ column q (runs_of (tables_in family.levels))) (none_of q family.counted parts.0)
    ∙ sym (column_joined q (tables_in family.levels)) ∙ none_of q (image_entries_of (tables_in family.levels)) parts.1))
  where
    parts : (list_any (λ key. same key q) (keys family.counted) ≡ false) × (list_any (λ key. same key q) (keys (image_entries_of (tables_in family.levels))) ≡ false)
    parts = any_append (λ key. same key q) (keys family.counted) (keys (image_entries_of (tables_in family.levels))) e

pub value_in : (family : OpenedImageFamily) (q : List ℕ) → value_at (image_marks family) q ≡ image_mark family q
value_in family q = value_fold family (image_keys family) [] q ∙ go (list_any (λ key. same key q) (image_keys family)) refl
  where
    alone : (o : Option Mark) → option_or o None ≡ o
    alone None = refl
    alone (Some mark) = refl

    go : (b : Bool) → list_any (λ key. same key q) (image_keys family) ≡ b → cond b (option_or (image_mark family q) None) None ≡ image_mark family q
    go true e = alone (image_mark family q)
    go false e = sym (no_mark family q e)

-- ---- beside the model's

-- the image's mark reads as the model's, with the flag it is the model's
pub record HasReads (behind : Bool) (last : ℕ) (opened : OpenedImageFamily) (kept : ModelFamily) : Type 0 where
  pub reads : (key : List ℕ) → value_of (image_mark opened key) ≡ read kept last key
  pub marks : IsTrue behind → (key : List ℕ) → image_mark opened key ≡ mark_at kept last key

shown_same : (behind : Bool) (one other : Option Mark) → value_of one ≡ value_of other → (IsTrue behind → one ≡ other) → shown behind one ≡ shown behind other
shown_same true one other e same_ = ap (shown true) (same_ refl)
shown_same false None None e same_ = refl
shown_same false None (Some (Put value)) e same_ = absurd (cc e)
shown_same false None (Some Gone) e same_ = refl
shown_same false (Some (Put value)) None e same_ = absurd (cc e)
shown_same false (Some (Put value)) (Some (Put other)) e same_ = cc e
shown_same false (Some (Put value)) (Some Gone) e same_ = absurd (cc e)
shown_same false (Some Gone) None e same_ = refl
shown_same false (Some Gone) (Some (Put other)) e same_ = absurd (cc e)
shown_same false (Some Gone) (Some Gone) e same_ = refl

pub marks_same : (behind : Bool) (last : ℕ) (opened : OpenedImageFamily) (kept : ModelFamily) → HasReads behind last opened kept → WritesWithin last kept → KeysRise kept.base
    → kept_marks behind (image_marks opened) ≡ kept_marks behind (newest_marks kept)
marks_same behind last opened kept has within rises =
    sorted_same (kept_marks behind (image_marks opened)) (kept_marks behind (newest_marks kept))
    (sorted_filter (λ pair. is_kept behind pair.1) (image_marks opened) here) (sorted_filter (λ pair. is_kept behind pair.1) (newest_marks kept) there)
    (λ q. kept_at behind (image_marks opened) q here ∙ ap (shown behind) (value_in opened q)
    ∙ shown_same behind (image_mark opened q) (mark_at kept last q) (has.reads q) (λ flag. has.marks flag q)
    ∙ ap (shown behind) (sym (value_with last kept.writes kept.base q within)) ∙ sym (kept_at behind (newest_marks kept) q there))
  where
    here : IsSorted (image_marks opened)
    here = sorted_fold opened (image_keys opened) [] tt

    there : IsSorted (newest_marks kept)
    there = sorted_with kept.base kept.writes (rising_keys kept.base rises)
