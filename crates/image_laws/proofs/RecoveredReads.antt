-- What the recovered core reads is what its state reads, and its numbers fall.
use Rattle.std.proofs.Common.{◌≡◌, ℕ, ◌<◌, ◌≤◌, inl, inr, Bool, true, false, cond, ◌&&◌, ◌||◌, not, List, [], ◌∷◌, ◌++◌, filter, fold, reverse, Option, Some, None, refl, sym, ap, subst, ◌∙◌, append-nil}
use Rattle.std.specs.Prelude.{nat_le, nat_lt, ◌==◌, ◌⊎◌}
use Rattle.std.specs.Option.{option_or, option_map}
use Rattle.std.specs.List.{flat_map, AllByRecursion as Each}
use Rattle.std.proofs.lemmas.Bool.{false≢true, le-leb, ltb-true, lt-ltb, eqb-true}
use Rattle.std.proofs.lemmas.List.{reverse-append}
use Rattle.st_base.specs.Bytes.{same}
use Rattle.st_base.specs.Entries.{last_mark}
use Rattle.st_base.specs.Map.{value_at, set_at}
use Rattle.st_base.proofs.Same.{same_true}
use Rattle.st_base.specs.declared.entry.Entry.{Entry}
use Rattle.st_base.specs.declared.entry.Mark.{Mark}
use Rattle.st_model.specs.Contents.{with_marks}
use Rattle.st_model.specs.Read.{mark_at, last_write}
use Rattle.base_laws.proofs.Lists.{each_as, each_join}
use Rattle.core_laws.proofs.Lists.{filter_join, pairs_as, pairs_join}
use Rattle.core_laws.proofs.ToldByColumns.{column_joined as of_runs}
use Rattle.core_model.specs.Crash.{newest_of}
use Rattle.core_model.specs.Picture.{find_mark, walk, runs_of, tables_in, above, level_at}
use Rattle.core_model.specs.RelationParts.{NumbersWithin, NumbersFall}
use Rattle.store_image.specs.Opens.{OpenedImageFamily, image_entries_of, upper_tables, lower_tables, unfallen_in}
use Rattle.store_image.specs.Recover.{recovered_view, recovered_family}
use Rattle.image_laws.proofs.Lists.{column_joined}
use Rattle.image_laws.proofs.Best.{each_column, IsLower}
use Rattle.image_laws.proofs.Maps.{value_with}
use Rattle.image_laws.proofs.Reflect.{Follows, family_falls}
use Rattle.image_laws.proofs.Recovered.{mem_column, FallsTo}
use Rattle.st_order.specs.Columns.{Pairwise, column, of_key}
use Rattle.job_model.specs.Column.{first_at, found_at}

-- ---- the newest mark of a column

abbrev head_mark : List Entry → Option Mark
head_mark [] = None
head_mark (entry ∷ entries) = Some entry.mark

last_push : (entries : List Entry) (entry : Entry) → last_mark (entries ++ entry ∷ []) ≡ Some entry.mark
last_push [] entry = refl
last_push (other ∷ entries) entry = ap (λ mark. option_or mark (Some other.mark)) (last_push entries entry)

last_reverse : (entries : List Entry) → last_mark (reverse entries) ≡ head_mark entries
last_reverse [] = refl
last_reverse (entry ∷ entries) = ap last_mark (reverse-append (entry ∷ []) entries) ∙ last_push (reverse entries) entry

pub filter_reverse : {X : Type 0} (p : X → Bool) (xs : List X) → filter p (reverse xs) ≡ reverse (filter p xs)
filter_reverse p [] = refl
filter_reverse p (x ∷ xs) = ap (filter p) (reverse-append (x ∷ []) xs) ∙ filter_join p (reverse xs) (x ∷ []) ∙ ap (λ l. l ++ cond (p x) (x ∷ []) []) (filter_reverse p xs) ∙ go (p x)
  where
    go : (b : Bool) → reverse (filter p xs) ++ cond b (x ∷ []) [] ≡ reverse (cond b (x ∷ filter p xs) (filter p xs))
    go true = sym (reverse-append (x ∷ []) (filter p xs))
    go false = append-nil (reverse (filter p xs))

-- the entries of the key, where all are within the number
filter_both : (last : ℕ) (key : List ℕ) (entries : List Entry) → Each (λ entry. entry.number ≤ last) entries → filter (λ (entry : Entry). same entry.key key && nat_le entry.number last) entries ≡ of_key key entries
filter_both last key [] h = refl
filter_both last key (entry ∷ entries) h =
    ap (λ b. cond (same entry.key key && b) (entry ∷ filter (λ (entry : Entry). same entry.key key && nat_le entry.number last) entries) (filter (λ (entry : Entry). same entry.key key && nat_le entry.number last) entries)) (le-leb entry.number last h.0)
    ∙ go (same entry.key key) (filter_both last key entries h.1)
  where
    go : (b : Bool) → filter (λ (entry : Entry). same entry.key key && nat_le entry.number last) entries ≡ of_key key entries
        → cond (b && true) (entry ∷ filter (λ (entry : Entry). same entry.key key && nat_le entry.number last) entries) (filter (λ (entry : Entry). same entry.key key && nat_le entry.number last) entries) ≡ cond b (entry ∷ of_key key entries) (of_key key entries)
    go true rest = ap (λ l. entry ∷ l) rest
    go false rest = rest

pub each_reverse : (P : Entry → Type 0) (entries : List Entry) → Each P entries → Each P (reverse entries)
each_reverse P [] h = tt
each_reverse P (entry ∷ entries) h = subst (Each P) (sym (reverse-append (entry ∷ []) entries)) (each_join P (reverse entries) (entry ∷ []) (each_reverse P entries h.1) (h.0, tt))

-- writes that are entries from the oldest
write_mark : (last : ℕ) (key : List ℕ) (entries : List Entry) → Each (λ entry. entry.number ≤ last) entries → last_write (reverse entries) last key ≡ head_mark (of_key key entries)
write_mark last key entries h =
    ap last_mark (filter_both last key (reverse entries) (each_reverse (λ (entry : Entry). entry.number ≤ last) entries h) ∙ filter_reverse (λ (entry : Entry). same entry.key key) entries) ∙ last_reverse (of_key key entries)

pub fold_marks : (marks : List (List ℕ × Mark)) (entries : List Entry) → fold (λ marks (entry : Entry). set_at marks entry.key entry.mark) marks entries ≡ with_marks marks entries
fold_marks marks [] = refl
fold_marks marks (entry ∷ entries) = fold_marks (set_at marks entry.key entry.mark) entries

each_runs : (P : Entry → Type 0) (runs : List (List Entry)) → Each (Each P) runs → Each P (flat_map (λ entries. entries) runs)
each_runs P [] h = tt
each_runs P (run ∷ runs) h = each_join P run (flat_map (λ entries. entries) runs) h.0 (each_runs P runs h.1)

-- the newest marks of runs
pub newest_mark : (last : ℕ) (key : List ℕ) (runs : List (List Entry)) → Each (Each (λ entry. entry.number ≤ last)) runs → value_at (newest_of runs) key ≡ head_mark (column key runs)
newest_mark last key runs h =
    ap (λ marks. value_at marks key) (fold_marks [] (reverse (flat_map (λ entries. entries) runs)))
    ∙ value_with last (reverse (flat_map (λ entries. entries) runs)) [] key (each_reverse (λ (entry : Entry). entry.number ≤ last) (flat_map (λ entries. entries) runs) (each_runs (λ (entry : Entry). entry.number ≤ last) runs h))
    ∙ alone (last_write (reverse (flat_map (λ entries. entries) runs)) last key)
    ∙ write_mark last key (flat_map (λ entries. entries) runs) (each_runs (λ (entry : Entry). entry.number ≤ last) runs h)
    ∙ ap head_mark (of_runs key runs)
  where
    alone : (o : Option Mark) → option_or o None ≡ o
    alone None = refl
    alone (Some mark) = refl

found_head : (last : ℕ) (entries : List Entry) → Each (λ entry. entry.number ≤ last) entries → found_at last entries ≡ head_mark entries
found_head last [] h = refl
found_head last (entry ∷ entries) h = ap (λ b. option_map (λ (one : Entry). one.mark) (cond b (Some entry) (first_at last entries))) (le-leb entry.number last h.0)

head_append : (one other : List Entry) → head_mark (one ++ other) ≡ option_or (head_mark one) (head_mark other)
head_append [] other = none (head_mark other)
  where
    none : (o : Option Mark) → o ≡ option_or None o
    none None = refl
    none (Some mark) = refl
head_append (entry ∷ one) other = refl

-- the recovered core finds the mark that its state has
pub recovered_mark : (behind : Bool) (last : ℕ) (family : OpenedImageFamily) (key : List ℕ) → Pairwise FallsTo family.counted → Each (λ entry. entry.number ≤ last) family.counted → NumbersWithin last (recovered_view family)
    → find_mark (recovered_view family) last key ≡ mark_at (recovered_family behind family) last key
recovered_mark behind last family key falls counted within =
    found_head last (column key (walk (recovered_view family))) (each_column (λ (entry : Entry). entry.number ≤ last) key (walk (recovered_view family)) within)
    ∙ ap (λ l. head_mark (l ++ column key (runs_of (tables_in family.levels)))) (mem_column key family.counted falls)
    ∙ head_append (of_key key family.counted) (column key (runs_of (tables_in family.levels)))
    ∙ ap (λ mark. option_or mark (head_mark (column key (runs_of (tables_in family.levels))))) (sym (write_mark last key family.counted counted))
    ∙ ap (option_or (last_write (reverse family.counted) last key)) (sym (newest_mark last key (runs_of (tables_in family.levels)) within.1))

-- ---- numbers fall

pub same_join : (a key b : List ℕ) → same a key ≡ true → same b key ≡ true → same a b ≡ true
same_join a key b e f = ap (same a) (same_true b key f) ∙ e

falls_by : (entry other : Entry) (b : Bool) → same entry.key other.key ≡ b → (c : Bool) → nat_lt other.number entry.number ≡ c → b ≡ true → ((not b || c) || (false && (other.number == 0) && (entry.number == 0))) ≡ true → FallsTo entry other
falls_by entry other b e true f is follow = ltb-true other.number entry.number f
falls_by entry other true e false f is follow = absurd (false≢true follow)
falls_by entry other false e false f is follow = absurd (false≢true is)

less_of : (key : List ℕ) (entry other : Entry) → Follows false entry other → same entry.key key ≡ true → same other.key key ≡ true → FallsTo entry other
less_of key entry other follow one two = falls_by entry other (same entry.key other.key) refl (nat_lt other.number entry.number) refl (same_join entry.key key other.key one two) follow

all_less : (key : List ℕ) (entry : Entry) (others : List Entry) → same entry.key key ≡ true → Each (Follows false entry) others → Each (FallsTo entry) (of_key key others)
all_less key entry [] is h = tt
all_less key entry (other ∷ others) is h = pick (same other.key key) refl (all_less key entry others is h.1)
  where
    pick : (b : Bool) → same other.key key ≡ b → Each (FallsTo entry) (of_key key others) → Each (FallsTo entry) (cond b (other ∷ of_key key others) (of_key key others))
    pick true e rest = (less_of key entry other h.0 is e, rest)
    pick false e rest = rest

-- entries of one key, each of which may follow those before it
upper_falls : (key : List ℕ) (entries : List Entry) → Pairwise (Follows false) entries → Pairwise FallsTo (of_key key entries)
upper_falls key [] h = tt
upper_falls key (entry ∷ entries) h = go (same entry.key key) refl (upper_falls key entries h.1)
  where
    go : (b : Bool) → same entry.key key ≡ b → Pairwise FallsTo (of_key key entries) → Pairwise FallsTo (cond b (entry ∷ of_key key entries) (of_key key entries))
    go true is rest = (all_less key entry entries is h.0, rest)
    go false is rest = rest

-- ---- the whole walk

falls_follow : (one other : Entry) → FallsTo one other → Follows false one other
falls_follow one other less = ap (λ c. (not (same one.key other.key) || c) || (false && (other.number == 0) && (one.number == 0))) (lt-ltb other.number one.number less) ∙ go (not (same one.key other.key)) (false && (other.number == 0) && (one.number == 0))
  where
    go : (b c : Bool) → ((b || true) || c) ≡ true
    go true c = refl
    go false c = refl

turn : (bottom : Bool) (before entries : List Entry) → Each (λ entry. Each (λ one. Follows bottom one entry) before) entries → Each (λ one. Each (Follows bottom one) entries) before
turn bottom [] entries h = tt
turn bottom (one ∷ before) entries h = (
  each_as (λ entry. Each (λ other. Follows bottom other entry) (one ∷ before)) (Follows bottom one) (λ entry e. e.0) entries h,
  turn bottom before entries (each_as (λ entry. Each (λ other. Follows bottom other entry) (one ∷ before)) (λ entry. Each (λ other. Follows bottom other entry) before) (λ entry e. e.1) entries h),
)

upper_column : (family : OpenedImageFamily) (key : List ℕ) → Pairwise FallsTo family.counted → column key (above (recovered_view family) 6) ≡ of_key key (family.counted ++ image_entries_of (upper_tables family))
upper_column family key falls =
    ap (λ l. l ++ column key (runs_of (upper_tables family))) (mem_column key family.counted falls)
    ∙ ap (λ l. of_key key family.counted ++ l) (sym (column_joined key (upper_tables family)))
    ∙ sym (filter_join (λ (entry : Entry). same entry.key key) family.counted (image_entries_of (upper_tables family)))

-- in the last level a number is less, or 0
lower_number : (one other : Entry) → Follows true one other → same one.key other.key ≡ true → (other.number < one.number) ⊎ (other.number ≡ 0)
lower_number one other follow is = go (same one.key other.key) is (nat_lt other.number one.number) refl (other.number == 0) refl (one.number == 0) follow
  where
    go : (b : Bool) → b ≡ true → (c : Bool) → nat_lt other.number one.number ≡ c → (d : Bool) → (other.number == 0) ≡ d → (e : Bool) → ((not b || c) || (true && d && e)) ≡ true → (other.number < one.number) ⊎ (other.number ≡ 0)
    go true is true f d g e h = inl (ltb-true other.number one.number f)
    go true is false f true g e h = inr (eqb-true other.number 0 g)
    go true is false f false g e h = absurd (false≢true h)
    go false is c f d g e h = absurd (false≢true is)

across_one : (key : List ℕ) (one : Entry) (lower : List Entry) → same one.key key ≡ true → Each (Follows true one) lower → Each (λ other. (other.number < one.number) ⊎ (other.number ≡ 0)) (of_key key lower)
across_one key one [] is h = tt
across_one key one (other ∷ lower) is h = pick (same other.key key) refl (across_one key one lower is h.1)
  where
    pick : (b : Bool) → same other.key key ≡ b → Each (λ other. (other.number < one.number) ⊎ (other.number ≡ 0)) (of_key key lower) → Each (λ other. (other.number < one.number) ⊎ (other.number ≡ 0)) (cond b (other ∷ of_key key lower) (of_key key lower))
    pick true e rest = (lower_number one other h.0 (same_join one.key key other.key is e), rest)
    pick false e rest = rest

across_all : (key : List ℕ) (upper lower : List Entry) → Each (λ one. Each (Follows true one) lower) upper → Each (λ one. Each (λ other. (other.number < one.number) ⊎ (other.number ≡ 0)) (of_key key lower)) (of_key key upper)
across_all key [] lower h = tt
across_all key (one ∷ upper) lower h = pick (same one.key key) refl (across_all key upper lower h.1)
  where
    pick : (b : Bool) → same one.key key ≡ b → Each (λ one. Each (λ other. (other.number < one.number) ⊎ (other.number ≡ 0)) (of_key key lower)) (of_key key upper)
        → Each (λ one. Each (λ other. (other.number < one.number) ⊎ (other.number ≡ 0)) (of_key key lower)) (cond b (one ∷ of_key key upper) (of_key key upper))
    pick true e rest = (across_one key one lower e h.0, rest)
    pick false e rest = rest

-- that numbers of the recovered core fall along the walk; that the last level falls by itself comes from its tables, which share no key
pub recovered_falls : (last : ℕ) (family : OpenedImageFamily) → IsLower family.levels → Pairwise FallsTo family.counted → unfallen_in last family ≡ [] → ((key : List ℕ) → Pairwise FallsTo (column key (runs_of (level_at (recovered_view family) 6)))) → NumbersFall (recovered_view family)
recovered_falls last family lower_is counted none lower key =
    let falls = family_falls last family none in
    record {
      above = subst (Pairwise FallsTo) (sym (upper_column family key counted))
          (upper_falls key (family.counted ++ image_entries_of (upper_tables family))
          (pairs_join (Follows false) family.counted (image_entries_of (upper_tables family)) (pairs_as FallsTo (Follows false) falls_follow family.counted counted) falls.0.pairs (turn false family.counted (image_entries_of (upper_tables family)) falls.0.behind)));
      below = lower key;
      across = subst (λ up. Each (λ one. Each (λ other. (other.number < one.number) ⊎ (other.number ≡ 0)) (column key (runs_of (level_at (recovered_view family) 6)))) up) (sym (upper_column family key counted))
          (subst (λ low. Each (λ one. Each (λ other. (other.number < one.number) ⊎ (other.number ≡ 0)) low) (of_key key (family.counted ++ image_entries_of (upper_tables family))))
          (column_joined key (lower_tables family) ∙ ap (λ tables. column key (runs_of tables)) lower_is)
          (across_all key (family.counted ++ image_entries_of (upper_tables family)) (image_entries_of (lower_tables family)) (turn true (family.counted ++ image_entries_of (upper_tables family)) (image_entries_of (lower_tables family)) falls.1.behind)));
    }
