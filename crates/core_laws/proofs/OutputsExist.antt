-- A compaction of falling columns exists, and so does the joined list: so the events that ask for one can hold.
use Rattle.std.proofs.Common.{◌≡◌, ℕ, ◌<◌, ◌≤◌, Bool, true, false, cond, List, [], ◌∷◌, ◌++◌, length, take, drop, Ordering, Less, Equal, Greater, refl, sym, ap, subst, ◌∙◌, inl, inr, arith, append-nil, append_assoc}
use Rattle.std.specs.Prelude.{fold, flat_map, ◌||◌, ◌==◌, nat_lt, Some}
use Rattle.std.specs.Ordering.{nat_cmp, ordering_then, is_lt, is_eq, ordering_reverse}
use Rattle.std.specs.List.{list_any, AllByRecursion as Each}
use Rattle.std.proofs.lemmas.Bool.{cases_Bool, cases_lt, or_parts, and_from, false≢true, ltb-true}
use Rattle.std.proofs.lemmas.Cmp.{nat_list_cmp_total}
use Rattle.st_base.specs.Bytes.{bytes_cmp, below, same}
use Rattle.st_base.specs.Order.{position_cmp, comes_before, rises_behind, in_order}
use Rattle.st_base.specs.declared.entry.Entry.{Entry}
use Rattle.st_base.specs.declared.entry.Mark.TheVariants.{Gone}
use Rattle.st_base.proofs.Ordered.{key_up, number_down, entries_pairs}
use Rattle.st_base.proofs.Same.{same_is_eq, same_true, same_self}
use Rattle.st_base.specs.Range.{keys_of}
use Rattle.base_laws.proofs.Keys.{below_trans}
use Rattle.base_laws.proofs.Lists.{any_none, each_all, each_as, each_back, each_flat_map, each_front, each_passing, filter_none, filter_whole}
use Rattle.core_laws.specs.Claims.{CompactionExists, Compacts, upper_runs, lower_runs}
use Rattle.core_model.specs.Pick.{PickedTables, picked, compaction_of}
use Rattle.core_model.specs.Picture.{FileEntries, FamilyView, Job, Core, lowest_level, walk, above, memories, runs_of, tables_in, level_at}
use Rattle.core_model.specs.RelationParts.{FallOrZero, NumbersFall, IsView, LevelsApart}
use Rattle.core_laws.proofs.Columns.{compacted_each}
use Rattle.core_laws.proofs.Middle.{column_append, in_append, inputs_are_middle, tables_split, compacted_none}
use Rattle.core_laws.proofs.TableParts.{Differ}
use Rattle.core_laws.proofs.PickedJobs.{five}
use Rattle.core_laws.proofs.PickedRuns.{picked_good}
use Rattle.core_laws.proofs.Falls.{Weakly, LowerOrZero, compacted_falls}
use Rattle.core_laws.proofs.Members.{pairs_of_all}
use Rattle.core_laws.proofs.Lists.{filter_join, pairs_as, pairs_back, pairs_front, pairs_join}
use Rattle.core_model.specs.WellPicked.{IsWellPicked}
use Rattle.st_order.specs.Columns.{Pairwise, of_key, column, FallStrictly, IsJoined}
use Rattle.job_model.specs.Column.{kept, compacted}
use Rattle.job_laws.proofs.Rightward.{put_key}
use Rattle.job_model.specs.Drops.{covers}
use Rattle.job_laws.proofs.Rising.{keys_put}
use Rattle.st_order.specs.Sorted.{merged}
use Rattle.st_order.proofs.Columns.{is_joined}

-- ---- rising keys

abbrev pub Rise : List (List ℕ) → Type 0
Rise keys = Pairwise (λ one other. below one other ≡ true) keys

-- whether the key is among these
abbrev pub listed : List ℕ → List (List ℕ) → Bool
listed key keys = list_any (λ one. same one key) keys

-- neither the same nor before: behind
behind : (key other : List ℕ) → same key other ≡ false → below key other ≡ false → below other key ≡ true
behind key other differs not_less = ap is_lt (nat_list_cmp_total.antisymm other key) ∙ turned (bytes_cmp key other) (sym (same_is_eq key other) ∙ differs) not_less
  where
    turned : (o : Ordering) → is_eq o ≡ false → is_lt o ≡ false → is_lt (ordering_reverse o) ≡ true
    turned Less e l = absurd (false≢true (sym l))
    turned Equal e l = absurd (false≢true (sym e))
    turned Greater e l = refl

put_each : (P : List ℕ → Type 0) (keys : List (List ℕ)) (key : List ℕ) → Each P keys → P key → Each P (put_key keys key)
put_each P [] key each this = (this, tt)
put_each P (other ∷ others) key each this = split (same key other) (below key other) (put_each P others key each.1 this)
  where
    split : (b c : Bool) → Each P (put_key others key) → Each P (cond b (other ∷ others) (cond c (key ∷ other ∷ others) (other ∷ put_key others key)))
    split true c rest = each
    split false true rest = (this, each)
    split false false rest = (each.0, rest)

put_rises : (keys : List (List ℕ)) (key : List ℕ) → Rise keys → Rise (put_key keys key)
put_rises [] key rise = (tt, tt)
put_rises (other ∷ others) key rise = split (same key other) refl (below key other) refl (put_rises others key rise.1)
  where
    split : (b : Bool) → same key other ≡ b → (c : Bool) → below key other ≡ c → Rise (put_key others key) → Rise (cond b (other ∷ others) (cond c (key ∷ other ∷ others) (other ∷ put_key others key)))
    split true e c f rest = rise
    split false e true f rest = ((f, each_as (λ one. below other one ≡ true) (λ one. below key one ≡ true) (λ one g. below_trans key other one f g) others rise.0), rise)
    split false e false f rest = (put_each (λ one. below other one ≡ true) others key rise.0 (behind key other e f), rest)

puts_rise : (some keys : List (List ℕ)) → Rise some → Rise (fold put_key some keys)
puts_rise some [] rise = rise
puts_rise some (key ∷ keys) rise = puts_rise (put_key some key) keys (put_rises some key rise)

-- what isn't listed once a key is put, wasn't before, and isn't that key
put_lists : (keys : List (List ℕ)) (one key : List ℕ) → listed key (put_key keys one) ≡ false → (listed key keys ≡ false) × (same one key ≡ false)
put_lists [] one key e = (refl, (or_parts (same one key) false e).0)
put_lists (other ∷ others) one key e = split (same one other) refl (below one other) e (put_lists others one key)
  where
    split : (b : Bool) → same one other ≡ b → (c : Bool) → listed key (cond b (other ∷ others) (cond c (one ∷ other ∷ others) (other ∷ put_key others one))) ≡ false
        → (listed key (put_key others one) ≡ false → (listed key others ≡ false) × (same one key ≡ false)) → (listed key (other ∷ others) ≡ false) × (same one key ≡ false)
    split true is c f rest = (f, subst (λ k. same k key ≡ false) (sym (same_true one other is)) (or_parts (same other key) (listed key others) f).0)
    split false is true f rest = let p = or_parts (same one key) (listed key (other ∷ others)) f in (p.1, p.0)
    split false is false f rest =
        let p = or_parts (same other key) (listed key (put_key others one)) f in
        let q = rest p.1 in
        (or_both (same other key) (listed key others) p.0 q.0, q.1)
      where
        or_both : (x y : Bool) → x ≡ false → y ≡ false → (x || y) ≡ false
        or_both true y x-is y-is = x-is
        or_both false y x-is y-is = y-is

puts_list : (some keys : List (List ℕ)) (key : List ℕ) → listed key (fold put_key some keys) ≡ false → (listed key some ≡ false) × Each (λ one. same one key ≡ false) keys
puts_list some [] key e = (e, tt)
puts_list some (one ∷ keys) key e =
    let p = puts_list (put_key some one) keys key e in
    let q = put_lists some one key p.0 in
    (q.0, (q.1, p.1))

lacks_keys : (key : List ℕ) (entries : List Entry) → Each (λ one. same one key ≡ false) (keys_of entries) → of_key key entries ≡ []
lacks_keys key [] each = refl
lacks_keys key (entry ∷ entries) each = ap (λ b. cond b (entry ∷ of_key key entries) (of_key key entries)) each.0 ∙ lacks_keys key entries each.1

unlisted : (key : List ℕ) (runs : List (List Entry)) → Each (λ one. same one key ≡ false) (flat_map keys_of runs) → column key runs ≡ []
unlisted key [] each = refl
unlisted key (entries ∷ runs) each =
    ap (λ front. front ++ column key runs) (lacks_keys key entries (each_front (λ one. same one key ≡ false) (keys_of entries) (flat_map keys_of runs) each))
    ∙ unlisted key runs (each_back (λ one. same one key ≡ false) (keys_of entries) (flat_map keys_of runs) each)

-- a key that no run has isn't among their rising keys
pub unlisted_column : (key : List ℕ) (runs : List (List Entry)) → listed key (keys_put runs) ≡ false → column key runs ≡ []
unlisted_column key runs e = unlisted key runs (puts_list [] (flat_map keys_of runs) key e).1

-- ---- blocks, one for each key

pairs_in_order : (entries : List Entry) → Pairwise (λ one other. comes_before one other ≡ true) entries → in_order entries ≡ true
pairs_in_order [] pairs = refl
pairs_in_order (entry ∷ entries) pairs = behind_in_order entry entries pairs
  where
    behind_in_order : (one : Entry) (others : List Entry) → Pairwise (λ x y. comes_before x y ≡ true) (one ∷ others) → rises_behind comes_before one others ≡ true
    behind_in_order one others p = go others one p
      where
        go : (ys : List Entry) (x : Entry) → Pairwise (λ a b. comes_before a b ≡ true) (x ∷ ys) → rises_behind comes_before x ys ≡ true
        go [] x q = refl
        go (y ∷ ys) x q = and_from (comes_before x y) (rises_behind comes_before y ys) q.0.0 (go ys y q.1)

-- each entry of a key's block has the key, and numbers fall
pub record AreBlocks (block : List ℕ → List Entry) : Type 0 where
  pub keys : (key : List ℕ) → Each (λ entry. entry.key ≡ key) (block key)
  pub falls : (key : List ℕ) → FallStrictly (block key)

module _ (block : List ℕ → List Entry) (are : AreBlocks block) where
  of_own : (key : List ℕ) → of_key key (block key) ≡ block key
  of_own key =
      filter_whole (λ entry. same entry.key key) (block key)
      (each_as (λ entry. entry.key ≡ key) (λ entry. same entry.key key ≡ true) (λ entry e. subst (λ k. same k key ≡ true) (sym e) (same_self key)) (block key) (are.keys key))

  of_other : (key other : List ℕ) → same other key ≡ false → of_key key (block other) ≡ []
  of_other key other differs =
      filter_none (λ entry. same entry.key key) (block other)
      (each_as (λ entry. entry.key ≡ other) (λ entry. same entry.key key ≡ false) (λ entry e. subst (λ k. same k key ≡ false) (sym e) differs) (block other) (are.keys other))

  of_unlisted : (keys : List (List ℕ)) (key : List ℕ) → listed key keys ≡ false → of_key key (flat_map block keys) ≡ []
  of_unlisted [] key e = refl
  of_unlisted (one ∷ keys) key e =
      let p = or_parts (same one key) (listed key keys) e in
      filter_join (λ entry. same entry.key key) (block one) (flat_map block keys)
      ∙ ap (λ front. front ++ of_key key (flat_map block keys)) (of_other key one p.0)
      ∙ of_unlisted keys key p.1

  -- keys behind a key aren't that key
  not_behind : (keys : List (List ℕ)) (one key : List ℕ) → same one key ≡ true → Each (λ other. below one other ≡ true) keys → listed key keys ≡ false
  not_behind keys one key is each =
      any_none (λ other. same other key) keys
      (each_as (λ other. below one other ≡ true) (λ other. same other key ≡ false) (λ other less. differs other less) keys each)
    where
      is_not : (o : Ordering) → is_lt o ≡ true → is_eq o ≡ false
      is_not Less e = refl
      is_not Equal e = absurd (false≢true e)
      is_not Greater e = refl

      differs : (other : List ℕ) → below one other ≡ true → same other key ≡ false
      differs other less = elim (cases_Bool (same other key)) [
        | inl too ↦ absurd (false≢true (sym (same_is_eq one other ∙ is_not (bytes_cmp one other) less)
            ∙ subst (λ k. same one k ≡ true) (same_true one key is ∙ sym (same_true other key too)) (same_self one)))
        | inr not ↦ not
      ]

  of_listed : (keys : List (List ℕ)) (key : List ℕ) → Rise keys → listed key keys ≡ true → of_key key (flat_map block keys) ≡ block key
  of_listed [] key rise e = absurd (false≢true e)
  of_listed (one ∷ keys) key rise e = elim (cases_Bool (same one key)) [
    | inl is ↦
        let same_key : one ≡ key = same_true one key is in
        filter_join (λ entry. same entry.key key) (block one) (flat_map block keys)
        ∙ ap (λ rest. of_key key (block one) ++ rest) (of_unlisted keys key (not_behind keys one key is rise.0))
        ∙ append-nil (of_key key (block one))
        ∙ ap (λ k. of_key key (block k)) same_key
        ∙ of_own key
    | inr isn't ↦
        filter_join (λ entry. same entry.key key) (block one) (flat_map block keys)
        ∙ ap (λ front. front ++ of_key key (flat_map block keys)) (of_other key one isn't)
        ∙ of_listed keys key rise.1 (subst (λ b. (b || listed key keys) ≡ true) isn't e)
  ]

  up : (one other : Entry) → below one.key other.key ≡ true → comes_before one other ≡ true
  up one other less = ap is_lt (key_up one.key other.key one.number other.number (is_less (bytes_cmp one.key other.key) less))
    where
      is_less : (o : Ordering) → is_lt o ≡ true → o ≡ Less
      is_less Less e = refl
      is_less Equal e = absurd (false≢true e)
      is_less Greater e = absurd (false≢true e)

  down : (one other : Entry) → one.key ≡ other.key → other.number < one.number → comes_before one other ≡ true
  down one other e less = subst (λ k. is_lt (position_cmp one.key one.number k other.number) ≡ true) e (ap is_lt (number_down one.key one.number other.number less))

  block_pairs : (key : List ℕ) (entries : List Entry) → Each (λ entry. entry.key ≡ key) entries → FallStrictly entries → Pairwise (λ one other. comes_before one other ≡ true) entries
  block_pairs key [] keys falls = tt
  block_pairs key (entry ∷ entries) keys falls = (each_down entries keys.1 falls.0, block_pairs key entries keys.1 falls.1)
    where
      each_down : (others : List Entry) → Each (λ one. one.key ≡ key) others → Each (λ other. other.number < entry.number) others → Each (λ other. comes_before entry other ≡ true) others
      each_down [] same-keys less = tt
      each_down (other ∷ others) same-keys less = (down entry other (keys.0 ∙ sym same-keys.0) less.0, each_down others same-keys.1 less.1)

  flat_pairs : (keys : List (List ℕ)) → Rise keys → Pairwise (λ one other. comes_before one other ≡ true) (flat_map block keys)
  flat_pairs [] rise = tt
  flat_pairs (key ∷ keys) rise =
      pairs_join (λ one other. comes_before one other ≡ true) (block key) (flat_map block keys) (block_pairs key (block key) (are.keys key) (are.falls key)) (flat_pairs keys rise.1)
      (each_as (λ one. one.key ≡ key) (λ one. Each (λ other. comes_before one other ≡ true) (flat_map block keys))
      (λ one is. each_flat_map (λ other. comes_before one other ≡ true) block keys
      (each_as (λ other. below key other ≡ true) (λ other. Each (λ entry. comes_before one entry ≡ true) (block other))
      (λ other less. each_as (λ entry. entry.key ≡ other) (λ entry. comes_before one entry ≡ true)
      (λ entry there. up one entry (subst (λ k. below k entry.key ≡ true) (sym is) (subst (λ k. below key k ≡ true) (sym there) less))) (block other) (are.keys other)) keys rise.0)) (block key) (are.keys key))

  pub blocks_ordered : (runs : List (List Entry)) → in_order (flat_map block (keys_put runs)) ≡ true
  blocks_ordered runs = pairs_in_order (flat_map block (keys_put runs)) (flat_pairs (keys_put runs) (puts_rise [] (flat_map keys_of runs) tt))

  -- the block of each key, where the keys that no run has have none
  pub blocks_column : (runs : List (List Entry)) (key : List ℕ) → (column key runs ≡ [] → block key ≡ []) → of_key key (flat_map block (keys_put runs)) ≡ block key
  blocks_column runs key none = elim (cases_Bool (listed key (keys_put runs))) [
    | inl is ↦ of_listed (keys_put runs) key (puts_rise [] (flat_map keys_of runs) tt) is
    | inr isn't ↦ of_unlisted (keys_put runs) key isn't ∙ sym (none (unlisted_column key runs isn't))
  ]

-- ---- what exists

column_keys : (key : List ℕ) (runs : List (List Entry)) → Each (λ entry. entry.key ≡ key) (column key runs)
column_keys key runs = each_flat_map (λ entry. entry.key ≡ key) (of_key key) runs (each_all (λ entries. Each (λ entry. entry.key ≡ key) (of_key key entries)) keys runs)
  where
    keys : (entries : List Entry) → Each (λ entry. entry.key ≡ key) (of_key key entries)
    keys entries = go entries
      where
        go : (xs : List Entry) → Each (λ entry. entry.key ≡ key) (of_key key xs)
        go [] = tt
        go (x ∷ xs) = keep (same x.key key) refl (go xs)
          where
            keep : (b : Bool) → same x.key key ≡ b → Each (λ entry. entry.key ≡ key) (of_key key xs) → Each (λ entry. entry.key ≡ key) (cond b (x ∷ of_key key xs) (of_key key xs))
            keep true e rest = (same_true x.key key e, rest)
            keep false e rest = rest

-- columns don't rise
abbrev pub ColumnsFall : List (List Entry) → Type 0
ColumnsFall runs = (key : List ℕ) → Pairwise Weakly (column key runs)

-- columns fall, up to numbers 0
abbrev pub ColumnsFallOrZero : List (List Entry) → Type 0
ColumnsFallOrZero runs = (key : List ℕ) → Pairwise FallOrZero (column key runs)

-- so they don't rise
pub fall_weakly : (runs : List (List Entry)) → ColumnsFallOrZero runs → ColumnsFall runs
fall_weakly runs falls key = pairs_as FallOrZero Weakly weakly (column key runs) (falls key)
  where
    weakly : (one other : Entry) → FallOrZero one other → other.number ≤ one.number
    weakly one other (inl lt) = omega arith
    weakly one other (inr (zero_, none)) = omega arith

-- there is a compaction of runs whose columns don't rise
pub compaction_exists : CompactionExists
compaction_exists inputs live drops falls = (
  flat_map block (keys_put inputs),
  record {
    ordered = blocks_ordered block are inputs;
    columns = λ key. blocks_column block are inputs key (λ none. ap (compacted live (covers drops key)) none ∙ compacted_none live (covers drops key));
  },
)
  where
    block : List ℕ → List Entry
    block key = compacted live (covers drops key) (column key inputs)

    are : AreBlocks (λ key. compacted live (covers drops key) (column key inputs))
    are = record {
      keys = λ key. compacted_each (λ entry. entry.key ≡ key) live (covers drops key) (column key inputs) (column_keys key inputs);
      falls = λ key. compacted_falls live (covers drops key) (column key inputs) (falls key);
    }

-- there is a joined list of runs whose columns fall
pub joined_exists : (runs : List (List Entry)) → ((key : List ℕ) → FallStrictly (column key runs)) → (entries : List Entry) × IsJoined runs entries
joined_exists runs falls = (merged runs, is_joined runs falls)

-- the columns of a running compaction's inputs fall, up to numbers 0
pub inputs_fall : (low : ℕ) (family : FamilyView) (job : Job) → Compacts low family job → NumbersFall family → ColumnsFallOrZero job.inputs
inputs_fall low family job compacts falls key =
    pairs_front FallOrZero (column key job.inputs) (column key (lower_runs family job))
    (pairs_back FallOrZero (column key (upper_runs family job)) (column key job.inputs ++ column key (lower_runs family job))
    (subst (Pairwise FallOrZero) (sym whole ∙ inputs_are_middle low family job key compacts)
    (pairs_join FallOrZero (column key (above family 6)) (column key (runs_of (level_at family 6))) (weak (column key (above family 6)) (falls key).above) (weak (column key (runs_of (level_at family 6))) (falls key).below)
    (each_as (λ one. Each (LowerOrZero one) (column key (runs_of (level_at family 6)))) (λ one. Each (FallOrZero one) (column key (runs_of (level_at family 6))))
    (λ one each. each_as (LowerOrZero one) (FallOrZero one) (weakly one) (column key (runs_of (level_at family 6))) each) (column key (above family 6)) (falls key).across))))
  where
    weak : (entries : List Entry) → FallStrictly entries → Pairwise FallOrZero entries
    weak entries p = pairs_as (λ one other. other.number < one.number) FallOrZero (λ one other lt. inl lt) entries p

    weakly : (one other : Entry) → LowerOrZero one other → FallOrZero one other
    weakly one other (inl lt) = inl lt
    weakly one other (inr none) = elim (cases_lt 0 one.number) [ inl some ↦ inl (omega arith) | inr le ↦ inr ((omega arith), none) ]

    no_more : (levels : List (List FileEntries)) → length levels ≤ 7 → tables_in (drop 7 levels) ≡ []
    no_more [] le = refl
    no_more (a ∷ []) le = refl
    no_more (a ∷ b ∷ []) le = refl
    no_more (a ∷ b ∷ c ∷ []) le = refl
    no_more (a ∷ b ∷ c ∷ d ∷ []) le = refl
    no_more (a ∷ b ∷ c ∷ d ∷ e ∷ []) le = refl
    no_more (a ∷ b ∷ c ∷ d ∷ e ∷ f ∷ []) le = refl
    no_more (a ∷ b ∷ c ∷ d ∷ e ∷ f ∷ g ∷ []) le = refl
    no_more (a ∷ b ∷ c ∷ d ∷ e ∷ f ∷ g ∷ h ∷ levels) le = absurd (omega arith)

    -- the walk is what stands above level 6, and level 6
    whole : column key (walk family) ≡ column key (above family 6) ++ column key (runs_of (level_at family 6))
    whole =
        column_append key (memories family) (runs_of (tables_in family.levels))
        ∙ ap (λ tables. column key (memories family) ++ column key (runs_of tables)) (tables_split family 6 (omega (arith, compacts.view.levels)) ∙ ap (λ rest. tables_in (take 6 family.levels) ++ (level_at family 6 ++ rest)) (no_more family.levels (omega (arith, compacts.view.levels))))
        ∙ ap (λ tables. column key (memories family) ++ column key (runs_of (tables_in (take 6 family.levels) ++ tables))) (append-nil (level_at family 6))
        ∙ ap (λ rest. column key (memories family) ++ rest) (in_both (tables_in (take 6 family.levels)) (level_at family 6))
        ∙ sym (append_assoc (column key (memories family)) (column key (runs_of (tables_in (take 6 family.levels)))) (column key (runs_of (level_at family 6))))
        ∙ sym (ap (λ front. front ++ column key (runs_of (level_at family 6))) (column_append key (memories family) (runs_of (tables_in (take 6 family.levels)))))
      where
        in_both : (one other : List FileEntries) → column key (runs_of (one ++ other)) ≡ column key (runs_of one) ++ column key (runs_of other)
        in_both one other = in_append key one other

-- ---- what is picked can be compacted: a fact of the job alone, which lasts also where its family goes

pub picked_falls : (core : Core) (family : FamilyView) (whole : Bool) (chosen : PickedTables) → IsView family → LevelsApart family → NumbersFall family → Pairwise Differ (tables_in family.levels)
    → picked core family whole ≡ Some chosen → ColumnsFallOrZero (compaction_of core family chosen).inputs
picked_falls core family whole chosen view apart falls differ is =
    let good : IsWellPicked core family chosen = picked_good core family whole chosen view apart differ is in
    inputs_fall (lowest_level core) family (compaction_of core family chosen)
    (record { view = view; apart = apart; positive = good.positive; bottom = (five core).1; running = good.compacts; range = refl }) falls

falls_of_positions : (key other : List ℕ) (m n : ℕ) → same key other ≡ true → is_lt (position_cmp key m other n) ≡ true → n < m
falls_of_positions key other m n is before = by_cmp (bytes_cmp key other) (sym (same_is_eq key other) ∙ is) before
  where
    not_lt : (b : Bool) → is_lt (cond b Equal Greater) ≡ false
    not_lt true = refl
    not_lt false = refl

    by_cmp : (o : Ordering) → is_eq o ≡ true → is_lt (ordering_then o (nat_cmp n m)) ≡ true → n < m
    by_cmp Less e b = absurd (false≢true e)
    by_cmp Equal e b = elim (cases_Bool (nat_lt n m)) [
      | inl less ↦ ltb-true n m less
      | inr not_less ↦ absurd (false≢true (sym (ap (λ t. is_lt (cond t Less (cond (n == m) Equal Greater))) not_less ∙ not_lt (n == m)) ∙ b))
    ]
    by_cmp Greater e b = absurd (false≢true e)

-- of entries in order, those of one key fall
key_falls : (key : List ℕ) (entries : List Entry) → Pairwise (λ one other. comes_before one other ≡ true) entries → FallStrictly (of_key key entries)
key_falls key [] pairs = tt
key_falls key (entry ∷ entries) pairs = keep (same entry.key key) refl (key_falls key entries pairs.1)
  where
    lower : same entry.key key ≡ true → Each (λ other. other.number < entry.number) (of_key key entries)
    lower is =
        each_passing (λ other. other.number < entry.number) (λ other. same other.key key) entries
        (each_as (λ other. comes_before entry other ≡ true) (λ other. same other.key key ≡ true → other.number < entry.number)
        (λ other before too. falls_of_positions entry.key other.key entry.number other.number (subst (λ k. same entry.key k ≡ true) (same_true entry.key key is ∙ sym (same_true other.key key too)) (same_self entry.key)) before) entries pairs.0)

    keep : (b : Bool) → same entry.key key ≡ b → FallStrictly (of_key key entries) → FallStrictly (cond b (entry ∷ of_key key entries) (of_key key entries))
    keep true is rest = (lower is, rest)
    keep false is rest = rest

-- a memtable can be flushed
pub memory_falls : (entries : List Entry) → in_order entries ≡ true → ColumnsFallOrZero (entries ∷ [])
memory_falls entries ordered key =
    subst (Pairwise FallOrZero) (sym (append-nil (of_key key entries)))
    (pairs_as (λ one other. other.number < one.number) FallOrZero (λ one other lt. inl lt) (of_key key entries)
    (key_falls key entries (pairs_of_all (λ one other. comes_before one other ≡ true) entries (entries_pairs entries ordered))))

-- why columns must fall: of the numbers 5, 7, 6 with 6 live, 5 and 6 are kept, which no list in entry order has
abbrev numbered : ℕ → Entry
numbered number = record { key = 107 ∷ []; number = number; mark = Gone }

row_rising : kept (6 ∷ []) (numbered 5 ∷ numbered 7 ∷ numbered 6 ∷ []) ≡ numbered 5 ∷ numbered 6 ∷ []
row_rising = refl

row_rising_order : comes_before (numbered 5) (numbered 6) ≡ false
row_rising_order = refl
