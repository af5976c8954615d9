-- A write: its entries head their columns, and are the model's last writes.
use Rattle.std.proofs.Common.{◌≡◌, ℕ, zero, suc, ◌+◌, ◌<◌, ◌≤◌, ◌⊎◌, Bool, true, false, cond, ◌&&◌, List, [], ◌∷◌, ◌++◌, length, filter, Option, Some, Ordering, Less, Equal, Greater, option_map, is_lt, refl, sym, ap, ap₂, subst, ◌∙◌, inl, inr, arith}
use Rattle.std.specs.Prelude.{IsTrue, nat_le, take}
use Rattle.std.specs.List.{list_any, AllByRecursion as Each}
use Rattle.std.specs.Option.{option_or}
use Rattle.std.specs.Ordering.{ordering_reverse}
use Rattle.std.proofs.lemmas.Bool.{false≢true, and_from, and_parts, le-leb, or_left, or_right}
use Rattle.std.proofs.lemmas.List.Elements.{filter-append}
use Rattle.st_base.specs.Bytes.{same}
use Rattle.st_base.specs.Entries.{last_mark}
use Rattle.st_base.specs.Map.{value_at, changed_at}
use Rattle.st_base.specs.Order.{position_cmp, comes_before, rises_behind, in_order}
use Rattle.st_base.specs.declared.entry.Mark.{Mark}
use Rattle.st_base.specs.declared.entry.Entry.{Entry}
use Rattle.st_base.proofs.Ordered.{positions_total, positions_strict, number_down}
use Rattle.st_model.specs.declared.change.Op.{Op}
use Rattle.st_model.specs.declared.state.ModelFamily.{ModelFamily}
use Rattle.st_model.specs.Apply.{op_family, op_entry, with_write, with_ops as model_ops}
use Rattle.st_base.specs.Range.{has_key}
use Rattle.st_model.specs.Read.{mark_at, value_of}
use Rattle.st_model.specs.Sound.{WritesWithin}
use Rattle.st_model.specs.State.{is_known}
use Rattle.base_laws.proofs.Lists.{any_left, each_as, each_back, each_front, each_join, each_map, map_each}
use Rattle.st_base.proofs.Same.{same_self, same_true}
use Rattle.core_model.specs.Picture.{FileEntries, FamilyView, level_at, runs_of, tables_in, memories, above, walk, find_mark}
use Rattle.core_model.specs.RelationParts.{IsNewer, HasKnownKeys, HasWritten, FitsSizes}
use Rattle.core_model.specs.Step.{put_in_memory, with_memory_entry, with_operations}
use Rattle.core_laws.proofs.ByPlace.{each_both}
use Rattle.core_laws.proofs.NamedLists.{Zipped, zip_changed}
use Rattle.core_laws.proofs.FamilyPair.{IsRead, Pair}
use Rattle.core_laws.proofs.InstalledLevels.{column_each}
use Rattle.core_laws.proofs.FileColumns.{each_level as level_part}
use Rattle.st_order.specs.Columns.{of_key, column, FallStrictly}
use Rattle.job_model.specs.Column.{first_at, found_at}

-- ---- an entry above all others of a memtable

-- of two entries of different numbers one comes before the other
other_way : (e o : Entry) → o.number < e.number → comes_before e o ≡ false → comes_before o e ≡ true
other_way e o lt later = by (position_cmp e.key e.number o.key o.number) refl
  where
    by : (r : Ordering) → position_cmp e.key e.number o.key o.number ≡ r → comes_before o e ≡ true
    by Less h = absurd (false≢true (sym later ∙ ap is_lt h))
    by Equal h = absurd (let eq : e.number ≡ o.number = (positions_strict e.key o.key e.number o.number h).1 in omega arith)
    by Greater h = ap is_lt (positions_total.antisymm (o.key, o.number) (e.key, e.number) ∙ ap ordering_reverse h)

-- it comes before those of its key
before_own : (e o : Entry) → o.number < e.number → same e.key o.key ≡ true → comes_before e o ≡ true
before_own e o lt own = ap is_lt (subst (λ k. position_cmp e.key e.number k o.number ≡ Less) (same_true e.key o.key own) (number_down e.key e.number o.number lt))

pub put_heads : (e : Entry) (mem : List Entry) (key : List ℕ) → Each (λ other. other.number < e.number) mem → of_key key (put_in_memory e mem) ≡ of_key key (e ∷ mem)
put_heads e [] key h = refl
put_heads e (o ∷ os) key h = at (comes_before e o) refl (put_heads e os key h.1)
  where
    mix : (s t : Bool) (P A : List Entry) → P ≡ cond s (e ∷ A) A → (s ≡ true → t ≡ false) → cond t (o ∷ P) P ≡ cond s (e ∷ cond t (o ∷ A) A) (cond t (o ∷ A) A)
    mix true true P A r never = absurd (false≢true (sym (never refl)))
    mix true false P A r never = r
    mix false true P A r never = ap (λ (rest : List Entry). o ∷ rest) r
    mix false false P A r never = r

    not_own : comes_before e o ≡ false → same e.key key ≡ true → same o.key key ≡ false
    not_own c s = by (same o.key key) refl
      where
        by : (b : Bool) → same o.key key ≡ b → same o.key key ≡ false
        by true t = absurd (false≢true (sym c ∙ before_own e o h.0 (subst (λ k. same e.key k ≡ true) (sym (same_true o.key key t)) s)))
        by false t = t

    at : (b : Bool) → comes_before e o ≡ b → of_key key (put_in_memory e os) ≡ of_key key (e ∷ os) → of_key key (cond b (e ∷ o ∷ os) (o ∷ put_in_memory e os)) ≡ of_key key (e ∷ o ∷ os)
    at true c rest = refl
    at false c rest = mix (same e.key key) (same o.key key) (of_key key (put_in_memory e os)) (of_key key os) rest (not_own c)

pub put_each : (P : Entry → Type 0) (e : Entry) (mem : List Entry) → P e → Each P mem → Each P (put_in_memory e mem)
put_each P e [] p h = (p, tt)
put_each P e (o ∷ os) p h = at (comes_before e o) (put_each P e os p h.1)
  where
    at : (b : Bool) → Each P (put_in_memory e os) → Each P (cond b (e ∷ o ∷ os) (o ∷ put_in_memory e os))
    at true rest = (p, h)
    at false rest = (h.0, rest)

put_behind : (e o : Entry) (os : List Entry) → Each (λ other. other.number < e.number) os → comes_before o e ≡ true → rises_behind comes_before o os ≡ true → rises_behind comes_before o (put_in_memory e os) ≡ true
put_behind e o [] h c r = and_from (comes_before o e) true c refl
put_behind e o (p ∷ ps) h c r =
    let parts = and_parts (comes_before o p) (rises_behind comes_before p ps) r in
    at (comes_before e p) refl parts.0 parts.1 (λ after. put_behind e p ps h.1 after parts.1)
  where
    at : (b : Bool) → comes_before e p ≡ b → comes_before o p ≡ true → rises_behind comes_before p ps ≡ true → (comes_before p e ≡ true → rises_behind comes_before p (put_in_memory e ps) ≡ true)
        → rises_behind comes_before o (cond b (e ∷ p ∷ ps) (p ∷ put_in_memory e ps)) ≡ true
    at true f up rest later = and_from (comes_before o e) (comes_before e p && rises_behind comes_before p ps) c (and_from (comes_before e p) (rises_behind comes_before p ps) f rest)
    at false f up rest later = and_from (comes_before o p) (rises_behind comes_before p (put_in_memory e ps)) up (later (other_way e p h.0 f))

pub put_in_order : (e : Entry) (mem : List Entry) → Each (λ other. other.number < e.number) mem → in_order mem ≡ true → in_order (put_in_memory e mem) ≡ true
put_in_order e [] h r = refl
put_in_order e (o ∷ os) h r = at (comes_before e o) refl
  where
    at : (b : Bool) → comes_before e o ≡ b → in_order (cond b (e ∷ o ∷ os) (o ∷ put_in_memory e os)) ≡ true
    at true f = and_from (comes_before e o) (rises_behind comes_before o os) f r
    at false f = put_behind e o os h.1 (other_way e o h.0 f) r

-- ---- one more entry on both sides

under : (last : ℕ) (e : Entry) → e.number ≡ last + 1 → (xs : List Entry) → Each (λ entry. entry.number ≤ last) xs → Each (λ other. other.number < e.number) xs
under last e at xs h = each_as (λ (entry : Entry). entry.number ≤ last) (λ other. other.number < e.number) (λ other le. omega arith) xs h

cond_front : (b : Bool) (e : Entry) (A B : List Entry) → cond b (e ∷ A) A ++ B ≡ cond b (e ∷ (A ++ B)) (A ++ B)
cond_front true e A B = refl
cond_front false e A B = refl

heads : (e : Entry) (mem : List Entry) (rest : List (List Entry)) (key : List ℕ) → Each (λ other. other.number < e.number) mem
    → column key (put_in_memory e mem ∷ rest) ≡ cond (same e.key key) (e ∷ column key (mem ∷ rest)) (column key (mem ∷ rest))
heads e mem rest key h = ap (λ (front : List Entry). front ++ column key rest) (put_heads e mem key h) ∙ cond_front (same e.key key) e (of_key key mem) (column key rest)

found_headed : (s : Bool) (number : ℕ) (e : Entry) (C : List Entry) → found_at number (cond s (e ∷ C) C) ≡ cond (s && nat_le e.number number) (Some e.mark) (found_at number C)
found_headed true number e C = by (nat_le e.number number)
  where
    by : (t : Bool) → option_map (λ (one : Entry). one.mark) (cond t (Some e) (first_at number C)) ≡ cond t (Some e.mark) (found_at number C)
    by true = refl
    by false = refl
found_headed false number e C = refl

pub find_written : (e : Entry) (family : FamilyView) (number : ℕ) (key : List ℕ) → Each (λ other. other.number < e.number) family.mem
    → find_mark (with_memory_entry e family) number key ≡ cond (same e.key key && nat_le e.number number) (Some e.mark) (find_mark family number key)
find_written e family number key h =
    ap (found_at number) (heads e family.mem (family.sealed ++ runs_of (tables_in family.levels)) key h)
    ∙ found_headed (same e.key key) number e (column key (walk family))

last_push : (xs : List Entry) (e : Entry) → last_mark (xs ++ e ∷ []) ≡ Some e.mark
last_push [] e = refl
last_push (x ∷ xs) e = ap (λ (o : Option Mark). option_or o (Some x.mark)) (last_push xs e)

pub mark_written : (e : Entry) (kept : ModelFamily) (number : ℕ) (key : List ℕ)
    → mark_at (with_write e kept) number key ≡ cond (same e.key key && nat_le e.number number) (Some e.mark) (mark_at kept number key)
mark_written e kept number key =
    ap (λ (writes : List Entry). option_or (last_mark writes) (value_at kept.base key)) (filter-append test kept.writes (e ∷ []))
    ∙ by (same e.key key && nat_le e.number number)
  where
    test : Entry → Bool
    test write = same write.key key && nat_le write.number number

    old : List Entry
    old = filter test kept.writes

    nil : (xs : List Entry) → xs ++ [] ≡ xs
    nil [] = refl
    nil (x ∷ xs) = ap (λ (rest : List Entry). x ∷ rest) (nil xs)

    by : (b : Bool) → option_or (last_mark (old ++ cond b (e ∷ []) [])) (value_at kept.base key) ≡ cond b (Some e.mark) (option_or (last_mark old) (value_at kept.base key))
    by true = ap (λ (o : Option Mark). option_or o (value_at kept.base key)) (last_push old e)
    by false = ap (λ (writes : List Entry). option_or (last_mark writes) (value_at kept.base key)) (nil old)

-- above the last number all is read as at it
pub found_above : (last number : ℕ) (xs : List Entry) → last ≤ number → Each (λ entry. entry.number ≤ last) xs → found_at number xs ≡ found_at last xs
found_above last number [] le h = refl
found_above last number (x ∷ xs) le h =
    ap (λ b. option_map (λ (one : Entry). one.mark) (cond b (Some x) (first_at number xs))) (le-leb x.number number (omega (arith, h.0)))
    ∙ sym (ap (λ b. option_map (λ (one : Entry). one.mark) (cond b (Some x) (first_at last xs))) (le-leb x.number last h.0))

pub mark_above : (last number : ℕ) (kept : ModelFamily) (key : List ℕ) → last ≤ number → WritesWithin last kept → mark_at kept number key ≡ mark_at kept last key
mark_above last number kept key le h = ap (λ (writes : List Entry). option_or (last_mark writes) (value_at kept.base key)) (filters kept.writes h)
  where
    filters : (ws : List Entry) → Each (λ write. write.number ≤ last) ws → filter (λ write. same write.key key && nat_le write.number number) ws ≡ filter (λ write. same write.key key && nat_le write.number last) ws
    filters [] h = refl
    filters (w ∷ ws) h =
        ap₂ (λ (b : Bool) (rest : List Entry). cond (same w.key key && b) (w ∷ rest) rest) (le-leb w.number number (omega (arith, h.0)) ∙ sym (le-leb w.number last h.0)) (filters ws h.1)

-- a read at the next number is one of those before
pub record Older (last : ℕ) (live : List ℕ) (family : FamilyView) (kept : ModelFamily) (number : ℕ) : Type 0 where
  pub before : ℕ
  pub there : IsRead last live before
  pub core : (key : List ℕ) → find_mark family number key ≡ find_mark family before key
  pub model : (key : List ℕ) → mark_at kept number key ≡ mark_at kept before key

pub older : (behind : Bool) (last next : ℕ) (live : List ℕ) (family : FamilyView) (kept : ModelFamily) (number : ℕ) → last ≤ next → Pair behind last live family kept → IsRead next live number → Older last live family kept number
older behind last next live family kept number le p (inl e) = record {
  before = last;
  there = inl refl;
  core = λ key. found_above last number (column key (walk family)) (omega arith) (column_each (λ entry. entry.number ≤ last) key (walk family) p.within);
  model = λ key. mark_above last number kept key (omega arith) p.writes;
}
older behind last next live family kept number le p (inr there) = record { before = number; there = inr there; core = λ key. refl; model = λ key. refl }

within_more : (last next : ℕ) → last ≤ next → (runs : List (List Entry)) → Each (Each (λ entry. entry.number ≤ last)) runs → Each (Each (λ entry. entry.number ≤ next)) runs
within_more last next le runs h =
    each_as (Each (λ (entry : Entry). entry.number ≤ last)) (Each (λ entry. entry.number ≤ next)) (λ run k. each_as (λ (entry : Entry). entry.number ≤ last) (λ entry. entry.number ≤ next) (λ entry l. omega arith) run k) runs h

-- the last number grows
pub pair_later : (behind : Bool) (last next : ℕ) (live : List ℕ) (family : FamilyView) (kept : ModelFamily) → last ≤ next → Pair behind last live family kept → Pair behind next live family kept
pair_later behind last next live family kept le p = record {
  id = p.id;
  reads = λ number key there.
      let o = older behind last next live family kept number le p there in
      ap value_of (o.core key) ∙ p.reads o.before key o.there ∙ sym (ap value_of (o.model key));
  marks = λ flag number key there.
      let o = older behind last next live family kept number le p there in
      o.core key ∙ p.marks flag o.before key o.there ∙ sym (o.model key);
  falls = p.falls;
  within = within_more last next le (walk family) p.within;
  apart = p.apart;
  ranges = p.ranges;
  known = p.known;
  written = p.written;
  view = p.view;
  writes = each_as (λ (write : Entry). write.number ≤ last) (λ write. write.number ≤ next) (λ write l. omega arith) kept.writes p.writes;
}

any_push : {X : Type 0} (test : X → Bool) (xs : List X) (x : X) → test x ≡ true → list_any test (xs ++ x ∷ []) ≡ true
any_push test [] x h = or_left (test x) false h
any_push test (y ∷ ys) x h = or_right (test y) (list_any test (ys ++ x ∷ [])) (any_push test ys x h)

fall_headed : (s : Bool) (e : Entry) (C : List Entry) → Each (λ other. other.number < e.number) C → FallStrictly C → FallStrictly (cond s (e ∷ C) C)
fall_headed true e C h f = (h, f)
fall_headed false e C h f = f

across_headed : (s : Bool) (e : Entry) (C L : List Entry) → Each (λ other. (other.number < e.number) ⊎ (other.number ≡ 0)) L → Each (λ one. Each (λ other. (other.number < one.number) ⊎ (other.number ≡ 0)) L) C
    → Each (λ one. Each (λ other. (other.number < one.number) ⊎ (other.number ≡ 0)) L) (cond s (e ∷ C) C)
across_headed true e C L h f = (h, f)
across_headed false e C L h f = f

take_part : (P : FileEntries → Type 0) (levels : List (List FileEntries)) (n : ℕ) → Each P (tables_in levels) → Each P (tables_in (take n levels))
take_part P levels zero h = tt
take_part P [] (suc n) h = tt
take_part P (level ∷ levels) (suc n) h = each_join P level (tables_in (take n levels)) (each_front P level (tables_in levels) h) (take_part P levels n (each_back P level (tables_in levels) h))

-- what holds of each run of the walk holds above a level and at one
pub each_above : (P : List Entry → Type 0) (family : FamilyView) (n : ℕ) → Each P (walk family) → Each P (above family n)
each_above P family n h =
    each_join P (memories family) (runs_of (tables_in (take n family.levels))) (each_front P (memories family) (runs_of (tables_in family.levels)) h)
    (each_map P (λ (table : FileEntries). table.entries) (tables_in (take n family.levels))
    (take_part (λ table. P table.entries) family.levels n (map_each P (λ (table : FileEntries). table.entries) (tables_in family.levels) (each_back P (memories family) (runs_of (tables_in family.levels)) h))))

pub each_level : (P : List Entry → Type 0) (family : FamilyView) (n : ℕ) → Each P (walk family) → Each P (runs_of (level_at family n))
each_level P family n h =
    each_map P (λ (table : FileEntries). table.entries) (level_at family n)
    (level_part (λ table. P table.entries) family.levels n (map_each P (λ (table : FileEntries). table.entries) (tables_in family.levels) (each_back P (memories family) (runs_of (tables_in family.levels)) h)))

pub pair_written : (behind : Bool) (last : ℕ) (live : List ℕ) (family : FamilyView) (kept : ModelFamily) (e : Entry) → e.number ≡ last + 1 → FitsSizes e
    → Pair behind last live family kept → Pair behind (last + 1) live (with_memory_entry e family) (with_write e kept)
pair_written behind last live family kept e at fits p = record {
  id = p.id;
  reads = λ number key there.
      let o = older behind last (last + 1) live family kept number (omega arith) p there in
      ap value_of (find_written e family number key mem_under) ∙ mixed (same e.key key && nat_le e.number number) (find_mark family number key) (mark_at kept number key) (ap value_of (o.core key) ∙ p.reads o.before key o.there ∙ sym (ap value_of (o.model key)))
      ∙ sym (ap value_of (mark_written e kept number key));
  marks = λ flag number key there.
      let o = older behind last (last + 1) live family kept number (omega arith) p there in
      find_written e family number key mem_under ∙ ap (cond (same e.key key && nat_le e.number number) (Some e.mark)) (o.core key ∙ p.marks flag o.before key o.there ∙ sym (o.model key)) ∙ sym (mark_written e kept number key);
  falls = λ key. record {
    above = subst FallStrictly (sym (above_is key)) (fall_headed (same e.key key) e (column key (above family 6)) (under last e at (column key (above family 6)) (above_within key)) (p.falls key).above);
    below = (p.falls key).below;
    across = subst (λ upper. Each (λ one. Each (λ other. (other.number < one.number) ⊎ (other.number ≡ 0)) (column key (runs_of (level_at family 6)))) upper) (sym (above_is key))
        (across_headed (same e.key key) e (column key (above family 6)) (column key (runs_of (level_at family 6)))
        (each_as (λ (entry : Entry). entry.number ≤ last) (λ other. (other.number < e.number) ⊎ (other.number ≡ 0)) (λ other le. inl (omega arith)) (column key (runs_of (level_at family 6)))
        (column_each (λ entry. entry.number ≤ last) key (runs_of (level_at family 6)) (each_level (Each (λ entry. entry.number ≤ last)) family 6 p.within)))
        (p.falls key).across);
  };
  within = (put_each (λ entry. entry.number ≤ last + 1) e family.mem (omega arith) later.0, later.1);
  apart = p.apart;
  ranges = p.ranges;
  known = (put_each (λ entry. IsTrue (is_known (with_write e kept) entry.key)) e family.mem (any_push (λ known. same known e.key) kept.known e.key (same_self e.key)) knows.0, knows.1);
  written = (put_each (λ entry. IsTrue (has_key (with_write e kept).writes entry.key)) e family.mem (any_push (λ (write : Entry). same write.key e.key) kept.writes e (same_self e.key)) wrote.0, wrote.1);
  view = record {
    levels = p.view.levels;
    rows = (
      record {
        ordered = put_in_order e family.mem mem_under p.view.rows.0.ordered;
        within = put_each FitsSizes e family.mem fits p.view.rows.0.within;
      },
      p.view.rows.1,
    );
    filled = p.view.filled;
    sealed = p.view.sealed;
    order = (
      each_as (λ (run : List Entry). IsNewer family.mem run × Each (λ (entry : Entry). entry.number ≤ last) run) (IsNewer (put_in_memory e family.mem))
          (λ run h. put_each (λ one. Each (λ (other : Entry). other.number < one.number) run) e family.mem
          (each_as (λ (entry : Entry). entry.number ≤ last) (λ other. other.number < e.number) (λ other le. omega arith) run h.1) h.0) family.sealed
          (each_both (IsNewer family.mem) (Each (λ (entry : Entry). entry.number ≤ last)) family.sealed p.view.order.0
          (each_front (Each (λ (entry : Entry). entry.number ≤ last)) family.sealed (runs_of (tables_in family.levels)) p.within.1)),
      p.view.order.1,
    );
  };
  writes = each_join (λ write. write.number ≤ last + 1) kept.writes (e ∷ []) (each_as (λ (write : Entry). write.number ≤ last) (λ write. write.number ≤ last + 1) (λ write l. omega arith) kept.writes p.writes) ((omega arith), tt);
}
  where
    mem_under : Each (λ other. other.number < e.number) family.mem
    mem_under = under last e at family.mem p.within.0

    later : Each (Each (λ entry. entry.number ≤ last + 1)) (walk family)
    later = within_more last (last + 1) (omega arith) (walk family) p.within

    above_within : (key : List ℕ) → Each (λ entry. entry.number ≤ last) (column key (above family 6))
    above_within key = column_each (λ entry. entry.number ≤ last) key (above family 6) (each_above (Each (λ entry. entry.number ≤ last)) family 6 p.within)

    above_is : (key : List ℕ) → column key (above (with_memory_entry e family) 6) ≡ cond (same e.key key) (e ∷ column key (above family 6)) (column key (above family 6))
    above_is key = heads e family.mem (family.sealed ++ runs_of (tables_in (take 6 family.levels))) key mem_under

    mixed : (b : Bool) (x y : Option Mark) → value_of x ≡ value_of y → value_of (cond b (Some e.mark) x) ≡ value_of (cond b (Some e.mark) y)
    mixed true x y h = refl
    mixed false x y h = h

    knows : HasKnownKeys family (with_write e kept)
    knows = each_as (Each (λ (entry : Entry). IsTrue (is_known kept entry.key))) (Each (λ entry. IsTrue (is_known (with_write e kept) entry.key)))
        (λ run k. each_as (λ (entry : Entry). IsTrue (is_known kept entry.key)) (λ entry. IsTrue (is_known (with_write e kept) entry.key)) (λ entry l. any_left (λ known. same known entry.key) kept.known (e.key ∷ []) l) run k) (walk family) p.known

    wrote : HasWritten family (with_write e kept)
    wrote = each_as (Each (λ (entry : Entry). IsTrue (has_key kept.writes entry.key))) (Each (λ entry. IsTrue (has_key (with_write e kept).writes entry.key)))
        (λ run k. each_as (λ (entry : Entry). IsTrue (has_key kept.writes entry.key)) (λ entry. IsTrue (has_key (with_write e kept).writes entry.key)) (λ entry l. any_left (λ (write : Entry). same write.key entry.key) kept.writes (e ∷ []) l) run k) (memories family) p.written

-- all operations of a write
pub ops_written : (behind : Bool) (live : List ℕ) (ops : List Op) (last : ℕ) (fs : List (List ℕ × FamilyView)) (ks : List (List ℕ × ModelFamily)) → Each (λ op. FitsSizes (op_entry 0 op)) ops
    → Zipped (Pair behind last live) fs ks → Zipped (Pair behind (last + length ops) live) (with_operations last ops fs) (model_ops last ops ks)
ops_written behind live [] last fs ks fits h = subst (λ n. Zipped (Pair behind n live) fs ks) (let e : last ≡ last + 0 = omega arith in e) h
ops_written behind live (op ∷ ops) last fs ks fits h =
    subst (λ n. Zipped (Pair behind n live) (with_operations last (op ∷ ops) fs) (model_ops last (op ∷ ops) ks)) (let e : last + 1 + length ops ≡ last + length (op ∷ ops) = omega arith in e)
    (ops_written behind live ops (last + 1) (changed_at fs (op_family op) (with_memory_entry (op_entry (last + 1) op))) (changed_at ks (op_family op) (with_write (op_entry (last + 1) op))) fits.1
    (zip_changed (Pair behind last live) (Pair behind (last + 1) live) (with_memory_entry (op_entry (last + 1) op)) (with_write (op_entry (last + 1) op)) (op_family op)
    (λ f k p. pair_written behind last live f k (op_entry (last + 1) op) refl fits.0 p) (λ f k p. pair_later behind last (last + 1) live f k (omega arith) p) fs ks h))
