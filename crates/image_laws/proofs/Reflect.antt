-- What an opening without damage knows of its families: numbers fall, and none is above the last number.
use Rattle.std.proofs.Common.{◌≡◌, ℕ, ◌≤◌, Bool, true, false, cond, ◌&&◌, List, [], ◌∷◌, ◌++◌, refl}
use Rattle.std.specs.Prelude.{nat_le}
use Rattle.std.specs.List.{list_all, AllByRecursion as Each}
use Rattle.std.proofs.lemmas.Bool.{false≢true, leb-true}
use Rattle.st_base.specs.declared.entry.Entry.{Entry}
use Rattle.base_laws.proofs.Lists.{append_none, each_as, each_back, each_front, each_join}
use Rattle.core_laws.proofs.Lists.{pairs_join}
use Rattle.core_model.specs.Picture.{FileEntries}
use Rattle.store_image.specs.Opens.{OpenedImageFamily, image_entries_of, may_follow, entries_fall, unfallen, unfallen_in, upper_tables, lower_tables}
use Rattle.st_order.specs.Columns.{Pairwise}

abbrev pub Follows : Bool → Entry → Entry → Type 0
Follows bottom before entry = may_follow bottom entry before ≡ true

both : (b c : Bool) → (b && c) ≡ true → (b ≡ true) × (c ≡ true)
both true c e = (refl, e)
both false c e = absurd (false≢true e)

each_of : {X : Type 0} (p : X → Bool) (xs : List X) → list_all p xs ≡ true → Each (λ x. p x ≡ true) xs
each_of p [] e = tt
each_of p (x ∷ xs) e = let parts = both (p x) (list_all p xs) e in (parts.0, each_of p xs parts.1)

-- a run behind others: each entry may follow all before it, and is within the last number
pub record RunFalls (last : ℕ) (bottom : Bool) (before entries : List Entry) : Type 0 where
  pub behind : Each (λ entry. Each (λ one. Follows bottom one entry) before) entries
  pub pairs : Pairwise (Follows bottom) entries
  pub within : Each (λ entry. entry.number ≤ last) entries

swap : (bottom : Bool) (before : List Entry) (one : Entry) (entries : List Entry) → Each (λ entry. Each (λ other. Follows bottom other entry) (before ++ one ∷ [])) entries
    → Each (λ entry. Each (λ other. Follows bottom other entry) before) entries × Each (Follows bottom one) entries
swap bottom before one [] h = (tt, tt)
swap bottom before one (entry ∷ entries) h =
    let rest = swap bottom before one entries h.1 in
    ((each_front (λ other. Follows bottom other entry) before (one ∷ []) h.0, rest.0), ((each_back (λ other. Follows bottom other entry) before (one ∷ []) h.0).0, rest.1))

pub run_falls : (last : ℕ) (bottom : Bool) (before entries : List Entry) → entries_fall last bottom before entries ≡ true → RunFalls last bottom before entries
run_falls last bottom before [] e = record { behind = tt; pairs = tt; within = tt }
run_falls last bottom before (entry ∷ entries) e =
    let parts = both (nat_le entry.number last && list_all (may_follow bottom entry) before) (entries_fall last bottom (before ++ entry ∷ []) entries) e in
    let first = both (nat_le entry.number last) (list_all (may_follow bottom entry) before) parts.0 in
    let rest = run_falls last bottom (before ++ entry ∷ []) entries parts.1 in
    let split = swap bottom before entry entries rest.behind in
    record {
      behind = (each_of (may_follow bottom entry) before first.1, split.0);
      pairs = (split.1, rest.pairs);
      within = (leb-true entry.number last first.0, rest.within);
    }

falls_if : (b : Bool) (file : ℕ) → cond b [] (file ∷ []) ≡ [] → b ≡ true
falls_if true file e = refl
falls_if false file e = absurd (cc e)

turn : (bottom : Bool) (before entries : List Entry) → Each (λ entry. Each (λ one. Follows bottom one entry) before) entries → Each (λ one. Each (Follows bottom one) entries) before
turn bottom [] entries h = tt
turn bottom (one ∷ before) entries h = (
  each_as (λ entry. Each (λ other. Follows bottom other entry) (one ∷ before)) (Follows bottom one) (λ entry e. e.0) entries h,
  turn bottom before entries (each_as (λ entry. Each (λ other. Follows bottom other entry) (one ∷ before)) (λ entry. Each (λ other. Follows bottom other entry) before) (λ entry e. e.1) entries h),
)

-- tables behind entries
pub tables_fall : (last : ℕ) (bottom : Bool) (before : List Entry) (tables : List FileEntries) → unfallen last bottom before tables ≡ [] → RunFalls last bottom before (image_entries_of tables)
tables_fall last bottom before [] e = record { behind = tt; pairs = tt; within = tt }
tables_fall last bottom before (table ∷ tables) e =
    let parts = append_none (cond (entries_fall last bottom before table.entries) [] (table.file ∷ [])) (unfallen last bottom (before ++ table.entries) tables) e in
    let first = run_falls last bottom before table.entries (falls_if (entries_fall last bottom before table.entries) table.file parts.0) in
    let rest = tables_fall last bottom (before ++ table.entries) tables parts.1 in
    record {
      behind = each_join (λ entry. Each (λ one. Follows bottom one entry) before) table.entries (image_entries_of tables) first.behind
          (each_as (λ entry. Each (λ one. Follows bottom one entry) (before ++ table.entries)) (λ entry. Each (λ one. Follows bottom one entry) before) (λ entry h. each_front (λ one. Follows bottom one entry) before table.entries h) (image_entries_of tables) rest.behind);
      pairs = pairs_join (Follows bottom) table.entries (image_entries_of tables) first.pairs rest.pairs
          (turn bottom table.entries (image_entries_of tables) (each_as (λ entry. Each (λ one. Follows bottom one entry) (before ++ table.entries)) (λ entry. Each (λ one. Follows bottom one entry) table.entries) (λ entry h. each_back (λ one. Follows bottom one entry) before table.entries h) (image_entries_of tables) rest.behind));
      within = each_join (λ entry. entry.number ≤ last) table.entries (image_entries_of tables) first.within rest.within;
    }

-- a family without a fault
pub family_falls : (last : ℕ) (family : OpenedImageFamily) → unfallen_in last family ≡ [] → RunFalls last false family.counted (image_entries_of (upper_tables family)) × RunFalls last true (family.counted ++ image_entries_of (upper_tables family)) (image_entries_of (lower_tables family))
family_falls last family e =
    let parts = append_none (unfallen last false family.counted (upper_tables family)) (unfallen last true (family.counted ++ image_entries_of (upper_tables family)) (lower_tables family)) e in
    (tables_fall last false family.counted (upper_tables family) parts.0, tables_fall last true (family.counted ++ image_entries_of (upper_tables family)) (lower_tables family) parts.1)
