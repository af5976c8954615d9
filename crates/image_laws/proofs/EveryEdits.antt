-- Right edits keep that no two tables have one file, no two families one id, and that names rise.
use Rattle.std.proofs.Common.{◌≡◌, ℕ, zero, suc, ◌<◌, Bool, true, false, cond, ◌&&◌, ◌||◌, not, List, [], ◌∷◌, ◌++◌, length, get_or, filter, Some, None, refl, sym, ap, subst, ◌∙◌, arith}
use Rattle.std.specs.Prelude.{IsTrue, ◌==◌, AllPairs}
use Rattle.std.specs.declared.cmp.Ordering.{Ordering}
use Rattle.std.specs.declared.cmp.Ordering.TheVariants.{Less, Equal, Greater}
use Rattle.std.specs.Ordering.{is_lt, match_ordering, ordering_reverse}
use Rattle.std.specs.List.{flat_map, list_any, AllByRecursion as Each}
use Rattle.std.proofs.lemmas.Bool.{false≢true, eqb-true}
use Rattle.std.proofs.lemmas.Cmp.{nat_list_cmp_total}
use Rattle.std.proofs.lemmas.Map.Lookups.{exact_bytes}
use Rattle.st_base.specs.Bytes.{bytes_cmp, below}
use Rattle.st_base.specs.Map.{set_at}
use Rattle.base_laws.proofs.Keys.{below_trans}
use Rattle.base_laws.proofs.Lists.{each_as, each_back, each_filter, each_front, each_join}
use Rattle.core_laws.proofs.Lists.{pairs_across, pairs_back, pairs_filter, pairs_front, pairs_join}
use Rattle.manifest_edits.specs.Edits.{Placement, Edit, AddFamily, DropFamily, AddTable, DropTable, Flushed, Last, AddLog, DropLog, NamedFamily, Named, tables_named, has_id, has_table, is_file, changed_named, with_table, without_table, with_flushed_number, is_right, edited, edited_all, may_place}
use Rattle.store_image.specs.Recover.{IsNamed, EditsKeepNamed}
use Rattle.image_laws.proofs.Added.{changed_tables, set_tables}
use Rattle.st_order.specs.Columns.{Pairwise}

-- ---- pairs

each_at : {X : Type 0} (P : X → Type 0) (xs : List X) → ((j : ℕ) (d : X) → j < length xs → P (get_or xs j d)) → Each P xs
each_at P [] h = tt
each_at P (x ∷ xs) h = (h 0 x (omega arith), each_at P xs (λ j d lt. h (suc j) d (omega arith)))

pub each_get : {X : Type 0} (P : X → Type 0) (xs : List X) → Each P xs → (j : ℕ) (d : X) → j < length xs → P (get_or xs j d)
each_get P [] h j d lt = absurd (omega arith)
each_get P (x ∷ xs) h zero d lt = h.0
each_get P (x ∷ xs) h (suc j) d lt = each_get P xs h.1 j d (omega arith)

pub pairs_of_all : {X : Type 0} (R : X → X → Type 0) (xs : List X) → AllPairs R xs → Pairwise R xs
pairs_of_all R [] h = tt
pairs_of_all R (x ∷ xs) h = (each_at (R x) xs (λ j d lt. h 0 (suc j) d (omega arith) (omega arith)), pairs_of_all R xs (λ i j d lt in'. h (suc i) (suc j) d (omega arith) (omega arith)))

pub all_of_pairs : {X : Type 0} (R : X → X → Type 0) (xs : List X) → Pairwise R xs → AllPairs R xs
all_of_pairs R [] h i j d lt in' = absurd (omega arith)
all_of_pairs R (x ∷ xs) h zero zero d lt in' = absurd (omega arith)
all_of_pairs R (x ∷ xs) h zero (suc j) d lt in' = each_get (R x) xs h.0 j d (omega arith)
all_of_pairs R (x ∷ xs) h (suc i) zero d lt in' = absurd (omega arith)
all_of_pairs R (x ∷ xs) h (suc i) (suc j) d lt in' = all_of_pairs R xs h.1 i j d (omega arith) (omega arith)

-- ---- words

abbrev pub NamedPair : Type 0
NamedPair = List ℕ × NamedFamily

abbrev pub OtherFile : Placement → Placement → Type 0
OtherFile one other = one.file ≡ other.file → ⊥

abbrev pub OtherId : NamedPair → NamedPair → Type 0
OtherId one other = one.1.id ≡ other.1.id → ⊥

abbrev IsLess : NamedPair → NamedPair → Type 0
IsLess one other = IsTrue (below one.0 other.0)

abbrev all_placed : List NamedPair → List Placement
all_placed families = flat_map (λ family. family.1.tables) families

-- ---- a family is set

set_each : (P : NamedPair → Type 0) (families : List NamedPair) (name : List ℕ) (new : NamedFamily) → P (name, new) → Each P families → Each P (set_at families name new)
set_each P [] name new p h = (p, tt)
set_each P (f ∷ fs) name new p h = by (bytes_cmp name f.0) refl (set_each P fs name new p h.1)
  where
    by : (o : Ordering) → bytes_cmp name f.0 ≡ o → Each P (set_at fs name new) → Each P (match_ordering o ((name, new) ∷ f ∷ fs) ((f.0, new) ∷ fs) (f ∷ set_at fs name new))
    by Less e rest = (p, h)
    by Equal e rest = (subst (λ k. P (k, new)) (exact_bytes name f.0 e) p, h.1)
    by Greater e rest = (h.0, rest)

set_pairs : (R : NamedPair → NamedPair → Type 0) (families : List NamedPair) (name : List ℕ) (new : NamedFamily) → Each (R (name, new)) families → Each (λ one. R one (name, new)) families → Pairwise R families → Pairwise R (set_at families name new)
set_pairs R [] name new up down h = (tt, tt)
set_pairs R (f ∷ fs) name new up down h = by (bytes_cmp name f.0) refl (set_pairs R fs name new up.1 down.1 h.1)
  where
    by : (o : Ordering) → bytes_cmp name f.0 ≡ o → Pairwise R (set_at fs name new) → Pairwise R (match_ordering o ((name, new) ∷ f ∷ fs) ((f.0, new) ∷ fs) (f ∷ set_at fs name new))
    by Less e rest = (up, h)
    by Equal e rest = (subst (λ k. Each (R (k, new)) fs) (exact_bytes name f.0 e) up.1, h.1)
    by Greater e rest = (set_each (R f) fs name new down.0 h.0, rest)

set_names : (families : List NamedPair) (name : List ℕ) (new : NamedFamily) → Pairwise IsLess families → Pairwise IsLess (set_at families name new)
set_names [] name new h = (tt, tt)
set_names (f ∷ fs) name new h = by (bytes_cmp name f.0) refl (set_names fs name new h.1)
  where
    by : (o : Ordering) → bytes_cmp name f.0 ≡ o → Pairwise IsLess (set_at fs name new) → Pairwise IsLess (match_ordering o ((name, new) ∷ f ∷ fs) ((f.0, new) ∷ fs) (f ∷ set_at fs name new))
    by Less e rest = ((ap is_lt e, each_as (IsLess f) (λ (other : NamedPair). IsTrue (below name other.0)) (λ other k. below_trans name f.0 other.0 (ap is_lt e) k) fs h.0), h)
    by Equal e rest = h
    by Greater e rest = (set_each (IsLess f) fs name new (ap is_lt (nat_list_cmp_total.antisymm f.0 name ∙ ap ordering_reverse e)) h.0, rest)

set_placed : (P : Placement → Type 0) (families : List NamedPair) (name : List ℕ) (new : NamedFamily) → new.tables ≡ [] → Each P (all_placed families) → Each P (all_placed (set_at families name new))
set_placed P [] name new none h = subst (λ tables. Each P (tables ++ [])) (sym none) tt
set_placed P (f ∷ fs) name new none h = by (bytes_cmp name f.0) (set_placed P fs name new none (each_back P f.1.tables (all_placed fs) h))
  where
    by : (o : Ordering) → Each P (all_placed (set_at fs name new)) → Each P (all_placed (match_ordering o ((name, new) ∷ f ∷ fs) ((f.0, new) ∷ fs) (f ∷ set_at fs name new)))
    by Less rest = subst (λ tables. Each P (tables ++ all_placed (f ∷ fs))) (sym none) h
    by Equal rest = subst (λ tables. Each P (tables ++ all_placed fs)) (sym none) (each_back P f.1.tables (all_placed fs) h)
    by Greater rest = each_join P f.1.tables (all_placed (set_at fs name new)) (each_front P f.1.tables (all_placed fs) h) rest

set_files : (families : List NamedPair) (name : List ℕ) (new : NamedFamily) → new.tables ≡ [] → Pairwise OtherFile (all_placed families) → Pairwise OtherFile (all_placed (set_at families name new))
set_files [] name new none h = subst (λ tables. Pairwise OtherFile (tables ++ [])) (sym none) tt
set_files (f ∷ fs) name new none h = by (bytes_cmp name f.0) (set_files fs name new none (pairs_back OtherFile f.1.tables (all_placed fs) h))
  where
    by : (o : Ordering) → Pairwise OtherFile (all_placed (set_at fs name new)) → Pairwise OtherFile (all_placed (match_ordering o ((name, new) ∷ f ∷ fs) ((f.0, new) ∷ fs) (f ∷ set_at fs name new)))
    by Less rest = subst (λ tables. Pairwise OtherFile (tables ++ all_placed (f ∷ fs))) (sym none) h
    by Equal rest = subst (λ tables. Pairwise OtherFile (tables ++ all_placed fs)) (sym none) (pairs_back OtherFile f.1.tables (all_placed fs) h)
    by Greater rest = pairs_join OtherFile f.1.tables (all_placed (set_at fs name new)) (pairs_front OtherFile f.1.tables (all_placed fs) h) rest
        (each_as (λ x. Each (OtherFile x) (all_placed fs)) (λ x. Each (OtherFile x) (all_placed (set_at fs name new))) (λ x k. set_placed (OtherFile x) fs name new none k) f.1.tables (pairs_across OtherFile f.1.tables (all_placed fs) h))

-- ---- families are left out

filter_placed : (P : Placement → Type 0) (p : NamedPair → Bool) (families : List NamedPair) → Each P (all_placed families) → Each P (all_placed (filter p families))
filter_placed P p [] h = tt
filter_placed P p (f ∷ fs) h = by (p f) (filter_placed P p fs (each_back P f.1.tables (all_placed fs) h))
  where
    by : (b : Bool) → Each P (all_placed (filter p fs)) → Each P (all_placed (cond b (f ∷ filter p fs) (filter p fs)))
    by true rest = each_join P f.1.tables (all_placed (filter p fs)) (each_front P f.1.tables (all_placed fs) h) rest
    by false rest = rest

filter_files : (p : NamedPair → Bool) (families : List NamedPair) → Pairwise OtherFile (all_placed families) → Pairwise OtherFile (all_placed (filter p families))
filter_files p [] h = tt
filter_files p (f ∷ fs) h = by (p f) (filter_files p fs (pairs_back OtherFile f.1.tables (all_placed fs) h))
  where
    by : (b : Bool) → Pairwise OtherFile (all_placed (filter p fs)) → Pairwise OtherFile (all_placed (cond b (f ∷ filter p fs) (filter p fs)))
    by true rest = pairs_join OtherFile f.1.tables (all_placed (filter p fs)) (pairs_front OtherFile f.1.tables (all_placed fs) h) rest
        (each_as (λ x. Each (OtherFile x) (all_placed fs)) (λ x. Each (OtherFile x) (all_placed (filter p fs))) (λ x k. filter_placed (OtherFile x) p fs k) f.1.tables (pairs_across OtherFile f.1.tables (all_placed fs) h))
    by false rest = rest

-- ---- a family is changed

-- what holds of name and id of each holds after a change that keeps ids
changed_each : (P : List ℕ → ℕ → Type 0) (id : ℕ) (change : NamedFamily → NamedFamily) → ((family : NamedFamily) → (change family).id ≡ family.id) → (families : List NamedPair)
    → Each (λ one. P one.0 one.1.id) families → Each (λ one. P one.0 one.1.id) (changed_named id change families)
changed_each P id change keeps [] h = tt
changed_each P id change keeps (f ∷ fs) h = (by (f.1.id == id), changed_each P id change keeps fs h.1)
  where
    by : (b : Bool) → P f.0 (cond b (change f.1) f.1).id
    by true = subst (P f.0) (sym (keeps f.1)) h.0
    by false = h.0

changed_pairs : (R : List ℕ → ℕ → List ℕ → ℕ → Type 0) (id : ℕ) (change : NamedFamily → NamedFamily) → ((family : NamedFamily) → (change family).id ≡ family.id) → (families : List NamedPair)
    → Pairwise (λ one other. R one.0 one.1.id other.0 other.1.id) families → Pairwise (λ one other. R one.0 one.1.id other.0 other.1.id) (changed_named id change families)
changed_pairs R id change keeps [] h = tt
changed_pairs R id change keeps (f ∷ fs) h = (by (f.1.id == id), changed_pairs R id change keeps fs h.1)
  where
    by : (b : Bool) → Each (λ other. R f.0 (cond b (change f.1) f.1).id other.0 other.1.id) (changed_named id change fs)
    by true = subst (λ n. Each (λ other. R f.0 n other.0 other.1.id) (changed_named id change fs)) (sym (keeps f.1)) (changed_each (R f.0 f.1.id) id change keeps fs h.0)
    by false = changed_each (R f.0 f.1.id) id change keeps fs h.0

-- a change that only leaves tables out
record LeavesOut (change : NamedFamily → NamedFamily) : Type 1 where
  each : (P : Placement → Type 0) (family : NamedFamily) → Each P family.tables → Each P (change family).tables
  pairs : (family : NamedFamily) → Pairwise OtherFile family.tables → Pairwise OtherFile (change family).tables

left_placed : (P : Placement → Type 0) (id : ℕ) (change : NamedFamily → NamedFamily) → LeavesOut change → (families : List NamedPair) → Each P (all_placed families) → Each P (all_placed (changed_named id change families))
left_placed P id change out [] h = tt
left_placed P id change out (f ∷ fs) h = each_join P (cond (f.1.id == id) (change f.1) f.1).tables (all_placed (changed_named id change fs)) (by (f.1.id == id)) (left_placed P id change out fs (each_back P f.1.tables (all_placed fs) h))
  where
    by : (b : Bool) → Each P (cond b (change f.1) f.1).tables
    by true = out.each P f.1 (each_front P f.1.tables (all_placed fs) h)
    by false = each_front P f.1.tables (all_placed fs) h

left_files : (id : ℕ) (change : NamedFamily → NamedFamily) → LeavesOut change → (families : List NamedPair) → Pairwise OtherFile (all_placed families) → Pairwise OtherFile (all_placed (changed_named id change families))
left_files id change out [] h = tt
left_files id change out (f ∷ fs) h =
    pairs_join OtherFile (cond (f.1.id == id) (change f.1) f.1).tables (all_placed (changed_named id change fs)) (front (f.1.id == id)) (left_files id change out fs (pairs_back OtherFile f.1.tables (all_placed fs) h)) (across (f.1.id == id))
  where
    front : (b : Bool) → Pairwise OtherFile (cond b (change f.1) f.1).tables
    front true = out.pairs f.1 (pairs_front OtherFile f.1.tables (all_placed fs) h)
    front false = pairs_front OtherFile f.1.tables (all_placed fs) h

    one : Each (λ x. Each (OtherFile x) (all_placed (changed_named id change fs))) f.1.tables
    one = each_as (λ x. Each (OtherFile x) (all_placed fs)) (λ x. Each (OtherFile x) (all_placed (changed_named id change fs))) (λ x k. left_placed (OtherFile x) id change out fs k) f.1.tables (pairs_across OtherFile f.1.tables (all_placed fs) h)

    across : (b : Bool) → Each (λ x. Each (OtherFile x) (all_placed (changed_named id change fs))) (cond b (change f.1) f.1).tables
    across true = out.each (λ x. Each (OtherFile x) (all_placed (changed_named id change fs))) f.1 one
    across false = one

drops_table : (file : ℕ) → LeavesOut (without_table file)
drops_table file = record {
  each = λ P family h. each_filter P (λ placed. not (is_file file placed)) family.tables h;
  pairs = λ family h. pairs_filter OtherFile (λ placed. not (is_file file placed)) family.tables h;
}

flushes : (number : ℕ) → LeavesOut (with_flushed_number number)
flushes number = record { each = λ P family h. h; pairs = λ family h. h }

-- ---- a table is added

flip : (n m : ℕ) → (n ≡ m → ⊥) → m ≡ n → ⊥
flip n m h e = h (sym e)

none_changed : (id : ℕ) (change : NamedFamily → NamedFamily) (families : List NamedPair) → Each (λ one. id ≡ one.1.id → ⊥) families → changed_named id change families ≡ families
none_changed id change [] h = refl
none_changed id change (f ∷ fs) h = ap (λ one. (f.0, one) ∷ changed_named id change fs) (by (f.1.id == id) refl) ∙ ap (λ rest. f ∷ rest) (none_changed id change fs h.1)
  where
    by : (b : Bool) → (f.1.id == id) ≡ b → cond b (change f.1) f.1 ≡ f.1
    by true e = absurd (h.0 (sym (eqb-true f.1.id id e)))
    by false e = refl

added_each : (P : Placement → Type 0) (id : ℕ) (placed : Placement) (families : List NamedPair) → P placed → Each P (all_placed families) → Each P (all_placed (changed_named id (with_table placed) families))
added_each P id placed [] p h = tt
added_each P id placed (f ∷ fs) p h = each_join P (cond (f.1.id == id) (with_table placed f.1) f.1).tables (all_placed (changed_named id (with_table placed) fs)) (by (f.1.id == id)) (added_each P id placed fs p (each_back P f.1.tables (all_placed fs) h))
  where
    by : (b : Bool) → Each P (cond b (with_table placed f.1) f.1).tables
    by true = (p, each_front P f.1.tables (all_placed fs) h)
    by false = each_front P f.1.tables (all_placed fs) h

added_files : (id : ℕ) (placed : Placement) (families : List NamedPair) → Pairwise OtherId families → Each (OtherFile placed) (all_placed families) → Pairwise OtherFile (all_placed families)
    → Pairwise OtherFile (all_placed (changed_named id (with_table placed) families))
added_files id placed [] ids new h = tt
added_files id placed (f ∷ fs) ids new h = by (f.1.id == id) refl (added_files id placed fs ids.1 (each_back (OtherFile placed) f.1.tables (all_placed fs) new) (pairs_back OtherFile f.1.tables (all_placed fs) h))
  where
    by : (b : Bool) → (f.1.id == id) ≡ b → Pairwise OtherFile (all_placed (changed_named id (with_table placed) fs)) → Pairwise OtherFile ((cond b (with_table placed f.1) f.1).tables ++ all_placed (changed_named id (with_table placed) fs))
    by true e rest = subst (λ l. Pairwise OtherFile (placed ∷ (f.1.tables ++ all_placed l))) (sym (none_changed id (with_table placed) fs (subst (λ n. Each (λ one. n ≡ one.1.id → ⊥) fs) (eqb-true f.1.id id e) ids.0))) (new, h)
    by false e rest = pairs_join OtherFile f.1.tables (all_placed (changed_named id (with_table placed) fs)) (pairs_front OtherFile f.1.tables (all_placed fs) h) rest
        (across f.1.tables (each_front (OtherFile placed) f.1.tables (all_placed fs) new) (pairs_across OtherFile f.1.tables (all_placed fs) h))
      where
        across : (xs : List Placement) → Each (OtherFile placed) xs → Each (λ x. Each (OtherFile x) (all_placed fs)) xs → Each (λ x. Each (OtherFile x) (all_placed (changed_named id (with_table placed) fs))) xs
        across [] a b = tt
        across (x ∷ xs) a b = (added_each (OtherFile x) id placed fs (flip placed.file x.file a.0) b.0, across xs a.1 b.1)

-- ---- what an edit tests

no_any : {X : Type 0} (p : X → Bool) (xs : List X) → not (list_any p xs) ≡ true → Each (λ x. p x ≡ false) xs
no_any p [] e = tt
no_any p (x ∷ xs) e = by (p x) refl e (no_any p xs)
  where
    by : (b : Bool) → p x ≡ b → not (b || list_any p xs) ≡ true → (not (list_any p xs) ≡ true → Each (λ x. p x ≡ false) xs) → Each (λ x. p x ≡ false) (x ∷ xs)
    by true f e rest = absurd (false≢true e)
    by false f e rest = (f, rest e)

both : (b c : Bool) → (b && c) ≡ true → (b ≡ true) × (c ≡ true)
both true c e = (refl, e)
both false c e = absurd (false≢true e)

differ : (n m : ℕ) → (n == m) ≡ false → n ≡ m → ⊥
differ n m e same = false≢true (sym e ∙ ap (λ k. k == m) same ∙ self m)
  where
    self : (k : ℕ) → (k == k) ≡ true
    self k = grind arith

-- ---- one edit

nest : (P : Placement → Type 0) (families : List NamedPair) → Each P (all_placed families) → Each (λ family. Each P family.1.tables) families
nest P [] h = tt
nest P (f ∷ fs) h = (each_front P f.1.tables (all_placed fs) h, nest P fs (each_back P f.1.tables (all_placed fs) h))

flat : (P : Placement → Type 0) (families : List NamedPair) → Each (λ family. Each P family.1.tables) families → Each P (all_placed families)
flat P [] h = tt
flat P (f ∷ fs) h = each_join P f.1.tables (all_placed fs) h.0 (flat P fs h.1)

abbrev MayPlace : Placement → Type 0
MayPlace placed = may_place placed ≡ true

-- a change of one family that keeps its tables as they may be
placed_changed : (id : ℕ) (change : NamedFamily → NamedFamily) (families : List NamedPair) → ((family : NamedFamily) → Each MayPlace family.tables → Each MayPlace (change family).tables) → Each MayPlace (all_placed families) → Each MayPlace (all_placed (changed_named id change families))
placed_changed id change families keep h = flat MayPlace (changed_named id change families) (changed_tables MayPlace id change families keep (nest MayPlace families h))

edit_keeps : (named : Named) (edit : Edit) → IsNamed named → is_right named edit ≡ true → IsNamed (edited named edit)
edit_keeps named (AddFamily id name) h right =
    let new = no_any (λ (one : NamedPair). one.1.id == id) named.families (both (not (has_id id named.families)) _ right).0 in
    record {
      files = set_files named.families name (record { id = id; flushed = 0; tables = [] }) refl h.files;
      ids = set_pairs OtherId named.families name (record { id = id; flushed = 0; tables = [] })
          (each_as (λ (one : NamedPair). (one.1.id == id) ≡ false) (λ one. id ≡ one.1.id → ⊥) (λ one e same. differ one.1.id id e (sym same)) named.families new)
          (each_as (λ (one : NamedPair). (one.1.id == id) ≡ false) (λ one. one.1.id ≡ id → ⊥) (λ one e same. differ one.1.id id e same) named.families new) h.ids;
      names = all_of_pairs IsLess (set_at named.families name (record { id = id; flushed = 0; tables = [] })) (set_names named.families name (record { id = id; flushed = 0; tables = [] }) (pairs_of_all IsLess named.families h.names));
      placed = flat MayPlace (set_at named.families name (record { id = id; flushed = 0; tables = [] })) (set_tables MayPlace name (record { id = id; flushed = 0; tables = [] }) named.families tt (nest MayPlace named.families h.placed));
    }
edit_keeps named (DropFamily id) h right = record {
  files = filter_files (λ family. not (family.1.id == id)) named.families h.files;
  ids = pairs_filter OtherId (λ family. not (family.1.id == id)) named.families h.ids;
  names = all_of_pairs IsLess (filter (λ family. not (family.1.id == id)) named.families) (pairs_filter IsLess (λ family. not (family.1.id == id)) named.families (pairs_of_all IsLess named.families h.names));
  placed = flat MayPlace (filter (λ family. not (family.1.id == id)) named.families) (each_filter (λ (family : NamedPair). Each MayPlace family.1.tables) (λ family. not (family.1.id == id)) named.families (nest MayPlace named.families h.placed));
}
edit_keeps named (AddTable id placed) h right =
    let tests = both (has_id id named.families && not (has_table named placed.file)) (may_place placed) right in
    let new = no_any (is_file placed.file) (tables_named named) (both (has_id id named.families) (not (has_table named placed.file)) tests.0).1 in
    record {
      files = added_files id placed named.families h.ids (each_as (λ (one : Placement). is_file placed.file one ≡ false) (OtherFile placed) (λ one e same. differ one.file placed.file e (sym same)) (tables_named named) new) h.files;
      ids = changed_pairs (λ name n other m. n ≡ m → ⊥) id (with_table placed) (λ family. refl) named.families h.ids;
      names = all_of_pairs IsLess (changed_named id (with_table placed) named.families) (changed_pairs (λ name n other m. IsTrue (below name other)) id (with_table placed) (λ family. refl) named.families (pairs_of_all IsLess named.families h.names));
      placed = placed_changed id (with_table placed) named.families (λ family tables. (tests.1, tables)) h.placed;
    }
edit_keeps named (DropTable id file) h right = record {
  files = left_files id (without_table file) (drops_table file) named.families h.files;
  ids = changed_pairs (λ name n other m. n ≡ m → ⊥) id (without_table file) (λ family. refl) named.families h.ids;
  names = all_of_pairs IsLess (changed_named id (without_table file) named.families) (changed_pairs (λ name n other m. IsTrue (below name other)) id (without_table file) (λ family. refl) named.families (pairs_of_all IsLess named.families h.names));
  placed = placed_changed id (without_table file) named.families (λ family tables. each_filter MayPlace (λ placed. not (is_file file placed)) family.tables tables) h.placed;
}
edit_keeps named (Flushed id number) h right = record {
  files = left_files id (with_flushed_number number) (flushes number) named.families h.files;
  ids = changed_pairs (λ name n other m. n ≡ m → ⊥) id (with_flushed_number number) (λ family. refl) named.families h.ids;
  names = all_of_pairs IsLess (changed_named id (with_flushed_number number) named.families) (changed_pairs (λ name n other m. IsTrue (below name other)) id (with_flushed_number number) (λ family. refl) named.families (pairs_of_all IsLess named.families h.names));
  placed = placed_changed id (with_flushed_number number) named.families (λ family tables. tables) h.placed;
}
edit_keeps named (Last number) h right = record { files = h.files; ids = h.ids; names = h.names; placed = h.placed }
edit_keeps named (AddLog file) h right = record { files = h.files; ids = h.ids; names = h.names; placed = h.placed }
edit_keeps named (DropLog file) h right = record { files = h.files; ids = h.ids; names = h.names; placed = h.placed }

pub edits_keep_named : EditsKeepNamed
edits_keep_named named after [] h e = subst IsNamed (cc e) h
edits_keep_named named after (edit ∷ edits) h e = by (is_right named edit) refl e (λ right. edits_keep_named (edited named edit) after edits (edit_keeps named edit h right))
  where
    by : (b : Bool) → is_right named edit ≡ b → cond b (edited_all (edited named edit) edits) None ≡ Some after → (is_right named edit ≡ true → edited_all (edited named edit) edits ≡ Some after → IsNamed after) → IsNamed after
    by true right e rest = rest right e
    by false right e rest = absurd (cc e)
