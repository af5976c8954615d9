-- Lists, columns and pairs.
use Rattle.std.proofs.Common.{◌≡◌, ℕ, Bool, true, false, cond, List, [], ◌∷◌, ◌++◌, map, filter, refl, ap, ◌∙◌}
use Rattle.std.specs.List.{flat_map, AllByRecursion as Each}
use Rattle.std.proofs.lemmas.Bool.{false≢true}
use Rattle.st_base.proofs.Same.{same_self}
use Rattle.st_base.specs.Bytes.{same}
use Rattle.st_base.specs.declared.entry.Entry.{Entry}
use Rattle.base_laws.proofs.Lists.{each_passed}
use Rattle.core_laws.proofs.Lists.{filter_join}
use Rattle.core_model.specs.Picture.{FileEntries, runs_of}
use Rattle.store_image.specs.Opens.{image_entries_of}
use Rattle.st_order.specs.Columns.{Pairwise, column, of_key}

-- ---- each, pairs

pub each_both : {X : Type 0} (P Q : X → Type 0) (xs : List X) → Each P xs → Each Q xs → Each (λ x. P x × Q x) xs
each_both P Q [] a b = tt
each_both P Q (x ∷ xs) a b = ((a.0, b.0), each_both P Q xs a.1 b.1)

-- ---- filters

pub filter_map : {X Y : Type 0} (f : X → Y) (p : Y → Bool) (xs : List X) → filter p (map f xs) ≡ map f (filter (λ x. p (f x)) xs)
filter_map f p [] = refl
filter_map f p (x ∷ xs) = go (p (f x)) (filter_map f p xs)
  where
    go : (b : Bool) → filter p (map f xs) ≡ map f (filter (λ x. p (f x)) xs) → cond b (f x ∷ filter p (map f xs)) (filter p (map f xs)) ≡ map f (cond b (x ∷ filter (λ x. p (f x)) xs) (filter (λ x. p (f x)) xs))
    go true rest = ap (λ l. f x ∷ l) rest
    go false rest = rest

pub flat_append : {X Y : Type 0} (f : X → List Y) (xs ys : List X) → flat_map f (xs ++ ys) ≡ flat_map f xs ++ flat_map f ys
flat_append f [] ys = refl
flat_append f (x ∷ xs) ys = ap (λ l. f x ++ l) (flat_append f xs ys) ∙ assoc (f x) (flat_map f xs) (flat_map f ys)
  where
    assoc : {Z : Type 0} (a b c : List Z) → a ++ (b ++ c) ≡ (a ++ b) ++ c
    assoc [] b c = refl
    assoc (z ∷ a) b c = ap (λ l. z ∷ l) (assoc a b c)

-- ---- columns

-- the column along tables is that of all their entries
pub column_joined : (key : List ℕ) (tables : List FileEntries) → of_key key (image_entries_of tables) ≡ column key (runs_of tables)
column_joined key [] = refl
column_joined key (table ∷ tables) = filter_join (λ (entry : Entry). same entry.key key) table.entries (image_entries_of tables) ∙ ap (λ l. of_key key table.entries ++ l) (column_joined key tables)

-- a relation that holds along each column holds of all pairs of one key
pub columns_pairs : (R : Entry → Entry → Type 0) (xs : List Entry) → ((key : List ℕ) → Pairwise R (of_key key xs))
    → Pairwise (λ one other. same other.key one.key ≡ true → R one other) xs
columns_pairs R [] h = tt
columns_pairs R (x ∷ xs) h = (each_passed (R x) (λ (entry : Entry). same entry.key x.key) xs (first (h x.key)), columns_pairs R xs (λ key. rest key (same x.key key) (h key)))
  where
    first_at : (b : Bool) → b ≡ true → Pairwise R (cond b (x ∷ of_key x.key xs) (of_key x.key xs)) → Each (R x) (of_key x.key xs)
    first_at true e h = h.0
    first_at false e h = absurd (false≢true e)

    first : Pairwise R (of_key x.key (x ∷ xs)) → Each (R x) (of_key x.key xs)
    first h = first_at (same x.key x.key) (same_self x.key) h

    rest : (key : List ℕ) (b : Bool) → Pairwise R (cond b (x ∷ of_key key xs) (of_key key xs)) → Pairwise R (of_key key xs)
    rest key true h = h.1
    rest key false h = h
