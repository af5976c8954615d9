-- Options of references, and what shared values hold.
use Rattle.st_base.specs.Bytes.{bytes_cmp}
use Rattle.st_base.specs.Map.{value_at}
use Rattle.st_model.specs.declared.state.ModelFamily.{ModelFamily}
use Rattle.st_model.specs.State.{new_family}
use Rattle.core_model.specs.Picture.{FamilyView}
use Rattle.std.proofs.Common.{◌≡◌, ℕ, suc, ◌++◌, length, cond, true, false, Bool, List, map, [], ◌∷◌, Option, Some, None, is_some, option_map, refl, sym, ap, ap₂, ◌∙◌, Bor}
use Rattle.std.specs.Option.{option_copied}
use Rattle.std.specs.Prelude.{◌||◌, filter, find}
use Rattle.std.specs.List.{AllZip, list_any}
use Rattle.std.specs.BTreeMap.{is_at}
use Rattle.std.specs.Map.{lookup}
use Rattle.std.proofs.lemmas.Map.Made.{lookup-map_values}

-- copies of shared values hold the same
pub copied_values : {X Y : Type 0} (f : X → Y) (items copies : List X) → AllZip (λ one copy. f copy ≡ f one) items copies → map f copies ≡ map f items
copied_values f [] [] h = refl
copied_values f [] (copy ∷ copies) h = absurd h
copied_values f (one ∷ items) [] h = absurd h
copied_values f (one ∷ items) (copy ∷ copies) h = ap₂ (λ y ys. y ∷ ys) h.0 (copied_values f items copies h.1)

-- what is found among what others are seen as
pub find_mapped : {X Y : Type 0} (f : X → Y) (test : Y → Bool) (xs : List X) → find test (map f xs) ≡ option_map f (find (λ x. test (f x)) xs)
find_mapped f test [] = refl
find_mapped {X} {Y} f test (x ∷ xs) = step (test (f x)) (find_mapped f test xs)
  where
    step : (b : Bool) → find test (map f xs) ≡ option_map f (find (λ x. test (f x)) xs) → cond b (Some (f x)) (find test (map f xs)) ≡ option_map f (cond b (Some x) (find (λ x. test (f x)) xs))
    step true rest = refl
    step false rest = rest

-- what is kept among what others are seen as
pub filter_mapped : {X Y : Type 0} (f : X → Y) (test : Y → Bool) (xs : List X) → map f (filter (λ x. test (f x)) xs) ≡ filter test (map f xs)
filter_mapped f test [] = refl
filter_mapped {X} {Y} f test (x ∷ xs) = step (test (f x)) (filter_mapped f test xs)
  where
    step : (b : Bool) → map f (filter (λ x. test (f x)) xs) ≡ filter test (map f xs)
        → map f (cond b (x ∷ filter (λ x. test (f x)) xs) (filter (λ x. test (f x)) xs)) ≡ cond b (f x ∷ filter test (map f xs)) (filter test (map f xs))
    step true rest = ap (λ (ys : List Y). f x ∷ ys) rest
    step false rest = rest

-- a function of what a reference points to
pub copied_map : {X Y : Type 0} (f : X → Y) (found : Option (Bor X)) → option_map (λ one. f one.now) found ≡ option_map f (option_copied found)
copied_map f None = refl
copied_map f (Some one) = refl

-- whether there is one, once it is seen as another
pub some_map : {A B : Type 0} (g : A → B) (o : Option A) → is_some o ≡ is_some (option_map g o)
some_map g None = refl
some_map g (Some x) = refl

-- what a look-up finds, where each value is seen by `f`
pub found_seen : {K X Y : Type 0} (f : X → Y) (test : K → Bool) (pairs : List (K × X)) (others : List (K × Y)) (found : Option (Bor X))
    → map {B = K × Y} (λ pair. (pair.0, f pair.1)) pairs ≡ others → option_copied found ≡ lookup test pairs
    → option_map (λ one. f one.now) found ≡ lookup test others
found_seen f test pairs others found e h = copied_map f found ∙ (ap (option_map f) h ∙ (sym (lookup-map_values f test pairs) ∙ ap (lookup test) e))

pub map_twice : {X Y Z : Type 0} (f : X → Y) (g : Y → Z) (found : Option X) → option_map g (option_map f found) ≡ option_map (λ x. g (f x)) found
map_twice f g None = refl
map_twice f g (Some x) = refl

-- copies that are each the same are the same list
pub same_copies : {X : Type 0} (items copies : List X) → AllZip (λ one copy. copy ≡ one) items copies → copies ≡ items
same_copies [] [] h = refl
same_copies [] (copy ∷ copies) h = absurd h
same_copies (one ∷ items) [] h = absurd h
same_copies (one ∷ items) (copy ∷ copies) h = ap₂ (λ y ys. y ∷ ys) h.0 (same_copies items copies h.1)

-- a family that was looked up is there for the model too
pub family_there : (found : Option (Bor FamilyView)) (families : List (List ℕ × FamilyView)) (name : List ℕ) → option_copied found ≡ value_at families name
    → is_some found ≡ is_some (value_at (map {B = List ℕ × ModelFamily} (λ (named : List ℕ × FamilyView). (named.0, new_family named.1.id)) families) name)
family_there found families name h =
    some_map (λ (one : Bor FamilyView). one.now) found ∙ (ap is_some h ∙ (some_map (λ (family : FamilyView). new_family family.id) (value_at families name)
    ∙ sym (ap is_some (lookup-map_values (λ (family : FamilyView). new_family family.id) (is_at (bytes_cmp name)) families))))

-- ---- lists, seen through a function

pub map_append : {X Y : Type 0} (f : X → Y) (xs ys : List X) → map f (xs ++ ys) ≡ map f xs ++ map f ys
map_append f [] ys = refl
map_append {X} {Y} f (x ∷ xs) ys = ap (λ (zs : List Y). f x ∷ zs) (map_append f xs ys)

pub any_mapped : {X Y : Type 0} (f : X → Y) (test : Y → Bool) (xs : List X) → list_any (λ x. test (f x)) xs ≡ list_any test (map f xs)
any_mapped f test [] = refl
any_mapped f test (x ∷ xs) = ap (λ (b : Bool). test (f x) || b) (any_mapped f test xs)

pub map_length : {X Y : Type 0} (f : X → Y) (xs : List X) → length (map f xs) ≡ length xs
map_length f [] = refl
map_length f (x ∷ xs) = ap suc (map_length f xs)
