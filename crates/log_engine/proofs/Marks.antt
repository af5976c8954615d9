-- Pairs in the order of their keys, and what they have at a key.
use Rattle.std.proofs.Common.{◌≡◌, ℕ, ◌≤◌, Bool, true, false, ◌&&◌, cond, nat_le, List, [], ◌∷◌, filter, Option, Some, None, is_eq, refl, sym, ◌∙◌, ap, true≢false, arith}
use Rattle.std.specs.Option.{option_or}
use Rattle.std.specs.declared.cmp.Ordering.{Ordering}
use Rattle.std.specs.declared.cmp.Ordering.TheVariants.{Less, Equal, Greater}
use Rattle.std.specs.Ordering.{match_ordering, ordering_reverse}
use Rattle.std.specs.Cmp.{both_ways, IsTotalOrder}
use Rattle.std.specs.List.{AllByRecursion as Each}
use Rattle.std.specs.List.Sorted.{IsStrictlySortedBy}
use Rattle.std.specs.Map.{keys_of}
use Rattle.std.proofs.lemmas.Cmp.{nat_list_cmp_total}
use Rattle.std.proofs.lemmas.List.Elements.{recursion_from_All}
use Rattle.std.proofs.lemmas.Map.Keys.{sorted_tail}
use Rattle.std.proofs.lemmas.Map.Views.{All-after_first}
use Rattle.std.proofs.lemmas.Map.Lookups.{exact_bytes}
use Rattle.st_base.specs.Bytes.{bytes_cmp, same}
use Rattle.st_base.specs.Entries.{last_mark}
use Rattle.st_base.specs.Map.{set_at, value_at}
use Rattle.st_base.specs.declared.entry.Entry.{Entry}
use Rattle.st_base.specs.declared.entry.Mark.{Mark}
use Rattle.st_base.proofs.Same.{same_is_eq, same_self, same_sym, same_true}
use Rattle.st_model.specs.Contents.{is_kept, kept_marks, with_marks}
use Rattle.st_model.specs.Read.{last_write}
use Rattle.base_laws.proofs.Lists.{each_as}
use Rattle.log_engine.specs.Newest.{flat, present, shown}
use Rattle.log_engine.specs.MarkStore.{AreRising, IsSorted}

order : IsTotalOrder bytes_cmp
order = nat_list_cmp_total

-- the order calls them equal where they are the same
pub at_is : (q k : List ℕ) → is_eq (bytes_cmp q k) ≡ same k q
at_is q k = sym (same_is_eq q k) ∙ both_ways (same q k) (same k q) (same_sym q k) (same_sym k q)

-- ---- one pair is set

twice : {X : Type 0} (b : Bool) (x y z : X) → cond b x z ≡ cond b x (cond b y z)
twice true x y z = refl
twice false x y z = refl

swapped : {X : Type 0} (a b : Bool) (x y z : X) → (b ≡ true → a ≡ false) → cond b x (cond a y z) ≡ cond a y (cond b x z)
swapped true true x y z h = absurd (true≢false (h refl))
swapped true false x y z h = refl
swapped false true x y z h = refl
swapped false false x y z h = refl

-- two keys of which one is greater than a third aren't both that
apart : (k e q : List ℕ) → bytes_cmp k e ≡ Greater → is_eq (bytes_cmp q e) ≡ true → same k q ≡ false
apart k e q is there =
    let here : q ≡ e = same_true q e (same_is_eq q e ∙ there) in
    ap (same k) here ∙ same_is_eq k e ∙ ap is_eq is

set_case : {X : Type 0} (e : List ℕ × X) (m : List (List ℕ × X)) (k : List ℕ) (v : X) (q : List ℕ) (r : Ordering) → bytes_cmp k e.0 ≡ r → value_at (set_at m k v) q ≡ cond (same k q) (Some v) (value_at m q)
    → value_at (match_ordering r ((k, v) ∷ e ∷ m) ((e.0, v) ∷ m) (e ∷ set_at m k v)) q ≡ cond (same k q) (Some v) (value_at (e ∷ m) q)
set_case e m k v q Less is rest = ap (λ b. cond b (Some v) (value_at (e ∷ m) q)) (at_is q k)
set_case e m k v q Equal is rest =
    let here : k ≡ e.0 = exact_bytes k e.0 is in
    ap (λ b. cond b (Some v) (value_at m q)) (at_is q e.0)
    ∙ twice (same e.0 q) (Some v) (Some e.1) (value_at m q)
    ∙ ap (λ l. cond (same l q) (Some v) (cond (same e.0 q) (Some e.1) (value_at m q))) (sym here)
    ∙ ap (λ b. cond (same k q) (Some v) (cond b (Some e.1) (value_at m q))) (sym (at_is q e.0))
set_case e m k v q Greater is rest =
    ap (λ o. cond (is_eq (bytes_cmp q e.0)) (Some e.1) o) rest
    ∙ swapped (same k q) (is_eq (bytes_cmp q e.0)) (Some e.1) (Some v) (value_at m q) (apart k e.0 q is)

pub value_set : {X : Type 0} (m : List (List ℕ × X)) (k : List ℕ) (v : X) (q : List ℕ) → value_at (set_at m k v) q ≡ cond (same k q) (Some v) (value_at m q)
value_set [] k v q = ap (λ b. cond b (Some v) None) (at_is q k)
value_set (e ∷ m) k v q = set_case e m k v q (bytes_cmp k e.0) refl (value_set m k v q)

-- ---- the order stays

abbrev Below : List ℕ → List (List ℕ × Mark) → Type 0
Below x m = Each (λ y. bytes_cmp x y ≡ Less) (keys_of m)

below_case : (x k : List ℕ) (v : Mark) (e : List ℕ × Mark) (m : List (List ℕ × Mark)) (r : Ordering) → Below x (e ∷ m) → bytes_cmp x k ≡ Less → Below x (set_at m k v) → Below x (match_ordering r ((k, v) ∷ e ∷ m) ((e.0, v) ∷ m) (e ∷ set_at m k v))
below_case x k v e m Less h l rest = (l, h)
below_case x k v e m Equal h l rest = h
below_case x k v e m Greater h l rest = (h.0, rest)

below_set : (x k : List ℕ) (v : Mark) (m : List (List ℕ × Mark)) → Below x m → bytes_cmp x k ≡ Less → Below x (set_at m k v)
below_set x k v [] h l = (l, tt)
below_set x k v (e ∷ m) h l = below_case x k v e m (bytes_cmp k e.0) h l (below_set x k v m h.1 l)

sorted_case : (k : List ℕ) (v : Mark) (e : List ℕ × Mark) (m : List (List ℕ × Mark)) (r : Ordering) → bytes_cmp k e.0 ≡ r → IsSorted (e ∷ m) → IsSorted (set_at m k v) → IsSorted (match_ordering r ((k, v) ∷ e ∷ m) ((e.0, v) ∷ m) (e ∷ set_at m k v))
sorted_case k v e m Less is s rest =
    ((is, each_as (λ y. bytes_cmp e.0 y ≡ Less) (λ y. bytes_cmp k y ≡ Less) (λ y l. order.trans k e.0 y is l) (keys_of m) s.0), s)
sorted_case k v e m Equal is s rest = s
sorted_case k v e m Greater is s rest = (below_set e.0 k v m s.0 (order.antisymm e.0 k ∙ ap ordering_reverse is), rest)

pub sorted_set : (m : List (List ℕ × Mark)) (k : List ℕ) (v : Mark) → IsSorted m → IsSorted (set_at m k v)
sorted_set [] k v s = (tt, tt)
sorted_set (e ∷ m) k v s = sorted_case k v e m (bytes_cmp k e.0) refl s (sorted_set m k v s.1)

pub sorted_with : (m : List (List ℕ × Mark)) (writes : List Entry) → IsSorted m → IsSorted (with_marks m writes)
sorted_with m [] s = s
sorted_with m (w ∷ ws) s = sorted_with (set_at m w.key w.mark) ws (sorted_set m w.key w.mark s)

below_filter : (x : List ℕ) (p : List ℕ × Mark → Bool) (m : List (List ℕ × Mark)) → Below x m → Below x (filter p m)
below_filter x p [] h = tt
below_filter x p (e ∷ m) h = go (p e) (below_filter x p m h.1)
  where
    go : (b : Bool) → Below x (filter p m) → Below x (cond b (e ∷ filter p m) (filter p m))
    go true rest = (h.0, rest)
    go false rest = rest

pub sorted_filter : (p : List ℕ × Mark → Bool) (m : List (List ℕ × Mark)) → IsSorted m → IsSorted (filter p m)
sorted_filter p [] s = tt
sorted_filter p (e ∷ m) s = go (p e) (sorted_filter p m s.1)
  where
    go : (b : Bool) → IsSorted (filter p m) → IsSorted (cond b (e ∷ filter p m) (filter p m))
    go true rest = (below_filter e.0 p m s.0, rest)
    go false rest = rest

-- ---- the same at each key

-- a key below all has nothing
below_all : {X : Type 0} (q : List ℕ) (m : List (List ℕ × X)) → Each (λ y. bytes_cmp q y ≡ Less) (keys_of m) → value_at m q ≡ None
below_all q [] h = refl
below_all q (e ∷ m) h = ap (λ r. cond (is_eq r) (Some e.1) (value_at m q)) h.0 ∙ below_all q m h.1

-- a key below the first one has nothing
below_first : (q : List ℕ) (e : List ℕ × Mark) (m : List (List ℕ × Mark)) → IsSorted (e ∷ m) → bytes_cmp q e.0 ≡ Less → value_at (e ∷ m) q ≡ None
below_first q e m s l = below_all q (e ∷ m) (l, each_as (λ y. bytes_cmp e.0 y ≡ Less) (λ y. bytes_cmp q y ≡ Less) (λ y k. order.trans q e.0 y l k) (keys_of m) s.0)

-- and so has the first key behind the first pair
past_first : {X : Type 0} (q : List ℕ) (e : List ℕ × X) (m : List (List ℕ × X)) → AreRising (keys_of (e ∷ m)) → is_eq (bytes_cmp q e.0) ≡ true → value_at m q ≡ None
past_first q e m s is =
    let here : q ≡ e.0 = same_true q e.0 (same_is_eq q e.0 ∙ is) in
    ap (value_at m) here ∙ below_all e.0 m s.0

at_first : (e : List ℕ × Mark) (m : List (List ℕ × Mark)) → value_at (e ∷ m) e.0 ≡ Some e.1
at_first e m = ap (λ b. cond b (Some e.1) (value_at m e.0)) (at_is e.0 e.0 ∙ same_self e.0)

tail_case : (e f : List ℕ × Mark) (xs ys : List (List ℕ × Mark)) (q : List ℕ) (b : Bool) → is_eq (bytes_cmp q e.0) ≡ b → e.0 ≡ f.0 → IsSorted (e ∷ xs) → IsSorted (f ∷ ys) → value_at (e ∷ xs) q ≡ value_at (f ∷ ys) q → value_at xs q ≡ value_at ys q
tail_case e f xs ys q true is heads s t h = past_first q e xs s is ∙ sym (past_first q f ys t (ap (λ l. is_eq (bytes_cmp q l)) (sym heads) ∙ is))
tail_case e f xs ys q false is heads s t h =
    sym (ap (λ c. cond c (Some e.1) (value_at xs q)) is) ∙ h ∙ ap (λ c. cond c (Some f.1) (value_at ys q)) (ap (λ l. is_eq (bytes_cmp q l)) (sym heads) ∙ is)

same_case : (e f : List ℕ × Mark) (xs ys : List (List ℕ × Mark)) (r : Ordering) → bytes_cmp e.0 f.0 ≡ r → IsSorted (e ∷ xs) → IsSorted (f ∷ ys) → ((q : List ℕ) → value_at (e ∷ xs) q ≡ value_at (f ∷ ys) q)
    → (((q : List ℕ) → value_at xs q ≡ value_at ys q) → xs ≡ ys) → e ∷ xs ≡ f ∷ ys
same_case e f xs ys Less is s t h rest =
    let no_value : Some e.1 ≡ None = sym (at_first e xs) ∙ h e.0 ∙ below_first e.0 f ys t is in absurd (cc no_value)
same_case e f xs ys Greater is s t h rest =
    let less : bytes_cmp f.0 e.0 ≡ Less = order.antisymm f.0 e.0 ∙ ap ordering_reverse is in
    let no_value : Some f.1 ≡ None = sym (at_first f ys) ∙ sym (h f.0) ∙ below_first f.0 e xs s less in absurd (cc no_value)
same_case e f xs ys Equal is s t h rest =
    let heads : e.0 ≡ f.0 = exact_bytes e.0 f.0 is in
    let values : Some e.1 ≡ Some f.1 = sym (at_first e xs) ∙ h e.0 ∙ ap (value_at (f ∷ ys)) heads ∙ at_first f ys in
    let marks : e.1 ≡ f.1 = cc values in
    let tails : xs ≡ ys = rest (λ q. tail_case e f xs ys q (is_eq (bytes_cmp q e.0)) refl heads s t (h q)) in
    λ i. (heads i, marks i) ∷ tails i

pub sorted_same : (xs ys : List (List ℕ × Mark)) → IsSorted xs → IsSorted ys → ((q : List ℕ) → value_at xs q ≡ value_at ys q) → xs ≡ ys
sorted_same [] [] s t h = refl
sorted_same [] (f ∷ ys) s t h = let no_value : None ≡ Some f.1 = h f.0 ∙ at_first f ys in absurd (cc no_value)
sorted_same (e ∷ xs) [] s t h = let no_value : None ≡ Some e.1 = sym (h e.0) ∙ at_first e xs in absurd (cc no_value)
sorted_same (e ∷ xs) (f ∷ ys) s t h = same_case e f xs ys (bytes_cmp e.0 f.0) refl s t h (λ tails. sorted_same xs ys s.1 t.1 tails)

-- what the contents keep at a key
kept_case : (behind : Bool) (e : List ℕ × Mark) (m : List (List ℕ × Mark)) (q : List ℕ) (k b : Bool) → is_kept behind e.1 ≡ k → is_eq (bytes_cmp q e.0) ≡ b → IsSorted (e ∷ m) → value_at (kept_marks behind m) q ≡ shown behind (value_at m q)
    → value_at (cond k (e ∷ kept_marks behind m) (kept_marks behind m)) q ≡ shown behind (cond b (Some e.1) (value_at m q))
kept_case behind e m q true true is at s rest = ap (λ c. cond c (Some e.1) (value_at (kept_marks behind m) q)) at ∙ sym (ap (λ c. cond c (Some e.1) None) is)
kept_case behind e m q true false is at s rest = ap (λ c. cond c (Some e.1) (value_at (kept_marks behind m) q)) at ∙ rest
kept_case behind e m q false true is at s rest = rest ∙ ap (shown behind) (past_first q e m s at) ∙ sym (ap (λ c. cond c (Some e.1) None) is)
kept_case behind e m q false false is at s rest = rest

pub kept_at : (behind : Bool) (m : List (List ℕ × Mark)) (q : List ℕ) → IsSorted m → value_at (kept_marks behind m) q ≡ shown behind (value_at m q)
kept_at behind [] q s = refl
kept_at behind (e ∷ m) q s = kept_case behind e m q (is_kept behind e.1) (is_eq (bytes_cmp q e.0)) refl refl s (kept_at behind m q s.1)

-- ---- the newest of writes

or_some : (o : Option Mark) (mark : Mark) (v : Option Mark) → option_or o (Some mark) ≡ option_or (option_or o (Some mark)) v
or_some None mark v = refl
or_some (Some x) mark v = refl

pub value_with : (last : ℕ) (writes : List Entry) (m : List (List ℕ × Mark)) (q : List ℕ) → Each (λ (w : Entry). w.number ≤ last) writes → value_at (with_marks m writes) q ≡ option_or (last_write writes last q) (value_at m q)
value_with last [] m q h = refl
value_with last (w ∷ ws) m q h =
    let counts : nat_le w.number last ≡ true = grind (arith, h.0) in
    value_with last ws (set_at m w.key w.mark) q h.1
    ∙ ap (option_or (last_write ws last q)) (value_set m w.key w.mark q)
    ∙ go (same w.key q)
    ∙ ap (λ b. option_or (last_mark (cond (same w.key q && b) (w ∷ filter (λ write. same write.key q && nat_le write.number last) ws) (filter (λ write. same write.key q && nat_le write.number last) ws))) (value_at m q)) (sym counts)
  where
    go : (b : Bool) → option_or (last_write ws last q) (cond b (Some w.mark) (value_at m q)) ≡ option_or (last_mark (cond (b && true) (w ∷ filter (λ write. same write.key q && nat_le write.number last) ws) (filter (λ write. same write.key q && nat_le write.number last) ws))) (value_at m q)
    go true = or_some (last_write ws last q) w.mark (value_at m q)
    go false = refl

-- ---- places without a mark

pub rising_of : (keys : List (List ℕ)) → IsStrictlySortedBy bytes_cmp keys → AreRising keys
rising_of [] s = tt
rising_of (k ∷ ks) s = (recursion_from_All (λ y. bytes_cmp k y ≡ Less) ks (All-after_first bytes_cmp k ks s), rising_of ks (sorted_tail bytes_cmp k ks s))

present_below : (x : List ℕ) (es : List (List ℕ × Option Mark)) → Each (λ y. bytes_cmp x y ≡ Less) (keys_of es) → Below x (present es)
present_below x [] h = tt
present_below x ((k, None) ∷ es) h = present_below x es h.1
present_below x ((k, Some mark) ∷ es) h = (h.0, present_below x es h.1)

pub present_sorted : (es : List (List ℕ × Option Mark)) → AreRising (keys_of es) → IsSorted (present es)
present_sorted [] s = tt
present_sorted ((k, None) ∷ es) s = present_sorted es s.1
present_sorted ((k, Some mark) ∷ es) s = (present_below k es s.0, present_sorted es s.1)

some_case : (mark : Mark) (found : Option (Option Mark)) (b : Bool) → cond b (Some mark) (flat found) ≡ flat (cond b (Some (Some mark)) found)
some_case mark found true = refl
some_case mark found false = refl

none_case : (found : Option (Option Mark)) (b : Bool) → (b ≡ true → found ≡ None) → flat found ≡ flat (cond b (Some None) found)
none_case found true past = ap flat (past refl)
none_case found false past = refl

pub present_at : (es : List (List ℕ × Option Mark)) (q : List ℕ) → AreRising (keys_of es) → value_at (present es) q ≡ flat (value_at es q)
present_at [] q s = refl
present_at ((k, Some mark) ∷ es) q s = ap (λ o. cond (is_eq (bytes_cmp q k)) (Some mark) o) (present_at es q s.1) ∙ some_case mark (value_at es q) (is_eq (bytes_cmp q k))
present_at ((k, None) ∷ es) q s = present_at es q s.1 ∙ none_case (value_at es q) (is_eq (bytes_cmp q k)) (past_first q (k, None) es s)
