-- Pairs in the order of their keys, and what they have at a key.
use Rattle.std.specs.Prelude.{⊤}
use Rattle.std.proofs.Common.{◌≡◌, ℕ, ◌≤◌, Bool, true, false, ◌&&◌, cond, nat_le, List, [], ◌∷◌, filter, Option, Some, None, is_eq, refl, sym, ◌∙◌, ap, arith}
use Rattle.std.specs.Option.{option_or}
use Rattle.std.specs.declared.cmp.Ordering.{Ordering}
use Rattle.std.specs.declared.cmp.Ordering.TheVariants.{Less, Equal, Greater}
use Rattle.std.specs.Ordering.{match_ordering, ordering_reverse}
use Rattle.std.specs.Cmp.{IsTotalOrder}
use Rattle.std.specs.List.{AllByRecursion as Each}
use Rattle.std.specs.Map.{keys_of}
use Rattle.std.proofs.lemmas.Cmp.{nat_list_cmp_total}
use Rattle.std.proofs.lemmas.Map.Lookups.{exact_bytes}
use Rattle.st_base.specs.Bytes.{bytes_cmp, same}
use Rattle.st_base.specs.Entries.{last_mark}
use Rattle.st_base.specs.Map.{set_at, value_at}
use Rattle.st_base.specs.declared.entry.Entry.{Entry}
use Rattle.st_base.specs.declared.entry.Mark.{Mark}
use Rattle.st_base.proofs.Same.{same_is_eq, same_self, same_true}
use Rattle.st_model.specs.Contents.{is_kept, kept_marks, with_marks}
use Rattle.st_model.specs.Read.{last_write}
use Rattle.std.proofs.lemmas.Map.Entries.{option_filter}
use Rattle.base_laws.proofs.Keys.{at_is}
use Rattle.base_laws.proofs.Lists.{each_as}
use Rattle.base_laws.proofs.Maps.{value_set}

-- each key is below those behind it
abbrev pub AreRising : List (List ℕ) → Type 0
AreRising [] = ⊤
AreRising (key ∷ keys) = Each (λ other. bytes_cmp key other ≡ Less) keys × AreRising keys

abbrev pub IsSorted : List (List ℕ × Mark) → Type 0
IsSorted pairs = AreRising (keys_of pairs)

-- the mark, where the contents keep it
abbrev pub shown : Bool → Option Mark → Option Mark
shown behind mark = option_filter (is_kept behind) mark

order : IsTotalOrder bytes_cmp
order = nat_list_cmp_total

-- ---- the order stays

abbrev Below : List ℕ → List (List ℕ × Mark) → Type 0
Below x m = Each (λ y. bytes_cmp x y ≡ Less) (keys_of m)

below_case : (x k : List ℕ) (v : Mark) (e : List ℕ × Mark) (m : List (List ℕ × Mark)) (r : Ordering) → Below x (e ∷ m) → bytes_cmp x k ≡ Less → Below x (set_at m k v) → Below x (match_ordering r ((k, v) ∷ e ∷ m) ((e.0, v) ∷ m) (e ∷ set_at m k v))
below_case x k v e m Less h l rest = (l, h)
below_case x k v e m Equal h l rest = h
below_case x k v e m Greater h l rest = (h.0, rest)

below_set : (x k : List ℕ) (v : Mark) (m : List (List ℕ × Mark)) → Below x m → bytes_cmp x k ≡ Less → Below x (set_at m k v)
below_set x k v [] h l = (l, tt)
below_set x k v (e ∷ m) h l = below_case x k v e m (bytes_cmp k e.0) h l (below_set x k v m h.1 l)

sorted_case : (k : List ℕ) (v : Mark) (e : List ℕ × Mark) (m : List (List ℕ × Mark)) (r : Ordering) → bytes_cmp k e.0 ≡ r → IsSorted (e ∷ m) → IsSorted (set_at m k v) → IsSorted (match_ordering r ((k, v) ∷ e ∷ m) ((e.0, v) ∷ m) (e ∷ set_at m k v))
sorted_case k v e m Less is s rest =
    ((is, each_as (λ y. bytes_cmp e.0 y ≡ Less) (λ y. bytes_cmp k y ≡ Less) (λ y l. order.trans k e.0 y is l) (keys_of m) s.0), s)
sorted_case k v e m Equal is s rest = s
sorted_case k v e m Greater is s rest = (below_set e.0 k v m s.0 (order.antisymm e.0 k ∙ ap ordering_reverse is), rest)

pub sorted_set : (m : List (List ℕ × Mark)) (k : List ℕ) (v : Mark) → IsSorted m → IsSorted (set_at m k v)
sorted_set [] k v s = (tt, tt)
sorted_set (e ∷ m) k v s = sorted_case k v e m (bytes_cmp k e.0) refl s (sorted_set m k v s.1)

pub sorted_with : (m : List (List ℕ × Mark)) (writes : List Entry) → IsSorted m → IsSorted (with_marks m writes)
sorted_with m [] s = s
sorted_with m (w ∷ ws) s = sorted_with (set_at m w.key w.mark) ws (sorted_set m w.key w.mark s)

below_filter : (x : List ℕ) (p : List ℕ × Mark → Bool) (m : List (List ℕ × Mark)) → Below x m → Below x (filter p m)
below_filter x p [] h = tt
below_filter x p (e ∷ m) h = go (p e) (below_filter x p m h.1)
  where
    go : (b : Bool) → Below x (filter p m) → Below x (cond b (e ∷ filter p m) (filter p m))
    go true rest = (h.0, rest)
    go false rest = rest

pub sorted_filter : (p : List ℕ × Mark → Bool) (m : List (List ℕ × Mark)) → IsSorted m → IsSorted (filter p m)
sorted_filter p [] s = tt
sorted_filter p (e ∷ m) s = go (p e) (sorted_filter p m s.1)
  where
    go : (b : Bool) → IsSorted (filter p m) → IsSorted (cond b (e ∷ filter p m) (filter p m))
    go true rest = (below_filter e.0 p m s.0, rest)
    go false rest = rest

-- ---- the same at each key

-- a key below all has nothing
below_all : {X : Type 0} (q : List ℕ) (m : List (List ℕ × X)) → Each (λ y. bytes_cmp q y ≡ Less) (keys_of m) → value_at m q ≡ None
below_all q [] h = refl
below_all q (e ∷ m) h = ap (λ r. cond (is_eq r) (Some e.1) (value_at m q)) h.0 ∙ below_all q m h.1

-- a key below the first one has nothing
below_first : (q : List ℕ) (e : List ℕ × Mark) (m : List (List ℕ × Mark)) → IsSorted (e ∷ m) → bytes_cmp q e.0 ≡ Less → value_at (e ∷ m) q ≡ None
below_first q e m s l = below_all q (e ∷ m) (l, each_as (λ y. bytes_cmp e.0 y ≡ Less) (λ y. bytes_cmp q y ≡ Less) (λ y k. order.trans q e.0 y l k) (keys_of m) s.0)

-- and so has the first key behind the first pair
pub past_first : {X : Type 0} (q : List ℕ) (e : List ℕ × X) (m : List (List ℕ × X)) → AreRising (keys_of (e ∷ m)) → is_eq (bytes_cmp q e.0) ≡ true → value_at m q ≡ None
past_first q e m s is =
    let here : q ≡ e.0 = same_true q e.0 (same_is_eq q e.0 ∙ is) in
    ap (value_at m) here ∙ below_all e.0 m s.0

at_first : (e : List ℕ × Mark) (m : List (List ℕ × Mark)) → value_at (e ∷ m) e.0 ≡ Some e.1
at_first e m = ap (λ b. cond b (Some e.1) (value_at m e.0)) (at_is e.0 e.0 ∙ same_self e.0)

tail_case : (e f : List ℕ × Mark) (xs ys : List (List ℕ × Mark)) (q : List ℕ) (b : Bool) → is_eq (bytes_cmp q e.0) ≡ b → e.0 ≡ f.0 → IsSorted (e ∷ xs) → IsSorted (f ∷ ys) → value_at (e ∷ xs) q ≡ value_at (f ∷ ys) q → value_at xs q ≡ value_at ys q
tail_case e f xs ys q true is heads s t h = past_first q e xs s is ∙ sym (past_first q f ys t (ap (λ l. is_eq (bytes_cmp q l)) (sym heads) ∙ is))
tail_case e f xs ys q false is heads s t h =
    sym (ap (λ c. cond c (Some e.1) (value_at xs q)) is) ∙ h ∙ ap (λ c. cond c (Some f.1) (value_at ys q)) (ap (λ l. is_eq (bytes_cmp q l)) (sym heads) ∙ is)

same_case : (e f : List ℕ × Mark) (xs ys : List (List ℕ × Mark)) (r : Ordering) → bytes_cmp e.0 f.0 ≡ r → IsSorted (e ∷ xs) → IsSorted (f ∷ ys) → ((q : List ℕ) → value_at (e ∷ xs) q ≡ value_at (f ∷ ys) q)
    → (((q : List ℕ) → value_at xs q ≡ value_at ys q) → xs ≡ ys) → e ∷ xs ≡ f ∷ ys
same_case e f xs ys Less is s t h rest =
    let no_value : Some e.1 ≡ None = sym (at_first e xs) ∙ h e.0 ∙ below_first e.0 f ys t is in absurd (cc no_value)
same_case e f xs ys Greater is s t h rest =
    let less : bytes_cmp f.0 e.0 ≡ Less = order.antisymm f.0 e.0 ∙ ap ordering_reverse is in
    let no_value : Some f.1 ≡ None = sym (at_first f ys) ∙ sym (h f.0) ∙ below_first f.0 e xs s less in absurd (cc no_value)
same_case e f xs ys Equal is s t h rest =
    let heads : e.0 ≡ f.0 = exact_bytes e.0 f.0 is in
    let values : Some e.1 ≡ Some f.1 = sym (at_first e xs) ∙ h e.0 ∙ ap (value_at (f ∷ ys)) heads ∙ at_first f ys in
    let marks : e.1 ≡ f.1 = cc values in
    let tails : xs ≡ ys = rest (λ q. tail_case e f xs ys q (is_eq (bytes_cmp q e.0)) refl heads s t (h q)) in
    λ i. (heads i, marks i) ∷ tails i

pub sorted_same : (xs ys : List (List ℕ × Mark)) → IsSorted xs → IsSorted ys → ((q : List ℕ) → value_at xs q ≡ value_at ys q) → xs ≡ ys
sorted_same [] [] s t h = refl
sorted_same [] (f ∷ ys) s t h = let no_value : None ≡ Some f.1 = h f.0 ∙ at_first f ys in absurd (cc no_value)
sorted_same (e ∷ xs) [] s t h = let no_value : None ≡ Some e.1 = sym (h e.0) ∙ at_first e xs in absurd (cc no_value)
sorted_same (e ∷ xs) (f ∷ ys) s t h = same_case e f xs ys (bytes_cmp e.0 f.0) refl s t h (λ tails. sorted_same xs ys s.1 t.1 tails)

-- what the contents keep at a key
kept_case : (behind : Bool) (e : List ℕ × Mark) (m : List (List ℕ × Mark)) (q : List ℕ) (k b : Bool) → is_kept behind e.1 ≡ k → is_eq (bytes_cmp q e.0) ≡ b → IsSorted (e ∷ m) → value_at (kept_marks behind m) q ≡ shown behind (value_at m q)
    → value_at (cond k (e ∷ kept_marks behind m) (kept_marks behind m)) q ≡ shown behind (cond b (Some e.1) (value_at m q))
kept_case behind e m q true true is at s rest = ap (λ c. cond c (Some e.1) (value_at (kept_marks behind m) q)) at ∙ sym (ap (λ c. cond c (Some e.1) None) is)
kept_case behind e m q true false is at s rest = ap (λ c. cond c (Some e.1) (value_at (kept_marks behind m) q)) at ∙ rest
kept_case behind e m q false true is at s rest = rest ∙ ap (shown behind) (past_first q e m s at) ∙ sym (ap (λ c. cond c (Some e.1) None) is)
kept_case behind e m q false false is at s rest = rest

pub kept_at : (behind : Bool) (m : List (List ℕ × Mark)) (q : List ℕ) → IsSorted m → value_at (kept_marks behind m) q ≡ shown behind (value_at m q)
kept_at behind [] q s = refl
kept_at behind (e ∷ m) q s = kept_case behind e m q (is_kept behind e.1) (is_eq (bytes_cmp q e.0)) refl refl s (kept_at behind m q s.1)

-- ---- the newest of writes

or_some : (o : Option Mark) (mark : Mark) (v : Option Mark) → option_or o (Some mark) ≡ option_or (option_or o (Some mark)) v
or_some None mark v = refl
or_some (Some x) mark v = refl

pub value_with : (last : ℕ) (writes : List Entry) (m : List (List ℕ × Mark)) (q : List ℕ) → Each (λ (w : Entry). w.number ≤ last) writes → value_at (with_marks m writes) q ≡ option_or (last_write writes last q) (value_at m q)
value_with last [] m q h = refl
value_with last (w ∷ ws) m q h =
    let counts : nat_le w.number last ≡ true = grind (arith, h.0) in
    value_with last ws (set_at m w.key w.mark) q h.1
    ∙ ap (option_or (last_write ws last q)) (value_set m w.key w.mark q)
    ∙ go (same w.key q)
    ∙ ap (λ b. option_or (last_mark (cond (same w.key q && b) (w ∷ filter (λ write. same write.key q && nat_le write.number last) ws) (filter (λ write. same write.key q && nat_le write.number last) ws))) (value_at m q)) (sym counts)
  where
    go : (b : Bool) → option_or (last_write ws last q) (cond b (Some w.mark) (value_at m q)) ≡ option_or (last_mark (cond (b && true) (w ∷ filter (λ write. same write.key q && nat_le write.number last) ws) (filter (λ write. same write.key q && nat_le write.number last) ws))) (value_at m q)
    go true = or_some (last_write ws last q) w.mark (value_at m q)
    go false = refl
