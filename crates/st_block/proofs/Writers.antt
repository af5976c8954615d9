-- Writing entries one behind the other.
use Rattle.std.proofs.Common.{◌≡◌, ℕ, zero, suc, ◌+◌, ◌-◌, ◌*◌, ◌/◌, ◌%◌, ◌<◌, ◌≤◌, ◌^◌, inl, inr, Bool, true, false, cond, eqb, ltb, List, [], ◌∷◌, ◌++◌, length, take, drop, refl, sym, ap, ◌∙◌, append_assoc, arith}
use Rattle.std.specs.Prelude.{nat_eq, max}
use Rattle.std.specs.List.{common_prefix_len, flat_map}
use Rattle.std.proofs.lemmas.Bool.{cases_Bool, eqb-true, lt-ltb}
use Rattle.std.proofs.lemmas.List.{length-append, length-drop, append-nil}
use Rattle.st_code.specs.Fixed.{fixed32}
use Rattle.st_code.specs.Varint.{varint, shortest}
use Rattle.st_block.specs.Written.{HoldsPairs, IsWriting, Writing, pair_added, entries_bytes, entry_bytes, finished_block, last_pair_key, or_zero, restarts_of, shared_of, with_tail}

-- ---- a common front

pub front_end : (xs : List ℕ) → common_prefix_len nat_eq xs [] ≡ 0
front_end [] = refl
front_end (x ∷ xs) = refl

pub front_kept : (xs ys : List ℕ) → take (common_prefix_len nat_eq xs ys) xs ++ drop (common_prefix_len nat_eq xs ys) ys ≡ ys
front_kept [] ys = refl
front_kept (x ∷ xs) [] = refl
front_kept (x ∷ xs) (y ∷ ys) =
    elim (cases_Bool (eqb x y)) [
      | inl t ↦
          let n = common_prefix_len nat_eq xs ys in
          ap (λ (b : Bool). take (cond b (1 + n) 0) (x ∷ xs) ++ drop (cond b (1 + n) 0) (y ∷ ys)) t
          ∙ ap (λ (k : ℕ). take k (x ∷ xs) ++ drop k (y ∷ ys)) (let k : 1 + n ≡ suc n = omega arith in k)
          ∙ ap (λ (z : ℕ). z ∷ (take n xs ++ drop n ys)) (eqb-true x y t) ∙ ap (λ (l : List ℕ). y ∷ l) (front_kept xs ys)
      | inr f ↦ ap (λ (b : Bool). take (cond b (1 + common_prefix_len nat_eq xs ys) 0) (x ∷ xs) ++ drop (cond b (1 + common_prefix_len nat_eq xs ys) 0) (y ∷ ys)) f
    ]

-- ---- one more at the end

abbrev Pairs : Type 0
Pairs = List (List ℕ × List ℕ)

last_more : (before : List ℕ) (pairs : Pairs) (pair : List ℕ × List ℕ) → last_pair_key before (pairs ++ pair ∷ []) ≡ pair.0
last_more before [] pair = refl
last_more before (one ∷ pairs) pair = last_more one.0 pairs pair

entries_more : (interval count : ℕ) (before : List ℕ) (pairs : Pairs) (pair : List ℕ × List ℕ)
    → entries_bytes interval count before (pairs ++ pair ∷ []) ≡ entries_bytes interval count before pairs ++ entry_bytes (shared_of interval (count + length pairs) (last_pair_key before pairs) pair.0) pair.0 pair.1
entries_more interval count before [] pair =
    append-nil (entry_bytes (shared_of interval count before pair.0) pair.0 pair.1)
    ∙ ap (λ (k : ℕ). entry_bytes (shared_of interval k before pair.0) pair.0 pair.1) (let k : count ≡ count + 0 = omega arith in k)
entries_more interval count before (one ∷ pairs) pair =
    let first = entry_bytes (shared_of interval count before one.0) one.0 one.1 in
    ap (λ (l : List ℕ). first ++ l) (entries_more interval (count + 1) one.0 pairs pair)
    ∙ sym (append_assoc first (entries_bytes interval (count + 1) one.0 pairs) (entry_bytes (shared_of interval (count + 1 + length pairs) (last_pair_key one.0 pairs) pair.0) pair.0 pair.1))
    ∙ ap (λ (k : ℕ). first ++ entries_bytes interval (count + 1) one.0 pairs ++ entry_bytes (shared_of interval k (last_pair_key one.0 pairs) pair.0) pair.0 pair.1) (let k : count + 1 + length pairs ≡ count + suc (length pairs) = omega arith in k)

restarts_more : (interval count at : ℕ) (before : List ℕ) (pairs : Pairs) (pair : List ℕ × List ℕ)
    → restarts_of interval count at before (pairs ++ pair ∷ []) ≡ restarts_of interval count at before pairs ++ cond (eqb ((count + length pairs) % interval) 0) ((at + length (entries_bytes interval count before pairs)) ∷ []) []
restarts_more interval count at before [] pair =
    append-nil (cond (eqb (count % interval) 0) (at ∷ []) [])
    ∙ ap (λ (k : ℕ). cond (eqb (k % interval) 0) (at ∷ []) []) (let k : count ≡ count + 0 = omega arith in k)
    ∙ ap (λ (k : ℕ). cond (eqb ((count + 0) % interval) 0) (k ∷ []) []) (let k : at ≡ at + 0 = omega arith in k)
restarts_more interval count at before (one ∷ pairs) pair =
    let first = entry_bytes (shared_of interval count before one.0) one.0 one.1 in
    let here = cond (eqb (count % interval) 0) (at ∷ []) [] in
    let rest = restarts_of interval (count + 1) (at + length first) one.0 pairs in
    let k : count + 1 + length pairs ≡ count + suc (length pairs) = omega arith in
    let m : at + length first + length (entries_bytes interval (count + 1) one.0 pairs) ≡ at + length (first ++ entries_bytes interval (count + 1) one.0 pairs) = omega (arith, length-append first (entries_bytes interval (count + 1) one.0 pairs)) in
    ap (λ (l : List ℕ). here ++ l) (restarts_more interval (count + 1) (at + length first) one.0 pairs pair)
    ∙ sym (append_assoc here rest (cond (eqb ((count + 1 + length pairs) % interval) 0) ((at + length first + length (entries_bytes interval (count + 1) one.0 pairs)) ∷ []) []))
    ∙ ap (λ (n : ℕ). here ++ rest ++ cond (eqb (n % interval) 0) ((at + length first + length (entries_bytes interval (count + 1) one.0 pairs)) ∷ []) []) k
    ∙ ap (λ (n : ℕ). here ++ rest ++ cond (eqb ((count + suc (length pairs)) % interval) 0) (n ∷ []) []) m

pub holds_more : (writing : Writing) (pairs : Pairs) (key value : List ℕ) → HoldsPairs writing pairs → HoldsPairs (pair_added writing key value) (pairs ++ (key, value) ∷ [])
holds_more writing pairs key value h =
    let n : writing.count ≡ 0 + length pairs = omega (arith, h.count) in
    record {
      count = omega (arith, length-append pairs ((key, value) ∷ []), h.count);
      entries = ap (λ (l : List ℕ). l ++ entry_bytes (shared_of writing.interval writing.count writing.last key) key value) h.entries
          ∙ ap (λ (k : ℕ). entries_bytes writing.interval 0 [] pairs ++ entry_bytes (shared_of writing.interval k writing.last key) key value) n
          ∙ ap (λ (l : List ℕ). entries_bytes writing.interval 0 [] pairs ++ entry_bytes (shared_of writing.interval (0 + length pairs) l key) key value) h.last
          ∙ sym (entries_more writing.interval 0 [] pairs (key, value));
      restarts = ap (λ (l : List ℕ). l ++ cond (eqb (writing.count % writing.interval) 0) (length writing.entries ∷ []) []) h.restarts
          ∙ ap (λ (k : ℕ). restarts_of writing.interval 0 0 [] pairs ++ cond (eqb (k % writing.interval) 0) (length writing.entries ∷ []) []) n
          ∙ ap (λ (l : List ℕ). restarts_of writing.interval 0 0 [] pairs ++ cond (eqb ((0 + length pairs) % writing.interval) 0) (length l ∷ []) []) h.entries
          ∙ ap (λ (k : ℕ). restarts_of writing.interval 0 0 [] pairs ++ cond (eqb ((0 + length pairs) % writing.interval) 0) (k ∷ []) []) (let k : length (entries_bytes writing.interval 0 [] pairs) ≡ 0 + length (entries_bytes writing.interval 0 [] pairs) = omega arith in k)
          ∙ sym (restarts_more writing.interval 0 0 [] pairs (key, value));
      last = sym (last_more [] pairs (key, value));
    }

-- ---- sizes

varint_some : (n : ℕ) → 1 ≤ length (varint n)
unfolding shortest
varint_some n = either (ltb n 128)
  where
    either : (t : Bool) → 1 ≤ length (cond t (n ∷ []) ((n % 128 + 128) ∷ shortest 9 (n / 128)))
    either true = omega arith
    either false = omega arith

pub entry_some : (shared : ℕ) (key value : List ℕ) → 1 ≤ length (entry_bytes shared key value)
entry_some shared key value =
    let a = varint shared in
    let b = varint (length key - shared) in
    let c = varint (length value) in
    omega (arith, varint_some shared, length-append a b, length-append (a ++ b) c, length-append (a ++ b ++ c) (drop shared key), length-append (a ++ b ++ c ++ drop shared key) value)

-- what was finished is no shorter than its entries
pub finished_long : (writing : Writing) → length writing.entries ≤ length (finished_block writing)
finished_long writing =
    omega (arith, length-append writing.entries (flat_map fixed32 (or_zero writing.restarts)), length-append (writing.entries ++ flat_map fixed32 (or_zero writing.restarts)) (fixed32 (length (or_zero writing.restarts))))

pub keeps_writing : (writing : Writing) (key value : List ℕ) → IsWriting writing → length (finished_block (pair_added writing key value)) < 2 ^ 32 → IsWriting (pair_added writing key value)
keeps_writing writing key value w room =
    let entry = entry_bytes (shared_of writing.interval writing.count writing.last key) key value in
    let more = length-append writing.entries entry in
    let some = entry_some (shared_of writing.interval writing.count writing.last key) key value in
    let one : length (cond (eqb (writing.count % writing.interval) 0) (length writing.entries ∷ []) []) ≤ 1 = at_most (eqb (writing.count % writing.interval) 0) in
    record {
      interval = w.interval;
      size = omega (arith, finished_long (pair_added writing key value), room);
      count = omega (arith, more, some, w.count);
      restarts = omega (arith, more, some, w.restarts, one, length-append writing.restarts (cond (eqb (writing.count % writing.interval) 0) (length writing.entries ∷ []) []));
    }
  where
    at_most : (t : Bool) → length (cond t (length writing.entries ∷ []) []) ≤ 1
    at_most true = omega arith
    at_most false = omega arith

-- ---- lengths of one byte

one_byte : (n : ℕ) → n < 128 → varint n ≡ n ∷ []
unfolding shortest
one_byte n lt = ap (λ (t : Bool). cond t (n ∷ []) ((n % 128 + 128) ∷ shortest 9 (n / 128))) (lt-ltb n 128 lt)

pub short_lengths : (a b c : ℕ) → a < 128 → b < 128 → c < 128 → a ∷ b ∷ c ∷ [] ≡ varint a ++ varint b ++ varint c
short_lengths a b c p q r =
    sym (ap (λ (l : List ℕ). l ++ varint b ++ varint c) (one_byte a p)
    ∙ ap (λ (l : List ℕ). (a ∷ []) ++ l ++ varint c) (one_byte b q)
    ∙ ap (λ (l : List ℕ). (a ∷ b ∷ []) ++ l) (one_byte c r))

-- ---- room

short_form : (most n : ℕ) → length (shortest most n) ≤ most
unfolding shortest
short_form zero n = omega arith
short_form (suc most) n = either (ltb n 128) (short_form most (n / 128))
  where
    either : (t : Bool) → length (shortest most (n / 128)) ≤ most → length (cond t (n ∷ []) ((n % 128 + 128) ∷ shortest most (n / 128))) ≤ suc most
    either true h = omega arith
    either false h = omega arith

-- what is finished with an entry more is no longer than this
pub finished_short : (writing : Writing) (key value : List ℕ) → length (finished_block (pair_added writing key value)) ≤ length writing.entries + length key + length value + 4 * length writing.restarts + 42
finished_short writing key value =
    let s = shared_of writing.interval writing.count writing.last key in
    let a = varint s in
    let b = varint (length key - s) in
    let c = varint (length value) in
    let k = drop s key in
    let entry : length (entry_bytes s key value) ≤ 30 + length key + length value =
    omega (arith, short_form 10 s, short_form 10 (length key - s), short_form 10 (length value), length-append a b, length-append (a ++ b) c, length-append (a ++ b ++ c) k, length-append (a ++ b ++ c ++ k) value, length-drop s key) in
    let w = pair_added writing key value in
    let due = cond (eqb (writing.count % writing.interval) 0) (length writing.entries ∷ []) [] in
    let one : length due ≤ 1 = at_most (eqb (writing.count % writing.interval) 0) in
    let zeros = or_zero w.restarts in
    let some : length zeros ≤ length writing.restarts + 2 = omega (arith, zero_more w.restarts, length-append writing.restarts due, one) in
    omega (arith, entry, some, length-append writing.entries (entry_bytes s key value), length-append w.entries (flat_map fixed32 zeros), length-append (w.entries ++ flat_map fixed32 zeros) (fixed32 (length zeros)), four zeros)
  where
    at_most : (t : Bool) → length (cond t (length writing.entries ∷ []) []) ≤ 1
    at_most true = omega arith
    at_most false = omega arith

    zero_more : (l : List ℕ) → length (or_zero l) ≤ length l + 1
    zero_more [] = omega arith
    zero_more (r ∷ l) = omega arith

    four : (l : List ℕ) → length (flat_map fixed32 l) ≡ 4 * length l
    four [] = refl
    four (r ∷ l) = omega (arith, four l, length-append (fixed32 r) (flat_map fixed32 l))

-- ---- exact sizes

pub entry_length : (shared : ℕ) (key value : List ℕ) → length (entry_bytes shared key value) ≡ length (varint shared) + length (varint (length key - shared)) + length (varint (length value)) + (length key - shared) + length value
entry_length s key value =
    let a = varint s in
    let b = varint (length key - s) in
    let c = varint (length value) in
    let k = drop s key in
    omega (arith, length-append a b, length-append (a ++ b) c, length-append (a ++ b ++ c) k, length-append (a ++ b ++ c ++ k) value, length-drop s key)

pub offsets_length : (l : List ℕ) → length (flat_map fixed32 l) ≡ 4 * length l
offsets_length [] = refl
offsets_length (r ∷ l) = omega (arith, offsets_length l, length-append (fixed32 r) (flat_map fixed32 l))

pub zero_length : (l : List ℕ) → length (or_zero l) ≡ max (length l) 1
zero_length [] = refl
zero_length (r ∷ l) = omega arith

pub tail_length : (entries restarts : List ℕ) → length (with_tail entries (or_zero restarts)) ≡ length entries + 4 * max (length restarts) 1 + 4
tail_length entries restarts =
    let z = or_zero restarts in
    omega (arith, zero_length restarts, offsets_length z, length-append entries (flat_map fixed32 z), length-append (entries ++ flat_map fixed32 z) (fixed32 (length z)))
