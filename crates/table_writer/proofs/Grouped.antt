-- Entries as pairs of a key and a value in blocks, and the blocks that they are cut into.
use Rattle.std.proofs.Common.{◌≡◌, ℕ, suc, ◌+◌, ◌-◌, ◌*◌, ◌/◌, ◌%◌, ◌^◌, ◌<◌, ◌≤◌, Bool, true, false, cond, eqb, leb, List, [], ◌∷◌, ◌++◌, length, take, drop, Some, Ordering, Less, Equal, Greater, refl, sym, ap, subst, ◌∙◌, append_assoc, inl, inr, arith}
use Rattle.std.specs.Prelude.{map, fold, slice_get}
use Rattle.std.specs.List.{AllByRecursion, flat_map}
use Rattle.std.specs.Ordering.{is_le, is_lt, nat_cmp, ordering_then}
use Rattle.std.specs.Int.{w64, from_le_bytes}
use Rattle.std.proofs.lemmas.Bool.{and_parts, cases_lt, false≢true, le-leb, le-ltb, lt-ltb}
use Rattle.std.proofs.lemmas.Cmp.{tied_itself}
use Rattle.std.proofs.lemmas.List.{append-nil, drop_at, length-append, take_at}
use Rattle.std.proofs.lemmas.Nat.{from_le_bytes-to_le_bytes_8}
use Rattle.st_base.proofs.Ordered.{positions_total}
use Rattle.st_base.specs.Bytes.{bytes_cmp}
use Rattle.st_base.specs.Order.{comes_before, position_cmp, rises_behind}
use Rattle.st_base.specs.Rows.{FitsMark}
use Rattle.st_base.specs.declared.entry.Entry.{Entry}
use Rattle.st_base.specs.declared.entry.Mark.{Mark}
use Rattle.st_base.specs.declared.entry.Mark.TheVariants.{Put, Gone}
use Rattle.st_code.specs.Fixed.{fixed64}
use Rattle.st_block.specs.InternalKey.{internal_cmp, packed, user_key, entry_under, is_kind, kind_of, mark_under, number_of, internal_key, kind_under, value_under}
use Rattle.st_block.specs.Written.{FitsBlock, entries_bytes, last_pair_key}
use Rattle.st_block.specs.declared.kind.BlockKind.TheVariants.{Data}
use Rattle.st_table.specs.Entries.{last_entry, may_have}
use Rattle.table_writer.specs.Written.{Cut, MayPut, Pair, blocks_of, closed_with, cut_more, cut_of, pair_of}
use Rattle.st_table.specs.declared.kind.TableKind.{TableKind}

-- ---- an entry and its pair

abbrev pub entry_of_pair : Pair → Entry
entry_of_pair pair = entry_under pair.0 pair.1

packed_number : Entry → ℕ
packed_number e = e.number * 256 + kind_under e.mark

kind_small : (mark : Mark) → kind_under mark < 2
kind_small (Put value) = omega arith
kind_small Gone = omega arith

small : (e : Entry) → e.number < 2 ^ 56 → e.number * 256 + kind_under e.mark < 2 ^ 64
small e lt = omega (arith, kind_small e.mark)

key_length : (e : Entry) → length (internal_key e) ≡ length e.key + 8
key_length e = omega (arith, length-append e.key (fixed64 (e.number * 256 + kind_under e.mark)))

user_key_is : (e : Entry) → user_key (internal_key e) ≡ e.key
user_key_is e =
    ap (λ (k : ℕ). take k (internal_key e)) (let k : length (internal_key e) - 8 ≡ length e.key = omega (arith, key_length e) in k)
    ∙ take_at e.key (fixed64 (e.number * 256 + kind_under e.mark)) (length e.key) refl

packed_is : (e : Entry) → e.number < 2 ^ 56 → packed (internal_key e) ≡ e.number * 256 + kind_under e.mark
packed_is e lt =
    ap (λ (k : ℕ). from_le_bytes w64 (drop k (internal_key e))) (let k : length (internal_key e) - 8 ≡ length e.key = omega (arith, key_length e) in k)
    ∙ ap (λ (l : List ℕ). from_le_bytes w64 l) (drop_at e.key (fixed64 (e.number * 256 + kind_under e.mark)) (length e.key) refl)
    ∙ from_le_bytes-to_le_bytes_8 (e.number * 256 + kind_under e.mark) (small e lt)

number_is : (e : Entry) → e.number < 2 ^ 56 → number_of (internal_key e) ≡ e.number
number_is e lt = ap (λ (n : ℕ). n / 256) (packed_is e lt) ∙ (let k : (e.number * 256 + kind_under e.mark) / 256 ≡ e.number = omega (arith, kind_small e.mark) in k)

kind_is : (e : Entry) → e.number < 2 ^ 56 → kind_of (internal_key e) ≡ kind_under e.mark
kind_is e lt = ap (λ (n : ℕ). n % 256) (packed_is e lt) ∙ (let k : (e.number * 256 + kind_under e.mark) % 256 ≡ kind_under e.mark = omega (arith, kind_small e.mark) in k)

mark_is : (mark : Mark) → mark_under (kind_under mark) (value_under mark) ≡ mark
mark_is (Put value) = refl
mark_is Gone = refl

kind_fits : (mark : Mark) → is_kind (kind_under mark) (value_under mark) ≡ true
kind_fits (Put value) = refl
kind_fits Gone = refl

pub pair_is : (e : Entry) → e.number < 2 ^ 56 → entry_of_pair (pair_of e) ≡ e
pair_is e lt =
    ap (λ (k : List ℕ). let x : Entry = record { key = k; number = number_of (internal_key e); mark = mark_under (kind_of (internal_key e)) (value_under e.mark) } in x) (user_key_is e)
    ∙ ap (λ (n : ℕ). let x : Entry = record { key = e.key; number = n; mark = mark_under (kind_of (internal_key e)) (value_under e.mark) } in x) (number_is e lt)
    ∙ ap (λ (n : ℕ). let x : Entry = record { key = e.key; number = e.number; mark = mark_under n (value_under e.mark) } in x) (kind_is e lt)
    ∙ ap (λ (m : Mark). let x : Entry = record { key = e.key; number = e.number; mark = m } in x) (mark_is e.mark)

-- what holds of its pair
pub record PairFits (kind : TableKind) (pair : Pair) : Type 0 where
  pub block : FitsBlock Data pair
  pub kind_fits : is_kind (kind_of pair.0) pair.1 ≡ true
  pub number_fits : may_have kind (number_of pair.0) ≡ true

value_short : (mark : Mark) → FitsMark mark → length (value_under mark) ≤ 1048576
value_short (Put value) h = h
value_short Gone h = omega arith

pub pair_fits : (kind : TableKind) (e : Entry) → MayPut kind e → PairFits kind (pair_of e)
pair_fits kind e h = record {
  block = record { key = omega (arith, key_length e, h.limits.key); value = value_short e.mark h.limits.mark; long = le-leb _ _ (omega (arith, key_length e)) };
  kind_fits = ap (λ (n : ℕ). is_kind n (value_under e.mark)) (kind_is e h.number) ∙ kind_fits e.mark;
  number_fits = ap (may_have kind) (number_is e h.number) ∙ h.allowed;
}

pub pairs_fit : (kind : TableKind) (entries : List Entry) → AllByRecursion (MayPut kind) entries → AllByRecursion (PairFits kind) (map pair_of entries)
pairs_fit kind [] h = tt
pairs_fit kind (e ∷ es) h = (pair_fits kind e h.0, pairs_fit kind es h.1)

pub pairs_are : (kind : TableKind) (entries : List Entry) → AllByRecursion (MayPut kind) entries → map entry_of_pair (map pair_of entries) ≡ entries
pairs_are kind [] h = refl
pairs_are kind (e ∷ es) h = ap (λ (x : Entry). x ∷ map entry_of_pair (map pair_of es)) (pair_is e h.0.number) ∙ ap (λ (l : List Entry). e ∷ l) (pairs_are kind es h.1)

-- ---- the order of internal keys

abbrev pub before : Pair → Pair → Bool
before p q = comes_before (entry_of_pair p) (entry_of_pair q)

is_less : (o : Ordering) → is_lt o ≡ true → o ≡ Less
is_less Less e = refl
is_less Equal e = absurd cc
is_less Greater e = absurd cc

less_number : (m n : ℕ) → n < m → is_lt (nat_cmp n m) ≡ true
less_number m n lt = ap (λ (b : Bool). is_lt (cond b Less (cond (eqb n m) Equal Greater))) (lt-ltb n m lt)

number_less : (m n : ℕ) → is_lt (nat_cmp n m) ≡ true → n < m
number_less m n h = elim (cases_lt n m) [ inl lt ↦ lt | inr le ↦ absurd (false≢true (sym (not_less m n le) ∙ h)) ]
  where
    not_lt : (t : Bool) → is_lt (cond t Equal Greater) ≡ false
    not_lt true = refl
    not_lt false = refl

    not_less : (m n : ℕ) → m ≤ n → is_lt (nat_cmp n m) ≡ false
    not_less m n le = ap (λ (b : Bool). is_lt (cond b Less (cond (eqb n m) Equal Greater))) (le-ltb n m le) ∙ not_lt (eqb n m)

-- who comes before as an entry comes before as an internal key
pub internal_less : (p q : Pair) → before p q ≡ true → is_lt (internal_cmp p.0 q.0) ≡ true
internal_less p q h = by_key (bytes_cmp (user_key p.0) (user_key q.0)) h
  where
    by_key : (o : Ordering) → is_lt (ordering_then o (nat_cmp (packed q.0 / 256) (packed p.0 / 256))) ≡ true → is_lt (ordering_then o (nat_cmp (packed q.0) (packed p.0))) ≡ true
    by_key Less h = refl
    by_key Equal h = let lt = number_less (packed p.0 / 256) (packed q.0 / 256) h in less_number (packed p.0) (packed q.0) (omega arith)
    by_key Greater h = absurd cc

-- a key is at or after itself
pub internal_same : (key : List ℕ) → is_le (internal_cmp key key) ≡ true
internal_same key = ap is_le (tied_itself positions_total (user_key key, packed key))

chain : (p q r : Pair) → before p q ≡ true → before q r ≡ true → before p r ≡ true
chain p q r h g =
    let a = entry_of_pair p in
    let b = entry_of_pair q in
    let c = entry_of_pair r in
    ap is_lt (positions_total.trans (a.key, a.number) (b.key, b.number) (c.key, c.number) (is_less (position_cmp a.key a.number b.key b.number) h) (is_less (position_cmp b.key b.number c.key c.number) g))

-- ---- the last of some pairs

abbrev pub last_pair : Pair → List Pair → Pair
last_pair pair [] = pair
last_pair pair (other ∷ pairs) = last_pair other pairs

pub last_key_is : (key : List ℕ) (pair : Pair) (pairs : List Pair) → last_pair_key key (pair ∷ pairs) ≡ (last_pair pair pairs).0
last_key_is key pair [] = refl
last_key_is key pair (other ∷ pairs) = last_key_is pair.0 other pairs

pub last_before : (a pair : Pair) (pairs : List Pair) → before a pair ≡ true → rises_behind comes_before (entry_of_pair pair) (map entry_of_pair pairs) ≡ true → before a (last_pair pair pairs) ≡ true
last_before a pair [] h r = h
last_before a pair (other ∷ pairs) h r =
    let p = and_parts (before pair other) (rises_behind comes_before (entry_of_pair other) (map entry_of_pair pairs)) r in
    last_before a other pairs (chain a pair other h p.0) p.1

last_of : (e : Entry) (es : List Entry) (d : Entry) (ds : List Entry) → last_entry (e ∷ es ++ d ∷ ds) ≡ last_entry (d ∷ ds)
last_of e [] d ds = ap (λ (k : ℕ). slice_get (e ∷ d ∷ ds) k) (let k : length (e ∷ d ∷ ds) - 1 ≡ suc (length (d ∷ ds) - 1) = omega arith in k)
last_of e (x ∷ es) d ds = ap (λ (k : ℕ). slice_get (e ∷ x ∷ es ++ d ∷ ds) k) (let k : length (e ∷ x ∷ es ++ d ∷ ds) - 1 ≡ suc (length (x ∷ es ++ d ∷ ds) - 1) = omega arith in k) ∙ last_of x es d ds

last_some : (pair : Pair) (pairs : List Pair) → last_entry (map entry_of_pair (pair ∷ pairs)) ≡ Some (entry_of_pair (last_pair pair pairs))
last_some pair [] = refl
last_some pair (other ∷ pairs) = last_of (entry_of_pair pair) [] (entry_of_pair other) (map entry_of_pair pairs) ∙ last_some other pairs

pub last_behind : (front : List Entry) (pair : Pair) (pairs : List Pair) → last_entry (front ++ map entry_of_pair (pair ∷ pairs)) ≡ Some (entry_of_pair (last_pair pair pairs))
last_behind [] pair pairs = last_some pair pairs
last_behind (e ∷ es) pair pairs = last_of e es (entry_of_pair pair) (map entry_of_pair pairs) ∙ last_some pair pairs

-- ---- what pairs are cut into

abbrev pub joined_pairs : List (List Pair) → List Pair
joined_pairs groups = flat_map (λ group. group) groups

abbrev pub NotEmpty : List Pair → Type 0
NotEmpty [] = ⊥
NotEmpty (pair ∷ pairs) = Unit {0}

joined_more : (groups : List (List Pair)) (group : List Pair) → joined_pairs (groups ++ group ∷ []) ≡ joined_pairs groups ++ group
joined_more [] group = append-nil group
joined_more (one ∷ groups) group = ap (λ (l : List Pair). one ++ l) (joined_more groups group) ∙ sym (append_assoc one (joined_pairs groups) group)

some_more : (groups : List (List Pair)) (group : List Pair) → AllByRecursion NotEmpty groups → NotEmpty group → AllByRecursion NotEmpty (groups ++ group ∷ [])
some_more [] group h g = (g, tt)
some_more (one ∷ groups) group h g = (h.0, some_more groups group h.1 g)

push_some : (group : List Pair) (pair : Pair) → NotEmpty (group ++ pair ∷ [])
push_some [] pair = tt
push_some (one ∷ group) pair = tt

-- the pairs in a cut, and that no block is empty
pub record IsCut (cut : Cut) (pairs : List Pair) : Type 0 where
  pub pairs_are : joined_pairs cut.closed ++ cut.open_block ≡ pairs
  pub none_empty : AllByRecursion NotEmpty cut.closed

is_cut_either : (closed : List (List Pair)) (group pairs : List Pair) (pair : Pair) (t : Bool) → joined_pairs closed ++ group ≡ pairs → AllByRecursion NotEmpty closed
    → IsCut (cond t (record { closed = closed ++ (group ++ pair ∷ []) ∷ []; open_block = [] }) (record { closed = closed; open_block = group ++ pair ∷ [] })) (pairs ++ pair ∷ [])
is_cut_either closed group pairs pair true e h = record {
  pairs_are = append-nil (joined_pairs (closed ++ (group ++ pair ∷ []) ∷ [])) ∙ joined_more closed (group ++ pair ∷ []) ∙ sym (append_assoc (joined_pairs closed) group (pair ∷ [])) ∙ ap (λ (l : List Pair). l ++ pair ∷ []) e;
  none_empty = some_more closed (group ++ pair ∷ []) h (push_some group pair);
}
is_cut_either closed group pairs pair false e h = record { pairs_are = sym (append_assoc (joined_pairs closed) group (pair ∷ [])) ∙ ap (λ (l : List Pair). l ++ pair ∷ []) e; none_empty = h }

is_cut_more : (cut : Cut) (pairs : List Pair) (pair : Pair) → IsCut cut pairs → IsCut (cut_more cut pair) (pairs ++ pair ∷ [])
is_cut_more cut pairs pair h = is_cut_either cut.closed cut.open_block pairs pair (leb 4096 (length (entries_bytes 16 0 [] (cut.open_block ++ pair ∷ [])))) h.pairs_are h.none_empty

is_cut_fold : (cut : Cut) (front pairs : List Pair) → IsCut cut front → IsCut (fold cut_more cut pairs) (front ++ pairs)
is_cut_fold cut front [] h = subst (λ (l : List Pair). IsCut cut l) (sym (append-nil front)) h
is_cut_fold cut front (pair ∷ pairs) h = subst (λ (l : List Pair). IsCut (fold cut_more (cut_more cut pair) pairs) l) (append_assoc front (pair ∷ []) pairs) (is_cut_fold (cut_more cut pair) (front ++ pair ∷ []) pairs (is_cut_more cut front pair h))

closed_are : (closed : List (List Pair)) (group pairs : List Pair) → joined_pairs closed ++ group ≡ pairs → AllByRecursion NotEmpty closed → (joined_pairs (closed_with closed group) ≡ pairs) × AllByRecursion NotEmpty (closed_with closed group)
closed_are closed [] pairs e h = (sym (append-nil (joined_pairs closed)) ∙ e, h)
closed_are closed (pair ∷ group) pairs e h = (joined_more closed (pair ∷ group) ∙ e, some_more closed (pair ∷ group) h tt)

pub blocks_are : (pairs : List Pair) → (joined_pairs (blocks_of pairs) ≡ pairs) × AllByRecursion NotEmpty (blocks_of pairs)
blocks_are pairs =
    let start : Cut = record { closed = []; open_block = [] } in
    let base : IsCut start [] = record { pairs_are = refl; none_empty = tt } in
    let c = is_cut_fold start [] pairs base in
    closed_are (cut_of pairs).closed (cut_of pairs).open_block pairs c.pairs_are c.none_empty
