-- The steps of a scan, and where it ends.
use Rattle.std.proofs.Common.{◌≡◌, ℕ, zero, suc, ◌+◌, ◌-◌, ◌<◌, ◌≤◌, Bool, true, false, cond, ◌&&◌, List, [], ◌∷◌, ◌++◌, Option, Some, unwrap_or, Ordering, Less, Equal, Greater, refl, sym, ap, subst, ◌∙◌, append-nil, append_assoc, arith}
use Rattle.std.specs.Prelude.{nat_le}
use Rattle.std.specs.List.{AllByRecursion as Each}
use Rattle.std.specs.Ordering.{is_lt, ordering_then, nat_cmp}
use Rattle.std.proofs.lemmas.Bool.{le-leb, lt-leb}
use Rattle.st_base.specs.Bytes.{at_most, below, bytes_cmp}
use Rattle.st_base.specs.declared.entry.Entry.{Entry}
use Rattle.st_base.specs.declared.entry.KeyRange.{KeyRange}
use Rattle.base_laws.proofs.Keys.{below_at_most_below, below_not, not_below}
use Rattle.st_merge.specs.Scan.{KeyValue, cut_pairs, is_seen, live_behind, pair_bytes}
use Rattle.st_merge.specs.Heads.{entry_at_index}
use Rattle.st_order.specs.Sorted.{joined, merged}
use Rattle.st_order.proofs.Columns.{Weak, sorted_weak}
use Rattle.st_order.proofs.Sorted.{NotBefore}

abbrev most : ℕ
most = 1048576

pub pushed_last : (front : List KeyValue) (room bytes : ℕ) (pair : KeyValue) (pairs : List KeyValue) (after : ℕ) → 0 < room → after ≡ 0 → most ≤ bytes + pair_bytes pair
    → front ++ cut_pairs room bytes (pair ∷ pairs) ≡ (front ++ pair ∷ []) ++ cut_pairs after (bytes + pair_bytes pair) pairs
pushed_last front zero bytes pair pairs after pos is le = absurd (omega arith)
pushed_last front (suc room) bytes pair pairs after pos is le =
    ap (λ b. front ++ pair ∷ cond b [] (cut_pairs room (bytes + pair_bytes pair) pairs)) (le-leb most (bytes + pair_bytes pair) le)
    ∙ sym (append-nil (front ++ pair ∷ [])) ∙ ap (λ n. (front ++ pair ∷ []) ++ cut_pairs n (bytes + pair_bytes pair) pairs) (sym is)

pub pushed_on : (front : List KeyValue) (room bytes : ℕ) (pair : KeyValue) (pairs : List KeyValue) (after : ℕ) → 0 < room → after ≡ room - 1 → bytes + pair_bytes pair < most
    → front ++ cut_pairs room bytes (pair ∷ pairs) ≡ (front ++ pair ∷ []) ++ cut_pairs after (bytes + pair_bytes pair) pairs
pushed_on front zero bytes pair pairs after pos is lt = absurd (omega arith)
pushed_on front (suc room) bytes pair pairs after pos is lt =
    ap (λ b. front ++ pair ∷ cond b [] (cut_pairs room (bytes + pair_bytes pair) pairs)) (lt-leb most (bytes + pair_bytes pair) lt)
    ∙ ap (λ n. front ++ pair ∷ cut_pairs n (bytes + pair_bytes pair) pairs) (let e : room ≡ after = omega arith in e)
    ∙ sym (append_assoc front (pair ∷ []) (cut_pairs after (bytes + pair_bytes pair) pairs))

-- ---- ends

pub no_room : (front pairs : List KeyValue) (room bytes : ℕ) → room ≡ 0 → front ++ cut_pairs room bytes pairs ≡ front
no_room front pairs zero bytes e = append-nil front
no_room front pairs (suc room) bytes e = absurd (omega arith)

pub no_pairs : (front pairs : List KeyValue) (room bytes : ℕ) → pairs ≡ [] → front ++ cut_pairs room bytes pairs ≡ front
no_pairs front [] zero bytes e = append-nil front
no_pairs front [] (suc room) bytes e = append-nil front
no_pairs front (pair ∷ pairs) room bytes e = absurd cc

not_lt_of : (o p : Ordering) → is_lt (ordering_then o p) ≡ false → is_lt o ≡ false
not_lt_of Less p e = e
not_lt_of Equal p e = refl
not_lt_of Greater p e = refl

unseen : (a b c : Bool) → b ≡ false → ((a && b) && c) ≡ false
unseen true b c e = ap (λ x. x && c) e
unseen false b c e = refl

-- keys behind the range show nothing
none_behind : (range : KeyRange) (number : ℕ) (before : Option (List ℕ)) (entries : List Entry) → Each (λ entry. below range.last entry.key ≡ true) entries → live_behind range number before entries ≡ []
none_behind range number before [] each = refl
none_behind range number before (entry ∷ entries) each =
    ap (λ b. cond b (cond (Rattle.st_merge.specs.Scan.is_read_before before entry.key) (live_behind range number before entries) (Rattle.st_merge.specs.Scan.shown_pair entry.key entry.mark ++ live_behind range number (Some entry.key) entries)) (live_behind range number before entries))
    (unseen (at_most range.first entry.key) (at_most entry.key range.last) (nat_le entry.number number) (below_not range.last entry.key each.0))
    ∙ none_behind range number before entries each.1

-- what doesn't come before has no lesser key
pub key_up : (entry other : Entry) → NotBefore entry other → at_most entry.key other.key ≡ true
key_up entry other behind = not_below other.key entry.key (not_lt_of (bytes_cmp other.key entry.key) (nat_cmp entry.number other.number) behind)

pub past_range : (range : KeyRange) (number : ℕ) (before : Option (List ℕ)) (entry : Entry) (entries : List Entry) → Weak (entry ∷ entries) → below range.last entry.key ≡ true → live_behind range number before (entry ∷ entries) ≡ []
past_range range number before entry entries weak past = none_behind range number before (entry ∷ entries) (past, all entries weak.0)
  where
    all : (others : List Entry) → Each (NotBefore entry) others → Each (λ other. below range.last other.key ≡ true) others
    all [] each = tt
    all (other ∷ others) each = (
      below_at_most_below range.last entry.key other.key past (key_up entry other each.0),
      all others each.1,
    )

pub merged_weak : (runs : List (List Entry)) → Weak (merged runs)
unfolding merged
merged_weak runs = sorted_weak (joined runs)

same_there : (found : Option Entry) (x y : Entry) → found ≡ Some x → found ≡ Some y → x ≡ y
same_there found x y e f = ap (λ (o : Option Entry). unwrap_or o x) (sym e ∙ f)

-- the scan ends in front of an entry behind the range
pub range_passed : (front : List KeyValue) (room bytes : ℕ) (range : KeyRange) (number : ℕ) (before : Option (List ℕ)) (runs all : List (List Entry)) (part index : ℕ) (entry found : Entry) (rest tail : List Entry)
    → rest ≡ entry ∷ tail → entry_at_index runs part index ≡ Some entry → runs ≡ all → entry_at_index all part index ≡ Some found → Weak rest → below range.last found.key ≡ true
    → front ++ cut_pairs room bytes (live_behind range number before rest) ≡ front
range_passed front room bytes range number before runs all part index entry found rest tail is here same there weak past =
    let one : entry ≡ found = same_there (entry_at_index all part index) entry found (ap (λ some. entry_at_index some part index) (sym same) ∙ here) there in
    no_pairs front (live_behind range number before rest) room bytes
    (ap (live_behind range number before) is
    ∙ past_range range number before entry tail (subst (λ (some : List Entry). Weak some) is weak) (subst (λ (x : Entry). below range.last x.key ≡ true) (sym one) past))
