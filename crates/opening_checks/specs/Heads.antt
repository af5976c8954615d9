-- The parts of a walk with the keys of their next entries, in a heap: the least key first, at one key the earlier part.
use Rattle.std.specs.Prelude.{◌≡◌, ℕ, ◌<◌, ◌==◌, false, List, [], ◌∷◌, length, map, slice_index_or, Option, Some, None, if◌then◌else◌, sum_by}
use Rattle.std.specs.BinaryHeap.{IsHeap, heap_items}
use Rattle.std.specs.List.{AllByRecursion as Each}
use Rattle.std.specs.List.Sorted.{IsPermutation}
use Rattle.std.specs.Ordering.{nat_cmp, ordering_then, is_lt}
use Rattle.std.specs.declared.alloc.Global.{Global}
use Rattle.std.specs.declared.cmp.Ordering.{Ordering}
use Rattle.std.specs.declared.cmp.Reverse.{Reverse}
use Rattle.std.specs.declared.collections.binary_heap.BinaryHeap.{BinaryHeap}
use Rattle.st_base.specs.Bytes.{bytes_cmp}
use Rattle.st_base.specs.declared.entry.Entry.{Entry}

-- a part with the key of its next entry
abbrev pub PartHead : Type 0
PartHead = List ℕ × ℕ

abbrev pub Heap : Type 0
Heap = BinaryHeap (Reverse PartHead) Global

-- by key, and at one key by part
abbrev pub head_cmp : PartHead → PartHead → Ordering
head_cmp one other = ordering_then (bytes_cmp one.0 other.0) (nat_cmp one.1 other.1)

abbrev pub least_first : Reverse PartHead → Reverse PartHead → Ordering
least_first one other = head_cmp other.0 one.0

abbrev pub heads_in : Heap → List PartHead
heads_in heap = map (λ (one : Reverse PartHead). one.0) (heap_items heap)

abbrev pub InOrder : Heap → Type 0
InOrder heap = IsHeap least_first (heap_items heap)

-- the head that was taken is one of them, and none comes before it
abbrev pub IsTaken : Heap → Option PartHead → Heap → Type 0
IsTaken before None after = heads_in before ≡ []
IsTaken before (Some head) after =
    IsPermutation (heads_in before) (head ∷ heads_in after)
    × (InOrder before → InOrder after × Each (λ other. is_lt (head_cmp other head) ≡ false) (heads_in after))

-- the part was put among them, if it has a next key
abbrev pub head_put : Option (List ℕ) → ℕ → Heap → Heap → Type 0
head_put None part before after = after ≡ before
head_put (Some key) part before after =
    IsPermutation ((key, part) ∷ heads_in before) (heads_in after) × (InOrder before → InOrder after)

-- the part was put among them, if it has a next entry
abbrev pub IsPut : List Entry → ℕ → Heap → Heap → Type 0
IsPut [] part before after = after ≡ before
IsPut (entry ∷ entries) part before after =
    IsPermutation ((entry.key, part) ∷ heads_in before) (heads_in after) × (InOrder before → InOrder after)

-- the head is that of a part's next entry
pub record IsHeadOf (left : List (List Entry)) (head : PartHead) : Type 0 where
  pub part : head.1 < length left
  pub entry : Entry
  pub tail : List Entry
  pub is : slice_index_or left head.1 [] ≡ entry ∷ tail
  pub key : entry.key ≡ head.0

-- how many of a part's heads this one is, and how many a part has with these entries left
abbrev pub is_of : ℕ → PartHead → ℕ
is_of part head = if head.1 == part then 1 else 0

abbrev pub count_left : List Entry → ℕ
count_left [] = 0
count_left (entry ∷ entries) = 1

-- the heads are those of the parts with entries left, each once
pub record AreHeads (left : List (List Entry)) (heap : Heap) : Type 0 where
  pub order : InOrder heap
  pub there : Each (IsHeadOf left) (heads_in heap)
  pub once : (part : ℕ) → part < length left → sum_by (is_of part) (heads_in heap) ≡ count_left (slice_index_or left part [])
