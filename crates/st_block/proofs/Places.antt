-- Places in an opened block.
use Rattle.std.proofs.Common.{◌≡◌, ◌≢◌, ℕ, ◌+◌, ◌<◌, ◌≤◌, ◌⊎◌, Bool, true, false, cond, eqb, ◌&&◌, ◌||◌, List, [], ◌∷◌, ◌++◌, length, take, Some, None, refl, sym, ap, subst, ◌∙◌, inl, inr, arith}
use Rattle.std.specs.Prelude.{slice_range}
use Rattle.std.proofs.lemmas.Bool.{cases_Bool, and_parts, and_from, eqb-true, eq-eqb, ne_eqb, le-leb}
use Rattle.std.proofs.lemmas.List.{take_at, length-take, length-append, length-take-le}
use Rattle.st_block.specs.Block.{Cell, Head, cell_at, fits, head_at, is_restart, laid}
use Rattle.st_block.specs.BlockContents.{BlockContents, Primes, IsReadableAt, TakesCell, cells_at, offset_of}
use Rattle.st_block.proofs.Cells.{fitting_is, fits_parts}
use Rattle.st_block.proofs.Laid.{Laid, cell_there, next_behind, some_is}
use Rattle.st_block.proofs.Meeting.{Rising, not_there}

-- ---- an entry behind another key that has what it shares

own_front : (before others : List ℕ) (shared : ℕ) → shared ≤ length before → take shared (take shared before ++ others) ≡ take shared before
own_front before others shared le = take_at (take shared before) others shared (length-take-le shared before le)

shares : (area before key : List ℕ) (at : ℕ) (head : Head) → head_at area at ≡ Some head → fits area before head ≡ true → head.shared ≤ length key
    → take head.shared key ≡ take head.shared (laid area before at head).0.key → cell_at area key at ≡ Some (laid area before at head)
shares area before key at head e f le same =
    let p = fits_parts area before head f in
    let others = slice_range area head.behind (head.behind + head.unshared) in
    let front : take head.shared key ≡ take head.shared before = same ∙ own_front before others head.shared p.0 in
    let room : fits area key head ≡ true = and_from _ _ (le-leb _ _ le) (and_from _ _ (le-leb _ _ p.1) (le-leb _ _ p.2)) in
    fitting_is area key at head (sym e) room
    ∙ ap (λ (l : List ℕ). Some (record { at = at; shared = head.shared; key = l ++ others; value = slice_range area (head.behind + head.unshared) (head.behind + head.unshared + head.value) }, head.behind + head.unshared + head.value)) front

pub read_again : (area before key : List ℕ) (at : ℕ) (found : Cell × ℕ) → cell_at area before at ≡ Some found → found.0.shared ≤ length key → take found.0.shared key ≡ take found.0.shared found.0.key → cell_at area key at ≡ Some found
read_again area before key at found e =
    let t = cell_there area before at found e in
    subst (λ (f : Cell × ℕ). f.0.shared ≤ length key → take f.0.shared key ≡ take f.0.shared f.0.key → cell_at area key at ≡ Some f) t.1.is
    (λ le same. shares area before key at t.0 t.1.head_is t.1.fitting le same)

-- an entry's key begins with what it shares
pub shared_front : (area before : List ℕ) (at : ℕ) (found : Cell × ℕ) → cell_at area before at ≡ Some found
    → (found.0.shared ≤ length before) × (take found.0.shared before ≡ take found.0.shared found.0.key) × (found.0.shared ≤ length found.0.key)
shared_front area before at found e =
    let t = cell_there area before at found e in
    let p = fits_parts area before t.0 t.1.fitting in
    let others = slice_range area t.0.behind (t.0.behind + t.0.unshared) in
    subst (λ (f : Cell × ℕ). (f.0.shared ≤ length before) × (take f.0.shared before ≡ take f.0.shared f.0.key) × (f.0.shared ≤ length f.0.key)) t.1.is
    (p.0, sym (own_front before others t.0.shared p.0), omega (arith, length-append (take t.0.shared before) others, length-take t.0.shared before, p.0))

-- ---- entries from a place on

pub at_start : (area before : List ℕ) (at : ℕ) (cells : List Cell) → Laid area before at cells → (cells_at at cells ≡ cells) × (offset_of (length area) cells ≡ at)
at_start area before at [] l = (refl, sym l)
at_start area before at (cell ∷ cells) l =
    let p = next_behind area before at (cell, l.0) l.1 in
    (ap (λ (t : Bool). cond t (cell ∷ cells) (cells_at at cells)) (eq-eqb cell.at at p.2), p.2)

pub primes_of : (area before : List ℕ) (at : ℕ) (cells : List Cell) → Laid area before at cells → Primes before cells
primes_of area before at [] l = tt
primes_of area before at (cell ∷ cells) l = let p = shared_front area before at (cell, l.0) l.1 in (p.0, p.1)

-- the entry that stands first from a place on
pub record IsFirst (area : List ℕ) (all : List Cell) (low at : ℕ) (cell : Cell) (rest : List Cell) : Type 0 where
  pub before : List ℕ
  pub next : ℕ
  pub there : cell_at area before at ≡ Some (cell, next)
  pub laid : Laid area cell.key next rest
  pub rest_is : cells_at next all ≡ rest
  pub low_is : low < next

past : (cell : Cell) (cells : List Cell) (next : ℕ) → cell.at < next → cells_at next (cell ∷ cells) ≡ cells_at next cells
past cell cells next lt = ap (λ (t : Bool). cond t (cell ∷ cells) (cells_at next cells)) (ne_eqb cell.at next (λ e. omega arith))

pub first_at : (area before : List ℕ) (low : ℕ) (cells : List Cell) → Laid area before low cells → (at : ℕ) (cell : Cell) (rest : List Cell) → cells_at at cells ≡ cell ∷ rest → IsFirst area cells low at cell rest
first_at area before low [] l at cell rest e = absurd cc
first_at area before low (one ∷ cells) l at cell rest e =
    let p = next_behind area before low (one, l.0) l.1 in
    elim (cases_Bool (eqb one.at at)) [
      | inl t ↦
          let same : one ∷ cells ≡ cell ∷ rest = sym (ap (λ (t : Bool). cond t (one ∷ cells) (cells_at at cells)) t) ∙ e in
          let here : low ≡ at = sym p.2 ∙ eqb-true _ _ t in
          let one-is : one ≡ cell = cc in
          let rest-is : cells ≡ rest = cc in
          subst (λ (c : Cell). IsFirst area (one ∷ cells) low at c rest) one-is (subst (λ (r : List Cell). IsFirst area (one ∷ cells) low at one r) rest-is (record {
            before = before;
            next = l.0;
            there = subst (λ (k : ℕ). cell_at area before k ≡ Some (one, l.0)) here l.1;
            laid = l.2;
            rest_is = past one cells l.0 (omega (arith, p.0, p.2)) ∙ (at_start area one.key l.0 cells l.2).0;
            low_is = p.0;
          }))
      | inr f ↦
          let same : cells_at at cells ≡ cell ∷ rest = sym (ap (λ (t : Bool). cond t (one ∷ cells) (cells_at at cells)) f) ∙ e in
          let inner = first_at area one.key l.0 cells l.2 at cell rest same in
          record {
            before = inner.before;
            next = inner.next;
            there = inner.there;
            laid = inner.laid;
            rest_is = past one cells inner.next (omega (arith, p.0, p.2, inner.low_is)) ∙ inner.rest_is;
            low_is = omega (arith, p.0, inner.low_is);
          }
    ]

pub cases_list : (cells : List Cell) → (cells ≡ []) ⊎ ((cell : Cell) × ((rest : List Cell) × (cells ≡ cell ∷ rest)))
cases_list [] = inl refl
cases_list (cell ∷ cells) = inr (cell, (cells, refl))

-- ---- a block whose entries lie in these bytes

module _ (area : List ℕ) (block : BlockContents) (lie : Laid area [] 0 block.cells) (end : length area ≡ block.end) where
  pub end_none : cells_at block.end block.cells ≡ []
  end_none =
      elim (cases_list (cells_at block.end block.cells)) [
        | inl none ↦ none
        | inr some ↦
            let f = first_at area [] 0 block.cells lie block.end some.0 some.1.0 some.1.1 in
            let p = next_behind area f.before block.end (some.0, f.next) f.there in
            absurd (omega (arith, p.0, p.1))
      ]

  pub behind_first : (at : ℕ) (cell : Cell) (rest : List Cell) (f : IsFirst area block.cells 0 at cell rest) → IsReadableAt block f.next cell.key
  behind_first at cell rest f =
      record {
        offset = ap (offset_of block.end) f.rest_is ∙ subst (λ (k : ℕ). offset_of k rest ≡ f.next) end (at_start area cell.key f.next rest f.laid).1;
        primes = subst (Primes cell.key) (sym f.rest_is) (primes_of area cell.key f.next rest f.laid);
      }

  module _ (at : ℕ) (key : List ℕ) (stands : IsReadableAt block at key) (more : at ≢ block.end) where
    pub some_cell : (cell : Cell) × ((rest : List Cell) × (cells_at at block.cells ≡ cell ∷ rest))
    some_cell =
        elim (cases_list (cells_at at block.cells)) [
          | inl none ↦ absurd (more (sym (sym (ap (offset_of block.end) none) ∙ stands.offset)))
          | inr some ↦ some
        ]

    pub is_there : (cell : Cell) (rest : List Cell) → cells_at at block.cells ≡ cell ∷ rest → (f : IsFirst area block.cells 0 at cell rest) → cell_at area key at ≡ Some (cell, f.next)
    is_there cell rest e f =
        let p = subst (Primes key) e stands.primes in
        read_again area f.before key at (cell, f.next) f.there p.0 p.1

    pub never_none : cell_at area key at ≡ None → ⊥
    never_none n =
        let s = some_cell in
        let f = first_at area [] 0 block.cells lie at s.0 s.1.0 s.1.1 in
        let e = is_there s.0 s.1.0 s.1.1 f in
        (let w : None ≡ Some (s.0, f.next) = sym n ∙ e in cc)

    pub takes : (found : Cell × ℕ) → cell_at area key at ≡ Some found → TakesCell block at found.0.key found.0.value found.1 found.0
    takes found there =
        let s = some_cell in
        let f = first_at area [] 0 block.cells lie at s.0 s.1.0 s.1.1 in
        let e = is_there s.0 s.1.0 s.1.1 f in
        let same : (s.0, f.next) ≡ found = some_is (s.0, f.next) found (sym e ∙ there) in
        subst (λ (g : Cell × ℕ). TakesCell block at g.0.key g.0.value g.1 g.0) same (record {
          first = s.1.1 ∙ ap (λ (l : List Cell). s.0 ∷ l) (sym f.rest_is);
          key_is = refl;
          value_is = refl;
          shared = (shared_front area f.before at (s.0, f.next) f.there).2;
          behind = behind_first at s.0 s.1.0 f;
        })

-- ---- restarts

or_false : (t : Bool) → (t || false) ≡ t
or_false true = refl
or_false false = refl

pub restart_at : (cells : List Cell) (r : ℕ) → Rising cells → is_restart cells r ≡ true → (cell : Cell) × ((rest : List Cell) × (cells_at r cells ≡ cell ∷ rest) × (cell.shared ≡ 0) × (cell.at ≡ r))
restart_at [] r c h = absurd cc
restart_at (one ∷ cells) r c h =
    elim (cases_Bool (eqb one.at r)) [
      | inl t ↦
          let at-is : one.at ≡ r = eqb-true _ _ t in
          let alone : (eqb one.at r && eqb one.shared 0) ≡ true = sym (ap (λ (s : Bool). (eqb one.at r && eqb one.shared 0) || s) (not_there one.at r cells c.0 (omega arith)) ∙ or_false (eqb one.at r && eqb one.shared 0)) ∙ h in
          (one, (cells, ap (λ (t : Bool). cond t (one ∷ cells) (cells_at r cells)) t, eqb-true _ _ (and_parts (eqb one.at r) (eqb one.shared 0) alone).1, at-is))
      | inr f ↦
          let later : is_restart cells r ≡ true = sym (ap (λ (t : Bool). (t && eqb one.shared 0) || is_restart cells r) f) ∙ h in
          let inner = restart_at cells r c.1 later in
          (inner.0, (inner.1.0, ap (λ (t : Bool). cond t (one ∷ cells) (cells_at r cells)) f ∙ inner.1.1, inner.1.2, inner.1.3))
    ]

-- the key of an entry that shares nothing stands in it whole
pub whole_key : (area before : List ℕ) (at : ℕ) (found : Cell × ℕ) (head : Head) → Some head ≡ head_at area at → cell_at area before at ≡ Some found → found.0.shared ≡ 0
    → (slice_range area head.behind (head.behind + head.unshared) ≡ found.0.key) × (head.behind + head.unshared ≤ length area)
whole_key area before at found head h e =
    let t = cell_there area before at found e in
    let same : t.0 ≡ head = some_is t.0 head (sym t.1.head_is ∙ sym h) in
    let p = fits_parts area before t.0 t.1.fitting in
    subst (λ (f : Cell × ℕ). f.0.shared ≡ 0 → (slice_range area head.behind (head.behind + head.unshared) ≡ f.0.key) × (head.behind + head.unshared ≤ length area)) t.1.is
    (subst (λ (k : Head). t.0.shared ≡ 0 → (slice_range area k.behind (k.behind + k.unshared) ≡ (laid area before at t.0).0.key) × (k.behind + k.unshared ≤ length area)) same
    (λ none. (sym (ap (λ (n : ℕ). take n before ++ slice_range area t.0.behind (t.0.behind + t.0.unshared)) none), omega (arith, p.2))))

pub no_head : (area before : List ℕ) (at : ℕ) (found : Cell × ℕ) → None ≡ head_at area at → cell_at area before at ≡ Some found → ⊥
no_head area before at found h e =
    let t = cell_there area before at found e in
    none_some t.0 (h ∙ t.1.head_is)
  where
    none_some : (head : Head) → None ≡ Some head → ⊥
    none_some head e = cc
