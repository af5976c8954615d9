-- A table is read exactly where its places are those of a table.
use Rattle.std.proofs.Common.{◌≡◌, ℕ, zero, suc, ◌+◌, Bool, true, false, cond, eqb, ltb, ◌||◌, List, [], ◌∷◌, ◌++◌, length, Option, Some, None, Result, Ok, Err, Ordering, Less, Equal, Greater, refl, sym, ap, subst, ◌∙◌, append_assoc, arith}
use Rattle.std.specs.Prelude.{not, IfSome}
use Rattle.std.specs.List.{AllByRecursion}
use Rattle.std.specs.Ordering.{is_le, is_lt, nat_cmp, ordering_then}
use Rattle.std.proofs.lemmas.Bool.{and_parts, and_from, le-ltb, ne_eqb, eqb-true, false≢true}
use Rattle.std.proofs.lemmas.List.{append-nil, map-append}
use Rattle.st_base.specs.Bytes.{below, bytes_cmp}
use Rattle.st_base.specs.Order.{comes_before, in_order, rises_behind}
use Rattle.st_base.specs.Range.{keys_rise}
use Rattle.st_base.specs.declared.entry.Entry.{Entry}
use Rattle.st_base.specs.declared.faults.TableFault.{TableFault}
use Rattle.st_base.specs.declared.faults.TableFault.TheVariants.{Index as IndexFault, Kind, Number, Order, TooLarge}
use Rattle.st_block.specs.Block.{Cell}
use Rattle.st_block.specs.InternalKey.{entry_under, internal_cmp, is_kind, kind_of, number_of, user_key}
use Rattle.st_block.specs.BlockContents.{BlockContents}
use Rattle.st_block.specs.declared.kind.BlockKind.TheVariants.{Data, Index, Plain}
use Rattle.st_table.specs.DataBlocks.{data_of, first_cell_key, last_cell_key, parted, parts, with_block, with_blocks}
use Rattle.st_table.specs.Entries.{entry_fault, is_behind, last_entry, may_have, with_entries, with_cell_entry}
use Rattle.st_table.specs.Footer.{footer_of}
use Rattle.st_table.specs.Handle.{value_handle}
use Rattle.st_table.specs.IsTable.{AreDataBlocks, IsDataBlock, IsEntry, IsTable, entries_under, joined}
use Rattle.st_table.specs.Metaindex.{properties_handle, value_offset}
use Rattle.st_table.specs.Properties.{properties_fault}
use Rattle.st_table.specs.Steps.{◌>>=◌, Fails, unless}
use Rattle.st_table.specs.Stored.{block_at}
use Rattle.st_table.specs.Table.{IsFirstFault, table_fault_of, first_fault, properties_of, table_of}
use Rattle.st_table.specs.declared.fault.OpenTableFault.{OpenTableFault}
use Rattle.st_table.specs.declared.fault.OpenTableFault.TheVariants.{Bad, OutOfMemory}
use Rattle.st_table.specs.declared.kind.TableKind.{TableKind}
use Rattle.st_table.specs.declared.kind.TableKind.TheVariants.{External}
use Rattle.st_table.proofs.Behind.{last_more, order_more, passes_of}
use Rattle.st_table.proofs.Inverse.{bind_ok, block_at_ok, either_ok, footer_ok, is_ok_same, names_ok, ok_bind, ok_block_at, ok_footer, ok_names, ok_properties, ok_value_handle, properties_ok, stored_lies, true_not, unless_ok, value_handle_ok}

-- ---- entries

-- an entry without a fault
no_fault_of : (kind : TableKind) (place : ℕ) (before : Option Entry) (cell : Cell) → IsEntry kind cell → is_behind before (user_key cell.key) (number_of cell.key) ≡ true → entry_fault kind place before cell.key cell.value ≡ None
no_fault_of kind place before cell is behind =
    inner (not (is_kind (kind_of cell.key) cell.value)) (not (may_have kind (number_of cell.key))) (ltb 1048576 (length cell.value)) (not (is_behind before (user_key cell.key) (number_of cell.key)))
    (true_not _ is.kind_fits) (true_not _ is.number_fits) (le-ltb _ _ is.size) (true_not _ behind)
  where
    inner : (a b c d : Bool) → a ≡ false → b ≡ false → c ≡ false → d ≡ false
        → (let o : Option TableFault = cond a (Some (Kind place (kind_of cell.key))) (cond b (Some (Number place (number_of cell.key))) (cond c (Some TooLarge) (cond d (Some (Order place)) None))) in o) ≡ None
    inner false false false false e f g h = refl
    inner true b c d e f g h = absurd cc
    inner false true c d e f g h = absurd cc
    inner false false true d e f g h = absurd cc
    inner false false false true e f g h = absurd cc

-- entries in order, up to one of them and from one of them on
pub behind_in : (front : List Entry) (e : Entry) (rest : List Entry) → in_order (front ++ e ∷ rest) ≡ true → is_behind (last_entry front) e.key e.number ≡ true
behind_in [] e rest h = refl
behind_in (x ∷ []) e rest h = (and_parts (comes_before x e) (rises_behind comes_before e rest) h).0
behind_in (x ∷ y ∷ ys) e rest h =
    ap (λ (o : Option Entry). is_behind o e.key e.number) (last_more x y ys) ∙ behind_in (y ∷ ys) e rest (and_parts (comes_before x y) (rises_behind comes_before y (ys ++ e ∷ rest)) h).1

rises_front : (x : Entry) (xs ys : List Entry) → rises_behind comes_before x (xs ++ ys) ≡ true → rises_behind comes_before x xs ≡ true
rises_front x [] ys h = refl
rises_front x (z ∷ zs) ys h =
    let p = and_parts (comes_before x z) (rises_behind comes_before z (zs ++ ys)) h in
    and_from (comes_before x z) (rises_behind comes_before z zs) p.0 (rises_front z zs ys p.1)

pub order_front : (xs ys : List Entry) → in_order (xs ++ ys) ≡ true → in_order xs ≡ true
order_front [] ys h = refl
order_front (x ∷ xs) ys h = rises_front x xs ys h

with_entries_ok : (kind : TableKind) (cells : List Cell) (front entries : List Entry) → in_order front ≡ true → with_entries kind front cells ≡ Ok entries
    → AllByRecursion (IsEntry kind) cells × (entries ≡ front ++ entries_under cells) × (in_order entries ≡ true)
with_entries_ok kind [] front entries o e =
    let same = is_ok_same front entries e in
    (tt, sym same ∙ sym (append-nil front), subst (λ (l : List Entry). in_order l ≡ true) same o)
with_entries_ok kind (cell ∷ cells) front entries o e =
    let one = entry_under cell.key cell.value in
    let b = bind_ok (with_cell_entry kind front cell.key cell.value) (λ (l : List Entry). with_entries kind l cells) entries e in
    let u = unless_ok (entry_fault kind (length front) (last_entry front) cell.key cell.value) (Ok (front ++ one ∷ [])) b.0 b.1 in
    let p = passes_of kind (length front) (last_entry front) cell.key cell.value u.0 in
    let more : with_entries kind (front ++ one ∷ []) cells ≡ Ok entries = ap (λ (l : List Entry). with_entries kind l cells) (is_ok_same (front ++ one ∷ []) b.0 u.1) ∙ b.2 in
    let rest = with_entries_ok kind cells (front ++ one ∷ []) entries (order_more front one o p.behind) more in
    ((record { kind_fits = p.kind_fits; number_fits = p.number_fits; size = p.size }, rest.0), rest.1 ∙ append_assoc front (one ∷ []) (entries_under cells), rest.2)

ok_with_entries : (kind : TableKind) (cells : List Cell) (front : List Entry) → AllByRecursion (IsEntry kind) cells → in_order (front ++ entries_under cells) ≡ true → with_entries kind front cells ≡ Ok (front ++ entries_under cells)
ok_with_entries kind [] front fit o = ap (λ (l : List Entry). let r : Result (List Entry) TableFault = Ok l in r) (sym (append-nil front))
ok_with_entries kind (cell ∷ cells) front fit o =
    let one = entry_under cell.key cell.value in
    let none = no_fault_of kind (length front) (last_entry front) cell fit.0 (behind_in front one (entries_under cells) o) in
    let apart : (front ++ one ∷ []) ++ entries_under cells ≡ front ++ one ∷ entries_under cells = append_assoc front (one ∷ []) (entries_under cells) in
    ok_bind (with_cell_entry kind front cell.key cell.value) (λ (l : List Entry). with_entries kind l cells) (front ++ one ∷ []) (front ++ one ∷ entries_under cells)
    (ap (λ (x : Option TableFault). unless x (Ok (front ++ one ∷ []))) none)
    (ok_with_entries kind cells (front ++ one ∷ []) fit.1 (ap in_order apart ∙ o) ∙ ap (λ (l : List Entry). let r : Result (List Entry) TableFault = Ok l in r) apart)

-- ---- data blocks

-- the index key before, where there is one
abbrev pub prior : ℕ → List ℕ → Option (List ℕ)
prior zero before = None
prior (suc n) before = Some before

parts_split : (block : ℕ) (before : List ℕ) (cells : List Cell) (key : List ℕ) → parts block before cells key ≡ true
    → (is_le (internal_cmp (last_cell_key [] cells) key) ≡ true) × IfSome (prior block before) (λ k. is_lt (internal_cmp k (first_cell_key cells)) ≡ true)
parts_split zero before cells key h = ((and_parts (is_le (internal_cmp (last_cell_key [] cells) key)) _ h).0, tt)
parts_split (suc n) before cells key h =
    let p = and_parts (is_le (internal_cmp (last_cell_key [] cells) key)) (eqb (suc n) 0 || is_lt (internal_cmp before (first_cell_key cells))) h in
    (p.0, sym (ap (λ (t : Bool). t || is_lt (internal_cmp before (first_cell_key cells))) (ne_eqb (suc n) 0 (λ z. omega arith))) ∙ p.1)

parts_joined : (block : ℕ) (before : List ℕ) (cells : List Cell) (key : List ℕ) → is_le (internal_cmp (last_cell_key [] cells) key) ≡ true → IfSome (prior block before) (λ k. is_lt (internal_cmp k (first_cell_key cells)) ≡ true)
    → parts block before cells key ≡ true
parts_joined zero before cells key l f = and_from (is_le (internal_cmp (last_cell_key [] cells) key)) true l refl
parts_joined (suc n) before cells key l f =
    and_from (is_le (internal_cmp (last_cell_key [] cells) key)) (eqb (suc n) 0 || is_lt (internal_cmp before (first_cell_key cells))) l
    (ap (λ (t : Bool). t || is_lt (internal_cmp before (first_cell_key cells))) (ne_eqb (suc n) 0 (λ z. omega arith)) ∙ f)

prior_more : (block : ℕ) (key : List ℕ) → prior (block + 1) key ≡ Some key
prior_more block key = ap (λ (n : ℕ). prior n key) (let k : block + 1 ≡ suc block = omega arith in k)

with_block_ok : (kind : TableKind) (bytes : List ℕ) (at block : ℕ) (before : List ℕ) (cell : Cell) (front entries : List Entry) → in_order front ≡ true → with_block kind bytes at block before cell.key cell.value front ≡ Ok entries
    → (b : BlockContents) × IsDataBlock bytes (prior block before) cell b × AllByRecursion (IsEntry kind) b.cells × (entries ≡ front ++ entries_under b.cells) × (in_order entries ≡ true)
unfolding with_block
with_block_ok kind bytes at block before cell front entries o e =
    let h = bind_ok (value_handle bytes at cell.value) _ entries e in
    let b = bind_ok (block_at Data bytes h.0) _ entries h.2 in
    let l = bind_ok (with_entries kind front b.0.cells) _ entries b.2 in
    let v = value_handle_ok bytes at cell.value h.0 h.1 in
    let p = either_ok (parts block before b.0.cells cell.key) l.0 entries (IndexFault block) l.2 in
    let s = parts_split block before b.0.cells cell.key p.0 in
    let w = with_entries_ok kind b.0.cells front entries o (l.1 ∙ ap (λ (x : List Entry). let r : Result (List Entry) TableFault = Ok x in r) p.1) in
    (b.0, record { handle = h.0; handle_is = v.0; stored = block_at_ok Data bytes h.0 b.0 v.1 b.1; behind_last = s.0; before_first = s.1 }, w.0, w.1, w.2)

ok_with_block : (kind : TableKind) (bytes : List ℕ) (at block : ℕ) (before : List ℕ) (cell : Cell) (front : List Entry) (b : BlockContents) → IsDataBlock bytes (prior block before) cell b → AllByRecursion (IsEntry kind) b.cells → in_order (front ++ entries_under b.cells) ≡ true
    → with_block kind bytes at block before cell.key cell.value front ≡ Ok (front ++ entries_under b.cells)
unfolding with_block
ok_with_block kind bytes at block before cell front b is fit o =
    let entries = front ++ entries_under b.cells in
    ok_bind (value_handle bytes at cell.value) _ is.handle entries (ok_value_handle bytes at cell.value is.handle is.handle_is (stored_lies bytes Data is.handle b is.stored))
    (ok_bind (block_at Data bytes is.handle) _ b entries (ok_block_at Data bytes is.handle b is.stored)
    (ok_bind (with_entries kind front b.cells) _ entries entries (ok_with_entries kind b.cells front fit o)
    (ap (λ (t : Bool). parted t block entries) (parts_joined block before b.cells cell.key is.behind_last is.before_first))))

all_append : {A : Type 0} (P : A → Type 0) (xs ys : List A) → AllByRecursion P xs → AllByRecursion P ys → AllByRecursion P (xs ++ ys)
all_append P [] ys h g = g
all_append P (x ∷ xs) ys h g = (h.0, all_append P xs ys h.1 g)

all_front : {A : Type 0} (P : A → Type 0) (xs ys : List A) → AllByRecursion P (xs ++ ys) → AllByRecursion P xs × AllByRecursion P ys
all_front P [] ys h = (tt, h)
all_front P (x ∷ xs) ys h = let r = all_front P xs ys h.1 in ((h.0, r.0), r.1)

abbrev under : Cell → Entry
under cell = entry_under cell.key cell.value

with_blocks_ok : (kind : TableKind) (bytes : List ℕ) (at end : ℕ) (cells : List Cell) (block : ℕ) (before : List ℕ) (front entries : List Entry) → in_order front ≡ true → with_blocks kind bytes at end block before cells front ≡ Ok entries
    → (blocks : List BlockContents) × AreDataBlocks bytes (prior block before) cells blocks × AllByRecursion (IsEntry kind) (joined blocks) × (entries ≡ front ++ entries_under (joined blocks)) × (in_order entries ≡ true)
with_blocks_ok kind bytes at end [] block before front entries o e =
    let same = is_ok_same front entries e in
    ([], tt, tt, sym same ∙ sym (append-nil front), subst (λ (l : List Entry). in_order l ≡ true) same o)
with_blocks_ok kind bytes at end (cell ∷ cells) block before front entries o e =
    let b = bind_ok (with_block kind bytes (at + value_offset end cell cells) block before cell.key cell.value front) (λ (l : List Entry). with_blocks kind bytes at end (block + 1) cell.key cells l) entries e in
    let w = with_block_ok kind bytes (at + value_offset end cell cells) block before cell front b.0 o b.1 in
    let r = with_blocks_ok kind bytes at end cells (block + 1) cell.key b.0 entries w.4 b.2 in (
      w.0 ∷ r.0,
      (w.1, subst (λ (p : Option (List ℕ)). AreDataBlocks bytes p cells r.0) (prior_more block cell.key) r.1),
      all_append (IsEntry kind) w.0.cells (joined r.0) w.2 r.2,
      r.3 ∙ ap (λ (l : List Entry). l ++ entries_under (joined r.0)) w.3 ∙ append_assoc front (entries_under w.0.cells) (entries_under (joined r.0)) ∙ ap (λ (l : List Entry). front ++ l) (sym (map-append under w.0.cells (joined r.0))),
      r.4,
    )

ok_with_blocks : (kind : TableKind) (bytes : List ℕ) (at end : ℕ) (cells : List Cell) (blocks : List BlockContents) (block : ℕ) (before : List ℕ) (front : List Entry) → AreDataBlocks bytes (prior block before) cells blocks → AllByRecursion (IsEntry kind) (joined blocks)
    → in_order (front ++ entries_under (joined blocks)) ≡ true → with_blocks kind bytes at end block before cells front ≡ Ok (front ++ entries_under (joined blocks))
ok_with_blocks kind bytes at end [] [] block before front are fit o = ap (λ (l : List Entry). let r : Result (List Entry) TableFault = Ok l in r) (sym (append-nil front))
ok_with_blocks kind bytes at end [] (b ∷ blocks) block before front are fit o = absurd are
ok_with_blocks kind bytes at end (cell ∷ cells) [] block before front are fit o = absurd are
ok_with_blocks kind bytes at end (cell ∷ cells) (b ∷ blocks) block before front are fit o =
    let here = entries_under b.cells in
    let rest = entries_under (joined blocks) in
    let f = all_front (IsEntry kind) b.cells (joined blocks) fit in
    let whole : (front ++ here) ++ rest ≡ front ++ entries_under (joined (b ∷ blocks)) = append_assoc front here rest ∙ ap (λ (l : List Entry). front ++ l) (sym (map-append under b.cells (joined blocks))) in
    let order : in_order ((front ++ here) ++ rest) ≡ true = ap in_order whole ∙ o in
    ok_bind (with_block kind bytes (at + value_offset end cell cells) block before cell.key cell.value front) (λ (l : List Entry). with_blocks kind bytes at end (block + 1) cell.key cells l) (front ++ here) (front ++ entries_under (joined (b ∷ blocks)))
    (ok_with_block kind bytes (at + value_offset end cell cells) block before cell front b are.0 f.0 (order_front (front ++ here) rest order))
    (ok_with_blocks kind bytes at end cells blocks (block + 1) cell.key (front ++ here) (subst (λ (p : Option (List ℕ)). AreDataBlocks bytes p cells blocks) (sym (prior_more block cell.key)) are.1) f.1 order
    ∙ ap (λ (l : List Entry). let r : Result (List Entry) TableFault = Ok l in r) whole)

-- ---- the table

pub table_is : (bytes : List ℕ) (kind : TableKind) (entries : List Entry) → table_of kind bytes ≡ Ok entries → IsTable bytes kind entries
unfolding table_of properties_of
table_is bytes kind entries e =
    let f = bind_ok (footer_of kind bytes) _ entries e in
    let p = bind_ok (properties_of bytes f.0.metaindex) _ entries f.2 in
    let m = bind_ok (block_at Plain bytes f.0.metaindex) _ p.0 p.1 in
    let h = bind_ok (properties_handle bytes f.0.metaindex.offset m.0) _ p.0 m.2 in
    let u = unless_ok (properties_fault kind p.0) _ entries p.2 in
    let i = bind_ok (block_at Index bytes f.0.index) _ entries u.1 in
    let footer = footer_ok kind bytes f.0 f.1 in
    let names = names_ok bytes f.0.metaindex.offset m.0 h.0 h.1 in
    let d = with_blocks_ok kind bytes f.0.index.offset i.0.end i.0.cells 0 [] [] entries refl i.2 in (
      record { footer = f.0; metaindex = m.0; properties_handle = h.0; properties = p.0; index = i.0; data_blocks = d.0 },
      record {
        size = footer.0;
        footer = footer.1;
        metaindex = block_at_ok Plain bytes f.0.metaindex m.0 footer.2 m.1;
        names = names.0;
        properties = block_at_ok Plain bytes h.0 p.0 names.1 h.2;
        values = properties_ok kind p.0 u.0;
        index = block_at_ok Index bytes f.0.index i.0 footer.3 i.1;
        data_blocks = d.1;
        fit = d.2;
        entries_are = d.3;
        ordered = d.4;
      },
    )

pub is_table : (bytes : List ℕ) (kind : TableKind) (entries : List Entry) → IsTable bytes kind entries → table_of kind bytes ≡ Ok entries
unfolding table_of properties_of
is_table bytes kind entries t =
    let b = t.0 in
    let a = t.1 in
    let data' = ok_with_blocks kind bytes b.footer.index.offset b.index.end b.index.cells b.data_blocks 0 [] [] a.data_blocks a.fit (sym (ap in_order a.entries_are) ∙ a.ordered) in
    ok_bind (footer_of kind bytes) _ b.footer entries (ok_footer kind bytes b.footer a.size a.footer (stored_lies bytes Plain b.footer.metaindex b.metaindex a.metaindex) (stored_lies bytes Index b.footer.index b.index a.index))
    (ok_bind (properties_of bytes b.footer.metaindex) _ b.properties entries
    (ok_bind (block_at Plain bytes b.footer.metaindex) _ b.metaindex b.properties (ok_block_at Plain bytes b.footer.metaindex b.metaindex a.metaindex)
    (ok_bind (properties_handle bytes b.footer.metaindex.offset b.metaindex) _ b.properties_handle b.properties (ok_names bytes b.footer.metaindex.offset b.metaindex b.properties_handle a.names (stored_lies bytes Plain b.properties_handle b.properties a.properties))
    (ok_block_at Plain bytes b.properties_handle b.properties a.properties)))
    (ap (λ (o : Option TableFault). unless o (block_at Index bytes b.footer.index >>= data_of kind bytes b.footer.index.offset)) (ok_properties kind b.properties a.values)
    ∙ ok_bind (block_at Index bytes b.footer.index) (data_of kind bytes b.footer.index.offset) b.index entries (ok_block_at Index bytes b.footer.index b.index a.index)
    (data' ∙ ap (λ (l : List Entry). let r : Result (List Entry) TableFault = Ok l in r) (sym a.entries_are))))

-- ---- the first fault

pub first_of : (bytes : List ℕ) (kind : TableKind) (fault : OpenTableFault) → Fails fault (table_of kind bytes) → IsFirstFault bytes kind fault
first_of bytes kind (Bad fault) h = ap table_fault_of h
first_of bytes kind OutOfMemory h = tt

pub no_fault_is : (bytes : List ℕ) (kind : TableKind) → first_fault bytes kind ≡ None → (entries : List Entry) × IsTable bytes kind entries
no_fault_is bytes kind e = inner (table_of kind bytes) refl e
  where
    inner : (r : Result (List Entry) TableFault) → table_of kind bytes ≡ r → table_fault_of r ≡ None → (entries : List Entry) × IsTable bytes kind entries
    inner (Ok entries) s e = (entries, table_is bytes kind entries s)
    inner (Err fault) s e = absurd cc

pub is_no_fault : (bytes : List ℕ) (kind : TableKind) (entries : List Entry) → IsTable bytes kind entries → first_fault bytes kind ≡ None
is_no_fault bytes kind entries t = ap table_fault_of (is_table bytes kind entries t)

pub one_table : (bytes : List ℕ) (kind : TableKind) (one other : List Entry) → IsTable bytes kind one → IsTable bytes kind other → one ≡ other
one_table bytes kind one other s t = is_ok_same one other (sym (is_table bytes kind one s) ∙ is_table bytes kind other t)

-- ---- keys of an external table

zero_number : (kind : TableKind) (cell : Cell) → IsEntry External cell → (entry_under cell.key cell.value).number ≡ 0
zero_number kind cell is = eqb-true _ _ is.number_fits

lower_key : (o : Ordering) (m n : ℕ) → m ≡ 0 → n ≡ 0 → is_lt (ordering_then o (nat_cmp n m)) ≡ true → is_lt o ≡ true
lower_key Less m n p q h = refl
lower_key Equal m n p q h = absurd (false≢true (sym (ap (λ (k : ℕ). is_lt (nat_cmp k m)) q ∙ ap (λ (k : ℕ). is_lt (nat_cmp 0 k)) p) ∙ h))
lower_key Greater m n p q h = absurd cc

keys_behind : (cell : Cell) (cells : List Cell) → IsEntry External cell → AllByRecursion (IsEntry External) cells → rises_behind comes_before (under cell) (entries_under cells) ≡ true
    → rises_behind (λ (a : Entry) (b : Entry). below a.key b.key) (under cell) (entries_under cells) ≡ true
keys_behind cell [] is are h = refl
keys_behind cell (other ∷ cells) is are h =
    let p = and_parts (comes_before (under cell) (under other)) (rises_behind comes_before (under other) (entries_under cells)) h in
    and_from (below (under cell).key (under other).key) (rises_behind (λ (a : Entry) (b : Entry). below a.key b.key) (under other) (entries_under cells))
    (lower_key (bytes_cmp (under cell).key (under other).key) (under cell).number (under other).number (zero_number External cell is) (zero_number External other are.0) p.0)
    (keys_behind other cells are.0 are.1 p.1)

keys_of : (cells : List Cell) → AllByRecursion (IsEntry External) cells → in_order (entries_under cells) ≡ true → keys_rise (entries_under cells) ≡ true
keys_of [] are h = refl
keys_of (cell ∷ cells) are h = keys_behind cell cells are.0 are.1 h

pub external_keys_rise : (bytes : List ℕ) (entries : List Entry) → IsTable bytes External entries → keys_rise entries ≡ true
external_keys_rise bytes entries t =
    subst (λ (l : List Entry). keys_rise l ≡ true) (sym t.1.entries_are) (keys_of (joined t.0.data_blocks) t.1.fit (sym (ap in_order t.1.entries_are) ∙ t.1.ordered))
