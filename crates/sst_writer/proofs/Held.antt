-- The entries that a writer of an external table holds, and those with one more behind them.
use Rattle.std.proofs.Common.{◌≡◌, ℕ, ◌+◌, ◌-◌, ◌<◌, ◌≤◌, Bool, true, false, cond, leb, List, [], ◌∷◌, ◌++◌, length, get_or, Option, Some, None, Ordering, Less, Equal, Greater, refl, sym, ap, subst, ◌∙◌, lit<, arith}
use Rattle.std.specs.Prelude.{slice_get, option_map}
use Rattle.std.specs.List.{AllByRecursion}
use Rattle.std.specs.Ordering.{is_lt, nat_cmp, ordering_then}
use Rattle.std.proofs.Math.Seq.{get_or-append_seam}
use Rattle.std.proofs.lemmas.List.{length-append}
use Rattle.std.proofs.lemmas.Option.{slice_get-get_or}
use Rattle.st_base.specs.Bytes.{below, bytes_cmp}
use Rattle.st_base.specs.Rows.{FitsMark, last_key}
use Rattle.st_base.specs.declared.entry.Entry.{Entry}
use Rattle.st_base.specs.declared.entry.Mark.{Mark}
use Rattle.st_block.specs.Written.{pair_added as added_to_block, written_block}
use Rattle.st_table.specs.Entries.{is_behind, last_entry}
use Rattle.st_table.specs.Footer.{greatest_size}
use Rattle.st_table.specs.IsTable.{IsTable}
use Rattle.st_table.specs.Table.{table_of}
use Rattle.table_writer.specs.Writer.{HoldsEntries, Writer, entry_added, finished_table, with_closed, with_open}
use Rattle.table_writer.specs.Written.{MayBeTable, MayPut, written_table}
use Rattle.st_block.specs.InternalKey.{internal_key, value_under}
use Rattle.st_table.specs.Stored.{stored}
use Rattle.st_table.specs.declared.kind.TableKind.{TableKind}
use Rattle.st_table.specs.declared.kind.TableKind.TheVariants.{External}
use Rattle.st_table.proofs.Behind.{order_more}
use Rattle.table_writer.proofs.Holding.{table_holds_more, table_written}
use Rattle.table_writer.proofs.Sizes.{ending_short, table_length}
use Rattle.st_table.proofs.Tables.{is_table}
use Rattle.table_writer.specs.declared.fault.AddFault.{AddFault}
use Rattle.table_writer.specs.declared.fault.AddFault.TheVariants as add
use Rattle.sst_writer.specs.Sst.{IsSst, entries_or_none, entry_with, held, is_above, rises_to, writer_fault}
use Rattle.sst_writer.specs.declared.fault.WriterFault.{WriterFault}
use Rattle.sst_writer.specs.declared.fault.WriterFault.TheVariants.{TooLarge, OutOfMemory}

-- a written table of a kind opens again
abbrev pub WrittenOpens : Type 0
WrittenOpens = (kind : TableKind) (entries : List Entry) → MayBeTable kind entries → length (written_table kind entries) ≤ greatest_size kind → IsTable (written_table kind entries) kind entries

-- ---- what is held

-- the finished table of an external writer is the written one
pub written_is : (w : Writer) (entries : List Entry) → w.kind ≡ External → HoldsEntries w entries → finished_table w ≡ written_table External entries
written_is w entries k h = table_written w entries h ∙ ap (λ (kind : TableKind). written_table kind entries) k

pub held_is : WrittenOpens → (w : Writer) (entries : List Entry) → w.kind ≡ External → HoldsEntries w entries → MayBeTable External entries → length (finished_table w) ≤ greatest_size External → held w ≡ entries
unfolding held
held_is opens w entries k h may fits =
    let is = written_is w entries k h in
    let t = opens External entries may (subst (λ (l : List ℕ). length l ≤ greatest_size External) is fits) in
    ap (λ (l : List ℕ). entries_or_none (table_of External l)) is ∙ ap entries_or_none (is_table (written_table External entries) External entries t)

-- ---- without entries

none_may : MayBeTable External []
none_may = record { ordered = refl; each = tt }

none_short : length (written_table External []) ≤ greatest_size External
none_short =
    let index = written_block 1 [] in
    omega (arith, table_length External 0 [] index, ending_short External 0 (length {A = ℕ} [] + length (stored index)) (record { offset = length {A = ℕ} []; size = length index }))

pub none_held : WrittenOpens → (w : Writer) → w.kind ≡ External → HoldsEntries w [] → held w ≡ []
none_held opens w k h =
    held_is opens w [] k h none_may (subst (λ (l : List ℕ). length l ≤ greatest_size External) (sym (written_is w [] k h)) none_short)

pub none_is : WrittenOpens → (w : Writer) (last : List ℕ) → w.kind ≡ External → HoldsEntries w [] → IsSst w true last
none_is opens w last k h =
    let is = none_held opens w k h in
    record {
      kind = k;
      holds = subst (λ (entries : List Entry). HoldsEntries w entries) (sym is) h;
      rows = subst (λ (entries : List Entry). MayBeTable External entries) (sym is) none_may;
      last_is = ap last_key is;
    }

-- ---- the last key

-- whether a key rises, by the last key that is kept
pub rises_is : (w : Writer) (empty : Bool) (last key : List ℕ) → IsSst w empty last → rises_to (held w) key ≡ cond empty true (below last key)
rises_is w empty last key sst = ap (λ (o : Option (List ℕ)). is_above o key) sst.last_is ∙ by empty
  where
    by : (t : Bool) → is_above (cond t None (Some last)) key ≡ cond t true (below last key)
    by true = refl
    by false = refl

-- where entries were added
pub rises_by : (w : Writer) (empty : Bool) (last key : List ℕ) → IsSst w empty last → empty ≡ false → rises_to (held w) key ≡ below last key
rises_by w empty last key sst some = rises_is w empty last key sst ∙ ap (λ (t : Bool). cond t true (below last key)) some

-- where none were
pub nothing_is : (w : Writer) (empty : Bool) (last : List ℕ) → IsSst w empty last → empty ≡ true → held w ≡ []
nothing_is w empty last sst none = of (held w) (sst.last_is ∙ ap (λ (t : Bool). let o : Option (List ℕ) = cond t None (Some last) in o) none)
  where
    of : (entries : List Entry) → last_key entries ≡ None → entries ≡ []
    of [] h = refl
    of (x ∷ xs) h =
        let there = ap (λ (o : Option Entry). option_map (λ (entry : Entry). entry.key) o) (slice_get-get_or (x ∷ xs) (length (x ∷ xs) - 1) x (omega arith)) in
        absurd (let w : Some (get_or (x ∷ xs) (length (x ∷ xs) - 1) x).key ≡ None = sym there ∙ h in cc)

-- ---- with an entry more

kind_more : (w : Writer) (e : Entry) → (entry_added w e).kind ≡ w.kind
kind_more w e =
    let block = added_to_block w.block (internal_key e) (value_under e.mark) in
    let by : (t : Bool) → (cond t (with_closed w block) (with_open w block)).kind ≡ w.kind =
    λ t. elim t as (λ v. (cond v (with_closed w block) (with_open w block)).kind ≡ w.kind) [ true ↦ refl | false ↦ refl ] in
    by (leb 4096 (length block.entries))

last_key_more : (entries : List Entry) (e : Entry) → last_key (entries ++ e ∷ []) ≡ Some e.key
last_key_more entries e =
    let whole = entries ++ e ∷ [] in
    let at : length whole - 1 ≡ length entries = omega (arith, length-append entries (e ∷ [])) in
    let there : length entries < length whole = omega (arith, length-append entries (e ∷ [])) in
    ap (λ (k : ℕ). option_map (λ (entry : Entry). entry.key) (slice_get whole k)) at
    ∙ ap (λ (o : Option Entry). option_map (λ (entry : Entry). entry.key) o) (slice_get-get_or whole (length entries) e there ∙ ap (λ (x : Entry). let o : Option Entry = Some x in o) (get_or-append_seam entries e [] e))

above_behind : (o : Option Entry) (key : List ℕ) → is_above (option_map (λ (entry : Entry). entry.key) o) key ≡ true → is_behind o key 0 ≡ true
above_behind None key h = refl
above_behind (Some e) key h = inner (bytes_cmp e.key key) h
  where
    inner : (o : Ordering) → is_lt o ≡ true → is_lt (ordering_then o (nat_cmp 0 e.number)) ≡ true
    inner Less h = refl
    inner Equal h = absurd cc
    inner Greater h = absurd cc

each_more : (entries : List Entry) (e : Entry) → AllByRecursion (MayPut External) entries → MayPut External e → AllByRecursion (MayPut External) (entries ++ e ∷ [])
each_more [] e h m = (m, tt)
each_more (x ∷ xs) e h m = (h.0, each_more xs e h.1 m)

pub may_more : (entries : List Entry) (key : List ℕ) (mark : Mark) → MayBeTable External entries → rises_to entries key ≡ true → length key ≤ 65535 → FitsMark mark → MayBeTable External (entries ++ entry_with key mark ∷ [])
may_more entries key mark may rises short fits =
    let e = entry_with key mark in
    record {
      ordered = order_more entries e may.ordered (above_behind (last_entry entries) key rises);
      each = each_more entries e may.each (record { limits = record { key = short; mark = fits; number = lit< tt }; number = lit< tt; allowed = refl });
    }

-- a writer has these entries and one more
pub record More (new : Writer) (entries : List Entry) (key : List ℕ) (mark : Mark) : Type 0 where
  pub is : held new ≡ entries ++ entry_with key mark ∷ []
  pub fits : length (written_table External (held new)) ≤ greatest_size External
  pub rows : MayBeTable External (held new)
  pub keeps : (last : List ℕ) → last ≡ key → IsSst new false last

pub more : WrittenOpens → (w new : Writer) (empty : Bool) (last : List ℕ) (entries : List Entry) (key : List ℕ) (mark : Mark) → IsSst w empty last → held w ≡ entries → new ≡ entry_added w (entry_with key mark)
    → rises_to entries key ≡ true → length key ≤ 65535 → FitsMark mark → length (finished_table (entry_added w (entry_with key mark))) ≤ greatest_size w.kind → More new entries key mark
more opens w new empty last entries key mark sst has is_new rises short fits room =
    let e = entry_with key mark in
    let whole = entries ++ e ∷ [] in
    let kind : new.kind ≡ External = ap (λ (x : Writer). x.kind) is_new ∙ kind_more w e ∙ sst.kind in
    let old : HoldsEntries w entries = subst (λ (l : List Entry). HoldsEntries w l) has sst.holds in
    let holds : HoldsEntries new whole = subst (λ (x : Writer). HoldsEntries x whole) (sym is_new) (table_holds_more w entries e old) in
    let may : MayBeTable External whole = may_more entries key mark (subst (λ (l : List Entry). MayBeTable External l) has sst.rows) rises short fits in
    let size : length (finished_table new) ≤ greatest_size External = subst (λ (x : Writer). length (finished_table x) ≤ greatest_size External) (sym is_new) (subst (λ (k : TableKind). length (finished_table (entry_added w e)) ≤ greatest_size k) sst.kind room) in
    let is : held new ≡ whole = held_is opens new whole kind holds may size in
    let rows : MayBeTable External (held new) = subst (λ (l : List Entry). MayBeTable External l) (sym is) may in
    let kept : HoldsEntries new (held new) = subst (λ (l : List Entry). HoldsEntries new l) (sym is) holds in
    record {
      is = is;
      fits = subst (λ (l : List ℕ). length l ≤ greatest_size External) (written_is new (held new) kind kept) size;
      rows = rows;
      keeps = λ l tied. record {
        kind = kind;
        holds = kept;
        rows = rows;
        last_is = ap last_key is ∙ last_key_more entries e ∙ ap (λ (x : List ℕ). let o : Option (List ℕ) = Some x in o) (sym tied);
      };
    }

-- the table with an entry more that isn't added
pub too_large_of : (w : Writer) (empty : Bool) (last : List ℕ) (entries : List Entry) (key : List ℕ) (mark : Mark) → IsSst w empty last → held w ≡ entries
    → greatest_size w.kind < length (finished_table (entry_added w (entry_with key mark))) → greatest_size External < length (written_table External (entries ++ entry_with key mark ∷ []))
too_large_of w empty last entries key mark sst has large =
    let e = entry_with key mark in
    let old : HoldsEntries w entries = subst (λ (l : List Entry). HoldsEntries w l) has sst.holds in
    let is : finished_table (entry_added w e) ≡ written_table External (entries ++ e ∷ []) = written_is (entry_added w e) (entries ++ e ∷ []) (kind_more w e ∙ sst.kind) (table_holds_more w entries e old) in
    subst (λ (l : List ℕ). greatest_size External < length l) is (subst (λ (k : TableKind). greatest_size k < length (finished_table (entry_added w e))) sst.kind large)

-- the fault that a table's writer gave
pub fault_was : (fault : AddFault) (to : WriterFault) → to ≡ writer_fault fault → to ≡ TooLarge → fault ≡ add.TooLarge
fault_was add.TooLarge to is h = refl
fault_was add.OutOfMemory to is h = absurd (let w : OutOfMemory ≡ TooLarge = sym is ∙ h in cc)

-- the table of what is held
pub all_written : (w : Writer) (empty : Bool) (last : List ℕ) (entries : List Entry) (bytes : List ℕ) → IsSst w empty last → held w ≡ entries
    → ((l : List Entry) → HoldsEntries w l → bytes ≡ written_table w.kind l) → bytes ≡ written_table External entries
all_written w empty last entries bytes sst has by =
    by entries (subst (λ (l : List Entry). HoldsEntries w l) has sst.holds) ∙ ap (λ (kind : TableKind). written_table kind entries) sst.kind
