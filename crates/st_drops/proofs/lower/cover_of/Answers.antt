use Rattle.std.proofs.Common.{List, ℕ, [], true, false, length, get_or, map, sym, ap, subst, ◌≡◌, ◌<◌, ◌∙◌, arith}
use Rattle.std.proofs.lemmas.List.{length-map}
use Rattle.std.proofs.lemmas.List.Sums.{prefix_len-le-length}
use Rattle.st_base.specs.Bytes.{at_most}
use Rattle.st_base.specs.Range.{key_at_end, key_at_front, range_of}
use Rattle.st_base.specs.declared.entry.Entry.{Entry}
use Rattle.st_order.proofs.Mapped.{mapped_there}
use Rattle.job_model.specs.ByKey.{ends_below, runs_before}
use Rattle.st_drops.specs.Covers.{CoversNoneBefore, CoversThrough}
use Rattle.st_drops.proofs.Covers.{all_end, begins, lies}
use Rattle.st_drops.proofs.lower.cover_of.Goals as goal

pub returns-then-index-tables : goal.returns-then-index-tables
returns-then-index-tables g c =
    all_end (map g.U.Rows.rows c.args.tables.now) c.requires c.args.key.now (omega (arith, length-map c.args.tables.now g.U.Rows.rows, c.first_reaching-index.ensures, c.if-index-tables.true))

pub offset_bounds-tables-index : goal.offset_bounds-tables-index
offset_bounds-tables-index g c = omega (arith, length-map c.args.tables.now g.U.Rows.rows, c.first_reaching-index.ensures, prefix_len-le-length (ends_below c.args.key.now) (map g.U.Rows.rows c.args.tables.now))

pub bounds-tables-index : goal.bounds-tables-index
bounds-tables-index g c = omega (arith, length-map c.args.tables.now g.U.Rows.rows, c.first_reaching-index.ensures, c.if-index-tables.false, prefix_len-le-length (ends_below c.args.key.now) (map g.U.Rows.rows c.args.tables.now))

-- the run of the table that was found
found : {T : Type 0} (rows : T → List Entry) (tables : List T) (i : ℕ) (table : T) (key : List ℕ) → i ≡ runs_before key (map rows tables) → (i ≡ length tables → ⊥) → table ≡ get_or tables i table
    → (i < length (map rows tables)) × (get_or (map rows tables) i [] ≡ rows table)
found rows tables i table key at ends is =
    let lt : i < length tables = omega (arith, length-map tables rows, prefix_len-le-length (ends_below key) (map rows tables)) in
    (omega (arith, length-map tables rows), mapped_there rows tables i table [] lt is)

pub returns-then-at_most : goal.returns-then-at_most
returns-then-at_most g c =
    let runs : List (List Entry) = map g.U.Rows.rows c.args.tables.now in
    let key : List ℕ = c.args.key.now in
    let at = found g.U.Rows.rows c.args.tables.now c.first_reaching-index.result c.index-tables-index.result c.args.key.now c.first_reaching-index.ensures c.if-index-tables.false c.index-tables-index.is in
    subst (λ (last : List ℕ). CoversThrough (map range_of runs) key last) (ap key_at_end at.1 ∙ sym c.last_key_of.ensures)
    (lies runs c.requires key c.first_reaching-index.result c.first_reaching-index.ensures at.0
    (ap (λ (entries : List Entry). at_most (key_at_front entries) key) at.1 ∙ ap (λ (first : List ℕ). at_most first key) (sym c.first_key_of-first.ensures) ∙ sym c.at_most.ensures ∙ c.if-at_most.true))

pub returns-else-at_most : goal.returns-else-at_most
returns-else-at_most g c =
    let runs : List (List Entry) = map g.U.Rows.rows c.args.tables.now in
    let key : List ℕ = c.args.key.now in
    let at = found g.U.Rows.rows c.args.tables.now c.first_reaching-index.result c.index-tables-index.result c.args.key.now c.first_reaching-index.ensures c.if-index-tables.false c.index-tables-index.is in
    subst (λ (first : List ℕ). CoversNoneBefore (map range_of runs) key first) (ap key_at_front at.1 ∙ sym c.first_key_of-first.ensures)
    (begins runs c.requires key c.first_reaching-index.result c.first_reaching-index.ensures at.0
    (ap (λ (entries : List Entry). at_most (key_at_front entries) key) at.1 ∙ ap (λ (first : List ℕ). at_most first key) (sym c.first_key_of-first.ensures) ∙ sym c.at_most.ensures ∙ c.if-at_most.false))
