use Rattle.std.proofs.Common.{◌≡◌, ◌∙◌, Bool, List, ℕ, Option, Some, None, true, false, ap, sym, subst}
use Rattle.std.specs.BTreeMap.{get}
use Rattle.std.specs.BTreeSet.{contains}
use Rattle.std.specs.Ordering.{nat_cmp}
use Rattle.st_base.specs.Bytes.{bytes_cmp, same}
use Rattle.manifest_edits.specs.Edits.{AddFamily, AddLog, AddTable, DropFamily, DropLog, DropTable, Flushed}
use Rattle.named_index.specs.Knows.{IsJudgedBy, Owner, is_owned}
use Rattle.named_index.proofs.Knowing.{IsSetAt}
use Rattle.named_index.proofs.Judged.{file_is_taken, no_place, set_number, table_added}
use Rattle.named_index.proofs.index.NamedIndex.own_table.Goals as goal

pub returns-then-not-may_place : goal.returns-then-not-may_place
returns-then-not-may_place c = λ named length number knows here.
    let old = c.args.self.now in
    let ids : ℕ → Option ℕ = get nat_cmp old.ids in
    let names : List ℕ → Option Owner = get bytes_cmp old.names in
    let tables : ℕ → Option Owner = get nat_cmp old.tables in
    let logs : ℕ → Bool = contains nat_cmp old.logs in
    no_place ids names tables logs old.next named knows c.args.owner.0
    (record { level = c.args.level; file = c.args.file; length = length; number = number })
    (sym c.may_place.ensures ∙ c.if-not-may_place.true)

pub returns-then-is_owned : goal.returns-then-is_owned
returns-then-is_owned c = λ named length number knows here.
    let old = c.args.self.now in
    let ids : ℕ → Option ℕ = get nat_cmp old.ids in
    let names : List ℕ → Option Owner = get bytes_cmp old.names in
    let tables : ℕ → Option Owner = get nat_cmp old.tables in
    let logs : ℕ → Bool = contains nat_cmp old.logs in
    file_is_taken ids names tables logs old.next named knows c.args.owner.0
    (record { level = c.args.level; file = c.args.file; length = length; number = number })
    (ap (is_owned ids) (sym c.get.ensures.value) ∙ sym c.is_owned.ensures ∙ c.if-is_owned.true)

pub returns : goal.returns
returns c = λ named length number knows here.
    let old = c.args.self.now in
    let ids : ℕ → Option ℕ = get nat_cmp old.ids in
    let names : List ℕ → Option Owner = get bytes_cmp old.names in
    let tables : ℕ → Option Owner = get nat_cmp old.tables in
    let logs : ℕ → Bool = contains nat_cmp old.logs in
    let new : ℕ → Option Owner = get nat_cmp c.insert.new.self in
    table_added ids names tables logs old.next named knows c.args.owner.0
    (record { level = c.args.level; file = c.args.file; length = length; number = number }) c.args.owner.1 here
    (sym c.may_place.ensures ∙ c.if-not-may_place.false)
    (ap (is_owned ids) (sym c.get.ensures.value) ∙ sym c.is_owned.ensures ∙ c.if-is_owned.false) new
    (set_number c.args.file (Some c.args.owner) tables new c.in_ok-insert.ensures.updates.0)
