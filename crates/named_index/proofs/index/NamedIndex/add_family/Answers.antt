use Rattle.std.proofs.Common.{◌≡◌, ◌∙◌, Bool, List, ℕ, Option, Some, None, true, false, ap, sym, subst}
use Rattle.std.specs.BTreeMap.{get}
use Rattle.std.specs.BTreeSet.{contains}
use Rattle.std.specs.Ordering.{nat_cmp}
use Rattle.st_base.specs.Bytes.{bytes_cmp, same}
use Rattle.manifest_edits.specs.Edits.{AddFamily, AddLog, AddTable, DropFamily, DropLog, DropTable, Flushed}
use Rattle.named_index.specs.Knows.{IsJudgedBy, Owner, is_owned}
use Rattle.named_index.proofs.Knowing.{IsSetAt}
use Rattle.named_index.proofs.Judged.{name_is_taken}
use Rattle.named_index.proofs.index.NamedIndex.add_family.Goals as goal

pub returns-then-is_owned : goal.returns-then-is_owned
returns-then-is_owned c = λ named knows.
    let old = c.args.self.now in
    let ids : ℕ → Option ℕ = get nat_cmp old.ids in
    let names : List ℕ → Option Owner = get bytes_cmp old.names in
    let tables : ℕ → Option Owner = get nat_cmp old.tables in
    let logs : ℕ → Bool = contains nat_cmp old.logs in
    name_is_taken ids names tables logs old.next named knows c.args.id c.args.name.now
    (ap (is_owned ids) (sym c.get.ensures.value) ∙ sym c.is_owned.ensures ∙ c.if-is_owned.true)

pub returns : goal.returns
returns c = λ named knows.
    let old = c.args.self.now in
    let ids : ℕ → Option ℕ = get nat_cmp old.ids in
    let names : List ℕ → Option Owner = get bytes_cmp old.names in
    let tables : ℕ → Option Owner = get nat_cmp old.tables in
    let logs : ℕ → Bool = contains nat_cmp old.logs in
    c.in_ok-make_family.ensures named knows (sym c.contains_key.ensures ∙ c.if-contains_key.false)
    (ap (is_owned ids) (sym c.get.ensures.value) ∙ sym c.is_owned.ensures ∙ c.if-is_owned.false)
