use Rattle.std.proofs.Common.{◌≡◌, ◌∙◌, Bool, List, ℕ, Option, Some, None, true, false, ap, sym, subst}
use Rattle.std.specs.BTreeMap.{get}
use Rattle.std.specs.BTreeSet.{contains}
use Rattle.std.specs.Ordering.{nat_cmp}
use Rattle.st_base.specs.Bytes.{bytes_cmp, same}
use Rattle.manifest_edits.specs.Edits.{AddFamily, AddLog, AddTable, DropFamily, DropLog, DropTable, Flushed}
use Rattle.named_index.specs.Knows.{IsJudgedBy, Owner, is_owned}
use Rattle.named_index.proofs.Knowing.{IsSetAt}
use Rattle.named_index.proofs.Judged.{family_added, set_name, set_number}
use Rattle.named_index.proofs.index.NamedIndex.make_family.Goals as goal

pub returns : goal.returns
returns c = λ named knows free unnamed.
    let old = c.args.self.now in
    let ids : ℕ → Option ℕ = get nat_cmp old.ids in
    let names : List ℕ → Option Owner = get bytes_cmp old.names in
    let tables : ℕ → Option Owner = get nat_cmp old.tables in
    let logs : ℕ → Bool = contains nat_cmp old.logs in
    let new : ℕ → Option ℕ = get nat_cmp c.insert.new.self in
    let after : List ℕ → Option Owner = get bytes_cmp c.insert-2.new.self in
    let owner : Owner = (c.args.id, old.next) in
    family_added ids names tables logs old.next named knows c.args.id c.args.name.now free unnamed new
    (set_number c.args.id (Some old.next) ids new c.in_ok-insert.ensures.updates.0) after
    (subst (λ (name : List ℕ). IsSetAt same name (Some owner) names after) c.in_ok-clone.ensures.cases
    (set_name c.in_ok-clone.field-0 (Some owner) names after c.in_ok-insert-2.ensures.updates.0))
