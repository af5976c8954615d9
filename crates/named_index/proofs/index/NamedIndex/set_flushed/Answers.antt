use Rattle.std.proofs.Common.{◌≡◌, ◌∙◌, Bool, List, ℕ, Option, Some, None, true, false, ap, sym, subst}
use Rattle.std.specs.BTreeMap.{get}
use Rattle.std.specs.BTreeSet.{contains}
use Rattle.std.specs.Ordering.{nat_cmp}
use Rattle.st_base.specs.Bytes.{bytes_cmp, same}
use Rattle.manifest_edits.specs.Edits.{AddFamily, AddLog, AddTable, DropFamily, DropLog, DropTable, Flushed}
use Rattle.named_index.specs.Knows.{IsJudgedBy, Owner, is_owned}
use Rattle.named_index.proofs.Knowing.{IsSetAt}
use Rattle.named_index.proofs.Judged.{flushed_judged}
use Rattle.named_index.proofs.index.NamedIndex.set_flushed.Goals as goal

pub returns : goal.returns
returns c = λ named number knows.
    let old = c.args.self.now in
    let ids : ℕ → Option ℕ = get nat_cmp old.ids in
    let names : List ℕ → Option Owner = get bytes_cmp old.names in
    let tables : ℕ → Option Owner = get nat_cmp old.tables in
    let logs : ℕ → Bool = contains nat_cmp old.logs in
    flushed_judged ids names tables logs old.next named knows c.args.family number c.contains_key.result c.contains_key.ensures
