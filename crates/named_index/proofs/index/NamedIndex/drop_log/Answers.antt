use Rattle.std.proofs.Common.{◌≡◌, ◌∙◌, Bool, List, ℕ, Option, Some, None, true, false, ap, sym, subst}
use Rattle.std.specs.BTreeMap.{get}
use Rattle.std.specs.BTreeSet.{contains}
use Rattle.std.specs.Ordering.{nat_cmp}
use Rattle.st_base.specs.Bytes.{bytes_cmp, same}
use Rattle.manifest_edits.specs.Edits.{AddFamily, AddLog, AddTable, DropFamily, DropLog, DropTable, Flushed}
use Rattle.named_index.specs.Knows.{IsJudgedBy, Owner, is_owned}
use Rattle.named_index.proofs.Knowing.{IsSetAt}
use Rattle.named_index.proofs.Judged.{log_dropped, set_number}
use Rattle.named_index.proofs.index.NamedIndex.drop_log.Goals as goal

pub returns : goal.returns
returns c = λ named knows.
    let old = c.args.self.now in
    let ids : ℕ → Option ℕ = get nat_cmp old.ids in
    let names : List ℕ → Option Owner = get bytes_cmp old.names in
    let tables : ℕ → Option Owner = get nat_cmp old.tables in
    let logs : ℕ → Bool = contains nat_cmp old.logs in
    let new : ℕ → Bool = contains nat_cmp c.remove.new.self in
    log_dropped ids names tables logs old.next named knows c.args.file c.remove.result c.remove.ensures.test new
    (set_number c.args.file false logs new c.remove.ensures.updates.0)
