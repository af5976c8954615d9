use Rattle.std.proofs.Common.{◌≡◌, false, rules}
use Rattle.st_base.specs.Bytes.{same, default_family}
use Rattle.log_engine.proofs.Open.{stranger_refused}
use Rattle.log_engine.proofs.store.MarkStore.read.Goals as goal

pub returns-then-not-is_default-clause-refused : goal.returns-then-not-is_default-clause-refused
returns-then-not-is_default-clause-refused c = λ state h.
    let apart : same c.args.family.now default_family ≡ false = search rules in
    stranger_refused state h.family c.args.family.now c.in_ok-clone.field-0 h.families apart c.in_ok-clone.ensures.cases
