use Rattle.std.proofs.Common.{rules, arith, ◌≡◌, ◌<◌, ◌^◌, subst}
use Rattle.st_base.specs.Range.{under_number}
use Rattle.st_base.specs.Rows.{AreRows}
use Rattle.st_base.proofs.Numbered.{rows_under}
use Rattle.st_base.proofs.listed.ListedRenumber.with_number.Goals as goal

pub new-requires : goal.new-requires
new-requires c =
    let small : c.args.number < 2 ^ 64 = omega arith in
    let same : under_number c.args.number c.args.self.now ≡ c.in_ok-entries.entries = search rules in
    subst AreRows same (rows_under c.args.number c.args.self.now small c.as_slice.ensures.rows c.requires.once)
