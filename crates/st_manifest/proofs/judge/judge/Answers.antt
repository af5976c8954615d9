use Rattle.std.proofs.Common.{IfOk, subst, sym}
use Rattle.named_index.specs.Knows.{IsJudged}
use Rattle.st_manifest.specs.Edit.{as_edit}
use Rattle.st_manifest.specs.declared.edit.Edit.{Edit}
use Rattle.st_manifest.proofs.judge.judge.Goals as goal

pub returns-in-AddFamily : goal.returns-in-AddFamily
returns-in-AddFamily c = λ named knows. subst (λ (e : Edit). IfOk c.add_family.result (IsJudged c.add_family.new.self named (as_edit e))) (sym c.in-AddFamily.is) (c.add_family.ensures named knows)

pub returns-in-DropFamily : goal.returns-in-DropFamily
returns-in-DropFamily c = λ named knows. subst (λ (e : Edit). IsJudged c.drop_family.new.self named (as_edit e) c.drop_family.result) (sym c.in-DropFamily.is) (c.drop_family.ensures named knows)

pub returns-in-AddTable : goal.returns-in-AddTable
returns-in-AddTable c = λ named knows. subst (λ (e : Edit). IfOk c.add_table.result (IsJudged c.add_table.new.self named (as_edit e))) (sym c.in-AddTable.is) (c.add_table.ensures named c.in-AddTable.length c.in-AddTable.number knows)

pub returns-in-DropTable : goal.returns-in-DropTable
returns-in-DropTable c = λ named knows. subst (λ (e : Edit). IsJudged c.drop_table.new.self named (as_edit e) c.drop_table.result) (sym c.in-DropTable.is) (c.drop_table.ensures named knows)

pub returns-in-Flushed : goal.returns-in-Flushed
returns-in-Flushed c = λ named knows. subst (λ (e : Edit). IsJudged c.args.index.now named (as_edit e) c.set_flushed.result) (sym c.in-Flushed.is) (c.set_flushed.ensures named c.in-Flushed.number knows)

pub returns-in-AddLog : goal.returns-in-AddLog
returns-in-AddLog c = λ named knows. subst (λ (e : Edit). IfOk c.add_log.result (IsJudged c.add_log.new.self named (as_edit e))) (sym c.in-AddLog.is) (c.add_log.ensures named knows)

pub returns-in-DropLog : goal.returns-in-DropLog
returns-in-DropLog c = λ named knows. subst (λ (e : Edit). IsJudged c.drop_log.new.self named (as_edit e) c.drop_log.result) (sym c.in-DropLog.is) (c.drop_log.ensures named knows)
