use Rattle.std.proofs.Common.{refl, true}
use Rattle.std.proofs.lemmas.Bool.{false≢true}
use Rattle.build_text.proofs.Building.{build_none, build_refused, build_some}
use Rattle.build_text.proofs.BuildText.{each_of_read, rows_of_read}
use Rattle.build_text.proofs.text.read_build.Goals as goal

pub returns-in-Err-clause-reading : goal.returns-in-Err-clause-reading
returns-in-Err-clause-reading c =
    build_refused (λ entries. true) (Unit {0}) c.write_build.new.writer c.in-Err.fault c.args.text.now (rw c.new-entries.ensures at c.in-Err.ensures)

pub returns-then-is_empty-clause-reading : goal.returns-then-is_empty-clause-reading
returns-then-is_empty-clause-reading c =
    build_none (λ entries. true) c.write_build.new.writer c.args.text.now (c.if-is_empty.ensures.0 refl) (rw c.new-entries.ensures at c.in_default.ensures)

pub returns-clause-reading : goal.returns-clause-reading
returns-clause-reading c =
    build_some (λ entries. true) c.write_build.new.writer c.args.text.now (λ e. false≢true (c.if-is_empty.ensures.1 e)) (rw c.new-entries.ensures at c.in_default.ensures)

pub returns-clause-rows : goal.returns-clause-rows
returns-clause-rows c =
    rows_of_read (λ entries. true) c.args.text.now c.write_build.new.writer
    (build_some (λ entries. true) c.write_build.new.writer c.args.text.now (λ e. false≢true (c.if-is_empty.ensures.1 e)) (rw c.new-entries.ensures at c.in_default.ensures))

pub returns-clause-entries : goal.returns-clause-entries
returns-clause-entries c =
    each_of_read (λ entries. true) c.args.text.now c.write_build.new.writer
    (build_some (λ entries. true) c.write_build.new.writer c.args.text.now (λ e. false≢true (c.if-is_empty.ensures.1 e)) (rw c.new-entries.ensures at c.in_default.ensures))
