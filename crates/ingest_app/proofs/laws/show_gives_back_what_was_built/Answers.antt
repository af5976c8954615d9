use Rattle.st_table.specs.declared.kind.TableKind.TheVariants.{External}
use Rattle.ingest_app.proofs.Built.{built_is_shown, only_shown}
use Rattle.ingest_app.proofs.laws.show_gives_back_what_was_built.Goals as goal

pub returns-clause-shown : goal.returns-clause-shown
returns-clause-shown c =
    let e = c.build_text_is_read.ensures in
    built_is_shown e.only e.rows e.entries (c.written_table_opens.ensures External)

pub returns-clause-only : goal.returns-clause-only
returns-clause-only c =
    let e = c.build_text_is_read.ensures in
    let t = c.table_or_first_fault.ensures in
    only_shown e.only e.rows e.entries (c.written_table_opens.ensures External) (λ bytes. t.exact bytes External) (λ bytes. t.one bytes External)
