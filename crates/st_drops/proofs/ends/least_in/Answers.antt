use Rattle.std.proofs.Common.{List, ℕ, ◌≡◌, ◌++◌, true, false, sym, ap, subst, ◌∙◌, arith}
use Rattle.std.proofs.lemmas.Bool.{false≢true}
use Rattle.std.proofs.lemmas.List.Sums.{prefix_len-le-length}
use Rattle.st_base.specs.Bytes.{at_most}
use Rattle.st_base.specs.Order.{is_before}
use Rattle.st_base.specs.Range.{keys_of}
use Rattle.st_base.specs.Rows.{entry_of}
use Rattle.st_base.specs.declared.entry.Entry.{Entry}
use Rattle.st_base.specs.declared.entry.Mark.TheVariants.{Gone}
use Rattle.base_laws.proofs.Keys.{below_at_most, not_at_most}
use Rattle.st_drops.specs.Ends.{FindsLeastFrom, IsLeastFrom}
use Rattle.st_drops.proofs.Extremes.{key_fits, least_kept, least_stays, least_taken, least_there, none_reaches}
use Rattle.st_drops.proofs.ends.least_in.Goals.{else-found-via-then-found+else-at_most, else-found-via-else-found}
use Rattle.st_drops.proofs.ends.least_in.Goals as goal

none : Entry
none = record { key = Rattle.std.proofs.Common.[]; number = 0; mark = Gone }

pub returns-then-index-len : goal.returns-then-index-len
returns-then-index-len g c = λ keys finds.
    least_kept c.args.bound.now c.args.found keys (keys_of (g.T.Rows.rows c.args.rows.now)) c.args.key.now
    (none_reaches c.args.bound.now (g.T.Rows.rows c.args.rows.now) c.len.ensures.rows none (sym c.len.ensures.value ∙ sym c.if-index-len.true ∙ c.lower-index.ensures)) finds

pub at-entry-requires : goal.at-entry-requires
at-entry-requires g c = omega (arith, c.len.ensures.value, c.lower-index.ensures, c.if-index-len.false, prefix_len-le-length (is_before c.args.bound.now 18446744073709551615) (g.T.Rows.rows c.args.rows.now))

pub returns-then-at_most : goal.returns-then-at_most
returns-then-at_most g c = λ keys finds.
    least_stays c.args.bound.now keys (keys_of (g.T.Rows.rows c.args.rows.now)) c.args.key.now c.at-entry.result.key.now
    (subst (λ b. FindsLeastFrom c.args.bound.now keys b c.args.key.now) c.if-found.true finds)
    (least_there c.args.bound.now (g.T.Rows.rows c.args.rows.now) c.len.ensures.rows none c.lower-index.result (entry_of c.at-entry.result) c.lower-index.ensures c.at-entry.ensures)
    (ap (λ (key : List ℕ). at_most key c.at-entry.result.key.now) (sym c.as_slice.ensures.value) ∙ sym c.at_most.ensures ∙ c.if-at_most.true)

pub keep_and_add-requires-clause-room : goal.keep_and_add-requires-clause-room
keep_and_add-requires-clause-room g c = omega (arith, key_fits (g.T.Rows.rows c.args.rows.now) c.lower-index.result (entry_of c.at-entry.result) c.len.ensures.rows c.at-entry.ensures)

pub returns : goal.returns
returns g c = λ keys finds.
    let entry : Entry = entry_of c.at-entry.result in
    let lesser : c.args.found ≡ true → at_most entry.key c.args.key.now ≡ true = elim c.else-found.branch [
      | else-found-via-then-found+else-at_most w ↦ λ _. below_at_most entry.key c.args.key.now (not_at_most c.args.key.now entry.key
          (ap (λ (key : List ℕ). at_most key entry.key) (sym w.as_slice.ensures.value) ∙ sym w.at_most.ensures ∙ w.if-at_most.false))
      | else-found-via-else-found w ↦ λ is. absurd (false≢true (sym w.if-found.false ∙ is))
    ] in
    subst (λ (key : List ℕ). IsLeastFrom c.args.bound.now (keys ++ keys_of (g.T.Rows.rows c.args.rows.now)) key) (sym c.keep_and_add.ensures)
    (least_taken c.args.bound.now c.args.found keys (keys_of (g.T.Rows.rows c.args.rows.now)) c.args.key.now entry.key finds lesser
    (least_there c.args.bound.now (g.T.Rows.rows c.args.rows.now) c.len.ensures.rows none c.lower-index.result entry c.lower-index.ensures c.at-entry.ensures))
