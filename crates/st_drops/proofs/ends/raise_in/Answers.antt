use Rattle.std.proofs.Common.{List, ℕ, Option, Some, None, Bor, [], take, sym, subst, arith}
use Rattle.std.specs.Option.{option_copied}
use Rattle.std.proofs.lemmas.List.Sums.{prefix_len-le-length}
use Rattle.st_base.specs.Order.{is_before}
use Rattle.st_base.specs.Range.{keys_of}
use Rattle.st_base.specs.declared.entry.Entry.{Entry}
use Rattle.st_base.specs.declared.entry.Mark.TheVariants.{Gone}
use Rattle.st_drops.specs.Ends.{IsRaised, is_before_end}
use Rattle.st_drops.proofs.Extremes.{back_after, front_before, raised_front}
use Rattle.st_drops.proofs.ends.raise_in.Goals as goal

none : Entry
none = record { key = []; number = 0; mark = Gone }

pub raise_to-requires-clause-count : goal.raise_to-requires-clause-count
raise_to-requires-clause-count g c = omega (arith, c.lower-count.ensures, prefix_len-le-length (is_before c.in-Some.end.now 18446744073709551615) (g.T.Rows.rows c.args.rows.now))

pub returns-in-Some : goal.returns-in-Some
returns-in-Some g c =
    let entries : List Entry = g.T.Rows.rows c.args.rows.now in
    let end : List ℕ = c.in-Some.end.now in
    subst (λ (found : Option (Bor (List ℕ))). IsRaised (is_before_end (option_copied found)) (keys_of entries) c.args.last.now c.raise_to.new.last) (sym c.in-Some.is)
    (raised_front (is_before_end (Some end)) (Rattle.st_base.specs.Rows.lower_index entries end 18446744073709551615) entries c.args.last.now c.raise_to.new.last
    (front_before end entries c.len-length.ensures.rows none) (back_after end entries c.len-length.ensures.rows none)
    (subst (λ (n : ℕ). IsRaised (is_before_end None) (keys_of (take n entries)) c.args.last.now c.raise_to.new.last) c.lower-count.ensures c.raise_to.ensures))
