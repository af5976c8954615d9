use Rattle.std.proofs.Common.{◌≡◌, List, ℕ, map, sym, ap, ap₂, subst, ◌∙◌}
use Rattle.st_base.specs.Bytes.{below}
use Rattle.st_base.specs.Rows.{entry_of}
use Rattle.st_base.specs.declared.entry.Entry.{Entry}
use Rattle.st_order.specs.Order.{between}
use Rattle.st_merge.specs.Scan.{cut_pairs, live_behind, live_pairs, reaching}
use Rattle.st_order.specs.Sorted.{merged}
use Rattle.st_order.proofs.Columns.{Weak}
use Rattle.st_merge.proofs.Scans.{merged_weak, no_pairs, range_passed}
use Rattle.st_merge.proofs.Reaching.{live_from_first}
use Rattle.st_merge.proofs.scanning.scan.Goals as goal

pub loop-entry_index-init : goal.loop-entry_index-init
loop-entry_index-init g c = record {
  runs = c.in_ok-merge.ensures.runs;
  weak = subst (λ (some : List Entry). Weak some) (sym c.in_ok-merge.ensures.rest) (merged_weak (map (reaching c.as_bytes-low.result.now) (map g.T.Rows.rows c.args.parts.now)));
  last = c.new-reader.ensures.last ∙ c.as_bytes-high.ensures.value;
  few = c.new-reader.ensures.few;
  all = c.new-reader.ensures.all c.in_ok-merge.merge.rest
      ∙ ap₂ (λ (first last : List ℕ). cut_pairs c.args.limit 0 (live_pairs (between first last) c.args.number c.in_ok-merge.merge.rest)) c.as_bytes-low.ensures.value c.as_bytes-high.ensures.value
      ∙ ap (λ (entries : List Entry). cut_pairs c.args.limit 0 (live_pairs (between c.args.first.now c.args.last.now) c.args.number entries))
      (c.in_ok-merge.ensures.rest ∙ ap (λ (first : List ℕ). merged (map (reaching first) (map g.T.Rows.rows c.args.parts.now))) c.as_bytes-low.ensures.value)
      ∙ ap (cut_pairs c.args.limit 0) (live_from_first (between c.args.first.now c.args.last.now) c.args.number (map g.T.Rows.rows c.args.parts.now));
}

pub returns-then-below : goal.returns-then-below
returns-then-below g c =
    sym (range_passed c.loop-entry_index.reader.pairs.items c.loop-entry_index.reader.room c.loop-entry_index.reader.bytes (between c.loop-entry_index.reader.first.now c.loop-entry_index.reader.last.now) c.loop-entry_index.reader.number c.loop-entry_index.reader.before
    c.loop-entry_index.merge.runs (map g.T.Rows.rows c.args.parts.now) c.in-Some.entry_index.part c.in-Some.entry_index.index c.in-Some.ensures.gives.0 (entry_of c.entry_at-entry.result) c.loop-entry_index.merge.rest c.next.new.self.rest
    c.in-Some.ensures.gives.2 c.in-Some.ensures.gives.1 c.loop-entry_index.invariant.runs c.entry_at-entry.ensures.value c.loop-entry_index.invariant.weak
    (ap₂ (λ (last key : List ℕ). below last key) (c.loop-entry_index.invariant.last ∙ sym c.as_bytes-high.ensures.value) Rattle.std.proofs.Common.refl ∙ sym c.below.ensures ∙ c.if-below.true))
    ∙ c.loop-entry_index.invariant.all

pub returns : goal.returns
returns g c =
    sym (no_pairs c.loop-entry_index.reader.pairs.items (live_behind (between c.loop-entry_index.reader.first.now c.loop-entry_index.reader.last.now) c.loop-entry_index.reader.number c.loop-entry_index.reader.before c.loop-entry_index.merge.rest) c.loop-entry_index.reader.room c.loop-entry_index.reader.bytes
    (ap (live_behind (between c.loop-entry_index.reader.first.now c.loop-entry_index.reader.last.now) c.loop-entry_index.reader.number c.loop-entry_index.reader.before) c.in_default.ensures.gives.0))
    ∙ c.loop-entry_index.invariant.all
