use Rattle.std.proofs.Common.{◌+◌, ◌-◌, ◌*◌, ◌^◌, ◌/◌, ◌≤◌, ◌≡◌, ℕ, suc, List, ◌∷◌, false, drop, take, refl, sym, ◌∙◌, inl, inr, subst, arith}
use Rattle.std.specs.Int.{w32, from_le_bytes}
use Rattle.st_block.specs.Block.{Cell}
use Rattle.st_block.specs.InternalKey.{is_key_before}
use Rattle.st_block.specs.BlockContents.{cells_at, cells_in}
use Rattle.st_block.proofs.Counting.{halves, halves_few}
use Rattle.st_block.proofs.Searching.{some_restart, start_first, start_more, stays_behind}
use Rattle.st_block.proofs.walk.start_of.Goals as goal

pub loop-low-init : goal.loop-low-init
loop-low-init g c =
    let none : c.args.steps.now - c.args.steps.now ≡ 0 = omega arith in
    record {
      within = some_restart c.args.kind c.args.text.now c.args.layout c.requires.lies c.requires.some c.args.key.now c.args.number;
      top = omega arith;
      start = start_first c.args.kind c.args.text.now c.args.layout c.requires.lies c.requires.some c.args.key.now c.args.number;
      after = inl refl;
      counted = omega arith;
      halved = subst (λ (k : ℕ). 2 ^ k ≤ 2 * c.args.layout.restarts + 1) (sym none) (omega arith);
      still = subst (λ (k : ℕ). 2 ^ k * (c.args.layout.restarts - 0 - 1) ≤ c.args.layout.restarts) (sym none) (omega arith);
    }

pub loop-low-preserved-then-is_key_before : goal.loop-low-preserved-then-is_key_before
loop-low-preserved-then-is_key_before g c =
    let i = c.loop-low.invariant in
    let before = c.args.steps.now in
    let middle = c.loop-low.low + (c.loop-low.high - c.loop-low.low) / 2 in
    let more : c.tick.new.self - before ≡ suc (c.loop-low.steps - before) = omega (arith, c.tick.ensures, i.counted) in
    record {
      within = omega arith;
      top = i.top;
      start = start_more c.args.kind c.args.text.now c.args.layout c.requires.lies c.requires.some c.args.key.now c.args.number middle
          c.fixed32_in-at.result c.restart_key.result.now (omega (arith, i.top)) c.fixed32_in-at.ensures c.restart_key.ensures (sym c.if-is_key_before.ensures);
      after = i.after;
      counted = omega (arith, c.tick.ensures, i.counted);
      halved = subst (λ (k : ℕ). 2 ^ k ≤ 2 * c.args.layout.restarts + 1) (sym more) (halves_few (c.loop-low.steps - before) (c.loop-low.high - c.loop-low.low - 1) c.args.layout.restarts (omega arith) i.still);
      still = subst (λ (k : ℕ). 2 ^ k * (c.loop-low.high - middle - 1) ≤ c.args.layout.restarts) (sym more) (halves (c.loop-low.steps - before) (c.loop-low.high - c.loop-low.low - 1) (c.loop-low.high - middle - 1) c.args.layout.restarts (omega arith) i.still);
    }

pub loop-low-preserved : goal.loop-low-preserved
loop-low-preserved g c =
    let i = c.loop-low.invariant in
    let before = c.args.steps.now in
    let middle = c.loop-low.low + (c.loop-low.high - c.loop-low.low) / 2 in
    let more : c.tick.new.self - before ≡ suc (c.loop-low.steps - before) = omega (arith, c.tick.ensures, i.counted) in
    record {
      within = omega arith;
      top = omega (arith, i.top);
      start = i.start;
      after = inr (stays_behind c.args.kind c.args.text.now c.args.layout c.requires.lies c.requires.some c.args.key.now c.args.number middle
          c.fixed32_in-at.result c.restart_key.result.now (omega (arith, i.top)) c.fixed32_in-at.ensures c.restart_key.ensures (sym c.if-is_key_before.ensures));
      counted = omega (arith, c.tick.ensures, i.counted);
      halved = subst (λ (k : ℕ). 2 ^ k ≤ 2 * c.args.layout.restarts + 1) (sym more) (halves_few (c.loop-low.steps - before) (c.loop-low.high - c.loop-low.low - 1) c.args.layout.restarts (omega arith) i.still);
      still = subst (λ (k : ℕ). 2 ^ k * (middle - c.loop-low.low - 1) ≤ c.args.layout.restarts) (sym more) (halves (c.loop-low.steps - before) (c.loop-low.high - c.loop-low.low - 1) (middle - c.loop-low.low - 1) c.args.layout.restarts (omega arith) i.still);
    }

pub returns-clause-last : goal.returns-clause-last
returns-clause-last g c =
    let i = c.loop-low.invariant in
    let next : c.loop-low.high ≡ suc c.loop-low.low = omega (arith, i.within, c.loop-low-test.false) in
    record {
      low = c.loop-low.low;
      offset = c.fixed32_in.ensures;
      within = omega (arith, i.within, i.top);
      after = elim i.after [
        | inl end ↦ inl (sym next ∙ end)
        | inr before ↦ inr (subst (λ (k : ℕ). (cell : Cell) (rest : List Cell) → cells_at (from_le_bytes w32 (drop (c.args.layout.end + 4 * k) c.args.text.now)) (cells_in c.args.kind (take c.args.layout.end c.args.text.now)) ≡ cell ∷ rest → is_key_before c.args.key.now c.args.number cell.key ≡ false) next before)
      ];
    }
