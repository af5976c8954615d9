use Rattle.std.proofs.Common.{◌≡◌, ◌≤◌, ◌<◌, ◌+◌, ◌^◌, ◌%◌, ◌++◌, ◌∷◌, [], ℕ, List, cond, eqb, length, sym, subst, ap, ◌∙◌}
use Rattle.st_block.specs.Written.{Writing, pair_added, entry_bytes, finished_block, shared_of}
use Rattle.st_block.proofs.Writers.{keeps_writing}
use Rattle.st_block.proofs.writer.BlockWriter.add.Goals as goal

pub invariant_of-self-2 : goal.invariant_of-self-2
invariant_of-self-2 c =
    let i = c.self.inside in
    let key = c.args.key.now in
    let value = c.args.value.now in
    let w : Writing = record { interval = i.interval; count = i.count; entries = i.entries; restarts = i.restarts; last = i.last } in
    let room : length (finished_block (pair_added w key value)) < 2 ^ 32 = subst (λ (v : Writing). length (finished_block (pair_added v key value)) < 2 ^ 32) (sym c.self.view_is) c.requires.room in
    let kept = keeps_writing w key value c.self.invariant room in
    let shared : c.shared_with-shared.result ≡ shared_of i.interval i.count i.last key = c.shared_with-shared.ensures.value ∙ ap (λ (l : List ℕ). shared_of i.interval i.count l key) c.as_slice.ensures.value in
    let entries : c.push_entry.new.out ≡ i.entries ++ entry_bytes (shared_of i.interval i.count i.last key) key value = c.in_default.ensures.ok ∙ ap (λ (n : ℕ). i.entries ++ entry_bytes n key value) shared in
    let restarts : c.push_restart.new.restarts ≡ i.restarts ++ cond (eqb (i.count % i.interval) 0) (length i.entries ∷ []) [] = c.in_ok-push_restart.ensures.ok ∙ ap (λ (n : ℕ). i.restarts ++ cond (eqb (i.count % i.interval) 0) (n ∷ []) []) c.len.ensures in
    record {
      interval = kept.interval;
      size = subst (λ (l : List ℕ). length l < 2 ^ 32) (sym entries) kept.size;
      count = subst (λ (l : List ℕ). i.count + 1 ≤ length l) (sym entries) kept.count;
      restarts = subst (λ (l : List ℕ). length l ≤ length c.push_entry.new.out) (sym restarts) (subst (λ (l : List ℕ). length (i.restarts ++ cond (eqb (i.count % i.interval) 0) (length i.entries ∷ []) []) ≤ length l) (sym entries) kept.restarts);
    }
