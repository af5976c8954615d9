use Rattle.std.proofs.Common.{◌≡◌, ◌+◌, List, ℕ, [], ◌∷◌, ◌++◌, length, sym, ap, ap₂, ◌∙◌}
use Rattle.st_merge.specs.Scan.{KeyValue, cut_pairs}
use Rattle.st_merge.proofs.Scans.{pushed_last, pushed_on}
use Rattle.st_merge.proofs.reader.Reader.push.Goals.{then-self-ge-SCAN_BYTES, else-self-ge-SCAN_BYTES}
use Rattle.st_merge.proofs.reader.Reader.push.Goals as goal

pub returns-clause-all : goal.returns-clause-all
returns-clause-all c pairs =
    let made : c.push.new.self.items ≡ c.args.self.now.pairs.items ++ (c.args.key.now, c.args.value.now) ∷ [] =
    c.in_ok-push.ensures.items ∙ ap₂ (λ (key value : List ℕ). c.args.self.now.pairs.items ++ (key, value) ∷ []) c.in_ok-key_of.ensures c.in_ok-value_of.ensures in
    elim c.if-self-ge-SCAN_BYTES.branch [
      | then-self-ge-SCAN_BYTES w ↦
          pushed_last c.args.self.now.pairs.items c.args.self.now.room c.args.self.now.bytes (c.args.key.now, c.args.value.now) pairs c.if-self-ge-SCAN_BYTES.self c.requires.room w.self-is w.if-self-ge-SCAN_BYTES.true
          ∙ ap (λ (some : List KeyValue). some ++ cut_pairs c.if-self-ge-SCAN_BYTES.self (c.args.self.now.bytes + (length c.args.key.now + length c.args.value.now)) pairs) (sym made)
      | else-self-ge-SCAN_BYTES w ↦
          pushed_on c.args.self.now.pairs.items c.args.self.now.room c.args.self.now.bytes (c.args.key.now, c.args.value.now) pairs c.if-self-ge-SCAN_BYTES.self c.requires.room w.self-is w.if-self-ge-SCAN_BYTES.false
          ∙ ap (λ (some : List KeyValue). some ++ cut_pairs c.if-self-ge-SCAN_BYTES.self (c.args.self.now.bytes + (length c.args.key.now + length c.args.value.now)) pairs) (sym made)
    ]
