use Rattle.std.proofs.Common.{◌≡◌, ℕ, ◌+◌, ◌<◌, List, length, length-set, arith, sym, ap, ◌∙◌}
use Rattle.count_words.specs.declared.rule.Knowledge.{Knowledge}
use Rattle.count_words.proofs.Keeping.{stores}
use Rattle.count_words.proofs.words.Counts.publish.Goals as goal

pub store-requires : goal.store-requires
store-requires c =
    let writer = c.args.writer.now in
    let own : c.args.place < length writer.seat.me.0.counts =
    omega (arith, writer.own, c.requires.place) in
    let word : writer.seat.me.0.first + c.args.place ≡ writer.first + c.args.place =
    ap (λ (n : ℕ). n + c.args.place) (sym writer.told) in
    let inside : writer.first + c.args.place < c.args.self.now.table.shared.key =
    omega (arith, writer.told, c.requires.within, c.requires.place) in (
      c.requires.writer,
      omega (arith, c.args.self.now.size, writer.told, c.requires.within, c.requires.place),
      stores _ _ _ c.args.place c.args.amount own word c.requires.grows _ _ inside,
    )

pub invariant_of-writer : goal.invariant_of-writer
invariant_of-writer c =
    let writer = c.args.writer.now in
    let word : writer.seat.me.0.first + c.args.place ≡ writer.first + c.args.place =
    ap (λ (n : ℕ). n + c.args.place) (sym writer.told) in
    let stored = c.store.ensures.2.0 c.args.place word in
    record {
      told = writer.told ∙ sym (ap (λ (k : Knowledge). k.first) stored);
      own = ap (λ (k : Knowledge). length k.counts) stored
          ∙ (length-set writer.seat.me.0.counts c.args.place c.args.amount ∙ writer.own);
      bare = c.store.ensures.2.1 ∙ writer.bare;
    }
