use Rattle.std.proofs.Common.{arith, ap, sym, ◌∙◌, length}
use Rattle.std.proofs.lemmas.List.{length-take-le}
use Rattle.atomic_table.specs.Table.{Me}
use Rattle.count_words.specs.declared.rule.Knowledge.{Knowledge}
use Rattle.count_words.proofs.Keeping.{hands}
use Rattle.count_words.proofs.words.Counts.hand_on.Goals as goal

pub split_seat-requires : goal.split_seat-requires
split_seat-requires c = (
  c.requires.table,
  omega (arith, c.args.self.now.size, c.args.self.now.some),
  hands _ c.requires.many _ _,
)

pub invariant_of-result : goal.invariant_of-result
invariant_of-result c =
    let me = c.split_seat.ensures.4 in
    record {
      told = c.requires.first ∙ sym (ap (λ (m : Me (Unit {0}) Knowledge). m.0.first) me);
      own = ap (λ (m : Me (Unit {0}) Knowledge). length m.0.counts) me
          ∙ length-take-le 64 c.args.seat.now.me.0.counts c.requires.many;
      bare = ap (λ (m : Me (Unit {0}) Knowledge). m.1) me;
    }
