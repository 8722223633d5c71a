use Rattle.std.proofs.Common.{◌++◌, sym, ap, ◌∙◌, arith, append-nil, List, ℕ, ◌<◌}
use Rattle.std.specs.Option.{option_to_list}
use Rattle.dtab_index.specs.Listed.{listed}
use Rattle.dtab_index.specs.Part.{positions_at}
use Rattle.dtab_index.proofs.Listed.{put_next, word_last, word_zero}
use Rattle.dtab_index.proofs.part.put_word.Goals as goal

pub returns-then-word-eq0 : goal.returns-then-word-eq0
returns-then-word-eq0 c =
    let old : List ℕ = c.args.found.now.items in
    sym (ap (λ (xs : List ℕ). old ++ xs)
    (word_zero (positions_at c.args.entries.now) c.args.word c.args.first c.if-word-eq0.true)
    ∙ append-nil old)

pub loop-next-init : goal.loop-next-init
unfolding listed
loop-next-init c = (omega arith, sym (append-nil c.args.found.now.items))

pub loop-next-preserved : goal.loop-next-preserved
loop-next-preserved c =
    let low : c.in-Some.next < 64 = c.in-Some.ensures.1 in (
      omega (arith, low),
      put_next (positions_at c.args.entries.now) c.args.word c.args.first c.loop-next.bit
          c.in-Some.next c.args.found.now.items c.loop-next.found.items
          c.put_position.new.found.items
          (option_to_list c.position.result) c.in-Some.ensures c.loop-next.invariant.1
          c.in_ok-put_position.ensures c.position.ensures,
    )

pub returns : goal.returns
returns c =
    c.loop-next.invariant.1
    ∙ ap (λ (xs : List ℕ). c.args.found.now.items ++ xs)
    (sym (word_last (positions_at c.args.entries.now) c.args.word c.args.first c.loop-next.bit
    c.loop-next.invariant.0 c.in_default.ensures))
