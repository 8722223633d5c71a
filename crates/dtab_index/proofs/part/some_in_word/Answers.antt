use Rattle.std.proofs.Common.{◌≡◌, ◌+◌, ◌<◌, false, true, refl, sym, ap, ◌∙◌, arith}
use Rattle.std.specs.List.{list_any}
use Rattle.dtab_index.specs.Listed.{listed}
use Rattle.dtab_index.specs.Part.{positions_at, is_between}
use Rattle.dtab_index.proofs.Listed.{some_next, some_here, word_last, word_zero}
use Rattle.dtab_index.proofs.part.some_in_word.Goals as goal

pub returns-then-word-eq0 : goal.returns-then-word-eq0
returns-then-word-eq0 c =
    sym (ap (list_any (is_between c.args.from c.args.to))
    (word_zero (positions_at c.args.entries.now) c.args.word c.args.first c.if-word-eq0.true))

pub loop-next-init : goal.loop-next-init
unfolding listed
loop-next-init c = (omega arith, refl)

pub returns-then-is_between : goal.returns-then-is_between
returns-then-is_between c =
    let found : list_any (is_between c.args.from c.args.to)
    (positions_at c.args.entries.now (c.args.first + c.in-Some.next)) ≡ true =
    ap (list_any (is_between c.args.from c.args.to)) (sym c.position.ensures)
    ∙ (sym c.is_between.ensures ∙ c.if-is_between.true) in
    some_here (positions_at c.args.entries.now) c.args.word c.args.first
    (is_between c.args.from c.args.to) c.loop-next.bit c.in-Some.next c.in-Some.ensures found

pub loop-next-preserved : goal.loop-next-preserved
loop-next-preserved c =
    let low : c.in-Some.next < 64 = c.in-Some.ensures.1 in
    let none : list_any (is_between c.args.from c.args.to)
    (positions_at c.args.entries.now (c.args.first + c.in-Some.next)) ≡ false =
    ap (list_any (is_between c.args.from c.args.to)) (sym c.position.ensures)
    ∙ (sym c.is_between.ensures ∙ c.if-is_between.false) in (
      omega (arith, low),
      some_next (positions_at c.args.entries.now) c.args.word c.args.first
          (is_between c.args.from c.args.to) c.loop-next.bit c.in-Some.next c.in-Some.ensures
          c.loop-next.invariant.1 none,
    )

pub returns : goal.returns
returns c =
    sym
    (ap (list_any (is_between c.args.from c.args.to))
    (word_last (positions_at c.args.entries.now) c.args.word c.args.first c.loop-next.bit
    c.loop-next.invariant.0 c.in_default.ensures)
    ∙ c.loop-next.invariant.1)
