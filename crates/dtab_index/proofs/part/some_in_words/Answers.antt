use Rattle.std.proofs.Common.{◌≡◌, ◌*◌, ◌/◌, ◌<◌, get_or, refl, sym, ap, ◌∙◌, arith}
use Rattle.std.specs.List.{list_any}
use Rattle.dtab_index.specs.Bits.{has}
use Rattle.dtab_index.specs.Listed.{listed}
use Rattle.dtab_index.specs.Part.{positions_at, is_between}
use Rattle.dtab_index.proofs.Filing.{none_before}
use Rattle.dtab_index.proofs.Listed.{words_none, words_some}
use Rattle.dtab_index.proofs.part.some_in_words.Goals as goal

pub loop-at-init : goal.loop-at-init
loop-at-init c =
    let none = none_before c.args.entries.now (has c.args.words.now) (c.args.first / 64 * 64)
    (omega (arith, c.requires.lowest)) in
    (omega (arith, c.requires.lowest), ap (list_any (is_between c.args.from c.args.to)) none)

pub returns-then-some_in_word : goal.returns-then-some_in_word
returns-then-some_in_word c =
    let low : c.loop-at.at < 16 = omega (arith, c.loop-at-test.true) in
    words_some (positions_at c.args.entries.now) c.args.words.now c.loop-at.at
    (get_or c.args.words.now c.loop-at.at 0) refl (is_between c.args.from c.args.to) low
    (sym c.some_in_word.ensures ∙ c.if-some_in_word.true)

pub loop-at-preserved : goal.loop-at-preserved
loop-at-preserved c = (
  omega (arith, c.loop-at-test.true),
  words_none (positions_at c.args.entries.now) c.args.words.now c.loop-at.at
      (get_or c.args.words.now c.loop-at.at 0) refl (is_between c.args.from c.args.to)
      c.loop-at.invariant.1
      (sym c.some_in_word.ensures ∙ c.if-some_in_word.false),
)

pub returns : goal.returns
returns c =
    let whole : c.loop-at.at * 64 ≡ 1024 =
    omega (arith, c.loop-at-test.false, c.loop-at.invariant.0) in
    sym (ap (λ n. list_any (is_between c.args.from c.args.to)
    (listed (has c.args.words.now) (positions_at c.args.entries.now) n 0)) (sym whole)
    ∙ c.loop-at.invariant.1)
