use Rattle.std.proofs.Common.{◌≡◌, ◌*◌, ◌/◌, ◌++◌, List, ℕ, get_or, refl, sym, ap, ◌∙◌, arith}
use Rattle.std.proofs.Common.{append-nil}
use Rattle.dtab_index.specs.Bits.{has}
use Rattle.dtab_index.specs.Listed.{listed}
use Rattle.dtab_index.specs.Part.{positions_at}
use Rattle.dtab_index.proofs.Filing.{none_before}
use Rattle.dtab_index.proofs.Listed.{words_put}
use Rattle.dtab_index.proofs.part.put_words.Goals as goal

pub loop-at-init : goal.loop-at-init
loop-at-init c =
    let old = c.args.found.now.items in
    let none = none_before c.args.entries.now (has c.args.words.now) (c.args.first / 64 * 64)
    (omega (arith, c.requires.lowest)) in (
      omega (arith, c.requires.lowest),
      sym (ap (λ (xs : List ℕ). old ++ xs) none ∙ append-nil old),
    )

pub loop-at-preserved : goal.loop-at-preserved
loop-at-preserved c = (
  omega (arith, c.loop-at-test.true),
  words_put (positions_at c.args.entries.now) c.args.words.now c.loop-at.at
      (get_or c.args.words.now c.loop-at.at 0) refl c.args.found.now.items c.loop-at.found.items
      c.put_word.new.found.items
      c.loop-at.invariant.1 c.in_ok-put_word.ensures,
)

pub returns : goal.returns
returns c =
    let whole : c.loop-at.at * 64 ≡ 1024 =
    omega (arith, c.loop-at-test.false, c.loop-at.invariant.0) in
    c.loop-at.invariant.1
    ∙ ap (λ n. c.args.found.now.items ++ listed (has c.args.words.now)
    (positions_at c.args.entries.now) n 0) whole
