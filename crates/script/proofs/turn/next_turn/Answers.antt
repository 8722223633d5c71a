use Rattle.machine.specs.Code.{change_of, ask_of}
use Rattle.script.proofs.Turning.{changing_turn, picking_turn}
use Rattle.script.proofs.turn.next_turn.Goals as goal

pub returns-then-kind-lt4-clause-turn : goal.returns-then-kind-lt4-clause-turn
returns-then-kind-lt4-clause-turn c =
    changing_turn c.args.number c.next_word-word.result c.args.words.now c.next_word-word.new.self
    (change_of c.in_ok-change.change) c.next_word-word.ensures c.if-kind-lt4.true
    c.in_ok-change.ensures.change

pub returns-clause-turn : goal.returns-clause-turn
returns-clause-turn c =
    picking_turn c.args.number c.next_word-word.result c.args.words.now c.next_word-word.new.self
    c.draw_ask.new.words (ask_of c.in_ok-draw_ask.field-0) c.next_word-word.ensures
    c.if-kind-lt4.false c.in_ok-draw_ask.ensures
