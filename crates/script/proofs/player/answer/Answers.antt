use Rattle.std.specs.Prelude.{option_map}
use Rattle.machine.specs.Code.{settings_of, state_of}
use Rattle.script.specs.Said.{said_of}
use Rattle.script.proofs.Plays.{answered}
use Rattle.script.proofs.player.answer.Goals as goal

pub returns-in_ok-append_answer-in-Ok-clause-ok : goal.returns-in_ok-append_answer-in-Ok-clause-ok
returns-in_ok-append_answer-in-Ok-clause-ok g c =
    answered c.args.line.now c.in-Ok.line (settings_of c.args.settings.now)
    (state_of c.args.state.now) (state_of c.carry_out.new.state) c.args.number
    c.args.replies.now.items c.append_answer.new.out.items
    (option_map said_of c.in_ok-said-in-Ok.said) c.in-Ok.ensures.line c.requires
    c.in_ok-said-in-Ok.ensures.said c.in_ok-said-in-Ok.ensures.ok
    c.in_ok-append_answer-in-Ok.ensures.ok
