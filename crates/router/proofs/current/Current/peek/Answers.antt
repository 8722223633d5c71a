use Rattle.std.proofs.Common.{Bor, ap, sym, ◌∙◌}
use Rattle.std.specs.Prelude.{option_map}
use Rattle.bind_core.specs.declared.outcome.Outcome.{Outcome}
use Rattle.bind_core.specs.Outcome.{ending_of}
use Rattle.machine.specs.Code.{ask_of}
use Rattle.router.specs.Values.{settings_in, value_in}
use Rattle.router.proofs.Finding.{kept_ending}
use Rattle.router.proofs.current.Current.peek.Goals as goal

pub peek_kept-requires-clause-ending : goal.peek_kept-requires-clause-ending
peek_kept-requires-clause-ending c =
    kept_ending (settings_in c.args.self.now) (value_in c.args.self.now) (ask_of c.args.ask.now)
    (ending_of c.in-Some.outcome.now) c.requires.right
    (sym c.find.ensures ∙ ap (option_map (λ (o : Bor Outcome). ending_of o.now)) c.in-Some.is)
