use Rattle.std.proofs.Common.{ℕ, List, ◌++◌, refl, ap, subst, ◌∙◌, inr}
use Rattle.std.specs.Prelude.{Bool}
use Rattle.line_base.specs.Streams.{Output}
use Rattle.linker_commands.specs.Served.{short, closed_line, last_of, memory_line}
use Rattle.linker_commands.specs.Told.{Tells}
use Rattle.linker_commands.specs.declared.run.ExitStatus.TheVariants as status
use Rattle.linker_commands.proofs.serve.tell_served.Goals as goal

pub returns-then-served : goal.returns-then-served
returns-then-served g c =
    let old : Output = g.K.Sink.output c.args.out.now in
    let new : Output = g.K.Sink.output c.tell-then-served.new.out in
    let place = c.args.served.place in
    let last : Bool → List ℕ = last_of place in (
      closed_line place ++ memory_line,
      short,
      status.Memory,
      inr (c.if-served.true, refl),
      refl,
      subst (λ (line : List ℕ). Tells line status.Memory old new c.tell-then-served.result)
          (c.as_bytes.ensures.value ∙ (c.in-Ok.ensures ∙ ap last c.if-served.true))
          c.tell-then-served.ensures,
    )
