use Rattle.std.proofs.Common.{◌<◌, ℕ, List, length, subst, ap, ◌∙◌, arith}
use Rattle.std.proofs.lemmas.List.{drop_all}
use Rattle.body_wire.specs.Turns.{SendsAll}
use Rattle.body_wire.proofs.Turning.{whole_run}
use Rattle.body_wire.proofs.writing.write_run.Goals as goal

pub returns-clause-bytes : goal.returns-clause-bytes
returns-clause-bytes g c =
    let b = c.write_all-sent.ensures.bytes in
    let some : 0 < c.lone_run-run.result = let none = c.if-run-eq0.false in omega arith in
    let whole = c.lone_run-run.ensures.whole some ∙ ap length c.kept.ensures in (
      b.0,
      b.1,
      whole_run c.args.decoder.now _ c.args.rest.now c.skip.new.self c.args.out.now.items b.0
          c.lone_run-run.result c.write_all-sent.result
          c.pass.ensures whole (c.skip.ensures
          ∙ drop_all c.lone_run-run.result c.args.rest.now (omega (arith, whole)))
          (c.lone_run-run.ensures.alone some)
          (subst (λ (xs : List ℕ). SendsAll xs b.0 c.write_all-sent.result) c.kept-2.ensures b.2),
    )
