use Rattle.std.proofs.Common.{◌≡◌, length, refl, arith}
use Rattle.body_wire.proofs.Stopping.{no_bytes, waits_for_content}
use Rattle.body_wire.proofs.decoder.Decoder.content.Goals as goal

pub returns-then-run-eq0 : goal.returns-then-run-eq0
returns-then-run-eq0 c =
    let all = c.run-run.ensures.all c.requires.content in
    let none : length c.args.kept.now ≡ 0 = omega arith in (
      refl,
      refl,
      waits_for_content c.args.self.now c.args.kept.now c.requires.content
          c.requires.some (no_bytes c.args.kept.now none),
    )
