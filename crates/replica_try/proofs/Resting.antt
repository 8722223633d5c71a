-- Where nothing moves.
use Rattle.std.proofs.Common.{refl}
use Rattle.std.proofs.KnownBytes.{Keeps-refl}
use Rattle.line_base.proofs.Links.{links_same}
use Rattle.line_base.specs.Dials.{IsIdle, Upstream}
use Rattle.line_base.specs.Lines.{Line, Rests}
use Rattle.replica_try.proofs.Growing.{grows_nothing}

pub rests_same : (a : Line) → Rests a a
rests_same a = record {
  left = Keeps-refl a.left;
  given = Keeps-refl a.given;
  read_faults = refl;
  write_faults = refl;
  ends = refl;
  closings = refl;
  quiets = refl;
}

pub idle_same : (a : Upstream) → IsIdle a a
idle_same a = record { log = grows_nothing a.log; links = links_same a; faults = refl }
