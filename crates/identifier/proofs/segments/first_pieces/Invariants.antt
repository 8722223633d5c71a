use Rattle.std.proofs.Common.{◌≡◌, ◌≢◌, ◌++◌, length}
use Rattle.std.specs.List.{slice_index}
use Rattle.http_uri.specs.ByteClasses.{slash}
use Rattle.identifier.specs.Naming.{pieces_of}
use Rattle.identifier.proofs.segments.first_pieces.Given as goal

abbrev pub invariant-loop-turn : goal.invariant-loop-turn
invariant-loop-turn l = record {
  pieces : pieces_of l.path ≡ l.labels ++ pieces_of l.rest;
  many : length l.labels ≡ l._turn;
  first : slice_index l.rest 0 ≢ slash;
}
