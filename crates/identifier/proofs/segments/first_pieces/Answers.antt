use Rattle.std.proofs.Common.{◌≡◌, ◌<◌, ◌++◌, [], ◌∷◌, ◌∙◌, ℕ, List, ap, sym, length, arith, drop}
use Rattle.std.proofs.Common.{length-drop}
use Rattle.std.proofs.lemmas.Bool.Decides.{nat_tests}
use Rattle.std.proofs.lemmas.List.{length-append, take_all}
use Rattle.name_tree.specs.Path.{Labels}
use Rattle.identifier.specs.Naming.{pieces_of}
use Rattle.identifier.proofs.Pieces.{no_piece, one_more, so_many, too_few}
use Rattle.identifier.proofs.segments.first_pieces.Goals as goal

pub returns-then-is_empty : goal.returns-then-is_empty
returns-then-is_empty c =
    let inv = c.loop-turn.invariant in
    let none : length c.before-piece.result.now ≡ 0 =
    grind (arith, nat_tests, c.if-is_empty.true, c.is_empty.ensures) in
    too_few c.args.count c.loop-turn.labels (pieces_of c.args.path.now)
    (inv.pieces ∙ ap (λ (ps : Labels). c.loop-turn.labels ++ ps)
    (no_piece c.loop-turn.rest.now inv.first (ap length (sym c.before-piece.ensures) ∙ none)))
    (omega (arith, inv.many, c.loop-turn-test.true))

pub loop-turn-preserved : goal.loop-turn-preserved
loop-turn-preserved c =
    let inv = c.loop-turn.invariant in
    let piece = c.before-piece.result.now in
    let rest = c.loop-turn.rest.now in
    let some : 0 < length piece = grind
    (arith, nat_tests, c.if-is_empty.false, c.is_empty.ensures) in
    let pushed : c.push.new.self ≡ c.loop-turn.labels ++ piece ∷ [] =
    c.in_ok-push.ensures.ok ∙ ap (λ (bs : List ℕ). c.loop-turn.labels ++ bs ∷ [])
    c.in_ok-from_slice.ensures.items in
    record {
      pieces =
          one_more c.args.path.now rest piece c.behind_slashes-rest-in-loop-turn.result.now
          c.loop-turn.labels c.push.new.self inv.pieces c.before-piece.ensures some pushed
          (c.behind_slashes-rest-in-loop-turn.ensures.pieces
          ∙ ap pieces_of (take_all _ (drop (length piece) rest)
          (omega (arith, length-drop (length piece) rest))));
      many = let longer = length-append c.loop-turn.labels (piece ∷ []) in
          let len = ap length pushed in omega (arith, longer, len, inv.many);
      first = c.behind_slashes-rest-in-loop-turn.ensures.first;
    }

pub returns : goal.returns
returns c =
    let inv = c.loop-turn.invariant in
    so_many c.args.count c.loop-turn.labels (pieces_of c.loop-turn.rest.now)
    (pieces_of c.args.path.now) inv.pieces
    (omega (arith, inv.many, c.loop-turn-test.false, c.loop-turn.auto._turn-end))
