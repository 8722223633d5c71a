use Rattle.std.proofs.Common.{rules, ℕ, eqb, List, [], ◌∷◌, ◌++◌, map, ap, sym, ◌∙◌, Bor}
use Rattle.std.specs.declared.vec.Vec.{Vec}
use Rattle.std.specs.declared.alloc.Global.{Global}
use Rattle.std.proofs.lemmas.List.{map-append}
use Rattle.std.proofs.lemmas.Iterator.Consumers.{YieldsList-end}
use Rattle.std.proofs.lemmas.Iterator.Splits.{YieldsList-from_slice_split}
use Rattle.httparse.specs.Ascii.{comma}
use Rattle.httparse.specs.Grammar.{trim_ows}
use Rattle.forward.specs.Listed.{lowered}
use Rattle.forward.proofs.Named.{gives_alike, trimmed_each, pieces_more}
use Rattle.forward.proofs.names.push_pieces.Goals as goal

pub loop-piece-preserved : goal.loop-piece-preserved
loop-piece-preserved c =
    let before = map (λ (n : Vec ℕ Global). n.items) c.args.names.now.items in
    let trim : Bor (List ℕ) → List ℕ = λ (n : Bor (List ℕ)). trim_ows n.now in
    let so_far = map trim c.loop-piece.yielded in
    pieces_more before _ _ so_far c.trimmed.result.now c.loop-piece.invariant
    c.in_ok-push_name.ensures
    ∙ (ap (λ (t : List ℕ). before ++ lowered (so_far ++ t ∷ [])) c.trimmed.ensures
    ∙ ap (λ (ps : List (List ℕ)). before ++ lowered ps)
    (sym (map-append trim c.loop-piece.yielded (c.in-Some.piece ∷ []))))

pub returns : goal.returns
returns c =
    let end = YieldsList-end
    (gives_alike _ _ c.into_iter-piece-iterator.ensures.into_iter_gives
    (YieldsList-from_slice_split _ (λ (b : ℕ). eqb b comma) c.args.value.now
    c.split-piece-items.ensures.rest c.split-piece-items.ensures.done
    c.split-piece-items.ensures.closure (λ x b q k. search rules)))
    c.loop-piece.yielded _ c.loop-piece.yielded_by _ _ c.in-None.is c.next.ensures.steps in
    c.loop-piece.invariant
    ∙ ap (λ (ps : List (List ℕ)). map (λ (n : Vec ℕ Global). n.items) c.args.names.now.items
    ++ lowered ps) (trimmed_each c.loop-piece.yielded _ end.0)
