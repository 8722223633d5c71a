use Rattle.std.proofs.Common.{◌≡◌, ℕ, List, ◌++◌, OnOk, map, subst, sym, ap, ◌∙◌}
use Rattle.std.specs.declared.vec.Vec.{Vec}
use Rattle.std.specs.declared.alloc.Global.{Global}
use Rattle.std.proofs.lemmas.List.{append-nil}
use Rattle.http_wire.specs.Framing.{pieces_of_value}
use Rattle.forward.specs.Listed.{lowered}
use Rattle.forward.proofs.Named.{lists, lists_none}
use Rattle.forward.proofs.names.push_listed.Goals as goal

pub returns-then-not-is : goal.returns-then-not-is
returns-then-not-is c =
    let before = map (λ (n : Vec ℕ Global). n.items) c.args.names.now.items in
    sym (append-nil before)
    ∙ ap (λ (t : List (List ℕ)). before ++ lowered t)
    (sym (lists_none c.args.field.now (sym c.is.ensures ∙ c.if-not-is.true)))

pub returns : goal.returns
returns c =
    subst (λ (t : List (List ℕ)). OnOk c.push_pieces.result
    (map (λ (n : Vec ℕ Global). n.items) c.push_pieces.new.names.items
    ≡ map (λ (n : Vec ℕ Global). n.items) c.args.names.now.items ++ lowered t))
    (ap pieces_of_value c.bytes.ensures
    ∙ sym (lists c.args.field.now (sym c.is.ensures ∙ c.if-not-is.false))) c.push_pieces.ensures
