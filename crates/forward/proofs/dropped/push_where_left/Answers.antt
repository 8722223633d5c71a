use Rattle.std.proofs.Common.{◌≡◌, ℕ, List, [], ◌∷◌, ◌++◌, OnOk, subst, sym, ap, ◌∙◌}
use Rattle.std.proofs.lemmas.List.{append-nil}
use Rattle.http_wire.specs.Lines.{ended, line_of}
use Rattle.forward.proofs.Joined.{left_line, no_line}
use Rattle.forward.proofs.dropped.push_where_left.Goals as goal

pub returns-then-not-on : goal.returns-then-not-on
returns-then-not-on c =
    sym (append-nil c.args.head.now.items)
    ∙ ap (λ (t : List ℕ). c.args.head.now.items ++ t)
    (sym (no_line _ c.args.listed.now c.args.field.now (sym c.in_ok-on.ensures ∙ c.if-not-on.true)))

pub returns : goal.returns
returns c =
    subst (λ (t : List ℕ). OnOk c.push_field.result
    (c.push_field.new.head.items ≡ c.args.head.now.items ++ t))
    ((λ k. ended (line_of (c.bytes.ensures k) (c.bytes-2.ensures k) ∷ []))
    ∙ sym (left_line _ c.args.listed.now c.args.field.now
    (sym c.in_ok-on.ensures ∙ c.if-not-on.false))) c.push_field.ensures
