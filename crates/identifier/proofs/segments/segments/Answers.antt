use Rattle.std.proofs.Common.{◌≡◌, ◌∙◌, ap, subst, ℕ, List}
use Rattle.http_wire.specs.Target.{Form, IsRefused, form_of}
use Rattle.identifier.specs.Naming.{first_of, path_in, pieces_of, Answers}
use Rattle.identifier.proofs.Forms.{not_refused, one_form}
use Rattle.identifier.proofs.segments.segments.Goals as goal

pub unreachable-requires : goal.unreachable-requires
unreachable-requires c =
    c.requires.other (subst (IsRefused c.args.head.now.method c.args.head.now.target)
    c.in-Err-Connect.field-0-is c.in-Err-Connect.ensures.refused)

pub unreachable-requires-in-Err-NoTarget : goal.unreachable-requires-in-Err-NoTarget
unreachable-requires-in-Err-NoTarget c =
    let refused = subst (IsRefused c.args.head.now.method c.args.head.now.target)
    c.in-Err-NoTarget.field-0-is c.in-Err-NoTarget.ensures.refused in
    not_refused c.args.head.now.method c.args.head.now.target c.requires.form c.requires.served
    refused.1

pub returns-in-Ok : goal.returns-in-Ok
returns-in-Ok c form served =
    let same : form_of c.in-Ok.target ≡ form =
    one_form c.args.head.now.method c.args.head.now.target _ form c.in-Ok.ensures.ok.1 served in
    subst (λ (line : List ℕ). Answers (first_of c.args.count (pieces_of (path_in line)))
    c.first_pieces.result)
    (c.as_slice.ensures.value ∙ ap (λ (f : Form). f.line) same)
    (subst (λ (path : List ℕ). Answers (first_of c.args.count (pieces_of path))
    c.first_pieces.result) c.path_of.ensures c.first_pieces.ensures)
