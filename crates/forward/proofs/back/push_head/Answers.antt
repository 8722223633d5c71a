use Rattle.std.proofs.Common.{◌≡◌, List, ◌++◌, map, subst, ◌∙◌}
use Rattle.http_wire.specs.declared.head.Field.{Field}
use Rattle.http_wire.specs.Lines.{ended, field_line}
use Rattle.forward.specs.Dropped.{kept_but, never_back}
use Rattle.forward.proofs.Joined.{returned_joined}
use Rattle.forward.proofs.back.push_head.Goals as goal

pub returns : goal.returns
returns c =
    let kept : c.push_kept.new.head.items ≡ c.push_status_line.new.head.items
    ++ ended (map field_line (kept_but never_back c.args.head.now.fields)) =
    subst (λ (fs : List Field). c.push_kept.new.head.items
    ≡ c.push_status_line.new.head.items ++ ended (map field_line (kept_but never_back fs)))
    c.items.ensures c.in_ok-push_kept.ensures in
    returned_joined c.args.head.now c.args.framing c.args.chunked c.args.closing
    c.as_bytes.result.now c.bytes.result.now c.args.out.now.items
    c.push_status_line.new.head.items c.push_kept.new.head.items c.push_framing.new.head.items
    c.push_line.new.head.items c.push_closing.new.head.items
    c.end_line.new.head.items c.bytes.ensures (c.as_bytes.ensures.value ∙ c.via.ensures)
    c.in_ok-push_status_line.ensures kept c.in_ok-push_framing.ensures c.in_ok-push_line.ensures
    c.in_ok-push_closing.ensures c.in_ok-end_line.ensures
