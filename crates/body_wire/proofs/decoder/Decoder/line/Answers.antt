use Rattle.std.proofs.Common.{[], sym, ◌∙◌, append-nil}
use Rattle.body_wire.proofs.Lines.{moves_line}
use Rattle.body_wire.proofs.decoder.Decoder.line.Goals as goal

pub returns-in-Found-default-eq0 : goal.returns-in-Found-default-eq0
returns-in-Found-default-eq0 c =
    let at = c.in-Found-default-eq0.ensures in
    moves_line c.args.self.now c.begin_trailers.new.self c.args.kept.now c.args.out.now.items
    c.args.out.now.items [] c.in-Found-default-eq0.len
    c.in-Found-default-eq0.field-1 at (sym (append-nil c.args.out.now.items))
    (c.begin_trailers.ensures at.line at.good (sym at.sized ∙ c.in-Found-default-eq0.field-1-test))

pub returns-in_ok-put_line-in-Found : goal.returns-in_ok-put_line-in-Found
returns-in_ok-put_line-in-Found c =
    let at = c.in-Found.ensures in
    moves_line c.args.self.now c.begin_chunk.new.self c.args.kept.now c.args.out.now.items
    c.put_line.new.out.items _ c.in-Found.len c.in-Found.size at
    c.in_ok-put_line-in-Found.ensures.ok (c.begin_chunk.ensures at.line at.good at.sized)
