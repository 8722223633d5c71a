use Rattle.std.proofs.Common.{List, ℕ, ◌++◌, get_or, sym, subst, take, ◌∙◌}
use Rattle.std.proofs.lemmas.List.{get_or_default, take_all}
use Rattle.http_wire.specs.Places.{Follows}
use Rattle.http_wire.proofs.Following.{none_yet, next_byte, all_bytes}
use Rattle.http_wire.proofs.watch.Watch.follow.Goals as goal

pub loop-byte-init : goal.loop-byte-init
loop-byte-init c before stands open_ = none_yet before _ stands open_ c.is_at_end-self.ensures

pub returns-then-is_at_end : goal.returns-then-is_at_end
returns-then-is_at_end c before stands open_ =
    all_bytes before c.args.bytes.now c.loop-byte.byte-index c.loop-byte.self
    (sym c.is_at_end.ensures ∙ c.if-is_at_end.true) (c.loop-byte.invariant before stands open_)

pub loop-byte-preserved : goal.loop-byte-preserved
loop-byte-preserved c before stands open_ =
    let at = c.loop-byte.byte-index in
    let byte = get_or c.args.bytes.now at 0 in
    next_byte before c.args.bytes.now at byte c.step.new.self c.loop-byte-test.true
    (get_or_default c.args.bytes.now at 0 byte c.loop-byte-test.true)
    (c.step.ensures before (before ++ take at c.args.bytes.now)
    (c.loop-byte.invariant before stands open_))

pub returns : goal.returns
returns c before stands open_ =
    subst (λ (bytes : List ℕ). Follows before (before ++ bytes) c.loop-byte.self)
    (take_all c.loop-byte.byte-index c.args.bytes.now c.loop-byte-test.false)
    (c.loop-byte.invariant before stands open_)
