use Rattle.std.proofs.Common.{ℕ, List, sym, ap, ◌∙◌, bytes_eq}
use Rattle.std.specs.List.{list_any}
use Rattle.std.specs.declared.vec.Vec.{Vec}
use Rattle.std.specs.declared.alloc.Global.{Global}
use Rattle.forward.proofs.Found.{nothing_among}
use Rattle.forward.proofs.listed.Listed.has.Goals as goal

pub returns-then-is_empty : goal.returns-then-is_empty
returns-then-is_empty c =
    nothing_among c.as_slice.result.now c.args.self.now.names.items c.args.name.now
    c.as_slice.ensures.value (sym c.is_empty.ensures ∙ c.if-is_empty.true)

pub returns : goal.returns
returns c =
    c.has_lowered.ensures
    ∙ ap (λ (key : List ℕ). list_any (λ (n : Vec ℕ Global). bytes_eq n.items key)
    c.args.self.now.names.items) c.in_ok-put_lowered.ensures
