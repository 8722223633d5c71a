use Rattle.std.proofs.Common.{ℕ, sym, ap, subst, ◌∙◌, bytes_eq, IsSorted}
use Rattle.std.specs.List.{list_any}
use Rattle.std.specs.declared.vec.Vec.{Vec}
use Rattle.std.specs.declared.alloc.Global.{Global}
use Rattle.forward.specs.Listed.{text_order}
use Rattle.forward.proofs.Found.{found}
use Rattle.forward.proofs.listed.Listed.has_lowered.Goals as goal

pub returns : goal.returns
returns c =
    let sorted = subst (IsSorted text_order) (sym c.as_slice.ensures.value)
    c.args.self.now.sorted in
    c.is_ok.ensures.value
    ∙ found c.as_slice.result.now c.args.name.now c.binary_search.result sorted
    c.binary_search.ensures.bound c.binary_search.ensures.position
    ∙ ap (list_any (λ (n : Vec ℕ Global). bytes_eq n.items c.args.name.now.items))
    c.as_slice.ensures.value
