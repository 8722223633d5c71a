-- Lines in memory.
use Rattle.std.specs.Prelude.{ℕ, List, map}
use Rattle.std.specs.declared.alloc.Global.{Global}
use Rattle.std.specs.declared.vec.Vec.{Vec}

abbrev pub texts : List (Vec ℕ Global) → List (List ℕ)
texts lines = map (λ (l : Vec ℕ Global). l.items) lines
