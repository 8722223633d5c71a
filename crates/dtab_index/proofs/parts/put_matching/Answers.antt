use Rattle.std.proofs.Common.{◌≡◌, ◌+◌, ◌-◌, ◌<◌, ◌++◌, List, ℕ, length, drop, sym, ap, ◌∙◌, arith}
use Rattle.std.proofs.Common.{append_assoc}
use Rattle.dtab_index.specs.Index.{matching}
use Rattle.dtab_index.specs.Part.{placed_in}
use Rattle.dtab_index.specs.Parts.{placed_by}
use Rattle.dtab_index.specs.declared.part.Part.{Part}
use Rattle.dtab_index.proofs.PartLists.{found_more}
use Rattle.dtab_index.proofs.parts.put_matching.Goals as goal

pub loop-behind-preserved : goal.loop-behind-preserved
loop-behind-preserved c =
    let at : ℕ = c.loop-behind.behind - 1 in
    let parts : List Part = c.args.parts.now in
    let part : Part = c.index-parts-behind.result in
    let within : c.loop-behind.behind - 1 < length parts =
    omega (arith, c.loop-behind.invariant.0, c.loop-behind-test.true) in
    let next : (c.loop-behind.behind - 1) + 1 ≡ c.loop-behind.behind =
    omega (arith, c.loop-behind-test.true) in
    let before : List ℕ = matching (placed_by (drop c.loop-behind.behind parts)) c.args.path.now in
    let more : matching (placed_by (drop at parts)) c.args.path.now
    ≡ before ++ matching (placed_in part.entries.items) c.args.path.now =
    found_more parts at part c.args.path.now within c.index-parts-behind.is
    ∙ ap (λ n. matching (placed_by (drop n parts)) c.args.path.now
    ++ matching (placed_in part.entries.items) c.args.path.now) next in (
      omega (arith, within),
      c.in_ok-put_matching.ensures
          ∙ (ap (λ (xs : List ℕ). xs ++ matching (placed_in part.entries.items) c.args.path.now)
          c.loop-behind.invariant.1
          ∙ (append_assoc c.args.found.now.items before
          (matching (placed_in part.entries.items) c.args.path.now)
          ∙ ap (λ (xs : List ℕ). c.args.found.now.items ++ xs) (sym more))),
    )
