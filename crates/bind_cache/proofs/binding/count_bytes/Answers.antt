use Rattle.std.proofs.Common.{ℕ, length, ap, arith, length-append}
use Rattle.std.proofs.lemmas.List.Sums.{sum_by_more}
use Rattle.name_tree.specs.Path.{Labels, canon_path}
use Rattle.bind_cache.proofs.binding.count_bytes.Goals as goal

pub loop-looked_up-preserved : goal.loop-looked_up-preserved
loop-looked_up-preserved c =
    let path = c.looked_up-item.result in
    let size : Labels → ℕ = λ p. length (canon_path p) in
    omega (
      arith,
      c.loop-looked_up.invariant,
      ap length c.in_ok-append_path-2.ensures.ok,
      length-append c.loop-looked_up.text.items (canon_path path),
      sum_by_more size c.args.asked.now c.loop-looked_up.looked_up-index path
          c.loop-looked_up-test.true,
      ap size c.looked_up-item.is,
    )
