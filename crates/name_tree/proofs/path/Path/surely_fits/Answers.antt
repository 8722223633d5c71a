use Rattle.std.proofs.Common.{◌≡◌, ℕ, ◌+◌, ◌*◌, ◌-◌, ◌<◌, ◌≤◌, length, drop, sym, subst, arith}
use Rattle.std.proofs.Common.{length-drop}
use Rattle.std.proofs.lemmas.Bool.{ltb-true}
use Rattle.std.specs.List.{concat}
use Rattle.name_tree.specs.Path.{Labels, canon_path}
use Rattle.name_tree.proofs.LongestTexts.{path_most}
use Rattle.name_tree.proofs.path.Path.surely_fits.Goals as goal

pub returns-then-escaped-most : goal.returns-then-escaped-most
returns-then-escaped-most c = λ fits.
    let less : c.self.inside.len < c.args.most - c.in-Some.escaped = ltb-true _ _ fits in
    let ls : Labels = drop (c.len.result - c.self.inside.len) c.self.inside.labels in
    let shown : ls ≡ c.args.self.now = cc in
    let count : length ls ≡ length c.self.inside.labels - (c.len.result - c.self.inside.len) =
    length-drop (c.len.result - c.self.inside.len) c.self.inside.labels in
    let escaped : c.in-Some.escaped ≡ c.bytes_from.result * 4 = c.in-Some.ensures.1 in
    let longest : length (canon_path ls) ≤ c.args.most =
    omega (
      arith,
      path_most ls,
      count,
      escaped,
      c.bytes_from.ensures,
      c.len.ensures,
      c.self.invariant,
      less,
      c.if-escaped-most.true,
    ) in
    subst (λ (ls : Labels). length (canon_path ls) ≤ c.args.most) shown longest
