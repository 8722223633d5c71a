use Rattle.std.proofs.Common.{◌≡◌, ◌-◌, ◌<◌, ◌^◌, ◌++◌, [], ◌∷◌}
use Rattle.name_tree.specs.Growth.{Grows}
use Rattle.name_tree.specs.Canon.{decimals_text}
use Rattle.name_tree.proofs.write.put_decimals.Given as goal

abbrev pub invariant-loop-unit : goal.invariant-loop-unit
invariant-loop-unit l = record {
  units : l.unit-items ≡ 100000 ∷ 10000 ∷ 1000 ∷ 100 ∷ 10 ∷ 1 ∷ [];
  same : l.out.items ++ decimals_text (6 - l.unit-index) l.rest
      ≡ l.fn.out.items ++ decimals_text 6 l.fn.millionths;
  grown : Grows l.fn.out.items l.out.items;
  below : l.rest < 10 ^ (6 - l.unit-index);
}
