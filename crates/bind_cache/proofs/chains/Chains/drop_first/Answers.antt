use Rattle.std.proofs.Common.{◌≡◌, ◌+◌, ◌<◌, List, length, drop, ap, subst, sym, ◌∙◌, arith}
use Rattle.std.proofs.Common.{length-drop}
use Rattle.std.proofs.lemmas.List.{length-map}
use Rattle.circular_buffer.specs.Buffer.{Buffer}
use Rattle.bind_cache.specs.declared.chains.Link.{Link}
use Rattle.bind_cache.specs.Chain.{Chained}
use Rattle.bind_cache.specs.Links.{AreLinked}
use Rattle.bind_cache.proofs.Chaining.{AreLinked-drop}
use Rattle.bind_cache.proofs.chains.Chains.drop_first.Goals as goal

pub invariant_of-self : goal.invariant_of-self
invariant_of-self c =
    let items : c.pop_front.new.self.items ≡ drop 1 c.self.inside.links.items =
    ap (λ (b : Buffer Link). b.items) c.pop_front.ensures.items in
    let size : length c.args.self.now.hashes ≡ length c.self.inside.links.items =
    sym (ap (λ (v : Chained). length v.hashes) c.self.view_is)
    ∙ length-map c.self.inside.links.items (λ (l : Link). l.hash) in
    let some : 0 < length c.self.inside.links.items = omega (arith, c.requires, size) in
    let less = length-drop 1 c.self.inside.links.items in
    let many = ap length items in
    record {
      room = ap (λ (b : Buffer Link). b.capacity) c.pop_front.ensures.items ∙ c.self.invariant.room;
      few = omega (arith, many, less, c.self.invariant.few);
      buckets_are = c.self.invariant.buckets_are;
      some = omega (arith, c.self.invariant.some);
      numbers = omega (arith, many, less, some, c.self.invariant.numbers);
      linked = subst (λ (ls : List Link).
          AreLinked (c.self.inside.first + 1) c.self.inside.newest.items ls) (sym items)
          (AreLinked-drop c.self.inside.first c.self.inside.newest.items c.self.inside.links.items
          some c.self.invariant.linked);
    }
