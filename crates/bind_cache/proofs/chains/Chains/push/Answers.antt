use Rattle.std.proofs.Common.{◌≡◌, ◌+◌, ◌≤◌, ◌%◌, List, [], ◌∷◌, ◌++◌, length, set, ap, subst, sym}
use Rattle.std.proofs.Common.{◌∙◌, arith, length-append, length-set}
use Rattle.std.proofs.lemmas.List.{length-map}
use Rattle.circular_buffer.specs.Buffer.{Buffer}
use Rattle.bind_cache.specs.declared.chains.Link.{Link}
use Rattle.bind_cache.specs.Chain.{Chained, bucket_of}
use Rattle.bind_cache.specs.Links.{AreLinked}
use Rattle.bind_cache.proofs.Chaining.{AreLinked-push, same_default}
use Rattle.bind_cache.proofs.Turning.{keep_last_all}
use Rattle.bind_cache.proofs.chains.Chains.push.Goals as goal

pub invariant_of-self : goal.invariant_of-self
invariant_of-self c =
    let l : Link = record { hash = c.args.hash; before = c.index-before.result.now } in
    let old = c.self.inside.links.items in
    let size : length c.args.self.now.hashes ≡ length old =
    sym (ap (λ (v : Chained). length v.hashes) c.self.view_is)
    ∙ length-map old (λ (x : Link). x.hash) in
    let first : c.self.inside.first ≡ c.args.self.now.first =
    ap (λ (v : Chained). v.first) c.self.view_is in
    let longer = length-append old (l ∷ []) in
    let room : length (old ++ l ∷ []) ≤ c.self.inside.links.capacity =
    omega (arith, longer, c.requires.room, size, c.self.invariant.room) in
    let items : c.push_back.new.self.items ≡ old ++ l ∷ [] =
    ap (λ (b : Buffer Link). b.items) c.push_back.ensures.items
    ∙ keep_last_all c.self.inside.links.capacity (old ++ l ∷ []) room in
    let many = ap length items in
    let linked : AreLinked c.self.inside.first
    (set c.self.inside.newest.items (bucket_of c.args.hash) (c.self.inside.first + length old))
    (old ++ l ∷ []) =
    AreLinked-push c.self.inside.first c.self.inside.newest.items old l c.self.invariant.linked
    c.self.invariant.buckets_are (c.index-before.ensures
    ∙ same_default c.self.inside.newest.items (bucket_of c.args.hash) c.index-before.result.now 0
    (omega (arith, c.self.invariant.buckets_are))) in
    record {
      room = ap (λ (b : Buffer Link). b.capacity) c.push_back.ensures.items ∙ c.self.invariant.room;
      few = omega (arith, many, longer, c.requires.room, size);
      buckets_are = length-set c.self.inside.newest.items (c.args.hash % 2048)
          (c.self.inside.first + c.len.result) ∙ c.self.invariant.buckets_are;
      some = c.self.invariant.some;
      numbers = omega (arith, many, longer, c.requires.number, size, first);
      linked = subst (λ n. AreLinked c.self.inside.first
          (set c.self.inside.newest.items (c.args.hash % 2048) (c.self.inside.first + n))
          c.push_back.new.self.items) (sym c.len.ensures.len)
          (subst (λ (ls : List Link). AreLinked c.self.inside.first
          (set c.self.inside.newest.items (bucket_of c.args.hash)
          (c.self.inside.first + length old)) ls) (sym items) linked);
    }
