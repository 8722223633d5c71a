use Rattle.std.proofs.Common.{◌≡◌, ◌≤◌, ℕ, List, [], ◌∷◌, ◌++◌, length, map, Global, ap, sym, subst}
use Rattle.std.proofs.Common.{◌∙◌, arith}
use Rattle.std.specs.Arc.{arc_value}
use Rattle.std.specs.declared.sync.Arc.{Arc}
use Rattle.std.proofs.lemmas.List.{length-map}
use Rattle.circular_buffer.specs.Buffer.{Buffer, keep_last}
use Rattle.bind_cache.specs.declared.binding.Binding.{Binding}
use Rattle.bind_cache.specs.Chain.{Chained}
use Rattle.bind_cache.specs.Kept.{Kept}
use Rattle.bind_cache.specs.Stored.{kept_of, all_kept, hash_in}
use Rattle.bind_cache.specs.Cache.{IsCache, kept_in, with_room, most_kept}
use Rattle.bind_cache.proofs.Caches.{IsCache-kept_in}
use Rattle.bind_cache.proofs.Turning.{map-keep_last}
use Rattle.bind_cache.proofs.cache.Cache.keep.Goals as goal

pub invariant_of-self : goal.invariant_of-self
invariant_of-self c =
    let old = c.args.self.now.bindings.items in
    let few : length old ≤ most_kept = omega (
      arith,
      length-map old (λ (b : Arc Binding Global). kept_of (arc_value b)),
      c.args.self.now.cache.few,
    ) in
    let items : c.push_back-oldest.new.self.items ≡ keep_last most_kept (old ++ c.args.entry ∷ []) =
    ap (λ (b : Buffer (Arc Binding Global)). b.items) c.push_back-oldest.ensures.items
    ∙ ap (λ n. keep_last n (old ++ c.args.entry ∷ [])) c.args.self.now.room in
    let hash : c.hash.result ≡ hash_in c.args.entry =
    c.hash.ensures.hash ∙ ap (λ (b : Binding). b.hash) c.deref.ensures in
    let kept : all_kept c.push_back-oldest.new.self.items
    ≡ kept_in (all_kept old) (kept_of (arc_value c.args.entry)) =
    ap all_kept items ∙ map-keep_last (λ (b : Arc Binding Global). kept_of (arc_value b)) old
    c.args.entry few in
    record {
      room = ap (λ (b : Buffer (Arc Binding Global)). b.capacity) c.push_back-oldest.ensures.items
          ∙ c.args.self.now.room;
      linked = ap (λ (v : Chained). v.hashes) c.push.ensures
          ∙ (ap (λ (hs : List ℕ). hs ++ c.hash.result ∷ []) c.make_room.ensures.hashes
          ∙ (ap (λ n. with_room (map hash_in old) ++ n ∷ []) hash
          ∙ (sym (map-keep_last hash_in old c.args.entry few) ∙ ap (map hash_in) (sym items))));
      cache = subst (λ (ks : List Kept). IsCache ks) (sym kept)
          (IsCache-kept_in (all_kept old) (kept_of (arc_value c.args.entry)) c.args.self.now.cache
          c.requires.cheap c.requires.alone);
    }

pub returns : goal.returns
returns c =
    let old = c.args.self.now.bindings.items in
    let few : length old ≤ most_kept = omega (
      arith,
      length-map old (λ (b : Arc Binding Global). kept_of (arc_value b)),
      c.args.self.now.cache.few,
    ) in
    ap (λ (b : Buffer (Arc Binding Global)). all_kept b.items) c.push_back-oldest.ensures.items
    ∙ (ap (λ n. all_kept (keep_last n (old ++ c.args.entry ∷ []))) c.args.self.now.room
    ∙ map-keep_last (λ (b : Arc Binding Global). kept_of (arc_value b)) old c.args.entry few)
