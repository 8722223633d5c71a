use Rattle.std.proofs.Common.{◌≡◌, Bool, not, List, length, map, Global, ap, sym, subst, ◌∙◌, arith}
use Rattle.std.specs.Prelude.{filter}
use Rattle.std.specs.List.{list_any}
use Rattle.std.specs.Arc.{arc_value}
use Rattle.std.specs.declared.sync.Arc.{Arc}
use Rattle.std.proofs.lemmas.List.{length-map}
use Rattle.circular_buffer.specs.Buffer.{Buffer}
use Rattle.bind_cache.specs.declared.binding.Binding.{Binding}
use Rattle.bind_cache.specs.Kept.{Kept}
use Rattle.bind_cache.specs.Stored.{kept_of, all_kept, asked_in, hash_in}
use Rattle.bind_cache.specs.Cache.{IsCache}
use Rattle.bind_cache.specs.Touch.{touched_by}
use Rattle.bind_cache.proofs.Caches.{IsCache-filter}
use Rattle.bind_cache.proofs.Turning.{map-filter, length-filter_le, filter_all}
use Rattle.bind_cache.proofs.cache.Cache.drop_touched.Goals as goal

pub chain_left-requires-clause-few : goal.chain_left-requires-clause-few
chain_left-requires-clause-few c =
    let keeps : Arc Binding Global → Bool =
    λ b. not (list_any (touched_by c.args.touch.now) (asked_in b)) in
    let few = c.args.self.now.cache.few in
    omega (
      arith,
      ap (λ (b : Buffer (Arc Binding Global)). length b.items) c.keep_untouched.ensures,
      length-filter_le keeps c.args.self.now.bindings.items,
      length-map c.args.self.now.bindings.items (λ (b : Arc Binding Global). kept_of (arc_value b)),
      few,
    )

pub chain_left-requires-clause-all : goal.chain_left-requires-clause-all
chain_left-requires-clause-all c = λ same.
    let keeps : Arc Binding Global → Bool =
    λ b. not (list_any (touched_by c.args.touch.now) (asked_in b)) in
    let old = c.args.self.now.bindings.items in
    let items : c.keep_untouched.new.bindings.items ≡ filter keeps old =
    ap (λ (b : Buffer (Arc Binding Global)). b.items) c.keep_untouched.ensures in
    let all : length (filter keeps old) ≡ length old =
    ap length (sym items) ∙ (same ∙ c.len-count.ensures.len) in
    c.args.self.now.linked ∙ ap (map hash_in) (sym (items ∙ filter_all keeps old all))

pub invariant_of-self : goal.invariant_of-self
invariant_of-self c =
    let keeps : Kept → Bool = λ k. not (list_any (touched_by c.args.touch.now) k.asked) in
    let items = ap (λ (b : Buffer (Arc Binding Global)). b.items) c.keep_untouched.ensures in
    let kept : all_kept c.keep_untouched.new.bindings.items
    ≡ filter keeps (all_kept c.args.self.now.bindings.items) =
    ap all_kept items ∙ map-filter (λ (b : Arc Binding Global). kept_of (arc_value b)) keeps
    c.args.self.now.bindings.items in
    record {
      room = ap (λ (b : Buffer (Arc Binding Global)). b.capacity) c.keep_untouched.ensures
          ∙ c.args.self.now.room;
      linked = c.chain_left.ensures;
      cache = subst (λ (ks : List Kept). IsCache ks) (sym kept)
          (IsCache-filter keeps (all_kept c.args.self.now.bindings.items) c.args.self.now.cache);
    }

pub returns : goal.returns
returns c =
    let keeps : Kept → Bool = λ k. not (list_any (touched_by c.args.touch.now) k.asked) in
    ap (λ (b : Buffer (Arc Binding Global)). all_kept b.items) c.keep_untouched.ensures
    ∙ map-filter (λ (b : Arc Binding Global). kept_of (arc_value b)) keeps
    c.args.self.now.bindings.items
