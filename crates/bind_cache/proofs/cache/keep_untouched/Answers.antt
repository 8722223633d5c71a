use Rattle.std.proofs.Common.{◌≡◌, ◌<◌, ◌≤◌, Bool, not, length, Global, ap, sym, ◌∙◌, arith}
use Rattle.std.specs.List.{list_any}
use Rattle.std.specs.declared.sync.Arc.{Arc}
use Rattle.bind_cache.specs.declared.binding.Binding.{Binding}
use Rattle.bind_cache.specs.Stored.{asked_in}
use Rattle.bind_cache.specs.Touch.{touched_by}
use Rattle.bind_cache.proofs.Turning.{dropped, put_back}
use Rattle.bind_cache.proofs.cache.keep_untouched.Goals as goal
use Rattle.bind_cache.proofs.cache.keep_untouched.Goals.{then-not-touches_any+in-Some-1}
use Rattle.bind_cache.proofs.cache.keep_untouched.Goals.{then-not-touches_any+in-None-1}
use Rattle.bind_cache.proofs.cache.keep_untouched.Goals.{else-not-touches_any}

pub loop-turn-preserved : goal.loop-turn-preserved
loop-turn-preserved c =
    let touches = touched_by c.args.touch.now in
    let keeps : Arc Binding Global → Bool = λ b. not (list_any touches (asked_in b)) in
    let o = c.args.bindings.now.items in
    let cap = c.args.bindings.now.capacity in
    let k = c.loop-turn._turn in
    let within : k < length o = omega (arith, c.len-count.ensures.len) in
    let few : length o ≤ cap = omega (arith, c.len-count.ensures.len, c.len-count.ensures.within) in
    let asked : c.items.result.now ≡ asked_in c.in-Some.binding =
    c.items.ensures ∙ (c.asked.ensures ∙ ap (λ (b : Binding). b.asked) c.deref.ensures) in
    let any : list_any touches (asked_in c.in-Some.binding) ≡ c.touches_any.result =
    ap (list_any touches) (sym asked) ∙ sym c.touches_any.ensures in
    elim c.if-not-touches_any.branch [
      | then-not-touches_any+in-Some-1 w ↦
          w.bindings-is
          ∙ put_back keeps o cap k c.loop-turn.bindings c.loop-turn.invariant within
          c.in-Some.binding c.pop_front.new.self (sym c.in-Some.ensures.value)
          c.pop_front.ensures.items w.push_back.new.self few
          (ap not (any ∙ w.if-not-touches_any.true)) w.push_back.ensures.items
      | then-not-touches_any+in-None-1 w ↦
          w.bindings-is
          ∙ put_back keeps o cap k c.loop-turn.bindings c.loop-turn.invariant within
          c.in-Some.binding c.pop_front.new.self (sym c.in-Some.ensures.value)
          c.pop_front.ensures.items w.push_back.new.self few
          (ap not (any ∙ w.if-not-touches_any.true)) w.push_back.ensures.items
      | else-not-touches_any w ↦
          w.bindings-is
          ∙ dropped keeps o cap k c.loop-turn.bindings c.loop-turn.invariant within
          c.in-Some.binding c.pop_front.new.self (sym c.in-Some.ensures.value)
          c.pop_front.ensures.items
          (ap not (any ∙ w.if-not-touches_any.false))
    ]
