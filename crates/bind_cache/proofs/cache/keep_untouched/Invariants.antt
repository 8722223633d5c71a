use Rattle.std.proofs.Common.{not, Global}
use Rattle.std.specs.List.{list_any}
use Rattle.std.specs.declared.sync.Arc.{Arc}
use Rattle.bind_cache.specs.declared.binding.Binding.{Binding}
use Rattle.bind_cache.specs.Stored.{asked_in}
use Rattle.bind_cache.specs.Touch.{touched_by}
use Rattle.bind_cache.proofs.Turning.{Turned}
use Rattle.bind_cache.proofs.cache.keep_untouched.Given as goal

abbrev pub invariant-loop-turn : goal.invariant-loop-turn
invariant-loop-turn l =
    Turned (λ (b : Arc Binding Global). not (list_any (touched_by l.touch) (asked_in b)))
    l.fn.bindings.items l.fn.bindings.capacity l._turn l.bindings
