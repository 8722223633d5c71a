use Rattle.std.proofs.Common.{◌≡◌, ◌∙◌, ◌∷◌, [], ◌++◌, List, map, refl, ap, sym, subst}
use Rattle.std.specs.Prelude.{replicate, All}
use Rattle.std.proofs.lemmas.List.{map-append, replicate_more}
use Rattle.std.proofs.lemmas.List.Elements.{All-push}
use Rattle.machine.specs.Values.{StateValue}
use Rattle.machine.specs.State.{opening}
use Rattle.bind_cache.specs.Kept.{Kept}
use Rattle.bind_cache.specs.Bindings.{bindings_of}
use Rattle.router_log.specs.Value.{Value}
use Rattle.weave.specs.declared.pass.Pass.{Pass}
use Rattle.weave.specs.Code.{pass_of}
use Rattle.weave.specs.World.{PassValue, new_pass}
use Rattle.weave.proofs.Moving.{started, all_at}
use Rattle.weave.proofs.world.World.start.Goals as goal

pub returns-clause-holds : goal.returns-clause-holds
returns-clause-holds c =
    let make : StateValue → List Kept → Value = λ s ks. record { state = s; cache = ks } in
    started _ c.loop-number._number c.new-2.ensures c.loop-number.invariant.0
    (λ j p here. all_at (λ (q : Pass). (q.changes ≡ 0) × (q.keeps ≡ 0)) c.loop-number.all.items j p
    c.loop-number.invariant.1 here)
    (ap (λ (s : StateValue). make s (bindings_of c.in_ok-start-2.field-0)) c.in_ok-start.ensures
    ∙ ap (make opening) c.in_ok-start-2.ensures) refl

pub loop-number-preserved : goal.loop-number-preserved
loop-number-preserved c = (
  ap (map pass_of) c.in_ok-push.ensures.items
      ∙ (map-append pass_of c.loop-number.all.items (c.new.result ∷ [])
      ∙ (ap (λ (xs : List PassValue). xs ++ pass_of c.new.result ∷ []) c.loop-number.invariant.0
      ∙ (ap (λ (x : PassValue). replicate c.loop-number._number new_pass ++ x ∷ [])
      c.new.ensures.pass
      ∙ replicate_more c.loop-number._number new_pass))),
  subst (All (λ (q : Pass). (q.changes ≡ 0) × (q.keeps ≡ 0))) (sym c.in_ok-push.ensures.items)
      (All-push (λ (q : Pass). (q.changes ≡ 0) × (q.keeps ≡ 0)) c.loop-number.all.items
      c.new.result c.loop-number.invariant.1 (c.new.ensures.changes, c.new.ensures.keeps)),
)
