use Rattle.std.proofs.Common.{◌≡◌, ◌++◌, ◌∷◌, [], List, Some, Option, length, map, ap, sym, ◌∙◌}
use Rattle.std.proofs.Common.{subst, append_assoc, arith}
use Rattle.std.specs.Prelude.{All, IfSome}
use Rattle.std.specs.Vec.Iter.{into_iter_items}
use Rattle.std.proofs.lemmas.List.{length_push, map_push}
use Rattle.std.proofs.lemmas.List.Elements.{All-pop, All-push, All-rest}
use Rattle.load_words.specs.declared.words.LoadSeat.{LoadSeat}
use Rattle.load_words.specs.Seats.{IsUnused, words_of_seat}
use Rattle.machine.specs.declared.settings.Settings.{Settings}
use Rattle.snap_cell.specs.declared.reader.Reader.{Reader}
use Rattle.router.specs.declared.call.Call.{Call}
use Rattle.router.specs.declared.current.Current.{Current}
use Rattle.router.specs.declared.pass.Pass.{Pass}
use Rattle.router.specs.declared.update.Update.{Update}
use Rattle.router.specs.Opening.{IsReady}
use Rattle.router.proofs.opening.passes_of.Goals as goal

abbrev OneReader : Type 0
OneReader = Reader Current Update Call (Settings × List Update)

pub loop-reader-preserved : goal.loop-reader-preserved
loop-reader-preserved g c =
    let inv = c.loop-reader.invariant in
    let step = c.in-Some.ensures.steps in
    let pass = c.new_pass.result in
    let push = c.push_reserved.ensures in
    let yielded = c.loop-reader.yielded in
    let longer = length_push yielded c.in-Some.reader in
    let left = All-pop (λ (s : LoadSeat). Some (words_of_seat s) ≡ g.J.Naming.words)
    c.loop-reader.places.items c.pop.new.self.items c.pop.result c.pop.ensures.items inv.10 in
    let unused = All-pop IsUnused c.loop-reader.places.items c.pop.new.self.items c.pop.result
    c.pop.ensures.items inv.11 in
    let own = subst (λ (o : Option LoadSeat). IfSome o IsUnused) c.in-Some-pop.is unused.1 in
    let seat = subst IsUnused (sym c.new_pass.ensures.1) own in
    let pushed = All-push (λ (p : Pass g.row.J.Denot g.J.Naming). IsUnused p.seat)
    c.loop-reader.passes.items pass inv.3 seat in
    let fewer = c.in-Some-pop.ensures.cases in (
      append_assoc yielded (c.in-Some.reader ∷ []) (into_iter_items c.next.new.self)
          ∙ (ap (λ (l : List OneReader). yielded ++ l) (sym step.0) ∙ inv.0),
      All-rest (IsReady g.J.Naming.cell g.J.Naming.settings) c.in-Some.reader
          (into_iter_items c.next.new.self) (into_iter_items c.loop-reader.reader-iterator) step.0
          inv.1,
      ap (map (λ (p : Pass g.row.J.Denot g.J.Naming). p.reader)) push.items
          ∙ (map_push (λ (p : Pass g.row.J.Denot g.J.Naming). p.reader) c.loop-reader.passes.items
          pass
          ∙ (ap (λ (l : List OneReader). l ++ pass.reader ∷ []) inv.2
          ∙ ap (λ (r : OneReader). yielded ++ r ∷ []) c.new_pass.ensures.0)),
      subst (All (λ (p : Pass g.row.J.Denot g.J.Naming). IsUnused p.seat)) (sym push.items) pushed,
      (let len = push.len in let before = inv.4 in omega (arith, len, before, longer)),
      (let capacity = push.capacity in let before = inv.5 in let one = step.1 in
          omega (arith, capacity, before, one, longer)),
      (let before = inv.6 in let one = step.1 in let same = ap length step.0 in
          omega (arith, before, one, same)),
      (let parts = c.split_off-share.ensures.parts_left in let before = inv.7 in
          let one = step.1 in omega (arith, parts, before, one)),
      (let amount = c.split_off-share.ensures.amount_left in let before = inv.8 in
          omega (arith, amount, before)),
      (let before = inv.9 in let one = step.1 in omega (arith, fewer, before, one)),
      left.0,
      unused.0,
    )
