use Rattle.std.proofs.Common.{◌≡◌, ◌+◌, List, Some, None, sym, ap, ◌∙◌}
use Rattle.waiting.specs.Waiting.{Line}
use Rattle.waiting.proofs.Lines.{none_at, inserted_last, below_more, below_joined}
use Rattle.waiting.proofs.waiters.Waiters.join.Goals as goal
use Rattle.waiting.proofs.waiters.Waiters.join.Goals.{in-Ok-None, in-Err}

pub unreachable-requires : goal.unreachable-requires
unreachable-requires g c =
    let none = none_at c.self.inside.next c.self.inside.by_number.entries c.self.invariant in
    let e : Some c.in-Ok-Some._other ≡ None = sym c.in-Ok-Some.field-0-is
    ∙ (c.in-Ok-Some.ensures.old ∙ none) in cc

pub invariant_of-self : goal.invariant_of-self
invariant_of-self g c =
    let next = c.self.inside.next in
    let entries = c.self.inside.by_number.entries in
    elim c.match-insert.branch [
      | in-Ok-None w ↦ rw (
        w.in-Ok-None.ensures.entries,
        inserted_last next _ entries c.self.invariant,
      ) (below_joined next _ entries c.self.invariant)
      | in-Err w ↦ rw w.in-Err.ensures.err (below_more next entries c.self.invariant)
    ]

pub returns-clause-joined : goal.returns-clause-joined
returns-clause-joined g c =
    let next = c.self.inside.next in
    let entries = c.self.inside.by_number.entries in
    let line : List _ → Line _ = λ l. record { waiting = l; next = next + 1 } in
    elim c.match-insert.branch [
      | in-Ok-None w ↦ rw (w.result-is, ← c.self.view_is)
          (ap line (w.in-Ok-None.ensures.entries ∙ inserted_last next _ entries c.self.invariant))
      | in-Err w ↦ rw w.result-is tt
    ]
