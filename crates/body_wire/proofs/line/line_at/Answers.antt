use Rattle.std.proofs.Common.{ℕ, List, ◌≤◌, length, subst, sym, inr, arith}
use Rattle.std.proofs.lemmas.List.{length-take}
use Rattle.httparse.specs.Grammar.{HasNoChunkLine, MayBecomeChunkLine}
use Rattle.body_wire.specs.Chunks.{most_line}
use Rattle.body_wire.specs.Pieces.{IsLineAt}
use Rattle.body_wire.proofs.Lines.{found, open_line}
use Rattle.body_wire.proofs.line.line_at.Goals as goal

pub parsed-requires : goal.parsed-requires
parsed-requires c =
    subst (λ (xs : List ℕ). length xs ≤ 4096) (sym c.window_of.ensures)
    (omega (arith, length-take most_line c.args.bytes.now))

pub returns-in-Found : goal.returns-in-Found
returns-in-Found c =
    found c.args.bytes.now c.in-Found.len c.in-Found.size
    (subst (λ (xs : List ℕ). IsLineAt xs c.in-Found.len c.in-Found.size) c.window_of.ensures
    c.in-Found.ensures)

pub returns-in-Open : goal.returns-in-Open
returns-in-Open c =
    let e = c.in-Open.ensures in
    open_line c.args.bytes.now c.if-bytes-lt-MOST_LINE.true
    (subst HasNoChunkLine c.window_of.ensures e.0)
    (subst MayBecomeChunkLine c.window_of.ensures e.1)

pub returns-in-Open-2 : goal.returns-in-Open-2
returns-in-Open-2 c =
    let e = c.in-Open.ensures
    in inr (c.if-bytes-lt-MOST_LINE.false, subst HasNoChunkLine c.window_of.ensures e.0)
