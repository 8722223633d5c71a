-- Entries and the positions of their prefixes, which count up.
use Rattle.std.proofs.Common.{◌≡◌, ℕ, ◌+◌, ◌<◌, ◌≤◌, List, [], ◌∷◌, ◌++◌, length, take, get_or}
use Rattle.std.proofs.Common.{refl, sym, ap, ◌∙◌, arith}
use Rattle.std.proofs.lemmas.List.{take_more, length-take-le}
use Rattle.dtab_index.specs.Index.{Pattern, Placed, AreBelow}
use Rattle.dtab_table.specs.declared.entry.Entry.{Entry}
use Rattle.dtab_table.specs.Rules.{placed_from}

below : (most n : ℕ) (es : List Entry) → n + length es ≤ most → AreBelow most (placed_from n es)
below most n [] fits = tt
below most n (e ∷ es) fits = (omega arith, below most (n + 1) es (omega arith))

pub placed_push : (n : ℕ) (es : List Entry) (e : Entry)
    → placed_from n (es ++ e ∷ []) ≡ placed_from n es ++ (e.prefix, n + length es) ∷ []
placed_push n [] e = let same : n + 0 ≡ n = omega arith in rw same refl
placed_push n (f ∷ es) e = let same : n + 1 + length es ≡ n + length (f ∷ es) = omega arith in
    ap (λ (ps : List Placed). (f.prefix, n) ∷ ps) (placed_push (n + 1) es e ∙ (rw same refl))

pub all_below : (es : List Entry) (at : ℕ) (index : List Placed) → at < length es
    → index ≡ placed_from 0 (take at es) → AreBelow at index
all_below es at index within is = rw is
    (below at 0 (take at es) (omega (arith, length-take-le at es (omega arith))))

pub one_more : (es : List Entry) (at : ℕ) (entry : Entry) (index next : List Placed)
    (patterns : List Pattern) → at < length es → entry ≡ get_or es at entry
    → index ≡ placed_from 0 (take at es)
    → patterns ≡ entry.prefix → next ≡ index ++ (patterns, at) ∷ []
    → next ≡ placed_from 0 (take (at + 1) es)
one_more es at entry index next patterns within is placed same added =
    let at_end : 0 + length (take at es) ≡ at = omega (arith, length-take-le at es (omega arith)) in
    let front : take (at + 1) es ≡ take at es ++ entry ∷ [] =
    take_more es at entry within ∙ ap (λ (e : Entry). take at es ++ e ∷ []) (sym is) in
    added ∙ (rw (placed, same, front, placed_push, at_end) refl)
