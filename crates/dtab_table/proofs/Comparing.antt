-- The places of the entries that match, where each is compared with a path in turn.
use Rattle.std.proofs.Common.{◌≡◌, ℕ, ◌+◌, ◌<◌, ◌≤◌, List, [], ◌∷◌, ◌++◌, true, false, length, take}
use Rattle.std.proofs.Common.{get_or, sym, ap, ◌∙◌, arith, append_assoc}
use Rattle.std.specs.Prelude.{reverse, if◌then◌else◌}
use Rattle.std.proofs.lemmas.List.{append-nil, reverse-append, reverse-reverse, take_all, take_more}
use Rattle.std.proofs.lemmas.List.{length-take-le}
use Rattle.name_tree.specs.Path.{Labels}
use Rattle.dtab_index.specs.Index.{Placed, matches, matching}
use Rattle.dtab_table.specs.declared.entry.Entry.{Entry}
use Rattle.dtab_table.specs.Rules.{placed_from}
use Rattle.dtab_table.proofs.Placing.{placed_push}

matching_push : (ps : List Placed) (p : Placed) (path : Labels)
    → matching (ps ++ p ∷ []) path ≡ (if matches p.0 path then p.1 ∷ [] else []) ++ matching ps path
matching_push [] p path = sym (append-nil (if matches p.0 path then p.1 ∷ [] else []))
matching_push (q ∷ ps) p path =
    ap (λ (xs : List ℕ). xs ++ (if matches q.0 path then q.1 ∷ [] else []))
    (matching_push ps p path)
    ∙ append_assoc (if matches p.0 path then p.1 ∷ [] else []) (matching ps path)
    (if matches q.0 path then q.1 ∷ [] else [])

module _ (es : List Entry) (path : Labels) where
  abbrev pub Seen : List ℕ → ℕ → Type 0
  Seen found i = found ≡ reverse (matching (placed_from 0 (take i es)) path)

  one_seen : (i : ℕ) (e : Entry) → i < length es → e ≡ get_or es i e
      → matching (placed_from 0 (take (i + 1) es)) path
      ≡ (if matches e.prefix path then i ∷ [] else []) ++ matching (placed_from 0 (take i es)) path
  one_seen i e within is =
      let at_end : 0 + length (take i es) ≡ i = omega (arith, length-take-le i es (omega arith)) in
      let front : take (i + 1) es ≡ take i es ++ e ∷ [] =
      take_more es i e within ∙ ap (λ (f : Entry). take i es ++ f ∷ []) (sym is) in
      rw (front, placed_push, at_end) (matching_push (placed_from 0 (take i es)) (e.prefix, i) path)

  pub seen_match : (i : ℕ) (e : Entry) (found more : List ℕ) → i < length es → e ≡ get_or es i e
      → matches e.prefix path ≡ true → more ≡ found ++ i ∷ [] → Seen found i → Seen more (i + 1)
  seen_match i e found more within is fit pushed seen =
      let one : matching (placed_from 0 (take (i + 1) es)) path
      ≡ i ∷ matching (placed_from 0 (take i es)) path = rw fit at (one_seen i e within is) in
      rw (pushed, seen, one)
      (sym (reverse-append (i ∷ []) (matching (placed_from 0 (take i es)) path)))

  pub seen_other : (i : ℕ) (e : Entry) (found : List ℕ) → i < length es → e ≡ get_or es i e
      → matches e.prefix path ≡ false → Seen found i → Seen found (i + 1)
  seen_other i e found within is other seen =
      let same : matching (placed_from 0 (take (i + 1) es)) path
      ≡ matching (placed_from 0 (take i es)) path = rw other at (one_seen i e within is) in
      seen ∙ ap reverse (sym same)

  pub all_seen : (i : ℕ) (found turned : List ℕ) → length es ≤ i → turned ≡ reverse found
      → Seen found i → turned ≡ matching (placed_from 0 es) path
  all_seen i found turned past is seen =
      let whole : take i es ≡ es = take_all i es past in
      is ∙ (ap reverse seen ∙ (rw whole (reverse-reverse (matching (placed_from 0 es) path))))
