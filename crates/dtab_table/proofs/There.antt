-- Entries from one place to before another are those at these positions of the index.
use Rattle.std.proofs.Common.{◌≡◌, ⊎_elim, ℕ, ◌+◌, ◌-◌, ◌<◌, ◌≤◌, zero, suc, List, [], ◌∷◌, Bool}
use Rattle.std.proofs.Common.{false, map, take, drop, refl, sym, ap, ◌∙◌, arith, le-leb, lt-ltb}
use Rattle.std.proofs.Common.{le-ltb}
use Rattle.std.proofs.lemmas.Bool.{cases_lt}
use borrow.Author.Tests.{lt-leb}
use Rattle.std.specs.Prelude.{◌||◌}
use Rattle.name_tree.specs.Path.{Labels}
use Rattle.dtab_index.specs.Index.{matches, matches_there, some_matches_there}
use Rattle.dtab_table.specs.declared.entry.Entry.{Entry}
use Rattle.dtab_table.specs.Rules.{rule_of, placed_from}
use Rattle.dtab_table.specs.Dtab.{some_matches}

-- the entries from one place to before another, where the first of all is at a place
abbrev part : ℕ → ℕ → ℕ → List Entry → List Entry
part at from to es = take ((to - at) - (from - at)) (drop (from - at) es)

abbrev none_of : List Entry
none_of = []

nothing : (n m : ℕ) → take n (drop m none_of) ≡ []
nothing zero zero = refl
nothing zero (suc m) = refl
nothing (suc n) zero = refl
nothing (suc n) (suc m) = refl

skipped : (n m k l : ℕ) (e : Entry) (es : List Entry) → m ≡ suc l → n ≡ k
    → take n (drop m (e ∷ es)) ≡ take k (drop l es)
skipped n m k l e es is same = rw (is, same) refl

here : (n m k l : ℕ) (e : Entry) (es : List Entry) → m ≡ 0 → n ≡ suc k → l ≡ 0
    → take n (drop m (e ∷ es)) ≡ e ∷ take k (drop l es)
here n m k l e es none is also = rw (none, is, also) refl

gone : (n : ℕ) (es : List Entry) → n ≡ 0 → take n es ≡ []
gone n es none = rw none refl

at_first : (from to : ℕ) (es : List Entry) (n m : ℕ) → n ≡ to - from → m ≡ from
    → take n (drop m es) ≡ take (to - from) (drop from es)
at_first from to es n m is same = rw (is, same) refl

module _ (from to : ℕ) (path : Labels) (order : from ≤ to) where
  abbrev Same : ℕ → List Entry → Type 0
  Same at es = some_matches_there from to (placed_from at es) path
      ≡ some_matches (map rule_of (part at from to es)) path

  abbrev said : List Entry → Bool
  said es = some_matches (map rule_of es) path

  module _ (at : ℕ) (e : Entry) (es : List Entry) (rest : Same (at + 1) es) where
    before : at < from → Same at (e ∷ es)
    before less =
        let no : matches_there from to path (e.prefix, at) ≡ false =
        rw (lt-leb from at less) refl in
        let same : part at from to (e ∷ es) ≡ part (at + 1) from to es =
        skipped ((to - at) - (from - at)) (from - at) ((to - (at + 1)) - (from - (at + 1)))
        (from - (at + 1)) e es (omega arith) (omega arith) in
        rw (no, same) rest

    inside : from ≤ at → at < to → Same at (e ∷ es)
    inside reached less =
        let there : matches_there from to path (e.prefix, at) ≡ matches e.prefix path =
        rw (le-leb from at reached, lt-ltb at to less) refl in
        let same : part at from to (e ∷ es) ≡ e ∷ part (at + 1) from to es =
        here ((to - at) - (from - at)) (from - at) ((to - (at + 1)) - (from - (at + 1)))
        (from - (at + 1)) e es (omega arith) (omega arith) (omega arith) in
        rw (there, same) (ap (λ b. matches e.prefix path || b) rest)

    past : from ≤ at → to ≤ at → Same at (e ∷ es)
    past reached end =
        let no : matches_there from to path (e.prefix, at) ≡ false =
        rw (le-leb from at reached, le-ltb at to end) refl in
        let none : part at from to (e ∷ es) ≡ [] =
        gone ((to - at) - (from - at)) (drop (from - at) (e ∷ es)) (omega arith) in
        let also : part (at + 1) from to es ≡ [] =
        gone ((to - (at + 1)) - (from - (at + 1))) (drop (from - (at + 1)) es) (omega arith) in
        rw (no, none) (rest ∙ ap said also)

  pub part_matches : (at : ℕ) (es : List Entry) → Same at es
  part_matches at [] = sym (ap said (nothing ((to - at) - (from - at)) (from - at)))
  part_matches at (e ∷ es) =
      let rest = part_matches (at + 1) es in
      ⊎_elim (before at e es rest)
      (λ reached. ⊎_elim (inside at e es rest reached) (past at e es rest reached)
      (cases_lt at to)) (cases_lt at from)

  -- and so for all entries
  pub all_matches : (es : List Entry) → some_matches_there from to (placed_from 0 es) path
      ≡ said (take (to - from) (drop from es))
  all_matches es =
      let same : part 0 from to es ≡ take (to - from) (drop from es) =
      at_first from to es ((to - 0) - (from - 0)) (from - 0) (omega arith) (omega arith) in
      part_matches 0 es ∙ ap said same
