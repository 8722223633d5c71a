-- The parts of an index: what each has, one that is changed, and those behind a place.
use Rattle.std.proofs.Common.{◌≡◌, ⊎_elim, ℕ, zero, suc, ◌+◌, ◌-◌, ◌<◌, List, [], ◌∷◌, ◌++◌, length}
use Rattle.std.proofs.Common.{set, drop, get_or, Some, refl, sym, ap, subst, ◌∙◌, arith, add-one}
use Rattle.std.proofs.Common.{drop-cons, append_assoc, append-nil}
use Rattle.std.specs.List.{slice_get}
use Rattle.std.specs.Prelude.{◌||◌}
use Rattle.std.proofs.lemmas.List.{length-append}
use Rattle.std.proofs.lemmas.Option.{slice_get-get_or, same_Some}
use Rattle.dtab_index.specs.Index.{Label, Placed, matching, some_matches_there}
use Rattle.dtab_index.specs.Part.{placed_in, IsKept}
use Rattle.dtab_index.specs.Parts.{placed_by, HasRoom, AreKept}
use Rattle.dtab_index.specs.declared.part.Part.{Part}
use Rattle.dtab_index.proofs.Known.{at_push, at_set, at_end}
use Rattle.dtab_index.proofs.Filing.{matching-append, some-append}

abbrev kept : Part → Type 0
kept part = IsKept part.entries.items part.columns.items

kept_along : (a b : Part) → a ≡ b → kept a → kept b
kept_along a b e k = let P : Part → Type 0 = λ p. IsKept p.entries.items p.columns.items in
    subst P e k

-- ---- a part behind the others
pub kept_push : (ps : List Part) (p : Part) → AreKept ps → kept p → AreKept (ps ++ p ∷ [])
kept_push ps p all one = λ k part is.
    ⊎_elim (λ (h : slice_get ps k ≡ Some part). all k part h)
    (λ (h : (k ≡ length ps) × (p ≡ part)). kept_along p part h.1 one) (at_push ps p k part is)

pub placed_push : (ps : List Part) (p : Part) → p.entries.items ≡ []
    → placed_by (ps ++ p ∷ []) ≡ placed_by ps
placed_push [] p none = ap (λ es. placed_in es ++ []) none
placed_push (q ∷ ps) p none = ap (λ (xs : List Placed). placed_in q.entries.items ++ xs)
    (placed_push ps p none)

pub room_push : (ps : List Part) (p : Part) (place : ℕ) → p.entries.items ≡ []
    → place + 1 ≡ length (ps ++ p ∷ []) → HasRoom (ps ++ p ∷ []) place
room_push ps p place none is = record {
  last = is;
  room = λ part found.
      let count : place ≡ length ps = omega (arith, is, length-append ps (p ∷ [])) in
      let here : Some p ≡ Some part = sym (at_end ps [] p)
      ∙ (ap (slice_get (ps ++ p ∷ [])) (sym count) ∙ found) in
      let same : p ≡ part = same_Some p part here in
      let few : length p.entries.items ≡ 0 = ap length none in
      let P : Part → Type 0 = λ q. length q.entries.items < 1024 in
      subst P same (omega (arith, few));
}

pub room_there : (ps : List Part) (last : Part) (place : ℕ) → place + 1 ≡ length ps
    → get_or ps (length ps - 1) last ≡ last → length last.entries.items < 1024 → HasRoom ps place
room_there ps last place is there few = record {
  last = is;
  room = λ part found.
      let count : length ps - 1 ≡ place = omega (arith, is) in
      let here : slice_get ps place ≡ Some last =
      slice_get-get_or ps place last (omega (arith, is))
      ∙ ap (λ p. Some p) (ap (λ k. get_or ps k last) (sym count) ∙ there) in
      let same : last ≡ part = same_Some last part (sym here ∙ found) in
      let P : Part → Type 0 = λ q. length q.entries.items < 1024 in
      subst P same few;
}

-- ---- the last part with a prefix more
pub kept_set : (ps : List Part) (at : ℕ) (p : Part) → AreKept ps → kept p → AreKept (set ps at p)
kept_set ps at p all one = λ k part is.
    ⊎_elim (λ (h : (k ≡ at) × (p ≡ part)). kept_along p part h.1 one)
    (λ (h : (k ≡ at → ⊥) × (slice_get ps k ≡ Some part)). all k part h.1) (at_set ps at k p part is)

pub placed_set : (ps : List Part) (at : ℕ) (old new : Part) (more : List Placed)
    → at + 1 ≡ length ps → slice_get ps at ≡ Some old
    → placed_in new.entries.items ≡ placed_in old.entries.items ++ more
    → placed_by (set ps at new) ≡ placed_by ps ++ more
placed_set [] at old new more last here is = absurd (omega arith)
placed_set (p ∷ []) zero old new more last here is =
    let same : p ≡ old = same_Some p old here in
    ap (λ (xs : List Placed). xs ++ [])
    (is ∙ ap (λ (q : Part). placed_in q.entries.items ++ more) (sym same))
    ∙ (append-nil (placed_in p.entries.items ++ more)
    ∙ ap (λ (xs : List Placed). xs ++ more) (sym (append-nil (placed_in p.entries.items))))
placed_set (p ∷ q ∷ ps) zero old new more last here is = absurd (omega arith)
placed_set (p ∷ ps) (suc at) old new more last here is =
    ap (λ (xs : List Placed). placed_in p.entries.items ++ xs)
    (placed_set ps at old new more (omega (arith, last)) here is)
    ∙ sym (append_assoc (placed_in p.entries.items) (placed_by ps) more)

pub placed_stays : (ps : List Part) (at : ℕ) (old new : Part) → at + 1 ≡ length ps
    → slice_get ps at ≡ Some old → placed_in new.entries.items ≡ placed_in old.entries.items
    → placed_by (set ps at new) ≡ placed_by ps
placed_stays ps at old new last here is =
    placed_set ps at old new [] last here (is ∙ sym (append-nil (placed_in old.entries.items)))
    ∙ append-nil (placed_by ps)

pub part_at : (ps : List Part) (at : ℕ) (p : Part) → at + 1 ≡ length ps → p ≡ get_or ps at p
    → slice_get ps at ≡ Some p
part_at ps at p last is = slice_get-get_or ps at p (omega (arith, last)) ∙ ap (λ q. Some q) (sym is)

-- ---- part by part
module _ (ps : List Part) (at : ℕ) (p : Part) (path : List Label) (within : at < length ps)
    (is : p ≡ get_or ps at p) where
  behind : drop at ps ≡ p ∷ drop (at + 1) ps
  behind = rw (drop-cons ps at p within, ← is, add-one) refl

  pub kept_here : AreKept ps → kept p
  kept_here all = all at p (slice_get-get_or ps at p within ∙ ap (λ q. Some q) (sym is))

  pub found_more : matching (placed_by (drop at ps)) path
      ≡ matching (placed_by (drop (at + 1) ps)) path ++ matching (placed_in p.entries.items) path
  found_more = ap (λ (xs : List Part). matching (placed_by xs) path) behind
      ∙ matching-append (placed_in p.entries.items) (placed_by (drop (at + 1) ps)) path

  pub some_more : (from to : ℕ) → some_matches_there from to (placed_by (drop at ps)) path
      ≡ (some_matches_there from to (placed_in p.entries.items) path
      || some_matches_there from to (placed_by (drop (at + 1) ps)) path)
  some_more from to = ap (λ (xs : List Part). some_matches_there from to (placed_by xs) path)
      behind ∙ some-append from to (placed_in p.entries.items) (placed_by (drop (at + 1) ps)) path
