-- One count is published.
use Rattle.std.proofs.Common.{◌≡◌, ◌≢◌, ℕ, zero, suc, ◌<◌, ◌≤◌, List, [], ◌∷◌, ◌++◌, length}
use Rattle.std.proofs.Common.{sym, ◌∙◌, subst, inl, inr, ⊎_elim, arith, slice_index_or, slice_set}
use Rattle.std.proofs.Common.{get_or-set_same, get_or-set_other}
use Rattle.std.specs.Prelude.{◌⊎◌}
use Rattle.std.proofs.lemmas.Bool.{cases_eq}
use Rattle.exchange_tally.specs.declared.figure.Figure.{Figure}
use Rattle.exchange_tally.specs.declared.tally.Tally.{Tally}
use Rattle.exchange_tally.specs.Figures.{place_of}
use Rattle.exchange_tally.specs.Tallies.{count_in}
use Rattle.exchange_tally.proofs.Placing.{places_tell_figures}
use Rattle.worker_record.specs.Publishing.{AreBelow, ArePublished, ArePublishedBut, IsAmong}
use Rattle.worker_record.specs.Publishing.{KeepsOthers, some_place}

module _ (counts : List ℕ) (t : Tally) (g : Figure) (within : place_of g < length counts) where
  abbrev stored : List ℕ
  stored = slice_set counts (place_of g) (count_in t g)

  -- a figure is at the place, and has its count there, or it is elsewhere, and is as it was
  each : (f : Figure) → (slice_index_or stored (place_of f) 0 ≡ count_in t f)
      ⊎ ((place_of f ≢ place_of g)
      × (slice_index_or stored (place_of f) 0 ≡ slice_index_or counts (place_of f) 0))
  each f = ⊎_elim
      (λ (e : place_of f ≡ place_of g).
      inl (subst (λ (k : ℕ). slice_index_or stored k 0 ≡ count_in t f) (sym e)
      (get_or-set_same counts (place_of g) (count_in t g) 0 within
      ∙ places_tell_figures g f (sym e) t)))
      (λ (e : place_of f ≢ place_of g).
      inr (e, get_or-set_other counts (place_of g) (place_of f) (count_in t g) 0 e))
      (cases_eq (place_of f) (place_of g))

  pub below_stored : AreBelow t counts → AreBelow t stored
  below_stored below f = ⊎_elim
      (λ (e : slice_index_or stored (place_of f) 0 ≡ count_in t f). omega (arith, e))
      (λ (e : (place_of f ≢ place_of g)
      × (slice_index_or stored (place_of f) 0 ≡ slice_index_or counts (place_of f) 0)).
      let was : slice_index_or counts (place_of f) 0 ≤ count_in t f = below f in
      let same : slice_index_or stored (place_of f) 0 ≡ slice_index_or counts (place_of f) 0 = e.1
      in omega (arith, was, same))
      (each f)

  -- a place that is pending, and is not this one, is among the others
  among_others : (place : ℕ) (pending : List ℕ) → place ≢ place_of g
      → IsAmong place (place_of g ∷ pending) → IsAmong place pending
  among_others place pending other (inl same) = absurd (other same)
  among_others place pending other (inr among) = among

  pub others_stored : (pending : List ℕ) → ArePublishedBut (place_of g ∷ pending) t counts
      → ArePublishedBut pending t stored
  others_stored pending but f = ⊎_elim
      (λ (e : slice_index_or stored (place_of f) 0 ≡ count_in t f). inr e)
      (λ (e : (place_of f ≢ place_of g)
      × (slice_index_or stored (place_of f) 0 ≡ slice_index_or counts (place_of f) 0)).
      ⊎_elim
      (λ (a : IsAmong (place_of f) (place_of g ∷ pending)).
      inl (among_others (place_of f) pending e.0 a))
      (λ (is : slice_index_or counts (place_of f) 0 ≡ count_in t f). inr (e.1 ∙ is))
      (but f))
      (each f)

  -- those behind the figures stand elsewhere
  pub behind_stored : place_of g < 46 → KeepsOthers counts stored
  behind_stored few place past =
      get_or-set_other counts (place_of g) place (count_in t g) 0
      (λ (e : place ≡ place_of g). omega (arith, e, few, past))

-- nothing is pending
pub all_published : (t : Tally) (counts : List ℕ) → ArePublishedBut [] t counts
    → ArePublished t counts
all_published t counts but f = ⊎_elim
    (λ (none : IsAmong (place_of f) []). absurd none)
    (λ (is : slice_index_or counts (place_of f) 0 ≡ count_in t f). is)
    (but f)

-- a count that was not raised is not pending
pub none_pending : (by place : ℕ) (pending : List ℕ) (t : Tally) (counts : List ℕ) → by ≡ 0
    → ArePublishedBut (some_place by place ++ pending) t counts → ArePublishedBut pending t counts
none_pending by place pending t counts none but =
    subst (λ (n : ℕ). ArePublishedBut (some_place n place ++ pending) t counts) none but

pub some_pending : (by place : ℕ) (pending : List ℕ) (t : Tally) (counts : List ℕ) → 1 ≤ by
    → ArePublishedBut (some_place by place ++ pending) t counts
    → ArePublishedBut (place ∷ pending) t counts
some_pending zero place pending t counts some but = absurd (omega (arith, some))
some_pending (suc n) place pending t counts some but = but

pub keeps_others : (a b c : List ℕ) → KeepsOthers a b → KeepsOthers b c → KeepsOthers a c
keeps_others a b c p q place past = q place past ∙ p place past
