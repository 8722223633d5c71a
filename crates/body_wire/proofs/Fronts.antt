-- What a decoder has taken is a front of a body, wherever it stands.
use Rattle.std.proofs.Common.{◌≡◌, ℕ, ◌+◌, ◌≤◌, List, [], refl, sym, subst, arith, inl, inr, IsSome}
use Rattle.http_wire.specs.declared.frames.Framing.{Framing}
use Rattle.http_wire.specs.declared.frames.Framing.TheVariants.{Nothing, Length, Chunked, ToEnd}
use Rattle.body_wire.specs.declared.decoder.Decoder.{Decoder}
use Rattle.body_wire.specs.declared.decoder.Place.{Place}
use Rattle.body_wire.specs.Bodies.{AreFront, IsFrontBody, IsPlain}
use Rattle.body_wire.specs.Places.{left_at}
use Rattle.body_wire.specs.Stands.{IsCounted, IsLonger, Holds, HoldsAt}
use Rattle.body_wire.proofs.Stopping.{no_bytes}

module _ (d : Decoder) (taken passed : List ℕ) where
  counted : (framing : Framing) (left : ℕ) → d.count + left ≤ d.limit
      → IsCounted framing (d.count + left) → IsPlain taken passed d.count
      → IsFrontBody framing d.form d.limit taken passed d.count
  counted Nothing left within none plain =
      (plain, no_bytes taken (omega (arith, none, plain.total)))
  counted (Length n) left within all plain = (plain, omega arith, inl (omega arith))
  counted Chunked left within all plain = absurd all
  counted ToEnd left within all plain = absurd all

  longer : (framing : Framing) → IsLonger framing d.limit → IsPlain taken passed d.count
      → taken ≡ [] → IsFrontBody framing d.form d.limit taken passed d.count
  longer Nothing over plain none = absurd over
  longer (Length n) over plain none = (plain, (let within = d.within in omega arith), inr none)
  longer Chunked over plain none = absurd over
  longer ToEnd over plain none = absurd over

  chunked : (framing : Framing) → framing ≡ Chunked → AreFront d.form d.limit taken passed d.count
      → IsFrontBody framing d.form d.limit taken passed d.count
  chunked framing is front =
      subst (λ (f : Framing). IsFrontBody f d.form d.limit taken passed d.count) (sym is) front

  by_place : (p : Place) (framing : Framing) → d.count + left_at p ≤ d.limit
      → HoldsAt p framing d taken passed → IsFrontBody framing d.form d.limit taken passed d.count
  by_place (Place.Counted left) framing within h = counted framing left within h.0 h.1
  by_place (Place.ToEnd left) framing within h =
      subst (λ (f : Framing). IsFrontBody f d.form d.limit taken passed d.count) (sym h.0) h.1
  by_place Place.Line framing within h = chunked framing h.0 (inl h.1)
  by_place (Place.Content left) framing within h =
      let c = h.1 in
      chunked framing h.0
      (inr (inl (c.size, c.got, c.chunk, omega (arith, c.rest), omega (arith, c.rest))))
  by_place (Place.Trailers at seen) framing within h =
      let f = h.1 in
      chunked framing h.0 (inr (inr (inl (f.trailers, f.taken, subst IsSome (sym f.line) refl))))
  by_place Place.LongLength framing within h = longer framing h.0 h.1 h.2
  by_place Place.LongChunk framing within h =
      let l = h.1 in
      chunked framing h.0 (inr (inr (inr (inl (l.size, l.line, l.over)))))
  by_place Place.Whole framing within h = chunked framing h.0 (inr (inr (inr (inr h.1))))

pub front_body : (framing : Framing) (d : Decoder) (taken passed : List ℕ)
    → Holds framing d taken passed → IsFrontBody framing d.form d.limit taken passed d.count
front_body framing d taken passed holds = by_place d taken passed d.place framing d.within holds
