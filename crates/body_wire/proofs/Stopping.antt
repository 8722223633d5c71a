-- What bytes show behind which a decoder stops.
use Rattle.std.proofs.Common.{◌≡◌, ℕ, ◌+◌, ◌-◌, ◌<◌, ◌≤◌, List, [], ◌∷◌, length, refl, sym, ap}
use Rattle.std.proofs.Common.{subst, arith, inl, inr}
use Rattle.http_wire.specs.declared.frames.Framing.{Framing}
use Rattle.http_wire.specs.declared.frames.Framing.TheVariants.{Nothing, Length, Chunked, ToEnd}
use Rattle.body_wire.specs.declared.decoder.Decoder.{Decoder}
use Rattle.body_wire.specs.declared.decoder.Place.{Place}
use Rattle.body_wire.specs.declared.decoder.StopCause.{StopCause}
use Rattle.body_wire.specs.Bodies.{IsPlain, IsUnfinished}
use Rattle.body_wire.specs.Places.{IsRun, left_at, most_at}
use Rattle.body_wire.specs.Stands.{IsCounted, HoldsAt, Stops}

pub no_bytes : (xs : List ℕ) → length xs ≡ 0 → xs ≡ []
no_bytes [] long = refl
no_bytes (x ∷ xs) long = absurd (omega arith)

-- a body of a length of which some is left
counted_more : (framing : Framing) (d : Decoder) (left : ℕ) (taken passed kept : List ℕ) → 0 < left
    → kept ≡ [] → d.count + left ≤ d.limit → IsCounted framing (d.count + left)
    → IsPlain taken passed d.count → IsUnfinished framing d.form d.limit taken passed d.count kept
counted_more Nothing d left taken passed kept some none within counted plain = absurd (omega arith)
counted_more (Length n) d left taken passed kept some none within counted plain =
    (plain, omega arith, none, omega arith)
counted_more Chunked d left taken passed kept some none within counted plain = absurd counted
counted_more ToEnd d left taken passed kept some none within counted plain = absurd counted

module _ (d : Decoder) (kept : List ℕ) where
  -- content is left, and no byte is there
  content_at : (p : Place) (framing : Framing) (taken passed : List ℕ) → IsRun p → 0 < left_at p
      → kept ≡ [] → d.count + left_at p ≤ d.limit → HoldsAt p framing d taken passed
      → IsUnfinished framing d.form d.limit taken passed d.count kept
  content_at (Place.Counted left) framing taken passed is some none within h =
      counted_more framing d left taken passed kept some none within h.0 h.1
  content_at (Place.ToEnd left) framing taken passed is some none within h =
      subst (λ (f : Framing). IsUnfinished f d.form d.limit taken passed d.count kept) (sym h.0)
      (h.1, none)
  content_at (Place.Content left) framing taken passed is some none within h =
      let c = h.1 in
      let less : c.got < c.size = omega (arith, c.rest) in
      subst (λ (f : Framing). IsUnfinished f d.form d.limit taken passed d.count kept) (sym h.0)
      (inr (inl (c.size, c.got, c.chunk, inl (less, none), omega (arith, c.rest))))
  content_at Place.Line framing taken passed is some none within h = absurd is
  content_at (Place.Trailers at seen) framing taken passed is some none within h = absurd is
  content_at Place.LongLength framing taken passed is some none within h = absurd is
  content_at Place.LongChunk framing taken passed is some none within h = absurd is
  content_at Place.Whole framing taken passed is some none within h = absurd is

  content_room : (p : Place) (room : ℕ) → IsRun p → 0 < left_at p → 0 < most_at p room
  content_room (Place.Counted left) room is some = some
  content_room (Place.ToEnd left) room is some = omega arith
  content_room (Place.Content left) room is some = omega arith
  content_room Place.Line room is some = absurd is
  content_room (Place.Trailers at seen) room is some = absurd is
  content_room Place.LongLength room is some = absurd is
  content_room Place.LongChunk room is some = absurd is
  content_room Place.Whole room is some = absurd is

  pub waits_for_content : IsRun d.place → 0 < left_at d.place → kept ≡ []
      → Stops d kept StopCause.More
  waits_for_content is some none = record {
    shows = λ framing taken passed h.
        content_at d.place framing taken passed is some none d.within h;
    waits =
        let long : length kept ≡ 0 = ap length none in
        let room = content_room d.place (d.limit - d.count) is some in
        (omega arith, omega arith);
  }
