-- The counts that an exchange raised, published one after another.
use Rattle.std.proofs.Common.{◌≡◌, ℕ, ◌+◌, min, List, [], ◌∷◌, ◌++◌, sym, subst}
use Rattle.access_log.specs.Ending.{status_in}
use Rattle.exchange_tally.specs.declared.done.Timed.{Timed}
use Rattle.exchange_tally.specs.declared.tally.Tally.{Tally}
use Rattle.exchange_tally.specs.Figures.{class_place}
use Rattle.exchange_tally.specs.Worth.{lasted}
use Rattle.metrics_text.specs.declared.class.Class.{Class}
use Rattle.metrics_text.specs.Classes.{bucket_of, class_of}
use Rattle.worker_record.specs.Publishing.{ArePublished, ArePublishedBut, moved_places, own_places}
use Rattle.worker_record.specs.Publishing.{some_place}
use Rattle.worker_record.proofs.Storing.{all_published}

module _ (t : Tally) (timed : Timed) where
  -- a publication takes the places of its counts off those that are pending
  abbrev TakesOff : List ℕ → List ℕ → List ℕ → Type 0
  TakesOff places old new =
      (pending : List ℕ) → ArePublishedBut (places ++ pending) t old → ArePublishedBut pending t new

  abbrev TakesOne : ℕ → List ℕ → List ℕ → Type 0
  TakesOne place old new =
      (pending : List ℕ) → ArePublishedBut (place ∷ pending) t old → ArePublishedBut pending t new

  abbrev misses : List ℕ
  misses = some_place timed.done.misses 45 ++ []

  abbrev hits : List ℕ
  hits = some_place timed.done.hits 44 ++ misses

  abbrev replies : List ℕ
  replies = some_place timed.done.reply_bytes 42 ++ hits

  abbrev requests : List ℕ
  requests = some_place timed.done.request_bytes 41 ++ replies

  abbrev failures : List ℕ
  failures = some_place timed.done.failures 40 ++ requests

  abbrev tries : List ℕ
  tries = some_place timed.done.tries 39 ++ failures

  abbrev times : List ℕ
  times = some_place (lasted timed) 43 ++ tries

  abbrev bucket : ℕ
  bucket = 25 + min (bucket_of (lasted timed)) 13

  pub all_moved : (k : Class) (at ms : ℕ) (c0 c1 c2 c3 c4 c5 c6 c7 c8 c9 c10 : List ℕ)
      → k ≡ class_of (status_in timed.done.answer) → at ≡ bucket_of (lasted timed)
      → ms ≡ lasted timed → ArePublishedBut (moved_places timed) t c0
      → TakesOff (own_places timed.done.answer) c0 c1 → TakesOne (class_place k) c1 c2
      → TakesOne (25 + min at 13) c2 c3 → TakesOff (some_place ms 43) c3 c4
      → TakesOff (some_place timed.done.tries 39) c4 c5
      → TakesOff (some_place timed.done.failures 40) c5 c6
      → TakesOff (some_place timed.done.request_bytes 41) c6 c7
      → TakesOff (some_place timed.done.reply_bytes 42) c7 c8
      → TakesOff (some_place timed.done.hits 44) c8 c9
      → TakesOff (some_place timed.done.misses 45) c9 c10 → ArePublished t c10
  all_moved k at ms c0 c1 c2 c3 c4 c5 c6 c7 c8 c9 c10 is_k is_at is_ms moved s1 s2 s3 s4 s5 s6 s7 s8
      s9 s10 =
      let p1 = s1 (class_place (class_of (status_in timed.done.answer)) ∷ bucket ∷ times) moved in
      let p2 = s2 (bucket ∷ times)
      (subst (λ (c : Class). ArePublishedBut (class_place c ∷ bucket ∷ times) t c1) (sym is_k) p1)
      in
      let p3 = s3 times
      (subst (λ (n : ℕ). ArePublishedBut ((25 + min n 13) ∷ times) t c2) (sym is_at) p2) in
      let p4 = s4 tries
      (subst (λ (n : ℕ). ArePublishedBut (some_place n 43 ++ tries) t c3) (sym is_ms) p3) in
      all_published t c10
      (s10 [] (s9 misses (s8 hits (s7 replies (s6 requests (s5 failures p4))))))
