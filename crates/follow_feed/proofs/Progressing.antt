-- What polls come to, one after another.
use Rattle.std.proofs.Common.{◌≡◌, ℕ, ◌+◌, ◌≤◌, length, List, [], ◌∷◌, ◌++◌, Option, Some, Result}
use Rattle.std.proofs.Common.{Ok, Err, Bool, true, false, refl, sym, ap, ◌∙◌, subst, arith}
use Rattle.std.proofs.Common.{append-nil, append_assoc, inl, inr, length-append}
use Rattle.std.specs.Prelude.{if◌then◌else◌, All}
use Rattle.std.specs.Io.KnownBytes.{Appends}
use Rattle.std.proofs.KnownBytes.{Appends-trans}
use Rattle.std.proofs.lemmas.List.Elements.{All-push}
use Rattle.std.proofs.lemmas.List.Sums.{fold-append}
use Rattle.addr_book.specs.declared.addr.Addr.{Addr}
use Rattle.body_wire.specs.Passing.{IsFrontOf}
use Rattle.line_base.specs.Dials.{Upstream}
use Rattle.follow_feed.specs.declared.follower.Taken.{Taken}
use Rattle.follow_feed.specs.declared.follower.Taken.TheVariants.{Newer, Older}
use Rattle.follow_feed.specs.declared.following.FollowEnd.{FollowEnd}
use Rattle.follow_feed.specs.declared.following.FollowEnd.TheVariants.{Done, WriteFault}
use Rattle.follow_feed.specs.declared.following.FollowEnd.TheVariants.{OutOfMemory}
use Rattle.follow_feed.specs.declared.polling.PollEnd.{PollEnd}
use Rattle.follow_feed.specs.Feeds.{FeedValue}
use Rattle.follow_feed.specs.Following.{is_news, taken, taken_as}
use Rattle.follow_feed.specs.Lines.{feed_line, total_line}
use Rattle.follow_feed.specs.Progress.{AreLines, IsMade, IsTurn, IsWritten, Polled}
use Rattle.follow_feed.specs.Progress.{Progress, Takes, Tells, after_poll, begun, one_more}
use Rattle.follow_feed.specs.Progress.{progress_of, told_of, with_feed}

-- what some polls came to, by its parts
abbrev pub parts : Option FeedValue → ℕ → ℕ → List ℕ → Progress
parts held newer lost text = record { held = held; newer = newer; lost = lost; text = text }

newer_is : (b : Bool) → Newer ≡ (if b then Newer else Older) → b ≡ true
newer_is true e = refl
newer_is false e = cc

-- one that is later is held
pub newer_held : (held held_now : Option FeedValue) (f : FeedValue) (r : Taken) → r
    ≡ taken_as held f → r ≡ Newer
    → held_now ≡ taken held f → held_now ≡ Some f
newer_held held held_now f r told is now =
    let new : is_news held f ≡ true = newer_is (is_news held f) (sym is ∙ told) in
    now ∙ ap (λ b. if b then Some f else held) new

with_newer : (held : Option FeedValue) (newer lost : ℕ) (f : FeedValue) (text : List ℕ)
    → is_news held f ≡ true
    → with_feed (parts held newer lost text) f
    ≡ parts (Some f) (newer + 1) lost (text ++ feed_line f)
with_newer held newer lost f text new =
    ap (λ b. if b then parts (Some f) (newer + 1) lost (text ++ feed_line f) else parts held newer
    lost text) new

front_behind : (text line wrote : List ℕ) → IsFrontOf line wrote
    → IsFrontOf (text ++ line) (text ++ wrote)
front_behind text line wrote (rest, same) =
    (rest, append_assoc text wrote rest ∙ ap (λ l. text ++ l) same)

-- and its line was written, or a front of it
pub newer_takes : (held held_now : Option FeedValue) (newer lost : ℕ) (f : FeedValue) (r : Taken)
    (wrote : List ℕ)
    (result : Result (Unit {0}) FollowEnd) → r ≡ taken_as held f → r ≡ Newer → held_now
    ≡ taken held f
    → IsWritten (feed_line f) wrote result
    → Takes (parts held newer lost) (parts held_now (newer + 1) lost) (Ok f) wrote result
newer_takes held held_now newer lost f r wrote result told is now written = by result written
  where
    new : is_news held f ≡ true
    new = newer_is (is_news held f) (sym is ∙ told)

    by : (x : Result (Unit {0}) FollowEnd) → IsWritten (feed_line f) wrote x
        → Takes (parts held newer lost) (parts held_now (newer + 1) lost) (Ok f) wrote x
    by (Ok done) w = (
      tt,
      λ text.
          (ap (λ (h : Option FeedValue). parts h (newer + 1) lost (text ++ wrote))
          (newer_held held held_now f r told is now)
          ∙ ap (λ l. parts (Some f) (newer + 1) lost (text ++ l)) w)
          ∙ sym (with_newer held newer lost f text new),
    )
    by (Err Done) w = absurd w
    by (Err WriteFault) w = (
      tt,
      λ text.
          subst (λ (p : Progress). IsFrontOf p.text (text ++ wrote))
          (sym (with_newer held newer lost f text new))
          (front_behind text (feed_line f) wrote w),
    )
    by (Err OutOfMemory) w = w

-- ---- turns

module _ (leader : Addr) (space : List ℕ) (first dialer dialer_now : Upstream)
    (start held held_now : Option (List ℕ))
    (polled : List (Result FeedValue PollEnd)) (wrote : List ℕ) (old new : List ℕ → Progress)
    (chain : Polled leader space first polled dialer) (given : Appends start held wrote)
    (made : All IsMade polled) (stands : old wrote ≡ progress_of polled)
    (lines : wrote ≡ (progress_of polled).text) where
  progress_more : (gave : Result FeedValue PollEnd) → after_poll (old wrote) gave
      ≡ progress_of (polled ++ gave ∷ [])
  progress_more gave =
      ap (λ (p : Progress). after_poll p gave) stands
      ∙ sym (fold-append after_poll begun polled (gave ∷ []))

  -- one more turn went well
  pub turned : (t : IsTurn leader space dialer dialer_now held held_now old new (Ok tt))
      → Polled leader space first (polled ++ t.gave ∷ []) dialer_now
      × Appends start held_now (wrote ++ t.wrote)
      × (length (polled ++ t.gave ∷ []) ≡ length polled + 1)
      × All IsMade (polled ++ t.gave ∷ [])
      × (new (wrote ++ t.wrote) ≡ progress_of (polled ++ t.gave ∷ []))
  turned t = (
    one_more polled dialer dialer_now t.gave chain t.polls t.faults,
    Appends-trans start held held_now wrote t.wrote given t.given,
    length-append polled (t.gave ∷ []),
    All-push IsMade polled t.gave made t.takes.0,
    t.takes.1 wrote ∙ progress_more t.gave,
  )

  -- of one more poll nothing is told
  all_but_last : (gave : Result FeedValue PollEnd) → AreLines (polled ++ gave ∷ []) wrote
  all_but_last gave = record {
    told = polled;
    last = gave ∷ [];
    cut = refl;
    one = omega arith;
    made = made;
    are = lines;
  }

  -- or it was the last
  pub ended : (polls : ℕ) (end : FollowEnd) → length polled + 1 ≤ polls
      → IsTurn leader space dialer dialer_now held held_now old new (Err end)
      → (all : List (Result FeedValue PollEnd)) × (sent : List ℕ)
      × Polled leader space first all dialer_now
      × Appends start held_now sent × Tells polls all sent end
  ended polls end few t = (
    polled ++ t.gave ∷ [],
    wrote ++ t.wrote,
    one_more polled dialer dialer_now t.gave chain t.polls t.faults,
    Appends-trans start held held_now wrote t.wrote given t.given,
    by end t.takes,
  )
    where
      short : length (polled ++ t.gave ∷ []) ≤ polls
      short = omega (arith, length-append polled (t.gave ∷ []), few)

      by : (e : FollowEnd) → Takes old new t.gave t.wrote (Err e)
          → Tells polls (polled ++ t.gave ∷ []) (wrote ++ t.wrote) e
      by Done takes = absurd takes
      by WriteFault takes = record {
        made = All-push IsMade polled t.gave made takes.0;
        lines = wrote;
        part = t.wrote;
        whole = all_but_last t.gave;
        are = refl;
        next =
            inl (
              short,
              subst (λ (p : Progress). IsFrontOf p.text (wrote ++ t.wrote)) (progress_more t.gave)
                  (takes.1 wrote),
            );
      }
      by OutOfMemory takes = (
        short,
        subst (AreLines (polled ++ t.gave ∷ []))
            (sym (append-nil wrote) ∙ ap (λ l. wrote ++ l) (sym takes)) (all_but_last t.gave),
      )

-- all polls were made, and the last line was written, or a front of it
module _ (polls newer lost : ℕ) (held : Option FeedValue) (polled : List (Result FeedValue PollEnd))
    (wrote sent : List ℕ)
    (count : length polled ≡ polls) (made : All IsMade polled)
    (stands : parts held newer lost wrote ≡ progress_of polled)
  where
    pub told_all : sent ≡ total_line polls newer lost → Tells polls polled (wrote ++ sent) Done
    told_all is = ((count, made), ap (λ l. wrote ++ l) is ∙ ap (told_of polls) stands)

    all_lines : AreLines polled wrote
    all_lines = record {
      told = polled;
      last = [];
      cut = sym (append-nil polled);
      one = omega arith;
      made = made;
      are = ap (λ (p : Progress). p.text) stands;
    }

    pub told_front : (end : FollowEnd) → IsWritten (total_line polls newer lost) sent (Err end)
        → Tells polls polled (wrote ++ sent) end
    told_front Done w = absurd w
    told_front WriteFault w = record {
      made = made;
      lines = wrote;
      part = sent;
      whole = all_lines;
      are = refl;
      next =
          inr (
            count,
            subst (λ (p : Progress). IsFrontOf (told_of polls p) (wrote ++ sent)) stands
                (front_behind wrote (total_line polls newer lost) sent w),
          );
    }
    told_front OutOfMemory w = (
      omega (arith, count),
      subst (AreLines polled) (sym (append-nil wrote) ∙ ap (λ l. wrote ++ l) (sym w)) all_lines,
    )
