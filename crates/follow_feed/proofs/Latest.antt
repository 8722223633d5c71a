-- The greatest of some feeds.
use Rattle.std.proofs.Common.{◌≡◌, ℕ, List, [], ◌∷◌, ◌++◌, Option, Some, None, Bool, true, false}
use Rattle.std.proofs.Common.{refl, ap, sym, ◌∙◌, subst, inl, inr, arith, append_assoc}
use Rattle.std.specs.Prelude.{◌==◌, ◌&&◌, ◌||◌, ◌⊎◌, nat_lt, if◌then◌else◌, Contains, All, fold}
use Rattle.std.proofs.lemmas.Bool.Decides.{nat_tests}
use Rattle.std.proofs.lemmas.List.{append-nil}
use Rattle.std.proofs.lemmas.List.Elements.{All-head, All-tail, Contains-append_left, Contains-push}
use Rattle.std.proofs.lemmas.List.Elements.{Contains-push_cases}
use Rattle.follow_feed.specs.Feeds.{FeedValue, Run, space_at}
use Rattle.follow_feed.specs.Following.{Agrees, Followed, HasOwnNumbers, IsGreatest, IsLeaders}
use Rattle.follow_feed.specs.Following.{Sent, is_later, is_news, taken}

-- of two pairs of run and place
after_pair : ℕ → ℕ → ℕ → ℕ → Bool
after_pair r p s q = nat_lt s r || ((s == r) && nat_lt q p)

never_self : (r p : ℕ) → (nat_lt r r || ((r == r) && nat_lt p p)) ≡ false
never_self r p = grind (arith, nat_tests)

-- what is not later than the one is not later than one that is later than it
still_earlier : (r p s q t u : ℕ) → (nat_lt s r || ((s == r) && nat_lt q p)) ≡ true
    → (nat_lt s t || ((s == t) && nat_lt q u)) ≡ false
    → (nat_lt r t || ((r == t) && nat_lt p u)) ≡ false
still_earlier r p s q t u later earlier = grind (arith, nat_tests)

none_in : (f : FeedValue) → Contains [] f → ⊥
none_in f c = omega (arith, c.1)

greatest_of_one : (came : List FeedValue) (f : FeedValue) → came ≡ []
    → IsGreatest (came ++ f ∷ []) f
greatest_of_one came f none = record {
  among = Contains-push came f;
  greatest = λ other c. by other (Contains-push_cases came f other c);
}
  where
    by : (other : FeedValue) → Contains came other ⊎ (f ≡ other) → is_later other f ≡ false
    by other (inl c) = absurd
        (none_in other (subst (λ (l : List FeedValue). Contains l other) none c))
    by other (inr same) =
        subst (λ (g : FeedValue). is_later g f ≡ false) same (never_self f.run f.place)

later_is_greatest : (came : List FeedValue) (held f : FeedValue) → is_later f held ≡ true
    → IsGreatest came held → IsGreatest (came ++ f ∷ []) f
later_is_greatest came held f later h = record {
  among = Contains-push came f;
  greatest = λ other c. by other (Contains-push_cases came f other c);
}
  where
    by : (other : FeedValue) → Contains came other ⊎ (f ≡ other) → is_later other f ≡ false
    by other (inl c) =
        still_earlier f.run f.place held.run held.place other.run other.place later
        (h.greatest other c)
    by other (inr same) =
        subst (λ (g : FeedValue). is_later g f ≡ false) same (never_self f.run f.place)

held_is_greatest : (came : List FeedValue) (held f : FeedValue) → is_later f held ≡ false
    → IsGreatest came held → IsGreatest (came ++ f ∷ []) held
held_is_greatest came held f earlier h = record {
  among = Contains-append_left came (f ∷ []) held h.among;
  greatest = λ other c. by other (Contains-push_cases came f other c);
}
  where
    by : (other : FeedValue) → Contains came other ⊎ (f ≡ other) → is_later other held ≡ false
    by other (inl c) = h.greatest other c
    by other (inr same) = subst (λ (g : FeedValue). is_later g held ≡ false) same earlier

-- one more feed
pub follows_more : (came : List FeedValue) (held : Option FeedValue) (f : FeedValue)
    → Followed came held
    → Followed (came ++ f ∷ []) (taken held f)
follows_more came None f none = greatest_of_one came f none
follows_more came (Some held) f h = by (is_later f held) refl
  where
    by : (b : Bool) → is_later f held ≡ b
        → Followed (came ++ f ∷ []) (if b then Some f else Some held)
    by true e = later_is_greatest came held f e h
    by false e = held_is_greatest came held f e h

pub follows_news : (came : List FeedValue) (held : Option FeedValue) (f : FeedValue)
    → is_news held f ≡ true
    → Followed came held → Followed (came ++ f ∷ []) (Some f)
follows_news came held f e h =
    let P : Bool → Type 0 = λ b. Followed (came ++ f ∷ []) (if b then Some f else held) in
    subst P e (follows_more came held f h)

pub follows_old : (came : List FeedValue) (held : Option FeedValue) (f : FeedValue) → is_news held f
    ≡ false
    → Followed came held → Followed (came ++ f ∷ []) held
follows_old came held f e h =
    let P : Bool → Type 0 = λ b. Followed (came ++ f ∷ []) (if b then Some f else held) in
    subst P e (follows_more came held f h)

-- a feed that the leader sent is the leader's
pub is_leaders : (leader : List Run) (space : List ℕ) (f : FeedValue) → HasOwnNumbers leader
    → Sent leader space f → IsLeaders leader space f
is_leaders leader space f own sent = record {
  sent = sent;
  at_place = λ run c number.
      let named : sent.run.number ≡ f.run = ap (λ (g : FeedValue). g.run) (sym sent.is) in
      let same : sent.run ≡ run = own sent.run run sent.known c (named ∙ sym number) in
      let at : f.place ≡ sent.place = ap (λ (g : FeedValue). g.place) sent.is in
      let table : f.table ≡ space_at sent.run sent.place space =
      ap (λ (g : FeedValue). g.table) sent.is in
      (table ∙ ap (λ (r : Run). space_at r sent.place space) same)
      ∙ ap (λ n. space_at run n space) (sym at);
}

pub agrees_more : (leader : List Run) (space : List ℕ) (held : Option FeedValue) (f : FeedValue)
    → HasOwnNumbers leader → Sent leader space f → Agrees leader space held
    → Agrees leader space (taken held f)
agrees_more leader space None f own sent h = is_leaders leader space f own sent
agrees_more leader space (Some held) f own sent h = by (is_later f held)
  where
    by : (b : Bool) → Agrees leader space (if b then Some f else Some held)
    by true = is_leaders leader space f own sent
    by false = h

-- and after a whole list
follows_all : (came : List FeedValue) (held : Option FeedValue) (fs : List FeedValue)
    → Followed came held
    → Followed (came ++ fs) (fold taken held fs)
follows_all came held [] h =
    subst (λ (l : List FeedValue). Followed l held) (sym (append-nil came)) h
follows_all came held (f ∷ fs) h =
    subst (λ (l : List FeedValue). Followed l (fold taken (taken held f) fs))
    (append_assoc came (f ∷ []) fs)
    (follows_all (came ++ f ∷ []) (taken held f) fs (follows_more came held f h))

pub holds_greatest : (fs : List FeedValue) → Followed fs (fold taken None fs)
holds_greatest fs = follows_all [] None fs refl

agrees_all : (leader : List Run) (space : List ℕ) (held : Option FeedValue) (fs : List FeedValue)
    → HasOwnNumbers leader → All (Sent leader space) fs → Agrees leader space held
    → Agrees leader space (fold taken held fs)
agrees_all leader space held [] own sent h = h
agrees_all leader space held (f ∷ fs) own sent h =
    agrees_all leader space (taken held f) fs own (All-tail (Sent leader space) f fs sent)
    (agrees_more leader space held f own (All-head (Sent leader space) f fs sent) h)

pub holds_leaders : (leader : List Run) (space : List ℕ) (fs : List FeedValue)
    → HasOwnNumbers leader
    → All (Sent leader space) fs → Agrees leader space (fold taken None fs)
holds_leaders leader space fs own sent = agrees_all leader space None fs own sent tt
