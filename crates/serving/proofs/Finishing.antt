-- Connections that wait still are ended at a listener, one after another.
use Rattle.std.proofs.Common.{◌≡◌, ℕ, ◌+◌, ◌||◌, Bool, true, false, List, [], ◌∷◌, ◌++◌, length}
use Rattle.std.proofs.Common.{length-append, map, refl, sym, ap, ◌∙◌, arith}
use Rattle.std.specs.List.{AllByRecursion}
use Rattle.line_base.specs.Accepts.{Listening, after_finish}
use Rattle.line_base.specs.Nets.{Ended, Networking, after_end}
use Rattle.serving.specs.Returning.{all_ended, all_finished, having_finished, with_left_over}
use Rattle.serving.proofs.Returning.{more_finished}

-- of all of them the listener took these back, and so many wait still
pub record Finishes {P : Type 0} (Was : P → Type 0) (all left : ℕ) (old new : Listening P) : Type 0
  where
    pub peers : List P
    pub count : length peers + left ≡ all
    pub were : AllByRecursion Was peers
    pub state : new ≡ all_finished peers old

module _ {P : Type 0} (Was : P → Type 0) where
  all_more : (ps : List P) (p : P) → AllByRecursion Was ps → Was p
      → AllByRecursion Was (ps ++ p ∷ [])
  all_more [] p all one = (one, tt)
  all_more (q ∷ ps) p all one = (all.0, all_more ps p all.1 one)

  pub none_finished : (all : ℕ) (l : Listening P) → Finishes Was all all l l
  none_finished all l = record { peers = []; count = omega arith; were = tt; state = refl }

  pub one_finished : (all left next : ℕ) (old mid new : Listening P) (p : P)
      → Finishes Was all left old mid → next + 1 ≡ left → Was p → new ≡ after_finish mid p
      → Finishes Was all next old new
  one_finished all left next old mid new p f less was is = record {
    peers = f.peers ++ p ∷ [];
    count =
        let so_far = f.count in
        let more = length-append f.peers (p ∷ []) in
        omega (arith, so_far, more, less);
    were = all_more f.peers p f.were was;
    state = is ∙ (ap (λ (l : Listening P). after_finish l p) f.state
        ∙ more_finished f.peers (p ∷ []) old);
  }

  pub all_are_finished : (all left : ℕ) (old new : Listening P) → Finishes Was all left old new
      → left ≡ 0
      → (peers : List P) × (length peers ≡ all) × AllByRecursion Was peers
      × (new ≡ all_finished peers old)
  all_are_finished all left old new f none =
      let so_far = f.count in (f.peers, omega (arith, so_far, none), f.were, f.state)

-- whether one failed, or the next one does
pub or_first : (a b : Bool) → a ≡ true → a ≡ (a || b)
or_first true b is = refl
or_first false b is = cc is

pub or_second : (a b : Bool) → a ≡ false → b ≡ (a || b)
or_second true b is = cc is
or_second false b is = refl

-- peers were finished at the first one, which then came back, and the others behind it
pub ends_first : {A P : Type 0} (f : A → Ended P) (peers : List P) (whole rest : List A)
    (first : A) (e : Ended P) (net mid new : Networking P) → whole ≡ first ∷ rest
    → e ≡ having_finished peers (f first) → mid ≡ after_end net e
    → new ≡ all_ended (map f rest) mid
    → new ≡ all_ended (with_left_over peers (map f whole)) net
ends_first f peers whole rest first e net mid new cut is one others =
    others ∙ (ap (λ (n : Networking _). all_ended (map f rest) n)
    (one ∙ ap (after_end net) is)
    ∙ ap (λ (xs : List _). all_ended (with_left_over peers (map f xs)) net) (sym cut))
