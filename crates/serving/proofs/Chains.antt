-- What stays over many connections, and over the jobs that ran.
use Rattle.std.proofs.Common.{◌≡◌, append_assoc, ℕ, false, true, ◌||◌, Bool, ◌++◌, List, [], ◌∷◌}
use Rattle.std.proofs.Common.{length, ap, refl, ◌∙◌, ◌≢◌, ◌+◌, suc, Some, None, slice_get, arith}
use Rattle.std.proofs.Common.{sym, subst}
use Rattle.line_base.specs.Counts.{Rose}
use Rattle.std.specs.List.{AllZip}
use Rattle.one_history.specs.Order.{Distinct}
use Rattle.router.specs.declared.naming.Naming.{Ghosts}
use Rattle.router.specs.declared.pass.Pass.{Pass}
use Rattle.router.specs.Closing.{numbers_of}
use Rattle.router.specs.Opening.{AreNew}
use Rattle.router.specs.Passes.{number_in, slot_in}
use Rattle.router.proofs.Closing.{all_of_each, get_map, map_length}
use Rattle.std.proofs.lemmas.List.Elements.{All-head, All-tail}
use Rattle.waiting.specs.declared.hand.Hand.{Hand}
use Rattle.waiting.specs.Hands.{IsNew as IsNewHand}
use Rattle.serving.specs.Hands.{AreNewHands}
use Rattle.serving.specs.Passes.{AreFree}
use Rattle.serving.specs.Faults.{TellsFaults}
use Rattle.workers.specs.Runs.{ComesBack}
use Rattle.workers.specs.Turns.{ServesTurns, Turn}

module _ {W P S : Type 0} (serves : W → Turn P S → W → Type 0) (number : W → ℕ)
    (same : (w : W) (t : Turn P S) (v : W) → serves w t v → number v ≡ number w) where
  -- what no turn alters stays
  pub each_same : (old : W) (ts : List (Turn P S)) (new : W) → ServesTurns serves old ts new
      → number new ≡ number old
  each_same old [] new is = ap number is
  each_same old (t ∷ ts) new turns =
      each_same turns.0 ts new turns.2 ∙ same old t turns.0 turns.1

-- what one turn does shows in what is seen of the server, where what tells how it serves stays
module _ {W V R P S : Type 0} (serves : W → Turn P S → W → Type 0) (seen : W → V) (how : W → R)
    (shows : R → V → Turn P S → V → Type 0)
    (step : (w : W) (t : Turn P S) (v : W) → serves w t v
    → shows (how w) (seen w) t (seen v) × (how v ≡ how w)) where
  pub chain_shows : (r : R) (old : W) (ts : List (Turn P S)) (new : W) → how old ≡ r
      → ServesTurns serves old ts new → ServesTurns (shows r) (seen old) ts (seen new)
  chain_shows r old [] new is same = ap seen same
  chain_shows r old (t ∷ ts) new is all =
      let one = step old t all.0 all.1 in
      let shown = subst (λ (k : R). shows k (seen old) t (seen all.0)) is one.0 in
      (seen all.0, shown, chain_shows r all.0 ts new (one.1 ∙ is) all.2)

module _ {A B : Type 0} (runs : A → A → B → Type 0) where
  -- each job that ran comes back
  pub zip_length : (jobs : List A) (back : List (A × B)) → AllZip (ComesBack runs) jobs back
      → length back ≡ length jobs
  zip_length [] [] all = refl
  zip_length [] (b ∷ bs) all = absurd all
  zip_length (a ∷ js) [] all = absurd all
  zip_length (a ∷ js) (b ∷ bs) all = ap suc (zip_length js bs all.1)

-- numbers that count up are apart
rising : (k : ℕ) (ns : List ℕ) → ((i n : ℕ) → slice_get ns i ≡ Some n → n ≡ i + k) → Distinct ns
rising k [] at = tt
rising k (n ∷ ns) at = (
  all_of_each (λ m. m ≢ n) ns
      (λ i m is. λ same. absurd (omega (arith, at (suc i) m is, at 0 n refl, same))),
  rising (suc k) ns (λ i m is. omega (arith, at (suc i) m is)),
)

module _ {J : Type 0} {g : Ghosts J} where
  pub numbers_append : (ps qs : List (Pass J g)) → numbers_of (ps ++ qs)
      ≡ numbers_of ps ++ numbers_of qs
  numbers_append [] qs = refl
  numbers_append (p ∷ ps) qs = ap (λ (ns : List ℕ). number_in p ∷ ns) (numbers_append ps qs)

  -- one pass went from those that wait behind those that are done
  pub numbers_moved : (done whole rest more : List (Pass J g)) (p q : Pass J g) (all : List ℕ)
      → whole ≡ p ∷ rest → more ≡ done ++ q ∷ [] → number_in q ≡ number_in p
      → numbers_of done ++ numbers_of whole ≡ all → numbers_of more ++ numbers_of rest ≡ all
  numbers_moved done whole rest more p q all cut grown same is =
      ap (λ (ns : List ℕ). ns ++ numbers_of rest)
      (ap numbers_of grown ∙ numbers_append done (q ∷ []))
      ∙ (append_assoc (numbers_of done) (number_in q ∷ []) (numbers_of rest)
      ∙ (ap (λ (n : ℕ). numbers_of done ++ n ∷ numbers_of rest) same
      ∙ (ap (λ (ps : List (Pass J g)). numbers_of done ++ numbers_of ps) (sym cut) ∙ is)))

  -- passes that came back behind others
  pub numbers_back : (all old back ran : List (Pass J g)) → all ≡ old ++ back
      → numbers_of back ≡ numbers_of ran → numbers_of all ≡ numbers_of old ++ numbers_of ran
  numbers_back all old back ran is same = ap numbers_of is
      ∙ (numbers_append old back ∙ ap (λ (ns : List ℕ). numbers_of old ++ ns) same)

  -- the numbers stay while passes are handed to jobs and come back
  pub numbers_stay : (passes jobs rest ran all : List (Pass J g)) → jobs ++ rest ≡ passes
      → numbers_of ran ≡ numbers_of jobs → all ≡ ran ++ rest → numbers_of all ≡ numbers_of passes
  numbers_stay passes jobs rest ran all begun same ended =
      ap numbers_of ended ∙ (numbers_append ran rest
      ∙ (ap (λ (ns : List ℕ). ns ++ numbers_of rest) same
      ∙ (sym (numbers_append jobs rest) ∙ ap numbers_of begun)))

  -- the passes of a new router are apart
  pub new_apart : (ps : List (Pass J g)) → AreNew ps → Distinct (numbers_of ps)
  new_apart ps new =
      rising 0 (numbers_of ps) (λ i n is.
      let q = get_map (λ (p : Pass J g). number_in p) ps i n is in
      let at = (new i q.0 q.1).number_is in omega (arith, at, q.2))

  -- and stay so where they come back in their order
  pub met_apart : (ps qs : List (Pass J g)) → AreNew ps → numbers_of qs ≡ numbers_of ps
      → Distinct (numbers_of qs)
  met_apart ps qs new same = subst Distinct (sym same) (new_apart ps new)

  -- and none of them is in use
  pub new_free : (ps : List (Pass J g))
      → ((i : ℕ) (p : Pass J g) → slice_get ps i ≡ Some p → slot_in p ≡ None) → AreFree ps
  new_free [] new = tt
  new_free (p ∷ ps) new = (new 0 p refl, new_free ps (λ i q is. new (suc i) q is))

  -- as many as there are numbers
  pub same_length : (ps qs : List (Pass J g)) → numbers_of ps ≡ numbers_of qs
      → length ps ≡ length qs
  same_length ps qs same = sym (map_length (λ (p : Pass J g). number_in p) ps)
      ∙ (ap length same ∙ map_length (λ (p : Pass J g). number_in p) qs)

  -- the last one is free where all are
  pub free_end : (all rest : List (Pass J g)) (p : Pass J g) → all ≡ rest ++ p ∷ [] → AreFree all
      → slot_in p ≡ None
  free_end all rest p is free = last rest (subst AreFree is free)
    where
      last : (ps : List (Pass J g)) → AreFree (ps ++ p ∷ []) → slot_in p ≡ None
      last [] f = f.0
      last (q ∷ ps) f = last ps f.1

  -- the others are, too
  pub free_rest : (whole rest : List (Pass J g)) (p : Pass J g) → whole ≡ p ∷ rest → AreFree whole
      → AreFree rest
  free_rest whole rest p cut free = let all = subst AreFree cut free in all.1

  -- the first one is free where all are
  pub free_first : (whole rest : List (Pass J g)) (p : Pass J g) → whole ≡ p ∷ rest → AreFree whole
      → slot_in p ≡ None
  free_first whole rest p cut free = let all = subst AreFree cut free in all.0

  -- one more that is free
  pub free_push : (ps : List (Pass J g)) (p : Pass J g) → AreFree ps → slot_in p ≡ None
      → AreFree (ps ++ p ∷ [])
  free_push [] p free slot = (slot, tt)
  free_push (q ∷ ps) p free slot = (free.0, free_push ps p free.1 slot)

-- one more call of it
pub more_faults : (start old new : ℕ) (before now : Bool) (all : Bool) → all ≡ (before || now)
    → TellsFaults start old before → TellsFaults old new now → TellsFaults start new all
more_faults start old new true now all is first second = record {
  later = omega (arith, first.later, second.later);
  rose = λ rose. let r : Rose start old = first.rose refl in omega (arith, r, second.later);
  kept = λ kept. cc (is, kept);
}
more_faults start old new false now all is first second = record {
  later = omega (arith, first.later, second.later);
  rose = λ rose. let r : Rose old new = second.rose (sym is ∙ rose) in
      let same = first.kept refl in omega (arith, r, same);
  kept = λ kept. second.kept (sym is ∙ kept) ∙ first.kept refl;
}

-- a net that has not failed yet
pub no_fault : (n : ℕ) → TellsFaults n n false
no_fault n = record { later = omega arith; rose = λ is. cc is; kept = λ is. refl }

-- the next of new hands is new, and so are those behind it
pub new_first : {A B : Type 0} (whole rest : List (Hand A B)) (h : Hand A B) → whole ≡ h ∷ rest
    → AreNewHands whole → IsNewHand h
new_first whole rest h cut all = All-head IsNewHand h rest (subst AreNewHands cut all)

pub new_rest : {A B : Type 0} (whole rest : List (Hand A B)) (h : Hand A B) → whole ≡ h ∷ rest
    → AreNewHands whole → AreNewHands rest
new_rest whole rest h cut all = All-tail IsNewHand h rest (subst AreNewHands cut all)
