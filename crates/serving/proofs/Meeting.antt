-- All passes but the last one have met it, and it goes behind them.
use Rattle.std.proofs.Common.{◌≡◌, ℕ, ◌+◌, ◌≤◌, ◌<◌, List, [], ◌∷◌, ◌++◌, length, ap, arith, sym}
use Rattle.std.proofs.Common.{subst, ◌∙◌}
use Rattle.std.specs.List.{AllByRecursion}
use mathlib.Core.List.{IsPrefix}
use Rattle.router.specs.declared.naming.Naming.{Ghosts}
use Rattle.router.specs.declared.pass.Pass.{Pass}
use Rattle.router.specs.Closing.{numbers_of}
use Rattle.router.specs.Passes.{number_in, seen_in}
use Rattle.router_log.specs.Operation.{Operation}
use Rattle.serving.specs.Passes.{AreFree}
use Rattle.serving.proofs.Chains.{numbers_append, same_length}

module _ {J : Type 0} {g : Ghosts J} where
  -- the numbers stay
  pub numbers_met : (all rest met more : List (Pass J g)) (last later : Pass J g)
      → all ≡ rest ++ last ∷ [] → more ≡ met ++ later ∷ [] → number_in later ≡ number_in last
      → numbers_of met ≡ numbers_of rest → numbers_of more ≡ numbers_of all
  numbers_met all rest met more last later cut grown same numbers =
      ap numbers_of grown ∙ (numbers_append met (later ∷ [])
      ∙ (ap (λ (ns : List ℕ). ns ++ number_in later ∷ []) numbers
      ∙ (ap (λ (n : ℕ). numbers_of rest ++ n ∷ []) same
      ∙ (sym (numbers_append rest (last ∷ [])) ∙ sym (ap numbers_of cut)))))

  -- those before the last one are free where all are
  pub free_front : (all rest : List (Pass J g)) (last : Pass J g) → all ≡ rest ++ last ∷ []
      → AreFree all → AreFree rest
  free_front all rest last cut free = front rest (subst AreFree cut free)
    where
      front : (ps : List (Pass J g)) → AreFree (ps ++ last ∷ []) → AreFree ps
      front [] f = tt
      front (p ∷ ps) f = (f.0, front ps f.1)

  -- there is room for the last one behind those that met it
  pub room_for_last : (rest met : List (Pass J g)) (len len_met all room room_met : ℕ)
      → numbers_of met ≡ numbers_of rest → len ≡ length rest → len_met ≡ length met
      → len + 1 ≡ all → all ≤ room → room_met ≡ room → len_met < room_met
  room_for_last rest met len len_met all room room_met numbers is met_is one fits kept =
      let same = same_length met rest numbers in
      omega (arith, same, is, met_is, one, fits, kept)

  -- there is room for all where none has met it
  pub room_for_all : (met left others : List (Pass J g)) (len room : ℕ) → met ≡ []
      → left ≡ others → len ≡ length others → len ≤ room → length met + length left ≤ room
  room_for_all met left others len room none same is fits =
      let no_met : length met ≡ 0 = ap length none in
      let all : length left ≡ length others = ap length same in
      omega (arith, no_met, all, is, fits)

  pub room_by : (met : List (Pass J g)) (len left room : ℕ) → len ≡ length met
      → length met + left ≤ room → len + left ≤ room
  room_by met len left room is fits = omega (arith, is, fits)

  pub seen_by_none : (seen : List Operation) (met : List (Pass J g)) → met ≡ []
      → AllByRecursion (λ (p : Pass J g). IsPrefix seen (seen_in p)) met
  seen_by_none seen met none =
      subst (λ (ps : List (Pass J g)). AllByRecursion (λ (p : Pass J g). IsPrefix seen (seen_in p))
      ps)
      (sym none) tt
