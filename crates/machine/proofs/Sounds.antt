-- Tables stay sound.
use Rattle.std.proofs.Common.{◌≡◌, ℕ, List, [], ◌∷◌, ◌++◌, Bool, true, false, Option, Some, None}
use Rattle.std.proofs.Common.{cond, nat_cmp, refl, sym, subst, ◌∙◌}
use Rattle.std.specs.Cmp.Lexicographic.{slice_cmp, nat_list_cmp_total}
use Rattle.std.specs.Ordering.{eq_by_cmp}
use Rattle.std.specs.FinMap.{get, empty, insert, remove, get-empty, get-insert, get-remove}
use Rattle.dtab_table.specs.Rules.{Rule}
use Rattle.dtab_table.specs.TableCanon.{AreSoundRules}
use Rattle.ns_store.specs.Contents.{Space, Spaces}
use Rattle.machine.specs.Sound.{AreSoundSpaces}
use Rattle.machine.specs.Values.{SettingsValue, StateValue}
use Rattle.machine.specs.Looking.{space_rules, effective}

pub AreSoundRules-append : (a b : List Rule) → AreSoundRules a → AreSoundRules b
    → AreSoundRules (a ++ b)
AreSoundRules-append [] b first second = second
AreSoundRules-append (r ∷ rs) b first second = (first.0, AreSoundRules-append rs b first.1 second)

same_space : (a b : Space) → Some a ≡ Some b → a ≡ b
same_space a b e = cc

pub sound_nothing : AreSoundSpaces empty
sound_nothing name space is = let e = sym (get-empty (slice_cmp nat_cmp) name) ∙ is in absurd (cc)

in_place : (b : Bool) (new found : Space) (old : Option Space) → AreSoundRules new.rules
    → (old ≡ Some found → AreSoundRules found.rules) → cond b (Some new) old ≡ Some found
    → AreSoundRules found.rules
in_place true new found old sound others is =
    subst (λ (s : Space). AreSoundRules s.rules) (same_space new found is) sound
in_place false new found old sound others is = others is

pub sound_set : (spaces : Spaces) (name : List ℕ) (new : Space) → AreSoundSpaces spaces
    → AreSoundRules new.rules → AreSoundSpaces (insert spaces name new)
sound_set spaces name new sound table q found is =
    in_place (eq_by_cmp (slice_cmp nat_cmp) q name) new found (get spaces q) table (sound q found)
    (sym (get-insert nat_list_cmp_total spaces name new q) ∙ is)

without : (b : Bool) (found : Space) (old : Option Space)
    → (old ≡ Some found → AreSoundRules found.rules) → cond b None old ≡ Some found
    → AreSoundRules found.rules
without true found old others is = absurd (cc)
without false found old others is = others is

pub sound_removed : (spaces : Spaces) (name : List ℕ) → AreSoundSpaces spaces
    → AreSoundSpaces (remove spaces name)
sound_removed spaces name sound q found is =
    without (eq_by_cmp (slice_cmp nat_cmp) q name) found (get spaces q) (sound q found)
    (sym (get-remove nat_list_cmp_total spaces name q) ∙ is)

-- the rules of a namespace, if it is there
pub sound_space : (spaces : Spaces) (name : List ℕ) → AreSoundSpaces spaces
    → AreSoundRules (space_rules (get spaces name))
sound_space spaces name sound = by_case (get spaces name) refl
  where
    by_case : (found : Option Space) → get spaces name ≡ found → AreSoundRules (space_rules found)
    by_case None is = tt
    by_case (Some space) is = sound name space is

-- the table of a request
pub sound_effective : (settings : SettingsValue) (state : StateValue) (own : List Rule)
    → AreSoundSpaces state.store.spaces → AreSoundRules settings.base → AreSoundRules own
    → AreSoundRules (effective settings state own)
sound_effective settings state own spaces base rules =
    AreSoundRules-append (space_rules (get state.store.spaces settings.space) ++ settings.base) own
    (AreSoundRules-append (space_rules (get state.store.spaces settings.space)) settings.base
    (sound_space state.store.spaces settings.space spaces) base) rules
