-- A slot that is held for a time.
use Rattle.std.proofs.Common.{◌≡◌, ℕ, [], ◌∷◌, ◌++◌, refl, sym, ap, ◌∙◌, append-nil, Option, Some}
use Rattle.std.proofs.Common.{None}
use Rattle.std.specs.Option.{option_to_list}
use Rattle.router.specs.declared.naming.Naming.{Ghosts}
use Rattle.router.specs.declared.pass.Pass.{Pass}
use Rattle.router.specs.Passes.{SameReading, reads_in, slot_in, taken_in}
use Rattle.proxy_session.specs.Callers.{Caller, Holds, caller_of}

-- nothing was held
pub holds_none : (old : Caller) (slot : Option ℕ) → slot ≡ None → old.slot ≡ None
    → Holds old old slot
holds_none old slot none free = record {
  number = refl;
  seen = refl;
  items = refl;
  reads = refl;
  taken =
      sym (append-nil old.taken) ∙ ap (λ (o : Option ℕ). old.taken ++ option_to_list o) (sym none);
  slot = free;
}

module _ {J : Type 0} {g : Ghosts J} where
  -- a slot was held, and given back
  pub holds_one : (old mid new : Pass J g) (slot : Option ℕ) (word : ℕ) → slot ≡ Some word
      → SameReading old mid → taken_in mid ≡ taken_in old ++ word ∷ [] → reads_in mid ≡ reads_in old
      → SameReading mid new → taken_in new ≡ taken_in mid → reads_in new ≡ reads_in mid
      → slot_in new ≡ None
      → Holds (caller_of old) (caller_of new) slot
  holds_one old mid new slot word some first took read second gave reread free = record {
    number = second.number ∙ first.number;
    seen = second.seen ∙ first.seen;
    items = second.items ∙ first.items;
    reads = reread ∙ read;
    taken = gave ∙ (took ∙ ap (λ (o : Option ℕ). taken_in old ++ option_to_list o) (sym some));
    slot = free;
  }
