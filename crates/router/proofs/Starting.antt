-- The passes of a new router.
use Rattle.std.proofs.Common.{◌≡◌, ℕ, zero, suc, List, [], ◌∷◌, map, Some, Option, slice_get, ap}
use Rattle.std.proofs.Common.{sym, ◌∙◌, subst}
use Rattle.std.specs.Prelude.{All}
use Rattle.std.proofs.lemmas.List.Elements.{All-head, All-tail}
use Rattle.load_words.specs.Seats.{IsUnused}
use Rattle.machine.specs.declared.settings.Settings.{Settings}
use Rattle.machine.specs.Values.{SettingsValue}
use Rattle.snap_cell.specs.declared.kept.Origin.{Origin}
use Rattle.snap_cell.specs.declared.reader.Reader.{Reader}
use Rattle.snap_cell.specs.Views.{EachNew, EachThere}
use Rattle.router.specs.declared.call.Call.{Call as Shown}
use Rattle.router.specs.declared.current.Current.{Current}
use Rattle.router.specs.declared.update.Update.{Update}
use Rattle.router.specs.declared.naming.Naming.{Ghosts}
use Rattle.router.specs.declared.pass.Pass.{Pass}
use Rattle.router.specs.Opening.{AreNew, IsReady}
use Rattle.router.specs.Update.{operations_of}
use Rattle.router.specs.Values.{settings_in, IsEmpty}
use Rattle.router.specs.Views.{calls_of}
use Rattle.router.proofs.Closing.{map_get, all_of_each}

abbrev Readers : Type 0
Readers = List (Reader Current Update Shown (Settings × List Update))

-- each of the readers of a new cell may begin a pass
pub ready_are : (origin : Origin Current Update) (cell : Option (Origin Current Update))
    (settings : SettingsValue) (rs : Readers) → EachNew origin rs → EachThere rs
    → IsEmpty origin.opening.value → settings_in origin.opening.value ≡ settings
    → Some origin ≡ cell → All (IsReady cell settings) rs
ready_are origin cell settings rs each there empty are named =
    all_of_each (IsReady cell settings) rs (λ i r at.
    let new = each i r at in record {
      of_cell = ap Some new.cell ∙ named;
      there = there i r at;
      empty = subst (λ (o : Origin Current Update). IsEmpty o.opening.value) (sym new.cell) empty;
      settings_are = ap (λ (o : Origin Current Update). settings_in o.opening.value) new.cell ∙ are;
      seen = new.seen;
      items = new.items;
    })

all_get : {A : Type 0} (P : A → Type 0) (xs : List A) (i : ℕ) (x : A) → All P xs
    → slice_get xs i ≡ Some x → P x
all_get P [] i x all at = absurd cc
all_get P (y ∷ xs) zero x all at = let e : y ≡ x = cc at in subst P e (All-head P y xs all)
all_get P (y ∷ xs) (suc i) x all at = all_get P xs i x (All-tail P y xs all) at

module _ {J : Type 0} {g : Ghosts J} where
  -- passes that are made of them are new
  pub new_are : (ps : List (Pass J g)) (readers : Readers) (cell : Origin Current Update)
      → map (λ (p : Pass J g). p.reader) ps ≡ readers → EachNew cell readers
      → All (λ (p : Pass J g). IsUnused p.seat) ps → AreNew ps
  new_are ps readers cell are each unused i p at =
      let there = subst (λ (rs : Readers). slice_get rs i ≡ Some p.reader) are
      (map_get (λ (p : Pass J g). p.reader) ps i p at) in
      let r = each i p.reader there in
      let s = all_get (λ (p : Pass J g). IsUnused p.seat) ps i p unused at in record {
        number_is = r.number;
        seen = ap operations_of r.seen;
        items = ap calls_of r.items;
        refusals = r.refusals;
        reads = s.1;
        taken = s.2;
        slot = s.0;
      }
