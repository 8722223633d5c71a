-- Connections that are kept: one that is taken out, and one that is put aside.
use Rattle.std.proofs.Common.{◌≡◌, ℕ, Bool, true, List, [], ◌∷◌, ◌++◌, map, sym, subst, ap, ◌∙◌}
use Rattle.std.proofs.Common.{Option, Some}
use Rattle.std.proofs.lemmas.List.{map-append}
use Rattle.line_base.proofs.Kept.{some_same, takes_out_by}
use Rattle.line_base.specs.Dials.{PutsAside, TakesOut, WasTaken}
use Rattle.line_doubles.specs.Memory.{address_of}
use Rattle.line_doubles.specs.declared.link.MemLink.{MemLink}

-- a connection that was taken out leads where it leads
pub takes_out : (link : MemLink) (ip port : ℕ) (old new : List MemLink) → link.ip ≡ ip
    → link.port ≡ port → WasTaken link old new
    → TakesOut true (ip, port) (map address_of old) (map address_of new)
takes_out link ip port old new here at w = takes_out_by address_of link ip port old new here at w

-- the open connection was put behind the others
pub puts_aside : (open_to : Option (ℕ × ℕ)) (address : ℕ × ℕ) (quiet : Bool)
    (old new : List MemLink) → open_to ≡ Some address
    → new ≡ old ++ record { ip = address.0; port = address.1; is_quiet = quiet } ∷ []
    → PutsAside open_to (map address_of old) (map address_of new)
puts_aside open_to address quiet old new is put =
    subst (λ (o : Option (ℕ × ℕ)). PutsAside o (map address_of old) (map address_of new)) (sym is)
    (some_same (map address_of new) (map address_of old ++ address ∷ [])
    (ap (map address_of) put ∙ map-append address_of old _))
