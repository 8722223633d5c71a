-- A target is served in one form alone.
use Rattle.std.proofs.Common.{◌≡◌, ℕ, List, Some, None, sym, ◌∙◌, inl, inr}
use Rattle.http_uri.specs.Uri.{uri_scheme, uri_authority, uri_data}
use Rattle.http_uri.proofs.Theorems.{Spells_unique}
use Rattle.http_wire.specs.Target.{served, Form, IsServed, IsNotServed}

same_form : (f g : Form) → Some f ≡ Some g → f ≡ g
same_form f g is = cc

-- two forms in which a target is served are one
pub one_form : (method text : List ℕ) (f g : Form) → IsServed method text f
    → IsServed method text g → f ≡ g
one_form method text f g (u, spells, is) (v, spells_too, is_too) =
    let same = Spells_unique text u v spells spells_too in
    same_form f g (sym is ∙ (λ k. served method text (same.0 k) (same.1 k)) ∙ is_too)

-- a target that is served in some form is not refused
pub not_refused : (method text : List ℕ) (f : Form) → IsServed method text f
    → IsNotServed method text → ⊥
not_refused method text f (u, spells, is) (inl spells_none) =
    spells_none (uri_scheme u) (uri_authority u) (uri_data u) spells
not_refused method text f (u, spells, is) (inr (v, spells_too, is_none)) =
    let same = Spells_unique text u v spells spells_too in
    let both : Some f ≡ None = sym is ∙ (λ k. served method text (same.0 k) (same.1 k)) ∙ is_none in
    absurd (cc)
