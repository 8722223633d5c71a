-- A dialer's connections over several calls.
use Rattle.std.proofs.Common.{ℕ, refl, sym, subst, ◌∙◌, Option}
use Rattle.std.specs.Option.{IsSome}
use Rattle.line_base.specs.Dials.{HasSameLinks, Upstream}

-- none of a call's own
pub links_same : (a : Upstream) → HasSameLinks a a
links_same a = record { open_to = refl; kept = refl; pool = refl }

-- over two calls
pub links_on : {a b c : Upstream} → HasSameLinks a b → HasSameLinks b c → HasSameLinks a c
links_on p q = record {
  open_to = q.open_to ∙ p.open_to;
  kept = q.kept ∙ p.kept;
  pool = q.pool ∙ p.pool;
}

-- what was open is open
pub still_open : {a b : Upstream} → HasSameLinks a b → IsSome a.open_to → IsSome b.open_to
still_open p open_ = subst (λ (o : Option (ℕ × ℕ)). IsSome o) (sym p.open_to) open_
