-- The names that were written.
use Rattle.std.specs.Prelude.{ℕ, List}
use Rattle.router.specs.declared.names.Names.{Names}

abbrev pub client_text : Names → List ℕ
client_text n = n.client.items

abbrev pub residual_text : Names → List ℕ
residual_text n = n.residual.items
