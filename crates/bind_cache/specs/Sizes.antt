-- How large a binding is.
use Rattle.std.specs.Prelude.{ℕ, ◌+◌, List, length, sum_by}
use Rattle.name_tree.specs.Path.{Labels, canon_path}
use Rattle.dtab_table.specs.Rules.{Rule}
use Rattle.dtab_table.specs.TableCanon.{canon_table}

-- the bytes of the canonical texts of a path, a table and some paths
abbrev pub text_bytes : Labels → List Rule → List Labels → ℕ
text_bytes path local asked =
    length (canon_table local) + length (canon_path path)
    + sum_by (λ p. length (canon_path p)) asked
