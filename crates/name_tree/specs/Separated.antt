-- What stands before the parts of a list in a text.
use Rattle.std.specs.Prelude.{ℕ, zero, suc, List, []}

-- the separator, which stands before each part but the first
abbrev pub separated : ℕ → List ℕ → List ℕ
separated zero separator = []
separated (suc at) separator = separator
