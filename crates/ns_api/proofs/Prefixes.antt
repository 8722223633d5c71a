-- Prefixes by the function that computes them.
use Rattle.std.proofs.Common.{◌≡◌, ℕ, List, Option, Some, None, refl}
use Rattle.dtab_table.specs.Pattern.{Pattern}
use Rattle.dtab_table.specs.TableGrammar.{PrefixText}
use Rattle.dtab_table.proofs.PrefixLaws.{prefix_laws}
use Rattle.ns_api.specs.JsonTable.{prefix_of}

pub prefix_known : (text : List ℕ) (prefix : List Pattern) → PrefixText text prefix
    → prefix_of text ≡ Some prefix
unfolding prefix_of
prefix_known text prefix is = prefix_laws.reads text prefix is

pub prefix_spelled : (text : List ℕ) (prefix : List Pattern) → prefix_of text ≡ Some prefix
    → PrefixText text prefix
unfolding prefix_of
prefix_spelled text prefix is = prefix_laws.gives text prefix is

pub prefix_unknown : (text : List ℕ) → ((prefix : List Pattern) → PrefixText text prefix → ⊥)
    → prefix_of text ≡ None
prefix_unknown text other = go (prefix_of text) refl
  where
    go : (o : Option (List Pattern)) → prefix_of text ≡ o → prefix_of text ≡ None
    go None e = e
    go (Some prefix) e = absurd (other prefix (prefix_spelled text prefix e))
