-- What paths name by themselves.
use Rattle.std.specs.Prelude.{◌&&◌, if◌then◌else◌, [], ◌∷◌, codes, Option, Some, None, option_map}
use Rattle.std.specs.Option.{option_or}
use Rattle.std.specs.Str.{bytes_eq}
use Rattle.std.specs.FinMap.{contains_key}
use Rattle.name_tree.specs.Path.{Labels}
use Rattle.addr_book.specs.declared.leaf.Leaf.{Leaf}
use Rattle.addr_book.specs.declared.leaf.Cluster.{Cluster}
use Rattle.addr_book.specs.declared.leaf.Cluster.TheVariants.{Inet, Fs}
use Rattle.addr_book.specs.Addr.{addr_of, host_value, port_value}
use Rattle.addr_book.specs.Book.{Contents, Services}

-- the leaf of some replicas, with the labels that named them and those behind
abbrev pub leaf_at : Labels → Labels → Cluster → Leaf
leaf_at client residual cluster = record { cluster = cluster; client = client; residual = residual }

-- `/$/inet/HOST/PORT` names an address
abbrev pub named_addr : Labels → Option Leaf
named_addr (dollar ∷ inet ∷ host ∷ port ∷ residual) =
    if bytes_eq dollar (codes "$") && bytes_eq inet (codes "inet")
    then option_map (λ addr. leaf_at (dollar ∷ inet ∷ host ∷ port ∷ []) residual (Inet addr))
    (addr_of (host_value host) (port_value port))
    else None
named_addr _ = None

-- `/#/io.l5d.fs/SERVICE` names the addresses of a service of the book, whether it has any or not
abbrev pub named_service : Services → Labels → Option Leaf
named_service services (hash ∷ fs ∷ service ∷ residual) =
    if (bytes_eq hash (codes "#") && bytes_eq fs (codes "io.l5d.fs"))
    && contains_key services service
    then Some (leaf_at (hash ∷ fs ∷ service ∷ []) residual (Fs service))
    else None
named_service services _ = None

-- the labels behind these are the residual. Every other path names nothing
abbrev pub named_in : Contents → Labels → Option Leaf
named_in book path = option_or (named_addr path) (named_service book.services path)
