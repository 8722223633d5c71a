-- What is read of a head that is written here.
use Rattle.std.specs.Prelude.{◌≡◌, ◌^◌, ◌<◌, ◌≤◌, ℕ, List, [], ◌∷◌, length, map, codes, Ok}
use Rattle.httparse.specs.Grammar.{AllPass, is_value_byte, trim_ows}
use Rattle.name_tree.specs.Canon.{AreByteLabels}
use Rattle.dtab_table.specs.Dtab.{rules_of}
use Rattle.dtab_table.specs.Rules.{Rule}
use Rattle.dtab_table.specs.TableCanon.{AreSoundRules, canon_table}
use Rattle.http_wire.specs.declared.head.Head.{Head}
use Rattle.http_wire.specs.declared.frames.Framing.{Framing}
use Rattle.http_wire.specs.Fields.{values_of}
use Rattle.http_wire.specs.Framing.{framing_of}
use Rattle.http_wire.specs.Heads.{most, BeginsWith}
use Rattle.http_wire.specs.Sound.{IsSoundHead, IsSoundTarget}
use Rattle.forward.specs.declared.going.Going.{Going}
use Rattle.forward.specs.Forwarded.{forwarded}

-- a framing that a request may have
abbrev pub IsRequestFraming : Framing → Type 0
IsRequestFraming Framing.Nothing = Unit {0}
IsRequestFraming (Framing.Length n) = n < 2 ^ 63
IsRequestFraming Framing.Chunked = Unit {0}
IsRequestFraming Framing.ToEnd = ⊥

-- a way as requests go: each of its texts has the bytes that may stand in its place, so that none
-- ends a line of the head or begins another one; its host has no blank at an end, its paths are of
-- bytes, and its table is one that was read or made
pub record IsPlainWay (to : Going) : Type 0 where
  pub host_bytes : AllPass is_value_byte to.host.now
  pub host : trim_ows to.host.now ≡ to.host.now
  pub target : IsSoundTarget to.target.now
  pub framing : IsRequestFraming to.framing
  pub local : AreSoundRules (rules_of to.local.now)
  pub service : AreByteLabels to.service.now
  pub client : AllPass is_value_byte to.client.now
  pub residual : AllPass is_value_byte to.residual.now

-- the text of a table, unless it has no entry
abbrev pub table_texts : List Rule → List (List ℕ)
table_texts [] = []
table_texts (rule ∷ rules) = canon_table (rule ∷ rules) ∷ []

-- the bytes are one head and nothing behind it, which has the method, the target, the framing and
-- the one host that were meant, no table of a client, and of the routers' tables none but the one
-- that was meant
pub record ReadsBack (head : Head) (to : Going) (read : Head) : Type 0 where
  pub whole : BeginsWith (forwarded head to) read (length (forwarded head to))
  pub method : read.method ≡ head.method
  pub target : read.target ≡ to.target.now
  pub version : read.version ≡ 1
  pub framing : framing_of read.version read.fields ≡ Ok to.framing
  pub host : values_of (codes "host") read.fields ≡ to.host.now ∷ []
  pub no_table : values_of (codes "l5d-dtab") read.fields ≡ []
  pub table : values_of (codes "l5d-ctx-dtab") read.fields
      ≡ map trim_ows (table_texts (rules_of to.local.now))

-- what is written of a head that was read is read so, where it is no longer than a head may be
abbrev pub HeadsReadBack : Type 0
HeadsReadBack =
    (head : Head) (to : Going) → IsSoundHead head → IsPlainWay to
    → length (forwarded head to) ≤ most → (read : Head) × ReadsBack head to read
