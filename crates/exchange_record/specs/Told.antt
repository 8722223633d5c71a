-- What a recorder is told of exchanges.
use Rattle.std.specs.Prelude.{◌≡◌, List, [], ◌∷◌, Option}
use Rattle.std.specs.Option.{option_copied}
use Rattle.exchange_tally.specs.declared.done.Done.{Done}
use Rattle.http_wire.specs.declared.head.Head.{Head}
use Rattle.line_base.specs.declared.socket_address.SocketAddress.{SocketAddress}
use Rattle.name_tree.specs.Path.{Labels}
use Rattle.exchange_record.specs.declared.exchange.Exchange.{Exchange}

-- an exchange that has ended: its client's address, the head of its request and the path that this
-- was identified as, where it has them, and what it was in numbers
pub record Told : Type 0 where
  pub client : Option SocketAddress
  pub head : Option Head
  pub name : Option Labels
  pub done : Done

abbrev pub told_of : Exchange → Told
told_of e = record {
  client = e.client;
  head = option_copied e.head;
  name = option_copied e.name;
  done = e.done;
}

-- a recorder was told of these exchanges, one after another: that each began, and then what it was
abbrev pub Records : {S : Type 0} → (S → S → Type 0) → (S → Told → S → Type 0) → S → List Told → S
    → Type 0
Records begins ends old [] new = new ≡ old
Records {S} begins ends old (told ∷ more) new =
    (begun : S) × (ended : S) × begins old begun × ends begun told ended
    × Records begins ends ended more new
