-- Behind which requests a connection ends.
use Rattle.std.specs.Prelude.{ℕ, ◌==◌, ◌||◌, Bool, true, false, Option, Some, None}
use Rattle.http_wire.specs.declared.ended.Ended.{Ended}
use Rattle.http_wire.specs.declared.ended.Ended.TheVariants as ended
use Rattle.http_wire.specs.declared.head.Head.{Head}
use Rattle.http_wire.specs.Fields.{names_close}

-- the most requests of one connection, over all its stays
abbrev pub most_requests : ℕ
most_requests = 10000

-- a request behind which its connection closes, whatever the reply is: one of HTTP/1.0, and one
-- that asks for that
abbrev pub asks_to_close : Head → Bool
asks_to_close head = (head.version == 0) || names_close head.fields

-- how the connection ends behind a reply that closes it or not, and that is the last one or not. It
-- is spent where that is because of the last request alone
abbrev pub end_of : Bool → Bool → Option Ended
end_of true last = Some ended.Closed
end_of false true = Some ended.Spent
end_of false false = None
