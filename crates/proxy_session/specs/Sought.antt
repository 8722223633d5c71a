-- What the code knows of a request for which a replica is sought.
use Rattle.std.specs.Prelude.{⊤, Result, Ok, Err}
use Rattle.dtab_table.specs.Dtab.{rules_of}
use Rattle.http_wire.specs.declared.head.Head.{Head}
use Rattle.identifier.specs.declared.rule.Rule.{Rule}
use Rattle.own_reply.specs.declared.request.Refusal.{Refusal}
use Rattle.own_reply.specs.declared.request.Refusal.TheVariants.{Own, OutOfMemory}
use Rattle.proxy_session.specs.declared.seeking.SoughtRequest.{SoughtRequest}
use Rattle.proxy_session.specs.Seeking.{Seeks, Sought}

abbrev pub sought_of : SoughtRequest → Sought
sought_of r = record {
  path = r.ask.path;
  rules = rules_of r.ask.local;
  framing = r.framing;
  host = r.host.items;
  line = r.target.line.items;
}

-- what was read of a request, or why it is refused
abbrev pub SeeksAs : Rule → Head → Result SoughtRequest Refusal → Type 0
SeeksAs rule head (Ok r) = Seeks rule head (Ok (sought_of r))
SeeksAs rule head (Err (Own err)) = Seeks rule head (Err err)
SeeksAs rule head (Err OutOfMemory) = ⊤
