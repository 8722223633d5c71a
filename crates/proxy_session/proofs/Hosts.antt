-- Whom a request asks that goes on.
use Rattle.std.proofs.Common.{◌≡◌, ℕ, List, refl, Result, Ok, Err, OnOk}
use Rattle.dtab_table.specs.Dtab.{rules_of}
use Rattle.forward.specs.declared.going.Going.{Going}
use Rattle.forward.specs.Forwarded.{forwarded}
use Rattle.http_wire.specs.declared.head.Head.{Head}
use Rattle.std.specs.declared.alloc.AllocError.{AllocError}
use Rattle.proxy_session.specs.Onward.{IsHeadTo}

-- the head that was written for a way
pub heads_to : (head : Head) (to : Going) (bytes : List ℕ) (r : Result (Unit {0}) AllocError)
    → OnOk r (bytes ≡ forwarded head to)
    → OnOk r (IsHeadTo head to.host.now to.target.now to.framing (rules_of to.local.now)
    to.service.now to.closes to.client.now to.residual.now bytes)
heads_to head to bytes (Ok x) is = record {
  to = to;
  host_is = refl;
  line_is = refl;
  framing_is = refl;
  rules_are = refl;
  service_is = refl;
  client_is = refl;
  residual_is = refl;
  closes_is = refl;
  bytes_are = is;
}
heads_to head to bytes (Err e) is = tt
