-- How a response goes out.
use Rattle.std.specs.Prelude.{◌≡◌, ◌||◌, Bool}
use Rattle.http_wire.specs.declared.head.Head.{Head}
use Rattle.api_wire.specs.declared.delivery.Delivery.{Delivery}
use Rattle.api_wire.specs.declared.reply.ApiReply.{ApiReply}
use Rattle.api_wire.specs.Request.{accepts_dtab, closes, has_body}
use Rattle.api_wire.specs.Response.{ResponseValue, bytes_of}

-- how the response to a request goes out
abbrev pub delivery_of : Head → Bool → Delivery
delivery_of head last =
    record {
      as_dtab = accepts_dtab head.fields;
      closing = closes head last;
      with_body = has_body head;
    }

-- the bytes of a response as they go out, and whether the program is to stop, before which the
-- connection closes
pub record IsWritten (said : ResponseValue) (delivery : Delivery) (stops : Bool)
    (reply : ApiReply) : Type 0 where
  pub bytes : reply.bytes.items ≡ bytes_of said (stops || delivery.closing) delivery.with_body
  pub ends : reply.stops ≡ stops
