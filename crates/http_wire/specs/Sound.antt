-- What holds of each head that was read, whatever it asks: its texts have the bytes that may stand
-- in their places, and so may go on.
use Rattle.std.specs.Prelude.{ℕ, ◌<◌, ◌≤◌, List, length, All, IsUtf8, IfSome}
use Rattle.httparse.specs.Grammar.{AllPass, IsToken, is_uri_byte, is_value_byte}
use Rattle.http_wire.specs.declared.head.Head.{Head}
use Rattle.http_wire.specs.declared.head.ReplyHead.{ReplyHead}
use Rattle.http_wire.specs.declared.target.Target.{Target}
use Rattle.http_wire.specs.Heads.{IsSoundField}

-- a target that may stand in a request line: one or more visible bytes and bytes past ASCII, which
-- are UTF-8
pub record IsSoundTarget (text : List ℕ) : Type 0 where
  pub some : 0 < length text
  pub bytes : AllPass is_uri_byte text
  pub utf8 : IsUtf8 text

-- the head of a request
pub record IsSoundHead (head : Head) : Type 0 where
  pub method : IsToken head.method
  pub target : IsSoundTarget head.target
  pub version : head.version ≤ 1
  pub fields : All IsSoundField head.fields

-- the head of a reply
pub record IsSoundReply (head : ReplyHead) : Type 0 where
  pub version : head.version ≤ 1
  pub status : head.status < 1000
  pub reason : AllPass is_value_byte head.reason
  pub fields : All IsSoundField head.fields

-- a target that was read: its line may stand in a request line, and its authority in a field
pub record IsSoundForm (target : Target) : Type 0 where
  pub line : IsSoundTarget target.line.items
  pub authority : IfSome target.authority (λ a. AllPass is_value_byte a.items)
