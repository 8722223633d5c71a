-- A token is the same to both libraries that read one.
use Rattle.std.proofs.Common.{ℕ, List, IsTrue}
use Rattle.std.proofs.lemmas.List.Elements.{All-weaker}
use Rattle.httparse.specs.Grammar.{IsToken, is_token_byte}
use Rattle.http_header.specs.Token.{IsToken as IsName, is_token_byte as is_name_byte}

same_byte : (b : ℕ) → IsTrue (is_token_byte b) → IsTrue (is_name_byte b)
unfolding is_token_byte is_name_byte
same_byte b token = token

pub same_token : (bytes : List ℕ) → IsToken bytes → IsName bytes
same_token bytes token = (
  token.0,
  All-weaker (λ b. IsTrue (is_token_byte b))
      (λ b. IsTrue (is_name_byte b)) same_byte bytes token.1,
)
