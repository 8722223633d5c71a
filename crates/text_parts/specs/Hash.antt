-- The hash FNV-1a of 64 bits, by Fowler, Noll and Vo.
use Rattle.std.specs.Prelude.{ℕ, ◌*◌, ◌%◌, ◌^◌, List, fold}
use Rattle.std.specs.Int.Bits.{bit_xor}

-- what it begins with
abbrev pub basis : ℕ
basis = 14695981039346656037

-- a hash, into which a byte, or a number that stands for a mark between bytes, is mixed
unfoldable pub mixed : ℕ → ℕ → ℕ
mixed hash word = (bit_xor hash word * 1099511628211) % 2 ^ 64

-- a hash, and then some bytes
abbrev pub with_bytes : ℕ → List ℕ → ℕ
with_bytes hash bytes = fold mixed hash bytes

-- the hash of a text
unfoldable pub text_hash : List ℕ → ℕ
text_hash text = with_bytes basis text
