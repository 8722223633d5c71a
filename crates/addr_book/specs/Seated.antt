-- Which addresses of a book have a slot, and how many.
use Rattle.std.specs.Prelude.{◌≡◌, ◌≤◌}
use Rattle.std.specs.FinMap.{contains_key, len}
use Rattle.addr_book.specs.declared.addr.Addr.{Addr}
use Rattle.addr_book.specs.Book.{Contents, is_used}

-- exactly the addresses that some service has, and at most 8,192 of them
pub record IsSeated (book : Contents) : Type 0 where
  pub room : len book.slots ≤ 8192
  pub seated : (addr : Addr) → contains_key book.slots addr ≡ is_used book.services addr
