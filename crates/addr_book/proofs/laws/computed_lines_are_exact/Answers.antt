use Rattle.addr_book.proofs.HostTexts.{hosts, ports}
use Rattle.addr_book.proofs.LineTexts.{lines, blanks}
use Rattle.addr_book.proofs.laws.computed_lines_are_exact.Goals as goal

pub returns : goal.returns
returns c = record {
  lines = c.lines_are_exact.ensures;
  hosts = hosts;
  ports = ports;
  blanks =
      blanks;
  addrs = lines c.computed_weights_are_exact.ensures;
}
