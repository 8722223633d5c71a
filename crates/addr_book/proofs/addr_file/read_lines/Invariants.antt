use Rattle.std.proofs.Common.{length, ◌-◌, ◌≡◌, ◌+◌, ◌≤◌, drop}
use Rattle.addr_book.specs.AddrFile.{file_from, file_value}
use Rattle.addr_book.specs.AddrList.{HaveWeights}
use Rattle.text_parts.specs.Lines.{lines_of}
use Rattle.addr_book.proofs.Files.{behind}
use Rattle.addr_book.proofs.addr_file.read_lines.Given as goal

abbrev pub invariant-loop-at : goal.invariant-loop-at
invariant-loop-at l = record {
  lines : l.line ≤ l.at;
  weights : HaveWeights l.items.items;
  same : file_value l.text ≡ behind l.items.items
      (file_from (l.line + 1) (lines_of (drop l.at l.text)));
}

abbrev pub decreases-loop-at : goal.decreases-loop-at
decreases-loop-at l = length l.text - l.at
