use Rattle.std.proofs.Common.{◌≡◌, ◌++◌, take}
use Rattle.std.specs.List.{flat_map}
use Rattle.text_parts.specs.Json.{json_byte}
use Rattle.text_parts.proofs.json.append_escaped.Given as goal

abbrev pub invariant-loop-byte : goal.invariant-loop-byte
invariant-loop-byte l = l.out.items ≡ l.fn.out.items
    ++ flat_map json_byte (take l.byte-index l.text)
