use Rattle.std.proofs.Common.{◌∙◌, sym}
use Rattle.std.proofs.lemmas.List.{at_drop_all}
use Rattle.text_parts.specs.Hash.{with_bytes}
use Rattle.text_parts.proofs.hash.fnv_mix_bytes.Goals as goal

pub returns : goal.returns
returns c =
    sym (at_drop_all (with_bytes c.loop-byte.all) c.args.bytes.now c.loop-byte.byte-index
    c.loop-byte-test.false)
    ∙ c.loop-byte.invariant
