use Rattle.std.proofs.Common.{◌∙◌, sym}
use Rattle.std.specs.Str.{bytes_eq}
use Rattle.linker_config.proofs.Finds.{any_map}
use Rattle.linker_config.proofs.keys.is_among.Goals as goal

pub returns : goal.returns
returns c = c.is_one_of.ensures ∙ sym
    (any_map (λ known. bytes_eq known c.args.key.now) (λ k. k.now) c.args.keys.now)
