use Rattle.std.proofs.Common.{◌∙◌, sym, ap, map, not, Some, option_map, string_bytes}
use Rattle.linker_config.specs.Keys.{is_among}
use Rattle.linker_config.proofs.Finds.{find_key}
use Rattle.linker_config.proofs.keys.first_unknown.Goals as goal

pub returns-in-Some : goal.returns-in-Some
returns-in-Some c =
    ap Some c.as_str.ensures.value ∙ ap (option_map string_bytes) c.in-Some.ensures
    ∙ sym (find_key (λ key. not (is_among (map (λ k. k.now) c.args.known.now) key))
    c.args.members.now.entries)

pub returns-in-None : goal.returns-in-None
returns-in-None c =
    ap (option_map string_bytes) c.in-None.ensures
    ∙ sym (find_key (λ key. not (is_among (map (λ k. k.now) c.args.known.now) key))
    c.args.members.now.entries)
