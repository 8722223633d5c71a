use Rattle.std.proofs.Common.{◌∙◌, sym, ap, option_map, is_none}
use Rattle.serde_json.specs.View.{view}
use Rattle.serde_json.specs.Find.{get}
use Rattle.linker_config.proofs.Finds.{find_map}
use Rattle.linker_config.proofs.keys.first_missing.Goals as goal

pub returns-in-Some : goal.returns-in-Some
returns-in-Some c =
    ap (option_map (λ k. k.now)) c.in-Some.ensures
    ∙ sym (find_map (λ key. is_none (get key (view c.args.object.now)))
    (λ k. k.now) c.args.required.now)

pub returns-in-None : goal.returns-in-None
returns-in-None c =
    ap (option_map (λ k. k.now)) c.in-None.ensures
    ∙ sym (find_map (λ key. is_none (get key (view c.args.object.now)))
    (λ k. k.now) c.args.required.now)
