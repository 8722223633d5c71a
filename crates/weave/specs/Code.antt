-- What the code's types say.
use Rattle.std.specs.Prelude.{List, map, option_map, Option, Some, None}
use Rattle.std.specs.Option.{option_or}
use Rattle.std.specs.Arc.{arc_value}
use Rattle.std.specs.declared.sync.Arc.{Arc}
use Rattle.std.specs.declared.alloc.Global.{Global}
use Rattle.machine.specs.Code.{change_of, reply_value, chosen_value}
use Rattle.bind_cache.specs.declared.binding.Binding.{Binding}
use Rattle.bind_cache.specs.Kept.{Kept}
use Rattle.bind_cache.specs.Stored.{kept_of}
use Rattle.weave.specs.declared.step.Step.{Step}
use Rattle.weave.specs.declared.step.Step.TheVariants as step
use Rattle.weave.specs.declared.step.Told.{Told}
use Rattle.weave.specs.declared.step.Told.TheVariants as told
use Rattle.weave.specs.declared.step.ToldList.{ToldList}
use Rattle.weave.specs.declared.pass.Flight.{Flight}
use Rattle.weave.specs.declared.pass.Pass.{Pass}
use Rattle.weave.specs.Listed.{question_of, calls_in}
use Rattle.weave.specs.World.{StepValue, publish, enter, answer, remember, meet, ToldValue, reply}
use Rattle.weave.specs.World.{chosen, was_kept, was_not_kept, nothing, Item, PassValue}

abbrev pub step_of : Step → StepValue
step_of (step.Publish number change) = publish number (change_of change)
step_of (step.Enter number asked) = enter number (question_of asked)
step_of (step.Answer number) = answer number
step_of (step.Remember number) = remember number
step_of (step.Meet one other) = meet one other

abbrev pub told_value : Told → ToldValue
told_value (told.Reply place r) = reply place (reply_value r)
told_value (told.Chosen place c) = chosen place (chosen_value c)
told_value told.Kept = was_kept
told_value told.NotKept = was_not_kept
told_value told.Nothing = nothing

abbrev pub told_list : ToldList → List ToldValue
told_list l = map told_value l.items.items

abbrev pub kept_in_arc : Arc Binding Global → Kept
kept_in_arc b = kept_of (arc_value b)

-- the calls of a pass
abbrev pub items_of : Pass → List Item
items_of p = calls_in p.items.list.value

abbrev pub pass_of : Pass → PassValue
pass_of p = record {
  seen = p.seen;
  items = items_of p;
  flight = option_map (λ f. f.item) p.flight;
  fresh = option_map kept_in_arc p.fresh;
}

-- what is told where this question waits, and what was worked out last then
abbrev pub flight_told : Option Flight → ToldValue
flight_told None = nothing
flight_told (Some f) = told_value f.told

abbrev pub flight_fresh : Option Flight → Option (Arc Binding Global) → Option (Arc Binding Global)
flight_fresh None last = last
flight_fresh (Some f) last = option_or f.fresh last
