-- What the code's lists of calls and operations say. They exist in proofs alone.
use Rattle.std.specs.Prelude.{List, [], ◌∷◌, ◌++◌}
use Rattle.std.specs.Arc.{arc_value}
use Rattle.machine.specs.Code.{change_of, look_value, ask_of}
use Rattle.bind_cache.specs.Stored.{kept_of}
use Rattle.router_log.specs.Operation.{changed, kept}
use Rattle.router_log.specs.Operation.{Operation as OperationValue}
use Rattle.router_log.specs.Call.{changing, keeping}
use Rattle.router_log.specs.Call.{Call as CallValue}
use Rattle.weave.specs.declared.step.Asked.{Asked}
use Rattle.weave.specs.declared.step.Asked.TheVariants as question
use Rattle.weave.specs.declared.call.Call.{Call}
use Rattle.weave.specs.declared.call.Call.TheVariants as call
use Rattle.weave.specs.declared.call.Item.{Item as ItemCode}
use Rattle.weave.specs.declared.call.Operation.{Operation}
use Rattle.weave.specs.declared.call.Operation.TheVariants as operation
use Rattle.weave.specs.declared.call.Calls.{Calls, NoCalls, Called'}
use Rattle.weave.specs.declared.call.Operations.{Operations, NoOperations, Published'}
use Rattle.weave.specs.World.{Question, pick, look, Item, call_of}

abbrev pub question_of : Asked → Question
question_of (question.Pick ask) = pick (ask_of ask)
question_of (question.Look l) = look (look_value l)

abbrev pub call_value : Call → CallValue
call_value (call.Asked asked) = call_of (question_of asked.value)
call_value (call.Changing change) = changing (change_of change.value)
call_value (call.Keeping binding) = keeping (kept_of (arc_value binding.value))

abbrev pub item_of : ItemCode → Item
item_of i = (call_value i.call, i.at)

abbrev pub operation_of : Operation → OperationValue
operation_of (operation.Changed by serial change) = changed by serial (change_of change.value)
operation_of (operation.Kept by serial binding) = kept by serial (kept_of (arc_value binding.value))

-- the calls of a pass, in their order
abbrev pub calls_in : Calls → List Item
calls_in NoCalls = []
calls_in (Called' shape before item) = calls_in before ++ item_of item.value ∷ []

-- what was published, in its order
abbrev pub operations_in : Operations → List OperationValue
operations_in NoOperations = []
operations_in (Published' shape before operation) =
    operations_in before ++ operation_of operation.value ∷ []
