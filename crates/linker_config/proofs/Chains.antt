-- One step after another: the fault of a step is that of the whole.
use Rattle.std.proofs.Common.{◌≡◌, ◌≢◌, Result, Ok, Err}
use Rattle.std.specs.Result.{IsErrAnd}
use Rattle.linker_config.specs.declared.fault.ConfigFault.{ConfigFault}
use Rattle.linker_config.specs.declared.fault.ConfigFault.TheVariants.{BadJson, OutOfMemory}
use Rattle.linker_config.specs.Keys.{Told}
use Rattle.linker_config.specs.Answers.{Says, SaysBy}

pub told_on_by : {V W : Type 0} (value : W → V) (whole : Told V) (fault : ConfigFault)
    (result : Result W ConfigFault)
    → IsErrAnd result (λ e. e ≡ fault) → fault ≢ BadJson
    → (fault ≢ OutOfMemory → whole ≡ Err fault) → SaysBy value whole result
told_on_by value whole fault (Ok w) same json told = absurd same
told_on_by value whole fault (Err e) same json told = rw same (json, told)

pub told_on : {V : Type 0} (whole : Told V) (fault : ConfigFault) (result : Result V ConfigFault)
    → IsErrAnd result (λ e. e ≡ fault) → fault ≢ BadJson
    → (fault ≢ OutOfMemory → whole ≡ Err fault) → Says whole result
told_on whole fault (Ok v) same json told = absurd same
told_on whole fault (Err e) same json told = rw same (json, told)
