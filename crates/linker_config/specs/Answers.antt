-- What the code answers of what is told.
use Rattle.std.specs.Prelude.{◌≡◌, ◌≢◌, ℕ, List, Result, Ok, Err, Some, IsUtf8}
use Rattle.serde_json.specs.Data.{Data}
use Rattle.serde_json.specs.Read.{read}
use Rattle.linker_config.specs.declared.fault.ConfigFault.{ConfigFault}
use Rattle.linker_config.specs.declared.fault.ConfigFault.TheVariants.{BadJson, Bad, Missing}
use Rattle.linker_config.specs.declared.fault.ConfigFault.TheVariants.{OutOfMemory, Unknown}
use Rattle.linker_config.specs.declared.config.Config.{Config}
use Rattle.linker_config.specs.Keys.{Told}
use Rattle.linker_config.specs.Config.{config_of, said_of, Configured, IsJson}

-- an answer on the tree says what is told; want of memory is free
abbrev pub Says : {V : Type 0} → Told V → Result V ConfigFault → Type 0
Says told (Ok value) = told ≡ Ok value
Says told (Err fault) = (fault ≢ BadJson) × (fault ≢ OutOfMemory → told ≡ Err fault)

-- the same, where a function says what a value of the code is
abbrev pub SaysBy : {V W : Type 0} → (W → V) → Told V → Result W ConfigFault → Type 0
SaysBy value told (Ok w) = told ≡ Ok (value w)
SaysBy value told (Err fault) = (fault ≢ BadJson) × (fault ≢ OutOfMemory → told ≡ Err fault)

-- the text is JSON, and its tree says this
abbrev pub ReadsTree : List ℕ → Told Configured → Type 0
ReadsTree text told = IsUtf8 text × (d : Data) × (read text ≡ Some d) × (config_of d ≡ told)

-- an answer on a text: what its tree says, or that it is no JSON
abbrev pub Reads : List ℕ → Result Config ConfigFault → Type 0
Reads text (Err BadJson) = ¬ (IsJson text)
Reads text (Err OutOfMemory) = Unit {0}
Reads text (Err (Unknown key)) = ReadsTree text (Err (Unknown key))
Reads text (Err (Bad key)) = ReadsTree text (Err (Bad key))
Reads text (Err (Missing key)) = ReadsTree text (Err (Missing key))
Reads text (Ok config) = ReadsTree text (Ok (said_of config))
