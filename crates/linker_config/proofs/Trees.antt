-- What is told of a tree is told of its text.
use Rattle.std.proofs.Common.{◌≡◌, List, ℕ, Some, Result, Ok, Err, refl}
use Rattle.std.specs.Prelude.{IsUtf8}
use Rattle.serde_json.specs.Data.{Data}
use Rattle.serde_json.specs.Read.{read}
use Rattle.linker_config.specs.declared.config.Config.{Config}
use Rattle.linker_config.specs.declared.fault.ConfigFault.{ConfigFault}
use Rattle.linker_config.specs.declared.fault.ConfigFault.TheVariants.{BadJson, Unknown, Bad}
use Rattle.linker_config.specs.declared.fault.ConfigFault.TheVariants.{Missing, OutOfMemory}
use Rattle.linker_config.specs.Config.{config_of, said_of}
use Rattle.linker_config.specs.Answers.{Reads, SaysBy}

pub reads_tree : (text : List ℕ) (d : Data) (result : Result Config ConfigFault) → IsUtf8 text
    → read text ≡ Some d → SaysBy said_of (config_of d) result → Reads text result
reads_tree text d (Ok config) utf8 is says = (utf8, d, is, says)
reads_tree text d (Err BadJson) utf8 is says = absurd (says.0 refl)
reads_tree text d (Err (Unknown key)) utf8 is says = (utf8, d, is, says.1 (λ q. cc))
reads_tree text d (Err (Bad key)) utf8 is says = (utf8, d, is, says.1 (λ q. cc))
reads_tree text d (Err (Missing key)) utf8 is says = (utf8, d, is, says.1 (λ q. cc))
reads_tree text d (Err OutOfMemory) utf8 is says = tt
