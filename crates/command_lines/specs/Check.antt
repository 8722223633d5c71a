-- What `check` tells of a configuration.
use Rattle.std.specs.Prelude.{◌≡◌, ℕ, Bool, true, false, List, codes, Option, Some, Ok, Err}
use Rattle.line_base.specs.declared.folder.Found.{Found}
use Rattle.line_base.specs.declared.folder.Found.TheVariants.{Bytes, Absent, Longer}
use Rattle.line_base.specs.Files.{File, FindsAt}
use Rattle.linker_config.specs.declared.config.Config.{Config}
use Rattle.linker_config.specs.declared.fault.ConfigFault.{ConfigFault}
use Rattle.linker_config.specs.Answers.{Reads}
use Rattle.linker_config.specs.Lines.{good_line, fault_line_of}

-- the most bytes of a configuration
abbrev pub most_config : ℕ
most_config = 1048576

-- the line that tells of a configuration with this text, and whether it is right. Want of memory is
-- no fault of it and has no line
abbrev pub TellsText : List ℕ → Bool → List ℕ → Type 0
TellsText text true line = (config : Config) × Reads text (Ok config) × (line ≡ good_line config)
TellsText text false line =
    (fault : ConfigFault) × Reads text (Err fault) × (fault_line_of fault ≡ Some line)

-- the line that tells of what is found at the path of a configuration, and whether that is right
abbrev pub TellsFound : Found → Bool → List ℕ → Type 0
TellsFound Absent good line = (good ≡ false) × (line ≡ codes "error config absent\n")
TellsFound Longer good line = (good ≡ false) × (line ≡ codes "error config long\n")
TellsFound (Bytes text) good line = TellsText text.items good line

-- the same at a path, of these files where they are known
abbrev pub TellsPath : Option (List File) → List ℕ → Bool → List ℕ → Type 0
TellsPath files path good line =
    (found : Found) × FindsAt files path most_config found × TellsFound found good line

-- a file with this text was found
abbrev pub IsText : Found → List ℕ → Type 0
IsText (Bytes text) wanted = wanted ≡ text.items
IsText Absent wanted = ⊥
IsText Longer wanted = ⊥

-- the configuration that is found at a path
abbrev pub IsConfig : Option (List File) → List ℕ → Config → Type 0
IsConfig files path config =
    (found : Found) × FindsAt files path most_config found × (text : List ℕ) × IsText found text
    × Reads text (Ok config)
