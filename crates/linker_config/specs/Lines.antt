-- The lines that a program tells of a configuration.
use Rattle.std.specs.Prelude.{ℕ, List, ◌++◌, codes, Option, Some, None}
use Rattle.addr_book.specs.Addr.{addr_text}
use Rattle.linker_config.specs.declared.config.Config.{Config}
use Rattle.linker_config.specs.declared.config.Port.{Port}
use Rattle.linker_config.specs.declared.fault.ConfigFault.{ConfigFault}
use Rattle.linker_config.specs.declared.fault.ConfigFault.TheVariants.{BadJson, Unknown, Bad}
use Rattle.linker_config.specs.declared.fault.ConfigFault.TheVariants.{Missing, OutOfMemory}

-- where something listens, as four numbers with points between them, `:`, and the port
abbrev pub port_text : Port → List ℕ
port_text p = addr_text (record { ip = p.ip; port = p.port })

-- the line of a good configuration, with its line feed
abbrev pub good_line : Config → List ℕ
good_line c =
    codes "ok router " ++ port_text c.server ++ codes " namerd " ++ port_text c.namerd
    ++ codes " admin " ++ port_text c.admin ++ codes "\n"

-- the line of a key and what is wrong with it, with its line feed
abbrev pub key_line : List ℕ → List ℕ → List ℕ
key_line key what = codes "error config " ++ key ++ what ++ codes "\n"

-- the line of a refused configuration; want of memory is no fault of it
abbrev pub fault_line_of : ConfigFault → Option (List ℕ)
fault_line_of BadJson = Some (codes "error config json\n")
fault_line_of (Unknown key) = Some (key_line key (codes " unknown"))
fault_line_of (Bad key) = Some (key_line key (codes " bad"))
fault_line_of (Missing key) = Some (key_line key (codes " missing"))
fault_line_of OutOfMemory = None
