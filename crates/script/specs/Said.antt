-- What the code's lines and answers say.
use Rattle.dtab_table.specs.Dtab.{rules_of}
use Rattle.dtab_table.specs.TableCanon.{AreSoundRules}
use Rattle.machine.specs.State.{IsSoundChange}
use Rattle.machine.specs.Code.{change_of, look_value, ask_of, reply_value, chosen_value}
use Rattle.script.specs.declared.line.Line as code
use Rattle.script.specs.declared.line.Line.TheVariants as line
use Rattle.script.specs.declared.reply.Said.{Said}
use Rattle.script.specs.declared.reply.Said.TheVariants as said
use Rattle.script.specs.Line.{LineValue, blank, table, change, look, ask}
use Rattle.script.specs.Reply.{SaidValue, done, replied, chosen}

abbrev pub line_said : code.Line → LineValue
line_said line.Blank = blank
line_said (line.Table dtab) = table (rules_of dtab)
line_said (line.Change c) = change (change_of c)
line_said (line.Look l) = look (look_value l)
line_said (line.Ask a) = ask (ask_of a)

-- the table that a line brings in is sound
abbrev pub IsSoundLine : LineValue → Type 0
IsSoundLine (table rules) = AreSoundRules rules
IsSoundLine (change c) = IsSoundChange c
IsSoundLine _ = Unit {0}

abbrev pub said_of : Said → SaidValue
said_of said.Ok = done
said_of (said.Reply reply) = replied (reply_value reply)
said_of (said.Chosen c) = chosen (chosen_value c)
