-- The first words of lines.
use Rattle.std.specs.Prelude.{ℕ, if◌then◌else◌, List, codes, Option, Some, None}
use Rattle.std.specs.Str.{bytes_eq}
use Rattle.script.specs.declared.command.Command.{Command}
use Rattle.script.specs.declared.command.Command.TheVariants as command

abbrev pub command_of : List ℕ → Option Command
command_of word =
    if bytes_eq word (codes "dtab") then Some command.Dtab else
    if bytes_eq word (codes "create") then Some command.Create else
    if bytes_eq word (codes "put") then Some command.Put else
    if bytes_eq word (codes "delete") then Some command.Delete else
    if bytes_eq word (codes "get") then Some command.Get else
    if bytes_eq word (codes "list") then Some command.List else
    if bytes_eq word (codes "addrs") then Some command.Addrs else
    if bytes_eq word (codes "drop") then Some command.Drop else
    if bytes_eq word (codes "fail") then Some command.Fail else
    if bytes_eq word (codes "good") then Some command.Good else
    if bytes_eq word (codes "pick") then Some command.Pick else
    if bytes_eq word (codes "view") then Some command.View else None
