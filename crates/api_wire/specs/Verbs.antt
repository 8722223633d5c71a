-- The methods that the interfaces answer.
use Rattle.std.specs.Prelude.{ℕ, if◌then◌else◌, List, codes, bytes_eq, Option, Some, None}
use Rattle.api_wire.specs.declared.verb.Verb.{Verb}
use Rattle.api_wire.specs.declared.verb.Verb.TheVariants.{Get, Head, Post, Put, Delete}
use Rattle.api_wire.specs.declared.verb.Methods.{Methods}
use Rattle.api_wire.specs.declared.verb.Methods.TheVariants.{Reads, Tables, Services, Posts}

-- methods are compared with case (RFC 9110 section 9.1)
abbrev pub verb_of : List ℕ → Option Verb
verb_of method =
    if bytes_eq method (codes "GET") then Some Get
    else if bytes_eq method (codes "HEAD") then Some Head
    else if bytes_eq method (codes "POST") then Some Post
    else if bytes_eq method (codes "PUT") then Some Put
    else if bytes_eq method (codes "DELETE") then Some Delete
    else None

-- the methods of a path, as the field `Allow` lists them
abbrev pub methods_text : Methods → List ℕ
methods_text Reads = codes "GET, HEAD"
methods_text Tables = codes "GET, HEAD, POST, PUT, DELETE"
methods_text Services = codes "GET, HEAD, PUT, DELETE"
methods_text Posts = codes "POST"
