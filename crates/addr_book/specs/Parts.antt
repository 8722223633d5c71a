-- What a book's parts say.
use Rattle.addr_book.specs.declared.parts.Parts.{Parts}
use Rattle.addr_book.specs.Book.{Contents}
use Rattle.addr_book.specs.Uses.{IsSound}

abbrev pub contents_of : Parts → Contents
contents_of parts = record { services = parts.services; slots = parts.seats.slots }

abbrev pub ArePartsSound : Parts → Type 0
ArePartsSound parts = IsSound parts.services parts.seats.slots parts.seats.uses
