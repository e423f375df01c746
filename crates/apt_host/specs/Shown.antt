-- What the code has of the words of a call.
use Rattle.std.specs.Prelude.{List, String, map, string_bytes}
use Rattle.std.specs.declared.alloc.Global.{Global}
use Rattle.apt_host.specs.declared.words.Request as words
use Rattle.apt_host.specs.declared.words.Request.TheVariants as code
use Rattle.apt_host.specs.Words.{Request, Build, Serve, Help, Bad, request_of}

abbrev pub shown_request : words.Request → Request
shown_request (code.Build options) = Build options
shown_request (code.Serve local) = Serve local
shown_request code.Help = Help
shown_request (code.Bad at) = Bad at

-- what the words of a call ask for
abbrev pub asked : List (String Global) → Request
asked words = request_of (map string_bytes words)
