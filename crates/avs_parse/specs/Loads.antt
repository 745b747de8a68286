-- What the code answers.
use Rattle.std.specs.Prelude.{◌≡◌, Result, Ok, Err, ⊤}
use Rattle.avs_tree.specs.View.{script_view}
use Rattle.avs_tree.specs.Tree as d
use Rattle.avs_parse.specs.declared.loader.Loaded.{Loaded}
use Rattle.avs_parse.specs.declared.fault.LoadFault.{LoadFault}
use Rattle.avs_parse.specs.declared.fault.LoadFault.TheVariants.{Lex, Syntax, NestLimit, Memory}
use Rattle.avs_parse.specs.declared.fault.ParseError.{ParseError}
use Rattle.avs_parse.specs.declared.fault.ParseError.TheVariants as p
use Rattle.avs_lex.specs.declared.fault.LexError.{LexError}
use Rattle.avs_lex.specs.declared.fault.LexError.TheVariants as l

abbrev pub loaded_view : Loaded → d.Loaded
loaded_view l = record { tree = script_view l.script; last_line = l.last_line }

-- The answer is what the text has. Out of memory says nothing.
abbrev pub Loads : Result d.Loaded d.NoTree → Result Loaded LoadFault → Type 0
Loads found (Ok loaded) = found ≡ Ok (loaded_view loaded)
Loads found (Err (Lex kind line)) = found ≡ Err (d.lexical kind line)
Loads found (Err (Syntax line)) = found ≡ Err (d.syntax line)
Loads found (Err (NestLimit line)) = found ≡ Err (d.nests line)
Loads found (Err Memory) = ⊤

-- A fault of the tokens or of the text stays what it is, and only out of memory is out of memory.
abbrev pub of_tokens : ParseError → LoadFault
of_tokens (p.Syntax token line) = Syntax line
of_tokens (p.NestLimit token line) = NestLimit line
of_tokens p.Memory = Memory

abbrev pub of_text : LexError → LoadFault
of_text (l.Fault kind line) = Lex kind line
of_text l.Memory = Memory
