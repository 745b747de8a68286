-- The line is that of the stop.
use Rattle.serve_text.proofs.say.say_stop.Goals as goal

pub returns-in-Script : goal.returns-in-Script
returns-in-Script g c = rw c.in-Script.is c.say_script.ensures

pub returns-in-Input : goal.returns-in-Input
returns-in-Input g c = rw c.in-Input.is c.say_input.ensures

pub returns-in-Changed : goal.returns-in-Changed
returns-in-Changed g c = rw c.in-Changed.is c.say_changed.ensures

pub returns-in-File : goal.returns-in-File
returns-in-File g c = rw c.in-File.is (rw c.name.ensures at c.say_input_kind.ensures)

pub returns-in-Read : goal.returns-in-Read
returns-in-Read g c = rw c.in-Read.is c.say.ensures

pub returns-in-Write : goal.returns-in-Write
returns-in-Write g c = rw c.in-Write.is c.say-in-Write.ensures

pub returns-in-Memory : goal.returns-in-Memory
returns-in-Memory g c = rw c.in-Memory.is c.say-in-Memory.ensures
