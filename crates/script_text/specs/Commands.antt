-- Commands in memory, as what a line says.
use Rattle.std.specs.Prelude.{List, map}
use Rattle.stream_model.specs.Tags as model
use Rattle.items.specs.declared.marks.Mark.{Mark}
use Rattle.script_text.specs.Grammar.{Parsed, Says}
use Rattle.script_text.specs.Grammar as grammar
use Rattle.script_text.specs.declared.command.Command.{Command}
use Rattle.script_text.specs.declared.command.Command.TheVariants.{Feed, Close, Set, Claim, Commit, Abandon, Step, Read, Why, Quiet, Settle}
use Rattle.script_text.specs.declared.command.Line.{Line}
use Rattle.script_text.specs.declared.command.Line.TheVariants as line

-- a mark, without where it lies in memory
abbrev pub mark_seen : Mark → model.Mark
mark_seen m = record { offset = m.offset; key = m.key; value = m.value }

abbrev pub marks_seen : List Mark → List model.Mark
marks_seen ms = map mark_seen ms

abbrev pub command_seen : Command → grammar.Command
command_seen (Feed name items marks) = grammar.Feed name items.items (marks_seen marks.items)
command_seen (Close name) = grammar.Close name
command_seen (Set name at numbers) = grammar.Set name at numbers.items
command_seen (Claim name max) = grammar.Claim name max
command_seen (Commit name) = grammar.Commit name
command_seen (Abandon name) = grammar.Abandon name
command_seen (Step name max) = grammar.Step name max
command_seen (Read name from max) = grammar.Read name from max
command_seen (Why name) = grammar.Why name
command_seen Quiet = grammar.Quiet
command_seen Settle = grammar.Settle

abbrev pub line_seen : Line → Parsed
line_seen line.Nothing = grammar.Nothing
line_seen line.Bad = grammar.Bad
line_seen (line.Command c) = Says (command_seen c)
