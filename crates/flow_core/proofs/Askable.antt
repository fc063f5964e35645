-- What a line says can be asked, and how it stands in the script.
use Rattle.std.proofs.Common.{◌≡◌, suc, [], ◌∷◌, subst, Some}
use Rattle.std.specs.Prelude.{Option, IfSome}
use Rattle.std.specs.Option.{option_map, option_to_list}
use Rattle.script_text.specs.Lines.{lines_of}
use Rattle.script_text.specs.Splits.{Split}
use Rattle.script_text.specs.Scripts.{GoesOn, SaysNext, Continues}
use Rattle.script_text.specs.Grammar.{Bad, Says, IsAskable, SaysAskable, parsed_from}
use Rattle.script_text.specs.Commands.{line_seen, command_seen}
use Rattle.script_text.specs.declared.command.Command.{Command as Asked}
use Rattle.script_text.specs.declared.command.Line.{Line}
use Rattle.script_text.specs.declared.command.Line.TheVariants as line

pub some_askable : (o : Option Line) (l : Line) (c : Asked) → o ≡ Some l → l ≡ line.Command c → IfSome o (λ (x : Line). SaysAskable (line_seen x)) → IsAskable (command_seen c)
some_askable o l c e i h = subst (λ (x : Line). SaysAskable (line_seen x)) i (subst (λ (x : Option Line). IfSome x (λ (y : Line). SaysAskable (line_seen y))) e h)

line_last : (s : Split) (l : Line) (c : Asked) → l ≡ line.Command c → line_seen l ∷ [] ≡ parsed_from (suc s.taken) (lines_of s.rest) → Says (command_seen c) ∷ [] ≡ parsed_from (suc s.taken) (lines_of s.rest)
line_last s l c e h = subst (λ (x : Line). line_seen x ∷ [] ≡ parsed_from (suc s.taken) (lines_of s.rest)) e h

line_goes : (old new : Split) (l : Line) (c : Asked) → l ≡ line.Command c → SaysNext (line_seen l) old new → GoesOn (Says (command_seen c)) old new
line_goes old new l c e h = subst (λ (x : Line). SaysNext (line_seen x) old new) e h

pub some_goes : (old new : Split) (o : Option Line) (l : Line) (c : Asked) → o ≡ Some l → l ≡ line.Command c → Continues (option_map line_seen o) old new → GoesOn (Says (command_seen c)) old new
some_goes old new o l c e i h = line_goes old new l c i (subst (λ (x : Option Line). Continues (option_map line_seen x) old new) e h)

pub some_command_last : (s : Split) (o : Option Line) (l : Line) (c : Asked) → o ≡ Some l → l ≡ line.Command c → option_to_list (option_map line_seen o) ≡ parsed_from (suc s.taken) (lines_of s.rest) → Says (command_seen c) ∷ [] ≡ parsed_from (suc s.taken) (lines_of s.rest)
some_command_last s o l c e i h = line_last s l c i (subst (λ (x : Option Line). option_to_list (option_map line_seen x) ≡ parsed_from (suc s.taken) (lines_of s.rest)) e h)

pub some_bad_last : (s : Split) (o : Option Line) (l : Line) → o ≡ Some l → l ≡ line.Bad → option_to_list (option_map line_seen o) ≡ parsed_from (suc s.taken) (lines_of s.rest) → Bad ∷ [] ≡ parsed_from (suc s.taken) (lines_of s.rest)
some_bad_last s o l e i h = subst (λ (x : Line). line_seen x ∷ [] ≡ parsed_from (suc s.taken) (lines_of s.rest)) i (subst (λ (x : Option Line). option_to_list (option_map line_seen x) ≡ parsed_from (suc s.taken) (lines_of s.rest)) e h)

pub some_bad_next : (old new : Split) (o : Option Line) (l : Line) → o ≡ Some l → l ≡ line.Bad → Continues (option_map line_seen o) old new → SaysNext Bad old new
some_bad_next old new o l e i h = subst (λ (x : Line). SaysNext (line_seen x) old new) i (subst (λ (x : Option Line). Continues (option_map line_seen x) old new) e h)
