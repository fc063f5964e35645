-- What lines do to a session, as what they do to where it stands.
use Rattle.std.proofs.Common.{◌≡◌, ◌∙◌, ℕ, List, [], ◌∷◌, refl, ap, sym, subst, inl, inr}
use Rattle.std.specs.Prelude.{Option}
use Rattle.stream_model.specs.Meaning.{Meaning}
use Rattle.script_text.specs.Grammar.{Command, Parsed, Nothing, Bad, Says}
use Rattle.flow_core.specs.Session.{Standing, SessionState, Answers, IsAnswered, graph_of, in_standing, standing}
use Rattle.flow_core.specs.Script.{HasNone, IsBad, Replies, Answered, Stops, Ends, Breaks}
use Rattle.flow_core.specs.declared.script.ScriptFault.{ScriptFault}
use Rattle.flow_core.specs.declared.script.ScriptFault.TheVariants.{BadLine, Read, Write, Memory}

module _ {B : Type 0} (meaning : B → Meaning) (s : SessionState B) where
  -- the same session at a standing is answered as the standing is
  none_there : (c : Command) → HasNone (IsAnswered meaning) c → HasNone (Answers (graph_of meaning s.plant)) c
  none_there c none old new line h = none (in_standing s old) (in_standing s new) line (refl, h)

  bad_there : (line : Parsed) → IsBad (IsAnswered meaning) line → IsBad (Answers (graph_of meaning s.plant)) line
  bad_there Nothing h = h
  bad_there Bad h = h
  bad_there (Says c) h = none_there c h

  replies_there : (lines : List Parsed) (x : Standing) (last : SessionState B) (text : List ℕ) → Replies (IsAnswered meaning) lines (in_standing s x) last text →
      (last ≡ in_standing s (standing last)) × Replies (Answers (graph_of meaning s.plant)) lines x (standing last) text
  replies_there [] x last text p =
      (p.1 ∙ ap (in_standing s) (sym (ap standing p.1)), (p.0, ap standing p.1))
  replies_there (Nothing ∷ lines) x last text p = replies_there lines x last text p
  replies_there (Bad ∷ lines) x last text p = absurd p
  replies_there (Says c ∷ lines) x last text p =
      let later = replies_there lines (standing p.0) last p.2 (subst (λ (m : SessionState B). Replies (IsAnswered meaning) lines m last p.2) p.4.0 p.5) in
      (later.0, (standing p.0, p.1, p.2, p.3, p.4.1, later.1))

  answered_there : (x : Standing) (last : SessionState B) (out out' : Option (List ℕ)) (lines : List Parsed) → Answered (IsAnswered meaning) (in_standing s x) last out out' lines →
      Answered (Answers (graph_of meaning s.plant)) x (standing last) out out' lines
  answered_there x last out out' lines h = record { text = h.text; replies = (replies_there lines x last h.text h.replies).1; written = h.written }

  stays : (x : Standing) (last : SessionState B) (out out' : Option (List ℕ)) (lines : List Parsed) → Answered (IsAnswered meaning) (in_standing s x) last out out' lines → last ≡ in_standing s (standing last)
  stays x last out out' lines h = (replies_there lines x last h.text h.replies).0

  stops_there : (x : Standing) (out out' : Option (List ℕ)) (said : List ℕ → List Parsed) (count : ℕ) (fault : ScriptFault) → Stops (IsAnswered meaning) (in_standing s x) out out' said count fault →
      Stops (Answers (graph_of meaning s.plant)) x out out' said count fault
  stops_there x out out' said count (BadLine n) h =
      record { before = h.before; last = standing h.last; answered = answered_there x h.last out out' h.before h.answered; line = h.line; bad = bad_there h.line h.bad; next = h.next; number = h.number }
  stops_there x out out' said count Read h =
      record { before = h.before; last = standing h.last; answered = answered_there x h.last out out' h.before h.answered; rest = h.rest; unfinished = h.unfinished; next = h.next }
  stops_there x out out' said count Memory h =
      record { before = h.before; last = standing h.last; answered = answered_there x h.last out out' h.before h.answered; command = h.command; next = h.next }
  stops_there x out out' said count Write h =
      record {
        before = h.before;
        last = standing h.last;
        between = h.between;
        answered = answered_there x h.last out h.between h.before h.answered;
        command = h.command;
        after = standing h.after;
        text = h.text;
        reply = (subst (λ (l : SessionState B). IsAnswered meaning h.command l h.after h.text) (stays x h.last out h.between h.before h.answered) h.reply).1;
        cut = h.cut;
        next = h.next;
      }

  pub breaks_there : (input input' out out' : Option (List ℕ)) (fault : ScriptFault) → Breaks (IsAnswered meaning) s input input' out out' fault →
      Breaks (Answers (graph_of meaning s.plant)) (standing s) input input' out out' fault
  breaks_there input input' out out' fault h =
      record {
        given = h.given;
        read = h.read;
        stops = elim h.stops [
          | inl a ↦ inl (stops_there (standing s) out out' _ 0 fault a)
          | inr (inl b) ↦ inr (inl (b.0, stops_there (standing s) out out' _ 0 fault b.1))
          | inr (inr c) ↦ inr (inr c)
        ];
      }

  pub ends_there : (last : SessionState B) (input input' out out' : Option (List ℕ)) → Ends (IsAnswered meaning) s last input input' out out' →
      Ends (Answers (graph_of meaning s.plant)) (standing s) (standing last) input input' out out'
  ends_there last input input' out out' h = record { given = h.given; read = h.read; at_end = h.at_end; answered = answered_there (standing s) last out out' _ h.answered }

  pub ends_in_it : (last : SessionState B) (input input' out out' : Option (List ℕ)) → Ends (IsAnswered meaning) s last input input' out out' → last ≡ in_standing s (standing last)
  ends_in_it last input input' out out' h = stays (standing s) last out out' _ h.answered
