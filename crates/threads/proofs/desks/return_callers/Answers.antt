use Rattle.std.proofs.Common.{rules, ◌≡◌, ◌+◌, ◌++◌, ◌∷◌, [], ◌<◌, length, map, get_or, vec_len, subst, sym, ap, ◌∙◌, Vec, Global}
use Rattle.std.proofs.lemmas.List.{length-map}
use mathlib.Core.List.{map-append}
use Rattle.call_history.specs.declared.entry.Entry.{Entry}
use Rattle.call_history.specs.History.{noted_by}
use Rattle.threads.specs.Desks.{HasKept}
use Rattle.threads.proofs.Places.{both_more}
use Rattle.threads.proofs.desks.return_callers.Goals as goal

pub loop-desk-preserved : goal.loop-desk-preserved
loop-desk-preserved g c =
    let was = c.loop-desk.invariant in
    let done = vec_len c.loop-desk.callers in
    let came = c.join-caller.result in
    let seen = λ (log : Vec Entry Global). map noted_by log.items in
    let callers : c.push.new.self.items ≡ c.loop-desk.callers.items ++ came.0 ∷ [] = search rules in
    let logs : c.push-in-loop-desk.new.self.items ≡ c.loop-desk.logs.items ++ came.1 ∷ [] = search rules in
    let grown : vec_len c.push.new.self ≡ done + 1 = search rules in
    let long : length (map seen c.loop-desk.logs.items) ≡ done = length-map c.loop-desk.logs.items seen ∙ search rules in
    record {
      left = search rules;
      same = search rules;
      rest = λ n d below. let h = was.rest (n + 1) d in grind rules;
      kept = λ n caller d below.
          let now : get_or c.args.desks.items done d ≡ c.in-Some.desk = let h = was.rest 0 d in grind rules in
          let more = both_more (λ k a b. HasKept g.C.Caller.ran (get_or c.args.desks.items k d).promise a b) c.loop-desk.callers.items (map seen c.loop-desk.logs.items) came.0 (seen came.1) caller [] done (search rules) long
          (λ k less. was.kept k caller d less) (subst (λ h. HasKept g.C.Caller.ran h.promise came.0 (seen came.1)) (sym now) c.join-caller.ensures) n (subst (λ k. n < k) grown below) in
          subst (λ xs. HasKept g.C.Caller.ran (get_or c.args.desks.items n d).promise (get_or xs n caller) (get_or (map seen c.push-in-loop-desk.new.self.items) n [])) (sym callers)
          (subst (λ ys. HasKept g.C.Caller.ran (get_or c.args.desks.items n d).promise (get_or (c.loop-desk.callers.items ++ came.0 ∷ []) n caller) (get_or ys n []))
          (sym (ap (map seen) logs ∙ map-append seen c.loop-desk.logs.items (came.1 ∷ []))) more);
    }
