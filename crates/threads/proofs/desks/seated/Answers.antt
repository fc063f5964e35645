use Rattle.std.proofs.Common.{rules, ◌≡◌, ◌+◌, ◌++◌, ◌∷◌, [], get_or, subst, sym}
use Rattle.threads.specs.Desks.{IsAt}
use Rattle.threads.proofs.Places.{one_more}
use Rattle.threads.proofs.desks.seated.Goals as goal

pub loop-caller-preserved : goal.loop-caller-preserved
loop-caller-preserved g c =
    let was = c.loop-caller.invariant in
    let done = c.loop-caller.number in
    let desk = c.in_ok-ok.field-0 in
    let desks : c.push.new.self.items ≡ c.loop-caller.desks.items ++ desk ∷ [] = search rules in
    let promised : IsAt c.args.graph.now done c.in-Some.caller desk.promise = record { graph = search rules; number = search rules; caller = search rules } in
    record {
      many = search rules;
      left = search rules;
      rest = λ n caller below. let h = was.rest (n + 1) caller in grind rules;
      seated = λ n caller d below.
          let now : get_or c.args.callers.items done caller ≡ c.in-Some.caller = let h = was.rest 0 caller in grind rules in
          subst (λ xs. IsAt c.args.graph.now n (get_or c.args.callers.items n caller) (get_or xs n d).promise) (sym desks)
          (one_more (λ k h. IsAt c.args.graph.now k (get_or c.args.callers.items k caller) h.promise) c.loop-caller.desks.items desk d done (search rules)
          (λ k less. was.seated k caller d less) (subst (λ a. IsAt c.args.graph.now done a desk.promise) (sym now) promised) n below);
    }
