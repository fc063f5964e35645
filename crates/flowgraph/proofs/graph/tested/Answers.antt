use Rattle.std.proofs.Common.{◌≡◌, ℕ, ◌∷◌, [], Option, Some, None, refl, ap, sym, ◌∙◌}
use Rattle.std.specs.Option.{option_map}
use Rattle.std.proofs.lemmas.Result.{err_from_is_err_and}
use Rattle.graph_model.specs.Graphs.{Loop}
use Rattle.flowgraph.specs.declared.fault.Limit.TheVariants.{Blocks}
use Rattle.flowgraph.specs.Fault.{told}
use Rattle.flowgraph.specs.Tests.{port_faults}
use Rattle.flowgraph.proofs.Assembly.{stop, go, alone, tests, looped, steep, net}
use Rattle.flowgraph.proofs.graph.tested.Goals as goal

-- where no loop is reported, no block was found
none_found : (o : Option ℕ) → told Blocks (option_map Loop o) ≡ None → o ≡ None
none_found None e = refl
none_found (Some b) e = absurd (cc)

pub greatest_gain-requires-clause-no_loop : goal.greatest_gain-requires-clause-no_loop
greatest_gain-requires-clause-no_loop g c = none_found _ (sym c.in_ok-fault-2.ensures ∙ c.in_default-2.is)

pub returns : goal.returns
returns g c =
    let m = g.B.Block.meaning in
    let es = c.args.blocks.now in
    let cs = c.args.connections.now in
    record {
      passed = tests m es cs ∙ go (port_faults (net m es cs)) (looped m es cs ∷ steep m es cs ∷ []) (sym c.in_ok-fault.ensures ∙ c.in_default.is)
          ∙ go (looped m es cs ∷ []) (steep m es cs ∷ []) (ap (told Blocks) (alone (looped m es cs)) ∙ sym c.in_ok-fault-2.ensures ∙ c.in_default-2.is)
          ∙ alone (steep m es cs) ∙ c.in_ok-gain.ensures.passed;
      tables = c.in_ok-wiring.ensures.tables;
      order = c.in_ok-wiring.ensures.order;
      asked = c.in_ok-all_asked.ensures;
      gain = c.in_ok-gain.ensures.value;
      refused = tt;
    }

pub returns-in-Some : goal.returns-in-Some
returns-in-Some g c =
    let m = g.B.Block.meaning in
    let es = c.args.blocks.now in
    let cs = c.args.connections.now in
    record { passed = tt; tables = tt; order = tt; asked = tt; gain = tt; refused = λ _. ap (told Blocks) (tests m es cs) ∙ stop (port_faults (net m es cs)) (looped m es cs ∷ steep m es cs ∷ []) _ (sym c.in_ok-fault.ensures ∙ c.in-Some.is) }

pub returns-in-Some-2 : goal.returns-in-Some-2
returns-in-Some-2 g c =
    let m = g.B.Block.meaning in
    let es = c.args.blocks.now in
    let cs = c.args.connections.now in
    record {
      passed = tt;
      tables = tt;
      order = tt;
      asked = tt;
      gain = tt;
      refused = λ _. ap (told Blocks) (tests m es cs ∙ go (port_faults (net m es cs)) (looped m es cs ∷ steep m es cs ∷ []) (sym c.in_ok-fault.ensures ∙ c.in_default.is))
          ∙ stop (looped m es cs ∷ []) (steep m es cs ∷ []) _ (ap (told Blocks) (alone (looped m es cs)) ∙ sym c.in_ok-fault-2.ensures ∙ c.in-Some-2.is);
    }

pub returns-in_err-gain-clause-refused : goal.returns-in_err-gain-clause-refused
returns-in_err-gain-clause-refused g c =
    let m = g.B.Block.meaning in
    let es = c.args.blocks.now in
    let cs = c.args.connections.now in
    let p = err_from_is_err_and c.from_residual-in_err-gain.result c.from_residual-in_err-gain.ensures.1 in
    rw (p.1, p.2) (λ other. ap (told Blocks) (tests m es cs ∙ go (port_faults (net m es cs)) (looped m es cs ∷ steep m es cs ∷ []) (sym c.in_ok-fault.ensures ∙ c.in_default.is)
    ∙ go (looped m es cs ∷ []) (steep m es cs ∷ []) (ap (told Blocks) (alone (looped m es cs)) ∙ sym c.in_ok-fault-2.ensures ∙ c.in_default-2.is) ∙ alone (steep m es cs))
    ∙ c.in_err-gain.ensures.refused other)
