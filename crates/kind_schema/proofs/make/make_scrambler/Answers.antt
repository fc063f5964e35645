use Rattle.std.proofs.Common.{Ok, ap, sym, ◌∙◌}
use Rattle.kind_model.specs.Bits.{scrambler}
use Rattle.kind_schema.proofs.make.make_scrambler.Goals as goal

pub returns-in-Ok : goal.returns-in-Ok
returns-in-Ok c = record { ok = c.in-Ok.ensures.ok scrambler ∙ ap Ok (sym c.new.ensures); bad = tt }

pub returns-in-Err : goal.returns-in-Err
returns-in-Err c = record { ok = tt; bad = c.in-Err.ensures.err scrambler }
