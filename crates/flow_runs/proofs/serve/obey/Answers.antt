use Rattle.std.proofs.Common.{◌≡◌, ◌+◌, ◌∙◌, ℕ, List, refl, ap, sym, subst}
use Rattle.std.specs.Prelude.{Option}
use Rattle.std.specs.Option.{option_map}
use Rattle.file_plants.specs.Opening.{opened_of}
use Rattle.flow_core.specs.Serve.{IsCheck, IsCheckOfFeeds, IsPicture, IsRunAlone, IsRunAloneTo, Writes, graph_in, plant_in}
use Rattle.flow_core.proofs.Outcomes.{if_ok, if_err, no_more, no_reads, wrote_run}
use Rattle.flow_runs.specs.Serve.{IsRun}
use Rattle.flow_runs.proofs.Outcomes.{no_reads_of_run, becomes_ok, becomes_err, becomes_reads, becomes_writes}
use Rattle.flow_runs.proofs.serve.obey.Goals as goal

-- a text was written with a status that is another
tells : (IsDone : List ℕ → ℕ → Type 0) (out out' : Option (List ℕ)) (s t : ℕ) → t ≡ s → Writes IsDone out out' s → Writes IsDone out out' t
tells IsDone out out' s t e h = subst (Writes IsDone out out') (sym e) h

pub returns-in-Check-clause-does : goal.returns-in-Check-clause-does
returns-in-Check-clause-does g c = rw c.in-Check.is (becomes_ok _ c.check.result c.unstalled.result _ _ c.unstalled.ensures c.check.ensures.does
    (λ status ended is h. (refl, tells (IsCheck c.args.file.now) (g.O.ByteOut.contents c.args.output.now) (g.O.ByteOut.contents c.check.new.output) status ended.status is.0 h, ap (option_map opened_of) is.1)))

pub returns-in-Check-clause-does_not : goal.returns-in-Check-clause-does_not
returns-in-Check-clause-does_not g c = rw c.in-Check.is (becomes_err _ c.check.result c.unstalled.result _ _ c.unstalled.ensures c.check.ensures.does_not (λ fault h. (refl, h)))

pub returns-in-Check-clause-failed_reads : goal.returns-in-Check-clause-failed_reads
returns-in-Check-clause-failed_reads g c =
    rw c.in-Check.is
    (no_more _ _
    (sym (becomes_reads _ c.check.result c.unstalled.result c.unstalled.ensures)
    ∙ no_reads (IsCheck c.args.file.now) (graph_in c.args.file.now) (g.O.ByteOut.contents c.args.output.now) (g.O.ByteOut.contents c.check.new.output) c.check.result c.check.ensures.does_not))

pub returns-in-Check-clause-failed_writes : goal.returns-in-Check-clause-failed_writes
returns-in-Check-clause-failed_writes g c =
    rw c.in-Check.is (c.check.ensures.failed_writes ∙ ap (λ (n : ℕ). g.O.ByteOut.failed c.args.output.now + n) (becomes_writes _ c.check.result c.unstalled.result c.unstalled.ensures))

pub returns-in-CheckFeeds-clause-does : goal.returns-in-CheckFeeds-clause-does
returns-in-CheckFeeds-clause-does g c = rw c.in-CheckFeeds.is (becomes_ok _ c.check_feeds.result c.unstalled-in-CheckFeeds.result _ _ c.unstalled-in-CheckFeeds.ensures c.check_feeds.ensures.does
    (λ status ended is h. (refl, tells (IsCheckOfFeeds c.args.file.now) (g.O.ByteOut.contents c.args.output.now) (g.O.ByteOut.contents c.check_feeds.new.output) status ended.status is.0 h, ap (option_map opened_of) is.1)))

pub returns-in-CheckFeeds-clause-does_not : goal.returns-in-CheckFeeds-clause-does_not
returns-in-CheckFeeds-clause-does_not g c = rw c.in-CheckFeeds.is (becomes_err _ c.check_feeds.result c.unstalled-in-CheckFeeds.result _ _ c.unstalled-in-CheckFeeds.ensures c.check_feeds.ensures.does_not (λ fault h. (refl, h)))

pub returns-in-CheckFeeds-clause-failed_reads : goal.returns-in-CheckFeeds-clause-failed_reads
returns-in-CheckFeeds-clause-failed_reads g c =
    rw c.in-CheckFeeds.is
    (no_more _ _
    (sym (becomes_reads _ c.check_feeds.result c.unstalled-in-CheckFeeds.result c.unstalled-in-CheckFeeds.ensures)
    ∙ no_reads (IsCheckOfFeeds c.args.file.now) (plant_in c.args.file.now) (g.O.ByteOut.contents c.args.output.now) (g.O.ByteOut.contents c.check_feeds.new.output) c.check_feeds.result c.check_feeds.ensures.does_not))

pub returns-in-CheckFeeds-clause-failed_writes : goal.returns-in-CheckFeeds-clause-failed_writes
returns-in-CheckFeeds-clause-failed_writes g c =
    rw c.in-CheckFeeds.is (c.check_feeds.ensures.failed_writes ∙ ap (λ (n : ℕ). g.O.ByteOut.failed c.args.output.now + n) (becomes_writes _ c.check_feeds.result c.unstalled-in-CheckFeeds.result c.unstalled-in-CheckFeeds.ensures))

pub returns-in-Draw-clause-does : goal.returns-in-Draw-clause-does
returns-in-Draw-clause-does g c = rw c.in-Draw.is (becomes_ok _ c.draw.result c.unstalled-in-Draw.result _ _ c.unstalled-in-Draw.ensures c.draw.ensures.does
    (λ status ended is h. (refl, tells (IsPicture c.in-Draw.format c.args.file.now) (g.O.ByteOut.contents c.args.output.now) (g.O.ByteOut.contents c.draw.new.output) status ended.status is.0 h, ap (option_map opened_of) is.1)))

pub returns-in-Draw-clause-does_not : goal.returns-in-Draw-clause-does_not
returns-in-Draw-clause-does_not g c = rw c.in-Draw.is (becomes_err _ c.draw.result c.unstalled-in-Draw.result _ _ c.unstalled-in-Draw.ensures c.draw.ensures.does_not (λ fault h. (refl, h)))

pub returns-in-Draw-clause-failed_reads : goal.returns-in-Draw-clause-failed_reads
returns-in-Draw-clause-failed_reads g c =
    rw c.in-Draw.is
    (no_more _ _
    (sym (becomes_reads _ c.draw.result c.unstalled-in-Draw.result c.unstalled-in-Draw.ensures)
    ∙ no_reads (IsPicture c.in-Draw.format c.args.file.now) (graph_in c.args.file.now) (g.O.ByteOut.contents c.args.output.now) (g.O.ByteOut.contents c.draw.new.output) c.draw.result c.draw.ensures.does_not))

pub returns-in-Draw-clause-failed_writes : goal.returns-in-Draw-clause-failed_writes
returns-in-Draw-clause-failed_writes g c =
    rw c.in-Draw.is (c.draw.ensures.failed_writes ∙ ap (λ (n : ℕ). g.O.ByteOut.failed c.args.output.now + n) (becomes_writes _ c.draw.result c.unstalled-in-Draw.result c.unstalled-in-Draw.ensures))

pub returns-in-Run-clause-does : goal.returns-in-Run-clause-does
returns-in-Run-clause-does g c = rw c.in-Run.is (if_ok c.run.result _ _ c.run.ensures.does (λ status h. (refl, h)))

pub returns-in-Run-clause-does_not : goal.returns-in-Run-clause-does_not
returns-in-Run-clause-does_not g c = rw c.in-Run.is (if_err c.run.result _ _ c.run.ensures.does_not (λ fault h. (refl, h)))

pub returns-in-Run-clause-failed_reads : goal.returns-in-Run-clause-failed_reads
returns-in-Run-clause-failed_reads g c =
    rw c.in-Run.is
    (no_more _ _ (no_reads_of_run (IsRun c.args.file.now) (plant_in c.args.file.now) (g.O.ByteOut.contents c.args.output.now) (g.O.ByteOut.contents c.run.new.output) c.run.result c.run.ensures.does_not))

pub returns-in-RunAlone-clause-does : goal.returns-in-RunAlone-clause-does
returns-in-RunAlone-clause-does g c = rw c.in-RunAlone.is (becomes_ok _ c.run_on_one.result c.of_command.result _ _ c.of_command.ensures c.run_on_one.ensures.does
    (λ ended given is h. (refl, wrote_run (IsRunAloneTo c.args.file.now) (g.O.ByteOut.contents c.args.output.now) (g.O.ByteOut.contents c.run_on_one.new.output) h.0 ended.status given.status ended.stalled given.stalled h.1 is.0 is.1 h.2)))

pub returns-in-RunAlone-clause-does_not : goal.returns-in-RunAlone-clause-does_not
returns-in-RunAlone-clause-does_not g c = rw c.in-RunAlone.is (becomes_err _ c.run_on_one.result c.of_command.result _ _ c.of_command.ensures c.run_on_one.ensures.does_not (λ fault h. (refl, h)))

pub returns-in-RunAlone-clause-failed_reads : goal.returns-in-RunAlone-clause-failed_reads
returns-in-RunAlone-clause-failed_reads g c =
    rw c.in-RunAlone.is
    (no_more _ _
    (sym (becomes_reads _ c.run_on_one.result c.of_command.result c.of_command.ensures)
    ∙ no_reads (IsRunAlone c.args.file.now) (plant_in c.args.file.now) (g.O.ByteOut.contents c.args.output.now) (g.O.ByteOut.contents c.run_on_one.new.output) c.run_on_one.result c.run_on_one.ensures.does_not))

pub returns-in-RunAlone-clause-failed_writes : goal.returns-in-RunAlone-clause-failed_writes
returns-in-RunAlone-clause-failed_writes g c =
    rw c.in-RunAlone.is (c.run_on_one.ensures.failed_writes ∙ ap (λ (n : ℕ). g.O.ByteOut.failed c.args.output.now + n) (becomes_writes _ c.run_on_one.result c.of_command.result c.of_command.ensures))

pub returns-in-Script-clause-does : goal.returns-in-Script-clause-does
returns-in-Script-clause-does g c =
    rw c.in-Script.is
    (becomes_ok _ c.run_script.result c.unstalled-in-Script.result _ _ c.unstalled-in-Script.ensures c.run_script.ensures.does (λ status ended is h. (h.0, is.0 ∙ h.1, ap (option_map opened_of) is.1)))

pub returns-in-Script-clause-does_not : goal.returns-in-Script-clause-does_not
returns-in-Script-clause-does_not g c = rw c.in-Script.is (becomes_err _ c.run_script.result c.unstalled-in-Script.result _ _ c.unstalled-in-Script.ensures c.run_script.ensures.does_not (λ fault h. h))

pub returns-in-Script-clause-failed_reads : goal.returns-in-Script-clause-failed_reads
returns-in-Script-clause-failed_reads g c =
    rw c.in-Script.is (c.run_script.ensures.failed_reads ∙ ap (λ (n : ℕ). g.I.ByteIn.failed c.args.input.now + n) (becomes_reads _ c.run_script.result c.unstalled-in-Script.result c.unstalled-in-Script.ensures))

pub returns-in-Script-clause-failed_writes : goal.returns-in-Script-clause-failed_writes
returns-in-Script-clause-failed_writes g c =
    rw c.in-Script.is (c.run_script.ensures.failed_writes ∙ ap (λ (n : ℕ). g.O.ByteOut.failed c.args.output.now + n) (becomes_writes _ c.run_script.result c.unstalled-in-Script.result c.unstalled-in-Script.ensures))

pub returns-in-Live-clause-does : goal.returns-in-Live-clause-does
returns-in-Live-clause-does g c = rw c.in-Live.is c.run_live.ensures.does

pub returns-in-Live-clause-does_not : goal.returns-in-Live-clause-does_not
returns-in-Live-clause-does_not g c = rw c.in-Live.is c.run_live.ensures.does_not

pub returns-in-Live-clause-failed_reads : goal.returns-in-Live-clause-failed_reads
returns-in-Live-clause-failed_reads g c = rw c.in-Live.is tt

pub returns-in-Live-clause-failed_writes : goal.returns-in-Live-clause-failed_writes
returns-in-Live-clause-failed_writes g c = rw c.in-Live.is tt
