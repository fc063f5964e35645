use Rattle.std.proofs.Common.{◌∙◌}
use Rattle.graph_file.specs.File.{seen}
use Rattle.file_plants.specs.Opening.{streamed}
use Rattle.flow_core.specs.Serve.{content_in}
use Rattle.flow_core.proofs.Serving.{content_ok, content_refused, then_ok, then_refused, refused_then}
use Rattle.flow_core.proofs.Outcomes.{if_ok, if_err}
use Rattle.flow_core.proofs.opening.open_stream.Goals as goal

pub returns-in-Ok-clause-ok : goal.returns-in-Ok-clause-ok
returns-in-Ok-clause-ok c =
    let read = content_ok c.args.file.now (seen c.in-Ok.content) c.in-Ok.ensures.ok.0 c.in-Ok.ensures.ok.1 in
    if_ok c.stream.result _ _ c.stream.ensures.ok (λ plant e. then_ok (content_in c.args.file.now) streamed (seen c.in-Ok.content) read ∙ e)

pub returns-in-Ok-clause-refused : goal.returns-in-Ok-clause-refused
returns-in-Ok-clause-refused c =
    let read = content_ok c.args.file.now (seen c.in-Ok.content) c.in-Ok.ensures.ok.0 c.in-Ok.ensures.ok.1 in
    if_err c.stream.result _ _ c.stream.ensures.refused (λ fault h. then_refused (content_in c.args.file.now) streamed (seen c.in-Ok.content) fault read h)

pub returns-in-Err-clause-refused : goal.returns-in-Err-clause-refused
returns-in-Err-clause-refused c = refused_then (content_in c.args.file.now) streamed c.in-Err.fault (content_refused c.args.file.now c.in-Err.fault c.in-Err.ensures.refused c.in-Err.ensures.encoding)
