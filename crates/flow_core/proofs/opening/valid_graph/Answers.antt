use Rattle.std.proofs.Common.{◌∙◌}
use Rattle.graph_file.specs.File.{Content, seen}
use Rattle.graph_file.specs.Validity.{validated}
use Rattle.flow_core.specs.Serve.{content_in}
use Rattle.flow_core.proofs.Serving.{content_ok, content_refused, then_ok, then_refused, refused_then}
use Rattle.flow_core.proofs.opening.valid_graph.Goals as goal

pub returns-in-Ok-validate-clause-ok : goal.returns-in-Ok-validate-clause-ok
returns-in-Ok-validate-clause-ok c =
    then_ok (content_in c.args.file.now) (λ (x : Content). validated x.graph) (seen c.in-Ok.content) (content_ok c.args.file.now (seen c.in-Ok.content) c.in-Ok.ensures.ok.0 c.in-Ok.ensures.ok.1)
    ∙ c.in-Ok-validate.ensures.ok

pub returns-in-Ok-clause-refused : goal.returns-in-Ok-clause-refused
returns-in-Ok-clause-refused c =
    then_refused (content_in c.args.file.now) (λ (x : Content). validated x.graph) (seen c.in-Ok.content) c.in-Err-validate.fault
    (content_ok c.args.file.now (seen c.in-Ok.content) c.in-Ok.ensures.ok.0 c.in-Ok.ensures.ok.1) c.in-Err-validate.ensures.refused

pub returns-clause-refused : goal.returns-clause-refused
returns-clause-refused c =
    refused_then (content_in c.args.file.now) (λ (x : Content). validated x.graph) c.in-Err.fault (content_refused c.args.file.now c.in-Err.fault c.in-Err.ensures.refused c.in-Err.ensures.encoding)
