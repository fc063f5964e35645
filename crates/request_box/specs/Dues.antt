-- What is due.
use Rattle.std.specs.Prelude.{Option, Some, None}
use Rattle.pipeline.specs.declared.requests.Request.{Request}
use Rattle.request_box.specs.declared.way_back.Due.{Due}

-- the request to which an answer is due
abbrev pub due_of : Option Due → Option Request
due_of None = None
due_of (Some due) = Some due.request.value
