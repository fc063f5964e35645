-- What a contract sees of a desk.
use Rattle.std.specs.Prelude.{ℕ, ◌≡◌, List, [], ◌∷◌, ◌++◌, Option, Some, None}
use Rattle.stream_model.specs.Machine.{Reply}
use Rattle.flowgraph.specs.Flowgraph.{Flowgraph}
use Rattle.call_history.specs.declared.entry.CallerId.TheVariants as caller
use Rattle.call_history.specs.History.{Asked, Noted}
use Rattle.call_history.specs.Recorded.{note_of}

-- the plant's graph, its number, and the calls that were made at it
pub record DeskState (B : Type 0) : Type 0 where
  pub graph : Flowgraph B
  pub number : ℕ
  pub log : List Noted

-- a call with its reply joined the log; or it was out of memory, and nothing did
abbrev pub IsLogged : {B : Type 0} → Asked → DeskState B → DeskState B → Option Reply → Type 0
IsLogged asked old new None = new ≡ old
IsLogged asked old new (Some reply) = new ≡ record old {
  log = old.log
      ++ note_of (caller.Desk old.number) asked reply ∷ [];
}

-- a desk before its caller's run
abbrev pub opened_at : {B : Type 0} → Flowgraph B → ℕ → DeskState B
opened_at graph n = record { graph = graph; number = n; log = [] }
