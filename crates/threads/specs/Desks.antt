-- The room for what callers leave, and what the threads at desks promise.
use Rattle.std.specs.Prelude.{◌≡◌, ◌<◌, ℕ, List, [], get_or, length, vec_len}
use Rattle.std.specs.declared.thread.PromisedHandle.{PromisedHandle}
use Rattle.flowgraph.specs.Flowgraph.{Flowgraph}
use Rattle.threads.specs.declared.desks.DeskPromise.{DeskPromise}
use Rattle.threads.specs.declared.desks.Room.{Room}
use Rattle.call_history.specs.Desk.{DeskState, opened_at}
use Rattle.call_history.specs.History.{Noted}

-- nothing was put into it yet
pub record IsEmpty {B C P : Type 0} (room : Room B C P) : Type 0 where
  pub callers : vec_len room.callers ≡ 0
  pub logs : vec_len room.logs ≡ 0
  pub desks : vec_len room.desks ≡ 0

-- this caller is at the desk of this number
pub record IsAt {B C P : Type 0} (g : Flowgraph B) (n : ℕ) (c : C) (p : DeskPromise B C P) : Type 0 where
  pub graph : p.graph.value ≡ g
  pub number : p.number ≡ n
  pub caller : p.caller.value ≡ c

-- each caller is at a desk of its own, and these are numbered in the callers' order
abbrev pub AreSeated : {B C P A : Type 0} → Flowgraph B → List C → List (PromisedHandle A (DeskPromise B C P)) → Type 0
AreSeated {B} {C} {P} {A} graph callers desks = (n : ℕ) (c : C) (d : PromisedHandle A (DeskPromise B C P))
    → n < length callers → IsAt graph n (get_or callers n c) (get_or desks n d).promise

-- a caller with a log is what this promise says
abbrev pub HasKept : {B C P : Type 0} → (C → C → DeskState B → List Noted → Type 0) → DeskPromise B C P → C → List Noted
    → Type 0
HasKept ran p caller log = ran p.caller.value caller (opened_at p.graph.value p.number) log

-- each caller with its log is what the promise of the thread at its place says
abbrev pub HaveKept : {B C P A : Type 0} → (C → C → DeskState B → List Noted → Type 0)
    → List (PromisedHandle A (DeskPromise B C P)) → List C → List (List Noted) → Type 0
HaveKept {B} {C} {P} {A} ran desks callers logs = (n : ℕ) (c : C) (d : PromisedHandle A (DeskPromise B C P))
    → n < length desks → HasKept ran (get_or desks n d).promise (get_or callers n c) (get_or logs n [])
