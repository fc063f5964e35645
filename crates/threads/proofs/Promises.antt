-- What the promises of desks say of the callers that were put there.
use Rattle.std.proofs.Common.{◌≡◌, ◌<◌, ℕ, List, [], ◌∷◌, length, get_or, subst, sym, arith}
use Rattle.std.specs.declared.thread.PromisedHandle.{PromisedHandle}
use Rattle.threads.specs.declared.desks.DeskPromise.{DeskPromise}
use Rattle.flowgraph.specs.Flowgraph.{Flowgraph}
use Rattle.call_history.specs.Desk.{DeskState, opened_at}
use Rattle.call_history.specs.History.{Noted}
use Rattle.threads.specs.Live.{HaveReturned}
use Rattle.threads.specs.Desks.{AreSeated, HaveKept, HasKept, IsAt}

some_of : {X : Type 0} (xs : List X) (n : ℕ) → n < length xs → X
some_of [] n below = absurd (omega (arith, below))
some_of (x ∷ xs) n below = x

kept_at : {B C P : Type 0} (ran : C → C → DeskState B → List Noted → Type 0) (g : Flowgraph B) (n : ℕ) (c d : C) (p : DeskPromise B C P) (log : List Noted) →
    IsAt g n c p → HasKept ran p d log → ran c d (opened_at g n) log
kept_at ran g n c d p log at kept =
    subst (λ a. ran a d (opened_at g n) log) at.caller (subst (λ k. ran p.caller.value d (opened_at g k) log) at.number (subst (λ h. ran p.caller.value d (opened_at h p.number) log) at.graph kept))

pub have_returned : {B C P A : Type 0} (ran : C → C → DeskState B → List Noted → Type 0) (g : Flowgraph B) (callers after : List C) (logs : List (List Noted)) (desks : List (PromisedHandle A (DeskPromise B C P))) →
    length desks ≡ length callers → AreSeated g callers desks → HaveKept ran desks after logs → HaveReturned ran g callers after logs
have_returned ran g callers after logs desks many seated kept n c below =
    let here = subst (λ m. n < m) (sym many) below in
    let d = some_of desks n here in
    kept_at ran g n (get_or callers n c) (get_or after n c) (get_or desks n d).promise (get_or logs n []) (seated n c d below) (kept n c d here)
