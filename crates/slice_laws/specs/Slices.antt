-- Runs on the rest of the tapes, without their first iterations: from some item on they give what the whole run gives.
use Rattle.std.specs.Prelude.{ℕ, ◌+◌, ◌*◌, ◌<◌, ◌≤◌, ◌≡◌, ℤ, List, length, map, drop, MatchOption, ⊤, true, false, slice_index, slice_index_or, if◌then◌else◌}
use Rattle.stream_model.specs.Lists.{item}
use Rattle.stream_model.specs.Settings.{Held, in_force}
use Rattle.stream_model.specs.Meaning.{Meaning, input}
use Rattle.stream_model.specs.Firings.{taken_at, given_at, gives}
use Rattle.stream_model.specs.Network.{Node, Connection, Network, Handed, node_at, role_at, handed_at, is_source, writers_of, within_limit, items_of}
use Rattle.graph_model.specs.Rates.{IsBalanced}
use Rattle.stream_laws.specs.CanRun.{CanRun}

-- the settings that are left: us set at each item what ts set c items later
abbrev pub AreRestSettings : Meaning → ℕ → List Held → List Held → Type 0
AreRestSettings m c ts us = MatchOption m.own ⊤ (λ own. (a : ℕ) → in_force own ts (c + a) ≡ in_force own us a)

-- the inputs that are left behind c firings: input p of ys is that of xs without what these take, from its item `right
-- p` on
pub record AreRestInputs (m : Meaning) (c : ℕ) (right : ℕ → ℕ) (xs ys : List (List ℤ)) : Type 0 where
  pub ports : length xs ≡ length ys
  pub items : (p a : ℕ) → right p ≤ a → item (input xs p) (taken_at (m.rate p) * c + a) ≡ item (input ys p) a

-- Block r goes on where block m stands after c firings. From its firing f on it gives what m gives c firings later, if
-- its input p is right from item `right p` on. From firing f on one firing takes and gives as many items as another,
-- and r ends c firings earlier than m
pub record Resumes (m r : Meaning) (c : ℕ) (right : ℕ → ℕ) (f : ℕ) : Type 0 where
  pub takes : (p j k : ℕ) → f ≤ j → m.taken p (k + j) ≡ taken_at (m.rate p) * k + m.taken p j
  pub gives : (j k : ℕ) → f ≤ j → m.given (k + j) ≡ given_at (m.rate 0) * k + m.given j
  pub reaches : (p : ℕ) → right p ≤ m.taken p f
  pub ends : (j : ℕ) → f < j → within_limit m.limit (c + j) ≡ within_limit r.limit j
  pub out : (ts us : List Held) (xs ys : List (List ℤ)) (p n : ℕ) → p < m.outputs.most
      → AreRestSettings m (taken_at (m.rate 0) * c) ts us →
      AreRestInputs m c right xs ys → m.given f ≤ n → m.out ts xs p (given_at (m.rate 0) * c + n) ≡ r.out us ys p n

-- a block that forgets: after any firings it goes on like a new one, from firing f on
abbrev pub Settles : Meaning → (ℕ → ℕ) → ℕ → Type 0
Settles m right f = (c : ℕ) → Resumes m m c right f

-- the item from which on the outputs of block b are right, if it settles at firing f b. Those of a source are right
-- from the first on
abbrev pub settled : Network → (ℕ → ℕ) → ℕ → ℕ
settled net f b = if is_source (role_at net b) then 0 else (node_at net b).meaning.given (f b)

-- the item from which on its input p is right
abbrev pub right_of : Network → (ℕ → ℕ) → ℕ → ℕ → ℕ
right_of net f b p = slice_index_or (map (λ (c : Connection). settled net f c.from) (writers_of net b)) p 0

-- each block settles at its firing, if its inputs are right from these items on
abbrev pub AreSettled : Network → (ℕ → ℕ) → Type 0
AreSettled net f = (b : ℕ) → b < length net.nodes → is_source (role_at net b) ≡ false
    → Settles (node_at net b).meaning (right_of net f b) (f b)

-- two blocks with one role, the same options, counts and places of tags. They may give different items, and end at
-- different firings
pub record IsLike (n r : Node) : Type 0 where
  pub role : n.meaning.role ≡ r.meaning.role
  pub policy : n.policy ≡ r.policy
  pub multiple : n.multiple ≡ r.multiple
  pub taken : (p k : ℕ) → n.meaning.taken p k ≡ r.meaning.taken p k
  pub given : (k : ℕ) → n.meaning.given k ≡ r.meaning.given k
  pub place : (p s : ℕ) → n.meaning.place p s ≡ r.meaning.place p s

-- a second network with the same connections. Its blocks go on where those of net stand after k iterations
pub record IsResumed (net : Network) (q : List ℕ) (k : ℕ) (f : ℕ → ℕ) (resumed : Network) : Type 0 where
  pub can : CanRun resumed
  pub blocks : length net.nodes ≡ length resumed.nodes
  pub connections : net.connections ≡ resumed.connections
  pub like : (b : ℕ) → b < length net.nodes → IsLike (node_at net b) (node_at resumed b)
  pub resumes : (b : ℕ) → b < length net.nodes → is_source (role_at net b) ≡ false →
      Resumes (node_at net b).meaning (node_at resumed b).meaning ((node_at net b).multiple * (k * slice_index q b))
      (right_of net f b) (f b)

-- a network whose blocks all forget is such a second network itself
abbrev pub ForgettingResumes : Type 0
ForgettingResumes = (net : Network) → CanRun net → (q : List ℕ) (k : ℕ) (f : ℕ → ℕ) → AreSettled net f
    → IsResumed net q k f net

-- the tapes and settings that are left without the first k iterations
pub record AreRest (net : Network) (q : List ℕ) (k : ℕ) (hs rest : List Handed) : Type 0 where
  pub tapes : (b : ℕ) → b < length net.nodes → is_source (role_at net b) ≡ true → (handed_at rest b).tape
      ≡ drop (k * slice_index q b) (handed_at hs b).tape
  pub settings : (b : ℕ) → b < length net.nodes →
      AreRestSettings (node_at net b).meaning (taken_at ((node_at net b).meaning.rate
      0) * ((node_at net b).multiple * (k * slice_index q b))) (handed_at hs b).settings (handed_at rest b).settings

-- how many items a block gives on each output in k iterations
abbrev pub given_in : Network → List ℕ → ℕ → ℕ → ℕ
given_in net q k b = k * slice_index q b * gives (node_at net b)

-- each stream of the second network is the stream of the first without its k iterations, from the item on from which it
-- is right
abbrev pub ItemsAreRest : Network → Network → List ℕ → (ℕ → ℕ) → ℕ → List Handed → List Handed → Type 0
ItemsAreRest net resumed q f k hs rest =
    (b p : ℕ) → b < length net.nodes → p < (node_at net b).meaning.outputs.most →
    drop (given_in net q k b + settled net f b) (items_of net hs b p)
    ≡ drop (settled net f b) (items_of resumed rest b p)

-- on the rest of the tapes a second network gives the rest of the streams
abbrev pub StreamsResume : Type 0
StreamsResume =
    (net resumed : Network) → CanRun net → (q : List ℕ) → IsBalanced net q → (f : ℕ → ℕ) (k : ℕ)
    → IsResumed net q k f resumed →
    (hs rest : List Handed) → AreRest net q k hs rest → ItemsAreRest net resumed q f k hs rest

-- a network whose blocks all forget gives it itself
abbrev pub StreamsShift : Type 0
StreamsShift =
    (net : Network) → CanRun net → (q : List ℕ) → IsBalanced net q → (f : ℕ → ℕ) → AreSettled net f →
    (k : ℕ) (hs rest : List Handed) → AreRest net q k hs rest → ItemsAreRest net net q f k hs rest
