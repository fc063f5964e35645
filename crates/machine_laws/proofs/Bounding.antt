-- Counts stay small: the gains along a path make no more of a tape than is allowed, and each block on it adds at most a delay.
use Rattle.std.proofs.Common.{◌≡◌, ℕ, zero, suc, ◌+◌, ◌*◌, ◌^◌, ◌<◌, ◌≤◌, Bool, true, false, List, [], ◌∷◌, ◌++◌, length, refl, arith, ap, sym, ◌∙◌, subst, mul-le-mul_left, mul-le-mul_right, mul-pos}
use Rattle.std.specs.List.{Contains}
use Rattle.std.proofs.lemmas.List.Elements.{All-contains_itself}
use Rattle.stream_model.specs.Network.{Network, Connection, State, node_at, role_at, handed_at, is_source, writers_of, writer_of, no_connection, taken_by, given_by}
use Rattle.stream_model.specs.Machine.{Capacities}
use Rattle.stream_model.proofs.Counts.{fires_near_taken}
use Rattle.stream_model.proofs.Streams.{given_by-rises}
use Rattle.graph_model.specs.Graphs.{IsWalk, IsValidGraph, block_gain, gain_along}
use Rattle.graph_model.specs.Gains.{most_grown, IsWithinGain, AreWithinGain}
use Rattle.graph_model.proofs.Gains.{gives_at_most}
use Rattle.stream_laws.specs.CanRun.{CanRun}
use Rattle.stream_laws.proofs.Writers.{source_takes, source_gives}
use Rattle.machine_laws.specs.Sound.{fired, reached, Sound}
use Rattle.machine_laws.specs.Bounds.{CountsAreSmall}
use Rattle.machine_laws.proofs.Ports.{writers_all}

-- a walk goes on by a connection
walk_on : (net : Network) (a b : ℕ) (cs : List Connection) (c : Connection) → Contains net.connections c → c.from ≡ b → IsWalk net a b cs → IsWalk net a c.to (cs ++ c ∷ [])
walk_on net a b [] c in' from walk = (in', from ∙ sym walk, refl)
walk_on net a b (d ∷ cs) c in' from walk = (walk.0, walk.1, walk_on net d.to b cs c in' from walk.2)

-- and its gain by that of the block there
gain_on : (net : Network) (a : ℕ) (cs : List Connection) (c : Connection) → gain_along net a (cs ++ c ∷ []) ≡ gain_along net a cs * block_gain net c.to
gain_on net a [] c = refl
gain_on net a (d ∷ cs) c = let rest = gain_on net d.to cs c in rw rest (omega arith)

module _ (net : Network) (can : CanRun net) where
  -- firings give at most the gain times what they take and a delay
  gives_few : (b k : ℕ) → (1 ≤ block_gain net b) × (given_by (node_at net b) k ≤ block_gain net b * (taken_by (node_at net b) 0 k + 65536))
  gives_few b k = gives_at_most (node_at net b).meaning (can.sound b).lawful ((node_at net b).multiple * k)

  -- what fits is within the limit by itself
  pub alone_fits : (b n : ℕ) → b < length net.nodes → IsWithinGain net n → n ≤ most_grown
  alone_fits b n in1 within =
      let own : block_gain net b * n ≤ most_grown = within b b [] in1 refl in
      let more : 1 * n ≤ block_gain net b * n = mul-le-mul_right n (gives_few b 0).0 in
      omega arith

  module _ (caps : Capacities) (st : State) (sound : Sound net caps st) where
    -- how long the tape of block b may come to be
    abbrev tape_of : ℕ → ℕ
    tape_of b = (handed_at st.handed b).longest

    -- a path from a source to block b that bounds what it gives
    pub record Path (b : ℕ) : Type 0 where
      pub from : ℕ
      pub walk : List Connection
      pub member : from < length net.nodes
      pub source : is_source (role_at net from) ≡ true
      pub joins : IsWalk net from b walk
      pub some : 1 ≤ gain_along net from walk
      pub bounds : given_by (node_at net b) (reached st b) ≤ gain_along net from walk * (tape_of from + 65536 * (can.level b + 1))

    tape_few : (b : ℕ) → b < length net.nodes → is_source (role_at net b) ≡ true → reached st b ≤ tape_of b
    tape_few b in1 e = let there = (sound.fits b in1).tape e in let short = (sound.handed b in1).short in omega arith

    bound_on : (i g t x z l m : ℕ) → 1 ≤ g → z ≤ i * (x + 65536) → x ≤ g * (t + 65536 * (l + 1)) → l < m → z ≤ g * i * (t + 65536 * (m + 1))
    bound_on i g t x z l m some gives few higher =
        let delay : 65536 ≤ g * 65536 = mul-le-mul_right 65536 some in
        let more : g * (t + 65536 * (l + 1) + 65536) ≤ g * (t + 65536 * (m + 1)) = mul-le-mul_left g (omega arith) in
        let sum : x + 65536 ≤ g * (t + 65536 * (m + 1)) = omega arith in
        let all : i * (x + 65536) ≤ i * (g * (t + 65536 * (m + 1))) = mul-le-mul_left i sum in
        omega arith

    -- what a block takes is there, in what its writers give
    abbrev pub Comes : ℕ → Connection → Type 0
    Comes b c =
        Contains net.connections c × (c.from < length net.nodes) × (can.level c.from < can.level c.to)
        × (c.to ≡ b → taken_by (node_at net b) c.in_port (reached st b) ≤ given_by (node_at net c.from) (fired st c.from))

    comes : (b p : ℕ) → b < length net.nodes → p < length (writers_of net b) → ((writer_of net b p).to ≡ b) × Comes b (writer_of net b p)
    comes b p in1 used =
        writers_all net can (Comes b) b
        (λ k d lt. (All-contains_itself net.connections k d lt, (can.levels.rises k d lt).0, (can.levels.rises k d lt).2, (sound.fits b in1).items k d lt)) p no_connection used

    taken_few : (b p : ℕ) → b < length net.nodes → p < length (writers_of net b) → taken_by (node_at net b) p (reached st b) ≤ given_by (node_at net (writer_of net b p).from) (reached st (writer_of net b p).from)
    taken_few b p in1 used =
        let own = comes b p in1 used in
        let there = own.1.3 own.0 in
        let number = ap (λ q. taken_by (node_at net b) q (reached st b)) (can.numbered b p used) in
        let more = given_by-rises (node_at net (writer_of net b p).from) (can.sound (writer_of net b p).from) (fired st (writer_of net b p).from) (reached st (writer_of net b p).from) (omega arith) in
        omega arith

    path_at : (b : ℕ) (s : Bool) → b < length net.nodes → is_source (role_at net b) ≡ s → ((c : ℕ) → c < length net.nodes → can.level c < can.level b → Path c) → Path b
    path_at b true in1 e each =
        let some = (gives_few b (reached st b)).0 in
        let few = tape_few b in1 e in
        let given = source_gives net can b (reached st b) e in
        let all = mul-le-mul_right (tape_of b + 65536 * (can.level b + 1)) some in
        record { from = b; walk = []; member = in1; source = e; joins = refl; some = some; bounds = omega arith }
    path_at b false in1 e each =
        let used : 0 < length (writers_of net b) = can.fed b in1 e in
        let own = comes b 0 in1 used in
        let c = writer_of net b 0 in
        let level = ap can.level own.0 in
        let higher = own.1.2 in
        let lower : can.level (writer_of net b 0).from < can.level b = omega arith in
        let path = each (writer_of net b 0).from own.1.1 lower in
        let gives = gives_few b (reached st b) in
        let taken = taken_few b 0 in1 used in
        let more : block_gain net b * (taken_by (node_at net b) 0 (reached st b) + 65536) ≤ block_gain net b * (given_by (node_at net (writer_of net b 0).from) (reached st (writer_of net b 0).from) + 65536) = mul-le-mul_left (block_gain net b) (omega arith) in
        let gave = gives.1 in
        let bound = bound_on (block_gain net b) (gain_along net path.from path.walk) (tape_of path.from) (given_by (node_at net (writer_of net b 0).from) (reached st (writer_of net b 0).from)) (given_by (node_at net b) (reached st b)) (can.level (writer_of net b 0).from) (can.level b) path.some (omega arith) path.bounds lower in
        let gain : gain_along net path.from (path.walk ++ writer_of net b 0 ∷ []) ≡ gain_along net path.from path.walk * block_gain net b = gain_on net path.from path.walk (writer_of net b 0) ∙ ap (λ v. gain_along net path.from path.walk * block_gain net v) own.0 in
        let some : 1 ≤ gain_along net path.from path.walk * block_gain net b = mul-pos path.some gives.0 in
        record {
          from = path.from;
          walk = path.walk ++ writer_of net b 0 ∷ [];
          member = path.member;
          source = path.source;
          joins = subst (λ v. IsWalk net path.from v (path.walk ++ writer_of net b 0 ∷ [])) own.0 (walk_on net path.from (writer_of net b 0).from path.walk (writer_of net b 0) own.1.0 refl path.joins);
          some = rw gain some;
          bounds = rw gain bound;
        }

    path : (turns b : ℕ) → can.level b < turns → b < length net.nodes → Path b
    path zero b low in1 = absurd (omega arith)
    path (suc turns) b low in1 = path_at b (is_source (role_at net b)) in1 refl (λ c in2 lower. let h : can.level c < turns = omega arith in path turns c h in2)

    module _ (names : List (List ℕ)) (valid : IsValidGraph names net) (within : AreWithinGain net st.handed) where
      -- what is made of a tape, and 2 ^ 24 times the delays of 256 blocks
      given_few : (b : ℕ) → b < length net.nodes → given_by (node_at net b) (reached st b) ≤ most_grown + 2 ^ 48
      given_few b in1 =
          let here = path (suc (can.level b)) b (omega arith) in1 in
          let gain : gain_along net here.from here.walk ≤ 16777216 = valid.gain here.from b here.walk here.member here.joins in
          let blocks = valid.graph.few_blocks in
          let level = can.levels.few b in1 in
          let tape = within here.from here.member here.source here.from b here.walk here.member here.joins in
          let deep : gain_along net here.from here.walk * (65536 * (can.level b + 1)) ≤ gain_along net here.from here.walk * 16777216 = mul-le-mul_left (gain_along net here.from here.walk) (omega arith) in
          let wide : gain_along net here.from here.walk * 16777216 ≤ 16777216 * 16777216 = mul-le-mul_right 16777216 gain in
          let bounds = here.bounds in
          omega arith

      firings_few : (b : ℕ) (s : Bool) → b < length net.nodes → is_source (role_at net b) ≡ s → (node_at net b).multiple * reached st b ≤ most_grown + 2 ^ 48 + 65536
      firings_few b true in1 e =
          let near = fires_near_taken (node_at net b).meaning (can.sound b).lawful 0 ((node_at net b).multiple * reached st b) in
          let taken = source_takes net can b (reached st b) e in
          let few = tape_few b in1 e in
          let alone = alone_fits b (tape_of b) in1 (within b in1 e) in
          omega arith
      firings_few b false in1 e =
          let used : 0 < length (writers_of net b) = can.fed b in1 e in
          let near = fires_near_taken (node_at net b).meaning (can.sound b).lawful 0 ((node_at net b).multiple * reached st b) in
          let taken = taken_few b 0 in1 used in
          let few = given_few (writer_of net b 0).from (comes b 0 in1 used).1.1 in
          omega arith

pub counts_are_small : CountsAreSmall
counts_are_small names net caps st can valid within sound b in' =
    record {
      firings = (let few = firings_few net can caps st sound names valid within b (is_source (role_at net b)) in' refl in omega arith);
      given = (let few = given_few net can caps st sound names valid within b in' in omega arith);
      taken = λ p used. (let taken = taken_few net can caps st sound b p in' used in let few = given_few net can caps st sound names valid within (writer_of net b p).from (comes net can caps st sound b p in' used).1.1 in omega arith);
    }
