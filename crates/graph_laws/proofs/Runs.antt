-- A valid graph of lawful blocks is what the laws ask for.
use Rattle.std.proofs.Common.{◌≡◌, ℕ, ◌<◌, ◌≤◌, min, true, false, List, length, Option, Some, None, get_or, refl, arith, ap, sym, subst, inl, inr, one-mul}
use Rattle.std.specs.Prelude.{◌≢◌, ◌&&◌, IsSome, is_some, is_none, if◌then◌else◌}
use Rattle.std.proofs.lemmas.Bool.{cases_lt, ltb-true, and_left, and_right}
use Rattle.std.proofs.lemmas.Int.{ints}
use Rattle.std.proofs.lemmas.List.{get_or_past}
use Rattle.std.proofs.lemmas.List.Elements.{Contains-get_or}
use Rattle.stream_model.specs.declared.vocabulary.Role.{Role}
use Rattle.stream_model.specs.declared.vocabulary.Role.TheVariants.{Source, Work, Keep, Discard}
use Rattle.stream_model.specs.Meaning.{Meaning, KeepsRole, IsLawful, IsAtRate}
use Rattle.stream_model.specs.Network.{Network, Node, Connection, IsSound, node_at, role_at, is_source, no_node, no_meaning}
use Rattle.stream_laws.specs.CanRun.{CanRun, HasPorts}
use Rattle.graph_model.specs.Rates.{CanCount}
use Rattle.graph_model.specs.Graphs.{In, Out, has_port, most_ports, most_multiple, multiples, is_work, ports_to, level_of, IsValidGraph}
use Rattle.graph_laws.specs.Running.{AreLawful, ValidGraphsRun}
use Rattle.graph_laws.proofs.Inputs.{writers-length, numbered, its_writer, many, read}

-- what a place without a block reads as keeps the laws
no_rate : (p : ℕ) → IsAtRate no_meaning p 1 1
no_rate p =
    record {
      takes_some = omega arith;
      takes_few = omega arith;
      gives_some = omega arith;
      gives_few = omega arith;
      taken = λ k. sym (one-mul k);
      given = λ k. sym (one-mul k);
      not_early = λ s. omega arith;
      not_far = λ s. omega arith;
    }

no_block-lawful : IsLawful no_meaning
no_block-lawful =
    record {
      role = record { ports = (refl, refl, refl); rate = refl; plain = (refl, refl, refl) };
      counts = λ p. (refl, no_rate p);
      reads_now = omega arith;
      own = refl;
      settable = λ h. refl;
      starts = λ ts xs. refl;
      in_range = λ ts xs p n port wanted h. record { above = omega (arith, ints); below = omega (arith, ints) };
      local = λ ts us xs ys k p n port settings inputs h. refl;
      local_word = λ ts us xs ys k settings inputs. refl;
    }

-- one firing is one base firing where a multiple is not allowed
module _ (m : Meaning) where
  one-of : (is_work m.role && is_none m.limit && is_some (m.rate 0)) ≡ false → multiples m ≡ 1
  one-of e = ap (λ b. if b then most_multiple else 1) e

  shifted-one : m.rate 0 ≡ None → multiples m ≡ 1
  shifted-one e = one-of (and_right (is_work m.role && is_none m.limit) (is_some (m.rate 0)) (ap is_some e))

  none_not : (o : Option ℕ) → IsSome o → is_none o ≡ false
  none_not None h = absurd (cc)
  none_not (Some n) h = refl

  limited-one : IsSome m.limit → multiples m ≡ 1
  limited-one h = one-of (and_left (is_work m.role && is_none m.limit) (is_some (m.rate 0)) (and_right (is_work m.role) (is_none m.limit) (none_not m.limit h)))

  not_work : (r : Role) → r ≢ Work → is_work r ≡ false
  not_work Source h = refl
  not_work Work h = absurd (h refl)
  not_work Keep h = refl
  not_work Discard h = refl

  end-one : m.role ≢ Work → multiples m ≡ 1
  end-one h = one-of (and_left (is_work m.role && is_none m.limit) (is_some (m.rate 0)) (and_left (is_work m.role) (is_none m.limit) (not_work m.role h)))

  asks : (r : Role) → is_source r ≡ false → KeepsRole m r → 1 ≤ m.inputs.least
  asks Source e h = absurd (cc)
  asks Work e h = h
  asks Keep e h = let one = h.ports.0 in omega arith
  asks Discard e h = let one = h.ports.0 in omega arith

-- what each place of a network keeps
record KeepsRules (n : Node) : Type 0 where
  sound : IsSound n
  few : n.multiple ≤ multiples n.meaning

module _ (names : List (List ℕ)) (net : Network) (valid : IsValidGraph names net) (lawful : AreLawful net) where
  rules : (b : ℕ) → KeepsRules (node_at net b)
  rules b =
      elim (cases_lt b (length net.nodes)) [
        | inl in' ↦ (let one = valid.graph.multiple b no_node in' in record { sound = record { lawful = lawful b no_node in'; some = one.0 }; few = one.1 })
        | inr past ↦ subst KeepsRules (sym (get_or_past net.nodes b no_node past)) (record { sound = record { lawful = no_block-lawful; some = omega arith }; few = omega arith })
      ]

  single : (b : ℕ) → multiples (node_at net b).meaning ≡ 1 → (node_at net b).multiple ≡ 1
  single b one = (let few = (rules b).few in let some = (rules b).sound.some in omega arith)

  asked : (b : ℕ) → b < length net.nodes → is_source (role_at net b) ≡ false → 1 ≤ ports_to net b In
  asked b in' e =
      let least = asks (node_at net b).meaning (role_at net b) e (rules b).sound.lawful.role in
      let enough = valid.enough b In in' in
      omega arith

  has_ports : (c : Connection) → (has_port (node_at net c.from) Out c.out_port ≡ true) × (has_port (node_at net c.to) In c.in_port ≡ true) → HasPorts net c
  has_ports c both =
      let out = ltb-true c.out_port (min most_ports (node_at net c.from).meaning.outputs.most) both.0 in
      let in' = ltb-true c.in_port (min most_ports (node_at net c.to).meaning.inputs.most) both.1 in
      record { output = omega arith; input = omega arith }

  runs : CanRun net
  runs =
      record {
        sound = λ b. (rules b).sound;
        single_shift = λ b e. single b (shifted-one (node_at net b).meaning e);
        single_limit = λ b e. single b (limited-one (node_at net b).meaning e);
        single_end = λ b e. single b (end-one (node_at net b).meaning e);
        level = level_of net;
        levels = valid.levels;
        ports = λ k d lt. has_ports (get_or net.connections k d) (valid.graph.ports k d lt);
        writers = λ k d lt. its_writer names net valid (get_or net.connections k d) (Contains-get_or net.connections k d lt);
        numbered = numbered names net valid;
        fed = λ b in' e. (let one = asked b in' e in omega (arith, writers-length names net valid b));
        read = read names net valid;
      }

  counts : CanCount net
  counts =
      record {
        sound = λ b. (rules b).sound;
        single = λ b e. single b (shifted-one (node_at net b).meaning e);
        fed = λ b in' e. (let one = asked b in' e in omega (arith, many names net valid b));
      }

pub valid_graphs_run : ValidGraphsRun
valid_graphs_run names net valid lawful = (runs names net valid lawful, counts names net valid lawful)
