use Rattle.std.proofs.Common.{◌≡◌, ℕ, map, subst, sym}
use Rattle.rate_blocks.specs.Turns.{CanTurn, HasTurned}
use Rattle.rate_blocks.specs.declared.turns.Turn.{Turn}
use Rattle.rate_blocks.proofs.turns.copy_lengths.Goals as goal

-- a turn of the same length is the same turn
same_turn : (t : Turn) (length : ℕ) (e : length ≡ t.length) → ◌≡◌ {A = Turn} (record { rounds = t.rounds; length = length; before = t.before; all = t.all }) t
same_turn t length e = λ i. record { rounds = t.rounds; length = e i; before = t.before; all = t.all }

pub copy_turns-requires : goal.copy_turns-requires
copy_turns-requires g c =
    record {
      can = subst (λ t. CanTurn t (map g.T.Number.number c.args.items.now) (map g.T.Number.number c.args.out.now)) (sym (same_turn c.args.turn.now c.args.length c.requires.length)) c.requires.can;
    }

pub returns : goal.returns
returns g c =
    subst (λ t. HasTurned t (map g.T.Number.number c.args.items.now) (map g.T.Number.number c.args.out.now) (map g.T.Number.number c.copy_turns.new.out))
    (same_turn c.args.turn.now c.args.length c.requires.length) c.copy_turns.ensures
