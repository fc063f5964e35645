-- What is told of what may be set of a block.
use Rattle.std.specs.Prelude.{◌≡◌, ℕ, ℤ, pos, ◌<◌, ◌≤◌, List, length, Some, None}
use Rattle.stream_model.specs.declared.vocabulary.Wanted.TheVariants as wanted
use Rattle.stream_model.specs.Machine as machine
use Rattle.stream_model.specs.Meaning.{Meaning}
use Rattle.stream_model.specs.Network.{node_at}
use Rattle.stream_model.specs.Settings.{Number, Taps}
use Rattle.flowgraph.specs.Flowgraph.{Flowgraph, net_of}
use Rattle.kinds.specs.declared.kind.Kind.{Kind}
use Rattle.kinds.specs.Kind.{meaning_of}
use Rattle.magbelu_c.specs.declared.block_setting.BlockSetting.{BlockSetting}
use Rattle.magbelu_c.specs.declared.reply.Reply.{Reply}
use Rattle.magbelu_c.specs.CallAnswers.{shown}
use Rattle.magbelu_c.specs.Replies.{done, refused}

-- nothing may be set, for a reply
abbrev pub unset : Reply → BlockSetting
unset r = record {
  status = r.status;
  number = r.number;
  what = 0;
  least = pos 0;
  most = pos 0;
  value = pos 0;
  count = 0;
}

-- a number may be set, which lies between these; the block's own is the third
abbrev pub number_told : ℤ → ℤ → ℤ → BlockSetting
number_told least most own = record {
  status = 0;
  number = 0;
  what = 1;
  least = least;
  most = most;
  value = own;
  count = 0;
}

-- so many taps may be set
abbrev pub taps_told : ℕ → BlockSetting
taps_told count = record { status = 0; number = 0; what = 2; least = pos 0; most = pos 0; value = pos 0; count = count }

-- what a block means
abbrev pub meaning_at : Flowgraph Kind → ℕ → Meaning
meaning_at g b = (node_at (net_of meaning_of g) b).meaning

-- it is told what the machine takes as a setting of the block (`IsWanted`), and the block's own value; or there is no
-- block of this number
pub data TellsSetting (g : Flowgraph Kind) (b : ℕ) (taps taps' : List ℤ) (r : BlockSetting) : Type 0 where
  NothingIsSet : b < length g.blocks → (meaning_at g b).setting ≡ None → taps' ≡ taps → r ≡ unset (done 0 0)
      → TellsSetting g b taps taps' r
  NumberIsSet : (least most own : ℤ) → b < length g.blocks → (meaning_at g b).setting ≡ Some (wanted.Number least most)
      → (meaning_at g b).own ≡ Some (Number own) →
      taps' ≡ taps → r ≡ number_told least most own → TellsSetting g b taps taps' r
  TapsAreSet : (own : List ℤ) → b < length g.blocks → (meaning_at g b).setting ≡ Some (wanted.Taps (length own))
      → (meaning_at g b).own ≡ Some (Taps own) →
      taps' ≡ shown own taps → r ≡ taps_told (length own) → TellsSetting g b taps taps' r
  NoneIsThere : length g.blocks ≤ b → taps' ≡ taps → r ≡ unset (refused machine.no_such_block 0)
      → TellsSetting g b taps taps' r
