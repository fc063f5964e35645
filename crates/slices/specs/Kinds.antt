-- How far back each kind looks.
use Rattle.std.specs.Prelude.{ℕ, ◌+◌, ◌-◌, length, Bool, true, false}
use Rattle.stream_model.specs.declared.vocabulary.Shift.{Shift}
use Rattle.stream_model.specs.declared.vocabulary.Shift.TheVariants as shifts
use Rattle.kind_model.specs.Filters.{branch_taps}
use Rattle.stream_model.specs.Meaning.{Meaning}
use Rattle.rate_blocks.specs.Kinds.{head_after}
use Rattle.bit_blocks.specs.Kinds.{scrambler_after}
use Rattle.kinds.specs.Kind.{meaning_of}
use Rattle.kinds.specs.declared.kind.Kind.{Kind}
use Rattle.kinds.specs.declared.kind.Kind.TheVariants.{VectorSource, VectorSink, NullSink, AddConst, MultiplyConst, DivideConst, AndConst, OrConst, XorConst, Scale, Clip, Abs, Not, Mute, Add, Sub, Multiply, Divide, Minimum, Maximum, And, Or, Xor, SampleAndHold, MapBb, Table, Convert, BinarySlicer, UlawEncode, AlawEncode, MovingSum, Fir, InterpFir, KeepOneInN, KeepMInN, Integrate, FrameMinimum, FrameMaximum, Argmax, Repeat, Insert, Pattern, Counter, Permute, Interleave, Deinterleave, StreamMux, Head, SkipHead, Delay, PackKBits, UnpackKBits, RepackBits, PackedToUnpacked, UnpackedToPacked, DiffEncoder, DiffDecoder, Scrambler, Descrambler, AdditiveScrambler, CorrelateAccessCode, CrcAppend, CrcCheck, StateMachine, Viterbi}
use Rattle.slices.specs.declared.look_back.LookBack.{LookBack}
use Rattle.slices.specs.declared.look_back.LookBack.TheVariants.{Items, Everything}
use Rattle.slices.specs.declared.look_back.LookBack.TheVariants as looks

-- how far back a block looks, by its kind. Where no comment says why, a firing reads what it takes and nothing before
-- it
abbrev pub look_back_of : Kind → LookBack
look_back_of (VectorSource b) = Items 0
look_back_of (VectorSink b) = Items 0
look_back_of (NullSink b) = Items 0
look_back_of (AddConst b) = Items 0
look_back_of (MultiplyConst b) = Items 0
look_back_of (DivideConst b) = Items 0
look_back_of (AndConst b) = Items 0
look_back_of (OrConst b) = Items 0
look_back_of (XorConst b) = Items 0
look_back_of (Scale b) = Items 0
look_back_of (Clip b) = Items 0
look_back_of (Abs b) = Items 0
look_back_of (Not b) = Items 0
look_back_of (Mute b) = Items 0
look_back_of (Add b) = Items 0
look_back_of (Sub b) = Items 0
look_back_of (Multiply b) = Items 0
look_back_of (Divide b) = Items 0
look_back_of (Minimum b) = Items 0
look_back_of (Maximum b) = Items 0
look_back_of (And b) = Items 0
look_back_of (Or b) = Items 0
look_back_of (Xor b) = Items 0
look_back_of (SampleAndHold b) = Everything
look_back_of (MapBb b) = Items 0
look_back_of (Table b) = Items 0
look_back_of (Convert b) = Items 0
look_back_of (BinarySlicer b) = Items 0
look_back_of (UlawEncode b) = Items 0
look_back_of (AlawEncode b) = Items 0
-- the sum has `length` items, of which the last is taken by the firing
look_back_of (MovingSum b) = Items (b.length - 1)
-- a product for each tap, the first with an item that the firing takes
look_back_of (Fir b) = Items (length b.taps.items - 1)
-- a branch has so many taps at most
look_back_of (InterpFir b) = Items (branch_taps b.taps.items b.rate - 1)
look_back_of (KeepOneInN b) = Items 0
look_back_of (KeepMInN b) = Items 0
look_back_of (Integrate b) = Items 0
look_back_of (FrameMinimum b) = Items 0
look_back_of (FrameMaximum b) = Items 0
look_back_of (Argmax b) = Items 0
look_back_of (Repeat b) = Items 0
look_back_of (Insert b) = Items 0
-- its items go on by their number
look_back_of (Pattern b) = Everything
look_back_of (Counter b) = Everything
look_back_of (Permute b) = Items 0
look_back_of (Interleave b) = Items 0
look_back_of (Deinterleave b) = Items 0
look_back_of (StreamMux b) = Items 0
look_back_of (Head b) = Items 0
look_back_of (SkipHead b) = looks.Skip b.n
look_back_of (Delay b) = looks.Delay b.n
look_back_of (PackKBits b) = Items 0
look_back_of (UnpackKBits b) = Items 0
look_back_of (RepackBits b) = Items 0
look_back_of (PackedToUnpacked b) = Items 0
look_back_of (UnpackedToPacked b) = Items 0
-- each sum holds all items before it
look_back_of (DiffEncoder b) = Everything
-- an item less the one before it
look_back_of (DiffDecoder b) = Items 1
-- what it gave comes back into its register
look_back_of (Scrambler b) = Everything
-- the bits in its register are the last items; no register has more
look_back_of (Descrambler b) = Items 32
look_back_of (AdditiveScrambler b) = Items 0
-- it gives the item 64 before, and compares those before that one with the code
look_back_of (CorrelateAccessCode b) = Items (64 + b.length)
look_back_of (CrcAppend b) = Items 0
look_back_of (CrcCheck b) = Items 0
look_back_of (StateMachine b) = Everything
look_back_of (Viterbi b) = Items 0

-- what a block goes on as behind so many firings: a head has as many fewer items to give, the register of an additive
-- scrambler has gone on by itself, and one that forgets goes on as it is
abbrev pub later_of : Kind → ℕ → Meaning
later_of (Head b) c = head_after b c
later_of (AdditiveScrambler b) c = scrambler_after b c
later_of k c = meaning_of k

-- what a block gives rests on how many firings came before: a head has fewer items left to give, and an additive
-- scrambler another register
abbrev pub counts_of : Kind → Bool
counts_of (Head b) = true
counts_of (AdditiveScrambler b) = true
counts_of k = false

-- how far back a block with this shift and this history looks, where nothing else keeps its past
abbrev pub shown_by : Shift → ℕ → LookBack
shown_by shifts.No history = Items (history - 1)
shown_by (shifts.Skip n) history = looks.Skip n
shown_by (shifts.Delay n) history = looks.Delay n
