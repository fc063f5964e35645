-- The kinds by name.
use Rattle.std.specs.Prelude.{ℕ, List, [], ◌∷◌, Option, find, bytes_eq, codes}
use Rattle.kinds.specs.declared.kind.Kind.{Kind}
use Rattle.kinds.specs.declared.kind.Kind.TheVariants as blocks
use Rattle.kinds.specs.declared.kind_name.KindName.{KindName}
use Rattle.kinds.specs.declared.kind_name.KindName.TheVariants as kinds

-- the name of a kind in a graph file
abbrev pub kind_text : KindName → List ℕ
kind_text kinds.VectorSource = codes "vector_source"
kind_text kinds.VectorSink = codes "vector_sink"
kind_text kinds.NullSink = codes "null_sink"
kind_text kinds.AddConst = codes "add_const"
kind_text kinds.MultiplyConst = codes "multiply_const"
kind_text kinds.DivideConst = codes "divide_const"
kind_text kinds.AndConst = codes "and_const"
kind_text kinds.OrConst = codes "or_const"
kind_text kinds.XorConst = codes "xor_const"
kind_text kinds.Scale = codes "scale"
kind_text kinds.Clip = codes "clip"
kind_text kinds.Abs = codes "abs"
kind_text kinds.Not = codes "not"
kind_text kinds.Mute = codes "mute"
kind_text kinds.Add = codes "add"
kind_text kinds.Sub = codes "sub"
kind_text kinds.Multiply = codes "multiply"
kind_text kinds.Divide = codes "divide"
kind_text kinds.Minimum = codes "minimum"
kind_text kinds.Maximum = codes "maximum"
kind_text kinds.And = codes "and"
kind_text kinds.Or = codes "or"
kind_text kinds.Xor = codes "xor"
kind_text kinds.SampleAndHold = codes "sample_and_hold"
kind_text kinds.MapBb = codes "map_bb"
kind_text kinds.Table = codes "table"
kind_text kinds.Convert = codes "convert"
kind_text kinds.BinarySlicer = codes "binary_slicer"
kind_text kinds.UlawEncode = codes "ulaw_encode"
kind_text kinds.AlawEncode = codes "alaw_encode"
kind_text kinds.MovingSum = codes "moving_sum"
kind_text kinds.Fir = codes "fir"
kind_text kinds.InterpFir = codes "interp_fir"
kind_text kinds.KeepOneInN = codes "keep_one_in_n"
kind_text kinds.KeepMInN = codes "keep_m_in_n"
kind_text kinds.Integrate = codes "integrate"
kind_text kinds.FrameMinimum = codes "frame_minimum"
kind_text kinds.FrameMaximum = codes "frame_maximum"
kind_text kinds.Argmax = codes "argmax"
kind_text kinds.Repeat = codes "repeat"
kind_text kinds.Insert = codes "insert"
kind_text kinds.Pattern = codes "pattern"
kind_text kinds.Counter = codes "counter"
kind_text kinds.Permute = codes "permute"
kind_text kinds.Interleave = codes "interleave"
kind_text kinds.Deinterleave = codes "deinterleave"
kind_text kinds.StreamMux = codes "stream_mux"
kind_text kinds.Head = codes "head"
kind_text kinds.SkipHead = codes "skiphead"
kind_text kinds.Delay = codes "delay"
kind_text kinds.PackKBits = codes "pack_k_bits"
kind_text kinds.UnpackKBits = codes "unpack_k_bits"
kind_text kinds.RepackBits = codes "repack_bits"
kind_text kinds.PackedToUnpacked = codes "packed_to_unpacked"
kind_text kinds.UnpackedToPacked = codes "unpacked_to_packed"
kind_text kinds.DiffEncoder = codes "diff_encoder"
kind_text kinds.DiffDecoder = codes "diff_decoder"
kind_text kinds.Scrambler = codes "scrambler"
kind_text kinds.Descrambler = codes "descrambler"
kind_text kinds.AdditiveScrambler = codes "additive_scrambler"
kind_text kinds.CorrelateAccessCode = codes "correlate_access_code"
kind_text kinds.CrcAppend = codes "crc_append"
kind_text kinds.CrcCheck = codes "crc_check"
kind_text kinds.StateMachine = codes "state_machine"
kind_text kinds.Viterbi = codes "viterbi"

-- all kinds
abbrev pub all_kinds : List KindName
all_kinds =
    kinds.VectorSource ∷ kinds.VectorSink ∷ kinds.NullSink ∷ kinds.AddConst ∷ kinds.MultiplyConst ∷ kinds.DivideConst
    ∷ kinds.AndConst ∷ kinds.OrConst ∷ kinds.XorConst ∷ kinds.Scale ∷ kinds.Clip ∷ kinds.Abs ∷ kinds.Not ∷ kinds.Mute ∷ kinds.Add
    ∷ kinds.Sub ∷ kinds.Multiply ∷ kinds.Divide ∷ kinds.Minimum ∷ kinds.Maximum ∷ kinds.And ∷ kinds.Or ∷ kinds.Xor ∷ kinds.SampleAndHold ∷ kinds.MapBb
    ∷ kinds.Table ∷ kinds.Convert ∷ kinds.BinarySlicer ∷ kinds.UlawEncode ∷ kinds.AlawEncode ∷ kinds.MovingSum ∷ kinds.Fir
    ∷ kinds.InterpFir ∷ kinds.KeepOneInN ∷ kinds.KeepMInN ∷ kinds.Integrate ∷ kinds.FrameMinimum ∷ kinds.FrameMaximum ∷ kinds.Argmax
    ∷ kinds.Repeat ∷ kinds.Insert ∷ kinds.Pattern ∷ kinds.Counter ∷ kinds.Permute ∷ kinds.Interleave ∷ kinds.Deinterleave
    ∷ kinds.StreamMux ∷ kinds.Head ∷ kinds.SkipHead ∷ kinds.Delay ∷ kinds.PackKBits ∷ kinds.UnpackKBits ∷ kinds.RepackBits
    ∷ kinds.PackedToUnpacked ∷ kinds.UnpackedToPacked ∷ kinds.DiffEncoder ∷ kinds.DiffDecoder ∷ kinds.Scrambler ∷ kinds.Descrambler
    ∷ kinds.AdditiveScrambler ∷ kinds.CorrelateAccessCode ∷ kinds.CrcAppend ∷ kinds.CrcCheck ∷ kinds.StateMachine ∷ kinds.Viterbi ∷ []

-- the kind of a name
abbrev pub kind_named : List ℕ → Option KindName
kind_named text = find (λ kind. bytes_eq text (kind_text kind)) all_kinds

-- the kind of a block
abbrev pub name_of : Kind → KindName
name_of (blocks.VectorSource b) = kinds.VectorSource
name_of (blocks.VectorSink b) = kinds.VectorSink
name_of (blocks.NullSink b) = kinds.NullSink
name_of (blocks.AddConst b) = kinds.AddConst
name_of (blocks.MultiplyConst b) = kinds.MultiplyConst
name_of (blocks.DivideConst b) = kinds.DivideConst
name_of (blocks.AndConst b) = kinds.AndConst
name_of (blocks.OrConst b) = kinds.OrConst
name_of (blocks.XorConst b) = kinds.XorConst
name_of (blocks.Scale b) = kinds.Scale
name_of (blocks.Clip b) = kinds.Clip
name_of (blocks.Abs b) = kinds.Abs
name_of (blocks.Not b) = kinds.Not
name_of (blocks.Mute b) = kinds.Mute
name_of (blocks.Add b) = kinds.Add
name_of (blocks.Sub b) = kinds.Sub
name_of (blocks.Multiply b) = kinds.Multiply
name_of (blocks.Divide b) = kinds.Divide
name_of (blocks.Minimum b) = kinds.Minimum
name_of (blocks.Maximum b) = kinds.Maximum
name_of (blocks.And b) = kinds.And
name_of (blocks.Or b) = kinds.Or
name_of (blocks.Xor b) = kinds.Xor
name_of (blocks.SampleAndHold b) = kinds.SampleAndHold
name_of (blocks.MapBb b) = kinds.MapBb
name_of (blocks.Table b) = kinds.Table
name_of (blocks.Convert b) = kinds.Convert
name_of (blocks.BinarySlicer b) = kinds.BinarySlicer
name_of (blocks.UlawEncode b) = kinds.UlawEncode
name_of (blocks.AlawEncode b) = kinds.AlawEncode
name_of (blocks.MovingSum b) = kinds.MovingSum
name_of (blocks.Fir b) = kinds.Fir
name_of (blocks.InterpFir b) = kinds.InterpFir
name_of (blocks.KeepOneInN b) = kinds.KeepOneInN
name_of (blocks.KeepMInN b) = kinds.KeepMInN
name_of (blocks.Integrate b) = kinds.Integrate
name_of (blocks.FrameMinimum b) = kinds.FrameMinimum
name_of (blocks.FrameMaximum b) = kinds.FrameMaximum
name_of (blocks.Argmax b) = kinds.Argmax
name_of (blocks.Repeat b) = kinds.Repeat
name_of (blocks.Insert b) = kinds.Insert
name_of (blocks.Pattern b) = kinds.Pattern
name_of (blocks.Counter b) = kinds.Counter
name_of (blocks.Permute b) = kinds.Permute
name_of (blocks.Interleave b) = kinds.Interleave
name_of (blocks.Deinterleave b) = kinds.Deinterleave
name_of (blocks.StreamMux b) = kinds.StreamMux
name_of (blocks.Head b) = kinds.Head
name_of (blocks.SkipHead b) = kinds.SkipHead
name_of (blocks.Delay b) = kinds.Delay
name_of (blocks.PackKBits b) = kinds.PackKBits
name_of (blocks.UnpackKBits b) = kinds.UnpackKBits
name_of (blocks.RepackBits b) = kinds.RepackBits
name_of (blocks.PackedToUnpacked b) = kinds.PackedToUnpacked
name_of (blocks.UnpackedToPacked b) = kinds.UnpackedToPacked
name_of (blocks.DiffEncoder b) = kinds.DiffEncoder
name_of (blocks.DiffDecoder b) = kinds.DiffDecoder
name_of (blocks.Scrambler b) = kinds.Scrambler
name_of (blocks.Descrambler b) = kinds.Descrambler
name_of (blocks.AdditiveScrambler b) = kinds.AdditiveScrambler
name_of (blocks.CorrelateAccessCode b) = kinds.CorrelateAccessCode
name_of (blocks.CrcAppend b) = kinds.CrcAppend
name_of (blocks.CrcCheck b) = kinds.CrcCheck
name_of (blocks.StateMachine b) = kinds.StateMachine
name_of (blocks.Viterbi b) = kinds.Viterbi
