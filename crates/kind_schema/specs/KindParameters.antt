-- The parameters of each kind.
use Rattle.std.specs.Prelude.{◌^◌, List, [], ◌∷◌}
use Rattle.block_parameters.specs.declared.fault.Parameter.{Parameter}
use Rattle.block_parameters.specs.declared.fault.Parameter.TheVariants.{Value, Factor, Shift, Map, To, Length, Taps, Decimation, Interpolation, K, Modulus, Bits, Mask, Init, N, Ports, Lengths, Low, High, On, Values, Code, Threshold, Order, Places, L, M, Offset, Period, Polynomial, FinalXor, Symbols, Next, Output, Outputs, Steps, Start, End}
use Rattle.kinds.specs.declared.kind_name.KindName.{KindName}
use Rattle.kinds.specs.declared.kind_name.KindName.TheVariants as kinds
use Rattle.kind_schema.specs.declared.range.ItemTypes.{ItemTypes}
use Rattle.kind_schema.specs.declared.range.ItemTypes.TheVariants as types
use Rattle.kind_schema.specs.declared.range.Range.{Range}
use Rattle.kind_schema.specs.declared.range.Range.TheVariants as ranges

-- the types of items that each kind is one for
abbrev pub types_of : KindName → ItemTypes
types_of kinds.MapBb = types.Bytes
types_of kinds.Table = types.Bytes
types_of kinds.Fir = types.Wide
types_of kinds.InterpFir = types.Wide
types_of kinds.PackKBits = types.Bytes
types_of kinds.UnpackKBits = types.Bytes
types_of kinds.RepackBits = types.Bytes
types_of kinds.DiffEncoder = types.Bytes
types_of kinds.DiffDecoder = types.Bytes
types_of kinds.Scrambler = types.Bytes
types_of kinds.Descrambler = types.Bytes
types_of kinds.AdditiveScrambler = types.Bytes
types_of kinds.CorrelateAccessCode = types.Bytes
types_of kinds.CrcAppend = types.Bytes
types_of kinds.CrcCheck = types.Bytes
types_of kinds.StateMachine = types.Bytes
types_of _ = types.Any

-- those of a filter, of which the rate goes by this name, of a scrambler and of a checksum
abbrev pub filter_parameters : Parameter → List (Parameter × Range)
filter_parameters rate = (Taps, ranges.Taps) ∷ (rate, ranges.Number 1 1024) ∷ (Shift, ranges.Number 0 31) ∷ []

abbrev pub register_parameters : List (Parameter × Range)
register_parameters = (Bits, ranges.Number 2 32) ∷ (Mask, ranges.Register 1) ∷ (Init, ranges.Register 0) ∷ []

abbrev pub checksum_parameters : List (Parameter × Range)
checksum_parameters = (Order, ranges.BitOrder) ∷ (Bits, ranges.Number 8 32) ∷ (Polynomial, ranges.Register 0) ∷ (Init, ranges.Register 0) ∷ (FinalXor, ranges.Register 0) ∷ (N, ranges.Number 1 1020) ∷ []

-- the parameters of each kind, in their order, and what each may be
abbrev pub parameters_of : KindName → List (Parameter × Range)
parameters_of kinds.AddConst = (Value, ranges.Item) ∷ []
parameters_of kinds.MultiplyConst = (Value, ranges.Item) ∷ []
parameters_of kinds.DivideConst = (Value, ranges.Item) ∷ []
parameters_of kinds.AndConst = (Value, ranges.Item) ∷ []
parameters_of kinds.OrConst = (Value, ranges.Item) ∷ []
parameters_of kinds.XorConst = (Value, ranges.Item) ∷ []
parameters_of kinds.Scale = (Factor, ranges.Short) ∷ (Shift, ranges.Number 0 31) ∷ []
parameters_of kinds.Clip = (Low, ranges.Item) ∷ (High, ranges.High) ∷ []
parameters_of kinds.Mute = (On, ranges.Switch) ∷ []
parameters_of kinds.MapBb = (Map, ranges.Bytes) ∷ []
parameters_of kinds.Table = (To, ranges.Type) ∷ (Values, ranges.TargetItems) ∷ []
parameters_of kinds.Convert = (To, ranges.Type) ∷ []
parameters_of kinds.BinarySlicer = (Threshold, ranges.Item) ∷ []
parameters_of kinds.MovingSum = (Length, ranges.Number 1 1024) ∷ []
parameters_of kinds.Fir = filter_parameters Decimation
parameters_of kinds.InterpFir = filter_parameters Interpolation
parameters_of kinds.KeepOneInN = (N, ranges.Number 1 1024) ∷ []
parameters_of kinds.KeepMInN = (M, ranges.Number 1 1024) ∷ (N, ranges.AtLeast M 1024) ∷ (Offset, ranges.KeptOffset) ∷ []
parameters_of kinds.Integrate = (N, ranges.Number 1 1024) ∷ []
parameters_of kinds.FrameMinimum = (N, ranges.Number 1 1024) ∷ []
parameters_of kinds.FrameMaximum = (N, ranges.Number 1 1024) ∷ []
parameters_of kinds.Argmax = (N, ranges.Number 1 1024) ∷ []
parameters_of kinds.Repeat = (N, ranges.Number 1 1024) ∷ []
parameters_of kinds.Insert = (Values, ranges.Items) ∷ (Period, ranges.Period) ∷ (Offset, ranges.ValuesOffset) ∷ []
parameters_of kinds.Pattern = (Values, ranges.Items) ∷ []
parameters_of kinds.Counter = (N, ranges.Number 1 2147483648) ∷ []
parameters_of kinds.Permute = (Places, ranges.Places) ∷ []
parameters_of kinds.Interleave = (Ports, ranges.Number 1 16) ∷ []
parameters_of kinds.Deinterleave = (Ports, ranges.Number 1 16) ∷ []
parameters_of kinds.StreamMux = (Lengths, ranges.Lengths) ∷ []
parameters_of kinds.Head = (N, ranges.Long (2 ^ 32)) ∷ []
parameters_of kinds.SkipHead = (N, ranges.Long (2 ^ 32)) ∷ []
parameters_of kinds.Delay = (N, ranges.Number 0 65536) ∷ []
parameters_of kinds.PackKBits = (K, ranges.Number 1 8) ∷ []
parameters_of kinds.UnpackKBits = (K, ranges.Number 1 8) ∷ []
parameters_of kinds.RepackBits = (Order, ranges.BitOrder) ∷ (K, ranges.Number 1 8) ∷ (L, ranges.Number 1 8) ∷ []
parameters_of kinds.PackedToUnpacked = (Order, ranges.BitOrder) ∷ (Bits, ranges.ItemBits) ∷ []
parameters_of kinds.UnpackedToPacked = (Order, ranges.BitOrder) ∷ (Bits, ranges.ItemBits) ∷ []
parameters_of kinds.DiffEncoder = (Modulus, ranges.Number 2 256) ∷ []
parameters_of kinds.DiffDecoder = (Modulus, ranges.Number 2 256) ∷ []
parameters_of kinds.Scrambler = register_parameters
parameters_of kinds.Descrambler = register_parameters
parameters_of kinds.AdditiveScrambler = register_parameters
parameters_of kinds.CorrelateAccessCode = (Code, ranges.Code) ∷ (Threshold, ranges.Threshold) ∷ []
parameters_of kinds.CrcAppend = checksum_parameters
parameters_of kinds.CrcCheck = checksum_parameters
parameters_of kinds.StateMachine = (Symbols, ranges.Number 1 4096) ∷ (Next, ranges.States) ∷ (Output, ranges.Outputs) ∷ (Init, ranges.State) ∷ []
parameters_of kinds.Viterbi =
    (Symbols, ranges.Number 1 256) ∷ (Next, ranges.FewStates) ∷ (Outputs, ranges.Number 1 1024) ∷ (Output, ranges.NumbersOfOutputs) ∷ (Steps, ranges.Steps) ∷ (Start, ranges.KnownState)
    ∷ (End, ranges.KnownState) ∷ []
parameters_of _ = []
