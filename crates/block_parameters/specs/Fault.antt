-- The numbers, the names and the texts of refusals.
use Rattle.std.specs.Prelude.{ℕ, List, ◌++◌, codes}
use Rattle.block_parameters.specs.declared.fault.Parameter.{Parameter}
use Rattle.block_parameters.specs.declared.fault.Parameter.TheVariants.{ItemType, Value, Factor, Shift, Map, To, Length, Taps, Decimation, Interpolation, K, Modulus, Bits, Mask, Init, N, Ports, Lengths, Low, High, On, Values, Code, Threshold, Order, Places, L, M, Offset, Period, Polynomial, FinalXor, Symbols, Next, Output, Outputs, Steps, Start, End}
use Rattle.block_parameters.specs.declared.fault.ParamFault.{ParamFault}
use Rattle.block_parameters.specs.declared.fault.ParamFault.TheVariants.{BadParameter, Memory}

-- the number by which a refusal is reported, and the name beside it
abbrev pub row_of : ParamFault → ℕ × List ℕ
row_of (BadParameter p) = (10, codes "BadParameter")
row_of Memory = (32, codes "Memory")

-- the name that a graph gives a parameter
abbrev pub parameter_text : Parameter → List ℕ
parameter_text ItemType = codes "type"
parameter_text Value = codes "value"
parameter_text Factor = codes "factor"
parameter_text Shift = codes "shift"
parameter_text Map = codes "map"
parameter_text To = codes "to"
parameter_text Length = codes "length"
parameter_text Taps = codes "taps"
parameter_text Decimation = codes "decimation"
parameter_text Interpolation = codes "interpolation"
parameter_text K = codes "k"
parameter_text Modulus = codes "modulus"
parameter_text Bits = codes "bits"
parameter_text Mask = codes "mask"
parameter_text Init = codes "init"
parameter_text N = codes "n"
parameter_text Ports = codes "ports"
parameter_text Lengths = codes "lengths"
parameter_text Low = codes "low"
parameter_text High = codes "high"
parameter_text On = codes "on"
parameter_text Values = codes "values"
parameter_text Code = codes "code"
parameter_text Threshold = codes "threshold"
parameter_text Order = codes "order"
parameter_text Places = codes "order"
parameter_text L = codes "l"
parameter_text M = codes "m"
parameter_text Offset = codes "offset"
parameter_text Period = codes "period"
parameter_text Polynomial = codes "polynomial"
parameter_text FinalXor = codes "final_xor"
parameter_text Symbols = codes "symbols"
parameter_text Next = codes "next"
parameter_text Output = codes "output"
parameter_text Outputs = codes "outputs"
parameter_text Steps = codes "steps"
parameter_text Start = codes "start"
parameter_text End = codes "end"

-- what is printed of a refusal
abbrev pub text_of : ParamFault → List ℕ
text_of (BadParameter p) = codes "bad parameter " ++ parameter_text p
text_of Memory = codes "out of memory"
