-- The keys of each kind, and the block that is made of a table.
use Rattle.std.specs.Prelude.{List, [], ◌∷◌, ◌++◌, length, map, Bool, true, false, Option, Some, None, Result, Ok, Err}
use Rattle.toml.specs.Data.{Members}
use Rattle.stream_model.specs.declared.vocabulary.ItemType.{ItemType}
use Rattle.stream_model.specs.Meaning.{Meaning}
use Rattle.kind_model.specs.Ends.{vector_source, vector_sink, null_sink}
use Rattle.kind_model.specs.Math.{add_const, multiply_const, and_const, or_const, xor_const, scale, clip, abs, mute, add, sub, multiply, minimum, maximum, and_of, or_of, xor_of, sample_and_hold, not_of, convert, map_bb, table, moving_sum, divide_const, divide, binary_slicer, ulaw_encode, alaw_encode}
use Rattle.kind_model.specs.Filters.{fir, interp_fir}
use Rattle.kind_model.specs.Rates.{keep_one_in_n, keep_m_in_n, integrate, repeat, insert, permute, interleave, deinterleave, stream_mux, head, skiphead, delay, frame_minimum, frame_maximum, argmax, pattern, counter}
use Rattle.kind_model.specs.Bits.{pack_k_bits, unpack_k_bits, diff_decoder, diff_encoder, scrambler, descrambler, additive_scrambler}
use Rattle.kind_model.specs.BitStreams.{repack_bits, packed_to_unpacked, unpacked_to_packed, correlate_access_code}
use Rattle.kind_model.specs.Codes.{crc_append, crc_check, state_machine}
use Rattle.kind_model.specs.Trellis.{Trellis, viterbi}
use Rattle.kind_model.specs.declared.vocabulary.Checksum.{Checksum}
use Rattle.rate_blocks.specs.Lengths.{unsigned}
use Rattle.block_parameters.specs.declared.fault.Parameter.{Parameter}
use Rattle.block_parameters.specs.declared.fault.Parameter.TheVariants as parameters
use Rattle.kind_schema.specs.declared.key.Key.{Key}
use Rattle.kind_schema.specs.declared.key.Key.TheVariants as keys
use Rattle.kind_schema.specs.declared.range.ItemTypes.{ItemTypes}
use Rattle.kind_schema.specs.declared.range.ItemTypes.TheVariants as types
use Rattle.kind_schema.specs.declared.range.Range.{Range}
use Rattle.kinds.specs.declared.kind_name.KindName.{KindName}
use Rattle.kinds.specs.declared.kind_name.KindName.TheVariants as kinds
use Rattle.kind_schema.specs.Tables.{number_at, count_at, small_at, known_at, numbers_at, text_at, type_at, type_or_byte, order_at, order_or_msb, code_at}
use Rattle.kind_schema.specs.Ranges.{parameter, lies_in, are_among}
use Rattle.kind_schema.specs.KindParameters.{types_of, parameters_of}

-- the key of the type of a block's items, which a kind has that is one for several types
abbrev pub type_keys : ItemTypes → List Key
type_keys types.Bytes = []
type_keys types.Any = parameter parameters.ItemType ∷ []
type_keys types.Wide = parameter parameters.ItemType ∷ []

-- the keys of each kind that are no parameters: which tags pass, its multiple, and the capacity of its outputs
abbrev pub options_of : KindName → List Key
options_of kinds.VectorSource = keys.Capacity ∷ []
options_of kinds.VectorSink = []
options_of kinds.NullSink = []
options_of _ = keys.Tags ∷ keys.Multiple ∷ keys.Capacity ∷ []

-- the keys of each kind, in the order in which they are tested
abbrev pub keys_of : KindName → List Key
keys_of kind = keys.Name ∷ keys.Kind ∷ (type_keys (types_of kind) ++ map (λ row. parameter row.0) (parameters_of kind)
    ++ options_of kind)

-- whether a block of the kind keeps a list of its table or one that it makes, for which it takes memory
abbrev pub keeps_list : KindName → Bool
keeps_list kinds.MapBb = true
keeps_list kinds.Table = true
keeps_list kinds.Fir = true
keeps_list kinds.InterpFir = true
keeps_list kinds.Insert = true
keeps_list kinds.Pattern = true
keeps_list kinds.Permute = true
keeps_list kinds.CrcAppend = true
keeps_list kinds.CrcCheck = true
keeps_list kinds.StateMachine = true
keeps_list kinds.Viterbi = true
keeps_list _ = false

-- what follows, where a parameter passes its test
abbrev pub needs : Bool → Parameter → Result Meaning Parameter → Result Meaning Parameter
needs true p rest = rest
needs false p rest = Err p

-- what follows, where each of some parameters lies in its range; or the first that does not
abbrev pub tested_by : List (Parameter × Range) → ItemType → Members → Result Meaning Parameter
    → Result Meaning Parameter
tested_by [] t ms rest = rest
tested_by (row ∷ rows) t ms rest = needs (lies_in row.1 t ms row.0) row.0 (tested_by rows t ms rest)

-- the checksum that a table describes
abbrev pub checksum_at : Members → Checksum
checksum_at ms =
    record {
      bits = small_at ms (parameter parameters.Bits);
      polynomial = count_at ms (parameter parameters.Polynomial);
      init = count_at ms (parameter parameters.Init);
      final_xor = count_at ms (parameter parameters.FinalXor);
      order = order_or_msb (order_at ms (parameter parameters.Order));
    }

-- the trellis that a table describes
abbrev pub trellis_at : Members → Trellis
trellis_at ms =
    record {
      symbols = small_at ms (parameter parameters.Symbols);
      next = unsigned (numbers_at ms (parameter parameters.Next));
      output = unsigned (numbers_at ms (parameter parameters.Output));
      outputs = small_at ms (parameter parameters.Outputs);
      steps = small_at ms (parameter parameters.Steps);
      start = known_at ms (parameter parameters.Start);
      end = known_at ms (parameter parameters.End);
    }

-- what a block of the kind on items of a type means with the parameters of a table
abbrev pub meant : KindName → ItemType → Members → Meaning
meant kinds.VectorSource t ms = vector_source t
meant kinds.VectorSink t ms = vector_sink t
meant kinds.NullSink t ms = null_sink t
meant kinds.AddConst t ms = add_const t (number_at ms (parameter parameters.Value))
meant kinds.MultiplyConst t ms = multiply_const t (number_at ms (parameter parameters.Value))
meant kinds.DivideConst t ms = divide_const t (number_at ms (parameter parameters.Value))
meant kinds.AndConst t ms = and_const t (number_at ms (parameter parameters.Value))
meant kinds.OrConst t ms = or_const t (number_at ms (parameter parameters.Value))
meant kinds.XorConst t ms = xor_const t (number_at ms (parameter parameters.Value))
meant kinds.Scale t ms = scale t (number_at ms (parameter parameters.Factor)) (small_at ms (parameter parameters.Shift))
meant kinds.Clip t ms = clip t (number_at ms (parameter parameters.Low)) (number_at ms (parameter parameters.High))
meant kinds.Abs t ms = abs t
meant kinds.Not t ms = not_of t
meant kinds.Mute t ms = mute t (number_at ms (parameter parameters.On))
meant kinds.Add t ms = add t
meant kinds.Sub t ms = sub t
meant kinds.Multiply t ms = multiply t
meant kinds.Divide t ms = divide t
meant kinds.Minimum t ms = minimum t
meant kinds.Maximum t ms = maximum t
meant kinds.And t ms = and_of t
meant kinds.Or t ms = or_of t
meant kinds.Xor t ms = xor_of t
meant kinds.SampleAndHold t ms = sample_and_hold t
meant kinds.MapBb t ms = map_bb (numbers_at ms (parameter parameters.Map))
meant kinds.Table t ms = table (type_or_byte (type_at ms (parameter parameters.To)))
    (numbers_at ms (parameter parameters.Values))
meant kinds.Convert t ms = convert t (type_or_byte (type_at ms (parameter parameters.To)))
meant kinds.BinarySlicer t ms = binary_slicer t (number_at ms (parameter parameters.Threshold))
meant kinds.UlawEncode t ms = ulaw_encode t
meant kinds.AlawEncode t ms = alaw_encode t
meant kinds.MovingSum t ms = moving_sum t (small_at ms (parameter parameters.Length))
meant kinds.Fir t ms = fir t (numbers_at ms (parameter parameters.Taps)) (small_at ms (parameter parameters.Decimation))
    (small_at ms (parameter parameters.Shift))
meant kinds.InterpFir t ms = interp_fir t (numbers_at ms (parameter parameters.Taps))
    (small_at ms (parameter parameters.Interpolation)) (small_at ms (parameter parameters.Shift))
meant kinds.KeepOneInN t ms = keep_one_in_n t (small_at ms (parameter parameters.N))
meant kinds.KeepMInN t ms = keep_m_in_n t (small_at ms (parameter parameters.M)) (small_at ms (parameter parameters.N))
    (small_at ms (parameter parameters.Offset))
meant kinds.Integrate t ms = integrate t (small_at ms (parameter parameters.N))
meant kinds.FrameMinimum t ms = frame_minimum t (small_at ms (parameter parameters.N))
meant kinds.FrameMaximum t ms = frame_maximum t (small_at ms (parameter parameters.N))
meant kinds.Argmax t ms = argmax t (small_at ms (parameter parameters.N))
meant kinds.Repeat t ms = repeat t (small_at ms (parameter parameters.N))
meant kinds.Insert t ms = insert t (numbers_at ms (parameter parameters.Values))
    (small_at ms (parameter parameters.Period)) (small_at ms (parameter parameters.Offset))
meant kinds.Pattern t ms = pattern t (numbers_at ms (parameter parameters.Values))
meant kinds.Counter t ms = counter t (small_at ms (parameter parameters.N))
meant kinds.Permute t ms = permute t (unsigned (numbers_at ms (parameter parameters.Places)))
meant kinds.Interleave t ms = interleave t (small_at ms (parameter parameters.Ports))
meant kinds.Deinterleave t ms = deinterleave t (small_at ms (parameter parameters.Ports))
meant kinds.StreamMux t ms = stream_mux t (unsigned (numbers_at ms (parameter parameters.Lengths)))
meant kinds.Head t ms = head t (count_at ms (parameter parameters.N))
meant kinds.SkipHead t ms = skiphead t (count_at ms (parameter parameters.N))
meant kinds.Delay t ms = delay t (small_at ms (parameter parameters.N))
meant kinds.PackKBits t ms = pack_k_bits (small_at ms (parameter parameters.K))
meant kinds.UnpackKBits t ms = unpack_k_bits (small_at ms (parameter parameters.K))
meant kinds.RepackBits t ms = repack_bits (small_at ms (parameter parameters.K)) (small_at ms (parameter parameters.L))
    (order_or_msb (order_at ms (parameter parameters.Order)))
meant kinds.PackedToUnpacked t ms = packed_to_unpacked t (small_at ms (parameter parameters.Bits))
    (order_or_msb (order_at ms (parameter parameters.Order)))
meant kinds.UnpackedToPacked t ms = unpacked_to_packed t (small_at ms (parameter parameters.Bits))
    (order_or_msb (order_at ms (parameter parameters.Order)))
meant kinds.DiffEncoder t ms = diff_encoder (small_at ms (parameter parameters.Modulus))
meant kinds.DiffDecoder t ms = diff_decoder (small_at ms (parameter parameters.Modulus))
meant kinds.Scrambler t ms = scrambler (small_at ms (parameter parameters.Bits))
    (count_at ms (parameter parameters.Mask)) (count_at ms (parameter parameters.Init))
meant kinds.Descrambler t ms = descrambler (small_at ms (parameter parameters.Bits))
    (count_at ms (parameter parameters.Mask)) (count_at ms (parameter parameters.Init))
meant kinds.AdditiveScrambler t ms = additive_scrambler (small_at ms (parameter parameters.Bits))
    (count_at ms (parameter parameters.Mask)) (count_at ms (parameter parameters.Init))
meant kinds.CorrelateAccessCode t ms = correlate_access_code (code_at ms (parameter parameters.Code))
    (length (text_at ms (parameter parameters.Code))) (small_at ms (parameter parameters.Threshold))
meant kinds.CrcAppend t ms = crc_append (small_at ms (parameter parameters.N)) (checksum_at ms)
meant kinds.CrcCheck t ms = crc_check (small_at ms (parameter parameters.N)) (checksum_at ms)
meant kinds.StateMachine t ms =
    state_machine (small_at ms (parameter parameters.Symbols)) (unsigned (numbers_at ms (parameter parameters.Next)))
    (numbers_at ms (parameter parameters.Output)) (small_at ms (parameter parameters.Init))
meant kinds.Viterbi t ms = viterbi t (trellis_at ms)

-- the same, where the type and the parameters are such as the kind takes; or the first of them that is bad
abbrev pub made_of : KindName → ItemType → Members → Result Meaning Parameter
made_of kind t ms = needs (are_among (types_of kind) t) parameters.ItemType
    (tested_by (parameters_of kind) t ms (Ok (meant kind t ms)))

-- the same, where the type comes first
abbrev pub made_at : KindName → Option ItemType → Members → Result Meaning Parameter
made_at kind None ms = Err parameters.ItemType
made_at kind (Some t) ms = made_of kind t ms

abbrev pub made : KindName → Members → Result Meaning Parameter
made kind ms = made_at kind (type_at ms (parameter parameters.ItemType)) ms
