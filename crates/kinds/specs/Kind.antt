-- What a block of any kind means.
use Rattle.std.specs.Prelude.{◌≡◌, true}
use Rattle.stream_model.specs.Meaning.{Meaning, IsLawful}
use Rattle.kinds.specs.contracts.kind.KindPartialEq.TheImpl as equality
use Rattle.kinds.specs.declared.kind.Kind.{Kind}
use Rattle.kinds.specs.declared.kind.Kind.TheVariants.{VectorSource, VectorSink, NullSink, AddConst, MultiplyConst, Scale, Add, And, Or, Xor, Not, Convert, MapBb, MovingSum, Fir, InterpFir, KeepOneInN, Integrate, Repeat, Interleave, Deinterleave, StreamMux, Head, SkipHead, Delay, PackKBits, UnpackKBits, DiffDecoder, DiffEncoder, Scrambler, Descrambler, AdditiveScrambler, AndConst, OrConst, XorConst, Clip, Abs, Mute, Multiply, Minimum, Maximum, Table, KeepMInN, Insert, Permute, RepackBits, PackedToUnpacked, UnpackedToPacked, CorrelateAccessCode, CrcAppend, CrcCheck, StateMachine, Viterbi, SampleAndHold, Sub, DivideConst, Divide, BinarySlicer, UlawEncode, AlawEncode, FrameMinimum, FrameMaximum, Argmax, Pattern, Counter}
use Rattle.kinds.specs.Ends.{source_meaning}
use Rattle.math_blocks.specs.Kinds.{scale_of, convert_of, map_bb_of, moving_sum_of, constant-same, scale-same, convert-same, map_bb_of-lawful, map_bb-same, clip_of, clip-same, mute_of, mute-same, table_of, table_of-lawful, table-same, binary_slicer_of, binary_slicer-same}
use Rattle.math_blocks.specs.Joined.{joined-same}
use Rattle.fir_blocks.specs.Kinds.{filter_of, filter-same}
use Rattle.rate_blocks.specs.Kinds.{counted_of}
use Rattle.rate_blocks.specs.Mux.{interleave_of, deinterleave_of, stream_mux_of, interleave_of-lawful, deinterleave_of-lawful, stream_mux_of-lawful, stream_mux_of-same}
use Rattle.bit_blocks.specs.Kinds.{k_bits_of, diff_decoder_of, diff_encoder_of, register_block_of, some_modulus, same_register, repacking_of, repacking_of-lawful, repacking_of-same, correlate_access_code_of, correlate_access_code-same}
use Rattle.code_blocks.specs.Kinds.{crc_append_of, crc_append_of-lawful, crc_append_of-same, crc_check_of, crc_check_of-lawful, crc_check_of-same, state_machine_of, state_machine_of-lawful, state_machine_of-same, viterbi_of, viterbi_of-lawful, viterbi_of-same}
use Rattle.kind_laws.specs.Ends.{vector_source-lawful, vector_sink-lawful, null_sink-lawful}
use Rattle.kind_laws.specs.Math.{add_const-lawful, multiply_const-lawful, scale-lawful, add-lawful, and_of-lawful, or_of-lawful, xor_of-lawful, sample_and_hold-lawful, not_of-lawful, convert-lawful, moving_sum-lawful, and_const-lawful, or_const-lawful, xor_const-lawful, clip-lawful, abs-lawful, mute-lawful, multiply-lawful, minimum-lawful, maximum-lawful, sub-lawful, divide_const-lawful, divide-lawful, binary_slicer-lawful, ulaw_encode-lawful, alaw_encode-lawful}
use Rattle.kind_laws.specs.Filters.{fir-lawful, interp_fir-lawful}
use Rattle.kind_laws.specs.Rates.{keep_one_in_n-lawful, integrate-lawful, repeat-lawful, head-lawful, skiphead-lawful, delay-lawful, frame_minimum-lawful, frame_maximum-lawful, argmax-lawful, counter-lawful}
use Rattle.kind_laws.specs.Bits.{pack_k_bits-lawful, unpack_k_bits-lawful, diff_decoder-lawful, diff_encoder-lawful, scrambler-lawful, descrambler-lawful, additive_scrambler-lawful}
use Rattle.kind_model.specs.Ends.{vector_source, vector_sink, null_sink}
use Rattle.kind_model.specs.Math.{add_const, multiply_const, add, and_of, or_of, xor_of, sample_and_hold, not_of, moving_sum, and_const, or_const, xor_const, abs, multiply, minimum, maximum, sub, divide_const, divide, ulaw_encode, alaw_encode}
use Rattle.kind_model.specs.Filters.{fir, interp_fir}
use Rattle.kind_model.specs.Rates.{keep_one_in_n, integrate, repeat, interleave, deinterleave, head, skiphead, delay, frame_minimum, frame_maximum, argmax, counter}
use Rattle.kind_model.specs.Bits.{pack_k_bits, unpack_k_bits, diff_decoder, diff_encoder, scrambler, descrambler, additive_scrambler}
use Rattle.rate_blocks.specs.Framed.{keep_m_in_n_of, keep_m_in_n_of-lawful, keep_m_in_n_of-same, insert_of, insert_of-lawful, insert_of-same, permute_of, permute_of-lawful, permute_of-same, pattern_of, pattern_of-lawful, pattern_of-same}
use Rattle.kind_laws.specs.BitStreams.{correlate_access_code-lawful}
use Rattle.block_trait.specs.SameItem.{same_item, same_number, same_sized}
use Rattle.std.proofs.Common.{ap}
use Rattle.std.proofs.lemmas.Bool.{false≢true}

-- what the block inside means
abbrev pub meaning_of : Kind → Meaning
meaning_of (VectorSource b) = source_meaning b
meaning_of (VectorSink b) = vector_sink b.item
meaning_of (NullSink b) = null_sink b.item
meaning_of (AddConst b) = add_const b.item b.value
meaning_of (MultiplyConst b) = multiply_const b.item b.value
meaning_of (DivideConst b) = divide_const b.item b.value
meaning_of (AndConst b) = and_const b.item b.value
meaning_of (OrConst b) = or_const b.item b.value
meaning_of (XorConst b) = xor_const b.item b.value
meaning_of (Scale b) = scale_of b
meaning_of (Clip b) = clip_of b.makes
meaning_of (Abs b) = abs b.makes.item
meaning_of (Not b) = not_of b.makes.item
meaning_of (Mute b) = mute_of b
meaning_of (Add b) = add b.item
meaning_of (Sub b) = sub b.item
meaning_of (Multiply b) = multiply b.item
meaning_of (Divide b) = divide b.item
meaning_of (Minimum b) = minimum b.item
meaning_of (Maximum b) = maximum b.item
meaning_of (And b) = and_of b.item
meaning_of (Or b) = or_of b.item
meaning_of (Xor b) = xor_of b.item
meaning_of (SampleAndHold b) = sample_and_hold b.item
meaning_of (MapBb b) = map_bb_of b
meaning_of (Table b) = table_of b
meaning_of (Convert b) = convert_of b
meaning_of (BinarySlicer b) = binary_slicer_of b.makes
meaning_of (UlawEncode b) = ulaw_encode b.makes.item
meaning_of (AlawEncode b) = alaw_encode b.makes.item
meaning_of (MovingSum b) = moving_sum_of b
meaning_of (Fir b) = filter_of fir b
meaning_of (InterpFir b) = filter_of interp_fir b
meaning_of (KeepOneInN b) = counted_of keep_one_in_n b
meaning_of (KeepMInN b) = keep_m_in_n_of b
meaning_of (Integrate b) = counted_of integrate b
meaning_of (FrameMinimum b) = counted_of frame_minimum b
meaning_of (FrameMaximum b) = counted_of frame_maximum b
meaning_of (Argmax b) = counted_of argmax b
meaning_of (Repeat b) = counted_of repeat b
meaning_of (Insert b) = insert_of b
meaning_of (Pattern b) = pattern_of b
meaning_of (Counter b) = counted_of counter b
meaning_of (Permute b) = permute_of b
meaning_of (Interleave b) = interleave_of b
meaning_of (Deinterleave b) = deinterleave_of b
meaning_of (StreamMux b) = stream_mux_of b
meaning_of (Head b) = counted_of head b
meaning_of (SkipHead b) = counted_of skiphead b
meaning_of (Delay b) = counted_of delay b
meaning_of (PackKBits b) = k_bits_of pack_k_bits b
meaning_of (UnpackKBits b) = k_bits_of unpack_k_bits b
meaning_of (RepackBits b) = repacking_of b
meaning_of (PackedToUnpacked b) = repacking_of b
meaning_of (UnpackedToPacked b) = repacking_of b
meaning_of (DiffEncoder b) = diff_encoder_of b
meaning_of (DiffDecoder b) = diff_decoder_of b
meaning_of (Scrambler b) = register_block_of scrambler b
meaning_of (Descrambler b) = register_block_of descrambler b
meaning_of (AdditiveScrambler b) = register_block_of additive_scrambler b
meaning_of (CorrelateAccessCode b) = correlate_access_code_of b
meaning_of (CrcAppend b) = crc_append_of b
meaning_of (CrcCheck b) = crc_check_of b
meaning_of (StateMachine b) = state_machine_of b
meaning_of (Viterbi b) = viterbi_of b

pub meaning_of-lawful : (b : Kind) → IsLawful (meaning_of b)
meaning_of-lawful (VectorSource b) = vector_source-lawful b.item
meaning_of-lawful (VectorSink b) = vector_sink-lawful b.item
meaning_of-lawful (NullSink b) = null_sink-lawful b.item
meaning_of-lawful (AddConst b) = add_const-lawful b.item b.value b.in_range
meaning_of-lawful (MultiplyConst b) = multiply_const-lawful b.item b.value b.in_range
meaning_of-lawful (DivideConst b) = divide_const-lawful b.item b.value b.in_range
meaning_of-lawful (AndConst b) = and_const-lawful b.item b.value b.in_range
meaning_of-lawful (OrConst b) = or_const-lawful b.item b.value b.in_range
meaning_of-lawful (XorConst b) = xor_const-lawful b.item b.value b.in_range
meaning_of-lawful (Scale b) = scale-lawful b.item b.factor b.shift b.in_range
meaning_of-lawful (Clip b) = clip-lawful b.makes.item b.makes.low b.makes.high b.makes.low_in_range
    b.makes.high_in_range
meaning_of-lawful (Abs b) = abs-lawful b.makes.item
meaning_of-lawful (Not b) = not_of-lawful b.makes.item
meaning_of-lawful (Mute b) = mute-lawful b.item b.on b.above b.below
meaning_of-lawful (Add b) = add-lawful b.item
meaning_of-lawful (Sub b) = sub-lawful b.item
meaning_of-lawful (Multiply b) = multiply-lawful b.item
meaning_of-lawful (Divide b) = divide-lawful b.item
meaning_of-lawful (Minimum b) = minimum-lawful b.item
meaning_of-lawful (Maximum b) = maximum-lawful b.item
meaning_of-lawful (And b) = and_of-lawful b.item
meaning_of-lawful (Or b) = or_of-lawful b.item
meaning_of-lawful (Xor b) = xor_of-lawful b.item
meaning_of-lawful (SampleAndHold b) = sample_and_hold-lawful b.item
meaning_of-lawful (MapBb b) = map_bb_of-lawful b
meaning_of-lawful (Table b) = table_of-lawful b
meaning_of-lawful (Convert b) = convert-lawful b.item b.to
meaning_of-lawful (BinarySlicer b) = binary_slicer-lawful b.makes.item b.makes.threshold
meaning_of-lawful (UlawEncode b) = ulaw_encode-lawful b.makes.item
meaning_of-lawful (AlawEncode b) = alaw_encode-lawful b.makes.item
meaning_of-lawful (MovingSum b) = moving_sum-lawful b.item b.length b.some
meaning_of-lawful (Fir b) = fir-lawful b.item b.taps.items b.rate b.shift b.some_taps b.some b.few
meaning_of-lawful (InterpFir b) = interp_fir-lawful b.item b.taps.items b.rate b.shift b.some_taps b.some b.few
meaning_of-lawful (KeepOneInN b) = keep_one_in_n-lawful b.item b.n b.least b.most
meaning_of-lawful (KeepMInN b) = keep_m_in_n_of-lawful b
meaning_of-lawful (Integrate b) = integrate-lawful b.item b.n b.least b.most
meaning_of-lawful (FrameMinimum b) = frame_minimum-lawful b.item b.n b.least b.most
meaning_of-lawful (FrameMaximum b) = frame_maximum-lawful b.item b.n b.least b.most
meaning_of-lawful (Argmax b) = argmax-lawful b.item b.n b.least b.most
meaning_of-lawful (Repeat b) = repeat-lawful b.item b.n b.least b.most
meaning_of-lawful (Insert b) = insert_of-lawful b
meaning_of-lawful (Pattern b) = pattern_of-lawful b
meaning_of-lawful (Counter b) = counter-lawful b.item b.n
meaning_of-lawful (Permute b) = permute_of-lawful b
meaning_of-lawful (Interleave b) = interleave_of-lawful b
meaning_of-lawful (Deinterleave b) = deinterleave_of-lawful b
meaning_of-lawful (StreamMux b) = stream_mux_of-lawful b
meaning_of-lawful (Head b) = head-lawful b.item b.n
meaning_of-lawful (SkipHead b) = skiphead-lawful b.item b.n
meaning_of-lawful (Delay b) = delay-lawful b.item b.n b.most
meaning_of-lawful (PackKBits b) = pack_k_bits-lawful b.k b.some b.few
meaning_of-lawful (UnpackKBits b) = unpack_k_bits-lawful b.k b.some b.few
meaning_of-lawful (RepackBits b) = repacking_of-lawful b
meaning_of-lawful (PackedToUnpacked b) = repacking_of-lawful b
meaning_of-lawful (UnpackedToPacked b) = repacking_of-lawful b
meaning_of-lawful (DiffEncoder b) = diff_encoder-lawful b.modulus.value (some_modulus b.modulus) b.modulus.few
meaning_of-lawful (DiffDecoder b) = diff_decoder-lawful b.modulus.value (some_modulus b.modulus) b.modulus.few
meaning_of-lawful (Scrambler b) = scrambler-lawful b.register.bits b.register.mask b.register.init
    b.register.is.init_most
meaning_of-lawful (Descrambler b) = descrambler-lawful b.register.bits b.register.mask b.register.init
    b.register.is.init_most
meaning_of-lawful (AdditiveScrambler b) = additive_scrambler-lawful b.register.bits b.register.mask b.register.init
    b.register.is.init_most
meaning_of-lawful (CorrelateAccessCode b) = correlate_access_code-lawful b.code b.length b.threshold
meaning_of-lawful (CrcAppend b) = crc_append_of-lawful b
meaning_of-lawful (CrcCheck b) = crc_check_of-lawful b
meaning_of-lawful (StateMachine b) = state_machine_of-lawful b
meaning_of-lawful (Viterbi b) = viterbi_of-lawful b

-- blocks that the derived test finds equal mean the same
pub meaning_of-same : (a b : Kind) → equality.ghosts.eq a b ≡ true → meaning_of a ≡ meaning_of b
meaning_of-same (VectorSource a) (VectorSource b) e = λ i. vector_source (same_item a.item b.item e i)
meaning_of-same (VectorSink a) (VectorSink b) e = λ i. vector_sink (same_item a.item b.item e i)
meaning_of-same (NullSink a) (NullSink b) e = λ i. null_sink (same_item a.item b.item e i)
meaning_of-same (AddConst a) (AddConst b) e = constant-same add_const a b e
meaning_of-same (MultiplyConst a) (MultiplyConst b) e = constant-same multiply_const a b e
meaning_of-same (DivideConst a) (DivideConst b) e = constant-same divide_const a b e
meaning_of-same (AndConst a) (AndConst b) e = constant-same and_const a b e
meaning_of-same (OrConst a) (OrConst b) e = constant-same or_const a b e
meaning_of-same (XorConst a) (XorConst b) e = constant-same xor_const a b e
meaning_of-same (Scale a) (Scale b) e = scale-same a b e
meaning_of-same (Clip a) (Clip b) e = clip-same a.makes b.makes e
meaning_of-same (Abs a) (Abs b) e = λ i. abs (same_item a.makes.item b.makes.item e i)
meaning_of-same (Not a) (Not b) e = λ i. not_of (same_item a.makes.item b.makes.item e i)
meaning_of-same (Mute a) (Mute b) e = mute-same a b e
meaning_of-same (Add a) (Add b) e = joined-same add a b e
meaning_of-same (Sub a) (Sub b) e = joined-same sub a b e
meaning_of-same (Multiply a) (Multiply b) e = joined-same multiply a b e
meaning_of-same (Divide a) (Divide b) e = joined-same divide a b e
meaning_of-same (Minimum a) (Minimum b) e = joined-same minimum a b e
meaning_of-same (Maximum a) (Maximum b) e = joined-same maximum a b e
meaning_of-same (And a) (And b) e = joined-same and_of a b e
meaning_of-same (Or a) (Or b) e = joined-same or_of a b e
meaning_of-same (Xor a) (Xor b) e = joined-same xor_of a b e
meaning_of-same (SampleAndHold a) (SampleAndHold b) e = ap sample_and_hold (same_item a.item b.item e)
meaning_of-same (MapBb a) (MapBb b) e = map_bb-same a b e
meaning_of-same (Table a) (Table b) e = table-same a b e
meaning_of-same (Convert a) (Convert b) e = convert-same a b e
meaning_of-same (BinarySlicer a) (BinarySlicer b) e = binary_slicer-same a.makes b.makes e
meaning_of-same (UlawEncode a) (UlawEncode b) e = λ i. ulaw_encode (same_item a.makes.item b.makes.item e i)
meaning_of-same (AlawEncode a) (AlawEncode b) e = λ i. alaw_encode (same_item a.makes.item b.makes.item e i)
meaning_of-same (MovingSum a) (MovingSum b) e = same_sized moving_sum a.item b.item a.length b.length e
meaning_of-same (Fir a) (Fir b) e = filter-same fir a b e
meaning_of-same (InterpFir a) (InterpFir b) e = filter-same interp_fir a b e
meaning_of-same (KeepOneInN a) (KeepOneInN b) e = same_sized keep_one_in_n a.item b.item a.n b.n e
meaning_of-same (KeepMInN a) (KeepMInN b) e = keep_m_in_n_of-same a b e
meaning_of-same (Integrate a) (Integrate b) e = same_sized integrate a.item b.item a.n b.n e
meaning_of-same (FrameMinimum a) (FrameMinimum b) e = same_sized frame_minimum a.item b.item a.n b.n e
meaning_of-same (FrameMaximum a) (FrameMaximum b) e = same_sized frame_maximum a.item b.item a.n b.n e
meaning_of-same (Argmax a) (Argmax b) e = same_sized argmax a.item b.item a.n b.n e
meaning_of-same (Repeat a) (Repeat b) e = same_sized repeat a.item b.item a.n b.n e
meaning_of-same (Insert a) (Insert b) e = insert_of-same a b e
meaning_of-same (Pattern a) (Pattern b) e = pattern_of-same a b e
meaning_of-same (Counter a) (Counter b) e = same_sized counter a.item b.item a.n b.n e
meaning_of-same (Permute a) (Permute b) e = permute_of-same a b e
meaning_of-same (Interleave a) (Interleave b) e = same_sized interleave a.item b.item a.ports.value b.ports.value e
meaning_of-same (Deinterleave a) (Deinterleave b) e = same_sized deinterleave a.item b.item a.ports.value b.ports.value
    e
meaning_of-same (StreamMux a) (StreamMux b) e = stream_mux_of-same a b e
meaning_of-same (Head a) (Head b) e = same_sized head a.item b.item a.n b.n e
meaning_of-same (SkipHead a) (SkipHead b) e = same_sized skiphead a.item b.item a.n b.n e
meaning_of-same (Delay a) (Delay b) e = same_sized delay a.item b.item a.n b.n e
meaning_of-same (PackKBits a) (PackKBits b) e = ap pack_k_bits (same_number a.k b.k e)
meaning_of-same (UnpackKBits a) (UnpackKBits b) e = ap unpack_k_bits (same_number a.k b.k e)
meaning_of-same (RepackBits a) (RepackBits b) e = repacking_of-same a b e
meaning_of-same (PackedToUnpacked a) (PackedToUnpacked b) e = repacking_of-same a b e
meaning_of-same (UnpackedToPacked a) (UnpackedToPacked b) e = repacking_of-same a b e
meaning_of-same (DiffEncoder a) (DiffEncoder b) e = ap diff_encoder (same_number a.modulus.value b.modulus.value e)
meaning_of-same (DiffDecoder a) (DiffDecoder b) e = ap diff_decoder (same_number a.modulus.value b.modulus.value e)
meaning_of-same (Scrambler a) (Scrambler b) e = same_register scrambler a.register b.register e
meaning_of-same (Descrambler a) (Descrambler b) e = same_register descrambler a.register b.register e
meaning_of-same (AdditiveScrambler a) (AdditiveScrambler b) e = same_register additive_scrambler a.register b.register e
meaning_of-same (CorrelateAccessCode a) (CorrelateAccessCode b) e = correlate_access_code-same a b e
meaning_of-same (CrcAppend a) (CrcAppend b) e = crc_append_of-same a b e
meaning_of-same (CrcCheck a) (CrcCheck b) e = crc_check_of-same a b e
meaning_of-same (StateMachine a) (StateMachine b) e = state_machine_of-same a b e
meaning_of-same (Viterbi a) (Viterbi b) e = viterbi_of-same a b e
meaning_of-same _ _ e = absurd (false≢true e)
