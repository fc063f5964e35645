use Rattle.kinds.proofs.kind.KindBlock.work.Goals as goal

pub returns-in-VectorSource-clause-word : goal.returns-in-VectorSource-clause-word
returns-in-VectorSource-clause-word c = rw c.in-VectorSource.is c.work.ensures.word

pub returns-in-VectorSink-clause-word : goal.returns-in-VectorSink-clause-word
returns-in-VectorSink-clause-word c = rw c.in-VectorSink.is c.work-in-VectorSink.ensures.word

pub returns-in-NullSink-clause-word : goal.returns-in-NullSink-clause-word
returns-in-NullSink-clause-word c = rw c.in-NullSink.is c.work-in-NullSink.ensures.word

pub returns-in-Scale-clause-word : goal.returns-in-Scale-clause-word
returns-in-Scale-clause-word c = rw c.in-Scale.is c.work-in-Scale.ensures.word

pub returns-in-Clip-clause-word : goal.returns-in-Clip-clause-word
returns-in-Clip-clause-word c = rw c.in-Clip.is c.work-in-Clip.ensures.word

pub returns-in-Abs-clause-word : goal.returns-in-Abs-clause-word
returns-in-Abs-clause-word c = rw c.in-Abs.is c.work-in-Abs.ensures.word

pub returns-in-Not-clause-word : goal.returns-in-Not-clause-word
returns-in-Not-clause-word c = rw c.in-Not.is c.work-in-Not.ensures.word

pub returns-in-Mute-clause-word : goal.returns-in-Mute-clause-word
returns-in-Mute-clause-word c = rw c.in-Mute.is c.work-in-Mute.ensures.word

pub returns-in-Add-clause-word : goal.returns-in-Add-clause-word
returns-in-Add-clause-word c = rw c.in-Add.is c.work-in-Add.ensures.word

pub returns-in-Sub-clause-word : goal.returns-in-Sub-clause-word
returns-in-Sub-clause-word c = rw c.in-Sub.is c.work-in-Sub.ensures.word

pub returns-in-Multiply-clause-word : goal.returns-in-Multiply-clause-word
returns-in-Multiply-clause-word c = rw c.in-Multiply.is c.work-in-Multiply.ensures.word

pub returns-in-Divide-clause-word : goal.returns-in-Divide-clause-word
returns-in-Divide-clause-word c = rw c.in-Divide.is c.work-in-Divide.ensures.word

pub returns-in-Minimum-clause-word : goal.returns-in-Minimum-clause-word
returns-in-Minimum-clause-word c = rw c.in-Minimum.is c.work-in-Minimum.ensures.word

pub returns-in-Maximum-clause-word : goal.returns-in-Maximum-clause-word
returns-in-Maximum-clause-word c = rw c.in-Maximum.is c.work-in-Maximum.ensures.word

pub returns-in-And-clause-word : goal.returns-in-And-clause-word
returns-in-And-clause-word c = rw c.in-And.is c.work-in-And.ensures.word

pub returns-in-Or-clause-word : goal.returns-in-Or-clause-word
returns-in-Or-clause-word c = rw c.in-Or.is c.work-in-Or.ensures.word

pub returns-in-Xor-clause-word : goal.returns-in-Xor-clause-word
returns-in-Xor-clause-word c = rw c.in-Xor.is c.work-in-Xor.ensures.word

pub returns-in-SampleAndHold-clause-word : goal.returns-in-SampleAndHold-clause-word
returns-in-SampleAndHold-clause-word c = rw c.in-SampleAndHold.is c.work-in-SampleAndHold.ensures.word

pub returns-in-MapBb-clause-word : goal.returns-in-MapBb-clause-word
returns-in-MapBb-clause-word c = rw c.in-MapBb.is c.work-in-MapBb.ensures.word

pub returns-in-Table-clause-word : goal.returns-in-Table-clause-word
returns-in-Table-clause-word c = rw c.in-Table.is c.work-in-Table.ensures.word

pub returns-in-Convert-clause-word : goal.returns-in-Convert-clause-word
returns-in-Convert-clause-word c = rw c.in-Convert.is c.work-in-Convert.ensures.word

pub returns-in-BinarySlicer-clause-word : goal.returns-in-BinarySlicer-clause-word
returns-in-BinarySlicer-clause-word c = rw c.in-BinarySlicer.is c.work-in-BinarySlicer.ensures.word

pub returns-in-UlawEncode-clause-word : goal.returns-in-UlawEncode-clause-word
returns-in-UlawEncode-clause-word c = rw c.in-UlawEncode.is c.work-in-UlawEncode.ensures.word

pub returns-in-AlawEncode-clause-word : goal.returns-in-AlawEncode-clause-word
returns-in-AlawEncode-clause-word c = rw c.in-AlawEncode.is c.work-in-AlawEncode.ensures.word

pub returns-in-MovingSum-clause-word : goal.returns-in-MovingSum-clause-word
returns-in-MovingSum-clause-word c = rw c.in-MovingSum.is c.work-in-MovingSum.ensures.word

pub returns-in-Fir-clause-word : goal.returns-in-Fir-clause-word
returns-in-Fir-clause-word c = rw c.in-Fir.is c.work-in-Fir.ensures.word

pub returns-in-InterpFir-clause-word : goal.returns-in-InterpFir-clause-word
returns-in-InterpFir-clause-word c = rw c.in-InterpFir.is c.work-in-InterpFir.ensures.word

pub returns-in-KeepOneInN-clause-word : goal.returns-in-KeepOneInN-clause-word
returns-in-KeepOneInN-clause-word c = rw c.in-KeepOneInN.is c.work-in-KeepOneInN.ensures.word

pub returns-in-KeepMInN-clause-word : goal.returns-in-KeepMInN-clause-word
returns-in-KeepMInN-clause-word c = rw c.in-KeepMInN.is c.work-in-KeepMInN.ensures.word

pub returns-in-Integrate-clause-word : goal.returns-in-Integrate-clause-word
returns-in-Integrate-clause-word c = rw c.in-Integrate.is c.work-in-Integrate.ensures.word

pub returns-in-FrameMinimum-clause-word : goal.returns-in-FrameMinimum-clause-word
returns-in-FrameMinimum-clause-word c = rw c.in-FrameMinimum.is c.work-in-FrameMinimum.ensures.word

pub returns-in-FrameMaximum-clause-word : goal.returns-in-FrameMaximum-clause-word
returns-in-FrameMaximum-clause-word c = rw c.in-FrameMaximum.is c.work-in-FrameMaximum.ensures.word

pub returns-in-Argmax-clause-word : goal.returns-in-Argmax-clause-word
returns-in-Argmax-clause-word c = rw c.in-Argmax.is c.work-in-Argmax.ensures.word

pub returns-in-Repeat-clause-word : goal.returns-in-Repeat-clause-word
returns-in-Repeat-clause-word c = rw c.in-Repeat.is c.work-in-Repeat.ensures.word

pub returns-in-Insert-clause-word : goal.returns-in-Insert-clause-word
returns-in-Insert-clause-word c = rw c.in-Insert.is c.work-in-Insert.ensures.word

pub returns-in-Pattern-clause-word : goal.returns-in-Pattern-clause-word
returns-in-Pattern-clause-word c = rw c.in-Pattern.is c.work-in-Pattern.ensures.word

pub returns-in-Counter-clause-word : goal.returns-in-Counter-clause-word
returns-in-Counter-clause-word c = rw c.in-Counter.is c.work-in-Counter.ensures.word

pub returns-in-Permute-clause-word : goal.returns-in-Permute-clause-word
returns-in-Permute-clause-word c = rw c.in-Permute.is c.work-in-Permute.ensures.word

pub returns-in-Interleave-clause-word : goal.returns-in-Interleave-clause-word
returns-in-Interleave-clause-word c = rw c.in-Interleave.is c.work-in-Interleave.ensures.word

pub returns-in-Deinterleave-clause-word : goal.returns-in-Deinterleave-clause-word
returns-in-Deinterleave-clause-word c = rw c.in-Deinterleave.is c.work-in-Deinterleave.ensures.word

pub returns-in-StreamMux-clause-word : goal.returns-in-StreamMux-clause-word
returns-in-StreamMux-clause-word c = rw c.in-StreamMux.is c.work-in-StreamMux.ensures.word

pub returns-in-Head-clause-word : goal.returns-in-Head-clause-word
returns-in-Head-clause-word c = rw c.in-Head.is c.work-in-Head.ensures.word

pub returns-in-SkipHead-clause-word : goal.returns-in-SkipHead-clause-word
returns-in-SkipHead-clause-word c = rw c.in-SkipHead.is c.work-in-SkipHead.ensures.word

pub returns-in-Delay-clause-word : goal.returns-in-Delay-clause-word
returns-in-Delay-clause-word c = rw c.in-Delay.is c.work-in-Delay.ensures.word

pub returns-in-PackKBits-clause-word : goal.returns-in-PackKBits-clause-word
returns-in-PackKBits-clause-word c = rw c.in-PackKBits.is c.work-in-PackKBits.ensures.word

pub returns-in-UnpackKBits-clause-word : goal.returns-in-UnpackKBits-clause-word
returns-in-UnpackKBits-clause-word c = rw c.in-UnpackKBits.is c.work-in-UnpackKBits.ensures.word

pub returns-in-RepackBits-clause-word : goal.returns-in-RepackBits-clause-word
returns-in-RepackBits-clause-word c = rw c.in-RepackBits.is c.work-in-RepackBits.ensures.word

pub returns-in-PackedToUnpacked-clause-word : goal.returns-in-PackedToUnpacked-clause-word
returns-in-PackedToUnpacked-clause-word c = rw c.in-PackedToUnpacked.is c.work-in-PackedToUnpacked.ensures.word

pub returns-in-UnpackedToPacked-clause-word : goal.returns-in-UnpackedToPacked-clause-word
returns-in-UnpackedToPacked-clause-word c = rw c.in-UnpackedToPacked.is c.work-in-UnpackedToPacked.ensures.word

pub returns-in-DiffEncoder-clause-word : goal.returns-in-DiffEncoder-clause-word
returns-in-DiffEncoder-clause-word c = rw c.in-DiffEncoder.is c.work-in-DiffEncoder.ensures.word

pub returns-in-DiffDecoder-clause-word : goal.returns-in-DiffDecoder-clause-word
returns-in-DiffDecoder-clause-word c = rw c.in-DiffDecoder.is c.work-in-DiffDecoder.ensures.word

pub returns-in-Scrambler-clause-word : goal.returns-in-Scrambler-clause-word
returns-in-Scrambler-clause-word c = rw c.in-Scrambler.is c.work-in-Scrambler.ensures.word

pub returns-in-Descrambler-clause-word : goal.returns-in-Descrambler-clause-word
returns-in-Descrambler-clause-word c = rw c.in-Descrambler.is c.work-in-Descrambler.ensures.word

pub returns-in-AdditiveScrambler-clause-word : goal.returns-in-AdditiveScrambler-clause-word
returns-in-AdditiveScrambler-clause-word c = rw c.in-AdditiveScrambler.is c.work-in-AdditiveScrambler.ensures.word

pub returns-in-CorrelateAccessCode-clause-word : goal.returns-in-CorrelateAccessCode-clause-word
returns-in-CorrelateAccessCode-clause-word c = rw c.in-CorrelateAccessCode.is c.work-in-CorrelateAccessCode.ensures.word

pub work-requires-in-CrcAppend : goal.work-requires-in-CrcAppend
work-requires-in-CrcAppend c = rw c.in-CrcAppend.is at c.requires

pub returns-in-CrcAppend-clause-items : goal.returns-in-CrcAppend-clause-items
returns-in-CrcAppend-clause-items c = rw c.in-CrcAppend.is c.work-in-CrcAppend.ensures.items

pub returns-in-CrcAppend-clause-word : goal.returns-in-CrcAppend-clause-word
returns-in-CrcAppend-clause-word c = rw c.in-CrcAppend.is c.work-in-CrcAppend.ensures.word

pub work-requires-in-CrcCheck : goal.work-requires-in-CrcCheck
work-requires-in-CrcCheck c = rw c.in-CrcCheck.is at c.requires

pub returns-in-CrcCheck-clause-items : goal.returns-in-CrcCheck-clause-items
returns-in-CrcCheck-clause-items c = rw c.in-CrcCheck.is c.work-in-CrcCheck.ensures.items

pub returns-in-CrcCheck-clause-word : goal.returns-in-CrcCheck-clause-word
returns-in-CrcCheck-clause-word c = rw c.in-CrcCheck.is c.work-in-CrcCheck.ensures.word

pub returns-in-StateMachine-clause-word : goal.returns-in-StateMachine-clause-word
returns-in-StateMachine-clause-word c = rw c.in-StateMachine.is c.work-in-StateMachine.ensures.word

pub work-requires-in-Viterbi : goal.work-requires-in-Viterbi
work-requires-in-Viterbi c = rw c.in-Viterbi.is at c.requires

pub returns-in-Viterbi-clause-items : goal.returns-in-Viterbi-clause-items
returns-in-Viterbi-clause-items c = rw c.in-Viterbi.is c.work-in-Viterbi.ensures.items

pub returns-in-Viterbi-clause-word : goal.returns-in-Viterbi-clause-word
returns-in-Viterbi-clause-word c = rw c.in-Viterbi.is c.work-in-Viterbi.ensures.word
