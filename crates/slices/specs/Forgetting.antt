-- Each kind goes on where it stands as soon as the table says.
use Rattle.std.specs.Prelude.{ℕ, ◌+◌, ◌-◌, ◌*◌, ◌≤◌, ◌≡◌, pos, List, [], ◌∷◌, length, map, sum, false, All, bit_and, bit_or, bit_xor, refl}
use Rattle.std.proofs.Common.{ap, subst, arith, inl, inr}
use Rattle.std.proofs.lemmas.Bool.{cases_lt}
use Rattle.std.proofs.lemmas.List.Elements.{All-head}
use Rattle.stream_model.specs.Meaning.{Meaning}
use Rattle.stream_model.specs.Firings.{taken_at}
use Rattle.stream_model.specs.Network.{is_source}
use Rattle.stream_model.specs.Numbers.{numbers_in}
use Rattle.shape_laws.specs.Shaped.{sum-cons}
use Rattle.kind_model.specs.Filters.{branch_taps}
use Rattle.items.specs.Items.{type_of, numbers_of}
use Rattle.rate_blocks.specs.Mux.{lengths_of}
use Rattle.bit_blocks.specs.declared.repacking.Repacking.{Repacking}
use Rattle.bit_blocks.specs.Kinds.{repacking_of}
use Rattle.kinds.specs.Kind.{meaning_of}
use Rattle.kinds.specs.declared.kind.Kind.{Kind}
use Rattle.kinds.specs.declared.kind.Kind.TheVariants.{VectorSource, VectorSink, NullSink, AddConst, MultiplyConst, DivideConst, AndConst, OrConst, XorConst, Scale, Clip, Abs, Not, Mute, Add, Sub, Multiply, Divide, Minimum, Maximum, And, Or, Xor, SampleAndHold, MapBb, Table, Convert, BinarySlicer, UlawEncode, AlawEncode, MovingSum, Fir, InterpFir, KeepOneInN, KeepMInN, Integrate, FrameMinimum, FrameMaximum, Argmax, Repeat, Insert, Pattern, Counter, Permute, Interleave, Deinterleave, StreamMux, Head, SkipHead, Delay, PackKBits, UnpackKBits, RepackBits, PackedToUnpacked, UnpackedToPacked, DiffEncoder, DiffDecoder, Scrambler, Descrambler, AdditiveScrambler, CorrelateAccessCode, CrcAppend, CrcCheck, StateMachine, Viterbi}
use Rattle.slice_laws.specs.Slices.{Settles}
use Rattle.slice_laws.proofs.Jumps.{head-resumes, additive_scrambler-resumes}
use Rattle.slice_laws.proofs.Math.{add_const-settles, moving_sum-settles, add-settles, multiply_const-settles, bitwise_const-settles, scale-settles, mute-settles, clip-settles, abs-settles, not-settles, map_bb-settles, table-settles, convert-settles, sub-settles, multiply-settles, minimum-settles, maximum-settles, bitwise-settles, divide_const-settles, divide-settles, binary_slicer-settles, ulaw_encode-settles, alaw_encode-settles}
use Rattle.kind_model.specs.Codes.{bytes_of}
use Rattle.slice_laws.proofs.Trellis.{viterbi-settles}
use Rattle.viterbi_decoder.specs.Model.{trellis_of}
use Rattle.slice_laws.proofs.Codes.{crc_append-settles, crc_check-settles}
use Rattle.slice_laws.proofs.Rates.{keep_one_in_n-settles, delay-settles, skiphead-settles, integrate-settles, repeat-settles, interleave-settles, keep_m_in_n-settles, permute-settles, deinterleave-settles, insert-settles, stream_mux-settles, frame_minimum-settles, frame_maximum-settles, argmax-settles}
use Rattle.slice_laws.proofs.Filters.{fir-settles, interp_fir-settles}
use Rattle.slice_laws.proofs.Ends.{vector_sink-settles, null_sink-settles}
use Rattle.slice_laws.proofs.Bits.{descrambler-settles, diff_decoder-settles, pack_k_bits-settles, unpack_k_bits-settles, correlate_access_code-settles, repacking-settles}
use Rattle.slices.specs.declared.look_back.LookBack.{LookBack}
use Rattle.slices.specs.declared.look_back.LookBack.TheVariants.{Items}
use Rattle.slices.specs.LookBack.{back_of, start_of, IsFarEnough, GoesOnAs, HasLookBack}
use Rattle.slices.specs.Kinds.{counts_of, look_back_of, later_of}

-- what holds of the used inputs holds of all, since the others are right from the first item on
module _ (m : Meaning) (start back inputs : ℕ) (right : ℕ → ℕ) (f : ℕ) (far : IsFarEnough m start back inputs right f) where
  pub reached : (p : ℕ) → right p ≤ taken_at (m.rate p) * f
  reached p =
      elim (cases_lt p inputs) [
        | inl used ↦ (let h = far.used p used in omega arith)
        | inr not ↦ (let none = far.others p not in omega arith)
      ]

  -- and so many items before, where inputs are taken alike
  pub behind : (d : ℕ) → ((p : ℕ) → taken_at (m.rate p) ≡ d) → (p : ℕ) → right p + back ≤ d * f
  behind d same p =
      elim (cases_lt p inputs) [
        | inl used ↦ (let h = far.used p used in let e = ap (λ n. n * f) (same p) in omega arith)
        | inr not ↦ (let none = far.others p not in let h = far.used 0 far.some in let e = ap (λ n. n * f) (same 0) in
            omega arith)
      ]

-- a block that forgets goes on as it is
settled_by : (m : Meaning) (look : LookBack) → (is_source m.role ≡ false → (inputs : ℕ) (right : ℕ → ℕ) (f : ℕ)
    → IsFarEnough m (start_of look) (back_of look) inputs right f → Settles m right f) →
    (c : ℕ) → GoesOnAs m look c m
settled_by m look settles c =
    record {
      role = refl;
      taken = λ p k. refl;
      given = λ k. refl;
      place = λ p s. refl;
      resumes = λ work inputs right f far. settles work inputs right f far c;
    }

-- a block of which a firing reads what it takes of each input
at_paces : (m : Meaning) → ((right : ℕ → ℕ) (f : ℕ) → ((p : ℕ) → right p ≤ taken_at (m.rate p) * f) → Settles m right f)
    → (c : ℕ) → GoesOnAs m (Items 0) c m
at_paces m settles = settled_by m (Items 0) (λ work inputs right f far. settles right f
    (reached m 0 0 inputs right f far))

-- the same number of each
paced : (m : Meaning) (d : ℕ) → ((p : ℕ) → taken_at (m.rate p) ≡ d)
    → ((right : ℕ → ℕ) (f : ℕ) → ((p : ℕ) → right p ≤ d * f) → Settles m right f) → (c : ℕ) → GoesOnAs m (Items 0) c m
paced m d same settles = at_paces m (λ right f reached. settles right f
    (λ p. subst (λ n. right p ≤ n * f) (same p) (reached p)))

-- an item of each
sync : (m : Meaning) → ((p : ℕ) → taken_at (m.rate p) ≡ 1) → ((right : ℕ → ℕ) (f : ℕ) → ((p : ℕ) → right p ≤ f)
    → Settles m right f) → (c : ℕ) → GoesOnAs m (Items 0) c m
sync m same settles = paced m 1 same (λ right f reached. settles right f (λ p. let r = reached p in omega arith))

-- and so many items before
past : (m : Meaning) (back d : ℕ) → ((p : ℕ) → taken_at (m.rate p) ≡ d)
    → ((right : ℕ → ℕ) (f : ℕ) → ((p : ℕ) → right p + back ≤ d * f) → Settles m right f) → (c : ℕ)
    → GoesOnAs m (Items back) c m
past m back d same settles = settled_by m (Items back) (λ work inputs right f far. settles right f
    (behind m 0 back inputs right f far d same))

-- a round has some items
some_in_round : (lengths : List ℕ) → 1 ≤ length lengths → All (λ l. (1 ≤ l) × (l ≤ 1024)) lengths → 1 ≤ sum lengths
some_in_round [] some each = absurd (omega arith)
some_in_round (l ∷ ls) some each = let h = (All-head (λ l. (1 ≤ l) × (l ≤ 1024)) l ls each).0 in let e = sum-cons l ls
    in omega arith

repacks : {K : _} (b : Repacking K) → (c : ℕ) → GoesOnAs (repacking_of b) (Items 0) c (repacking_of b)
repacks b = at_paces (repacking_of b) (λ right f reached. repacking-settles b.item b.from b.to b.read b.write right f
    b.some reached)

pub look_back_of-holds : (k : Kind) → HasLookBack (meaning_of k) (later_of k) (look_back_of k)
look_back_of-holds (VectorSource b) is = settled_by _ (Items 0) (λ work inputs right f far. absurd (cc))
look_back_of-holds (VectorSink b) is = sync _ (λ p. refl) (vector_sink-settles b.item)
look_back_of-holds (NullSink b) is = sync _ (λ p. refl) (null_sink-settles b.item)
look_back_of-holds (AddConst b) is = sync _ (λ p. refl) (add_const-settles b.item b.value)
look_back_of-holds (MultiplyConst b) is = sync _ (λ p. refl) (λ right f reached. multiply_const-settles right f reached
    b.item b.value)
look_back_of-holds (DivideConst b) is = sync _ (λ p. refl) (λ right f reached. divide_const-settles right f reached
    b.item b.value)
look_back_of-holds (AndConst b) is = sync _ (λ p. refl) (λ right f reached. bitwise_const-settles right f reached
    bit_and b.item b.value)
look_back_of-holds (OrConst b) is = sync _ (λ p. refl) (λ right f reached. bitwise_const-settles right f reached bit_or
    b.item b.value)
look_back_of-holds (XorConst b) is = sync _ (λ p. refl) (λ right f reached. bitwise_const-settles right f reached
    bit_xor b.item b.value)
look_back_of-holds (Scale b) is = sync _ (λ p. refl) (λ right f reached. scale-settles right f reached b.item b.factor
    b.shift)
look_back_of-holds (Clip b) is = sync _ (λ p. refl) (λ right f reached. clip-settles right f reached b.makes.item
    b.makes.low b.makes.high)
look_back_of-holds (Abs b) is = sync _ (λ p. refl) (λ right f reached. abs-settles right f reached b.makes.item)
look_back_of-holds (Not b) is = sync _ (λ p. refl) (λ right f reached. not-settles right f reached b.makes.item)
look_back_of-holds (Mute b) is = sync _ (λ p. refl) (λ right f reached. mute-settles right f reached b.item b.on)
look_back_of-holds (Add b) is = sync _ (λ p. refl) (add-settles b.item)
look_back_of-holds (Sub b) is = sync _ (λ p. refl) (λ right f reached. sub-settles right f reached b.item)
look_back_of-holds (Multiply b) is = sync _ (λ p. refl) (λ right f reached. multiply-settles right f reached b.item)
look_back_of-holds (Divide b) is = sync _ (λ p. refl) (λ right f reached. divide-settles right f reached b.item)
look_back_of-holds (Minimum b) is = sync _ (λ p. refl) (λ right f reached. minimum-settles right f reached b.item)
look_back_of-holds (Maximum b) is = sync _ (λ p. refl) (λ right f reached. maximum-settles right f reached b.item)
look_back_of-holds (And b) is = sync _ (λ p. refl) (λ right f reached. bitwise-settles right f reached bit_and
    (numbers_in b.item - 1) b.item)
look_back_of-holds (Or b) is = sync _ (λ p. refl) (λ right f reached. bitwise-settles right f reached bit_or 0 b.item)
look_back_of-holds (Xor b) is = sync _ (λ p. refl) (λ right f reached. bitwise-settles right f reached bit_xor 0 b.item)
look_back_of-holds (SampleAndHold b) is = absurd (cc)
look_back_of-holds (MapBb b) is = sync _ (λ p. refl) (λ right f reached. map_bb-settles right f reached
    (map pos b.table.items))
look_back_of-holds (Table b) is = sync _ (λ p. refl) (λ right f reached. table-settles right f reached
    (type_of b.values) (numbers_of b.values))
look_back_of-holds (Convert b) is = sync _ (λ p. refl) (λ right f reached. convert-settles right f reached b.item b.to)
look_back_of-holds (BinarySlicer b) is = sync _ (λ p. refl) (λ right f reached. binary_slicer-settles right f reached
    b.makes.item b.makes.threshold)
look_back_of-holds (UlawEncode b) is = sync _ (λ p. refl) (λ right f reached. ulaw_encode-settles right f reached
    b.makes.item)
look_back_of-holds (AlawEncode b) is = sync _ (λ p. refl) (λ right f reached. alaw_encode-settles right f reached
    b.makes.item)
look_back_of-holds (MovingSum b) is = past _ (b.length - 1) 1 (λ p. refl)
    (λ right f reached. moving_sum-settles b.item b.length right f (λ p. let r = reached p in omega arith))
look_back_of-holds (Fir b) is = past _ (length b.taps.items - 1) b.rate (λ p. refl)
    (fir-settles b.item b.taps.items b.rate b.shift)
look_back_of-holds (InterpFir b) is = past _ (branch_taps b.taps.items b.rate - 1) 1 (λ p. refl)
    (λ right f reached. interp_fir-settles b.item b.taps.items b.rate b.shift right f b.some
    (λ p. let r = reached p in omega arith))
look_back_of-holds (KeepOneInN b) is = paced _ b.n (λ p. refl) (λ right f reached. keep_one_in_n-settles b.item b.n
    right f b.least reached)
look_back_of-holds (KeepMInN b) is = paced _ b.n (λ p. refl) (λ right f reached. keep_m_in_n-settles b.item b.m b.n
    b.offset right f b.kept.some reached)
look_back_of-holds (Integrate b) is = paced _ b.n (λ p. refl) (integrate-settles b.item b.n)
look_back_of-holds (FrameMinimum b) is = paced _ b.n (λ p. refl) (frame_minimum-settles b.item b.n)
look_back_of-holds (FrameMaximum b) is = paced _ b.n (λ p. refl) (frame_maximum-settles b.item b.n)
look_back_of-holds (Argmax b) is = paced _ b.n (λ p. refl) (argmax-settles b.item b.n)
look_back_of-holds (Repeat b) is = sync _ (λ p. refl) (λ right f reached. repeat-settles b.item b.n right f b.least
    reached)
look_back_of-holds (Insert b) is = paced _ (b.period - length b.values.items) (λ p. refl)
    (λ right f reached. insert-settles b.item b.values.items b.period b.offset right f b.is.above b.is.whole reached)
look_back_of-holds (Pattern b) is = absurd (cc)
look_back_of-holds (Counter b) is = absurd (cc)
look_back_of-holds (Permute b) is = paced _ (length b.order.items) (λ p. refl)
    (λ right f reached. permute-settles b.item b.order.items right f b.is.some reached)
look_back_of-holds (Interleave b) is = sync _ (λ p. refl) (λ right f reached. interleave-settles b.item b.ports.value
    right f b.ports.some reached)
look_back_of-holds (Deinterleave b) is = paced _ b.ports.value (λ p. refl) (deinterleave-settles b.item b.ports.value)
look_back_of-holds (StreamMux b) is = at_paces _ (λ right f reached. stream_mux-settles b.item (lengths_of b) right f
    (some_in_round (lengths_of b) b.is_mux.some b.is_mux.each) reached)
look_back_of-holds (Head b) is = λ c. record {
  role = refl;
  taken = λ p k. refl;
  given = λ k. refl;
  place = λ p s. refl;
  resumes = λ work inputs right f far. head-resumes b.item b.n c right f
      (λ p. let r = reached _ _ _ inputs right f far p in omega arith);
}
look_back_of-holds (SkipHead b) is =
    settled_by _ (look_back_of (SkipHead b)) (λ work inputs right f far. skiphead-settles b.item b.n right f far.past
    (λ p. let r = reached _ _ _ inputs right f far p in omega arith))
look_back_of-holds (Delay b) is =
    settled_by _ (look_back_of (Delay b)) (λ work inputs right f far. delay-settles b.item b.n right f
    (λ p. let r = behind _ _ _ inputs right f far 1 (λ p. refl) p in omega arith))
look_back_of-holds (PackKBits b) is = paced _ b.k (λ p. refl) (pack_k_bits-settles b.k)
look_back_of-holds (UnpackKBits b) is = sync _ (λ p. refl) (λ right f reached. unpack_k_bits-settles b.k right f b.some
    reached)
look_back_of-holds (RepackBits b) is = repacks b
look_back_of-holds (PackedToUnpacked b) is = repacks b
look_back_of-holds (UnpackedToPacked b) is = repacks b
look_back_of-holds (DiffEncoder b) is = absurd (cc)
look_back_of-holds (DiffDecoder b) is = past _ 1 1 (λ p. refl) (λ right f reached. diff_decoder-settles b.modulus.value
    right f (λ p. let r = reached p in omega arith))
look_back_of-holds (Scrambler b) is = absurd (cc)
look_back_of-holds (Descrambler b) is = past _ 32 1 (λ p. refl) (λ right f reached. descrambler-settles b.register.bits
    b.register.mask b.register.init right f (λ p. let r = reached p in let few = b.register.is.bits_most in omega
    arith))
look_back_of-holds (AdditiveScrambler b) is = λ c. record {
  role = refl;
  taken = λ p k. refl;
  given = λ k. refl;
  place = λ p s. refl;
  resumes = λ work inputs right f far.
      additive_scrambler-resumes b.register.bits b.register.mask b.register.init c right f
      (let some = b.register.is.bits_least in omega arith)
      (λ p. let r = reached _ _ _ inputs right f far p in omega arith);
}
look_back_of-holds (CorrelateAccessCode b) is = past _ (64 + b.length) 1 (λ p. refl)
    (λ right f reached. correlate_access_code-settles b.code b.length b.threshold right f
    (λ p. let r = reached p in omega arith))
look_back_of-holds (CrcAppend b) is = paced _ b.crc.length (λ p. refl)
    (λ right f reached. crc_append-settles b.crc.length b.crc.rule right f b.crc.is.some reached)
look_back_of-holds (CrcCheck b) is = paced _ (b.crc.length + bytes_of b.crc.rule) (λ p. refl)
    (λ right f reached. crc_check-settles b.crc.length b.crc.rule right f reached)
look_back_of-holds (StateMachine b) is = absurd (cc)
look_back_of-holds (Viterbi b) is =
    paced _ (b.decoder.steps * b.decoder.outputs) (λ p. refl) (λ right f reached. viterbi-settles b.item
    (trellis_of b.decoder) right f b.decoder.is reached)

-- a block that does not count goes on as it is
pub counts_of-holds : (k : Kind) → counts_of k ≡ false → (c : ℕ) → later_of k c ≡ meaning_of k
counts_of-holds (Head b) is c = absurd (cc)
counts_of-holds (AdditiveScrambler b) is c = absurd (cc)
counts_of-holds k is c = refl
