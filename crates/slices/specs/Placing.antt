-- Each kind places tags as the table says.
use Rattle.std.specs.Prelude.{ℕ, ◌+◌, ◌-◌, ◌*◌, ◌/◌, ◌<◌, ◌≤◌, ◌≡◌, Some, length, refl}
use Rattle.std.proofs.Common.{ap, ap₂, sym, ◌∙◌, subst, arith}
use Rattle.std.proofs.Math.Nat.{mul-le-mul_left, mul-div-le, lt-mul-div-succ}
use Rattle.stream_model.specs.Tags.{place_at_rate}
use Rattle.stream_model.specs.Meaning.{Meaning, IsLawful, IsAtRate, HasCounts}
use Rattle.stream_model.specs.Firings.{taken_at, given_at}
use Rattle.rate_blocks.specs.Mux.{lengths_of}
use Rattle.kinds.specs.Kind.{meaning_of, meaning_of-lawful}
use Rattle.kinds.specs.declared.kind.Kind.{Kind}
use Rattle.kind_model.specs.Codes.{bytes_of}
use Rattle.kinds.specs.declared.kind.Kind.TheVariants.{VectorSource, VectorSink, NullSink, AddConst, MultiplyConst, DivideConst, AndConst, OrConst, XorConst, Scale, Clip, Abs, Not, Mute, Add, Sub, Multiply, Divide, Minimum, Maximum, And, Or, Xor, SampleAndHold, MapBb, Table, Convert, BinarySlicer, UlawEncode, AlawEncode, MovingSum, Fir, InterpFir, KeepOneInN, KeepMInN, Integrate, FrameMinimum, FrameMaximum, Argmax, Repeat, Insert, Pattern, Counter, Permute, Interleave, Deinterleave, StreamMux, Head, SkipHead, Delay, PackKBits, UnpackKBits, RepackBits, PackedToUnpacked, UnpackedToPacked, DiffEncoder, DiffDecoder, Scrambler, Descrambler, AdditiveScrambler, CorrelateAccessCode, CrcAppend, CrcCheck, StateMachine, Viterbi}
use Rattle.slice_laws.specs.Tags.{Places}
use Rattle.slice_laws.proofs.Placing.{shaped-places, stream_mux-places, skiphead-places, delay-places}
use Rattle.slices.specs.declared.look_back.LookBack.TheVariants.{Items}
use Rattle.slices.specs.LookBack.{nearest_back, HasPlaces}
use Rattle.slices.specs.Kinds.{look_back_of}
use Rattle.slices.specs.Forgetting.{reached, behind}

-- at a rate of i items for d, what lies before item `right` goes before what is given from firing f on
before : (d i right f : ℕ) → 1 ≤ d → 1 ≤ i → right + nearest_back (Some (d, i)) ≤ d * f
    → 2 * right * i + d < 2 * d * (i * f) + 2 * i
before d i right f some gives far =
    let h : right + d / (2 * i) ≤ d * f = far in
    let m : i * (right + d / (2 * i)) ≤ i * (d * f) = mul-le-mul_left i h in
    let low : 0 < 2 * i = omega arith in
    let n : d < 2 * i * (d / (2 * i) + 1) = lt-mul-div-succ d low in
    omega arith

-- a lawful block at a rate that places tags at the nearest items
module _ (m : Meaning) (lawful : IsLawful m) (d i : ℕ) (rates : (p : ℕ) → m.rate p ≡ Some (d, i)) (places : (p s : ℕ) → m.place p s ≡ place_at_rate d i s) where
  at : IsAtRate m 0 d i
  at = (subst (HasCounts m 0) (rates 0) (lawful.counts 0)).1

  nearest-places : (right : ℕ → ℕ) (f : ℕ) → ((p : ℕ) → right p + nearest_back (Some (d, i)) ≤ d * f) → Places m right f
  nearest-places right f far =
      let shape = shaped-places m.inputs m.outputs 1 m.setting m.own 0 m.word m.out right f d i at.takes_some
      (λ p. before d i (right p) f at.takes_some at.gives_some (far p)) in
      record {
        late = shape.late;
        enough = shape.enough;
        moves = λ p s k port h.
            places p (taken_at (m.rate p) * k + s)
            ∙ ap (λ r. place_at_rate d i (taken_at r * k + s)) (rates p)
            ∙ shape.moves p s k port h
            ∙ sym (ap₂ (λ r x. given_at r * k + x) (rates 0) (places p s));
        early = λ p s k port h.
            let g = shape.early p s k port (subst (λ r. s < taken_at r * k + shape.late p) (rates p) h) in
            let e = places p s in
            let n = ap (λ r. given_at r * k) (rates 0) in
            let all = at.given f in
            omega arith;
      }

-- a kind at a rate that places them so
nearest : (k : Kind) (d i : ℕ) → ((p : ℕ) → (meaning_of k).rate p ≡ Some (d, i))
    → ((p s : ℕ) → (meaning_of k).place p s ≡ place_at_rate d i s) → HasPlaces (meaning_of k) (Items 0)
nearest k d i rates places is work inputs right f far =
    let m = meaning_of k in
    nearest-places m (meaning_of-lawful k) d i rates places right f
    (λ p.
    let b = behind m 0 (nearest_back (m.rate 0)) inputs right f far d (λ q. ap taken_at (rates q)) p in
    let e = ap nearest_back (rates 0) in
    omega arith)

-- at a rate of one for one each tag keeps its item
kept_at_one : (s : ℕ) → s ≡ place_at_rate 1 1 s
kept_at_one s =
    let low : 2 * s * 1 + 1 < 2 * ((2 * s * 1 + 1) / 2 + 1) = lt-mul-div-succ (2 * s * 1 + 1) (omega arith) in
    let high : 2 * ((2 * s * 1 + 1) / 2) ≤ 2 * s * 1 + 1 = mul-div-le (2 * s * 1 + 1) 2 in
    omega arith

pub look_back_of-places : (k : Kind) → HasPlaces (meaning_of k) (look_back_of k)
look_back_of-places (VectorSource b) is = λ work inputs right f far. absurd (cc)
look_back_of-places (VectorSink b) is = nearest (VectorSink b) 1 1 (λ p. refl) (λ p s. refl) is
look_back_of-places (NullSink b) is = nearest (NullSink b) 1 1 (λ p. refl) (λ p s. refl) is
look_back_of-places (AddConst b) is = nearest (AddConst b) 1 1 (λ p. refl) (λ p s. refl) is
look_back_of-places (MultiplyConst b) is = nearest (MultiplyConst b) 1 1 (λ p. refl) (λ p s. refl) is
look_back_of-places (DivideConst b) is = nearest (DivideConst b) 1 1 (λ p. refl) (λ p s. refl) is
look_back_of-places (AndConst b) is = nearest (AndConst b) 1 1 (λ p. refl) (λ p s. refl) is
look_back_of-places (OrConst b) is = nearest (OrConst b) 1 1 (λ p. refl) (λ p s. refl) is
look_back_of-places (XorConst b) is = nearest (XorConst b) 1 1 (λ p. refl) (λ p s. refl) is
look_back_of-places (Scale b) is = nearest (Scale b) 1 1 (λ p. refl) (λ p s. refl) is
look_back_of-places (Clip b) is = nearest (Clip b) 1 1 (λ p. refl) (λ p s. refl) is
look_back_of-places (Abs b) is = nearest (Abs b) 1 1 (λ p. refl) (λ p s. refl) is
look_back_of-places (Not b) is = nearest (Not b) 1 1 (λ p. refl) (λ p s. refl) is
look_back_of-places (Mute b) is = nearest (Mute b) 1 1 (λ p. refl) (λ p s. refl) is
look_back_of-places (Add b) is = nearest (Add b) 1 1 (λ p. refl) (λ p s. refl) is
look_back_of-places (Sub b) is = nearest (Sub b) 1 1 (λ p. refl) (λ p s. refl) is
look_back_of-places (Multiply b) is = nearest (Multiply b) 1 1 (λ p. refl) (λ p s. refl) is
look_back_of-places (Divide b) is = nearest (Divide b) 1 1 (λ p. refl) (λ p s. refl) is
look_back_of-places (Minimum b) is = nearest (Minimum b) 1 1 (λ p. refl) (λ p s. refl) is
look_back_of-places (Maximum b) is = nearest (Maximum b) 1 1 (λ p. refl) (λ p s. refl) is
look_back_of-places (And b) is = nearest (And b) 1 1 (λ p. refl) (λ p s. refl) is
look_back_of-places (Or b) is = nearest (Or b) 1 1 (λ p. refl) (λ p s. refl) is
look_back_of-places (Xor b) is = nearest (Xor b) 1 1 (λ p. refl) (λ p s. refl) is
look_back_of-places (SampleAndHold b) is = absurd (cc)
look_back_of-places (MapBb b) is = nearest (MapBb b) 1 1 (λ p. refl) (λ p s. refl) is
look_back_of-places (Table b) is = nearest (Table b) 1 1 (λ p. refl) (λ p s. refl) is
look_back_of-places (Convert b) is = nearest (Convert b) 1 1 (λ p. refl) (λ p s. refl) is
look_back_of-places (BinarySlicer b) is = nearest (BinarySlicer b) 1 1 (λ p. refl) (λ p s. refl) is
look_back_of-places (UlawEncode b) is = nearest (UlawEncode b) 1 1 (λ p. refl) (λ p s. refl) is
look_back_of-places (AlawEncode b) is = nearest (AlawEncode b) 1 1 (λ p. refl) (λ p s. refl) is
look_back_of-places (MovingSum b) is = nearest (MovingSum b) 1 1 (λ p. refl) (λ p s. refl) is
look_back_of-places (Fir b) is = nearest (Fir b) b.rate 1 (λ p. refl) (λ p s. refl) is
look_back_of-places (InterpFir b) is = nearest (InterpFir b) 1 b.rate (λ p. refl) (λ p s. refl) is
look_back_of-places (KeepOneInN b) is = nearest (KeepOneInN b) b.n 1 (λ p. refl) (λ p s. refl) is
look_back_of-places (KeepMInN b) is = nearest (KeepMInN b) b.n b.m (λ p. refl) (λ p s. refl) is
look_back_of-places (Integrate b) is = nearest (Integrate b) b.n 1 (λ p. refl) (λ p s. refl) is
look_back_of-places (FrameMinimum b) is = nearest (FrameMinimum b) b.n 1 (λ p. refl) (λ p s. refl) is
look_back_of-places (FrameMaximum b) is = nearest (FrameMaximum b) b.n 1 (λ p. refl) (λ p s. refl) is
look_back_of-places (Argmax b) is = nearest (Argmax b) b.n 1 (λ p. refl) (λ p s. refl) is
look_back_of-places (Repeat b) is = nearest (Repeat b) 1 b.n (λ p. refl) (λ p s. refl) is
look_back_of-places (Insert b) is = nearest (Insert b) (b.period - length b.values.items) b.period (λ p. refl)
    (λ p s. refl) is
look_back_of-places (Pattern b) is = absurd (cc)
look_back_of-places (Counter b) is = absurd (cc)
look_back_of-places (Permute b) is = nearest (Permute b) (length b.order.items) (length b.order.items) (λ p. refl)
    (λ p s. refl) is
look_back_of-places (Interleave b) is = nearest (Interleave b) 1 b.ports.value (λ p. refl) (λ p s. refl) is
look_back_of-places (Deinterleave b) is = nearest (Deinterleave b) b.ports.value 1 (λ p. refl) (λ p s. refl) is
look_back_of-places (StreamMux b) is = λ work inputs right f far. stream_mux-places b.item (lengths_of b) right f
    b.is_mux (reached _ _ _ inputs right f far)
look_back_of-places (Head b) is = nearest (Head b) 1 1 (λ p. refl) (λ p s. kept_at_one s) is
look_back_of-places (SkipHead b) is =
    λ work inputs right f far.
    skiphead-places b.item b.n right f (let past = far.past in let most = b.most in omega arith)
    (λ p. let r = reached _ _ _ inputs right f far p in omega arith)
look_back_of-places (Delay b) is = λ work inputs right f far. delay-places b.item b.n right f
    (λ p. let r = behind _ _ _ inputs right f far 1 (λ p. refl) p in omega arith)
look_back_of-places (PackKBits b) is = nearest (PackKBits b) b.k 1 (λ p. refl) (λ p s. refl) is
look_back_of-places (UnpackKBits b) is = nearest (UnpackKBits b) 1 b.k (λ p. refl) (λ p s. refl) is
look_back_of-places (RepackBits b) is = nearest (RepackBits b) _ _ (λ p. refl) (λ p s. refl) is
look_back_of-places (PackedToUnpacked b) is = nearest (PackedToUnpacked b) _ _ (λ p. refl) (λ p s. refl) is
look_back_of-places (UnpackedToPacked b) is = nearest (UnpackedToPacked b) _ _ (λ p. refl) (λ p s. refl) is
look_back_of-places (DiffEncoder b) is = absurd (cc)
look_back_of-places (DiffDecoder b) is = nearest (DiffDecoder b) 1 1 (λ p. refl) (λ p s. refl) is
look_back_of-places (Scrambler b) is = absurd (cc)
look_back_of-places (Descrambler b) is = nearest (Descrambler b) 1 1 (λ p. refl) (λ p s. refl) is
look_back_of-places (AdditiveScrambler b) is = nearest (AdditiveScrambler b) 1 1 (λ p. refl) (λ p s. refl) is
look_back_of-places (CorrelateAccessCode b) is = nearest (CorrelateAccessCode b) 1 1 (λ p. refl) (λ p s. refl) is
look_back_of-places (CrcAppend b) is = nearest (CrcAppend b) b.crc.length (b.crc.length + bytes_of b.crc.rule)
    (λ p. refl) (λ p s. refl) is
look_back_of-places (CrcCheck b) is = nearest (CrcCheck b) (b.crc.length + bytes_of b.crc.rule) 1 (λ p. refl)
    (λ p s. refl) is
look_back_of-places (StateMachine b) is = absurd (cc)
look_back_of-places (Viterbi b) is = nearest (Viterbi b) (b.decoder.steps * b.decoder.outputs) b.decoder.steps
    (λ p. refl) (λ p s. refl) is
