use Rattle.std.proofs.Common.{◌≡◌, ◌+◌, ◌-◌, ◌≤◌, ◌++◌, pos, length, map, take, drop, arith, ap, sym, ◌∙◌}
use Rattle.std.proofs.lemmas.List.{length-map, length-drop, length-append, take_rest, take-map, drop-map, take_at, drop_at}
use Rattle.bit_blocks.specs.Codes.{coded, word_after, given_bit, followed}
use Rattle.bit_blocks.proofs.Received.{written_back, length-first, all_given, last_word}
use Rattle.bit_blocks.proofs.descrambler.descramble.Goals as goal
use Rattle.bit_blocks.proofs.descrambler.descramble.Goals.{After-code_bytes-word}

-- what is given for the first bytes, by the register itself
first_given :
    (c : After-code_bytes-word) → map pos c.code_bytes-word.new.out.items
    ≡ coded (given_bit c.args.register.now.bits c.args.register.now.mask) (followed c.args.register.now.bits) c.args.start (map pos (take c.min-first.result c.args.bytes.now))
first_given c =
    let bits = c.new-coder.ensures.bits in
    let mask = c.new-coder.ensures.mask in
    c.code_bytes-word.ensures.items ∙ (λ i. coded (given_bit (bits i) (mask i)) (followed (bits i)) c.args.start (map pos (take c.min-first.result c.args.bytes.now)))

pub sum_behind-requires-clause-behind : goal.sum_behind-requires-clause-behind
sum_behind-requires-clause-behind c =
    let bytes = c.args.bytes.now in
    let code = c.code_bytes-word.new.out.items in
    let r = c.args.register.now in
    let room : 32 ≤ length bytes = omega (arith, c.min-first.ensures, c.if-first-bytes.false) in
    let first_is : c.min-first.result ≡ 32 = omega (arith, c.min-first.ensures, c.if-first-bytes.false) in
    let long = length-first (given_bit r.bits r.mask) (followed r.bits) c.args.start c.min-first.result bytes code first_is room (first_given (goal.at.sum_behind-requires-clause-behind c).After-code_bytes-word) in
    ap (drop 32) (c.deref_mut.ensures.value ∙ c.append.ensures.items ∙ ap (λ zs. code ++ zs) (take_rest bytes 32)) ∙ drop_at code (drop 32 bytes) 32 long

pub returns-clause-items : goal.returns-clause-items
returns-clause-items c =
    let bytes = c.args.bytes.now in
    let code = c.code_bytes-word.new.out.items in
    let ys = c.sum_behind.new.out in
    let r = c.args.register.now in
    let room : 32 ≤ length bytes = omega (arith, c.min-first.ensures, c.if-first-bytes.false) in
    let first_is : c.min-first.result ≡ 32 = omega (arith, c.min-first.ensures, c.if-first-bytes.false) in
    let long = length-first (given_bit r.bits r.mask) (followed r.bits) c.args.start c.min-first.result bytes code first_is room (first_given (goal.at.returns-clause-items c).After-code_bytes-word) in
    let before : c.deref_mut.result.now ≡ code ++ drop 32 bytes = c.deref_mut.ensures.value ∙ c.append.ensures.items ∙ ap (λ zs. code ++ zs) (take_rest bytes 32) in
    let all : length ys ≡ length (map pos bytes) =
    omega (arith, c.sum_behind.ensures.same_length, ap length before, length-append code (drop 32 bytes), length-drop 32 bytes, long, length-map bytes pos, room) in
    let first : map pos (take 32 ys) ≡ coded (given_bit r.bits r.mask) (followed r.bits) c.args.start (take 32 (map pos bytes)) =
    ap (map pos) (c.sum_behind.ensures.first ∙ ap (take 32) before ∙ take_at code (drop 32 bytes) 32 long)
    ∙ first_given (goal.at.returns-clause-items c).After-code_bytes-word
    ∙ ap (coded (given_bit r.bits r.mask) (followed r.bits) c.args.start) (ap (λ n. map pos (take n bytes)) first_is ∙ sym (take-map pos 32 bytes)) in
    ap (map pos) (written_back c.append.new.out.len ys (drop (length ys) c.append.new.out.items) (omega (arith, c.deref_mut.ensures.len, c.sum_behind.ensures.same_length)))
    ∙ all_given r.bits r.mask c.args.start r.is.bits_least r.is.bits_most c.requires.word (map pos bytes) ys (omega (arith, room, length-map bytes pos)) all first
    (λ k h. c.sum_behind.ensures.sums k (omega (arith, h, length-map bytes pos)))

pub returns-clause-word : goal.returns-clause-word
returns-clause-word c =
    let bytes = c.args.bytes.now in
    let r = c.args.register.now in
    let room : 32 ≤ length bytes = omega (arith, c.min-first.ensures, c.if-first-bytes.false) in
    let d = length bytes - 32 in
    let long : length (map pos bytes) ≡ d + 32 = omega (arith, length-map bytes pos, room) in
    c.follow.ensures
    ∙ (λ i. word_after (followed (c.new-coder.ensures.bits i)) 0 (map pos (take (length bytes - d) (drop d bytes))))
    ∙ ap (λ zs. word_after (followed r.bits) 0 (map pos zs)) (take_rest bytes d)
    ∙ ap (word_after (followed r.bits) 0) (sym (drop-map pos d bytes))
    ∙ last_word r.bits r.mask c.args.start r.is.bits_least r.is.bits_most c.requires.word (map pos bytes) d long
