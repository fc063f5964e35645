use Rattle.std.proofs.Common.{◌≡◌, ℕ, ◌+◌, ◌*◌, ◌%◌, ◌^◌, ◌<◌, ◌≤◌, arith, ap}
use Rattle.std.proofs.Math.Nat.{pow-le-pow_right, mod-eq_of_lt}
use Rattle.std.proofs.lemmas.Nat.{pow-add}
use Rattle.lane_filters.proofs.repacked.join.Goals as goal

-- shifted bits and the bits behind them are fewer than a word has
fits_together : (c d high low : ℕ) → c + d ≤ 63 → high < 2 ^ c → low < 2 ^ d → high * 2 ^ d + low < 9223372036854775808
fits_together c d high low few more less =
    let all : 2 ^ (c + d) ≡ 2 ^ c * 2 ^ d = pow-add 2 c d in
    let most : 2 ^ (c + d) ≤ 2 ^ 63 = pow-le-pow_right (omega arith) few in
    let room : high * 2 ^ d + low < 2 ^ c * 2 ^ d = below (2 ^ c) (2 ^ d) more less in
    omega (arith, all, most, room)
  where
    below : (p q : ℕ) → high < p → low < q → high * q + low < p * q
    below p q near small = grind arith

shifted : (c d high low : ℕ) → c + d ≤ 63 → high < 2 ^ c → low < 2 ^ d → high * 2 ^ d % 18446744073709551616 ≡ high * 2 ^ d
shifted c d high low few more less = mod-eq_of_lt (omega (arith, fits_together c d high low few more less))

pub overflow_add-result : goal.overflow_add-result
overflow_add-result c =
    let a = c.args in
    let all = fits_together a.held a.k a.word a.more c.requires.fits c.requires.word c.requires.more in
    let same = shifted a.held a.k a.word a.more c.requires.fits c.requires.word c.requires.more in
    omega (arith, all, same)

pub overflow_add-result-in-LsbFirst : goal.overflow_add-result-in-LsbFirst
overflow_add-result-in-LsbFirst c =
    let a = c.args in
    let few : a.k + a.held ≤ 63 = omega (arith, c.requires.fits) in
    let all = fits_together a.k a.held a.more a.word few c.requires.more c.requires.word in
    let same = shifted a.k a.held a.more a.word few c.requires.more c.requires.word in
    omega (arith, all, same)

pub returns-in-MsbFirst : goal.returns-in-MsbFirst
returns-in-MsbFirst c =
    let a = c.args in
    let same = shifted a.held a.k a.word a.more c.requires.fits c.requires.word c.requires.more in
    rw c.in-MsbFirst.is (ap (λ z. z + a.more) same)

pub returns-in-LsbFirst : goal.returns-in-LsbFirst
returns-in-LsbFirst c =
    let a = c.args in
    let few : a.k + a.held ≤ 63 = omega (arith, c.requires.fits) in
    let same = shifted a.k a.held a.more a.word few c.requires.more c.requires.word in
    rw c.in-LsbFirst.is (ap (λ z. a.word + z) same)
