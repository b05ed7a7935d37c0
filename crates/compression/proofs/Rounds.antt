-- One turn of the loop over the rounds.
use mathlib.Core.Path.{◌≡◌}
use mathlib.Core.List.{List}
use Prim.Native.Nat.{ℕ, suc, ◌+◌, ◌*◌}
use native.Mathlib.Omega.{arith}
use lib.ListN.{get_or}
use Rattle.compression.specs.declared.Working.{Working}
use Rattle.sha256_constants.specs.Constants.{round_words}
use Rattle.compression.specs.Compression.{round_of, rounds}

-- round t, with its word of the schedule w
abbrev pub round_at : List ℕ → Working → ℕ → Working
round_at w v t = round_of v (get_or round_words t 0) (get_or w t 0)

-- the rounds from 4 * i to 4 * i + 3
pub four_rounds : (w : List ℕ) (from : Working) (i : ℕ) → rounds w from (4 * (i + 1))
    ≡ round_at w (round_at w (round_at w (round_at w (rounds w from (4 * i)) (4 * i)) (4 * i + 1)) (4 * i + 2)) (4 * i + 3)
unfolding rounds
four_rounds w from i =
    let one : 4 * i + 1 ≡ suc (4 * i) = omega arith in
    let two : 4 * i + 2 ≡ suc (suc (4 * i)) = omega arith in
    let three : 4 * i + 3 ≡ suc (suc (suc (4 * i))) = omega arith in
    let four : 4 * (i + 1) ≡ suc (suc (suc (suc (4 * i)))) = omega arith in
    rw (four, three, two, one)
