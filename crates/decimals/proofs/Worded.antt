-- The lengths of lines of a word and a number.
use Prim.Native.Nat.{ℕ, suc, ◌+◌, ◌≤◌}
use mathlib.Core.List.{List}
use mathlib.Core.Path.{◌≡◌}
use native.Mathlib.Omega.{arith}
use lib.ListN.{length, length-append}
use Rattle.decimals.specs.Decimal.{decimal}
use Rattle.decimals.specs.Worded.{worded, refused_word, refused_text}
use Rattle.decimals.proofs.Digits.{decimal_short}

pub worded_length : (word : List ℕ) (x : ℕ) → length (worded word x) ≡ length word + suc (length (decimal x)) + 1
unfolding worded
worded_length word x = simp length-append (omega arith)

-- the line of a refusal
pub refused_short : (number : ℕ) → length (refused_text number) ≤ 19
unfolding refused_text
refused_short number = omega (arith, worded_length refused_word number, decimal_short number)
