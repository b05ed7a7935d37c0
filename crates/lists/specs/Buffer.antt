-- What a buffer holds after bytes have been written into it.
use Rattle.std.specs.Prelude.{List, ◌++◌, ℕ, ◌+◌, ◌-◌, length, take, drop, replicate}

-- d with s written over its bytes from place at on
unfoldable pub pasted : List ℕ → ℕ → List ℕ → List ℕ
pasted d at s = take at d ++ s ++ drop (at + length s) d

-- s, and zeros after it up to n bytes
unfoldable pub zero_filled : ℕ → List ℕ → List ℕ
zero_filled n s = s ++ replicate (n - length s) 0
