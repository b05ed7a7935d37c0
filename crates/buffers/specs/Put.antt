-- What the functions that write into a buffer promise.
use Rattle.std.specs.Prelude.{ℕ, ◌+◌, ◌≤◌, List, ◌≡◌, length}
use Rattle.lists.specs.Buffer.{pasted}

-- s is written over the buffer's bytes from place at on, where it has room, and r is the place after it
pub record Put (before after : List ℕ) (at : ℕ) (s : List ℕ) (r : ℕ) : Type 0 where
  pub fits : at + length s ≤ length before
  pub behind : r ≡ at + length s
  pub written : after ≡ pasted before at s
