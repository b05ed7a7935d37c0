-- Bytes counted at the start of a buffer.
use Prim.Native.Nat.{ℕ, ◌≤◌}
use mathlib.Core.List.{List}
use mathlib.Core.Path.{◌≡◌, sym}
use lib.ListN.{length}
use lib.Seq.{length-take-le}
use Rattle.io.specs.Counts.{IsPrefixLen}
use Rattle.buffers.proofs.Handed.{handed_within}
use Rattle.buffers.specs.Handed.{handed, handed_into}
use Rattle.buffers.specs.declared.Written.{Written}

pub counted : (n : ℕ) (s : List ℕ) → n ≤ length s → IsPrefixLen n s
counted n s h = (h, sym (length-take-le n s h))

-- the bytes that are handed out
pub handed_counted : (s out : List ℕ) (w : Written) (after : List ℕ) → w ≡ handed s (length out) → after ≡ handed_into s out → IsPrefixLen w.length after
handed_counted s out w after e f = counted w.length after (handed_within s out w after e f)
