-- A path with `.XXXXXX` after it, written in two parts.
use Prim.Native.Nat.{ℕ, ◌+◌, ◌<◌}
use mathlib.Core.List.{List, [], ◌∷◌, ◌++◌}
use mathlib.Core.Path.{◌≡◌}
use native.Mathlib.Omega.{arith}
use lib.ListN.{length, length-append}
use Rattle.buffers.proofs.Writes.{put_next}
use Rattle.buffers.specs.Handed.{wrote, refused_written, handed, handed_into}
use Rattle.buffers.specs.Put.{Put}
use Rattle.buffers.specs.declared.Written.{Written}
use Rattle.command.specs.Typed.{temporary_name}
use Rattle.buffers.proofs.Handing.{refused_handed, put_handed}

abbrev pub signs : List ℕ
signs = 46 ∷ 88 ∷ 88 ∷ 88 ∷ 88 ∷ 88 ∷ 88 ∷ []

module _ (path out : List ℕ) where
  temporary_length : length (temporary_name path) ≡ length path + 7
  unfolding temporary_name
  temporary_length = length-append path signs

  pub temporary_none : {w : Written} → w ≡ refused_written 16 → length out < length path + 7
      → (w ≡ handed (temporary_name path) (length out)) × (out ≡ handed_into (temporary_name path) out)
  temporary_none e h = refused_handed (temporary_name path) out e (omega (arith, temporary_length))

  pub temporary_put : {mid after : List ℕ} {next end : ℕ} → Put out mid 0 path next → Put mid after next signs end
      → (wrote end ≡ handed (temporary_name path) (length out)) × (after ≡ handed_into (temporary_name path) out)
  unfolding temporary_name
  temporary_put a b = put_handed (path ++ signs) out (put_next a b)
