-- The end of a hash: the whole blocks of the message, then the last blocks.
use mathlib.Core.Path.{◌≡◌, sym, ap, ◌∙◌}
use mathlib.Core.List.{List, ◌++◌}
use Prim.Native.Nat.{ℕ, ◌+◌, ◌*◌, ◌/◌, ◌%◌}
use native.Mathlib.Omega.{arith}
use lib.ListN.{length, take, drop, length-append, length-drop}
use Rattle.lists.specs.Buffer.{zero_filled}
use Rattle.padding.specs.Padding.{zero_bytes, padding}
use Rattle.sha256.specs.Sha256.{chained, joined, digest_from}
use Rattle.sha256.proofs.Chain.{digest_rest}
use Rattle.padding.proofs.Padding.{padding_length}
use Rattle.lists.proofs.Pasted.{zero_filled_take}

pub finished : (from m rest last h₁ h₂ : List ℕ) (total end : ℕ) → total % 64 ≡ length m % 64
    → rest ≡ drop (length m / 64 * 64) m → end ≡ length rest + 9 + zero_bytes (length rest)
    → last ≡ zero_filled 128 (rest ++ padding total) → h₁ ≡ chained from m (length m / 64)
    → h₂ ≡ chained h₁ (take end last) (length (take end last) / 64) → joined h₂ 8 ≡ digest_from from (m ++ padding total)
unfolding digest_from
finished from m rest last h₁ h₂ total end same part at_end_lem e e₁ e₂ =
    let n : ℕ = length m / 64 in
    let k : length m / 64 * 64 ≡ 64 * n = omega arith in
    let r : rest ≡ drop (64 * n) m = part ∙ ap (λ (i : ℕ). drop i m) k in
    let t : List ℕ = rest ++ padding total in
    let l : length t ≡ end =
    omega (arith, length-append rest (padding total), ap length r, length-drop (64 * n) m, padding_length total)
    in
    let front : take end last ≡ t = rw e (zero_filled_take 128 t end l) in
    rw (e₂, front, e₁, r) (sym (digest_rest from m (padding total) n (omega arith)))
