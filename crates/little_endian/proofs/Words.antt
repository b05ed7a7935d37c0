-- Four words written into 16 bytes, one after the other.
use mathlib.Core.Path.{◌≡◌, refl, ◌∙◌}
use mathlib.Core.List.{List, [], ◌++◌}
use Prim.Native.Nat.{ℕ}
use native.Mathlib.Omega.{arith}
use lib.ListN.{length, replicate, length-append}
use Rattle.lists.specs.Buffer.{pasted, zero_filled}
use Rattle.lists.proofs.Pasted.{zero_filled_none, zero_filled_all, pasted_next}
use Rattle.little_endian.specs.LittleEndian.{little_bytes}
use Rattle.little_endian.proofs.LittleEndian.{little_bytes_length}

pub words_put : (a b c d : ℕ) {s₁ s₂ s₃ s₄ : List ℕ} → s₁ ≡ pasted (replicate 16 0) 0 (little_bytes 4 a) → s₂ ≡ pasted s₁ 4 (little_bytes 4 b)
    → s₃ ≡ pasted s₂ 8 (little_bytes 4 c) → s₄ ≡ pasted s₃ 12 (little_bytes 4 d)
    → s₄ ≡ little_bytes 4 a ++ little_bytes 4 b ++ little_bytes 4 c ++ little_bytes 4 d
words_put a b c d {s₁} {s₂} {s₃} {s₄} e₁ e₂ e₃ e₄ =
    let la = little_bytes_length 4 a in
    let lb = little_bytes_length 4 b in
    let lc = little_bytes_length 4 c in
    let ld = little_bytes_length 4 d in
    let p₁ = little_bytes 4 a in
    let p₂ = p₁ ++ little_bytes 4 b in
    let p₃ = p₂ ++ little_bytes 4 c in
    let p₄ = p₃ ++ little_bytes 4 d in
    let l₂ : length p₂ ≡ 8 = omega (arith, length-append p₁ (little_bytes 4 b)) in
    let l₃ : length p₃ ≡ 12 = omega (arith, length-append p₂ (little_bytes 4 c)) in
    let l₄ : length p₄ ≡ 16 = omega (arith, length-append p₃ (little_bytes 4 d)) in
    let f₁ : s₁ ≡ zero_filled 16 p₁ = e₁ ∙ rw (zero_filled_none 16) (pasted_next 16 [] p₁ 0 refl (omega arith)) in
    let f₂ : s₂ ≡ zero_filled 16 p₂ = e₂ ∙ rw f₁ (pasted_next 16 p₁ (little_bytes 4 b) 4 (omega arith) (omega arith)) in
    let f₃ : s₃ ≡ zero_filled 16 p₃ = e₃ ∙ rw f₂ (pasted_next 16 p₂ (little_bytes 4 c) 8 (omega arith) (omega arith)) in
    let f₄ : s₄ ≡ zero_filled 16 p₄ = e₄ ∙ rw f₃ (pasted_next 16 p₃ (little_bytes 4 d) 12 (omega arith) (omega arith)) in
    f₄ ∙ zero_filled_all 16 p₄ l₄
