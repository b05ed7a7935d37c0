-- The last blocks as two words write the length: what `written` of Padding.antt says of one write of eight bytes.
use mathlib.Core.Path.{◌≡◌, ap, ◌∙◌}
use mathlib.Core.List.{List, [], ◌∷◌, ◌++◌, append_assoc}
use Prim.Native.Nat.{ℕ, ◌+◌, ◌-◌, ◌*◌, ◌/◌, ◌%◌, ◌^◌}
use native.Mathlib.Omega.{arith}
use lib.ListN.{length, set, drop, replicate, length-append, length-replicate}
use Rattle.lists.specs.Buffer.{pasted, zero_filled}
use Rattle.padding.specs.Padding.{word_bytes, length_block, zero_bytes, padding}
use Rattle.lists.proofs.Pasted.{copied, stored_next, pasted_next, pasted_behind}
use Rattle.padding.proofs.Padding.{word_bytes_length}

-- the last blocks: the rest is copied, the byte 0x80 stored after it, and the two words of the length written at the end
pub written : (rest : List ℕ) (total end : ℕ) (copy with-hi with-lo : List ℕ) → length rest ≡ total % 64 → end ≡ length rest + 9 + zero_bytes (length rest)
    → copy ≡ rest ++ drop (length rest) (replicate 128 0)
    → with-hi ≡ pasted (set copy (length rest) 0x80) (end - 8) (word_bytes (total * 8 % 2 ^ 64 / 2 ^ 32))
    → with-lo ≡ pasted with-hi (end - 4) (word_bytes (total * 8 % 2 ^ 64 % 2 ^ 32))
    → with-lo ≡ zero_filled 128 (rest ++ padding total)
unfolding padding length_block
written rest total end copy with-hi with-lo size at_end_lem e₁ e₂ e₃ =
    let bits = total * 8 % 2 ^ 64 in
    let z = zero_bytes total in
    let hi = word_bytes (bits / 2 ^ 32) in
    let lo = word_bytes (bits % 2 ^ 32) in
    let p₁ = rest ++ (0x80 ∷ []) in
    let p₂ = (p₁ ++ replicate z 0) ++ hi in
    let l₁ : length p₁ ≡ length rest + 1 = length-append rest (0x80 ∷ []) in
    let l₂ : length p₂ ≡ length rest + 1 + z + 4 =
    omega (arith, l₁, length-append (p₁ ++ replicate z 0) hi, length-append p₁ (replicate z 0), length-replicate {A = ℕ} z 0, word_bytes_length (bits / 2 ^ 32))
    in
    let f₁ : copy ≡ zero_filled 128 rest = e₁ ∙ copied 128 rest (omega arith) in
    let f₂ : set copy (length rest) 0x80 ≡ zero_filled 128 p₁ = rw f₁ (stored_next 128 rest 0x80 (omega arith)) in
    let f₃ : with-hi ≡ zero_filled 128 p₂ =
    e₂ ∙ rw f₂ (pasted_behind 128 p₁ hi z (end - 8) (omega arith) (omega (arith, word_bytes_length (bits / 2 ^ 32))))
    in
    let f₄ : with-lo ≡ zero_filled 128 (p₂ ++ lo) =
    e₃ ∙ rw f₃ (pasted_next 128 p₂ lo (end - 4) (omega arith) (omega (arith, word_bytes_length (bits % 2 ^ 32))))
    in
    f₄ ∙ ap (λ (l : List ℕ). zero_filled 128 l) (simp append_assoc)
