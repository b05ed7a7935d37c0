-- The parts of a sealed file, by its end, and its tag compared.
use Prim.Native.Nat.{ℕ, ◌+◌, ◌-◌}
use mathlib.Core.Bool.{Bool}
use mathlib.Core.List.{List}
use mathlib.Core.Path.{◌≡◌, ap, ap₂, ◌∙◌}
use native.Mathlib.Omega.{arith}
use lib.ListN.{length}
use Rattle.aead.specs.Aead.{tag_of}
use Rattle.format.specs.Bytes.{bytes_at, same_bytes}
use Rattle.sealed_file.specs.Rows.{Sealed}
use Rattle.sealed_file.specs.Sealed.{head_in, nonce_in, text_length, cipher_in, tag_in, tag_for, tag_holds}

module _ (file : List ℕ) (s : Sealed file) where
  pub text_size : length file - 16 - 22 ≡ text_length file
  unfolding text_length
  text_size = omega (arith, s.enough)

  pub cipher_part : bytes_at file 22 (length file - 16 - 22) ≡ cipher_in file
  unfolding cipher_in
  cipher_part = ap (bytes_at file 22) text_size

  tag_part : bytes_at file (length file - 16) (length file - (length file - 16)) ≡ tag_in file
  unfolding tag_in
  tag_part =
      let at : length file - 16 ≡ 22 + text_length file = omega (arith, s.enough, text_size) in
      let n : length file - (length file - 16) ≡ 16 = omega (arith, s.enough) in
      ap₂ (bytes_at file) at n

  pub tag_compared : (key : List ℕ) {nonce tag : List ℕ} {b : Bool} → nonce ≡ nonce_in file
      → tag ≡ tag_of key nonce (bytes_at file 0 10) (bytes_at file 22 (length file - 16 - 22))
      → b ≡ same_bytes tag (bytes_at file (length file - 16) (length file - (length file - 16)))
      → b ≡ tag_holds key file
  unfolding tag_holds tag_for head_in
  tag_compared key {nonce} e f g =
      let made : tag_of key nonce (bytes_at file 0 10) (bytes_at file 22 (length file - 16 - 22)) ≡ tag_of key (nonce_in file) (head_in file) (cipher_in file) =
      ap₂ (λ (n c : List ℕ). tag_of key n (bytes_at file 0 10) c) e cipher_part in
      g ∙ ap₂ same_bytes (f ∙ made) tag_part
