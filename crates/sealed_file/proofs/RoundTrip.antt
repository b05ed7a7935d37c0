-- A sealed file read back: "What was sealed opens to the same text".
use Prim.Native.Nat.{ℕ, ◌+◌, ◌-◌, ◌≤◌}
use mathlib.Core.List.{List}
use mathlib.Core.Path.{◌≡◌, sym, ap, ap₂, ◌∙◌}
use native.Mathlib.Omega.{arith}
use lib.ListN.{length, drop, length-drop}
use lib.Seq.{length-take-le}
use Rattle.aead.proofs.Laws.{ciphered_length, ciphered_twice, tag_length}
use Rattle.aead.specs.Aead.{ciphered, tag_of}
use Rattle.sealed_file.specs.Rows.{Sealed}
use Rattle.sealed_file.specs.Sealed.{head_of, sealed_file, name_in, nonce_in, text_length, cipher_in, tag_in, tag_for, text_in}
use Rattle.sealed_file.proofs.Places.{laid_length, laid_mark, laid_head, laid_name, laid_nonce, laid_text, laid_cipher, laid_tag}

-- any text under any key: a name of 8 bytes and a nonce of 12
module _ (key name nonce text : List ℕ) (eight : length name ≡ 8) (twelve : length nonce ≡ 12) where
  c : List ℕ
  c = ciphered key nonce text

  tag : List ℕ
  tag = tag_of key nonce (head_of name) c

  sixteen : length tag ≡ 16
  unfolding tag
  sixteen = tag_length key nonce (head_of name) c

  pub sealed_length : length (sealed_file key name nonce text) ≡ 38 + length text
  unfolding sealed_file c tag
  sealed_length = laid_length name nonce c tag eight twelve sixteen ∙ ap (λ (n : ℕ). 38 + n) (ciphered_length key nonce text)

  pub sealed_form : length text ≤ 32768 → Sealed (sealed_file key name nonce text)
  unfolding sealed_file c tag
  sealed_form h = record {
    enough = omega (arith, sealed_length);
    few = omega (arith, sealed_length);
    mark = laid_mark name nonce c tag eight twelve sixteen;
  }

  pub sealed_name : name_in (sealed_file key name nonce text) ≡ name
  unfolding sealed_file c tag
  sealed_name = laid_name name nonce c tag eight twelve sixteen

  pub sealed_text_length : text_length (sealed_file key name nonce text) ≡ length text
  unfolding sealed_file c tag
  sealed_text_length = laid_text name nonce c tag eight twelve sixteen ∙ ciphered_length key nonce text

  -- its tag is the right one under the key, and its text is the text
  pub sealed_tag : tag_in (sealed_file key name nonce text) ≡ tag_for key (sealed_file key name nonce text)
  unfolding sealed_file c tag tag_for
  sealed_tag =
      laid_tag name nonce c tag eight twelve sixteen
      ∙ sym (ap₂ (λ (n h : List ℕ). tag_of key n h (cipher_in (sealed_file key name nonce text))) (laid_nonce name nonce c tag eight twelve sixteen) (laid_head name nonce c tag eight twelve sixteen)
      ∙ ap (tag_of key nonce (head_of name)) (laid_cipher name nonce c tag eight twelve sixteen))

  pub sealed_text_lem : text_in key (sealed_file key name nonce text) ≡ text
  unfolding sealed_file c tag text_in
  sealed_text_lem =
      ap₂ (ciphered key) (laid_nonce name nonce c tag eight twelve sixteen) (laid_cipher name nonce c tag eight twelve sixteen)
      ∙ ciphered_twice key nonce text

-- the text of any sealed file has 38 bytes less
pub text_length_lem : (key file : List ℕ) → Sealed file → length (text_in key file) ≡ text_length file
unfolding text_in cipher_in text_length
text_length_lem key file h =
    ciphered_length key (nonce_in file) (cipher_in file)
    ∙ length-take-le (length file - 38) (drop 22 file) (omega (arith, h.enough, length-drop 22 file))
