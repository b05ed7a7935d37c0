-- What stands where in a file of mark, name, nonce, ciphertext and tag.
use Prim.Native.Nat.{ℕ, ◌+◌}
use mathlib.Core.List.{List, ◌++◌, append_assoc}
use mathlib.Core.Path.{◌≡◌, refl, ap, ◌∙◌}
use native.Mathlib.Omega.{arith}
use lib.ListN.{length, take, length-append}
use lib.Seq.{take_at, drop_at, take_all}
use Rattle.format.specs.Bytes.{bytes_at}
use Rattle.format.specs.Marks.{SM}
use Rattle.sealed_file.specs.Sealed.{head_of, head_in, name_in, nonce_in, text_length, cipher_in, tag_in}

-- mark and name, and these with the nonce
pub head_length : (name : List ℕ) → length name ≡ 8 → length (head_of name) ≡ 10
head_length name eight = length-append SM name ∙ omega (arith, eight)

pub front_length : (name nonce : List ℕ) → length name ≡ 8 → length nonce ≡ 12 → length (head_of name ++ nonce) ≡ 22
front_length name nonce eight twelve = length-append (head_of name) nonce ∙ omega (arith, head_length name eight, twelve)

module _ (name nonce c tag : List ℕ) (eight : length name ≡ 8) (twelve : length nonce ≡ 12) (sixteen : length tag ≡ 16) where
  abbrev pub laid : List ℕ
  laid = head_of name ++ nonce ++ c ++ tag

  ten : length (head_of name) ≡ 10
  ten = head_length name eight

  -- the front up to the ciphertext, and the file in parts from the right
  abbrev front : List ℕ
  front = head_of name ++ nonce

  twenty_two : length front ≡ 22
  twenty_two = front_length name nonce eight twelve

  from_cipher : laid ≡ front ++ (c ++ tag)
  from_cipher = append_assoc front c tag

  from_nonce : laid ≡ head_of name ++ (nonce ++ (c ++ tag))
  from_nonce = from_cipher ∙ append_assoc (head_of name) nonce (c ++ tag)

  pub laid_length : length laid ≡ 38 + length c
  laid_length = length-append (front ++ c) tag ∙ omega (arith, twenty_two, sixteen, length-append front c)

  pub laid_mark : bytes_at laid 0 2 ≡ SM
  laid_mark = refl

  pub laid_head : head_in laid ≡ head_of name
  unfolding head_in
  laid_head = ap head_in from_nonce ∙ take_at (head_of name) (nonce ++ (c ++ tag)) 10 ten

  pub laid_name : name_in laid ≡ name
  unfolding name_in
  laid_name = ap name_in from_nonce ∙ take_at name (nonce ++ (c ++ tag)) 8 eight

  pub laid_nonce : nonce_in laid ≡ nonce
  unfolding nonce_in
  laid_nonce =
      ap nonce_in from_nonce ∙ ap (take 12) (drop_at (head_of name) (nonce ++ (c ++ tag)) 10 ten)
      ∙ take_at nonce (c ++ tag) 12 twelve

  pub laid_text : text_length laid ≡ length c
  unfolding text_length
  laid_text = omega (arith, laid_length)

  pub laid_cipher : cipher_in laid ≡ c
  unfolding cipher_in
  laid_cipher =
      ap (bytes_at laid 22) laid_text ∙ ap (λ (s : List ℕ). bytes_at s 22 (length c)) from_cipher
      ∙ ap (take (length c)) (drop_at front (c ++ tag) 22 twenty_two) ∙ take_at c tag (length c) refl

  pub laid_tag : tag_in laid ≡ tag
  unfolding tag_in
  laid_tag =
      let size : length (front ++ c) ≡ 22 + length c = length-append front c ∙ omega (arith, twenty_two) in
      ap (λ (n : ℕ). bytes_at laid (22 + n) 16) laid_text ∙ ap (take 16) (drop_at (front ++ c) tag (22 + length c) size)
      ∙ take_all 16 tag (omega (arith, sixteen))
