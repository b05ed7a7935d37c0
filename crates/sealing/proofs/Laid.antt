-- Mark, name, nonce, ciphertext and tag, written one after the other, are the sealed file.
use Prim.Native.Nat.{ℕ, ◌+◌, ◌-◌}
use mathlib.Core.List.{List, ◌++◌, append_assoc}
use mathlib.Core.Path.{◌≡◌, sym, ap, ap₂, subst, ◌∙◌}
use native.Mathlib.Omega.{arith}
use lib.ListN.{length, take}
use lib.Seq.{take_at, take-take}
use Rattle.aead.proofs.Laws.{ciphered_length}
use Rattle.aead.specs.Aead.{ciphered, tag_of}
use Rattle.buffers.proofs.Writes.{put_next, put_front}
use Rattle.buffers.specs.Put.{Put}
use Rattle.format.specs.Bytes.{bytes_at}
use Rattle.sealed_file.proofs.Places.{head_length, front_length}
use Rattle.sealed_file.specs.Sealed.{head_of, sealed_file}
use Rattle.sealed_parts.proofs.Replaced.{put_part}

-- the place after the nonce
pub after_head : (name nonce : List ℕ) → length name ≡ 8 → length nonce ≡ 12 → {d e : List ℕ} {at : ℕ} → Put d e 0 (head_of name ++ nonce) at → at ≡ 22
after_head name nonce eight twelve first = omega (arith, first.behind, front_length name nonce eight twelve)

module _ (key name nonce text : List ℕ) (eight : length name ≡ 8) (twelve : length nonce ≡ 12) where
  abbrev c : List ℕ
  c = ciphered key nonce text

  module _ {d e f : List ℕ} {at end : ℕ} (first : Put d e 0 (head_of name ++ nonce) at) (second : Put e f at c end) where
    from : at ≡ 22
    from = after_head name nonce eight twelve first

    -- the place after the ciphertext
    pub after_cipher : end ≡ 22 + length text
    after_cipher = omega (arith, second.behind, from, ciphered_length key nonce text)

    both : Put d f 0 (head_of name ++ nonce ++ c) end
    both = put_next first second

    front : take end f ≡ head_of name ++ nonce ++ c
    front = put_front both

    -- what the tag is made of stands in the buffer
    head_stands : bytes_at f 0 10 ≡ head_of name
    head_stands =
        sym (take-take 10 end f (omega (arith, after_cipher)))
        ∙ ap (take 10) (front ∙ append_assoc (head_of name) nonce c)
        ∙ take_at (head_of name) (nonce ++ c) 10 (head_length name eight)

    cipher_stands : bytes_at f 22 (end - 22) ≡ c
    cipher_stands = ap (λ (n : ℕ). bytes_at f n (end - n)) (sym from) ∙ put_part second

    module _ {g : List ℕ} {r : ℕ} (third : Put f g end (tag_of key nonce (bytes_at f 0 10) (bytes_at f 22 (end - 22))) r) where
      pub whole : Put d g 0 (sealed_file key name nonce text) r
      unfolding sealed_file
      whole =
          subst (λ (t : List ℕ). Put d g 0 (head_of name ++ nonce ++ c ++ t) r) (ap₂ (tag_of key nonce) head_stands cipher_stands)
          (put_next both third)
