-- What the tag is made of, absorbed in parts: padded bytes, and the lengths.
use Prim.Native.Nat.{ℕ, ◌+◌, ◌-◌, ◌*◌, ◌/◌, ◌%◌, ◌≤◌, ◌<◌}
use mathlib.Core.List.{List, ◌++◌, append_assoc, append-nil}
use mathlib.Core.Path.{◌≡◌, refl, sym, ap, ap₂, ◌∙◌}
use native.Mathlib.Omega.{arith}
use lib.ListN.{length, take, drop, replicate, length-append, length-drop, length-replicate, take-append-drop}
use lib.Seq.{length-take-le}
use Rattle.lists.specs.Buffer.{zero_filled}
use Rattle.lists.proofs.Pasted.{zero_filled_length, copied}
use Rattle.little_endian.specs.LittleEndian.{little_bytes}
use Rattle.little_endian.proofs.LittleEndian.{little_bytes_length}
use Rattle.poly1305.specs.Poly1305.{multiplier, addend, absorbed, blocks, tagged, poly1305}
use Rattle.poly1305.proofs.Blocks.{absorbed_front, absorbed_more}
use Rattle.aead.specs.Aead.{one_time_key, padded, mac_data, tag_of}

-- padded bytes are whole blocks
pub padded_length : (s : List ℕ) → length (padded s) ≡ length s + (16 - length s % 16) % 16
unfolding padded
padded_length s = length-append s (replicate ((16 - length s % 16) % 16) 0) ∙ ap (λ (n : ℕ). length s + n) (length-replicate ((16 - length s % 16) % 16) 0)

padded_whole : (s : List ℕ) → length (padded s) ≡ 16 * (length (padded s) / 16)
padded_whole s = omega (arith, padded_length s)

-- nothing to pad
pub padded_none : (s : List ℕ) → length s / 16 * 16 ≡ length s → padded s ≡ s
unfolding padded
padded_none s e =
    let none : (16 - length s % 16) % 16 ≡ 0 = omega (arith, e) in
    rw none (append-nil s)

-- the whole blocks, then what is left of the last with zeros
module _ (s : List ℕ) (at : ℕ) (e : at ≡ length s / 16 * 16) (some : at < length s) where
  rest_length : length (drop at s) ≡ length s % 16
  rest_length = length-drop at s ∙ omega (arith, e)

  padded_last : padded s ≡ take at s ++ zero_filled 16 (drop at s)
  unfolding padded zero_filled
  padded_last =
      let gap : (16 - length s % 16) % 16 ≡ 16 - length (drop at s) = omega (arith, rest_length, e, some) in
      ap₂ (λ (t : List ℕ) (n : ℕ). t ++ replicate n 0) (sym (take-append-drop at s)) gap
      ∙ append_assoc (take at s) (drop at s) (replicate (16 - length (drop at s)) 0)

  front_length : length (take at s) ≡ 16 * (length s / 16)
  front_length = length-take-le at s (omega arith) ∙ omega (arith, e)

  front_blocks : (r a : ℕ) → absorbed r a s (length s / 16) ≡ absorbed r a (take at s) (length s / 16)
  front_blocks r a =
      ap (λ (t : List ℕ). absorbed r a t (length s / 16)) (sym (take-append-drop at s))
      ∙ absorbed_front r a (take at s) (drop at s) (length s / 16) (omega (arith, front_length))

  pub padded_rest : (r a : ℕ) → absorbed r (absorbed r a s (length s / 16)) (zero_filled 16 (drop at s)) 1 ≡ absorbed r a (padded s) (length (padded s) / 16)
  padded_rest r a =
      let turns : length (padded s) / 16 ≡ length s / 16 + 1 = omega (arith, padded_length s, e, some) in
      ap (λ (b : ℕ). absorbed r b (zero_filled 16 (drop at s)) 1) (front_blocks r a)
      ∙ sym (absorbed_more r a (take at s) (zero_filled 16 (drop at s)) (length s / 16) 1 front_length)
      ∙ ap₂ (absorbed r a) (sym padded_last) (sym turns)

  pub last_length : length (zero_filled 16 (drop at s)) ≡ 16
  last_length = zero_filled_length 16 (drop at s) (omega (arith, rest_length))

-- the three parts one after the other
module _ (aad c : List ℕ) where
  abbrev pub lengths : List ℕ
  lengths = little_bytes 8 (length aad) ++ little_bytes 8 (length c)

  pub lengths_length : length lengths ≡ 16
  lengths_length =
      length-append (little_bytes 8 (length aad)) (little_bytes 8 (length c))
      ∙ omega (arith, little_bytes_length 8 (length aad), little_bytes_length 8 (length c))

  data_parts : mac_data aad c ≡ padded aad ++ padded c ++ lengths
  unfolding mac_data
  data_parts = append_assoc (padded aad ++ padded c) (little_bytes 8 (length aad)) (little_bytes 8 (length c))

  abbrev p : ℕ
  p = length (padded aad) / 16

  abbrev q : ℕ
  q = length (padded c) / 16

  both_length : length (padded aad ++ padded c) ≡ 16 * (p + q)
  both_length = length-append (padded aad) (padded c) ∙ omega (arith, padded_whole aad, padded_whole c)

  data_blocks : blocks (mac_data aad c) ≡ p + q + 1
  unfolding blocks
  data_blocks =
      let size : length (mac_data aad c) ≡ 16 * (p + q) + 16 = ap length data_parts ∙ length-append (padded aad ++ padded c) lengths ∙ ap₂ (λ (x y : ℕ). x + y) both_length lengths_length in
      ap (λ (n : ℕ). (n + 15) / 16) size ∙ omega arith

  pub data_absorbed : (r : ℕ) → absorbed r (absorbed r (absorbed r 0 (padded aad) p) (padded c) q) lengths 1 ≡ absorbed r 0 (mac_data aad c) (blocks (mac_data aad c))
  data_absorbed r =
      ap (λ (b : ℕ). absorbed r b lengths 1) (sym (absorbed_more r 0 (padded aad) (padded c) p q (padded_whole aad)))
      ∙ sym (absorbed_more r 0 (padded aad ++ padded c) lengths (p + q) 1 both_length)
      ∙ ap₂ (absorbed r 0) (sym data_parts) (sym data_blocks)

-- what the code has after each part: the accumulators are those of the definition
module _ (s : List ℕ) (some : length s / 16 * 16 < length s) where
  abbrev at : ℕ
  at = length s / 16 * 16

  pub padded_copied : (r a : ℕ) {b d : ℕ} {rest copy : List ℕ} → b ≡ absorbed r a s (length s / 16) → rest ≡ drop at s → copy ≡ rest
      → d ≡ absorbed r b (copy ++ drop (length rest) (replicate 16 0)) (length (copy ++ drop (length rest) (replicate 16 0)) / 16)
      → d ≡ absorbed r a (padded s) (length (padded s) / 16)
  padded_copied r a {b} {d} {rest} {copy} e k f g =
      let last = copy ++ drop (length rest) (replicate 16 0) in
      let size : length rest ≤ 16 = omega (arith, ap length k, rest_length s at refl some) in
      let filled : last ≡ zero_filled 16 (drop at s) =
      ap (λ (t : List ℕ). t ++ drop (length rest) (replicate 16 0)) f ∙ copied 16 rest size ∙ ap (zero_filled 16) k in
      let one : length last / 16 ≡ 1 = omega (arith, ap length filled, last_length s at refl some) in
      g ∙ ap (absorbed r b last) one ∙ ap₂ (λ (x : ℕ) (t : List ℕ). absorbed r x t 1) e filled ∙ padded_rest s at refl some r a

module _ (aad c : List ℕ) (r : ℕ) {h p q total : ℕ} {block : List ℕ} where
  pub data_made : h ≡ 0 → p ≡ absorbed r h (padded aad) (length (padded aad) / 16)
      → q ≡ absorbed r p (padded c) (length (padded c) / 16)
      → block ≡ lengths aad c
      → total ≡ absorbed r q block (length block / 16)
      → total ≡ absorbed r 0 (mac_data aad c) (blocks (mac_data aad c))
  data_made none first second e last =
      let one : length block / 16 ≡ 1 = omega (arith, ap length e, lengths_length aad c) in
      last ∙ ap (absorbed r q block) one
      ∙ ap₂ (λ (x : ℕ) (t : List ℕ). absorbed r x t 1) (second ∙ ap (λ (x : ℕ). absorbed r x (padded c) (length (padded c) / 16)) (first ∙ ap (λ (x : ℕ). absorbed r x (padded aad) (length (padded aad) / 16)) none)) e
      ∙ data_absorbed aad c r

-- the tag of the accumulator that they lead to
module _ (key nonce aad c : List ℕ) {once : List ℕ} {r total : ℕ} {tag : List ℕ} where
  pub tag_made : once ≡ one_time_key key nonce → r ≡ multiplier once → total ≡ absorbed r 0 (mac_data aad c) (blocks (mac_data aad c))
      → tag ≡ tagged total (addend once) → tag ≡ tag_of key nonce aad c
  unfolding tag_of poly1305
  tag_made k m t e =
      e ∙ ap (λ (x : ℕ). tagged x (addend once)) (t ∙ ap (λ (x : ℕ). absorbed x 0 (mac_data aad c) (blocks (mac_data aad c))) m)
      ∙ ap (λ (o : List ℕ). tagged (absorbed (multiplier o) 0 (mac_data aad c) (blocks (mac_data aad c))) (addend o)) k
