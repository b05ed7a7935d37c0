-- ChaCha20 encryption (RFC 8439, section 2.4).
use Rattle.std.specs.Prelude.{List, [], ◌∷◌, ℕ, ◌+◌, ◌*◌, ◌/◌, length, take, drop}
use Rattle.std.specs.Int.Bits.{bit_xor}
use Rattle.lists.specs.Tables.{concat_below}
use Rattle.chacha20_block.specs.ChaCha20.{block_for}

-- byte by byte exclusive or, as many bytes as the shorter has: "If there is extra keystream from the last block, it is discarded." (section 2.4)
unfoldable pub xored : List ℕ → List ℕ → List ℕ
xored [] k = []
xored (a ∷ s) [] = []
xored (a ∷ s) (b ∷ k) = bit_xor a b ∷ xored s k

-- block number j of a text, of 64 bytes or, at its end, fewer
unfoldable pub text_block : List ℕ → ℕ → List ℕ
text_block text j = take 64 (drop (64 * j) text)

-- how many blocks n bytes are in
abbrev pub block_count : ℕ → ℕ
block_count n = (n + 63) / 64

-- the text with a key stream, whose blocks are k 0, k 1, ..
unfoldable pub streamed : (ℕ → List ℕ) → List ℕ → List ℕ
streamed k text = concat_below (λ (j : ℕ). xored (text_block text j) (k j)) (block_count (length text))

-- "chacha20_encrypt(key, counter, nonce, plaintext)" (section 2.4.1); decryption is the same
unfoldable pub encrypted : (key : List ℕ) (counter : ℕ) (nonce text : List ℕ) → List ℕ
encrypted key counter nonce text = streamed (λ (j : ℕ). block_for key (counter + j) nonce) text
