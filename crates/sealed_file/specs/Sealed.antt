-- The sealed module file (02, Ask 2): "The file is `SM`, name, a 12-byte nonce handed in by us, ciphertext, 16-byte tag; mark and name are the
-- additional data." The cipher is ChaCha20-Poly1305 (RFC 8439, section 2.8).
use Rattle.std.specs.Prelude.{ℕ, ◌+◌, ◌-◌, Bool, cond, List, ◌++◌, eqb, ltb, length}
use Rattle.aead.specs.Aead.{ciphered, tag_of}
use Rattle.format.specs.Bytes.{bytes_at, same_bytes}
use Rattle.format.specs.Marks.{SM}

-- "mark and name"
abbrev pub head_of : (name : List ℕ) → List ℕ
head_of name = SM ++ name

-- the file of a text, "under the label's key"
unfoldable pub sealed_file : (key name nonce text : List ℕ) → List ℕ
sealed_file key name nonce text = let c = ciphered key nonce text in head_of name ++ nonce ++ c ++ tag_of key nonce (head_of name) c

-- what stands where in a file
unfoldable pub head_in : List ℕ → List ℕ
head_in file = bytes_at file 0 10

unfoldable pub name_in : List ℕ → List ℕ
name_in file = bytes_at file 2 8

unfoldable pub nonce_in : List ℕ → List ℕ
nonce_in file = bytes_at file 10 12

unfoldable pub text_length : List ℕ → ℕ
text_length file = length file - 38

unfoldable pub cipher_in : List ℕ → List ℕ
cipher_in file = bytes_at file 22 (text_length file)

unfoldable pub tag_in : List ℕ → List ℕ
tag_in file = bytes_at file (22 + text_length file) 16

-- 22, "sealed file under 38 or over 32,806 bytes, without `SM`"
unfoldable pub sealed_refusal : List ℕ → ℕ
sealed_refusal file =
    cond (ltb (length file) 38) 22
    (cond (ltb 32806 (length file)) 22
    (cond (same_bytes (bytes_at file 0 2) SM) 0
    22))

-- 22 when sealing: "text too long, or nonce not 12 bytes"
unfoldable pub text_refusal : (nonce text : List ℕ) → ℕ
text_refusal nonce text = cond (eqb (length nonce) 12) (cond (ltb 32768 (length text)) 22 0) 22

-- the tag that a file has to have under a key, and whether it has it; 23: "tag differs"
unfoldable pub tag_for : (key file : List ℕ) → List ℕ
tag_for key file = tag_of key (nonce_in file) (head_in file) (cipher_in file)

unfoldable pub tag_holds : (key file : List ℕ) → Bool
tag_holds key file = same_bytes (tag_for key file) (tag_in file)

-- the text of a file under a key
unfoldable pub text_in : (key file : List ℕ) → List ℕ
text_in key file = ciphered key (nonce_in file) (cipher_in file)
