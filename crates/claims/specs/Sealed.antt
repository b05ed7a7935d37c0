-- The promise of 02's Ask 2, sentence by sentence. What a sealed file is stands in the sealed_file crate's specs/, the cipher in the specs/ of aead,
-- chacha20, chacha20_block and poly1305.
use Rattle.std.specs.Prelude.{ℕ, ◌+◌, ◌≤◌, ◌<◌, List, ◌++◌, ◌≡◌, length, drop}
use Rattle.buffers.specs.Handed.{wrote, refused_written}
use Rattle.issuer_answers.specs.Issue.{account_envelope}
use Rattle.issuer_answers.specs.Keys.{issuer_key_of}
use Rattle.open_answers.specs.Open.{opened_of, text_after}
use Rattle.policy_file.specs.File.{name_of}
use Rattle.policy_file.specs.Whole.{label_count}
use Rattle.seal_answers.specs.Seal.{sealed_of, file_after}
use Rattle.sealed_file.specs.Sealed.{sealed_file}
use Rattle.claims.specs.Published.{R}

-- a text sealed for label m, and any buffer
pub record OfSeal (policy root nonce text : List ℕ) (m : ℕ) (file out : List ℕ) : Type 0 where
  -- "Seal .. a text of up to 32,768 bytes with ChaCha20-Poly1305 (RFC 8439) under the label's key."
  pub under_key : file ≡ sealed_file (issuer_key_of policy (name_of policy m) root).key (name_of policy m) nonce text
  pub measured : length file ≡ 38 + length text
  -- "whatever is written into a buffer is written as an issue writes its envelope"
  pub sealed : length file ≤ length out → sealed_of policy (name_of policy m) root nonce text (length out) ≡ wrote (length file)
  pub left : length file ≤ length out → file_after policy (name_of policy m) root nonce text out ≡ file ++ drop (length file) out

-- the same file, the envelope for account number `account` at label l, and any buffer
pub record OfOpen (policy root text : List ℕ) (m l account : ℕ) (file out : List ℕ) : Type 0 where
  -- "What was sealed opens to the same text with every envelope that holds the label and was issued from the same policy, counts and root secret"
  pub opens : R policy m l → length text ≤ length out → opened_of (account_envelope policy root l account) file (length out) ≡ wrote (length text)
  pub text_left : R policy m l → length text ≤ length out → text_after (account_envelope policy root l account) file out ≡ text ++ drop (length text) out
  -- every other label: 20, and the buffer as it was
  pub refuses : ¬ R policy m l → opened_of (account_envelope policy root l account) file (length out) ≡ refused_written 20
  pub kept : ¬ R policy m l → text_after (account_envelope policy root l account) file out ≡ out

-- for every accepted policy, root secret of 32 bytes, nonce of 12, text of at most 32,768 and label m; every label l and every account number from 1 to
-- 65,535, so the accounts that `LB` counts and, for the policy with a roster's counts, those of the roster
pub record Ask2 (policy root nonce text : List ℕ) (m : ℕ) (file : List ℕ) : Type 0 where
  pub seals : (out : List ℕ) → OfSeal policy root nonce text m file out
  pub opens : (l account : ℕ) → l < label_count policy → 0 < account → account < 65_536 → (out : List ℕ) → OfOpen policy root text m l account file out
