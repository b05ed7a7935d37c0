-- Demand 2, sentence by sentence. Licence order, tree weights and key sets are those of Published.antt. What an envelope is stands in the
-- envelopes crate's specs/, what the desk answers in the envelope_file crate's specs/, what `issuer_key` and `issue` answer in the issuer_answers crate's specs/,
-- HMAC in the hmac crate's specs/.
use Rattle.std.specs.Prelude.{ℕ, ◌+◌, ◌*◌, ◌≤◌, ◌<◌, List, ◌++◌, map, ◌≢◌, ◌≡◌, length, get_or, drop}
use Rattle.buffers.specs.Handed.{refused_written, wrote}
use Rattle.envelope_file.specs.Derive.{refused_derived, derived_of}
use Rattle.envelope_file.specs.File.{account_in}
use Rattle.envelope_file.specs.Labels.{envelope_labels}
use Rattle.envelope_file.specs.Rows.{DerivedBy}
use Rattle.envelope_file.specs.Whole.{AcceptedEnvelope}
use Rattle.format.specs.Bytes.{bytes_at}
use Rattle.envelopes.specs.Envelope.{place_below, steps_to, held_secrets, held_names}
use Rattle.envelopes.specs.Secrets.{secret_of}
use Rattle.hmac.specs.Hmac.{hmac}
use Rattle.issuer_answers.specs.Issue.{account_envelope, issued_of, envelope_after}
use Rattle.issuer_answers.specs.Keys.{parent_of, issuer_key_of}
use Rattle.plan_answers.specs.Planned.{at_or_below}
use Rattle.policy_file.specs.File.{name_of, count_of}
use Rattle.policy_file.specs.Whole.{label_count}
use Rattle.trees.specs.Trees.{top}
use Rattle.claims.specs.Demand3.{HangsSo}
use Rattle.claims.specs.Published.{R, TreeOf, SufficientFor, smallest_set, Published}

-- the secret of a label, by the plan's tree
abbrev pub secret : (file root : List ℕ) → ℕ → List ℕ
secret file root = secret_of (name_of file) (parent_of file) root

-- "secrets and keys are those of the published tree-based scheme, with HMAC-SHA-256 as its function" (003, section 3.2)
pub record OfSecrets (file root : List ℕ) : Type 0 where
  -- 01: "Keys and envelopes always follow the plan's tree."
  pub tree : TreeOf file (parent_of file)
  pub hangs : HangsSo file (parent_of file)
  -- 01: "The top's secret is the root secret"
  pub of_top : secret file root top ≡ root
  -- 01: "A child's secret is F(parent's secret, child's name)"; "F(k, m) is HMAC-SHA-256 with key k."; "Names go in as all 8 bytes."
  pub of_child : (m : ℕ) → m < label_count file → m ≢ top → secret file root m ≡ hmac (secret file root (parent_of file m)) (name_of file m)
  pub eight : (m : ℕ) → m < label_count file → length (name_of file m) ≡ 8
  -- 01: "a label's key is F(its secret, its own name)": what `issuer_key` answers
  pub key : (m : ℕ) → m < label_count file → issuer_key_of file (name_of file m) root ≡ record { refusal = 0; key = hmac (secret file root m) (name_of file m) }

-- two files of one length whose bytes are the same but for the account number's two
pub record ButForAccount (a b : List ℕ) : Type 0 where
  pub as_long : length a ≡ length b
  pub bytes : (i : ℕ) → i ≢ 2 → i ≢ 3 → get_or a i 0 ≡ get_or b i 0

-- the envelope for account number `account` at label l: what the desk reads in it. It holds of every number from 1 to 65,535, so of the accounts that `LB`
-- counts and of those of a roster.
pub record OfEnvelope (file root : List ℕ) (l account : ℕ) (written : List ℕ) : Type 0 where
  -- "and read at the desk"
  pub read : AcceptedEnvelope written
  -- "gives, for every label at or below the account's label, the issuer's own key": the very answer of `issuer_key`; 01: "the number of
  -- applications of F made: the tree steps from the held secret, plus one for the key"
  pub opens : (m : ℕ) → m < label_count file → R file m l → derived_of written (name_of file m) ≡ record {
    refusal = 0;
    key = (issuer_key_of file (name_of file m) root).key;
    applications = steps_to (at_or_below file) (parent_of file) l m + 1;
  }
  -- by the path's definition, and "never more than 64"
  pub path : (m : ℕ) → m < label_count file → R file m l → DerivedBy written (name_of file m) (derived_of written (name_of file m))
  -- "and refuses every other label", and every other byte string
  pub refuses_label : (m : ℕ) → m < label_count file → ¬ R file m l → derived_of written (name_of file m) ≡ refused_derived 20
  pub refuses : (asked : List ℕ) → ((m : ℕ) → m < label_count file → R file m l → asked ≢ name_of file m) → derived_of written asked ≡ refused_derived 20
  -- the labels that the desk reads in it are those at or below l, in policy order
  pub labels : (envelope_labels written).labels ≡ place_below (at_or_below file) l (label_count file)
  pub label_names : (m : ℕ) → m < label_count file → R file m l → bytes_at (envelope_labels written).names (8 * place_below (at_or_below file) l m) 8 ≡ name_of file m
  -- "key sets": the secrets in it are those of the smallest set, in policy order, and no others, and that set is sufficient
  pub secrets : held_secrets written ≡ map (secret file root) (smallest_set file (parent_of file) l)
  pub names : held_names written ≡ map (name_of file) (smallest_set file (parent_of file) l)
  pub sufficient : SufficientFor file (parent_of file) l (smallest_set file (parent_of file) l)
  -- its length: 12 bytes, 11 for each label at or below l and 31 more for each of the smallest set; 2,700 always suffice
  pub measured : length written ≡ 12 + 11 * place_below (at_or_below file) l (label_count file) + 31 * length (smallest_set file (parent_of file) l)
  pub few : length written ≤ 2700
  -- two accounts of one label: the envelopes differ in the account number alone
  pub numbered : account_in written ≡ account
  pub alike : (other : ℕ) → ButForAccount written (account_envelope file root l other)

-- an existing account at label l, and what is written for it
pub record OfAccount (file root : List ℕ) (l account : ℕ) (written : List ℕ) : Type 0 where
  -- "An envelope written for an account": `issue` writes it into every buffer that has room (01: "writes the envelope from the buffer's start,
  -- answers its length and changes no byte behind it")
  pub issued : (out : List ℕ) → length written ≤ length out
      → issued_of file (name_of file l) account root (length out) ≡ wrote (length written)
  pub left : (out : List ℕ) → length written ≤ length out → envelope_after file (name_of file l) account root out ≡ written ++ drop (length written) out
  -- a shorter buffer: 16, and nothing changes
  pub refused : (out : List ℕ) → length out < length written → issued_of file (name_of file l) account root (length out) ≡ refused_written 16
  pub kept : (out : List ℕ) → length out < length written → envelope_after file (name_of file l) account root out ≡ out
  -- "and read at the desk", where it opens what is licensed and nothing else
  pub envelope : OfEnvelope file root l account written

pub record Demand2 (file : List ℕ) : Type 0 where
  -- "Licence order, tree weights, key sets, secrets and keys are those of the published tree-based scheme, with HMAC-SHA-256 as its function."
  pub published : Published file
  pub secrets : (root : List ℕ) → length root ≡ 32 → OfSecrets file root
  -- "An envelope written for an account and read at the desk gives, for every label at or below the account's label, the issuer's own key, and
  -- refuses every other label."
  pub accounts : (root : List ℕ) → length root ≡ 32 → (l account : ℕ) → l < label_count file → 0 < account → account ≤ count_of file l
      → OfAccount file root l account (account_envelope file root l account)
