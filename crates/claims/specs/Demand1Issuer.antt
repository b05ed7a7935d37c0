-- Demand 1 for the issuer's operations: "A refused one yields zeros beside that number and changes nothing in the memory lent with it." 01: "A
-- refusal of the policy comes before any other in an operation that takes one, .. and only then those about names, accounts, secrets and
-- buffers", 13, 14, 15 and 16. The rows of 01's table stand in words in the issuer_answers crate's specs/Rows.antt.
use Rattle.std.specs.Prelude.{ℕ, ◌<◌, List, ◌≡◌, length}
use Rattle.buffers.specs.Handed.{refused_written}
use Rattle.issuer_answers.specs.Issue.{issued_of, envelope_after}
use Rattle.issuer_answers.specs.Keys.{refused_key, issuer_key_of}
use Rattle.issuer_answers.specs.Rows.{KeyAnswered, IssueAnswered}

-- the number answered is that of a row that holds, and a row that holds is answered by its number
pub record Demand1OfKey (policy name root : List ℕ) : Type 0 where
  pub answered : KeyAnswered policy name root (issuer_key_of policy name root).refusal
  pub only : (n : ℕ) → KeyAnswered policy name root n → (issuer_key_of policy name root).refusal ≡ n
  -- "A refused one yields zeros beside that number"
  pub zeros : 0 < (issuer_key_of policy name root).refusal → issuer_key_of policy name root ≡ refused_key (issuer_key_of policy name root).refusal

pub record Demand1OfIssue (policy name : List ℕ) (account : ℕ) (root out : List ℕ) : Type 0 where
  pub answered : IssueAnswered policy name account root (length out) (issued_of policy name account root (length out)).refusal
  pub only : (n : ℕ) → IssueAnswered policy name account root (length out) n → (issued_of policy name account root (length out)).refusal ≡ n
  -- "A refused one yields zeros beside that number and changes nothing in the memory lent with it."
  pub zeros : 0 < (issued_of policy name account root (length out)).refusal
      → issued_of policy name account root (length out) ≡ refused_written (issued_of policy name account root (length out)).refusal
  pub unchanged : 0 < (issued_of policy name account root (length out)).refusal → envelope_after policy name account root out ≡ out
