-- Demand 1 for the issuer's operations, shown for every list of bytes, every account number and every buffer.
use Prim.Native.Nat.{ℕ}
use mathlib.Core.List.{List}
use lib.ListN.{length}
use Rattle.issuer_answers.proofs.Answers.{key_answered, issue_answered}
use Rattle.issuer_answers.proofs.Words.{key_only, issue_only}
use Rattle.issuer_answers.proofs.Zeros.{key_zeros, issue_zeros, issue_unchanged}
use Rattle.claims.specs.Demand1Issuer.{Demand1OfKey, Demand1OfIssue}

pub demand1_of_key : (policy name root : List ℕ) → Demand1OfKey policy name root
demand1_of_key policy name root = record {
  answered = key_answered policy name root;
  only = λ n row. key_only policy name root row;
  zeros = key_zeros policy name root;
}

pub demand1_of_issue : (policy name : List ℕ) (account : ℕ) (root out : List ℕ) → Demand1OfIssue policy name account root out
demand1_of_issue policy name account root out = record {
  answered = issue_answered policy name account root (length out);
  only = λ n row. issue_only policy name account root (length out) row;
  zeros = issue_zeros policy name account root (length out);
  unchanged = issue_unchanged policy name account root out;
}
