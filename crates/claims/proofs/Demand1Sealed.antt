-- Demand 1 for sealed files, shown for every list of bytes and every buffer.
use Prim.Native.Nat.{ℕ}
use mathlib.Core.List.{List}
use lib.ListN.{length}
use Rattle.open_answers.proofs.Answers.{open_given, text_left}
use Rattle.open_answers.proofs.Demand1.{open_answered, open_only, open_zeros, open_unchanged, open_22, open_23}
use Rattle.open_answers.specs.Rows.{opened}
use Rattle.seal_answers.proofs.Answers.{file_kept}
use Rattle.seal_answers.proofs.Demand1.{seal_answered, seal_only, seal_zeros}
use Rattle.claims.specs.Demand1Sealed.{Demand1OfSeal, Demand1OfOpen}

pub demand1_of_seal : (policy name root nonce text out : List ℕ) → Demand1OfSeal policy name root nonce text out
demand1_of_seal policy name root nonce text out = record {
  answered = seal_answered policy name root nonce text (length out);
  only = λ n row. seal_only policy name root nonce text (length out) row;
  zeros = seal_zeros policy name root nonce text (length out);
  unchanged = file_kept policy name root nonce text out;
}

pub demand1_of_open : (envelope file out : List ℕ) → Demand1OfOpen envelope file out
demand1_of_open envelope file out = record {
  answered = open_answered envelope file (length out);
  only = λ n row. open_only envelope file (length out) row;
  zeros = open_zeros envelope file (length out);
  opened = λ h same fits. open_given envelope file (length out) (opened h fits same) h.sealed fits;
  left = λ h same fits. text_left envelope file out (opened h fits same) h.sealed fits;
  unchanged = open_unchanged envelope file out;
  not_sealed = open_22 envelope file (length out);
  other_tag = open_23 envelope file (length out);
}
