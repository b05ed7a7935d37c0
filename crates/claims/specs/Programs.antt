-- The programs read no more than the first 4,096 bytes of a file; of a text that is to be sealed 32,769, and of a sealed file 32,807. What they print and write
-- is nevertheless that of the whole file, however long.
use Rattle.std.specs.Prelude.{ℕ, List, ◌≡◌, take}
use Rattle.envelope_file.specs.Derive.{derived_of}
use Rattle.envelope_file.specs.Labels.{envelope_labels}
use Rattle.envelope_file.specs.Whole.{envelope_records_read}
use Rattle.plan_texts.specs.DrawingAnswer.{printed_drawing}
use Rattle.faults.specs.Faults.{second_top, ill_hung}
use Rattle.fingerprint.specs.Fingerprint.{fingerprint_of}
use Rattle.growth_answers.specs.GrowthTextAnswer.{printed_growth}
use Rattle.issuer_answers.specs.Issue.{issued_of, envelope_after}
use Rattle.issuer_answers.specs.Keys.{issuer_key_of}
use Rattle.plan_answers.specs.Weighing.{weigh_of}
use Rattle.policy_file.specs.Whole.{policy_of, policy_records_read}
use Rattle.plan_texts.specs.Printed.{printed}
use Rattle.open_answers.specs.Open.{opened_of, text_after}
use Rattle.seal_answers.specs.Seal.{sealed_of, file_after}

-- what a program reads of a file
abbrev pub front : List ℕ → List ℕ
front file = take 4096 file

-- `yendlowa plan`, which prints what the program `plan` prints, `yendlowa draw` and `yendlowa growth`; for refused policies too
pub record OfPlans (policy : List ℕ) : Type 0 where
  pub text : printed (front policy) ≡ printed policy
  pub drawing : printed_drawing (front policy) ≡ printed_drawing policy
  pub growth : printed_growth (front policy) ≡ printed_growth policy

-- `yendlowa weigh`, `key` and `issue`, the fingerprint that the latter two can print, and which record or label they name as refused
pub record OfIssuer (policy tree name root : List ℕ) (account : ℕ) (out : List ℕ) (room : ℕ) : Type 0 where
  pub weighed : weigh_of (front policy) (front tree) ≡ weigh_of policy tree
  pub key : issuer_key_of (front policy) name (front root) ≡ issuer_key_of policy name root
  pub issued : issued_of (front policy) name account (front root) room ≡ issued_of policy name account root room
  pub written : envelope_after (front policy) name account (front root) out ≡ envelope_after policy name account root out
  pub read : policy_of (front policy) ≡ policy_of policy
  pub fingerprint : fingerprint_of (front root) ≡ fingerprint_of root
  pub refused_at : policy_records_read (front policy) ≡ policy_records_read policy
  pub second_top_lem : second_top (front policy) ≡ second_top policy
  pub ill_hung_lem : ill_hung (front policy) (front tree) ≡ ill_hung policy tree

-- `yendlowa-desk derive` and `labels`, and which record they name as refused
pub record OfDesk (envelope name : List ℕ) : Type 0 where
  pub derived : derived_of (front envelope) name ≡ derived_of envelope name
  pub labels : envelope_labels (front envelope) ≡ envelope_labels envelope
  pub refused_at : envelope_records_read (front envelope) ≡ envelope_records_read envelope

-- `yendlowa seal`, and `yendlowa-desk open`
pub record OfSealing (policy name root nonce text out : List ℕ) (room : ℕ) : Type 0 where
  pub sealed : sealed_of (front policy) name (front root) (front nonce) (take 32769 text) room ≡ sealed_of policy name root nonce text room
  pub written : file_after (front policy) name (front root) (front nonce) (take 32769 text) out ≡ file_after policy name root nonce text out

pub record OfOpening (envelope file out : List ℕ) (room : ℕ) : Type 0 where
  pub opened : opened_of (front envelope) (take 32807 file) room ≡ opened_of envelope file room
  pub written : text_after (front envelope) (take 32807 file) out ≡ text_after envelope file out
