-- The promise of 02's Ask 4 for accepted files, sentence by sentence. The machine and its file stand in the roster_file crate's specs/, what the operations
-- with a roster answer in the roster_answers crate's.
use Rattle.std.specs.Prelude.{ℕ, ◌+◌, ◌≤◌, ◌<◌, List, ◌++◌, ◌↔◌, ◌≡◌, length, drop}
use Rattle.buffers.specs.Handed.{refused_written, wrote}
use Rattle.envelope_file.specs.Derive.{refused_derived, derived_of}
use Rattle.growth_answers.specs.Growing.{growth_of}
use Rattle.growth_answers.specs.GrowthTextAnswer.{growth_written, growth_after}
use Rattle.issuer_answers.specs.Keys.{issuer_key_of}
use Rattle.plan_answers.specs.Planned.{plan_of}
use Rattle.plan_answers.specs.Weighing.{weigh_of}
use Rattle.plan_texts.specs.DrawingAnswer.{drawing_written, drawing_after}
use Rattle.plan_texts.specs.TextAnswer.{text_written, text_after}
use Rattle.policy_file.specs.Counts.{OtherCounts}
use Rattle.policy_file.specs.File.{name_of}
use Rattle.policy_file.specs.Whole.{label_count}
use Rattle.roster_answers.specs.Counted.{roster_plan, roster_weighed, roster_growth, roster_text_written, roster_text_after, roster_drawing_written, roster_drawing_after, roster_growth_written, roster_growth_after, roster_key, roster_sealed, roster_file_after}
use Rattle.roster_answers.specs.Issue.{roster_issued, roster_envelope_after}
use Rattle.roster_answers.specs.Rostered.{roster_of, roster_count, counted_policy}
use Rattle.roster_answers.specs.Rows.{NotOn, roster_envelope}
use Rattle.roster_answers.specs.Standings.{roster_read, standings_of}
use Rattle.roster_file.specs.Counts.{AccountsOn, joins_in, withdrawals_in}
use Rattle.roster_file.specs.Machine.{standing_of}
use Rattle.roster_file.specs.declared.Activity.TheVariants.{Active, Held}
use Rattle.roster_file.specs.declared.Standing.TheVariants.{On}
use Rattle.seal_answers.specs.Seal.{label_sealed, sealed_of, file_after}
use Rattle.trees.specs.Sums.{sum}
use Rattle.weights.specs.Tables.{entries}
use Rattle.claims.specs.Accounts.{FewestFor, WithAccounts}
use Rattle.claims.specs.Demand2.{OfEnvelope}
use Rattle.claims.specs.Growth.{Ask3}
use Rattle.claims.specs.Published.{R}
use Rattle.claims.specs.Sealed.{Ask2}

-- every operation with a roster answers, and leaves in a lent buffer, what the operation without one does for the policy with the roster's counts
pub record OnCounts (policy roster : List ℕ) : Type 0 where
  pub plan : roster_plan policy roster ≡ plan_of (counted_policy policy roster)
  pub weighed : (tree : List ℕ) → roster_weighed policy roster tree ≡ weigh_of (counted_policy policy roster) tree
  pub growth : roster_growth policy roster ≡ growth_of (counted_policy policy roster)
  pub key : (name root : List ℕ) → roster_key policy roster name root ≡ issuer_key_of (counted_policy policy roster) name root
  pub plan_text_lem : (room : ℕ) → roster_text_written policy roster room ≡ text_written (counted_policy policy roster) room
  pub plan_text_left : (out : List ℕ) → roster_text_after policy roster out ≡ text_after (counted_policy policy roster) out
  pub drawing : (room : ℕ) → roster_drawing_written policy roster room ≡ drawing_written (counted_policy policy roster) room
  pub drawing_left : (out : List ℕ) → roster_drawing_after policy roster out ≡ drawing_after (counted_policy policy roster) out
  pub growth_text_lem : (room : ℕ) → roster_growth_written policy roster room ≡ growth_written (counted_policy policy roster) room
  pub growth_text_left : (out : List ℕ) → roster_growth_after policy roster out ≡ growth_after (counted_policy policy roster) out
  pub sealed : (name root nonce text : List ℕ) (room : ℕ)
      → roster_sealed policy roster name root nonce text room ≡ sealed_of (counted_policy policy roster) name root nonce text room
  pub sealed_left : (name root nonce text out : List ℕ)
      → roster_file_after policy roster name root nonce text out ≡ file_after (counted_policy policy roster) name root nonce text out

-- an account asked for at label l of the policy, any root secret and buffer
pub record OfAsked (policy roster root : List ℕ) (l account : ℕ) (out : List ℕ) : Type 0 where
  -- "14 means that the account is not on the named label."
  pub not_on : ((roster_issued policy roster (name_of policy l) account root (length out)).refusal ≡ 14) ↔ NotOn policy roster l account
  -- "26: issue to a held account, after 14."
  pub held : ((roster_issued policy roster (name_of policy l) account root (length out)).refusal ≡ 26) ↔ (standing_of (roster_of policy roster) account ≡ On l Held)

-- an active account on label l, and what is written for it
pub record OfActive (policy roster root : List ℕ) (l account : ℕ) (written : List ℕ) : Type 0 where
  pub label : l < label_count policy
  -- demand 2: "An envelope written for an account": `issue_roster` writes it into every buffer that has room
  pub issued : (out : List ℕ) → length written ≤ length out → roster_issued policy roster (name_of policy l) account root (length out) ≡ wrote (length written)
  pub left : (out : List ℕ) → length written ≤ length out
      → roster_envelope_after policy roster (name_of policy l) account root out ≡ written ++ drop (length written) out
  -- a shorter buffer: 16, and nothing changes
  pub refused : (out : List ℕ) → length out < length written → roster_issued policy roster (name_of policy l) account root (length out) ≡ refused_written 16
  pub kept : (out : List ℕ) → length out < length written → roster_envelope_after policy roster (name_of policy l) account root out ≡ out
  -- "and read at the desk gives, for every label at or below the account's label, the issuer's own key, and refuses every other label.": the answer of
  -- `issuer_key_roster`, and 20
  pub opens : (m : ℕ) → m < label_count policy → R policy m l
      → ((derived_of written (name_of policy m)).refusal ≡ 0) × ((derived_of written (name_of policy m)).key ≡ (roster_key policy roster (name_of policy m) root).key)
  pub refuses : (m : ℕ) → m < label_count policy → ¬ R policy m l → derived_of written (name_of policy m) ≡ refused_derived 20
  -- and all that demand 2 says of an envelope of the policy with these counts
  pub envelope : OfEnvelope (counted_policy policy roster) root l account written

-- for every accepted policy and roster
pub record Ask4 (policy roster : List ℕ) : Type 0 where
  -- "its counts .., held accounts included": a label's count is the number of the accounts that are on it, active or held
  pub counts : (l : ℕ) → AccountsOn (roster_of policy roster) l (roster_count policy roster l)
  pub few : (l : ℕ) → roster_count policy roster l ≤ 4096
  pub past : (l : ℕ) → label_count policy ≤ l → roster_count policy roster l ≡ 0
  -- "and sum to joins less withdrawals"
  pub sums : sum (roster_count policy roster) (label_count policy) + withdrawals_in policy (label_count policy) roster ≡ joins_in policy (label_count policy) roster
  -- `read_roster` answers how each account stands, and these counts
  pub read : roster_read policy roster ≡ standings_of (label_count policy) (roster_of policy roster)
  pub read_counts_lem : (l : ℕ) → l < 64 → entries (roster_read policy roster).counts l ≡ roster_count policy roster l
  -- "Where a roster is given its counts replace those in `LB`": demands 2 and 3 of the policy that has them, and the answers of every operation
  pub replaced : OtherCounts policy (counted_policy policy roster) (roster_count policy roster)
  pub demands : WithAccounts policy (counted_policy policy roster) (roster_count policy roster)
  pub answers : OnCounts policy roster
  -- "Fewest-key claims are then about these counts"
  pub fewest : FewestFor policy (roster_count policy roster) (roster_plan policy roster).total
  -- Ask 3 of these counts: what one account more costs
  pub growth : (l : ℕ) → l < label_count policy → Ask3 (counted_policy policy roster) l
  -- 14 and 26
  pub asked : (root : List ℕ) (l account : ℕ) → l < label_count policy → (out : List ℕ) → OfAsked policy roster root l account out
  -- an account that is on a label and active, for every root secret of 32 bytes
  pub active : (root : List ℕ) → length root ≡ 32 → (l account : ℕ) → standing_of (roster_of policy roster) account ≡ On l Active
      → OfActive policy roster root l account (roster_envelope policy roster root l account)
  -- Ask 2 of these counts: "What was sealed opens to the same text with every envelope that holds the label and was issued from the same policy, counts and
  -- root secret"
  pub seals : (root nonce text : List ℕ) (m : ℕ) → length root ≡ 32 → length nonce ≡ 12 → length text ≤ 32768 → m < label_count policy
      → Ask2 (counted_policy policy roster) root nonce text m (label_sealed (counted_policy policy roster) (name_of policy m) root nonce text)
