-- Demand 1 for roster files: 02, Ask 2, "From here on demand 1 covers every file form added, and whatever is written into a buffer is written as an issue
-- writes its envelope." The rows of a roster file stand in words in the roster_file crate's specs/Rows.antt, those of `issue_roster` in the
-- roster_answers crate's specs/Rows.antt.
use Rattle.std.specs.Prelude.{ℕ, ◌<◌, ◌↔◌, ◌⊎◌, ◌≡◌, length}
use mathlib.Core.List.{List, Memᴰ}
use Rattle.buffers.specs.Handed.{refused_written}
use Rattle.growth_answers.specs.Growing.{refused_growth}
use Rattle.issuer_answers.specs.Keys.{refused_key}
use Rattle.plan_answers.specs.Planned.{refused_plan}
use Rattle.plan_answers.specs.Weighing.{refused_weighed}
use Rattle.policy_file.specs.Whole.{policy_refusal, label_count, AcceptedPolicy}
use Rattle.roster_answers.specs.Counted.{counted_written, counted_after, roster_plan, roster_weighed, roster_growth, roster_text_written, roster_text_after, roster_drawing_written, roster_drawing_after, roster_growth_written, roster_growth_after, roster_key, roster_sealed, roster_file_after}
use Rattle.roster_answers.specs.Issue.{roster_issued, roster_envelope_after}
use Rattle.roster_answers.specs.RosterText.{roster_text, roster_written, roster_after}
use Rattle.roster_answers.specs.Rostered.{roster_stop, files_refusal, AcceptedFiles, roster_of, counted_policy}
use Rattle.roster_answers.specs.Rows.{RosterIssueAnswered}
use Rattle.roster_answers.specs.Standings.{roster_read, refused_standings}
use Rattle.roster_file.specs.Machine.{refuses, changed, account_of, asked_of}
use Rattle.roster_file.specs.Rows.{NoMark, CutShort, NotNew, NotThere, NotNamed, roster_numbers, RosterPasses, Stops, ReachedInRoster}
use Rattle.roster_file.specs.declared.Entry.{Entry}
use Rattle.roster_file.specs.declared.Roster.{Roster}
use Rattle.roster_file.specs.declared.Stop.{Stop}
use Rattle.claims.specs.Demand1Texts.{OfWritten}

-- where one of the two files is refused, every operation with a roster: "A refused one yields zeros beside that number and changes nothing in the memory
-- lent with it."
pub record RosterZeros (policy roster : List ℕ) : Type 0 where
  pub read : roster_read policy roster ≡ refused_standings (files_refusal policy roster)
  pub plan : roster_plan policy roster ≡ refused_plan (files_refusal policy roster)
  pub weighed : (tree : List ℕ) → roster_weighed policy roster tree ≡ refused_weighed (files_refusal policy roster)
  pub growth : roster_growth policy roster ≡ refused_growth (files_refusal policy roster)
  pub key : (name root : List ℕ) → roster_key policy roster name root ≡ refused_key (files_refusal policy roster)
  -- the policy with the roster's counts, and the texts: of the roster, of the plan, of its drawing, of the growth
  pub counted : (room : ℕ) → counted_written policy roster room ≡ refused_written (files_refusal policy roster)
  pub counted_kept : (out : List ℕ) → counted_after policy roster out ≡ out
  pub text : (room : ℕ) → roster_written policy roster room ≡ refused_written (files_refusal policy roster)
  pub text_kept : (out : List ℕ) → roster_after policy roster out ≡ out
  pub plan_text_lem : (room : ℕ) → roster_text_written policy roster room ≡ refused_written (files_refusal policy roster)
  pub plan_text_kept : (out : List ℕ) → roster_text_after policy roster out ≡ out
  pub drawing : (room : ℕ) → roster_drawing_written policy roster room ≡ refused_written (files_refusal policy roster)
  pub drawing_kept : (out : List ℕ) → roster_drawing_after policy roster out ≡ out
  pub growth_text_lem : (room : ℕ) → roster_growth_written policy roster room ≡ refused_written (files_refusal policy roster)
  pub growth_text_kept : (out : List ℕ) → roster_growth_after policy roster out ≡ out
  -- envelopes and sealed files
  pub issued : (name : List ℕ) (account : ℕ) (root : List ℕ) (room : ℕ) → roster_issued policy roster name account root room ≡ refused_written (files_refusal policy roster)
  pub issued_kept : (name : List ℕ) (account : ℕ) (root out : List ℕ) → roster_envelope_after policy roster name account root out ≡ out
  pub sealed : (name root nonce text : List ℕ) (room : ℕ) → roster_sealed policy roster name root nonce text room ≡ refused_written (files_refusal policy roster)
  pub sealed_kept : (name root nonce text out : List ℕ) → roster_file_after policy roster name root nonce text out ≡ out

-- a roster file that is handed in with a policy
pub record Demand1OfRoster (policy roster : List ℕ) : Type 0 where
  -- 01: "A refusal of the policy comes before any other in an operation that takes one, then come those of any other file it takes"
  pub policy_first : 0 < policy_refusal policy → files_refusal policy roster ≡ policy_refusal policy
  -- "comes out either read or refused under a number from the list"
  pub answered : AcceptedPolicy policy → AcceptedFiles policy roster ⊎ Memᴰ (files_refusal policy roster) roster_numbers
  -- 01: "Given when, and only when reached": a number is answered exactly when all records before pass and its row holds
  pub no_mark : AcceptedPolicy policy → (files_refusal policy roster ≡ 2) ↔ ReachedInRoster policy (label_count policy) roster NoMark
  pub cut_short : AcceptedPolicy policy → (files_refusal policy roster ≡ 3) ↔ ReachedInRoster policy (label_count policy) roster CutShort
  -- "24: join with a number out of 1 to 4,096 or already used, even if withdrawn. 25: other record for an account unknown or withdrawn. Both follow 2 and
  -- 3 and precede 13."
  pub not_new : AcceptedPolicy policy → (files_refusal policy roster ≡ 24) ↔ ReachedInRoster policy (label_count policy) roster NotNew
  pub not_there : AcceptedPolicy policy → (files_refusal policy roster ≡ 25) ↔ ReachedInRoster policy (label_count policy) roster NotThere
  pub not_named : AcceptedPolicy policy → (files_refusal policy roster ≡ 13) ↔ ReachedInRoster policy (label_count policy) roster NotNamed
  -- read exactly when all records pass to the file's end, and then the roster in hand is the one that they lead to
  pub accepted : AcceptedPolicy policy → AcceptedFiles policy roster ↔ RosterPasses policy (label_count policy) roster (length roster) (roster_of policy roster)
  pub leads : AcceptedPolicy policy → (after : Roster) → RosterPasses policy (label_count policy) roster (length roster) after
      → AcceptedFiles policy roster × (roster_of policy roster ≡ after)
  -- "It must behave as that small machine does, record by record, from an empty roster.": where reading stops, under which number, and with which roster
  pub machine : (s : Stop) → (roster_stop policy roster ≡ s) ↔ Stops policy (label_count policy) roster s
  -- "The roster in hand is lent to each record and altered there.": a refused record leaves it as it was
  pub left : (before : Roster) (entry : Entry) (n : ℕ) → asked_of before entry ≡ refuses n → changed before (account_of entry) (asked_of before entry) ≡ before
  -- "A refused one yields zeros beside that number and changes nothing in the memory lent with it."
  pub zeros : 0 < files_refusal policy roster → RosterZeros policy roster
  -- "whatever is written into a buffer is written as an issue writes its envelope": the roster as text, and the policy with its counts
  pub text : (out : List ℕ) → OfWritten (files_refusal policy roster) (roster_text policy roster) (roster_written policy roster (length out)) out (roster_after policy roster out)
  pub counted : (out : List ℕ)
      → OfWritten (files_refusal policy roster) (counted_policy policy roster) (counted_written policy roster (length out)) out (counted_after policy roster out)

-- `issue_roster`, for any files, name, account number, root secret and buffer
pub record Demand1OfRosterIssue (policy roster name : List ℕ) (account : ℕ) (root out : List ℕ) : Type 0 where
  -- the number answered is that of a row that holds, and a row that holds is answered by its number
  pub answered : RosterIssueAnswered policy roster name account root (length out) (roster_issued policy roster name account root (length out)).refusal
  pub only : (n : ℕ) → RosterIssueAnswered policy roster name account root (length out) n → (roster_issued policy roster name account root (length out)).refusal ≡ n
  -- "A refused one yields zeros beside that number and changes nothing in the memory lent with it."
  pub zeros : 0 < (roster_issued policy roster name account root (length out)).refusal
      → roster_issued policy roster name account root (length out) ≡ refused_written (roster_issued policy roster name account root (length out)).refusal
  pub unchanged : 0 < (roster_issued policy roster name account root (length out)).refusal → roster_envelope_after policy roster name account root out ≡ out
