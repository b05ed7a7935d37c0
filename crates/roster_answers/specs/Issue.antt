-- An envelope for an account of a roster (02, Ask 4): "14 means that the account is not on the named label", "26: issue to a held account, after 14."
use Rattle.std.specs.Prelude.{ℕ, cond, List, eqb, length}
use Rattle.buffers.specs.Handed.{refused_written}
use Rattle.buffers.specs.declared.Written.{Written}
use Rattle.issuer_answers.specs.Issue.{issued_by, left_by}
use Rattle.roster_file.specs.Machine.{standing_of}
use Rattle.roster_file.specs.declared.Activity.TheVariants.{Active, Held}
use Rattle.roster_file.specs.declared.Activity.{Activity}
use Rattle.roster_file.specs.declared.Standing.TheVariants.{Unknown, Withdrawn, On}
use Rattle.roster_file.specs.declared.Standing.{Standing}
use Rattle.roster_answers.specs.Counted.{on_counted, left_on_counted}
use Rattle.roster_answers.specs.Rostered.{roster_of}

-- 26, for a held account; 15, "root secret not 32 bytes"
abbrev pub activity_refusal : Activity → (root : List ℕ) → ℕ
activity_refusal Active root = cond (eqb (length root) 32) 0 15
activity_refusal Held root = 26

-- 14, for an account that is unknown, withdrawn or on another label than l
abbrev pub standing_refusal : Standing → (root : List ℕ) (l : ℕ) → ℕ
standing_refusal Unknown root l = 14
standing_refusal Withdrawn root l = 14
standing_refusal (On m activity) root l = cond (eqb m l) (activity_refusal activity root) 14

-- what `issue_standing` answers and leaves, for a policy and an account that stands so: the policy's refusals, then 13, 14, 26, 15, 16
unfoldable pub standing_issued : (policy : List ℕ) → Standing → (name : List ℕ) (account : ℕ) (root : List ℕ) (room : ℕ) → Written
standing_issued policy s name account root room = issued_by policy name account root (standing_refusal s root) room

unfoldable pub standing_after : (policy : List ℕ) → Standing → (name : List ℕ) (account : ℕ) (root out : List ℕ) → List ℕ
standing_after policy s name account root out = left_by policy name account root (standing_refusal s root) out

-- what `issue_roster` answers and leaves
unfoldable pub roster_issued : (policy roster name : List ℕ) (account : ℕ) (root : List ℕ) (room : ℕ) → Written
roster_issued policy roster name account root room =
    on_counted refused_written (λ file. standing_issued file (standing_of (roster_of policy roster) account) name account root room) policy roster

unfoldable pub roster_envelope_after : (policy roster name : List ℕ) (account : ℕ) (root out : List ℕ) → List ℕ
roster_envelope_after policy roster name account root out =
    left_on_counted (λ file buffer. standing_after file (standing_of (roster_of policy roster) account) name account root buffer) policy roster out
