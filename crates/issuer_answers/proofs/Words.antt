-- A row that holds gives its number: with `key_answered` and `issue_answered`, each number is answered exactly when its row holds.
use Prim.Native.Nat.{ℕ}
use mathlib.Core.List.{List}
use mathlib.Core.Path.{◌≡◌, ap, ◌∙◌}
use native.Mathlib.Omega.{arith}
use Rattle.buffers.specs.declared.Written.{Written}
use Rattle.issuer_answers.specs.Keys.{issuer_key_of}
use Rattle.issuer_answers.specs.Issue.{issued_of}
use Rattle.issuer_answers.specs.Rows.{KeyAnswered, given, IssueAnswered, policys, row_13, row_14, row_15, row_16, written}
use Rattle.issuer_answers.specs.declared.IssuerKey.{IssuerKey}
use Rattle.issuer_answers.proofs.Answers.{key_policy, key_asked, key_13, key_15, key_of_label, issue_refuses, issue_policy, issue_13, issue_14, issue_15, issue_16, issue_written}
use Rattle.issuer_answers.proofs.Asked.{asked_label, asked_none}

abbrev key_number : IssuerKey → ℕ
key_number k = k.refusal

abbrev issue_number : Written → ℕ
issue_number w = w.refusal

pub key_only : (policy name root : List ℕ) {n : ℕ} → KeyAnswered policy name root n → (issuer_key_of policy name root).refusal ≡ n
key_only policy name root (policys bad) = ap key_number (key_policy policy name root (λ e. omega arith))
key_only policy name root (row_13 ok none) = ap key_number (key_asked policy name root ok (asked_none policy name ok none) ∙ key_13 policy name root)
key_only policy name root (row_15 {l} h ne) =
    ap key_number (key_asked policy name root h.accepted (asked_label policy name h.accepted h) ∙ key_15 policy name root l ne)
key_only policy name root (given h e) = ap key_number (key_of_label policy name root h e)

pub issue_only : (policy name : List ℕ) (account : ℕ) (root : List ℕ) (room : ℕ) {n : ℕ} → IssueAnswered policy name account root room n
    → (issued_of policy name account root room).refusal ≡ n
issue_only policy name account root room (policys bad) = ap issue_number ((issue_refuses policy name account root (issue_policy policy name account root bad)).0 room)
issue_only policy name account root room (row_13 ok none) = ap issue_number ((issue_refuses policy name account root (issue_13 policy name account root ok none)).0 room)
issue_only policy name account root room (row_14 {l} h none) = ap issue_number ((issue_refuses policy name account root (issue_14 policy name account root l h none)).0 room)
issue_only policy name account root room (row_15 {l} h ne) = ap issue_number ((issue_refuses policy name account root (issue_15 policy name account root l h ne)).0 room)
issue_only policy name account root room (row_16 {l} h e short) = ap issue_number (issue_16 policy name account root l h e room short)
issue_only policy name account root room (written {l} h e fits) = ap issue_number (issue_written policy name account root l h e room fits)
