-- `label_issue::account_refusal` meets its contract: 14, 15 or 0 by the tests that led there.
use mathlib.Core.Logic.{inl, inr}
use mathlib.Core.Path.{sym}
use native.Mathlib.Omega.{arith}
use Rattle.policy_file.specs.File.{count_of}
use Rattle.issuer_answers.proofs.Answers.{account_none, account_15, account_given}
use Rattle.label_issue.proofs.account_refusal.Goals as goal

pub returns-then-account-eq0 : goal.returns-then-account-eq0
returns-then-account-eq0 c =
    let a = c.args in
    sym (account_none a.policy.now a.root.now a.account a.l (inl (omega (arith, c.if-account-eq0.true))))

pub returns-then-read_number-account : goal.returns-then-read_number-account
unfolding count_of
returns-then-read_number-account c =
    let n = c in
    let a = n.args in
    sym (account_none a.policy.now a.root.now a.account a.l (inr (omega (arith, n.read_number.ensures, c.if-read_number-account.true))))

pub returns-then-root-ne32 : goal.returns-then-root-ne32
unfolding count_of
returns-then-root-ne32 c =
    let i = c in
    let n = i in
    let a = n.args in
    sym
    (account_15 a.policy.now a.root.now a.account a.l (omega (arith, n.if-account-eq0.false)) (omega (arith, n.read_number.ensures, i.if-read_number-account.false))
    c.if-root-ne32.true)

pub returns : goal.returns
unfolding count_of
returns c =
    let i = c in
    let n = i in
    let a = n.args in
    sym
    (account_given a.policy.now a.root.now a.account a.l (omega (arith, n.if-account-eq0.false)) (omega (arith, n.read_number.ensures, i.if-read_number-account.false))
    c.if-root-ne32.false)
