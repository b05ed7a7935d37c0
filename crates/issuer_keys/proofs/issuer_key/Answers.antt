-- `issuer_keys::issuer_key` meets its contract: each refusal in its turn, then the key of the label asked for.
use Prim.Native.Nat.{ℕ}
use mathlib.Core.List.{List}
use mathlib.Core.Path.{sym, ap, ◌∙◌}
use native.Mathlib.Omega.{arith}
use lib.Seq.{take_all}
use Rattle.policy_file.specs.File.{name_of}
use Rattle.issuer_answers.specs.Keys.{refused_key}
use Rattle.issuer_answers.specs.declared.IssuerKey.{IssuerKey}
use Rattle.issuer_answers.proofs.Answers.{key_policy, key_asked, key_13, key_15, key_given}
use Rattle.issuer_keys.proofs.Tables.{plan_number, plan_within, plan_accepted, asked_told, told_within, told_hung, key_made}
use Rattle.issuer_keys.proofs.issuer_key.Goals as goal

abbrev given : List ℕ → IssuerKey
given k = record { refusal = 0; key = k }

pub returns-then-plan-ne0 : goal.returns-then-plan-ne0
returns-then-plan-ne0 c =
    let p = c in
    let a = p.args in
    let number = plan_number a.policy.now p.plan_policy-plan.ensures in
    c.refuse_key.ensures ∙ ap refused_key number ∙ sym (key_policy a.policy.now a.name.now a.root.now (omega arith))

pub returns-in_default : goal.returns-in_default
returns-in_default c =
    let a = c.args in
    let same = c.plan_policy-plan.ensures in
    let ok = plan_accepted a.policy.now same c.if-plan-ne0.false in
    let asked = asked_told a.policy.now same a.name.now c.asked_label.ensures c.in_default.is in
    c.refuse_key-in_default.ensures
    ∙ sym (key_asked a.policy.now a.name.now a.root.now ok asked ∙ key_13 a.policy.now a.name.now a.root.now)

pub returns-in_default-try_from : goal.returns-in_default-try_from
returns-in_default-try_from c =
    let a = c.args in
    let same = c.plan_policy-plan.ensures in
    let ok = plan_accepted a.policy.now same c.if-plan-ne0.false in
    let asked = asked_told a.policy.now same a.name.now c.asked_label.ensures c.in-Some.is in
    let other = c.in_default-try_from.ensures.1 in
    c.refuse_key-in_default-try_from.ensures
    ∙ sym (key_asked a.policy.now a.name.now a.root.now ok asked ∙ key_15 a.policy.now a.name.now a.root.now _ other)

pub returns : goal.returns
unfolding name_of
returns c =
    let a = c.args in
    let same = c.plan_policy-plan.ensures in
    let ok = plan_accepted a.policy.now same c.if-plan-ne0.false in
    let asked = asked_told a.policy.now same a.name.now c.asked_label.ensures c.in-Some.is in
    let l = c.in-Some.l in
    let chunk = c.in-Ok.ensures.1 in
    let start = chunk.same ∙ sym (take_all 32 a.root.now (omega (arith, chunk.long))) in
    let key = key_made a.policy.now same a.root.now chunk.long start l c.secret_of-secret.ensures c.read_name.ensures c.label_key.ensures in
    ap (λ (k : List ℕ). given k) key
    ∙ sym (key_asked a.policy.now a.name.now a.root.now ok asked ∙ key_given a.policy.now a.name.now a.root.now l chunk.long)

pub asked_label-requires : goal.asked_label-requires
asked_label-requires c = let p = c in plan_within p.args.policy.now p.plan_policy-plan.ensures

pub secret_of-secret-requires : goal.secret_of-secret-requires
secret_of-secret-requires c =
    let l = c in
    let f = l in
    let p = f in
    let a = p.args in
    told_hung a.policy.now p.plan_policy-plan.ensures a.name.now f.asked_label.ensures f.if-plan-ne0.false l.in-Some.is

pub overflow_mul-l : goal.overflow_mul-l
overflow_mul-l c =
    let l = c in
    let f = l in
    let p = f in
    let a = p.args in
    let within = told_within a.policy.now p.plan_policy-plan.ensures a.name.now f.asked_label.ensures l.in-Some.is in
    omega arith

pub overflow_add-l : goal.overflow_add-l
overflow_add-l c =
    let l = c in
    let f = l in
    let p = f in
    let a = p.args in
    let within = told_within a.policy.now p.plan_policy-plan.ensures a.name.now f.asked_label.ensures l.in-Some.is in
    omega arith

pub read_name-requires : goal.read_name-requires
read_name-requires c =
    let l = c in
    let f = l in
    let p = f in
    let a = p.args in
    let within = told_within a.policy.now p.plan_policy-plan.ensures a.name.now f.asked_label.ensures l.in-Some.is in
    omega arith
