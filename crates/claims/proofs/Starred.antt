-- 01's starred sentences: every row of the table holds. Plans, trees and refusals are worked out; envelopes follow from demand 2, so that the
-- root secret is any and F stays shut.
use Rattle.std.specs.Prelude.{Some}
use Prim.Native.Nat.{ℕ, ◌+◌, ◌≤◌, ◌<◌}
use mathlib.Core.Bool.{Bool, true, false, cond, false≢true}
use mathlib.Core.List.{List}
use mathlib.Core.Logic.{inl, inr}
use mathlib.Core.Path.{◌≡◌, refl, sym, ap, ap₂, ◌∙◌, subst}
use native.Mathlib.Omega.{arith}
use lib.ListN.{length, take, drop}
use lib.Seq.{take_at}
use Rattle.buffers.specs.Handed.{refused_written}
use Rattle.envelope_file.specs.Derive.{refused_derived, derived_of}
use Rattle.envelope_file.specs.declared.Derived.{Derived}
use Rattle.envelopes.specs.Envelope.{steps_from, steps_to}
use Rattle.format.specs.Bytes.{same_bytes}
use Rattle.format.specs.Names.{class_of, padding, formed, some_no_space, well_formed}
use Rattle.format.specs.Search.{first_from}
use Rattle.issuer_answers.proofs.Answers.{issue_refuses, issue_14}
use Rattle.issuer_answers.proofs.By.{envelope_at}
use Rattle.issuer_answers.specs.Issue.{asked_envelope, issued_of, envelope_after}
use Rattle.issuer_answers.specs.declared.IssuerKey.{IssuerKey}
use Rattle.issuer_answers.specs.Keys.{parent_of, label_asked, issuer_key_of}
use Rattle.issuer_answers.specs.Rows.{LabelOf}
use Rattle.buffers.specs.declared.Written.{Written as Answer}
use Rattle.lists.specs.Tables.{some_below, every_below, listed}
use Rattle.order.specs.Table.{joined, linked, row_up_to, label_row, rows_below, order_table}
use Rattle.plan_answers.proofs.PolicyOrder.{policy_order}
use Rattle.plan_answers.specs.Planned.{planned, plan_of, at_or_below}
use Rattle.plan_answers.specs.TreeFile.{parent_in, hangs_at, tree_refusal}
use Rattle.plan_answers.specs.Weighing.{tree_weighed, weigh_refusal, weigh_of}
use Rattle.policy_file.specs.File.{name_of, count_of, pair_at, is_named, label_named}
use Rattle.policy_file.specs.Record.{label_kind, over_kind, marked_kind, policy_kind}
use Rattle.policy_file.specs.Whole.{is_lower_of, is_lower, is_placed, at_end, scan_from, policy_of, label_count, AcceptedPolicy, pairs_of, order_of}
use Rattle.trees.proofs.Order.{test_yes, test_says}
use Rattle.trees.specs.Sums.{sum, sum_where, select}
use Rattle.trees.specs.Weights.{weighed, weight, in_smallest, smallest, label_keys, total, takes, best, plan, least}
use Rattle.weights.specs.Tables.{held_weight, weight_table, set_size, size_table}
use Rattle.claims.specs.Starred.{CONV32, E, Issues, AllHold, starred_rows}
use Rattle.claims.specs.Demand2.{OfAccount}
use Rattle.claims.proofs.Demand2.{of_secrets, of_account}

-- ---- what is worked out of policy E: its labels, and CONV32 with its accounts

record WorkedE : Type 0 where
  accepted : AcceptedPolicy E
  four : label_count E ≡ 4
  asked : label_asked E (label_count E) CONV32 ≡ Some 2
  conv32 : name_of E 2 ≡ CONV32
  accounts : count_of E 2 ≡ 5

worked_e : WorkedE
unfolding same_bytes class_of padding formed some_no_space well_formed first_from some_below every_below name_of count_of is_named label_named pair_at label_kind over_kind marked_kind policy_kind is_lower_of is_lower is_placed at_end scan_from policy_of label_asked
worked_e = record {
  accepted = refl;
  four = refl;
  asked = refl;
  conv32 = refl;
  accounts = refl;
}

-- ---- CONV32 is label 2, and has 5 accounts

conv32 : LabelOf E CONV32 2
conv32 = record { accepted = worked_e.accepted; label = omega (arith, worked_e.four); named = worked_e.conv32 }

module _ (root out : List ℕ) where
  abbrev Refused : ℕ → Type 0
  Refused account = (issued_of E CONV32 account root (length out) ≡ refused_written 14) × (envelope_after E CONV32 account root out ≡ out)

  no_account_6 : Refused 6
  no_account_6 =
      let r = issue_refuses E CONV32 6 root (issue_14 E CONV32 6 root 2 conv32 (inr (omega (arith, worked_e.accounts)))) in
      (r.0 (length out), r.1 out)

  no_account_0 : Refused 0
  no_account_0 = let r = issue_refuses E CONV32 0 root (issue_14 E CONV32 0 root 2 conv32 (inl refl)) in (r.0 (length out), r.1 out)

-- ---- the envelope of CONV32's account 5, for any root secret

-- what the desk answers for the name of label m
abbrev answer : (root : List ℕ) (m : ℕ) → Derived
answer root m =
    cond (at_or_below E m 2)
    (record { refusal = 0; key = (issuer_key_of E (name_of E m) root).key; applications = steps_to (at_or_below E) (parent_of E) 2 m + 1 })
    (refused_derived 20)

module _ (root : List ℕ) (whole : length root ≡ 32) where
  abbrev envelope : List ℕ
  envelope = asked_envelope E CONV32 5 root

  account : OfAccount E root 2 5 envelope
  account =
      rw (envelope_at E CONV32 5 root worked_e.asked)
      (of_account E worked_e.accepted root whole 2 5 (omega (arith, worked_e.four)) (omega arith) (omega (arith, worked_e.accounts)) (omega (arith, worked_e.accounts)))

  -- `issue` leaves it at the front of a buffer that has room
  abbrev Left : (name out : List ℕ) → Type 0
  Left name out = ((issued_of E name 5 root (length out)).refusal ≡ 0) × (take (issued_of E name 5 root (length out)).length (envelope_after E name 5 root out) ≡ envelope)

  left : (out : List ℕ) → length envelope ≤ length out → Left CONV32 out
  left out room =
      let e = account.issued out room in
      let size = ap (λ (a : Answer). a.length) e in
      subst (λ (name : List ℕ). Left name out) worked_e.conv32
      (ap (λ (a : Answer). a.refusal) e, ap₂ take size (account.left out room) ∙ take_at envelope (drop (length envelope) out) (length envelope) refl)

  answered : (m : ℕ) → m < label_count E → derived_of envelope (name_of E m) ≡ answer root m
  answered m hm = go (at_or_below E m 2) refl
    where
      two : 2 < label_count E
      two = omega (arith, worked_e.four)

      go : (b : Bool) → at_or_below E m 2 ≡ b → derived_of envelope (name_of E m) ≡ answer root m
      go true t = rw t (account.envelope.opens m hm (test_says (policy_order E worked_e.accepted) hm two t))
      go false t = rw t (account.envelope.refuses_label m hm (λ r. false≢true (sym t ∙ test_yes (policy_order E worked_e.accepted) hm two r)))

-- what the desk answers for the envelope, it answers for what stands in the buffer
from_buffer : (m : ℕ) → m < label_count E → Issues E CONV32 5 (λ root written. derived_of written (name_of E m) ≡ answer root m)
from_buffer m hm root out whole room =
    let l = left root whole out room in
    (l.0, ap (λ (s : List ℕ). derived_of s (name_of E m)) l.1 ∙ answered root whole m hm)

-- and of a label that the envelope opens `issuer_key` gives the key
opened : (m : ℕ) → m < label_count E
    → Issues E CONV32 5 (λ root written. ((issuer_key_of E (name_of E m) root).refusal ≡ 0) × (derived_of written (name_of E m) ≡ answer root m))
opened m hm root out whole room =
    let f = from_buffer m hm root out whole room in
    (f.0, (ap (λ (k : IssuerKey). k.refusal) ((of_secrets E worked_e.accepted root whole).key m hm), f.1))

-- ---- the theorem

pub starred : AllHold starred_rows
unfolding same_bytes class_of padding formed some_no_space well_formed first_from some_below every_below listed joined linked row_up_to label_row rows_below order_table name_of count_of pair_at is_named label_named label_kind over_kind marked_kind policy_kind is_lower_of is_lower is_placed at_end scan_from policy_of pairs_of order_of sum sum_where select weighed weight in_smallest smallest label_keys total takes best plan least held_weight weight_table set_size size_table planned plan_of tree_weighed parent_in hangs_at tree_refusal weigh_refusal weigh_of steps_from steps_to
starred = (
  refl,
  (
    (refl, refl),
    (
      (refl, refl),
      (
        (refl, refl),
        (
          (refl, refl),
          (
            refl,
            (
              refl,
              (
                refl,
                (
                  no_account_6,
                  (
                    no_account_0,
                    (
                      opened 2 (omega arith),
                      (
                        opened 3 (omega arith),
                        (
                          from_buffer 1 (omega arith),
                          (refl, (refl, (refl, ((refl, refl), tt)))),
                        ),
                      ),
                    ),
                  ),
                ),
              ),
            ),
          ),
        ),
      ),
    ),
  ),
)
