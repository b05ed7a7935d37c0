-- What `issuer_key` and `issue` answer, test by test and row by row.
use Rattle.std.specs.Prelude.{None, Option, Some}
use Prim.Native.Nat.{ℕ, ◌≤◌, ◌<◌}
use mathlib.Core.Bool.{Bool, true, false, cond}
use mathlib.Core.List.{List}
use mathlib.Core.Logic.{◌≢◌, ◌⊎◌, inl, inr}
use mathlib.Core.Path.{◌≡◌, refl, sym, ap, subst, ◌∙◌}
use native.Mathlib.Omega.{arith}
use borrow.Author.Tests.{eq-eqb, ne_eqb, eqb-true, eqb-false, lt-ltb, le-ltb, ltb-true, ltb-false}
use lib.Dec.{eqb, ltb}
use lib.ListN.{length}
use Rattle.buffers.specs.Handed.{wrote, refused_written, handed_into}
use Rattle.buffers.specs.declared.Written.{Written}
use Rattle.policy_file.specs.File.{count_of}
use Rattle.policy_file.specs.Whole.{policy_refusal, label_count, AcceptedPolicy}
use Rattle.issuer_answers.specs.Keys.{label_key_of, label_asked, refused_key, key_at, issuer_key_of}
use Rattle.issuer_answers.specs.Issue.{account_envelope, account_refusal, issued_of, envelope_after}
use Rattle.issuer_answers.specs.Rows.{NoLabel, LabelOf, NoAccount, AccountOf, KeyAnswered, given, IssueAnswered, policys, row_13, row_14, row_15, row_16, written}
use Rattle.issuer_answers.specs.declared.IssuerKey.{IssuerKey}
use Rattle.issuer_answers.proofs.Asked.{asked_label, asked_none, asked_either}
use Rattle.issuer_answers.proofs.By.{Refuses, by_policy, by_13, by_number, by_left, by_16, by_kept, by_written}

-- a number is 0 or not
none_or_some : (n : ℕ) → (n ≡ 0) ⊎ (0 < n)
none_or_some n = go (eqb n 0) refl
  where
    go : (b : Bool) → eqb n 0 ≡ b → (n ≡ 0) ⊎ (0 < n)
    go true e = inl (eqb-true n 0 e)
    go false e = let ne = eqb-false n 0 e in inr (omega arith)

-- ---- `issuer_key`

module _ (policy name root : List ℕ) where
  -- "A refusal of the policy comes before any other"
  pub key_policy : policy_refusal policy ≢ 0 → issuer_key_of policy name root ≡ refused_key (policy_refusal policy)
  unfolding issuer_key_of
  key_policy ne = rw (ne_eqb (policy_refusal policy) 0 ne)

  pub key_asked : AcceptedPolicy policy → {f : Option ℕ} → label_asked policy (label_count policy) name ≡ f → issuer_key_of policy name root ≡ key_at policy root f
  unfolding issuer_key_of
  key_asked ok e = rw (eq-eqb (policy_refusal policy) 0 ok, e)

  pub key_13 : key_at policy root None ≡ refused_key 13
  unfolding key_at
  key_13 = refl

  pub key_15 : (l : ℕ) → length root ≢ 32 → key_at policy root (Some l) ≡ refused_key 15
  unfolding key_at
  key_15 l ne = rw (ne_eqb (length root) 32 ne)

  pub key_given : (l : ℕ) → length root ≡ 32 → key_at policy root (Some l) ≡ record { refusal = 0; key = label_key_of policy root l }
  unfolding key_at
  key_given l e = rw (eq-eqb (length root) 32 e)

  -- the key of a label of an accepted policy
  pub key_of_label : {l : ℕ} → LabelOf policy name l → length root ≡ 32 → issuer_key_of policy name root ≡ record { refusal = 0; key = label_key_of policy root l }
  key_of_label {l} h e = key_asked h.accepted (asked_label policy name h.accepted h) ∙ key_given l e

  abbrev number : IssuerKey → ℕ
  number k = k.refusal

  pub key_answered : KeyAnswered policy name root (issuer_key_of policy name root).refusal
  key_answered = go (none_or_some (policy_refusal policy))
    where
      as_number : {n : ℕ} → KeyAnswered policy name root n → (issuer_key_of policy name root).refusal ≡ n → KeyAnswered policy name root (issuer_key_of policy name root).refusal
      as_number a e = subst (KeyAnswered policy name root) (sym e) a

      root_says : {l : ℕ} → LabelOf policy name l → (b : Bool) → eqb (length root) 32 ≡ b → KeyAnswered policy name root (issuer_key_of policy name root).refusal
      root_says {l} h true e = let r = eqb-true (length root) 32 e in as_number (given h r) (ap number (key_of_label h r))
      root_says {l} h false e =
          let r = eqb-false (length root) 32 e in
          as_number (row_15 h r) (ap number (key_asked h.accepted (asked_label policy name h.accepted h) ∙ key_15 l r))

      asked_says : AcceptedPolicy policy → ((l : ℕ) × LabelOf policy name l) ⊎ NoLabel policy name → KeyAnswered policy name root (issuer_key_of policy name root).refusal
      asked_says ok (inl h) = root_says h.1 (eqb (length root) 32) refl
      asked_says ok (inr none) = as_number (row_13 ok none) (ap number (key_asked ok (asked_none policy name ok none) ∙ key_13))

      go : (policy_refusal policy ≡ 0) ⊎ (0 < policy_refusal policy) → KeyAnswered policy name root (issuer_key_of policy name root).refusal
      go (inl ok) = asked_says ok (asked_either policy name ok)
      go (inr bad) = as_number (policys bad) (ap number (key_policy (λ e. omega arith)))

-- ---- `issue`

-- 14 and 15, for an account at label l
module _ (policy root : List ℕ) (account l : ℕ) where
  pub account_none : NoAccount policy l account → account_refusal policy root account l ≡ 14
  unfolding account_refusal
  account_none (inl e) = rw (eq-eqb account 0 e)
  account_none (inr h) = rw (ne_eqb account 0 (λ e. omega arith), lt-ltb (count_of policy l) account h)

  pub account_15 : 0 < account → account ≤ count_of policy l → length root ≢ 32 → account_refusal policy root account l ≡ 15
  unfolding account_refusal
  account_15 some within ne = rw (ne_eqb account 0 (λ e. omega arith), le-ltb (count_of policy l) account within, ne_eqb (length root) 32 ne)

  pub account_given : 0 < account → account ≤ count_of policy l → length root ≡ 32 → account_refusal policy root account l ≡ 0
  unfolding account_refusal
  account_given some within e = rw (ne_eqb account 0 (λ z. omega arith), le-ltb (count_of policy l) account within, eq-eqb (length root) 32 e)

  -- neither: the root secret has 32 bytes
  pub account_whole : {n : ℕ} → n ≡ account_refusal policy root account l → n ≡ 0 → length root ≡ 32
  unfolding account_refusal
  account_whole e none = eqb-true (length root) 32 (go (eqb account 0) (ltb (count_of policy l) account) (eqb (length root) 32) (sym e ∙ none))
    where
      go : (a b c : Bool) → ◌≡◌ {A = ℕ} (cond a 14 (cond b 14 (cond c 0 15))) 0 → c ≡ true
      go true b c e = absurd (omega arith)
      go false true c e = absurd (omega arith)
      go false false true e = refl
      go false false false e = absurd (omega arith)

-- the laws of By.antt for the counts of the policy
module _ (policy name : List ℕ) (account : ℕ) (root : List ℕ) where
  abbrev pub Refused : ℕ → Type 0
  Refused = Refuses policy name account root (account_refusal policy root account)

  -- a number before the buffer's: the answer has it and a 0, and the buffer stays as it was
  pub issue_refuses : {n : ℕ} → Refused n
      → ((room : ℕ) → issued_of policy name account root room ≡ refused_written n) × ((out : List ℕ) → envelope_after policy name account root out ≡ out)
  unfolding issued_of envelope_after
  issue_refuses r = (r.issues, r.leaves)

  pub issue_policy : 0 < policy_refusal policy → Refused (policy_refusal policy)
  issue_policy = by_policy policy name account root (account_refusal policy root account)

  pub issue_13 : AcceptedPolicy policy → NoLabel policy name → Refused 13
  issue_13 = by_13 policy name account root (account_refusal policy root account)

  module _ (l : ℕ) where
    pub issue_14 : LabelOf policy name l → NoAccount policy l account → Refused 14
    issue_14 h none = by_number policy name account root (account_refusal policy root account) h (account_none policy root account l none) (omega arith)

    pub issue_15 : AccountOf policy name l account → length root ≢ 32 → Refused 15
    issue_15 h ne =
        by_number policy name account root (account_refusal policy root account) h.label (account_15 policy root account l h.some h.within ne) (omega arith)

    -- an existing account and a root secret of 32 bytes: the envelope is handed out
    module _ (h : AccountOf policy name l account) (e : length root ≡ 32) where
      none : account_refusal policy root account l ≡ 0
      none = account_given policy root account l h.some h.within e

      pub buffer_given : (out : List ℕ) → envelope_after policy name account root out ≡ handed_into (account_envelope policy root l account) out
      unfolding envelope_after
      buffer_given = by_left policy name account root (account_refusal policy root account) h.label none

      pub issue_16 : (room : ℕ) → room < length (account_envelope policy root l account) → issued_of policy name account root room ≡ refused_written 16
      unfolding issued_of
      issue_16 = by_16 policy name account root (account_refusal policy root account) h.label none

      pub buffer_16 : (out : List ℕ) → length out < length (account_envelope policy root l account) → envelope_after policy name account root out ≡ out
      unfolding envelope_after
      buffer_16 = by_kept policy name account root (account_refusal policy root account) h.label none

      pub issue_written : (room : ℕ) → length (account_envelope policy root l account) ≤ room
          → issued_of policy name account root room ≡ wrote (length (account_envelope policy root l account))
      unfolding issued_of
      issue_written = by_written policy name account root (account_refusal policy root account) h.label none

  -- ---- the number answered is that of the row that holds

  pub issue_answered : (room : ℕ) → IssueAnswered policy name account root room (issued_of policy name account root room).refusal
  issue_answered room = go (none_or_some (policy_refusal policy))
    where
      Answer : ℕ → Type 0
      Answer = IssueAnswered policy name account root room

      as_number : {n : ℕ} {w : Written} → Answer n → issued_of policy name account root room ≡ w → w.refusal ≡ n → Answer (issued_of policy name account root room).refusal
      as_number a e f = subst Answer (sym (ap (λ (w : Written). w.refusal) e ∙ f)) a

      room_says : (l : ℕ) → AccountOf policy name l account → length root ≡ 32 → (b : Bool) → ltb room (length (account_envelope policy root l account)) ≡ b
          → Answer (issued_of policy name account root room).refusal
      room_says l h r true e = let short = ltb-true room (length (account_envelope policy root l account)) e in as_number (row_16 h r short) (issue_16 l h r room short) refl
      room_says l h r false e =
          let fits = ltb-false room (length (account_envelope policy root l account)) e in
          as_number (written h r fits) (issue_written l h r room fits) refl

      root_says : (l : ℕ) → AccountOf policy name l account → (b : Bool) → eqb (length root) 32 ≡ b → Answer (issued_of policy name account root room).refusal
      root_says l h true e = let r = eqb-true (length root) 32 e in room_says l h r (ltb room (length (account_envelope policy root l account))) refl
      root_says l h false e = let r = eqb-false (length root) 32 e in as_number (row_15 h r) ((issue_refuses (issue_15 l h r)).0 room) refl

      count_says : (l : ℕ) → LabelOf policy name l → 0 < account → (b : Bool) → ltb (count_of policy l) account ≡ b → Answer (issued_of policy name account root room).refusal
      count_says l h some true e = let none = inr (ltb-true (count_of policy l) account e) in as_number (row_14 h none) ((issue_refuses (issue_14 l h none)).0 room) refl
      count_says l h some false e =
          root_says l (record { label = h; some = some; within = ltb-false (count_of policy l) account e }) (eqb (length root) 32) refl

      account_says : (l : ℕ) → LabelOf policy name l → (account ≡ 0) ⊎ (0 < account) → Answer (issued_of policy name account root room).refusal
      account_says l h (inl e) = as_number (row_14 h (inl e)) ((issue_refuses (issue_14 l h (inl e))).0 room) refl
      account_says l h (inr some) = count_says l h some (ltb (count_of policy l) account) refl

      asked_says : AcceptedPolicy policy → ((l : ℕ) × LabelOf policy name l) ⊎ NoLabel policy name → Answer (issued_of policy name account root room).refusal
      asked_says ok (inl h) = account_says h.0 h.1 (none_or_some account)
      asked_says ok (inr none) = as_number (row_13 ok none) ((issue_refuses (issue_13 ok none)).0 room) refl

      go : (policy_refusal policy ≡ 0) ⊎ (0 < policy_refusal policy) → Answer (issued_of policy name account root room).refusal
      go (inl ok) = asked_says ok (asked_either policy name ok)
      go (inr bad) = as_number (policys bad) ((issue_refuses (issue_policy bad)).0 room) refl
