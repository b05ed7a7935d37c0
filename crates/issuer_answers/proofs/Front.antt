-- Keys and envelopes follow from the policy's first 2,828 bytes, and from the first 33 bytes of the root secret: a longer one is refused.
use Rattle.std.specs.Prelude.{None, Option, Some}
use Prim.Native.Nat.{ℕ, zero, suc, ◌≤◌, ◌<◌}
use mathlib.Core.Bool.{Bool, cond}
use mathlib.Core.List.{List, ◌++◌}
use mathlib.Core.Logic.{◌≢◌, ◌⊎◌, inl, inr}
use mathlib.Core.Path.{◌≡◌, refl, sym, ap, ap₂, ◌∙◌}
use native.Mathlib.Decide.{dec_lt, ℕ_discrete}
use native.Mathlib.Omega.{arith}
use lib.Dec.{eqb}
use lib.ListN.{length, take, length-append}
use Rattle.buffers.specs.Handed.{written_unless, buffer_unless}
use Rattle.envelopes.specs.Envelope.{record_of, records_below, envelope_of}
use Rattle.envelopes.specs.Secrets.{secret_from, secret_of, key_of}
use Rattle.format.proofs.Bytes.{fronted}
use Rattle.plan_answers.proofs.Front.{test_same, agree_plan}
use Rattle.plan_answers.proofs.WorkedTables.{table_rowed}
use Rattle.plan_answers.specs.Planned.{at_or_below, planned, plan_of}
use Rattle.plan_answers.specs.declared.Plan.{Plan}
use Rattle.policy_file.proofs.Front.{Agree, agree_named, front_agrees}
use Rattle.policy_file.proofs.Verdict.{bounds}
use Rattle.policy_file.specs.File.{name_of, count_of}
use Rattle.policy_file.specs.Whole.{policy_refusal, label_count, AcceptedPolicy}
use Rattle.policy_file.specs.declared.Policy.{Policy}
use Rattle.weights.specs.Tables.{entries, parent_table}
use Rattle.issuer_answers.specs.Issue.{account_envelope, account_refusal, asked_refusal, refusal_by, asked_envelope, issued_by, left_by, issued_of, envelope_after}
use Rattle.issuer_answers.specs.Keys.{parent_of, label_key_of, label_asked, refused_key, key_at, issuer_key_of}
use Rattle.issuer_answers.specs.Rows.{NoLabel, LabelOf}
use Rattle.issuer_answers.proofs.Answers.{key_policy, key_asked, key_13, key_15, Refused, issue_policy, issue_13, issue_14, issue_15}
use Rattle.issuer_answers.proofs.Asked.{asked_below, asked_label, asked_none, asked_either}

-- ---- the policy

-- of the names only those of the first 65 numbers matter, where every parent is one of them
module _ (name name' : ℕ → List ℕ) (same : (m : ℕ) → m ≤ 64 → name m ≡ name' m) (parent : ℕ → ℕ) (low : (m : ℕ) → parent m ≤ 64) (root : List ℕ) where
  secret_same : (steps m : ℕ) → m ≤ 64 → secret_from name parent root steps m ≡ secret_from name' parent root steps m
  unfolding secret_from
  secret_same zero m h = refl
  secret_same (suc steps) m h = rw (secret_same steps (parent m) (low m), same m h)

  key_same : (m : ℕ) → m ≤ 64 → key_of name parent root m ≡ key_of name' parent root m
  unfolding key_of secret_of
  key_same m h = rw (secret_same m m h, same m h)

  module _ (le : ℕ → ℕ → Bool) (l : ℕ) where
    record_same : (m : ℕ) → m ≤ 64 → record_of name le parent root l m ≡ record_of name' le parent root l m
    unfolding record_of secret_of
    record_same m h = rw (secret_same m m h, same m h)

    records_same : (n : ℕ) → n ≤ 64 → records_below name le parent root l n ≡ records_below name' le parent root l n
    unfolding records_below
    records_same zero h = refl
    records_same (suc n) h = rw (records_same n (omega arith), record_same n (omega arith))

    envelope_same : (n account : ℕ) → l ≤ 64 → n ≤ 64 → envelope_of name le parent root l n account ≡ envelope_of name' le parent root l n account
    unfolding envelope_of
    envelope_same n account hl hn = rw (records_same n hn, same l hl)

module _ (a b : List ℕ) (agree : Agree a b) where
  parents_same : parent_of a ≡ parent_of b
  parents_same = ap (λ (p : Plan). entries p.parents) (agree_plan a b agree)

  parents_low : (m : ℕ) → parent_of b m ≤ 64
  unfolding plan_of planned parent_table
  parents_low m = omega (arith, table_rowed (label_count b) (count_of b) (at_or_below b) (suc m) (bounds b).0 m (omega arith))

  asked_same : (name : List ℕ) → label_asked a (label_count a) name ≡ label_asked b (label_count b) name
  unfolding label_asked
  asked_same name =
      ap (λ (s : Policy). label_asked a s.labels name) agree.verdict
      ∙ ap (λ (f : Option ℕ). cond (eqb (length name) 8) f None) (agree_named a b agree (label_count b) name (bounds b).0)

  -- what is answered of a label found
  module _ (root : List ℕ) (l : ℕ) (label : l < label_count b) where
    few : l ≤ 64
    few = omega (arith, (bounds b).0)

    label_key_same : label_key_of a root l ≡ label_key_of b root l
    unfolding label_key_of
    label_key_same =
        ap (λ (parent : ℕ → ℕ). key_of (name_of a) parent root l) parents_same
        ∙ key_same (name_of a) (name_of b) agree.names (parent_of b) parents_low root l few

    account_same : (account : ℕ) → account_refusal a root account l ≡ account_refusal b root account l
    unfolding account_refusal
    account_same account = rw (agree.counts l few)

    envelope_for_same : (account : ℕ) → account_envelope a root l account ≡ account_envelope b root l account
    unfolding account_envelope
    envelope_for_same account =
        ap₂ (λ (s : Policy) (le : ℕ → ℕ → Bool). envelope_of (name_of a) le (parent_of a) root l s.labels account) agree.verdict (test_same a b agree)
        ∙ ap (λ (parent : ℕ → ℕ). envelope_of (name_of a) (at_or_below b) parent root l (label_count b) account) parents_same
        ∙ envelope_same (name_of a) (name_of b) agree.names (parent_of b) parents_low root (at_or_below b) l (label_count b) account few (bounds b).0

  -- what is answered to a name
  module _ (name root : List ℕ) where
    key_at_same : (f : Option ℕ) → label_asked b (label_count b) name ≡ f → key_at a root f ≡ key_at b root f
    unfolding key_at
    key_at_same (Some l) e = rw (label_key_same root l (asked_below b name (label_count b) l e))
    key_at_same None e = refl

    pub agree_key : issuer_key_of a name root ≡ issuer_key_of b name root
    unfolding issuer_key_of
    agree_key =
        ap₂ (λ (s : Policy) (f : Option ℕ). cond (eqb s.refusal 0) (key_at a root f) (refused_key s.refusal)) agree.verdict (asked_same name)
        ∙ rw (key_at_same (label_asked b (label_count b) name) refl)

    module _ (account : ℕ) where
      asked_number_same : (f : Option ℕ) → label_asked b (label_count b) name ≡ f → asked_refusal (account_refusal a root account) f ≡ asked_refusal (account_refusal b root account) f
      unfolding asked_refusal
      asked_number_same (Some l) e = account_same root l (asked_below b name (label_count b) l e) account
      asked_number_same None e = refl

      number_same : refusal_by a name (account_refusal a root account) ≡ refusal_by b name (account_refusal b root account)
      unfolding refusal_by
      number_same =
          ap₂ (λ (s : Policy) (f : Option ℕ). cond (eqb s.refusal 0) (asked_refusal (account_refusal a root account) f) s.refusal) agree.verdict (asked_same name)
          ∙ rw (asked_number_same (label_asked b (label_count b) name) refl)

      envelope_found_same : (f : Option ℕ) → label_asked b (label_count b) name ≡ f
          → asked_envelope a name account root ≡ asked_envelope b name account root
      unfolding asked_envelope
      envelope_found_same (Some l) e =
          rw (asked_same name, e, asked_envelope) (envelope_for_same root l (asked_below b name (label_count b) l e) account)
      envelope_found_same None e = rw (asked_same name, e, asked_envelope)

      envelope_asked_same : asked_envelope a name account root ≡ asked_envelope b name account root
      envelope_asked_same = envelope_found_same (label_asked b (label_count b) name) refl

      pub agree_issued : (room : ℕ) → issued_of a name account root room ≡ issued_of b name account root room
      unfolding issued_of issued_by
      agree_issued room = ap₂ (λ (n : ℕ) (s : List ℕ). written_unless n s room) number_same envelope_asked_same

      pub agree_buffer : (out : List ℕ) → envelope_after a name account root out ≡ envelope_after b name account root out
      unfolding envelope_after left_by
      agree_buffer out = ap₂ (λ (n : ℕ) (s : List ℕ). buffer_unless n s out) number_same envelope_asked_same

-- any front part of at least 2,828 bytes
module _ (n : ℕ) (enough : 2828 ≤ n) (policy name : List ℕ) where
  pub key_front : (root : List ℕ) → issuer_key_of policy name root ≡ issuer_key_of (take n policy) name root
  key_front root = agree_key policy (take n policy) (front_agrees n enough policy) name root

  pub issued_front : (account : ℕ) (root : List ℕ) (room : ℕ) → issued_of policy name account root room ≡ issued_of (take n policy) name account root room
  issued_front account root room = agree_issued policy (take n policy) (front_agrees n enough policy) name root account room

  pub buffer_front : (account : ℕ) (root out : List ℕ) → envelope_after policy name account root out ≡ envelope_after (take n policy) name account root out
  buffer_front account root out = agree_buffer policy (take n policy) (front_agrees n enough policy) name root account out

-- ---- the root secret

-- all root secrets that are not 32 bytes long are refused alike
module _ (policy name : List ℕ) where
  key_refused : (n : ℕ) × ((root : List ℕ) → length root ≢ 32 → issuer_key_of policy name root ≡ refused_key n)
  key_refused = go (ℕ_discrete (policy_refusal policy) 0)
    where
      Key : Type 0
      Key = (n : ℕ) × ((root : List ℕ) → length root ≢ 32 → issuer_key_of policy name root ≡ refused_key n)

      asked_says : AcceptedPolicy policy → ((l : ℕ) × LabelOf policy name l) ⊎ NoLabel policy name → Key
      asked_says ok (inl h) = (15, λ root other. key_asked policy name root ok (asked_label policy name ok h.1) ∙ key_15 policy name root h.0 other)
      asked_says ok (inr none) = (13, λ root other. key_asked policy name root ok (asked_none policy name ok none) ∙ key_13 policy name root)

      go : Dec (policy_refusal policy ≡ 0) → Key
      go (yes ok) = asked_says ok (asked_either policy name ok)
      go (no bad) = (policy_refusal policy, λ root other. key_policy policy name root bad)

  issue_refused : (account : ℕ) → (n : ℕ) × ((root : List ℕ) → length root ≢ 32 → Refused policy name account root n)
  issue_refused account = go (ℕ_discrete (policy_refusal policy) 0)
    where
      Issue : Type 0
      Issue = (n : ℕ) × ((root : List ℕ) → length root ≢ 32 → Refused policy name account root n)

      account_says : (l : ℕ) → LabelOf policy name l → Dec (account ≡ 0) → Dec (count_of policy l < account) → Issue
      account_says l h (yes e) c = (14, λ root other. issue_14 policy name account root l h (inl e))
      account_says l h (no ne) (yes above) = (14, λ root other. issue_14 policy name account root l h (inr above))
      account_says l h (no ne) (no within) =
          (15, λ root other. issue_15 policy name account root l (record { label = h; some = omega arith; within = omega arith }) other)

      asked_says : AcceptedPolicy policy → ((l : ℕ) × LabelOf policy name l) ⊎ NoLabel policy name → Issue
      asked_says ok (inl h) = account_says h.0 h.1 (ℕ_discrete account 0) (dec_lt (count_of policy h.0) account)
      asked_says ok (inr none) = (13, λ root other. issue_13 policy name account root ok none)

      go : Dec (policy_refusal policy ≡ 0) → Issue
      go (yes ok) = asked_says ok (asked_either policy name ok)
      go (no bad) = (policy_refusal policy, λ root other. issue_policy policy name account root (omega arith))

-- a root secret of at least 33 bytes, and one that goes on after it
module _ (policy name front back : List ℕ) (long : 33 ≤ length front) where
  not_whole : length (front ++ back) ≢ 32
  not_whole e = omega (arith, length-append front back)

  key_root_same : issuer_key_of policy name (front ++ back) ≡ issuer_key_of policy name front
  key_root_same = let r = (key_refused policy name).1 in r (front ++ back) not_whole ∙ sym (r front (λ e. omega arith))

  module _ (account : ℕ) where
    issued_root_same : (room : ℕ) → issued_of policy name account (front ++ back) room ≡ issued_of policy name account front room
    unfolding issued_of
    issued_root_same room =
        let r = (issue_refused policy name account).1 in
        (r (front ++ back) not_whole).issues room ∙ sym ((r front (λ e. omega arith)).issues room)

    buffer_root_same : (out : List ℕ) → envelope_after policy name account (front ++ back) out ≡ envelope_after policy name account front out
    unfolding envelope_after
    buffer_root_same out =
        let r = (issue_refused policy name account).1 in
        (r (front ++ back) not_whole).leaves out ∙ sym ((r front (λ e. omega arith)).leaves out)

-- any front part of at least 33 bytes
module _ (n : ℕ) (enough : 33 ≤ n) (policy name root : List ℕ) where
  pub key_root_front : issuer_key_of policy name root ≡ issuer_key_of policy name (take n root)
  key_root_front = fronted 33 (issuer_key_of policy name) (key_root_same policy name) n enough root

  pub issued_root_front : (account room : ℕ) → issued_of policy name account root room ≡ issued_of policy name account (take n root) room
  issued_root_front account room =
      fronted 33 (λ r. issued_of policy name account r room) (λ front back long. issued_root_same policy name front back long account room) n enough root

  pub buffer_root_front : (account : ℕ) (out : List ℕ) → envelope_after policy name account root out ≡ envelope_after policy name account (take n root) out
  buffer_root_front account out =
      fronted 33 (λ r. envelope_after policy name account r out) (λ front back long. buffer_root_same policy name front back long account out) n enough root
