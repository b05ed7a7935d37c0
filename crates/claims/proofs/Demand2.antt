-- Demand 2, shown for every list of bytes that is an accepted policy.
use Prim.Native.Nat.{ℕ, ◌+◌, ◌≤◌, ◌<◌}
use mathlib.Core.List.{List, ◌++◌}
use mathlib.Core.Path.{◌≡◌, refl, sym, ap, ◌∙◌, subst}
use native.Mathlib.Omega.{arith}
use lib.ListN.{length, get_or, drop}
use Rattle.buffers.proofs.Handed.{left_room}
use Rattle.buffers.specs.Handed.{handed_into}
use Rattle.envelope_file.proofs.Paths.{applications_path}
use Rattle.envelope_file.specs.Derive.{derived_of}
use Rattle.envelope_file.specs.declared.Derived.{Derived}
use Rattle.envelope_file.specs.declared.Labels.{Labels as Listed}
use Rattle.envelopes.proofs.Held.{held_secrets_lem, held_names_lem}
use Rattle.envelopes.proofs.Length.{envelope_length, envelope_short, accounts_length, accounts_alike}
use Rattle.envelopes.proofs.Names.{reads_labels, names_label}
use Rattle.envelopes.proofs.Opens.{opens, refuses}
use Rattle.envelopes.proofs.Read.{is_accepted}
use Rattle.envelopes.proofs.Secrets.{tree_falls, secret_top, secret_child}
use Rattle.envelopes.proofs.Written.{account_in_lem}
use Rattle.envelopes.specs.Envelope.{steps_to}
use Rattle.envelopes.specs.Labels.{Labels, Issue}
use Rattle.envelopes.specs.Secrets.{key_of}
use Rattle.hmac.specs.Secrets.{F, child_secret, label_key}
use Rattle.issuer_answers.proofs.Answers.{key_of_label, issue_written, issue_16, buffer_given, buffer_16}
use Rattle.issuer_answers.specs.Issue.{account_envelope}
use Rattle.issuer_answers.specs.Keys.{parent_of, label_key_of, issuer_key_of}
use Rattle.issuer_answers.specs.Rows.{LabelOf, AccountOf}
use Rattle.issuer_answers.specs.declared.IssuerKey.{IssuerKey}
use Rattle.lists.specs.Buffer.{pasted}
use Rattle.plan_answers.proofs.PlanAnswer.{plan_answer_tree, plan_answer_hangs}
use Rattle.plan_answers.proofs.PolicyOrder.{policy_order}
use Rattle.plan_answers.specs.Planned.{at_or_below}
use Rattle.policy_file.proofs.Lawful.{lawful, name_length, count_small}
use Rattle.policy_file.specs.File.{name_of, count_of}
use Rattle.policy_file.specs.Whole.{AcceptedPolicy, label_count}
use Rattle.trees.proofs.Smallest.{smallest_sufficient}
use Rattle.claims.specs.Demand2.{OfSecrets, OfEnvelope, OfAccount, Demand2, secret}
use Rattle.claims.specs.Published.{R}
use Rattle.claims.proofs.Published.{published_of_policy}

-- bytes handed out into a buffer that has room for them
pub into_room : (written out : List ℕ) → length written ≤ length out → handed_into written out ≡ written ++ drop (length written) out
unfolding pasted
into_room written out room =
    let start : 0 + length written ≡ length written = omega arith in
    sym (left_room written out room refl) ∙ ap (λ (k : ℕ). written ++ drop k out) start

module _ (file : List ℕ) (ok : AcceptedPolicy file) where
  -- the policy's labels, hung by the plan's tree
  labels : Labels (label_count file) (R file) (at_or_below file) (name_of file) (parent_of file)
  labels = record {
    order = policy_order file ok;
    tree = plan_answer_tree file ok;
    few = (lawful file ok).few_labels;
    eight = name_length file ok;
    formed = (lawful file ok).formed;
    distinct = (lawful file ok).distinct;
  }

  label_of : {m : ℕ} → m < label_count file → LabelOf file (name_of file m) m
  label_of hm = record { accepted = ok; label = hm; named = refl }

  module _ (root : List ℕ) (whole : length root ≡ 32) where
    key_answer : (m : ℕ) → m < label_count file → issuer_key_of file (name_of file m) root ≡ record { refusal = 0; key = label_key_of file root m }
    key_answer m hm = key_of_label file (name_of file m) root (label_of hm) whole

    pub of_secrets : OfSecrets file root
    unfolding F child_secret label_key label_key_of key_of
    of_secrets = record {
      tree = plan_answer_tree file ok;
      hangs = plan_answer_hangs file ok;
      of_top = secret_top (name_of file) (parent_of file) root;
      of_child = λ m hm ne. secret_child (name_of file) (parent_of file) root m ne (tree_falls (policy_order file ok) (plan_answer_tree file ok) m hm);
      eight = name_length file ok;
      key = key_answer;
    }

    -- an envelope for any account number of two bytes
    module _ (l account : ℕ) (hl : l < label_count file) (some : 0 < account) (fits : account < 65536) where
      for : Issue (label_count file) l account root
      for = record { label = hl; some = some; fits = fits; secret = whole }

      opened : (m : ℕ) → m < label_count file → R file m l → derived_of (account_envelope file root l account) (name_of file m) ≡ record {
        refusal = 0;
        key = (issuer_key_of file (name_of file m) root).key;
        applications = steps_to (at_or_below file) (parent_of file) l m + 1;
      }
      unfolding account_envelope label_key_of
      opened m hm r = opens labels for m hm r ∙ ap (λ (k : IssuerKey). derived k.key m) (sym (key_answer m hm))
        where
          derived : List ℕ → ℕ → Derived
          derived key m = record { refusal = 0; key = key; applications = steps_to (at_or_below file) (parent_of file) l m + 1 }

      pub of_envelope : OfEnvelope file root l account (account_envelope file root l account)
      unfolding account_envelope
      of_envelope = record {
        read = is_accepted labels for;
        opens = opened;
        path = λ m hm r. applications_path (account_envelope file root l account) (name_of file m) (ap (λ (d : Derived). d.refusal) (opened m hm r));
        refuses_label = λ m hm other. refuses labels for (name_of file m)
            (λ k hk r e. other (subst (λ (j : ℕ). R file j l) (sym ((lawful file ok).distinct m k hm hk e)) r));
        refuses = refuses labels for;
        labels = ap (λ (a : Listed). a.labels) (reads_labels labels for);
        label_names = names_label labels for;
        secrets = held_secrets_lem labels for;
        names = held_names_lem labels for;
        sufficient = smallest_sufficient (policy_order file ok) (plan_answer_tree file ok) hl;
        measured = envelope_length labels for;
        few = envelope_short labels for;
        numbered = account_in_lem labels for;
        alike = λ other. record {
          as_long = accounts_length (name_of file) (at_or_below file) (parent_of file) root l (label_count file) account other;
          bytes = accounts_alike (name_of file) (at_or_below file) (parent_of file) root l (label_count file) account other;
        };
      }

    -- an existing account of the label
    module _ (l account : ℕ) (hl : l < label_count file) (some : 0 < account) (within : account ≤ count_of file l) (small : count_of file l < 65536) where
      abbrev written : List ℕ
      written = account_envelope file root l account

      asked : AccountOf file (name_of file l) l account
      asked = record { label = label_of hl; some = some; within = within }

      pub of_account : OfAccount file root l account written
      of_account = record {
        issued = λ out room. issue_written file (name_of file l) account root l asked whole (length out) room;
        left = λ out room. buffer_given file (name_of file l) account root l asked whole out ∙ into_room written out room;
        refused = λ out short. issue_16 file (name_of file l) account root l asked whole (length out) short;
        kept = λ out short. buffer_16 file (name_of file l) account root l asked whole out short;
        envelope = of_envelope l account hl some (omega arith);
      }

pub demand2 : (file : List ℕ) → AcceptedPolicy file → ((i : ℕ) → get_or file i 0 < 256) → Demand2 file
demand2 file ok bytes = record {
  published = published_of_policy file ok;
  secrets = of_secrets file ok;
  accounts = λ root whole l account hl some within. of_account file ok root whole l account hl some within (count_small file bytes l);
}
