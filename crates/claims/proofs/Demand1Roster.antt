-- Demand 1 for roster files and for the operations with a roster, shown for all lists of bytes, account numbers and buffers.
use Prim.Native.Nat.{ℕ, ◌<◌}
use mathlib.Core.List.{List}
use mathlib.Core.Logic.{◌≢◌, ◌↔◌}
use mathlib.Core.Path.{◌≡◌, sym, ap, ◌∙◌}
use native.Mathlib.Omega.{arith}
use borrow.Author.Tests.{ne_eqb}
use lib.ListN.{length}
use Rattle.buffers.proofs.Handed.{unless_refused, unless_left}
use Rattle.buffers.specs.Handed.{refused_written}
use Rattle.growth_answers.specs.Growing.{growth_of, refused_growth}
use Rattle.growth_answers.specs.GrowthTextAnswer.{growth_written, growth_after}
use Rattle.issuer_answers.specs.Keys.{issuer_key_of, refused_key}
use Rattle.plan_answers.specs.Planned.{plan_of, refused_plan}
use Rattle.plan_answers.specs.Weighing.{weigh_of, refused_weighed}
use Rattle.plan_texts.specs.DrawingAnswer.{drawing_written, drawing_after}
use Rattle.plan_texts.specs.TextAnswer.{text_written, text_after}
use Rattle.policy_file.specs.Whole.{label_count, AcceptedPolicy}
use Rattle.roster_answers.proofs.Answered.{files_issued, files_left, roster_answered, roster_only, roster_zeros, roster_unchanged}
use Rattle.roster_answers.proofs.Counted.{files_policy, files_roster, on_refused}
use Rattle.roster_answers.specs.Counted.{counted_written, counted_after, roster_plan, roster_weighed, roster_growth, roster_text_written, roster_text_after, roster_drawing_written, roster_drawing_after, roster_growth_written, roster_growth_after, roster_key, roster_sealed, roster_file_after}
use Rattle.roster_answers.specs.RosterText.{roster_text, roster_written, roster_after}
use Rattle.roster_answers.specs.Rostered.{roster_stop, files_refusal, roster_of, counted_policy}
use Rattle.roster_answers.specs.Standings.{roster_read}
use Rattle.roster_file.proofs.Demand1.{one_stop, refusal_2, refusal_3, refusal_24, refusal_25, refusal_13, accepted_iff, accepted_stop, read_or_refused}
use Rattle.roster_file.specs.Machine.{changed, account_of}
use Rattle.roster_file.specs.declared.Stop.{Stop}
use Rattle.seal_answers.specs.Seal.{sealed_of, file_after}
use Rattle.claims.specs.Demand1Roster.{RosterZeros, Demand1OfRoster, Demand1OfRosterIssue}
use Rattle.claims.proofs.Demand1Texts.{of_written}

module _ (policy roster : List ℕ) where
  -- ---- one of the files is refused

  roster_refused : 0 < files_refusal policy roster → RosterZeros policy roster
  unfolding roster_read roster_plan roster_weighed roster_growth roster_key counted_written counted_after roster_written roster_after roster_text_written roster_text_after roster_drawing_written roster_drawing_after roster_growth_written roster_growth_after roster_sealed roster_file_after
  roster_refused bad =
      let ne : files_refusal policy roster ≢ 0 = λ e. omega arith in
      record {
        read = rw (ne_eqb (files_refusal policy roster) 0 ne);
        plan = on_refused policy roster refused_plan plan_of ne;
        weighed = λ tree. on_refused policy roster refused_weighed (λ file. weigh_of file tree) ne;
        growth = on_refused policy roster refused_growth growth_of ne;
        key = λ name root. on_refused policy roster refused_key (λ file. issuer_key_of file name root) ne;
        counted = λ room. unless_refused (counted_policy policy roster) room bad;
        counted_kept = λ out. unless_left (counted_policy policy roster) out bad;
        text = λ room. unless_refused (roster_text policy roster) room bad;
        text_kept = λ out. unless_left (roster_text policy roster) out bad;
        plan_text_lem = λ room. on_refused policy roster refused_written (λ file. text_written file room) ne;
        plan_text_kept = λ out. on_refused policy roster (λ n. out) (λ file. text_after file out) ne;
        drawing = λ room. on_refused policy roster refused_written (λ file. drawing_written file room) ne;
        drawing_kept = λ out. on_refused policy roster (λ n. out) (λ file. drawing_after file out) ne;
        growth_text_lem = λ room. on_refused policy roster refused_written (λ file. growth_written file room) ne;
        growth_text_kept = λ out. on_refused policy roster (λ n. out) (λ file. growth_after file out) ne;
        issued = λ name account root. files_issued policy roster name account root bad;
        issued_kept = λ name account root. files_left policy roster name account root bad;
        sealed = λ name root nonce text room. on_refused policy roster refused_written (λ file. sealed_of file name root nonce text room) ne;
        sealed_kept = λ name root nonce text out. on_refused policy roster (λ n. out) (λ file. file_after file name root nonce text out) ne;
      }

  -- ---- each number exactly when its row is reached

  exactly : AcceptedPolicy policy → (n : ℕ) {Row : Type 0} → ((roster_stop policy roster).refusal ≡ n) ↔ Row → (files_refusal policy roster ≡ n) ↔ Row
  exactly ok n row = (λ e. row.0 (sym (files_roster policy roster ok) ∙ e), λ r. files_roster policy roster ok ∙ row.1 r)

  pub demand1_of_roster : Demand1OfRoster policy roster
  unfolding roster_of counted_written counted_after roster_written roster_after
  demand1_of_roster = record {
    policy_first = λ bad. files_policy policy roster (λ e. omega arith);
    answered = λ ok. rw (files_roster policy roster ok) (read_or_refused policy (label_count policy) roster);
    no_mark = λ ok. exactly ok 2 (refusal_2 policy (label_count policy) roster);
    cut_short = λ ok. exactly ok 3 (refusal_3 policy (label_count policy) roster);
    not_new = λ ok. exactly ok 24 (refusal_24 policy (label_count policy) roster);
    not_there = λ ok. exactly ok 25 (refusal_25 policy (label_count policy) roster);
    not_named = λ ok. exactly ok 13 (refusal_13 policy (label_count policy) roster);
    accepted = λ ok. exactly ok 0 (accepted_iff policy (label_count policy) roster);
    leads = λ ok after p.
        let e = accepted_stop policy (label_count policy) roster p in
        (files_roster policy roster ok ∙ ap (λ (s : Stop). s.refusal) e, ap (λ (s : Stop). s.roster) e);
    machine = one_stop policy (label_count policy) roster;
    left = λ before entry n e. ap (changed before (account_of entry)) e;
    zeros = roster_refused;
    text = of_written (files_refusal policy roster) (roster_text policy roster);
    counted = of_written (files_refusal policy roster) (counted_policy policy roster);
  }

pub demand1_of_roster_issue : (policy roster name : List ℕ) (account : ℕ) (root out : List ℕ) → Demand1OfRosterIssue policy roster name account root out
demand1_of_roster_issue policy roster name account root out = record {
  answered = roster_answered policy roster name account root (length out);
  only = λ n row. roster_only policy roster name account root (length out) row;
  zeros = roster_zeros policy roster name account root (length out);
  unchanged = roster_unchanged policy roster name account root out;
}
