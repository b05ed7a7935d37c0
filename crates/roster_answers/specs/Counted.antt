-- What the operations with a roster answer (02, Ask 4): what the operation without one answers for the policy with the roster's counts, unless one of the
-- two files is refused.
use Rattle.std.specs.Prelude.{ℕ, cond, List, eqb}
use Rattle.buffers.specs.Handed.{refused_written, written_unless, buffer_unless}
use Rattle.buffers.specs.declared.Written.{Written}
use Rattle.growth_answers.specs.Growing.{growth_of, refused_growth}
use Rattle.growth_answers.specs.GrowthTextAnswer.{growth_written, growth_after}
use Rattle.growth_answers.specs.declared.Growth.{Growth}
use Rattle.issuer_answers.specs.Keys.{issuer_key_of, refused_key}
use Rattle.issuer_answers.specs.declared.IssuerKey.{IssuerKey}
use Rattle.plan_answers.specs.Planned.{plan_of, refused_plan}
use Rattle.plan_answers.specs.Weighing.{weigh_of, refused_weighed}
use Rattle.plan_answers.specs.declared.Plan.{Plan}
use Rattle.plan_answers.specs.declared.Weighed.{Weighed}
use Rattle.plan_texts.specs.DrawingAnswer.{drawing_written, drawing_after}
use Rattle.plan_texts.specs.TextAnswer.{text_written, text_after}
use Rattle.seal_answers.specs.Seal.{sealed_of, file_after}
use Rattle.roster_answers.specs.Rostered.{files_refusal, counted_policy}

-- "Where a roster is given its counts replace those in `LB`"
unfoldable pub on_counted : {A : Type 0} → (refused : ℕ → A) → (answer : List ℕ → A) → (policy roster : List ℕ) → A
on_counted refused answer policy roster =
    cond (eqb (files_refusal policy roster) 0) (answer (counted_policy policy roster)) (refused (files_refusal policy roster))

-- a buffer that is lent for bytes made of that policy: with a refusal "lent buffers are unchanged"
abbrev pub left_on_counted : (after : List ℕ → List ℕ → List ℕ) → (policy roster out : List ℕ) → List ℕ
left_on_counted after policy roster out = on_counted (λ number. out) (λ file. after file out) policy roster

-- `count_policy` hands that policy out itself
unfoldable pub counted_written : (policy roster : List ℕ) → (room : ℕ) → Written
counted_written policy roster room = written_unless (files_refusal policy roster) (counted_policy policy roster) room

unfoldable pub counted_after : (policy roster out : List ℕ) → List ℕ
counted_after policy roster out = buffer_unless (files_refusal policy roster) (counted_policy policy roster) out

-- `plan_roster`, `weigh_roster` and `growth_roster`
unfoldable pub roster_plan : (policy roster : List ℕ) → Plan
roster_plan policy roster = on_counted refused_plan plan_of policy roster

unfoldable pub roster_weighed : (policy roster tree : List ℕ) → Weighed
roster_weighed policy roster tree = on_counted refused_weighed (λ file. weigh_of file tree) policy roster

unfoldable pub roster_growth : (policy roster : List ℕ) → Growth
roster_growth policy roster = on_counted refused_growth growth_of policy roster

-- `plan_text_roster`, `plan_dot_roster` and `growth_text_roster`: what is answered, and what is left in the buffer
unfoldable pub roster_text_written : (policy roster : List ℕ) → (room : ℕ) → Written
roster_text_written policy roster room = on_counted refused_written (λ file. text_written file room) policy roster

unfoldable pub roster_text_after : (policy roster out : List ℕ) → List ℕ
roster_text_after policy roster out = left_on_counted text_after policy roster out

unfoldable pub roster_drawing_written : (policy roster : List ℕ) → (room : ℕ) → Written
roster_drawing_written policy roster room = on_counted refused_written (λ file. drawing_written file room) policy roster

unfoldable pub roster_drawing_after : (policy roster out : List ℕ) → List ℕ
roster_drawing_after policy roster out = left_on_counted drawing_after policy roster out

unfoldable pub roster_growth_written : (policy roster : List ℕ) → (room : ℕ) → Written
roster_growth_written policy roster room = on_counted refused_written (λ file. growth_written file room) policy roster

unfoldable pub roster_growth_after : (policy roster out : List ℕ) → List ℕ
roster_growth_after policy roster out = left_on_counted growth_after policy roster out

-- `issuer_key_roster`
unfoldable pub roster_key : (policy roster name root : List ℕ) → IssuerKey
roster_key policy roster name root = on_counted refused_key (λ file. issuer_key_of file name root) policy roster

-- `seal_roster`
unfoldable pub roster_sealed : (policy roster name root nonce text : List ℕ) → (room : ℕ) → Written
roster_sealed policy roster name root nonce text room =
    on_counted refused_written (λ file. sealed_of file name root nonce text room) policy roster

unfoldable pub roster_file_after : (policy roster name root nonce text out : List ℕ) → List ℕ
roster_file_after policy roster name root nonce text out =
    left_on_counted (λ file buffer. file_after file name root nonce text buffer) policy roster out
