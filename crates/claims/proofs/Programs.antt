-- The bytes that the programs read of a file decide what they answer, shown for all lists of bytes.
use Prim.Native.Nat.{ℕ}
use mathlib.Core.List.{List}
use mathlib.Core.Path.{sym, ◌∙◌}
use native.Mathlib.Omega.{arith}
use Rattle.envelope_file.proofs.Front.{derived_front, labels_front, records_front}
use Rattle.plan_texts.proofs.DrawingFront.{drawing_front}
use Rattle.faults.proofs.Front.{second_top_front, ill_hung_front}
use Rattle.fingerprint.proofs.Laws.{fingerprint_front}
use Rattle.growth_answers.proofs.Front.{growth_front}
use Rattle.issuer_answers.proofs.Front.{key_front, issued_front, buffer_front, key_root_front, issued_root_front, buffer_root_front}
use Rattle.plan_answers.proofs.Front.{weigh_front, weigh_tree_front}
use Rattle.policy_file.proofs.Front.{front_answers, front_records}
use Rattle.plan_texts.proofs.Printed.{printed_front}
use Rattle.open_answers.proofs.Front.{opened_front, text_front, opened_file_front, text_file_front}
use Rattle.seal_answers.proofs.Front.{sealed_front, file_front, sealed_root_front, file_root_front, sealed_nonce_front, file_nonce_front, sealed_text_front, file_text_front}
use Rattle.claims.specs.Programs.{front, OfPlans, OfIssuer, OfDesk, OfSealing, OfOpening}

pub plans_from_front : (policy : List ℕ) → OfPlans policy
plans_from_front policy = record {
  text = sym (printed_front 4096 (omega arith) policy);
  drawing = sym (drawing_front 4096 (omega arith) policy);
  growth = sym (growth_front 4096 (omega arith) policy);
}

pub issuer_from_front : (policy tree name root : List ℕ) (account : ℕ) (out : List ℕ) (room : ℕ) → OfIssuer policy tree name root account out room
issuer_from_front policy tree name root account out room = record {
  weighed = sym (weigh_front 4096 (omega arith) policy tree ∙ weigh_tree_front 4096 (omega arith) (front policy) tree);
  key = sym (key_front 4096 (omega arith) policy name root ∙ key_root_front 4096 (omega arith) (front policy) name root);
  issued = sym (issued_front 4096 (omega arith) policy name account root room ∙ issued_root_front 4096 (omega arith) (front policy) name root account room);
  written = sym (buffer_front 4096 (omega arith) policy name account root out ∙ buffer_root_front 4096 (omega arith) (front policy) name root account out);
  read = sym (front_answers 4096 (omega arith) policy);
  fingerprint = sym (fingerprint_front 4096 (omega arith) root);
  refused_at = sym (front_records 4096 (omega arith) policy);
  second_top_lem = sym (second_top_front 4096 (omega arith) policy);
  ill_hung_lem = sym (ill_hung_front 4096 (omega arith) policy 4096 (omega arith) tree);
}

pub desk_from_front : (envelope name : List ℕ) → OfDesk envelope name
desk_from_front envelope name = record {
  derived = sym (derived_front 4096 (omega arith) envelope name);
  labels = sym (labels_front 4096 (omega arith) envelope);
  refused_at = sym (records_front 4096 (omega arith) envelope);
}

pub sealing_from_front : (policy name root nonce text out : List ℕ) (room : ℕ) → OfSealing policy name root nonce text out room
sealing_from_front policy name root nonce text out room =
    let p = front policy in
    let r = front root in
    let n = front nonce in
    record {
      sealed =
          sym (sealed_front policy name root nonce text 4096 (omega arith) room ∙ sealed_root_front p name root nonce text 4096 (omega arith) room
          ∙ sealed_nonce_front p name r nonce text 4096 (omega arith) room ∙ sealed_text_front p name r n text 32769 (omega arith) room);
      written =
          sym (file_front policy name root nonce text 4096 (omega arith) out ∙ file_root_front p name root nonce text 4096 (omega arith) out
          ∙ file_nonce_front p name r nonce text 4096 (omega arith) out ∙ file_text_front p name r n text 32769 (omega arith) out);
    }

pub opening_from_front : (envelope file out : List ℕ) (room : ℕ) → OfOpening envelope file out room
opening_from_front envelope file out room =
    let e = front envelope in
    record {
      opened = sym (opened_front envelope file 4096 (omega arith) room ∙ opened_file_front e file 32807 (omega arith) room);
      written = sym (text_front envelope file 4096 (omega arith) out ∙ text_file_front e file 32807 (omega arith) out);
    }
