-- Demand 1 for the plan's text and its drawing, shown for every list of bytes and every buffer; once, for any bytes that are made of files.
use mathlib.Core.List.{List}
use mathlib.Core.Path.{ap}
use Prim.Native.Nat.{ℕ}
use lib.ListN.{length}
use Rattle.buffers.proofs.Handed.{unless_refused}
use Rattle.buffers.proofs.Unless.{unless_given, unless_filled, unless_sixteen, unless_zeros, unless_unchanged}
use Rattle.buffers.specs.Handed.{written_unless, buffer_unless}
use Rattle.buffers.specs.declared.Written.{Written}
use Rattle.plan_texts.specs.DrawingAnswer.{drawing_written, drawing_after}
use Rattle.plan_texts.specs.Drawing.{dot_text}
use Rattle.policy_file.specs.Whole.{policy_refusal}
use Rattle.plan_texts.specs.TextAnswer.{text_written, text_after}
use Rattle.plan_texts.specs.Listing.{plan_text}
use Rattle.claims.specs.Demand1Texts.{OfWritten, Demand1OfTexts}

pub of_written : (refusal : ℕ) (bytes out : List ℕ) → OfWritten refusal bytes (written_unless refusal bytes (length out)) out (buffer_unless refusal bytes out)
of_written refusal bytes out = record {
  files_first = λ h. ap (λ (w : Written). w.refusal) (unless_refused bytes (length out) h);
  short = λ ok. unless_sixteen refusal ok bytes (length out);
  given = λ ok. unless_given refusal ok bytes (length out);
  left = λ ok. unless_filled refusal ok bytes out;
  zeros = unless_zeros refusal bytes (length out);
  unchanged = unless_unchanged refusal bytes out;
}

pub demand1_of_texts : (policy out : List ℕ) → Demand1OfTexts policy out
unfolding text_written text_after drawing_written drawing_after
demand1_of_texts policy out = record {
  text = of_written (policy_refusal policy) (plan_text policy) out;
  drawing = of_written (policy_refusal policy) (dot_text policy) out;
}
