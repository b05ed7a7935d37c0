-- `poly1305::clamped` meets its contract.
use mathlib.Core.Path.{ap, ◌∙◌}
use Rattle.poly1305_limbs.specs.Limbs.{multiplier_value, words_value}
use Rattle.poly1305.specs.Poly1305.{clamp, multiplier}
use Rattle.poly1305.proofs.Masks.{clamp_words, low_small, high_small, high_four}
use Rattle.poly1305.proofs.clamped.Goals as goal

pub returns : goal.returns
unfolding multiplier_value words_value multiplier
returns c =
    let w = c.words_at-n in
    let n = w.result in (
      record {
        r0_small = low_small n.w0;
        r1_small = high_small n.w1;
        r2_small = high_small n.w2;
        r3_small = high_small n.w3;
        r1_four = high_four n.w1;
        r2_four = high_four n.w2;
        r3_four = high_four n.w3;
      },
      clamp_words n.w0 n.w1 n.w2 n.w3 w.ensures.0.w0_small w.ensures.0.w1_small w.ensures.0.w2_small
          ∙ ap clamp w.ensures.1,
    )
