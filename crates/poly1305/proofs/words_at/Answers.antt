-- `poly1305::words_at` meets its contract.
use mathlib.Core.Path.{◌∙◌}
use native.Mathlib.Omega.{arith}
use Rattle.poly1305_limbs.specs.Limbs.{words_value}
use Rattle.poly1305.proofs.Numbers.{four_words}
use Rattle.poly1305.proofs.words_at.Goals as goal

pub returns : goal.returns
unfolding words_value
returns c = (
  record { w0_small = omega arith; w1_small = omega arith; w2_small = omega arith; w3_small = omega arith },
  rw (
    c.from-4.ensures ∙ c.word_at-4.ensures,
    c.from-3.ensures ∙ c.word_at-3.ensures,
    c.from-2.ensures ∙ c.word_at-2.ensures,
    c.from.ensures ∙ c.word_at.ensures,
  ) (four_words c.args.bytes.now c.args.at c.requires),
)
