-- `poly1305::finish` meets its contract.
use mathlib.Core.Path.{ap, sym, ◌∙◌}
use Prim.Native.Nat.{ℕ, ◌+◌, ◌%◌}
use Rattle.little_endian.specs.LittleEndian.{little_bytes}
use Rattle.poly1305_limbs.specs.Prime.{prime}
use Rattle.poly1305_limbs.specs.Limbs.{value, words_value}
use Rattle.poly1305.specs.Poly1305.{addend, tagged}
use Rattle.little_endian.proofs.LittleEndian.{little_bytes_mod}
use Rattle.poly1305.proofs.finish.Goals as goal

pub returns : goal.returns
unfolding tagged addend
returns c =
    let w = c in
    let a = value w.args.h % prime in
    c.bytes_of.ensures
    ∙ ap (little_bytes 16) c.finish.ensures.1
    ∙ sym (little_bytes_mod 16 (a + words_value w.words_at.result))
    ∙ ap (λ (s : ℕ). little_bytes 16 (a + s)) w.words_at.ensures.1
