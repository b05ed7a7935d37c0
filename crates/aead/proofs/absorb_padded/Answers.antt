-- `aead::absorb_padded` meets its contract.
use mathlib.Core.List.{List}
use mathlib.Core.Path.{◌≡◌, sym, ap, ◌∙◌}
use Prim.Native.Nat.{ℕ, ◌*◌, ◌/◌, ◌%◌, ◌<◌}
use native.Mathlib.Omega.{arith}
use borrow.Author.Rules.{rules}
use lib.ListN.{length}
use Rattle.poly1305.specs.Poly1305.{absorbed}
use Rattle.poly1305_limbs.specs.Limbs.{value, multiplier_value}
use Rattle.poly1305_limbs.specs.Prime.{prime}
use Rattle.aead.proofs.Data.{padded_none, padded_copied}
use Rattle.aead.proofs.absorb_padded.Goals as goal

pub returns-then-is_empty : goal.returns-then-is_empty
returns-then-is_empty c =
    let a = c.args in
    let none : length c.as_chunks.result.1.now ≡ 0 = search rules in
    let whole : length a.message.now / 16 * 16 ≡ length a.message.now = omega (arith, none, c.as_chunks.ensures.back_len) in (
      c.absorb-whole.ensures.0,
      c.absorb-whole.ensures.1
          ∙ ap (λ (s : List ℕ). absorbed (multiplier_value a.r) (value a.h % prime) s (length s / 16)) (sym (padded_none a.message.now whole)),
    )

pub returns : goal.returns
returns c =
    let s = c.args.message.now in
    let some : 0 < length c.as_chunks.result.1.now = search rules in
    let part : length s / 16 * 16 < length s = omega (arith, some, c.as_chunks.ensures.back_len) in (
      c.absorb.ensures.0,
      padded_copied s part (multiplier_value c.args.r) (value c.args.h % prime) c.absorb-whole.ensures.1 c.as_chunks.ensures.back
          c.copy_from_slice.ensures.after c.absorb.ensures.1,
    )
