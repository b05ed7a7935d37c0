-- `fingerprint::fingerprint` meets its contract: 15 and zeros, or the first eight bytes of the HMAC.
use mathlib.Core.Path.{sym, ap, ◌∙◌}
use native.Mathlib.Omega.{arith}
use Prim.Native.Nat.{ℕ}
use mathlib.Core.List.{List}
use lib.ListN.{take}
use Rattle.decimals.specs.Text.{bytes_of}
use Rattle.fingerprint.proofs.Laws.{fingerprint_made, fingerprint_refused}
use Rattle.fingerprint.specs.Fingerprint.{fingerprint_text}
use Rattle.fingerprint.specs.declared.RootFingerprint.{RootFingerprint}
use Rattle.fingerprint.proofs.fingerprint.Goals as goal

abbrev given : List ℕ → RootFingerprint
given bytes = record { refusal = 0; bytes = bytes }

pub returns-then-root-ne32 : goal.returns-then-root-ne32
returns-then-root-ne32 c = sym (fingerprint_refused c.args.root.now (λ e. omega arith))

pub returns : goal.returns
unfolding fingerprint_text bytes_of
returns c =
    ap given (c.read_bytes.ensures ∙ ap (take 8) c.hmac_bytes-mac.ensures) ∙ sym (fingerprint_made c.args.root.now (omega arith))
