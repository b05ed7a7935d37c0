-- `aead::cipher` meets its contract.
use Rattle.aead.specs.Aead.{ciphered}
use Rattle.aead.proofs.cipher.Goals as goal

pub returns : goal.returns
unfolding ciphered
returns c = c.encrypt.ensures
