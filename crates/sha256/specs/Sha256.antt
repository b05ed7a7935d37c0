-- SHA-256 of a message of bytes (FIPS 180-4, sections 5.2.1 and 6.2).
use Rattle.std.specs.Prelude.{List, [], ◌++◌, ℕ, zero, suc, ◌*◌, ◌/◌, length, get_or, take, drop}
use Rattle.sha256_constants.specs.Constants.{initial}
use Rattle.padding.specs.Padding.{word_bytes, padding}
use Rattle.compression.specs.Compression.{compressed}

-- the block number i of a padded message (section 5.2.1)
unfoldable pub block : List ℕ → ℕ → List ℕ
block p i = take 64 (drop (64 * i) p)

-- the hash value after n blocks of p, from h on (section 6.2.2)
unfoldable pub chained : List ℕ → List ℕ → ℕ → List ℕ
chained h p zero = h
chained h p (suc i) = compressed (chained h p i) (block p i)

-- the first n words of a hash value, one after the other (section 6.2.2, the end)
unfoldable pub joined : List ℕ → ℕ → List ℕ
joined h zero = []
joined h (suc i) = joined h i ++ word_bytes (get_or h i 0)

-- the digest of a padded message p, from the hash value h on
unfoldable pub digest_from : List ℕ → List ℕ → List ℕ
digest_from h p = joined (chained h p (length p / 64)) 8

-- SHA-256 (section 6.2)
unfoldable pub hash : List ℕ → List ℕ
hash message = digest_from initial (message ++ padding (length message))
