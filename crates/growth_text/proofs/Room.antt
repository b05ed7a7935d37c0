-- Whether a label has room for one account more, from the number that is read.
use Prim.Native.Nat.{ℕ, ◌+◌, ◌*◌}
use mathlib.Core.List.{List}
use mathlib.Core.Path.{◌≡◌}
use lib.Dec.{ltb}
use lib.ListN.{length, get_or}
use Rattle.format.specs.Bytes.{number_at}
use Rattle.format.specs.Names.{unpadded}
use Rattle.growth_answers.proofs.GrowthParts.{growth_line_length}
use Rattle.growth_answers.specs.GrowthListing.{figures, growth_line}
use Rattle.growth_answers.specs.Growing.{has_room}
use Rattle.growth_answers.specs.declared.Growth.{Growth}
use Rattle.policy_file.specs.File.{name_of, count_of}

pub room_read : (file : List ℕ) (m : ℕ) {x : ℕ} → x ≡ number_at file (12 * m + 10) → ltb x 65535 ≡ has_room (count_of file) m
unfolding has_room count_of
room_read file m e = rw e

-- the length of a label's line, from that number
pub line_length : (file : List ℕ) (growth : Growth) (m : ℕ) {x : ℕ} → x ≡ number_at file (12 * m + 10) → length (growth_line file growth m)
    ≡ length (unpadded (name_of file m)) + length (figures (ltb x 65535) (get_or growth.costs m 0) (get_or growth.ceilings m 0)) + 1
line_length file growth m {x} e = growth_line_length file growth m (ltb x 65535) (room_read file m e)
