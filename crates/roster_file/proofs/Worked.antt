-- Roster files worked by hand, with the labels of 01's policy E: SUITE, CURVES, CONV32 and ACCRUED.
use Prim.Native.Nat.{ℕ}
use mathlib.Core.List.{List, [], ◌∷◌, ◌++◌, map}
use mathlib.Core.Path.{◌≡◌, refl}
use lib.ListN.{take}
use Rattle.format.specs.Bytes.{same_bytes, number_bytes}
use Rattle.format.specs.Marks.{JN, MV, HD, RL, WD, LB}
use Rattle.format.specs.Search.{first_from}
use Rattle.policy_file.proofs.Examples.{E}
use Rattle.policy_file.specs.File.{name_of, is_named, label_named}
use Rattle.roster_file.specs.Counts.{sum_from, joins_in, withdrawals_in}
use Rattle.roster_file.specs.File.{target_in, marked_entry, entry_at}
use Rattle.roster_file.specs.Machine.{is_number, standing_of, with_standing, asked_of}
use Rattle.roster_file.specs.Whole.{read_from, stop_of}
use Rattle.roster_file.specs.declared.Activity.TheVariants.{Active, Held}
use Rattle.roster_file.specs.declared.Standing.TheVariants.{Unknown, Withdrawn, On}
use Rattle.roster_file.specs.declared.Standing.{Standing}

abbrev CURVES : List ℕ
CURVES = 67 ∷ 85 ∷ 82 ∷ 86 ∷ 69 ∷ 83 ∷ 32 ∷ 32 ∷ []

abbrev CONV32 : List ℕ
CONV32 = 67 ∷ 79 ∷ 78 ∷ 86 ∷ 51 ∷ 50 ∷ 32 ∷ 32 ∷ []

-- no label of E
abbrev BONDS : List ℕ
BONDS = 66 ∷ 79 ∷ 78 ∷ 68 ∷ 83 ∷ 32 ∷ 32 ∷ 32 ∷ []

abbrev join : (number : ℕ) → List ℕ → List ℕ
join number name = JN ++ number_bytes number ++ name

abbrev move : (number : ℕ) → List ℕ → List ℕ
move number name = MV ++ number_bytes number ++ name

abbrev hold : (number : ℕ) → List ℕ
hold number = HD ++ number_bytes number

abbrev release : (number : ℕ) → List ℕ
release number = RL ++ number_bytes number

abbrev withdraw : (number : ℕ) → List ℕ
withdraw number = WD ++ number_bytes number

abbrev verdict : List ℕ → ℕ
verdict file = (stop_of E 4 file).refusal

-- how account 7 stands where reading stops
abbrev seven : List ℕ → Standing
seven file = standing_of (stop_of E 4 file).roster 7

-- The empty file and whole files: read. A single byte, a mark of a policy: 2. A join and a hold without their last bytes: 3.
pub forms : map verdict
    ([] ∷ join 7 CURVES ∷ (join 7 CURVES ++ hold 7 ++ release 7 ++ move 7 CONV32 ++ withdraw 7)
    ∷ (join 7 CURVES ++ (74 ∷ [])) ∷ (LB ++ CURVES ++ (0 ∷ 3 ∷ [])) ∷ take 11 (join 7 CURVES) ∷ take 3 (hold 7) ∷ [])
    ≡ 0 ∷ 0 ∷ 0 ∷ 2 ∷ 2 ∷ 3 ∷ 3 ∷ []
unfolding same_bytes first_from name_of is_named label_named target_in marked_entry entry_at is_number standing_of with_standing asked_of read_from stop_of
forms = refl

-- Joins of 0 and of 4,097, a second join, a join after a withdrawal: 24, also where no label has the name. Other records of an unknown and of a withdrawn
-- account: 25, also where no label has the name. Else such a name is 13.
pub numbers : map verdict
    (join 0 CURVES ∷ join 4097 BONDS ∷ (join 7 CURVES ++ join 7 BONDS) ∷ (join 7 CURVES ++ withdraw 7 ++ join 7 CURVES)
    ∷ move 7 BONDS ∷ hold 0 ∷ release 4097 ∷ (join 7 CURVES ++ withdraw 7 ++ withdraw 7) ∷ join 7 BONDS ∷ (join 7 CURVES ++ move 7 BONDS) ∷ [])
    ≡ 24 ∷ 24 ∷ 24 ∷ 24 ∷ 25 ∷ 25 ∷ 25 ∷ 25 ∷ 13 ∷ 13 ∷ []
unfolding same_bytes first_from name_of is_named label_named target_in marked_entry entry_at is_number standing_of with_standing asked_of read_from stop_of
numbers = refl

-- Account 7 after a join of another; after its own; held, and held twice; released, and released though active; moved while held; withdrawn; and where a
-- move to no label is refused after a hold.
pub standings : map seven
    (join 8 CURVES ∷ join 7 CURVES ∷ (join 7 CURVES ++ hold 7) ∷ (join 7 CURVES ++ hold 7 ++ hold 7) ∷ (join 7 CURVES ++ hold 7 ++ release 7)
    ∷ (join 7 CURVES ++ release 7) ∷ (join 7 CURVES ++ hold 7 ++ move 7 CONV32) ∷ (join 7 CURVES ++ withdraw 7) ∷ (join 7 CURVES ++ hold 7 ++ move 7 BONDS) ∷ [])
    ≡ Unknown ∷ On 1 Active ∷ On 1 Held ∷ On 1 Held ∷ On 1 Active ∷ On 1 Active ∷ On 2 Active ∷ Withdrawn ∷ On 1 Held ∷ []
unfolding same_bytes first_from name_of is_named label_named target_in marked_entry entry_at is_number standing_of with_standing asked_of read_from stop_of
standings = refl

-- three joins, a move and a withdrawal
pub tallies : (joins_in E 4 (join 7 CURVES ++ join 8 CURVES ++ move 7 CONV32 ++ withdraw 8 ++ join 9 CURVES) ≡ 3)
    × (withdrawals_in E 4 (join 7 CURVES ++ join 8 CURVES ++ move 7 CONV32 ++ withdraw 8 ++ join 9 CURVES) ≡ 1)
unfolding same_bytes first_from name_of is_named label_named target_in marked_entry entry_at sum_from joins_in withdrawals_in
tallies = (refl, refl)
