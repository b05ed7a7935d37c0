-- 01, "Checked by hand": the starred sentences, as one table. A row is what an operation is given and what it answers.
use Rattle.std.specs.Prelude.{ℕ, ◌≤◌, List, [], ◌∷◌, ◌++◌, ◌≡◌, length, take}
use Rattle.buffers.specs.Handed.{refused_written}
use Rattle.envelope_file.specs.Derive.{refused_derived, derived_of}
use Rattle.issuer_answers.specs.Issue.{asked_envelope, issued_of, envelope_after}
use Rattle.issuer_answers.specs.Keys.{issuer_key_of}
use Rattle.plan_answers.specs.Planned.{at_or_below, plan_of, refused_plan}
use Rattle.plan_answers.specs.Weighing.{refused_weighed, weigh_of}
use Rattle.policy_file.specs.File.{count_of}
use Rattle.policy_file.specs.Whole.{label_count}
use Rattle.trees.specs.Weights.{weight}
use Rattle.weights.specs.Tables.{entries}

-- ---- the files of the sentences, byte by byte in ASCII

abbrev pub SUITE : List ℕ
SUITE = 83 ∷ 85 ∷ 73 ∷ 84 ∷ 69 ∷ 32 ∷ 32 ∷ 32 ∷ []

abbrev pub CURVES : List ℕ
CURVES = 67 ∷ 85 ∷ 82 ∷ 86 ∷ 69 ∷ 83 ∷ 32 ∷ 32 ∷ []

abbrev pub CONV32 : List ℕ
CONV32 = 67 ∷ 79 ∷ 78 ∷ 86 ∷ 51 ∷ 50 ∷ 32 ∷ 32 ∷ []

abbrev pub ACCRUED : List ℕ
ACCRUED = 65 ∷ 67 ∷ 67 ∷ 82 ∷ 85 ∷ 69 ∷ 68 ∷ 32 ∷ []

-- one letter and its padding
abbrev pub letter : ℕ → List ℕ
letter a = a ∷ 32 ∷ 32 ∷ 32 ∷ 32 ∷ 32 ∷ 32 ∷ 32 ∷ []

-- `LB`, name, count; `OV`, upper, lower; `TR`, parents
abbrev pub label : List ℕ → ℕ → List ℕ
label name count = (76 ∷ 66 ∷ []) ++ name ++ (0 ∷ count ∷ [])

abbrev pub over : ℕ → ℕ → List ℕ
over upper lower = 79 ∷ 86 ∷ upper ∷ lower ∷ []

abbrev pub tree : List ℕ → List ℕ
tree parents = 84 ∷ 82 ∷ parents

-- "Policy E is SUITE 2, CURVES 3, CONV32 5, ACCRUED 4 with pairs 0-1, 0-2, 1-3, 2-3"
abbrev pub labels_e : List ℕ
labels_e = label SUITE 2 ++ label CURVES 3 ++ label CONV32 5 ++ label ACCRUED 4

abbrev pub fewer_e : List ℕ
fewer_e = labels_e ++ over 0 1 ++ over 0 2

abbrev pub E : List ℕ
E = fewer_e ++ over 1 3 ++ over 2 3

-- "Chain A 1, B 0, C 4"
abbrev pub chain : List ℕ
chain = label (letter 65) 1 ++ label (letter 66) 0 ++ label (letter 67) 4 ++ over 0 1 ++ over 1 2

-- ---- rows

pub data Row : Type 0 where
  -- a policy is refused under a number; its plan's total
  refuses : (policy : List ℕ) (number : ℕ) → Row
  totals : (policy : List ℕ) (total : ℕ) → Row
  -- an offered tree's total; a tree is refused under a number
  weighs : (policy offered : List ℕ) (total : ℕ) → Row
  refuses_tree : (policy offered : List ℕ) (number : ℕ) → Row
  -- a parent's weight for a label; the parent that the plan takes
  parent_weighs : (policy : List ℕ) (parent child accounts : ℕ) → Row
  hangs : (policy : List ℕ) (child parent : ℕ) → Row
  -- an account of a label is refused under a number, and the buffer stays as it was
  refuses_account : (policy name : List ℕ) (account number : ℕ) → Row
  -- from the envelope of an account of a label: a name asked for gives the issuer's key after so many applications, or is refused
  opens : (policy name : List ℕ) (account : ℕ) (asked : List ℕ) (applications : ℕ) → Row
  shuts : (policy name : List ℕ) (account : ℕ) (asked : List ℕ) (number : ℕ) → Row

-- what `issue` leaves in a buffer: for every root secret of 32 bytes and every buffer that has room it succeeds, and P holds of the bytes that it
-- wrote, as many of the buffer's first as it answers
abbrev pub Issues : (policy name : List ℕ) (account : ℕ) → (P : (root written : List ℕ) → Type 0) → Type 0
Issues policy name account P =
    (root out : List ℕ) → length root ≡ 32 → length (asked_envelope policy name account root) ≤ length out
    → ((issued_of policy name account root (length out)).refusal ≡ 0)
    × P root (take (issued_of policy name account root (length out)).length (envelope_after policy name account root out))

-- what a row says; of accounts that are refused, for every root secret and every buffer
abbrev pub Holds : Row → Type 0
Holds (refuses policy number) = plan_of policy ≡ refused_plan number
Holds (totals policy total) = ((plan_of policy).refusal ≡ 0) × ((plan_of policy).total ≡ total)
Holds (weighs policy offered total) = ((weigh_of policy offered).refusal ≡ 0) × ((weigh_of policy offered).total ≡ total)
Holds (refuses_tree policy offered number) = weigh_of policy offered ≡ refused_weighed number
Holds (parent_weighs policy parent child accounts) = weight (label_count policy) (count_of policy) (at_or_below policy) parent child ≡ accounts
Holds (hangs policy child parent) = entries (plan_of policy).parents child ≡ parent
Holds (refuses_account policy name account number) =
    (root out : List ℕ) → (issued_of policy name account root (length out) ≡ refused_written number) × (envelope_after policy name account root out ≡ out)
Holds (opens policy name account asked applications) =
    Issues policy name account
    (λ root written. ((issuer_key_of policy asked root).refusal ≡ 0)
    × (derived_of written asked ≡ record { refusal = 0; key = (issuer_key_of policy asked root).key; applications = applications }))
Holds (shuts policy name account asked number) = Issues policy name account (λ root written. derived_of written asked ≡ refused_derived number)

abbrev pub AllHold : List Row → Type 0
AllHold [] = Unit {0}
AllHold (row ∷ rows) = Holds row × AllHold rows

-- ---- the table

abbrev pub starred_rows : List Row
starred_rows =
    -- "* Empty policy: 1. * One label with 7 accounts: total 7."
    refuses [] 1
    ∷ totals (label SUITE 7) 7
    -- "* E: 17. * E under `TR` 0,0,0,1: 19. * Under 0,0,0,0: 22. * Under 0,0,1,2: 12."
    ∷ totals E 17
    ∷ weighs E (tree (0 ∷ 0 ∷ 0 ∷ 1 ∷ [])) 19
    ∷ weighs E (tree (0 ∷ 0 ∷ 0 ∷ 0 ∷ [])) 22
    ∷ refuses_tree E (tree (0 ∷ 0 ∷ 1 ∷ 2 ∷ [])) 12
    -- "* E without its last two pairs: 10. .. * Added pair 3-4: 8."
    ∷ refuses fewer_e 10
    ∷ refuses (E ++ over 3 4) 8
    -- "E, CONV32, .. * Account 6: 14; account 0: 14."
    ∷ refuses_account E CONV32 6 14
    ∷ refuses_account E CONV32 0 14
    -- "* From a CONV32 envelope: CONV32 after 1 application, ACCRUED after 2, CURVES refused 20."
    ∷ opens E CONV32 5 CONV32 1
    ∷ opens E CONV32 5 ACCRUED 2
    ∷ shuts E CONV32 5 CURVES 20
    -- "* Chain A 1, B 0, C 4: A and B both weigh 4 for C", rewritten by 02, Ask 1: "chain A, B, C now hangs C from B. .. Total 5 is unchanged"
    ∷ parent_weighs chain 0 2 4
    ∷ parent_weighs chain 1 2 4
    ∷ hangs chain 2 1
    ∷ totals chain 5
    ∷ []
