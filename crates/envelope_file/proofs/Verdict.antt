-- The answer by its number, for the theorems of Demand1.antt.
use Prim.Native.Nat.{ℕ, ◌<◌}
use mathlib.Core.List.{List, ◌∷◌, Memᴰ}
use mathlib.Core.Logic.{◌↔◌, ◌≢◌}
use mathlib.Core.Path.{◌≡◌, refl, ap}
use native.Mathlib.Omega.{arith}
use Rattle.envelope_file.proofs.Answered.{answered, answered_only}
use Rattle.envelope_file.specs.Rows.{RefusedAt, row_2, row_3, row_5, row_6, row_7, row_18, row_19, ReachedInEnvelope, Answered, at_start, at_record, read, envelope_numbers}
use Rattle.envelope_file.specs.Whole.{accepted, envelope_refusal}
use Rattle.envelope_file.specs.declared.Contents.{Contents}

-- the numbers of the rows that a record can be refused under
pub row_number : {file : List ℕ} {k n : ℕ} → RefusedAt file k n → (0 < n) × (n ≢ 17)
row_number (row_2 r) = (omega arith, λ e. omega arith)
row_number (row_3 r) = (omega arith, λ e. omega arith)
row_number (row_5 r) = (omega arith, λ e. omega arith)
row_number (row_6 r) = (omega arith, λ e. omega arith)
row_number (row_7 r) = (omega arith, λ e. omega arith)
row_number (row_18 r) = (omega arith, λ e. omega arith)
row_number (row_19 r) = (omega arith, λ e. omega arith)

-- they stand in the list of numbers, each after those before it
past : {n m : ℕ} {l : List ℕ} → Memᴰ n l → Memᴰ n (m ∷ l)
past = Memᴰ.tail

row_listed : {file : List ℕ} {k n : ℕ} → RefusedAt file k n → Memᴰ n envelope_numbers
row_listed (row_2 r) = Memᴰ.head refl
row_listed (row_3 r) = past (Memᴰ.head refl)
row_listed (row_5 r) = past (past (Memᴰ.head refl))
row_listed (row_6 r) = past (past (past (Memᴰ.head refl)))
row_listed (row_7 r) = past (past (past (past (Memᴰ.head refl))))
row_listed (row_18 r) = past (past (past (past (past (past (Memᴰ.head refl))))))
row_listed (row_19 r) = past (past (past (past (past (past (past (Memᴰ.head refl)))))))

module _ (file : List ℕ) where
  -- the words of an answer give its number
  pub number_of : {c : Contents} → Answered file c → envelope_refusal file ≡ c.refusal
  number_of a = ap (λ (c : Contents). c.refusal) (answered_only file a)

  pub number_listed : {c : Contents} → Answered file c → 0 < c.refusal → Memᴰ c.refusal envelope_numbers
  unfolding accepted
  number_listed (at_start h) some = past (past (past (past (past (Memᴰ.head refl)))))
  number_listed (at_record header before r) some = row_listed r
  number_listed (read r) some = absurd (omega arith)

  -- a row of the table, from its number and back
  module _ (n : ℕ) (Row : List ℕ → ℕ → Type 0) (of-record : (0 < n) × (n ≢ 17))
      (row_of : (k : ℕ) → RefusedAt file k n → Row file k) (of_row : (k : ℕ) → Row file k → RefusedAt file k n) where
    pub refusal_row : (envelope_refusal file ≡ n) ↔ ReachedInEnvelope file Row
    unfolding accepted
    refusal_row = (λ e. go (answered file) e, λ r. number_of (at_record r.header r.passes (of_row r.records r.row)))
      where
        go : {c : Contents} → Answered file c → c.refusal ≡ n → ReachedInEnvelope file Row
        go (at_start h) e = absurd (of-record.1 (omega arith))
        go (at_record {k} header before r) e = record { header = header; records = k; passes = before; row = row_of k (rw e at r) }
        go (read r) e = absurd (omega (arith, of-record.0))
