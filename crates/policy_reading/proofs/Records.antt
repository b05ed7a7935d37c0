-- Laws of a file that is read record by record.
use Prim.Native.Nat.{ℕ, suc, ◌+◌, ◌-◌, ◌≤◌, ◌<◌}
use mathlib.Core.List.{List}
use mathlib.Core.Logic.{◌≢◌}
use mathlib.Core.Path.{◌≡◌, refl, sym, ap, ◌∙◌}
use native.Mathlib.Omega.{arith}
use lib.ListN.{length, replicate}
use Rattle.order.specs.declared.Pair.{Pair}
use Rattle.policy_file.proofs.Meaning.{label_iff, over_iff}
use Rattle.policy_file.specs.File.{place_of}
use Rattle.policy_file.specs.Record.{policy_kind, kind_number, with_name, record_at}
use Rattle.policy_file.specs.Whole.{no_pair, with_label, with_pair, refused_there, scan_from, stop_of}
use Rattle.policy_file.specs.declared.Kind.TheVariants.{Label, Over, End, Refused}
use Rattle.policy_file.specs.declared.Kind.{Kind}
use Rattle.policy_file.specs.declared.Record.{Record}
use Rattle.policy_file.specs.declared.Policy.{Policy}

-- the kind of a record that was read
pub kind_of : (file : List ℕ) (labels pairs : ℕ) (r : Record) → r ≡ record_at file labels pairs → policy_kind file labels pairs ≡ r.kind
unfolding record_at with_name
kind_of file labels pairs r e = sym (ap (λ (x : Record). x.kind) e)

-- one record more: a label, a pair, the end, a refusal
module _ (n : ℕ) (file : List ℕ) (s : Policy) where
  pub scan_label : (count : ℕ) → policy_kind file s.labels s.pairs ≡ Label count → scan_from (suc n) file s ≡ scan_from n file (with_label s count)
  unfolding scan_from
  scan_label count e = rw e

  pub scan_over : (pair : Pair) → policy_kind file s.labels s.pairs ≡ Over pair → scan_from (suc n) file s ≡ scan_from n file (with_pair s pair)
  unfolding scan_from
  scan_over pair e = rw e

  pub scan_end : policy_kind file s.labels s.pairs ≡ End → scan_from (suc n) file s ≡ s
  unfolding scan_from
  scan_end e = rw e

  pub scan_refused : (number : ℕ) → policy_kind file s.labels s.pairs ≡ Refused number → scan_from (suc n) file s ≡ refused_there s number
  unfolding scan_from
  scan_refused number e = rw e

-- what is read so far
abbrev pub so_far : ℕ → ℕ → List ℕ → List Pair → Policy
so_far labels pairs counts over = record { refusal = 0; zeros = replicate 7 0; labels = labels; pairs = pairs; counts = counts; over = over }

-- what holds of what is read so far: its records lie within the file, and the stop is that of the rest
pub record Reading (file : List ℕ) (s : Policy) : Type 0 where
  pub few : s.labels ≤ 64
  pub few_pairs : s.pairs ≤ 512
  pub within : place_of s.labels s.pairs ≤ length file
  pub rest : stop_of file ≡ scan_from (577 - (s.labels + s.pairs)) file s

pub reading_start : (file : List ℕ) → Reading file (so_far 0 0 (replicate 64 0) (replicate 512 no_pair))
reading_start file = record { few = omega arith; few_pairs = omega arith; within = omega arith; rest = refl }

module _ (file : List ℕ) (s : Policy) (r : Reading file s) where
  more : 577 - (s.labels + s.pairs) ≡ suc (577 - (s.labels + s.pairs + 1))
  more = let a = r.few in let b = r.few_pairs in omega arith

  -- a label or a pair that is read has a place in its table
  pub label_place : (count : ℕ) → policy_kind file s.labels s.pairs ≡ Label count → s.labels < 64
  label_place count e = ((label_iff file s.labels s.pairs count).0 e).1.label.fits

  pub pair_place : (pair : Pair) → policy_kind file s.labels s.pairs ≡ Over pair → s.pairs < 512
  pair_place pair e = ((over_iff file s.labels s.pairs pair).0 e).1.over.fits

  pub reading_label : (count : ℕ) → policy_kind file s.labels s.pairs ≡ Label count → Reading file (with_label s count)
  reading_label count e =
      let f = ((label_iff file s.labels s.pairs count).0 e).1.label in
      let left : 577 - (s.labels + s.pairs + 1) ≡ 577 - (s.labels + 1 + s.pairs) = omega arith in
      record {
        few = omega (arith, f.fits);
        few_pairs = r.few_pairs;
        within = omega (arith, f.record_at_lem.whole);
        rest = r.rest ∙ rw (more, scan_label (577 - (s.labels + s.pairs + 1)) file s count e, left);
      }

  pub reading_over : (pair : Pair) → policy_kind file s.labels s.pairs ≡ Over pair → Reading file (with_pair s pair)
  reading_over pair e =
      let f = ((over_iff file s.labels s.pairs pair).0 e).1.over in
      let left : 577 - (s.labels + s.pairs + 1) ≡ 577 - (s.labels + (s.pairs + 1)) = omega arith in
      record {
        few = r.few;
        few_pairs = omega (arith, f.fits);
        within = omega (arith, f.record_at_lem.whole);
        rest = r.rest ∙ rw (more, scan_over (577 - (s.labels + s.pairs + 1)) file s pair e, left);
      }

  -- the end, or a refusal with its number, is where reading stops
  pub reading_end : policy_kind file s.labels s.pairs ≡ End → stop_of file ≡ s
  reading_end e = r.rest ∙ rw (more, scan_end (577 - (s.labels + s.pairs + 1)) file s e)

  pub reading_refused : (number : ℕ) → policy_kind file s.labels s.pairs ≡ Refused number → stop_of file ≡ refused_there s number
  reading_refused number e = r.rest ∙ rw (more, scan_refused (577 - (s.labels + s.pairs + 1)) file s number e)

-- a record that is neither a label nor a pair stops: at the end with 0, else with the number of the refusal
module _ (file : List ℕ) (labels pairs : ℕ) (counts : List ℕ) (over : List Pair) (r : Reading file (so_far labels pairs counts over)) where
  pub reading_stopped : (kind : Kind) → ((count : ℕ) → kind ≢ Label count) → ((pair : Pair) → kind ≢ Over pair) → policy_kind file labels pairs ≡ kind
      → stop_of file ≡ refused_there (so_far labels pairs counts over) (kind_number kind)
  reading_stopped (Label count) label over e = absurd (label count refl)
  reading_stopped (Over p) label pair e = absurd (pair p refl)
  reading_stopped End label pair e = reading_end file (so_far labels pairs counts over) r e
  reading_stopped (Refused number) label pair e = reading_refused file (so_far labels pairs counts over) r number e
