-- The whole policy file: its records from the first on, the refusals at its start (1) and end (10), and what an accepted file says.
use Rattle.std.specs.Prelude.{ℕ, zero, suc, ◌+◌, Bool, cond, ◌||◌, List, ◌≡◌, eqb, length, get_or, set, replicate}
use Rattle.lists.specs.Tables.{some_below, every_below, listed}
use Rattle.order.specs.Table.{order_table}
use Rattle.order.specs.declared.Pair.{Pair}
use Rattle.policy_file.specs.File.{pair_at}
use Rattle.policy_file.specs.Record.{policy_kind}
use Rattle.policy_file.specs.declared.Kind.TheVariants.{Label, Over, End, Refused}
use Rattle.policy_file.specs.declared.Kind.{Kind}
use Rattle.policy_file.specs.declared.Policy.{Policy}

abbrev pub no_pair : Pair
no_pair = record { upper = 0; lower = 0 }

-- ---- what is read so far, record by record; where reading stops at a refused record, its number stands beside what was read before

-- "With a refusal every number in the answer is 0"
abbrev pub refused_policy : ℕ → Policy
refused_policy number = record {
  refusal = number;
  zeros = replicate 7 0;
  labels = 0;
  pairs = 0;
  counts = replicate 64 0;
  over = replicate 512 no_pair;
}

-- before the first record: zeros, and no refusal
abbrev pub nothing_read : Policy
nothing_read = refused_policy 0

-- one label more, whose count is stored after those read before
abbrev pub with_label : Policy → (count : ℕ) → Policy
with_label s count = record {
  refusal = 0;
  zeros = replicate 7 0;
  labels = s.labels + 1;
  pairs = s.pairs;
  counts = set s.counts s.labels count;
  over = s.over;
}

-- one pair more, stored after those read before
abbrev pub with_pair : Policy → Pair → Policy
with_pair s pair = record {
  refusal = 0;
  zeros = replicate 7 0;
  labels = s.labels;
  pairs = s.pairs + 1;
  counts = s.counts;
  over = set s.over s.pairs pair;
}

-- a record that is refused under the number is not read
abbrev pub refused_there : Policy → (number : ℕ) → Policy
refused_there s number = record {
  refusal = number;
  zeros = replicate 7 0;
  labels = s.labels;
  pairs = s.pairs;
  counts = s.counts;
  over = s.over;
}

-- "Whenever an answer is an enum, a definition gives this paper's number and values for each of the enum's cases": after what is read so far, the
-- count of a label and the two numbers of a pair are added and the rest is read; the end and the first refused record stop.
abbrev pub on_policy_kind : (Policy → Policy) → Policy → Kind → Policy
on_policy_kind rest s (Label count) = rest (with_label s count)
on_policy_kind rest s (Over pair) = rest (with_pair s pair)
on_policy_kind rest s End = s
on_policy_kind rest s (Refused number) = refused_there s number

-- where reading stops, from the record after what is read so far on, for up to n records
unfoldable pub scan_from : ℕ → List ℕ → Policy → Policy
scan_from zero file s = refused_there s 5
scan_from (suc n) file s = on_policy_kind (scan_from n file) s (policy_kind file s.labels s.pairs)

-- the stop of a file; 64 labels, 512 pairs and one record more are always enough
abbrev pub stop_of : List ℕ → Policy
stop_of file = scan_from 577 file nothing_read

-- What `records_read` answers for a file, accepted or refused: how many records are read before the first refused record, or all its records when
-- it is read to its end (also if 10 refuses it there); 0 for the empty file. So it says where reading stops, and nothing of what the file says.
unfoldable pub policy_records_read : List ℕ → ℕ
policy_records_read file = (stop_of file).labels + (stop_of file).pairs

-- ---- the end, and the answer

-- whether label m is the lower of pair k, and of one of the first pairs
unfoldable pub is_lower_of : List Pair → ℕ → ℕ → Bool
is_lower_of over m k = eqb (get_or over k no_pair).lower m

unfoldable pub is_lower : List Pair → (pairs : ℕ) → ℕ → Bool
is_lower over pairs m = some_below (is_lower_of over m) pairs

-- label 0 is the top; every other label has to be the lower of a pair
unfoldable pub is_placed : List Pair → (pairs : ℕ) → ℕ → Bool
is_placed over pairs m = eqb m 0 || is_lower over pairs m

-- 10, "a label other than 0 is never the lower of a pair"
abbrev pub all_placed : (labels pairs : ℕ) → List Pair → Bool
all_placed labels pairs over = every_below (is_placed over pairs) labels

-- "A policy that none of its own checks refuses is accepted", and says what was read
unfoldable pub at_end : Policy → Policy
at_end s = cond (all_placed s.labels s.pairs s.over) s (refused_policy 10)

-- the first refused record refuses its whole file, and the end is checked
abbrev pub on_stop : Policy → Policy
on_stop s = cond (eqb s.refusal 0) (at_end s) (refused_policy s.refusal)

-- what `read_policy` answers: what the records say, or the number of the refusal and zeros
unfoldable pub policy_of : List ℕ → Policy
policy_of file = cond (eqb (length file) 0) (refused_policy 1) (on_stop (stop_of file))

-- the file's verdict, 0 when it is accepted, and its numbers of labels and pairs
abbrev pub policy_refusal : List ℕ → ℕ
policy_refusal file = (policy_of file).refusal

abbrev pub label_count : List ℕ → ℕ
label_count file = (policy_of file).labels

abbrev pub pair_count : List ℕ → ℕ
pair_count file = (policy_of file).pairs

abbrev pub AcceptedPolicy : List ℕ → Type 0
AcceptedPolicy file = policy_refusal file ≡ 0

-- the pairs of an accepted file, in file order
unfoldable pub pairs_of : List ℕ → List Pair
pairs_of file = listed (pair_at file (label_count file)) (pair_count file)

-- the order of an accepted file's labels, as 64 rows of 64 entries
unfoldable pub order_of : List ℕ → List (List Bool)
order_of file = order_table (label_count file) (pairs_of file)
