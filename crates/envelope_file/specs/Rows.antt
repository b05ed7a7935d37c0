-- 01's table "Refusals by the place of checking" for an envelope, in words: what each number says of the file. A record is named by how many
-- records stand before it. Each row holds only when it is reached: the checks of the rows before it have passed.
use Rattle.std.specs.Prelude.{ℕ, ◌+◌, ◌-◌, ◌≤◌, ◌<◌, List, [], ◌∷◌, ◌⊎◌, ◌≢◌, ◌≡◌, length}
use Rattle.format.specs.Bytes.{bytes_at}
use Rattle.format.specs.Form.{NameForm}
use Rattle.format.specs.Marks.{EN, KS, KD}
use Rattle.hmac.specs.Secrets.{label_key}
use Rattle.envelope_file.specs.Derive.{Path}
use Rattle.envelope_file.specs.File.{account_in, head_name, start_of, name_in, place_in}
use Rattle.envelope_file.specs.Whole.{refused, accepted, records_of}
use Rattle.envelope_file.specs.declared.Contents.{Contents}
use Rattle.envelope_file.specs.declared.Derived.{Derived}

-- ---- the header

-- 17, "under 12 bytes, mark not `EN`, or account 0"
pub data NoHeader (file : List ℕ) : Type 0 where
  under_12 : length file < 12 → NoHeader file
  other_mark : 12 ≤ length file → bytes_at file 0 2 ≢ EN → NoHeader file
  account_0 : 12 ≤ length file → bytes_at file 0 2 ≡ EN → account_in file ≡ 0 → NoHeader file

pub record Header (file : List ℕ) : Type 0 where
  pub whole : 12 ≤ length file
  pub mark : bytes_at file 0 2 ≡ EN
  pub account : 0 < account_in file

-- ---- a record

-- how many bytes there are from the record's start on, and the mark that it opens with
abbrev pub bytes_left : List ℕ → ℕ → ℕ
bytes_left file k = length file - start_of file k

abbrev pub mark_of : List ℕ → ℕ → List ℕ
mark_of file k = bytes_at file (start_of file k) 2

-- a whole `KS` record, 42 bytes; a whole `KD` record, 11 bytes
pub record WholeHeld (file : List ℕ) (k : ℕ) : Type 0 where
  pub mark : mark_of file k ≡ KS
  pub whole : 42 ≤ bytes_left file k

pub record WholeUnder (file : List ℕ) (k : ℕ) : Type 0 where
  pub mark : mark_of file k ≡ KD
  pub whole : 11 ≤ bytes_left file k

abbrev pub WholeRecord : List ℕ → ℕ → Type 0
WholeRecord file k = WholeHeld file k ⊎ WholeUnder file k

-- 2, "a single byte left .., or a mark not belonging to this file"
pub data NoMark (file : List ℕ) (k : ℕ) : Type 0 where
  single_byte : bytes_left file k ≡ 1 → NoMark file k
  other_mark : 2 ≤ bytes_left file k → mark_of file k ≢ KS → mark_of file k ≢ KD → NoMark file k

-- 3, "record cut short"
pub data CutShort (file : List ℕ) (k : ℕ) : Type 0 where
  short_held : mark_of file k ≡ KS → 2 ≤ bytes_left file k → bytes_left file k < 42 → CutShort file k
  short_under : mark_of file k ≡ KD → 2 ≤ bytes_left file k → bytes_left file k < 11 → CutShort file k

-- 5, "65th envelope record"
pub record TooMany (file : List ℕ) (k : ℕ) : Type 0 where
  pub record_at_lem : WholeRecord file k
  pub more : 64 ≤ k

-- 6, "name badly formed"
pub record BadName (file : List ℕ) (k : ℕ) : Type 0 where
  pub record_at_lem : WholeRecord file k
  pub fits : k < 64
  pub malformed : NameForm (name_in file k) → ⊥

-- 7, "name carried by an earlier record"
pub record NameCarried (file : List ℕ) (k : ℕ) : Type 0 where
  pub record_at_lem : WholeRecord file k
  pub fits : k < 64
  pub formed : NameForm (name_in file k)
  pub earlier : ℕ
  pub before : earlier < k
  pub carried : name_in file earlier ≡ name_in file k

-- a record of which rows 2 to 7 are passed
pub record Named (file : List ℕ) (k : ℕ) : Type 0 where
  pub fits : k < 64
  pub formed : NameForm (name_in file k)
  pub new : (i : ℕ) → i < k → name_in file i ≢ name_in file k

-- 18, at the first record: "none there, not `KS`, or name unlike the header's"
pub data NoHolder (file : List ℕ) : (k : ℕ) → Type 0 where
  none_there : bytes_left file 0 ≡ 0 → NoHolder file 0
  not_held : WholeUnder file 0 → Named file 0 → NoHolder file 0
  other_name : WholeHeld file 0 → Named file 0 → name_in file 0 ≢ head_name file → NoHolder file 0

-- 19, `KD`: "place not less than its own"
pub record LatePlace (file : List ℕ) (k : ℕ) : Type 0 where
  pub later : 0 < k
  pub record_at_lem : WholeUnder file k
  pub named : Named file k
  pub late : k ≤ place_in file k

-- the rows of a record, by their numbers
pub data RefusedAt (file : List ℕ) (k : ℕ) : ℕ → Type 0 where
  row_2 : NoMark file k → RefusedAt file k 2
  row_3 : CutShort file k → RefusedAt file k 3
  row_5 : TooMany file k → RefusedAt file k 5
  row_6 : BadName file k → RefusedAt file k 6
  row_7 : NameCarried file k → RefusedAt file k 7
  row_18 : NoHolder file k → RefusedAt file k 18
  row_19 : LatePlace file k → RefusedAt file k 19

-- a record that no row refuses: the first holds a secret under the header's name, each other one holds a secret or gives an earlier place
pub data RecordAt (file : List ℕ) (k : ℕ) : Type 0 where
  held : WholeHeld file k → Named file k → (k ≡ 0 → name_in file k ≡ head_name file) → RecordAt file k
  under : WholeUnder file k → Named file k → 0 < k → place_in file k < k → RecordAt file k

-- ---- the whole file

-- the records before record k all pass
pub data EnvelopePasses (file : List ℕ) : ℕ → Type 0 where
  start : EnvelopePasses file 0
  next : {k : ℕ} → EnvelopePasses file k → RecordAt file k → EnvelopePasses file (k + 1)

-- no row refuses the file, which ends after so many records
pub record NoneRefuses (file : List ℕ) (records : ℕ) : Type 0 where
  pub header : Header file
  pub passes : EnvelopePasses file records
  pub some : 0 < records
  pub ends : bytes_left file records ≡ 0

-- a row holds at a record before which all pass
pub record ReachedInEnvelope (file : List ℕ) (Row : List ℕ → ℕ → Type 0) : Type 0 where
  pub header : Header file
  pub records : ℕ
  pub passes : EnvelopePasses file records
  pub row : Row file records

-- What an envelope is answered, in words: 17 at its start; "The first refused record refuses its whole file"; else it is read.
pub data Answered (file : List ℕ) : Contents → Type 0 where
  at_start : NoHeader file → Answered file (refused 17)
  at_record : {k n : ℕ} → Header file → EnvelopePasses file k → RefusedAt file k n → Answered file (refused n)
  read : {records : ℕ} → NoneRefuses file records → Answered file (accepted file records)

-- the numbers that an envelope may be refused under
abbrev pub envelope_numbers : List ℕ
envelope_numbers = 2 ∷ 3 ∷ 5 ∷ 6 ∷ 7 ∷ 17 ∷ 18 ∷ 19 ∷ []

-- ---- derive

-- 20, "name asked for is not in it, or not 8 bytes"
pub data NotIn (file : List ℕ) (records : ℕ) (name : List ℕ) : Type 0 where
  other_length : length name ≢ 8 → NotIn file records name
  not_carried : length name ≡ 8 → ((k : ℕ) → k < records → name_in file k ≢ name) → NotIn file records name

-- what `derive` answers for a name that is in the envelope: "the search for a label's record stops at the first record that carries the name.
-- The key comes back with the number of applications of F made: the tree steps from the held secret, plus one for the key, never more than 64"
pub record DerivedBy (file name : List ℕ) (answer : Derived) : Type 0 where
  pub place : ℕ
  pub below : place < records_of file
  pub carries : name_in file place ≡ name
  pub first : (i : ℕ) → i < place → name_in file i ≢ name
  pub steps : ℕ
  pub secret : List ℕ
  pub path : Path file place steps secret
  pub no_refusal : answer.refusal ≡ 0
  pub key : answer.key ≡ label_key secret name
  pub applications : answer.applications ≡ steps + 1
  pub few : answer.applications ≤ 64
