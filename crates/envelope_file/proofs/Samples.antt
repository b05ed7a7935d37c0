-- Small envelopes worked out: each number of the table, envelopes that are read, and a key at the end of a chain.
use Prim.Native.Nat.{ℕ}
use mathlib.Core.List.{List, [], ◌∷◌, ◌++◌, map}
use mathlib.Core.Path.{◌≡◌, refl}
use lib.ListN.{replicate, take}
use Rattle.format.specs.Bytes.{same_bytes}
use Rattle.format.specs.Marks.{EN, KS, KD}
use Rattle.format.specs.Names.{class_of, padding, formed, some_no_space, well_formed}
use Rattle.format.specs.Search.{first_from}
use Rattle.hmac.specs.Secrets.{child_secret, label_key}
use Rattle.envelope_file.specs.Derive.{refused_derived, walked, walk_to, derived_at, record_asked, derived_of}
use Rattle.envelope_file.specs.File.{head_name, start_of, is_held, name_in, secret_in, place_in, carries, record_named}
use Rattle.envelope_file.specs.Labels.{name_byte, refused_labels, envelope_labels}
use Rattle.envelope_file.specs.Record.{name_refusal, held_kind, under_kind, marked_kind, envelope_kind}
use Rattle.envelope_file.specs.Whole.{head_refusal, scan_from, contents_of, envelope_refusal, count_from, envelope_records_read}
use Rattle.envelope_file.specs.declared.Derived.{Derived}
use Rattle.lists.specs.Tables.{listed}

-- a name of one letter, a header for an account at a label, a record that holds a secret, and one under a place
abbrev name : ℕ → List ℕ
name letter = letter ∷ replicate 7 32

abbrev gap : List ℕ
gap = 65 ∷ 32 ∷ 65 ∷ replicate 5 32

abbrev header : ℕ → List ℕ → List ℕ
header account label = EN ++ (0 ∷ account ∷ label)

abbrev secret : ℕ → List ℕ
secret byte = replicate 32 byte

abbrev holds : List ℕ → ℕ → List ℕ
holds label byte = KS ++ label ++ secret byte

abbrev stands : List ℕ → ℕ → List ℕ
stands label place = KD ++ label ++ (place ∷ [])

-- account 1 at label A: the header alone, one secret, A over B over C, and the same with a secret of its own for D before B and C
abbrev bare : List ℕ
bare = header 1 (name 65)

abbrev single : List ℕ
single = bare ++ holds (name 65) 7

abbrev chain : List ℕ
chain = single ++ stands (name 66) 0 ++ stands (name 67) 1

abbrev both : List ℕ
both = single ++ holds (name 68) 9 ++ stands (name 66) 0 ++ stands (name 67) 2

-- 17: 11 bytes, another mark, account 0
-- 18: no record, a first `KD`, a first name unlike the header's
-- 2: a single byte left, `EN` as a later mark; 3: a `KS` and a `KD` cut short
-- 6: a name with a space before a letter, at a first `KD` as well; 7: a name twice; 19: a record's own place, and a later one
-- 0: one secret, a chain of two, and two secrets with a chain of two
pub refusals : map envelope_refusal
    (take 11 bare ∷ (KS ++ (0 ∷ 1 ∷ name 65)) ∷ header 0 (name 65)
    ∷ bare ∷ (bare ++ stands (name 65) 0) ∷ (bare ++ holds (name 66) 7)
    ∷ (bare ++ (75 ∷ [])) ∷ (single ++ bare) ∷ take 53 single ∷ take 64 (single ++ stands (name 66) 0)
    ∷ (bare ++ holds gap 7) ∷ (bare ++ stands gap 0) ∷ (single ++ stands (name 65) 0)
    ∷ (single ++ stands (name 66) 1) ∷ (single ++ stands (name 66) 2 ++ stands (name 67) 0) ∷ single ∷ chain ∷ both ∷ [])
    ≡ 17 ∷ 17 ∷ 17 ∷ 18 ∷ 18 ∷ 18 ∷ 2 ∷ 2 ∷ 3 ∷ 3 ∷ 6 ∷ 6 ∷ 7 ∷ 19 ∷ 19 ∷ 0 ∷ 0 ∷ 0 ∷ []
unfolding same_bytes class_of padding formed some_no_space well_formed first_from head_name start_of is_held name_in place_in carries record_named name_refusal held_kind under_kind marked_kind envelope_kind head_refusal scan_from contents_of
refusals = refl

-- the number of records, where each starts and the place that it gives
pub starts : map contents_of (chain ∷ both ∷ [])
    ≡ record { refusal = 0; records = 3; starts = 12 ∷ 54 ∷ 65 ∷ replicate 61 0; places = 0 ∷ 0 ∷ 1 ∷ replicate 61 0 }
    ∷ record { refusal = 0; records = 4; starts = 12 ∷ 54 ∷ 96 ∷ 107 ∷ replicate 60 0; places = 0 ∷ 1 ∷ 0 ∷ 2 ∷ replicate 60 0 } ∷ []
unfolding same_bytes class_of padding formed some_no_space well_formed first_from head_name start_of is_held name_in place_in carries record_named name_refusal held_kind under_kind marked_kind envelope_kind head_refusal scan_from contents_of
starts = refl

-- how many records are read: none after a header that is refused, none before a first that is refused, one before a second, three before a fourth, or all
pub counts : map envelope_records_read
    (header 0 (name 65) ∷ bare ∷ (bare ++ holds gap 7) ∷ (single ++ stands (name 65) 0) ∷ (chain ++ (75 ∷ [])) ∷ both ∷ [])
    ≡ 0 ∷ 0 ∷ 0 ∷ 1 ∷ 3 ∷ 4 ∷ []
unfolding same_bytes class_of padding formed some_no_space well_formed first_from head_name start_of is_held name_in place_in carries record_named name_refusal held_kind under_kind marked_kind envelope_kind head_refusal count_from envelope_records_read
counts = refl

-- account 1 and its labels A, B, C; with an envelope that is refused its number and zeros
pub labels : map envelope_labels (chain ∷ bare ∷ [])
    ≡ record { refusal = 0; zeros = replicate 5 0; account = 1; labels = 3; names = name 65 ++ name 66 ++ name 67 ++ replicate 488 0 } ∷ refused_labels 18 ∷ []
unfolding same_bytes class_of padding formed some_no_space well_formed first_from head_name start_of is_held name_in place_in carries record_named name_refusal held_kind under_kind marked_kind envelope_kind head_refusal scan_from contents_of listed name_byte envelope_labels
labels = refl

-- A after 1 application, B after 2, C after 3; 20 for a name that is not there and for 7 bytes; with an envelope that is refused its number
-- comes before 20
abbrev ask : List ℕ → List (List ℕ) → List Derived
ask file names = map (derived_of file) names

abbrev secret_b : List ℕ
secret_b = child_secret (secret 7) (name 66)

pub asked : ask chain (name 65 ∷ name 66 ∷ name 67 ∷ name 68 ∷ take 7 (name 65) ∷ []) ++ ask bare (name 68 ∷ [])
    ≡ record { refusal = 0; key = label_key (secret 7) (name 65); applications = 1 }
    ∷ record { refusal = 0; key = label_key secret_b (name 66); applications = 2 }
    ∷ record { refusal = 0; key = label_key (child_secret secret_b (name 67)) (name 67); applications = 3 }
    ∷ refused_derived 20 ∷ refused_derived 20 ∷ refused_derived 18 ∷ []
unfolding same_bytes class_of padding formed some_no_space well_formed first_from head_name start_of is_held name_in secret_in place_in carries record_named name_refusal held_kind under_kind marked_kind envelope_kind head_refusal scan_from contents_of walked walk_to derived_at record_asked derived_of
asked = refl
