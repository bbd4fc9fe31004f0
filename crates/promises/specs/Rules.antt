-- What a file is: the list of its records, end to end, and what each must hold (document 01, "The record and the walk" and "First records and
-- what they promise"; 000, and 002 for the image). No turn, no state, no budget and no refusal occurs here. One rule, one line, with document
-- 01's byte numbers, which count from 1. First what no edition changes, then, over an edition, the rules that one may widen; those that the product
-- keeps, at the newest edition, have their plain names in `Newest`. Assumes nothing.
use Rattle.std.specs.Prelude.{ℕ, zero, suc, ◌+◌, ◌*◌, ◌≤◌, ◌≡◌, List, [], ◌∷◌, ◌++◌, eqb, pos, length, take, drop, get_or, replicate}
use Prim.Native.String.{String}
use Rattle.words.specs.Tests.{pick}
use Rattle.words.specs.Words.{byte_at, four_at, place_of}
use Rattle.decimal.specs.Written.{Written, number_written, blank as blank_written}
use Rattle.decimal.specs.Text.{bytes}
use Rattle.decimal.specs.Grammar as grammar
use Rattle.decimal.specs.declared.Form.{Form}
use Rattle.decimal.specs.declared.Form.TheVariants.{I4, I6, I8, I16, F8d3, F16d7, E20d13}
use Rattle.fields.specs.Field.{field_bytes}
use Rattle.plan.specs.declared.Plan.{Plan}
use Rattle.promises.specs.Edition.{Edition}

-- ==== what no edition changes

-- ---- the parts of a record

-- this text stands from that byte on
abbrev pub Text : List ℕ → ℕ → String → Type 0
Text r byte t = take (length (bytes t)) (drop (place_of byte) r) ≡ bytes t

-- code bytes 5 to 8
pub record Coded (a b c : ℕ) (d : ℕ → Type 0) (r : List ℕ) : Type 0 where
  pub one : byte_at r (place_of 5) ≡ a
  pub two : byte_at r (place_of 6) ≡ b
  pub three : byte_at r (place_of 7) ≡ c
  pub four : d (byte_at r (place_of 8))

-- the fourth code byte: that one
abbrev pub Is : ℕ → ℕ → Type 0
Is d x = x ≡ d

-- or any
abbrev pub Any : ℕ → Type 0
Any x = Unit {0}

-- a record: its sequence number, codes and length, as its twelve bytes say them, and as many bytes as it says
pub record Record (ordinal : ℕ) (C : List ℕ → Type 0) (long : ℕ) (r : List ℕ) : Type 0 where
  pub size : length r ≡ long
  pub sequence : four_at r (place_of 1) ≡ ordinal
  pub codes : C r
  pub says : four_at r (place_of 9) ≡ long

-- ---- what follows the first record

-- a record that is due: its codes, its length and what its body must hold, given its place k behind the first
pub record Due : Type 1 where
  pub Codes : List ℕ → Type 0
  pub long : ℕ
  pub Holds : ℕ → List ℕ → Type 0

-- nothing beyond the header
abbrev pub free : ℕ → List ℕ → Type 0
free k r = Unit {0}

-- ---- volume directory: 360-byte records

-- the class of pointer k of m: `SARL` first, `SART` last, `IMOP` between
abbrev pub class_of : ℕ → ℕ → String
class_of m k = pick (eqb k 1) "SARL" (pick (eqb k m) "SART" "IMOP")

-- the text record behind the pointers
abbrev pub text_record : Due
text_record = record { Codes = Coded 18 192 18 (Is 18); long = 360; Holds = free }

-- ---- leader

-- a slot's record: codes 18, x, 18, 20
abbrev pub slot_due : ℕ → (ℕ → List ℕ → Type 0) → ℕ → Due
slot_due x H long = record { Codes = Coded 18 x 18 (Is 20); long = long; Holds = H }

-- a facility record: its fourth code byte may be any
abbrev pub facility_due : ℕ → Due
facility_due long = record { Codes = Coded 18 200 18 Any; long = long; Holds = free }

-- the records of slot row i
abbrev pub slot_records : Plan → ℕ → (ℕ → Due) → List Due
slot_records p i due = replicate (get_or p.counts i 0) (due (get_or p.lengths i 0))

-- the facility records from row i on, m rows
abbrev pub facility_records : Plan → ℕ → ℕ → List Due
facility_records p i zero = []
facility_records p i (suc m) = slot_records p i facility_due ++ facility_records p (suc i) m

-- ---- image

-- what an image's sort decides: the text at 429, bytes a group, the least bytes ahead of the pixels, the lines' second code byte
pub record Sort : Type 0 where
  pub text : String
  pub group : ℕ
  pub ahead : ℕ
  pub code : ℕ

-- the sorts by number: counts; complex samples, each two floats of four bytes; there is no other
abbrev pub sort_of : ℕ → Sort
sort_of zero = record { text = "IU2 "; group = 2; ahead = 192; code = 11 }
sort_of (suc zero) = record { text = "C*8 "; group = 8; ahead = 412; code = 10 }
sort_of (suc (suc i)) = record { text = ""; group = 0; ahead = 0; code = 0 }

-- line k of an image of w pixels: line number, 1, and left fill, data and right fill whose ordinary sum is w
pub record Line (w k : ℕ) (r : List ℕ) : Type 0 where
  pub number : four_at r (place_of 13) ≡ k
  pub index : four_at r (place_of 17) ≡ 1
  pub fills : four_at r (place_of 21) + four_at r (place_of 25) + four_at r (place_of 29) ≡ w

-- ---- trailer

-- the one record of a trailer
pub record TrailerRecord (r : List ℕ) (p : Plan) : Type 0 where
  pub is : Record 1 (Coded 63 192 18 (Is 18)) 720 r
  pub ab : Text r 13 "A "

-- ---- files

-- the four kinds of file
pub data Kind : Type 0 where
  volume leader image trailer : Kind

-- and their numbers
abbrev pub kind_number : Kind → ℕ
kind_number volume = 1
kind_number leader = 2
kind_number image = 3
kind_number trailer = 4

-- the records rs are those that are due, from place k on: the record at place k has the sequence number k + 1
abbrev pub Follow : ℕ → List Due → List (List ℕ) → Type 0
Follow k [] [] = Unit {0}
Follow k [] (r ∷ rs) = ⊥
Follow k (d ∷ ds) [] = ⊥
Follow k (d ∷ ds) (r ∷ rs) = (Record (suc k) d.Codes d.long r × d.Holds k r) × Follow (suc k) ds rs

-- the records end to end
abbrev pub concat : List (List ℕ) → List ℕ
concat [] = []
concat (r ∷ rs) = r ++ concat rs

-- ==== the rules of an edition

module _ (e : Edition) where
  -- ---- number fields

  -- the field of that form from that byte on is well written and says this
  abbrev pub Says : List ℕ → ℕ → Form → Written → Type 0
  Says r byte k w = grammar.WellWrittenBy e.gaps k (field_bytes r (place_of byte) k) w

  -- it says the number n, which lies in a range
  pub record Numbered (r : List ℕ) (byte : ℕ) (k : Form) (lo hi n : ℕ) : Type 0 where
    pub says : Says r byte k (number_written (pos n) (pos 0))
    pub least : lo ≤ n
    pub most : n ≤ hi

  -- a listed field is a value or blank
  abbrev pub Readable : List ℕ → ℕ → Form → Type 0
  Readable r byte k = (w : Written) × Says r byte k w

  -- ---- volume directory

  -- its first record: 3 to 6 pointers
  pub record VolumeDescriptor (r : List ℕ) (p : Plan) : Type 0 where
    pub is : Record 1 (Coded 192 192 18 (Is 18)) 360 r
    pub ab : Text r 13 "A "
    pub pointers : Numbered r 161 I4 3 6 p.pointers

  -- a pointer: its class, the record count of its file, first record length 720
  pub record Pointer (m k : ℕ) (r : List ℕ) : Type 0 where
    pub class : Text r 65 (class_of m k)
    pub counted : (n : ℕ) × Numbered r 101 I8 1 99999999 n
    pub first : Numbered r 109 I8 720 720 720

  -- pointer k of m as it is due
  abbrev pub pointer : ℕ → Due
  pointer m = record { Codes = Coded 219 192 18 (Is 18); long = 360; Holds = Pointer m }

  -- ---- leader

  -- a pair of count (I6) and length: an all-blank count is 0; with count 0 the length is not read and is 0 in the plan
  pub data Pair (r : List ℕ) (byte : ℕ) (k : Form) (least most shortest longest : ℕ) : ℕ → ℕ → Type 0 where
    blank : Says r byte I6 blank_written → least ≤ 0 → Pair r byte k least most shortest longest 0 0
    none : Numbered r byte I6 least most 0 → Pair r byte k least most shortest longest 0 0
    some : {count long : ℕ} → Numbered r byte I6 least most (suc count) → Numbered r (byte + 6) k shortest longest long
        → Pair r byte k least most shortest longest (suc count) long

  -- slots 3, 4, 5 and 7: 0 to 9 records of 12 to 999,999 bytes
  abbrev pub Slot : List ℕ → ℕ → ℕ → ℕ → Type 0
  Slot r byte = Pair r byte I6 0 9 12 999999

  -- other slots: count 0
  abbrev pub NoSlot : List ℕ → ℕ → Type 0
  NoSlot r byte = Pair r byte I6 0 0 0 0 0 0

  -- facility pair i of eleven, each of 14 bytes from 421 on: 0 or 1 record of 12 to 99,999,999 bytes
  abbrev pub Facility : List ℕ → ℕ → ℕ → ℕ → Type 0
  Facility r i = Pair r (421 + 14 * i) I8 0 1 12 99999999

  -- its first record: the counts and lengths of fifteen slots and eleven facility pairs
  pub record LeaderDescriptor (r : List ℕ) (p : Plan) : Type 0 where
    pub is : Record 1 (Coded 11 192 18 (Is 18)) 720 r
    pub ab : Text r 13 "A "
    pub slot1 : Pair r 181 I6 1 1 4096 4096 (get_or p.counts 0 0) (get_or p.lengths 0 0)
    pub slot2 : Pair r 193 I6 0 1 1620 1620 (get_or p.counts 1 0) (get_or p.lengths 1 0)
    pub slot3 : Slot r 205 (get_or p.counts 2 0) (get_or p.lengths 2 0)
    pub slot4 : Slot r 217 (get_or p.counts 3 0) (get_or p.lengths 3 0)
    pub slot5 : Slot r 229 (get_or p.counts 4 0) (get_or p.lengths 4 0)
    pub slot6 : NoSlot r 241
    pub slot7 : Slot r 253 (get_or p.counts 5 0) (get_or p.lengths 5 0)
    pub slot8to15 : (i : ℕ) → 8 ≤ i → i ≤ 15 → NoSlot r (169 + 12 * i)
    pub facilities : (i : ℕ) → suc i ≤ 11 → Facility r i (get_or p.counts (6 + i) 0) (get_or p.lengths (6 + i) 0)

  -- the summary's listed fields 1 to 10: each a value or blank
  pub record Summary (k : ℕ) (r : List ℕ) : Type 0 where
    pub one : Readable r 477 F8d3
    pub two : Readable r 711 F16d7
    pub three : Readable r 743 F16d7
    pub four : Readable r 935 F16d7
    pub six : (i : ℕ) → suc i ≤ 6 → Readable r (1887 + 20 * i) E20d13

  -- the map record's 11 to 13: each a value or blank
  pub record Map (k : ℕ) (r : List ℕ) : Type 0 where
    pub eleven : Readable r 61 I16
    pub twelve : Readable r 77 I16
    pub thirteen : Readable r 93 F16d7

  -- ---- image

  -- its first record: the sort, which the edition must have, and n lines of L bytes, each of w pixels in d bytes and a suffix of s
  pub record ImageDescriptor (r : List ℕ) (p : Plan) : Type 0 where
    pub is : Record 1 (Coded 50 192 18 (Is 18)) 720 r
    pub ab : Text r 13 "A "
    pub known : p.sort ≤ e.sorts
    pub sort : Text r 429 (sort_of p.sort).text
    pub n : Numbered r 181 I6 1 999999 p.n
    pub L : Numbered r 187 I6 1 999999 p.l
    pub group : Numbered r 225 I4 (sort_of p.sort).group (sort_of p.sort).group (sort_of p.sort).group
    pub channels : Numbered r 233 I4 1 1 1
    pub lines : Numbered r 237 I8 1 99999999 p.n
    pub w : Numbered r 249 I8 1 99999999 p.w
    pub d : Numbered r 281 I8 1 99999999 p.d
    pub s : Numbered r 289 I4 0 9999 p.s
    pub paired : p.d ≡ (sort_of p.sort).group * p.w
    pub room : (sort_of p.sort).ahead + p.d + p.s ≤ p.l

  -- a line as it is due
  abbrev pub line_due : Plan → Due
  line_due p = record { Codes = Coded 50 (sort_of p.sort).code 18 (Is 20); long = p.l; Holds = Line p.w }

  -- ---- files

  -- r is a first record of the kind and names the plan's numbers
  abbrev pub First : Kind → List ℕ → Plan → Type 0
  First volume r p = VolumeDescriptor r p
  First leader r p = LeaderDescriptor r p
  First image r p = ImageDescriptor r p
  First trailer r p = TrailerRecord r p

  -- what follows it: pointers and one text; slots in slot order and facilities; lines; nothing
  abbrev pub promised : Kind → Plan → List Due
  promised volume p = replicate p.pointers (pointer p.pointers) ++ (text_record ∷ [])
  promised leader p =
      slot_records p 0 (slot_due 10 Summary)
      ++ (slot_records p 1 (slot_due 20 Map)
      ++ (slot_records p 2 (slot_due 30 free)
      ++ (slot_records p 3 (slot_due 40 free)
      ++ (slot_records p 4 (slot_due 50 free) ++ (slot_records p 5 (slot_due 60 free) ++ facility_records p 6 11)))))
  promised image p = replicate p.n (line_due p)
  promised trailer p = []

  -- the bytes are a file of that kind
  pub record Accepted (kind : Kind) (bs : List ℕ) : Type 0 where
    pub plan : Plan
    pub first : List ℕ
    pub rest : List (List ℕ)
    pub are : first ++ concat rest ≡ bs
    pub begins : First kind first plan
    pub follows : Follow 1 (promised kind plan) rest
