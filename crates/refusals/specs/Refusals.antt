-- Who gets which refusal, at which record and place (document 01, "Refusal numbers", and steps 3 to 7 of "The record and the walk"): for each record
-- its rules in the order in which they are judged, one rule, one line, with its refusal number and document 01's byte number, in the words of
-- `Rules`. No test of the code occurs here, no turn, state or budget. Assumes nothing.
use Rattle.std.specs.Prelude.{ℕ, zero, suc, ◌+◌, ◌*◌, ◌≤◌, ◌<◌, ◌≡◌, ◌⊎◌, List, [], ◌∷◌, ◌++◌, Bool, true, ℤ, pos, length, take, drop, get_or, replicate}
use Prim.Native.String.{String}
use Rattle.words.specs.Words.{four_at, place_of}
use Rattle.words.specs.declared.Refusal.{Refusal}
use Rattle.decimal.specs.Written.{number_written, blank as blank_written}
use Rattle.decimal.specs.declared.Form.{Form}
use Rattle.decimal.specs.declared.Form.TheVariants.{I4, I6, I8, I16, F8d3, F16d7, E20d13}
use Rattle.bad_byte.specs.BadByte.{PointsAt}
use Rattle.fields.specs.Field.{field_bytes}
use Rattle.plan.specs.declared.Plan.{Plan}
use Rattle.promises.specs.Edition.{newest}
use Rattle.promises.specs.Rules.{Kind, volume, leader, image, trailer, Text, Coded, Is, Any, Follow, concat, class_of, sort_of}
use Rattle.promises.specs.Newest.{Says, Numbered, Readable, First, promised}

-- ==== a rule and its refusal

-- what a refusal points at: a byte of the record; a number field, in which it points at the byte where it goes wrong
pub data Mark : Type 0 where
  at_byte : ℕ → Mark
  in_field : List ℕ → ℕ → Form → Mark

-- at which place of the record that is
abbrev pub Points : Mark → ℕ → Type 0
Points (at_byte b) q = q ≡ place_of b
Points (in_field r b k) q = (i : ℕ) × (q ≡ place_of b + i) × PointsAt k (field_bytes r (place_of b) k) i

-- what must hold; and where it does not, the refusal's number and what it points at
pub record Rule : Type 1 where
  pub number : ℕ
  pub mark : Mark
  pub Holds : Type 0

abbrev pub rule : ℕ → ℕ → Type 0 → Rule
rule m b H = record { number = m; mark = at_byte b; Holds = H }

-- 6: a number field is badly written, or blank where a number is needed (document 02, No. 5)
abbrev pub unread : List ℕ → ℕ → Form → Type 0 → Rule
unread r b k H = record { number = 6; mark = in_field r b k; Holds = H }

-- every rule holds
abbrev pub AllHold : List Rule → Type 0
AllHold [] = Unit {0}
AllHold (x ∷ xs) = x.Holds × AllHold xs

-- m at place q of the record is the first thing wrong: that rule is broken, and those before it hold
abbrev pub FirstWrong : List Rule → ℕ → ℕ → Type 0
FirstWrong [] m q = ⊥
FirstWrong (x ∷ xs) m q = ((x.Holds → ⊥) × (m ≡ x.number) × Points x.mark q) ⊎ (x.Holds × FirstWrong xs m q)

-- ==== the parts of a record

-- 3, 4, 5: sequence number, codes, length, each at its first byte
abbrev pub header : ℕ → (List ℕ → Type 0) → ℕ → List ℕ → List Rule
header ordinal Codes long b =
    rule 3 1 (four_at b (place_of 1) ≡ ordinal)
    ∷ rule 4 5 (Codes b)
    ∷ rule 5 9 (four_at b (place_of 9) ≡ long)
    ∷ []

-- 8: a fixed text, at its first byte
abbrev pub text : List ℕ → ℕ → String → Rule
text r byte t = rule 8 byte (Text r byte t)

-- the field says a number, whichever
abbrev pub SomeNumber : List ℕ → ℕ → Form → Type 0
SomeNumber r byte k = (v : ℤ) × (e : ℤ) × Says r byte k (number_written v e)

-- a number field: 6 where it is badly written or blank, then 7 outside its range, at its first byte
abbrev pub number : List ℕ → ℕ → Form → ℕ → ℕ → List Rule
number r byte k lo hi =
    unread r byte k (SomeNumber r byte k)
    ∷ rule 7 byte ((n : ℕ) × Numbered r byte k lo hi n)
    ∷ []

-- a listed field: 6 unless it is a value or blank
abbrev pub listed : List ℕ → ℕ → Form → Rule
listed r byte k = unread r byte k (Readable r byte k)

-- an agreement: 8 at the record's first byte
abbrev pub agreement : Type 0 → Rule
agreement H = rule 8 1 H

-- the field says that number
abbrev pub SaysNumber : List ℕ → ℕ → Form → ℕ → Type 0
SaysNumber r byte k n = Says r byte k (number_written (pos n) (pos 0))

-- a leader's count (I6), whose blank is 0
abbrev pub Counts : List ℕ → ℕ → ℕ → Type 0
Counts r byte n = (Says r byte I6 blank_written × (n ≡ 0)) ⊎ SaysNumber r byte I6 n

-- a leader's pair: the count's form and range, then its length's, six bytes on, which is not read where the count is 0
abbrev pub pair : List ℕ → ℕ → Form → ℕ → ℕ → ℕ → ℕ → List Rule
pair r byte k least most shortest longest =
    unread r byte I6 (Readable r byte I6)
    ∷ rule 7 byte ((n : ℕ) × Counts r byte n × (least ≤ n) × (n ≤ most))
    ∷ unread r (byte + 6) k (Counts r byte 0 ⊎ SomeNumber r (byte + 6) k)
    ∷ rule 7 (byte + 6) (Counts r byte 0 ⊎ ((n : ℕ) × Numbered r (byte + 6) k shortest longest n))
    ∷ []

-- slots 3, 4, 5 and 7; a slot that is not admitted; m of these, from that byte on
abbrev pub slot : List ℕ → ℕ → List Rule
slot r byte = pair r byte I6 0 9 12 999999

abbrev pub no_slot : List ℕ → ℕ → List Rule
no_slot r byte = pair r byte I6 0 0 0 0

abbrev pub no_slots : List ℕ → ℕ → ℕ → List Rule
no_slots r byte zero = []
no_slots r byte (suc m) = no_slot r byte ++ no_slots r (byte + 12) m

-- m facility pairs, from that byte on
abbrev pub facilities : List ℕ → ℕ → ℕ → List Rule
facilities r byte zero = []
facilities r byte (suc m) = pair r byte I8 0 1 12 99999999 ++ facilities r (byte + 14) m

-- ==== the body of each record: fixed texts by position, number fields by position, agreements

-- nothing beyond the header
abbrev pub nothing : ℕ → List ℕ → List Rule
nothing k r = []

-- the text at 429 is that of sort i, which there is
pub record SortIs (r : List ℕ) (i : ℕ) : Type 0 where
  pub known : i ≤ newest.sorts
  pub text : Text r 429 (sort_of i).text

-- the bytes a group: 7 where they are not those of the sort
abbrev pub group : List ℕ → List Rule
group r =
    unread r 225 I4 (SomeNumber r 225 I4)
    ∷ rule 7 225 ((i : ℕ) × SortIs r i × Numbered r 225 I4 (sort_of i).group (sort_of i).group (sort_of i).group)
    ∷ []

-- an image's agreements: both line counts equal; d is a group for each pixel; the sort's bytes ahead, d and s at most L
abbrev pub agreements : List ℕ → List Rule
agreements r =
    agreement ((n : ℕ) × SaysNumber r 181 I6 n × SaysNumber r 237 I8 n)
    ∷ agreement ((i : ℕ) × (w : ℕ) × SortIs r i × SaysNumber r 249 I8 w × SaysNumber r 281 I8 ((sort_of i).group * w))
    ∷ agreement ((i : ℕ) × (l : ℕ) × (d : ℕ) × (s : ℕ) × SortIs r i × SaysNumber r 187 I6 l × SaysNumber r 281 I8 d × SaysNumber r 289 I4 s
    × ((sort_of i).ahead + d + s ≤ l))
    ∷ []

-- a first record
abbrev pub first_body : Kind → List ℕ → List Rule
first_body volume r = text r 13 "A " ∷ number r 161 I4 3 6
first_body leader r =
    text r 13 "A "
    ∷ pair r 181 I6 1 1 4096 4096
    ++ (pair r 193 I6 0 1 1620 1620
    ++ (slot r 205 ++ (slot r 217 ++ (slot r 229 ++ (no_slot r 241 ++ (slot r 253 ++ (no_slots r 265 8 ++ facilities r 421 11)))))))
first_body image r =
    text r 13 "A "
    ∷ rule 8 429 ((i : ℕ) × SortIs r i)
    ∷ number r 181 I6 1 999999
    ++ (number r 187 I6 1 999999
    ++ (group r
    ++ (number r 233 I4 1 1
    ++ (number r 237 I8 1 99999999
    ++ (number r 249 I8 1 99999999
    ++ (number r 281 I8 1 99999999
    ++ (number r 289 I4 0 9999
    ++ agreements r)))))))
first_body trailer r = text r 13 "A " ∷ []

-- pointer k of m
abbrev pub pointer_body : ℕ → ℕ → List ℕ → List Rule
pointer_body m k r = text r 65 (class_of m k) ∷ number r 101 I8 1 99999999 ++ number r 109 I8 720 720

-- a summary's listed fields, and a map record's
abbrev pub summary_body : ℕ → List ℕ → List Rule
summary_body k r =
    listed r 477 F8d3
    ∷ listed r 711 F16d7
    ∷ listed r 743 F16d7
    ∷ listed r 935 F16d7
    ∷ listed r 1887 E20d13
    ∷ listed r 1907 E20d13
    ∷ listed r 1927 E20d13
    ∷ listed r 1947 E20d13
    ∷ listed r 1967 E20d13
    ∷ listed r 1987 E20d13
    ∷ []

abbrev pub map_body : ℕ → List ℕ → List Rule
map_body k r = listed r 61 I16 ∷ listed r 77 I16 ∷ listed r 93 F16d7 ∷ []

-- line k of an image of w pixels: 10 for each, at bytes 13, 17 and 21
abbrev pub line_body : ℕ → ℕ → List ℕ → List Rule
line_body w k r =
    rule 10 13 (four_at r (place_of 13) ≡ k)
    ∷ rule 10 17 (four_at r (place_of 17) ≡ 1)
    ∷ rule 10 21 (four_at r (place_of 21) + four_at r (place_of 25) + four_at r (place_of 29) ≡ w)
    ∷ []

-- ==== the records of a file

-- a record that is due: its codes, its length, and its body's rules, given its place k behind the first
pub record Asked : Type 1 where
  pub Codes : List ℕ → Type 0
  pub long : ℕ
  pub body : ℕ → List ℕ → List Rule

-- four codes, a length, a body
abbrev pub asked : ℕ → ℕ → ℕ → (ℕ → Type 0) → ℕ → (ℕ → List ℕ → List Rule) → Asked
asked a b c D long body = record { Codes = Coded a b c D; long = long; body = body }

-- a file's first record
abbrev pub first_asked : Kind → Asked
first_asked volume = asked 192 192 18 (Is 18) 360 (λ k. first_body volume)
first_asked leader = asked 11 192 18 (Is 18) 720 (λ k. first_body leader)
first_asked image = asked 50 192 18 (Is 18) 720 (λ k. first_body image)
first_asked trailer = asked 63 192 18 (Is 18) 720 (λ k. first_body trailer)

-- a leader's records of row i: slots of code x; facility pairs, m rows, whose fourth code byte may be any
abbrev pub slot_asked : Plan → ℕ → ℕ → (ℕ → List ℕ → List Rule) → List Asked
slot_asked p i x body = replicate (get_or p.counts i 0) (asked 18 x 18 (Is 20) (get_or p.lengths i 0) body)

abbrev pub facilities_asked : Plan → ℕ → ℕ → List Asked
facilities_asked p i zero = []
facilities_asked p i (suc m) =
    replicate (get_or p.counts i 0) (asked 18 200 18 Any (get_or p.lengths i 0) nothing) ++ facilities_asked p (suc i) m

-- a line of an image
abbrev pub line_asked : Plan → Asked
line_asked p = asked 50 (sort_of p.sort).code 18 (Is 20) p.l (line_body p.w)

-- what follows the first record: pointers and one text; slots in slot order and facilities; lines; nothing
abbrev pub later_asked : Kind → Plan → List Asked
later_asked volume p = replicate p.pointers (asked 219 192 18 (Is 18) 360 (pointer_body p.pointers)) ++ (asked 18 192 18 (Is 18) 360 nothing ∷ [])
later_asked leader p =
    slot_asked p 0 10 summary_body
    ++ (slot_asked p 1 20 map_body
    ++ (slot_asked p 2 30 nothing
    ++ (slot_asked p 3 40 nothing ++ (slot_asked p 4 50 nothing ++ (slot_asked p 5 60 nothing ++ facilities_asked p 6 11)))))
later_asked image p = replicate p.n (line_asked p)
later_asked trailer p = []

-- ==== the first thing wrong in a file

-- of the bytes that have come behind k records: m, at a place q from their first byte on, where these records are due there
pub data Wrong (closed : Bool) (k : ℕ) (bs : List ℕ) (m q : ℕ) : List Asked → Type 1 where
  -- 3. bytes behind the last record: 9
  behind : 1 ≤ length bs → m ≡ 9 → q ≡ 0 → Wrong closed k bs m q []
  -- 4. fewer than 12 bytes: 2 where the file is closed
  short : {d : Asked} {ds : List Asked} → length bs < 12 → closed ≡ true → m ≡ 2 → q ≡ 0 → Wrong closed k bs m q (d ∷ ds)
  -- 5. the header: 3, 4, 5
  head : {d : Asked} {ds : List Asked} → 12 ≤ length bs → FirstWrong (header (suc k) d.Codes d.long bs) m q → Wrong closed k bs m q (d ∷ ds)
  -- 6. the record is not whole: 2 where the file is closed
  part : {d : Asked} {ds : List Asked} → 12 ≤ length bs → AllHold (header (suc k) d.Codes d.long bs)
      → length bs < d.long → closed ≡ true → m ≡ 2 → q ≡ 0 → Wrong closed k bs m q (d ∷ ds)
  -- 7. the body
  body : {d : Asked} {ds : List Asked} → 12 ≤ length bs → AllHold (header (suc k) d.Codes d.long bs)
      → d.long ≤ length bs → FirstWrong (d.body k (take d.long bs)) m q → Wrong closed k bs m q (d ∷ ds)

-- the file's first k records meet their rules and take `start` bytes; behind them stand the bytes `left`, and `next` is due there
pub data Before (kind : Kind) (bs : List ℕ) (k start : ℕ) (left : List ℕ) (next : List Asked) : Type 1 where
  none : k ≡ 0 → start ≡ 0 → left ≡ bs → next ≡ first_asked kind ∷ [] → Before kind bs k start left next
  some : (p : Plan) (r : List ℕ) (rs : List (List ℕ)) → First kind r p → Follow 1 (take (length rs) (promised kind p)) rs
      → k ≡ suc (length rs) → start ≡ length r + length (concat rs) → r ++ (concat rs ++ left) ≡ bs → next ≡ drop (length rs) (later_asked kind p)
      → Before kind bs k start left next

-- a file of which these bytes have come is refused: the records before meet their rules, and this is the first thing wrong behind them
pub record Refuses (kind : Kind) (closed : Bool) (bs : List ℕ) (x : Refusal) : Type 1 where
  pub passed : ℕ
  pub start : ℕ
  pub left : List ℕ
  pub next : List Asked
  pub at : ℕ
  pub before : Before kind bs passed start left next
  pub wrong : Wrong closed passed left x.number at next
  pub ordinal : x.«record» ≡ suc passed
  pub place : x.place ≡ start + at
