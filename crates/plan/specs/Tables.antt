-- The tables of document 01's "First records and what they promise" (000): codes of each record, the leader's slots with the ranges of
-- their counts and lengths, and the image's sorts. A row a rule. Assumes nothing.
use Rattle.std.specs.Prelude.{ℕ, List, [], ◌∷◌, true, false, get_or, replicate}
use Rattle.plan.specs.declared.Codes.{Codes}
use Rattle.plan.specs.declared.Slot.{Slot}
use Rattle.plan.specs.declared.Sort.{Sort}

-- four code bytes, none of them free
abbrev pub codes : ℕ → ℕ → ℕ → ℕ → Codes
codes a b c d = record { one = a; two = b; three = c; four = d; free = false }

-- a slot's code, and the ranges of its count and its length
abbrev pub slot : ℕ → ℕ → ℕ → ℕ → ℕ → Slot
slot code least most shortest longest =
    record { code = code; free = false; least = least; most = most; shortest = shortest; longest = longest }

abbrev pub facility : Slot
facility = record { code = 200; free = true; least = 0; most = 1; shortest = 12; longest = 99999999 }

-- how many slots and facility pairs the plan has a count and a length for
abbrev pub rows : ℕ
rows = 17

-- the admitted slots 1, 2, 3, 4, 5, 7, and the eleven facility pairs
abbrev pub slots : List Slot
slots =
    slot 10 1 1 4096 4096
    ∷ slot 20 0 1 1620 1620
    ∷ slot 30 0 9 12 999999
    ∷ slot 40 0 9 12 999999
    ∷ slot 50 0 9 12 999999
    ∷ slot 60 0 9 12 999999
    ∷ replicate 11 facility

-- the slot of a row, counted from 0
unfoldable pub slot_of : ℕ → Slot
slot_of i = get_or slots i (slot 0 0 0 0 0)

-- the records that are no slot's and no line's: descriptors of the four kinds, then pointer and text
abbrev pub others : List Codes
others =
    codes 192 192 18 18
    ∷ codes 11 192 18 18
    ∷ codes 50 192 18 18
    ∷ codes 63 192 18 18
    ∷ codes 219 192 18 18
    ∷ codes 18 192 18 18
    ∷ []

unfoldable pub other_codes : ℕ → Codes
other_codes i = get_or others i (codes 0 0 0 0)

-- an image's sort: the text at 429, bytes a group, the least bytes ahead of the pixels, the lines' second code byte
abbrev pub sort : List ℕ → ℕ → ℕ → ℕ → Sort
sort text group ahead code = record { text = text; group = group; ahead = ahead; code = code }

-- the sorts by number: counts of two bytes (`IU2b`), then complex samples of two floats (`C*8b`; document 02, No. 2)
abbrev pub sorts : List Sort
sorts = sort (73 ∷ 85 ∷ 50 ∷ 32 ∷ []) 2 192 11 ∷ sort (67 ∷ 42 ∷ 56 ∷ 32 ∷ []) 8 412 10 ∷ []

-- the sort of that number; behind the last one nothing is allowed
unfoldable pub sort_of : ℕ → Sort
sort_of i = get_or sorts i (sort (0 ∷ 0 ∷ 0 ∷ 0 ∷ []) 0 0 0)

-- the last sort's number
abbrev pub last_sort : ℕ
last_sort = 1
