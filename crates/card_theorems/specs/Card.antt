-- What a card is, and who gets which refusal (document 02, No. 1): a list of entries, one byte of kind and then a body, and what each must say. No
-- cursor, state or test of the code occurs here. Places in an entry count from 0, numbers are high byte first. Assumes nothing.
use Rattle.std.specs.Prelude.{ℕ, suc, ◌+◌, ◌*◌, ◌≤◌, ◌<◌, ◌≡◌, ◌⊎◌, List, [], ◌∷◌, ◌++◌, length, take}
use Rattle.words.specs.Words.{byte_at, four_at}
use Rattle.words.specs.Answer.{refusal_at}
use Rattle.words.specs.declared.Refusal.{Refusal}
use Rattle.promises.specs.Edition.{newest}
use Rattle.promises.specs.Rules.{sort_of}
use Rattle.entry.specs.Entry.{Entry, concat}

-- ---- the numbers of a card

-- a line's left fill and data count
pub record Fill : Type 0 where
  pub left : ℕ
  pub count : ℕ

-- a leader record's start and length
pub record Span : Type 0 where
  pub start : ℕ
  pub long : ℕ

-- the image's n, L, w and d, a fill for each line, a span for each leader entry
pub record Numbers : Type 0 where
  pub n : ℕ
  pub l : ℕ
  pub w : ℕ
  pub d : ℕ
  pub lines : List Fill
  pub leaders : List Span

-- left and data of each line
abbrev pub fill_list : List Fill → List ℕ
fill_list [] = []
fill_list (f ∷ fs) = f.left ∷ f.count ∷ fill_list fs

-- start and length of each leader entry
abbrev pub span_list : List Span → List ℕ
span_list [] = []
span_list (s ∷ ss) = s.start ∷ s.long ∷ span_list ss

-- all of them in a row: n, L, w, d, the lines, the leader entries
abbrev pub listed : Numbers → List ℕ
listed x = x.n ∷ x.l ∷ x.w ∷ x.d ∷ (fill_list x.lines ++ span_list x.leaders)

-- ---- the entries

-- kind 1 (16 bytes): n, L, w, d, four bytes each, within document 01's ranges and the agreements of one of the sorts (document 02, No. 2), with s as 0
pub record First (r : List ℕ) (n l w d : ℕ) : Type 0 where
  pub is : Entry 1 16 r
  pub says_n : four_at r 1 ≡ n
  pub says_l : four_at r 5 ≡ l
  pub says_w : four_at r 9 ≡ w
  pub says_d : four_at r 13 ≡ d
  pub n_range : (1 ≤ n) × (n ≤ 999999)
  pub l_range : (1 ≤ l) × (l ≤ 999999)
  pub w_range : (1 ≤ w) × (w ≤ 99999999)
  pub d_range : (1 ≤ d) × (d ≤ 99999999)
  pub sort : ℕ
  pub known : sort ≤ newest.sorts
  pub paired : d ≡ (sort_of sort).group * w
  pub room : (sort_of sort).ahead + d ≤ l

-- kind 2 (12 bytes): line number, left fill, data count; left plus data, an ordinary sum, is at most w
pub record Line (w k : ℕ) (r : List ℕ) (f : Fill) : Type 0 where
  pub is : Entry 2 12 r
  pub number : four_at r 1 ≡ k
  pub left : four_at r 5 ≡ f.left
  pub count : four_at r 9 ≡ f.count
  pub fits : f.left + f.count ≤ w

-- kind 3 (9 bytes): leader record ordinal in one byte, start and length in four each; the start is the sum of the lengths before it
pub record Leader (sum k : ℕ) (r : List ℕ) (s : Span) : Type 0 where
  pub is : Entry 3 9 r
  pub ordinal : byte_at r 1 ≡ k
  pub start : four_at r 2 ≡ s.start
  pub long : four_at r 6 ≡ s.long
  pub behind : s.start ≡ sum

-- ---- a card

-- entries of lines k, k + 1 and on, and their fills
abbrev pub Lines : ℕ → ℕ → List (List ℕ) → List Fill → Type 0
Lines w k [] [] = Unit {0}
Lines w k [] (f ∷ fs) = ⊥
Lines w k (r ∷ rs) [] = ⊥
Lines w k (r ∷ rs) (f ∷ fs) = Line w k r f × Lines w (suc k) rs fs

-- entries of leader records k, k + 1 and on, behind others whose lengths add up to a sum, and their spans
abbrev pub Leaders : ℕ → ℕ → List (List ℕ) → List Span → Type 0
Leaders sum k [] [] = Unit {0}
Leaders sum k [] (s ∷ ss) = ⊥
Leaders sum k (r ∷ rs) [] = ⊥
Leaders sum k (r ∷ rs) (s ∷ ss) = Leader sum k r s × Leaders (sum + s.long) (suc k) rs ss

-- the bytes are a card of these numbers: kind 1, once and first; kind 2 in rising line order, one for every line; kind 3, ordinals 1, 2, 3 and on
pub record Card (bs : List ℕ) (x : Numbers) : Type 0 where
  pub first : List ℕ
  pub lines : List (List ℕ)
  pub leaders : List (List ℕ)
  pub are : first ++ (concat lines ++ concat leaders) ≡ bs
  pub begins : First first x.n x.l x.w x.d
  pub each : Lines x.w 1 lines x.lines
  pub every : length x.lines ≡ x.n
  pub follow : Leaders 0 1 leaders x.leaders

-- ---- the first thing wrong

-- a kind, and how long its body is
abbrev pub Kind : ℕ → ℕ → Type 0
Kind kind body = ((kind ≡ 1) × (body ≡ 16)) ⊎ (((kind ≡ 2) × (body ≡ 12)) ⊎ ((kind ≡ 3) × (body ≡ 9)))

-- of bytes that there are, where an entry is due that must be as `Is` says, in this order: 20 unknown kind, 21 cut short, 22 not as it must be
pub data Wrong (Is : List ℕ → Type 0) (bs : List ℕ) (m : ℕ) : Type 0 where
  unknown : 1 ≤ length bs → ((body : ℕ) → Kind (byte_at bs 0) body → ⊥) → m ≡ 20 → Wrong Is bs m
  cut : (body : ℕ) → 1 ≤ length bs → Kind (byte_at bs 0) body → length bs < 1 + body → m ≡ 21 → Wrong Is bs m
  order : (body : ℕ) → Kind (byte_at bs 0) body → 1 + body ≤ length bs → (Is (take (1 + body) bs) → ⊥) → m ≡ 22 → Wrong Is bs m

-- where an entry must come: 21 too where the card ends
abbrev pub Missing : (List ℕ → Type 0) → List ℕ → ℕ → Type 0
Missing Is bs m = ((length bs ≡ 0) × (m ≡ 21)) ⊎ Wrong Is bs m

-- what each entry must be
abbrev pub IsFirst : List ℕ → Type 0
IsFirst r = (n : ℕ) × (l : ℕ) × (w : ℕ) × (d : ℕ) × First r n l w d

abbrev pub IsLine : ℕ → ℕ → List ℕ → Type 0
IsLine w k r = (f : Fill) × Line w k r f

abbrev pub IsLeader : ℕ → ℕ → List ℕ → Type 0
IsLeader sum k r = (s : Span) × Leader sum k r s

-- the lengths of leader records, added up
abbrev pub longs : List Span → ℕ
longs [] = 0
longs (s ∷ ss) = s.long + longs ss

-- the bytes are no card: the entries before are as they must be, and m, at the next entry's start, is the first thing wrong
pub data CardRefuses (bs : List ℕ) (x : Refusal) : Type 0 where
  first : (m : ℕ) → Missing IsFirst bs m → x ≡ refusal_at m 0 → CardRefuses bs x
  line : (r : List ℕ) (n l w d : ℕ) (rs : List (List ℕ)) (fs : List Fill) (left : List ℕ) (m : ℕ)
      → First r n l w d → Lines w 1 rs fs → length fs < n → r ++ (concat rs ++ left) ≡ bs
      → Missing (IsLine w (suc (length fs))) left m → x ≡ refusal_at m (length r + length (concat rs)) → CardRefuses bs x
  leader : (r : List ℕ) (n l w d : ℕ) (rs : List (List ℕ)) (fs : List Fill) (ls : List (List ℕ)) (ss : List Span) (left : List ℕ) (m : ℕ)
      → First r n l w d → Lines w 1 rs fs → length fs ≡ n → Leaders 0 1 ls ss → r ++ (concat rs ++ (concat ls ++ left)) ≡ bs
      → Wrong (IsLeader (longs ss) (suc (length ss))) left m → x ≡ refusal_at m (length r + length (concat rs) + length (concat ls)) → CardRefuses bs x
