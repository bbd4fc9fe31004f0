-- The plans that the state rule allows (document 01, "Refusal numbers", end, with the ranges of "First records and what they promise"): plain
-- inequalities, kind by kind, with the page's numbers. A number that the kind does not use is 0. Assumes nothing.
use Rattle.std.specs.Prelude.{ℕ, suc, ◌+◌, ◌*◌, ◌≤◌, ◌≡◌, get_or}
use Rattle.plan.specs.declared.Plan.{Plan}
use Rattle.promises.specs.Rules.{Kind, volume, leader, image, trailer, sort_of}

-- a number of a range
pub record Within (least most n : ℕ) : Type 0 where
  pub low : least ≤ n
  pub high : n ≤ most

-- a count of a range; with count 0 the length is 0, and else it is of its range too
pub record Row (least most shortest longest count long : ℕ) : Type 0 where
  pub counted : Within least most count
  pub none : count ≡ 0 → long ≡ 0
  pub some : 1 ≤ count → Within shortest longest long

-- no counts and no lengths
pub record NoRows (p : Plan) : Type 0 where
  pub counts : (i : ℕ) → get_or p.counts i 0 ≡ 0
  pub lengths : (i : ℕ) → get_or p.lengths i 0 ≡ 0

-- no image's numbers
pub record NoLines (p : Plan) : Type 0 where
  pub n : p.n ≡ 0
  pub l : p.l ≡ 0
  pub w : p.w ≡ 0
  pub d : p.d ≡ 0
  pub s : p.s ≡ 0
  pub sort : p.sort ≡ 0

-- volume directory: 3 to 6 pointers
pub record AllowedVolume (p : Plan) : Type 0 where
  pub pointers : Within 3 6 p.pointers
  pub rows : NoRows p
  pub lines : NoLines p

-- row i of a leader's plan
abbrev pub RowOf : Plan → ℕ → ℕ → ℕ → ℕ → ℕ → Type 0
RowOf p i least most shortest longest = Row least most shortest longest (get_or p.counts i 0) (get_or p.lengths i 0)

-- leader: one summary of 4,096 bytes; at most one map of 1,620; slots 3, 4, 5 and 7; eleven facility pairs
pub record AllowedLeader (p : Plan) : Type 0 where
  pub pointers : p.pointers ≡ 0
  pub slot1 : RowOf p 0 1 1 4096 4096
  pub slot2 : RowOf p 1 0 1 1620 1620
  pub slot3 : RowOf p 2 0 9 12 999999
  pub slot4 : RowOf p 3 0 9 12 999999
  pub slot5 : RowOf p 4 0 9 12 999999
  pub slot7 : RowOf p 5 0 9 12 999999
  pub facilities : (i : ℕ) → suc i ≤ 11 → RowOf p (6 + i) 0 1 12 99999999
  pub lines : NoLines p

-- image: its sort, and n lines of L bytes, each of w pixels in d bytes and a suffix of s
pub record AllowedImage (p : Plan) : Type 0 where
  pub pointers : p.pointers ≡ 0
  pub rows : NoRows p
  pub n : Within 1 999999 p.n
  pub L : Within 1 999999 p.l
  pub w : Within 1 99999999 p.w
  pub d : Within 1 99999999 p.d
  pub s : Within 0 9999 p.s
  pub sort : Within 0 1 p.sort
  pub paired : p.d ≡ (sort_of p.sort).group * p.w
  pub room : (sort_of p.sort).ahead + p.d + p.s ≤ p.l

-- all zeros: a trailer's plan, and that of a state that has passed nothing
pub record Zeros (p : Plan) : Type 0 where
  pub pointers : p.pointers ≡ 0
  pub rows : NoRows p
  pub lines : NoLines p

-- the plans that a kind allows
abbrev pub Allowed : Kind → Plan → Type 0
Allowed volume p = AllowedVolume p
Allowed leader p = AllowedLeader p
Allowed image p = AllowedImage p
Allowed trailer p = Zeros p
