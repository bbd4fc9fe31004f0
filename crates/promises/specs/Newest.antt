-- The rules that the product keeps: those of `Rules` at the newest edition, each under its own name. Theorems speak of these, so that their
-- statements stay when a new edition comes. Assumes nothing.
use Rattle.std.specs.Prelude.{ℕ, List}
use Rattle.decimal.specs.Written.{Written}
use Rattle.decimal.specs.declared.Form.{Form}
use Rattle.plan.specs.declared.Plan.{Plan}
use Rattle.promises.specs.Edition.{newest}
use Rattle.promises.specs.Rules as rules
use Rattle.promises.specs.Rules.{Due, Kind}

-- ---- fields

-- the field of that form from that byte on is well written and says this
abbrev pub Says : List ℕ → ℕ → Form → Written → Type 0
Says = rules.Says newest

-- it says a number, which lies in a range
abbrev pub Numbered : List ℕ → ℕ → Form → ℕ → ℕ → ℕ → Type 0
Numbered = rules.Numbered newest

-- a listed field is a value or blank
abbrev pub Readable : List ℕ → ℕ → Form → Type 0
Readable = rules.Readable newest

-- a pair of count and length, under their ranges
abbrev pub Pair : List ℕ → ℕ → Form → ℕ → ℕ → ℕ → ℕ → ℕ → ℕ → Type 0
Pair = rules.Pair newest

-- a slot that is not admitted
abbrev pub NoSlot : List ℕ → ℕ → Type 0
NoSlot = rules.NoSlot newest

-- facility pair i
abbrev pub Facility : List ℕ → ℕ → ℕ → ℕ → Type 0
Facility = rules.Facility newest

-- ---- records

-- the first record of a volume directory
abbrev pub VolumeDescriptor : List ℕ → Plan → Type 0
VolumeDescriptor = rules.VolumeDescriptor newest

-- of a leader
abbrev pub LeaderDescriptor : List ℕ → Plan → Type 0
LeaderDescriptor = rules.LeaderDescriptor newest

-- of an image
abbrev pub ImageDescriptor : List ℕ → Plan → Type 0
ImageDescriptor = rules.ImageDescriptor newest

-- pointer k of m
abbrev pub Pointer : ℕ → ℕ → List ℕ → Type 0
Pointer = rules.Pointer newest

-- the summary's listed fields
abbrev pub Summary : ℕ → List ℕ → Type 0
Summary = rules.Summary newest

-- the map record's
abbrev pub Map : ℕ → List ℕ → Type 0
Map = rules.Map newest

-- a pointer as it is due
abbrev pub pointer : ℕ → Due
pointer = rules.pointer newest

-- a line as it is due
abbrev pub line_due : Plan → Due
line_due = rules.line_due newest

-- ---- files

-- a first record of the kind, which names the plan's numbers
abbrev pub First : Kind → List ℕ → Plan → Type 0
First = rules.First newest

-- what follows it
abbrev pub promised : Kind → Plan → List Due
promised = rules.promised newest

-- the bytes are a file of that kind
abbrev pub Accepted : Kind → List ℕ → Type 0
Accepted = rules.Accepted newest
