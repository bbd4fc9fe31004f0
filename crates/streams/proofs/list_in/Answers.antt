-- What lies behind a record's room stays: the listing has the front of the lent bytes alone, and hands back as many.
use Prim.Native.Nat.{ℕ, ◌≤◌}
use mathlib.Core.Path.{◌≡◌, ◌∙◌}
use mathlib.Core.List.{List, ◌++◌}
use native.Mathlib.Omega.{arith}
use lib.ListN.{length, take, drop}
use Rattle.std.proofs.lemmas.Slice.{drop-append-drop}
use Rattle.std.proofs.lemmas.List.{length-take-le}
use Rattle.streams.proofs.list_in.Goals as goal

-- the bytes behind a front that keeps its length are those that stood there
behind : (m : ℕ) (room new : List ℕ) → m ≤ length room → length new ≡ length (take m room) → drop m (new ++ drop m room) ≡ drop m room
behind m room new fits long = drop-append-drop m room new m (omega arith) (long ∙ length-take-le m room fits)

pub returns-in-Err : goal.returns-in-Err
returns-in-Err g c = behind 32768 c.args.room.now c.list_rows.new.buffer c.requires c.list_rows.auto.buffer

pub returns-in_default : goal.returns-in_default
returns-in_default g c = behind 32768 c.args.room.now c.list_rows.new.buffer c.requires c.list_rows.auto.buffer
