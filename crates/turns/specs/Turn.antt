-- One turn of the walk, steps 3 to 7 in document 01's order ("The record and the walk"). To be read beside that page. Assumes nothing.
use Rattle.std.specs.Prelude.{ℕ, ◌+◌, ◌-◌, ◌≤◌, List, Bool, length, take, ltb, leb, eqb, Result, Ok, Err}
use Rattle.words.specs.Tests.{pick}
use Rattle.words.specs.declared.Refusal.{Refusal}
use Rattle.plan.specs.Plan.{total_of}
use Rattle.plan.specs.declared.Plan.{Plan}
use Rattle.plan.specs.declared.Due.{Due}
use Rattle.headers.specs.Header.{header_of}
use Rattle.bodies.specs.Bodies.{body_of}
use Rattle.bodies.specs.Named.{plan_of}
use Rattle.verdicts.specs.Tests.{Verdict}
use Rattle.turns.specs.declared.Stop.{Stop}
use Rattle.turns.specs.declared.Stop.TheVariants.{Wait, Complete, Refused}

-- what a turn says of the next record: it is passed, or the walk stops
abbrev pub Turn : Type 0
Turn = Result (Unit {0}) Stop

-- a refusal: its number, the record's ordinal, and the place in the file of a place in that record
abbrev pub refused_at : ℕ → ℕ → ℕ → ℕ → Stop
refused_at ordinal start number at = Refused (record { number = number; «record» = ordinal; place = start + at })

-- 3. all planned records passed: bytes left, 9; none left and closed, complete; open, wait for 0 bytes
unfoldable pub ended_of : ℕ → ℕ → ℕ → Bool → Stop
ended_of ordinal start left closed = pick (eqb left 0) (pick closed Complete (Wait 0)) (refused_at ordinal start 9 0)

-- 4 and 6. too few bytes: closed, 2; open, wait for the missing ones
unfoldable pub short_of : ℕ → ℕ → Bool → ℕ → Stop
short_of ordinal start closed missing = pick closed (refused_at ordinal start 2 0) (Wait missing)

-- what follows where nothing was found; else the fault is the refusal
abbrev pub on_fine : Verdict → ℕ → ℕ → Turn → Turn
on_fine (Ok u) ordinal start t = t
on_fine (Err x) ordinal start t = Err (refused_at ordinal start x.number x.place)

-- a fault near its record's start: every rule's field lies in the first 10,000 bytes
abbrev pub Near : {A : Type 0} → Result A Refusal → Type 0
Near (Ok a) = Unit {0}
Near (Err x) = x.place ≤ 10000

-- steps 3 to 7 (5, the header, is `header_of`), for the record d that is due behind k others
unfoldable pub judge_of : ℕ → Plan → ℕ → Due → List ℕ → Bool → Turn
judge_of kind p k d b closed =
    pick (leb (total_of kind p) k) (Err (ended_of d.ordinal d.start (length b) closed))
    (pick (ltb (length b) 12) (Err (short_of d.ordinal d.start closed (12 - length b)))
    (on_fine (header_of d.ordinal d.codes d.length b) d.ordinal d.start
    (pick (ltb (length b) d.length) (Err (short_of d.ordinal d.start closed (d.length - length b)))
    (on_fine (body_of kind d.run p k (take d.length b)) d.ordinal d.start (Ok tt)))))

-- a turn with the plan behind a record that passes: behind a first record the one that it names, else as it was. A stop names none: the plan stays
abbrev pub plan_in : Turn → Bool → Plan → Plan → Result Plan Stop
plan_in (Ok u) first q p = Ok (pick first q p)
plan_in (Err x) first q p = Err x

abbrev pub plan_behind : Turn → ℕ → Plan → ℕ → List ℕ → Result Plan Stop
plan_behind t kind p run r = plan_in t (eqb run 0) (plan_of kind r) p

unfoldable pub judged_of : ℕ → Plan → ℕ → Due → List ℕ → Bool → Result Plan Stop
judged_of kind p k d b closed = plan_behind (judge_of kind p k d b closed) kind p d.run (take d.length b)

-- steps 5 and 7 as the code goes about them: what was found in the record, its fault as the stop
abbrev pub passed_of : {A : Type 0} → Result A Refusal → Due → Result A Stop
passed_of (Ok a) d = Ok a
passed_of (Err x) d = Err (refused_at d.ordinal d.start x.number x.place)
