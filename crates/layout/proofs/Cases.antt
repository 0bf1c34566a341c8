-- Worked buffers and lines: a report of three bytes and a lent buffer of five; the lines of all levels; and a small station's report, told, written and
-- printed.
use mathlib.Core.Path.{◌≡◌, refl}
use mathlib.Core.List.{List, [], ◌∷◌, ◌++◌}
use Prim.Native.Nat.{ℕ, ◌+◌}
use lib.ListN.{replicate}
use Rattle.lists.specs.Lists.{joined}
use Rattle.records.specs.Answers.{Accepted, refuse_if, is_accepted, Refused}
use Rattle.records.specs.Table.{RS, FU, AD, RQ, AO, FV, AV}
use Rattle.records.specs.Made.{made, made_from}
use Rattle.formulas.specs.Levels.{shown_as}
use Rattle.station.specs.InForce.{query}
use Rattle.layout.specs.Report.{level_lines, short_for, buffer_with, written, written_numbers, report_answer, buffer_after, report, prints}
use Rattle.layout.proofs.Computed.{computed}

abbrev text : List ℕ
text = 49 ∷ 50 ∷ 10 ∷ []

abbrev lent : List ℕ
lent = 1 ∷ 2 ∷ 3 ∷ 4 ∷ 5 ∷ []

-- the report starts at byte 0, and bytes past its length stay
pub accepted-writes : buffer_with Accepted text lent ≡ 49 ∷ 50 ∷ 10 ∷ 4 ∷ 5 ∷ []
unfolding buffer_with is_accepted
accepted-writes = refl

-- a refused call keeps every byte
pub refused-keeps : buffer_with (Refused 15 0) text lent ≡ 1 ∷ 2 ∷ 3 ∷ 4 ∷ 5 ∷ []
unfolding buffer_with is_accepted
refused-keeps = refl

-- a buffer that the report fills is long enough, and one a byte shorter is not
pub exactly-long-enough : (short_for text 3 ≡ Accepted) × (short_for text 2 ≡ Refused 15 0)
unfolding short_for refuse_if
exactly-long-enough = (refl, refl)

-- in the paper's numbers
pub told : (written_numbers (written Accepted 72) ≡ 0 ∷ 72 ∷ []) × (written_numbers (written (Refused 15 3) 72) ≡ 2 ∷ 15 ∷ 3 ∷ [])
unfolding written written_numbers
told = (refl, refl)

-- "Energy lines: lamination, from, to, level", and the others by their words
pub all_lines : level_lines (shown_as 1 1 0 800 6821 ∷ shown_as 1 2 800 1005 8200 ∷ shown_as 2 0 0 0 439722 ∷ shown_as 3 0 0 0 5 ∷ shown_as 4 0 0 0 100 ∷ [])
    ≡
    101 ∷ 110 ∷ 101 ∷ 114 ∷ 103 ∷ 121 ∷ 32 ∷ 49 ∷ 32 ∷ 48 ∷ 46 ∷ 48 ∷ 32 ∷ 56 ∷ 48 ∷ 46 ∷ 48 ∷ 32 ∷ 54 ∷ 56 ∷ 46 ∷ 50 ∷ 49 ∷ 10  -- energy 1 0.0 80.0 68.21
    ∷ 101 ∷ 110 ∷ 101 ∷ 114 ∷ 103 ∷ 121 ∷ 32 ∷ 50 ∷ 32 ∷ 56 ∷ 48 ∷ 46 ∷ 48 ∷ 32 ∷ 49 ∷ 48 ∷ 48 ∷ 46 ∷ 53 ∷ 32 ∷ 56 ∷ 50 ∷ 46 ∷ 48 ∷ 48 ∷ 10  -- energy 2 80.0 100.5 82.00
    ∷ 115 ∷ 116 ∷ 97 ∷ 114 ∷ 116 ∷ 32 ∷ 52 ∷ 51 ∷ 57 ∷ 55 ∷ 46 ∷ 50 ∷ 50 ∷ 10  -- start 4397.22
    ∷ 110 ∷ 111 ∷ 45 ∷ 108 ∷ 111 ∷ 97 ∷ 100 ∷ 32 ∷ 48 ∷ 46 ∷ 48 ∷ 53 ∷ 10  -- no-load 0.05
    ∷ 114 ∷ 101 ∷ 115 ∷ 101 ∷ 114 ∷ 118 ∷ 101 ∷ 32 ∷ 49 ∷ 46 ∷ 48 ∷ 48 ∷ 10  -- reserve 1.00
    ∷ []
unfolding computed
all_lines = refl

-- ---- a nuclear station whose request 1 asks for profile 2 from hour 256 on, 77 bytes

abbrev reactor : List ℕ
reactor =
    joined (made RS 1 (2 ∷ 1000 ∷ 1000 ∷ 0 ∷ 0 ∷ 20000 ∷ 0 ∷ 0 ∷ 0 ∷ [])
    ∷ made FU 1 (1 ∷ 0 ∷ 0 ∷ []) ∷ made FU 1 (2 ∷ 100000000 ∷ 0 ∷ [])
    ∷ made RQ 1 (1 ∷ 256 ∷ 999 ∷ 2 ∷ [])
    ∷ [])

-- its report at hour 256, of 44 bytes, with n payments retired
abbrev lines_with : ℕ → List ℕ
lines_with n =
    112 ∷ 114 ∷ 111 ∷ 102 ∷ 105 ∷ 108 ∷ 101 ∷ 32 ∷ 50 ∷ 10  -- profile 2
    ∷ 101 ∷ 110 ∷ 101 ∷ 114 ∷ 103 ∷ 121 ∷ 32 ∷ 49 ∷ 32 ∷ 48 ∷ 46 ∷ 48 ∷ 32 ∷ 49 ∷ 48 ∷ 48 ∷ 46 ∷ 48 ∷ 32 ∷ 50 ∷ 46 ∷ 48 ∷ 48 ∷ 10  -- energy 1 0.0 100.0 2.00
    ∷ 114 ∷ 101 ∷ 116 ∷ 105 ∷ 114 ∷ 101 ∷ 100 ∷ 32 ∷ (48 + n) ∷ 10  -- retired n
    ∷ []

-- "`retired 0` too"
abbrev lines : List ℕ
lines = lines_with 0

-- "a big-endian 4-byte hour, then the dossier"; "16 under four bytes of input" comes first, and "A refusal prints `refused N at P`"
pub printed : (prints (0 ∷ 0 ∷ 1 ∷ 0 ∷ reactor) ≡ lines)
    × (prints (0 ∷ 0 ∷ 0 ∷ []) ≡ 114 ∷ 101 ∷ 102 ∷ 117 ∷ 115 ∷ 101 ∷ 100 ∷ 32 ∷ 49 ∷ 54 ∷ 32 ∷ 97 ∷ 116 ∷ 32 ∷ 48 ∷ 10 ∷ [])
    × (prints (0 ∷ 0 ∷ 0 ∷ 0 ∷ []) ≡ 114 ∷ 101 ∷ 102 ∷ 117 ∷ 115 ∷ 101 ∷ 100 ∷ 32 ∷ 53 ∷ 32 ∷ 97 ∷ 116 ∷ 32 ∷ 48 ∷ 10 ∷ [])
    × (prints (0 ∷ 0 ∷ 0 ∷ 0 ∷ 82 ∷ []) ≡ 114 ∷ 101 ∷ 102 ∷ 117 ∷ 115 ∷ 101 ∷ 100 ∷ 32 ∷ 50 ∷ 32 ∷ 97 ∷ 116 ∷ 32 ∷ 48 ∷ 10 ∷ [])
unfolding computed
printed = (refl, refl, refl, refl)

-- it fits a buffer of 44 bytes; 15 comes last, after what the dossier draws
pub answered : (report_answer reactor (query 256 1) 44 ≡ Accepted) × (report_answer reactor (query 256 1) 43 ≡ Refused 15 0)
    × (report_answer [] (query 256 1) 0 ≡ Refused 5 0)
unfolding computed
answered = (refl, refl, refl)

-- the same station with third-party payments of both profiles, profile 2's in two issues and a third from hour 300 on: one is retired, and no level moves
abbrev paid : List ℕ
paid =
    joined (made RS 1 (2 ∷ 1000 ∷ 1000 ∷ 0 ∷ 0 ∷ 20000 ∷ 0 ∷ 0 ∷ 0 ∷ [])
    ∷ made FU 1 (1 ∷ 0 ∷ 0 ∷ []) ∷ made FU 1 (2 ∷ 100000000 ∷ 0 ∷ [])
    ∷ made RQ 1 (1 ∷ 256 ∷ 999 ∷ 2 ∷ [])
    ∷ made AD 1 (1 ∷ 4 ∷ 1 ∷ 70000 ∷ [])
    ∷ made AD 1 (2 ∷ 4 ∷ 1 ∷ 80000 ∷ []) ∷ made AD 2 (2 ∷ 4 ∷ 1 ∷ 90000 ∷ []) ∷ made_from AV 3 300 (2 ∷ 4 ∷ 1 ∷ 0 ∷ [])
    ∷ [])

-- the same with that third one alone: none is retired before its hour, and one of amount 0 then
abbrev later : List ℕ
later =
    joined (made RS 1 (2 ∷ 1000 ∷ 1000 ∷ 0 ∷ 0 ∷ 20000 ∷ 0 ∷ 0 ∷ 0 ∷ [])
    ∷ made FU 1 (1 ∷ 0 ∷ 0 ∷ []) ∷ made FU 1 (2 ∷ 100000000 ∷ 0 ∷ [])
    ∷ made RQ 1 (1 ∷ 256 ∷ 999 ∷ 2 ∷ [])
    ∷ made_from AV 3 300 (2 ∷ 4 ∷ 1 ∷ 0 ∷ [])
    ∷ [])

pub retired-printed : (prints (0 ∷ 0 ∷ 1 ∷ 0 ∷ paid) ≡ lines_with 1) × (prints (0 ∷ 0 ∷ 1 ∷ 44 ∷ paid) ≡ lines_with 1)
    × (prints (0 ∷ 0 ∷ 1 ∷ 43 ∷ later) ≡ lines_with 0) × (prints (0 ∷ 0 ∷ 1 ∷ 44 ∷ later) ≡ lines_with 1)
unfolding computed
retired-printed = (refl, refl, refl, refl)

-- the same station, with 0.50 of owner 1 and 0.70 of owner 2 at the same cost, and a third-party payment of owner 2
abbrev shared : List ℕ
shared =
    joined (made RS 1 (2 ∷ 1000 ∷ 1000 ∷ 0 ∷ 0 ∷ 20000 ∷ 0 ∷ 0 ∷ 0 ∷ [])
    ∷ made FU 1 (1 ∷ 150000000 ∷ 0 ∷ [])
    ∷ made AO 1 (1 ∷ 1 ∷ 3 ∷ 1 ∷ 500000 ∷ [])
    ∷ made AO 1 (2 ∷ 1 ∷ 3 ∷ 1 ∷ 700000 ∷ [])
    ∷ made AO 1 (2 ∷ 1 ∷ 4 ∷ 1 ∷ 900000 ∷ [])
    ∷ [])

-- "energy 1 0.0 100.0" and cents of some tenths from 3.00 on, and n payments retired
abbrev shared_lines : ℕ → ℕ → List ℕ
shared_lines tenth n =
    112 ∷ 114 ∷ 111 ∷ 102 ∷ 105 ∷ 108 ∷ 101 ∷ 32 ∷ 49 ∷ 10  -- profile 1
    ∷ 101 ∷ 110 ∷ 101 ∷ 114 ∷ 103 ∷ 121 ∷ 32 ∷ 49 ∷ 32 ∷ 48 ∷ 46 ∷ 48 ∷ 32 ∷ 49 ∷ 48 ∷ 48 ∷ 46 ∷ 48 ∷ 32 ∷ 51 ∷ 46 ∷ (48 + tenth) ∷ 48 ∷ 10  -- energy 1 0.0 100.0 3.t0
    ∷ 114 ∷ 101 ∷ 116 ∷ 105 ∷ 114 ∷ 101 ∷ 100 ∷ 32 ∷ (48 + n) ∷ 10  -- retired n
    ∷ []

-- "the program names owner 1"; a report takes its owner's costs alone, into the level and into `retired`
pub printed-owner : (prints (0 ∷ 0 ∷ 0 ∷ 0 ∷ shared) ≡ shared_lines 5 0) × (report shared (query 0 1) ≡ shared_lines 5 0)
    × (report shared (query 0 2) ≡ shared_lines 7 1) × (report_answer shared (query 0 3) 0 ≡ Refused 3 0)
unfolding computed
printed-owner = (refl, refl, refl, refl)

-- the same station with profile 2's fuel from hour 300 on: 20, printed and told, before 15, until then
abbrev late : List ℕ
late =
    joined (made RS 1 (2 ∷ 1000 ∷ 1000 ∷ 0 ∷ 0 ∷ 20000 ∷ 0 ∷ 0 ∷ 0 ∷ [])
    ∷ made FU 1 (1 ∷ 0 ∷ 0 ∷ []) ∷ made_from FV 1 300 (2 ∷ 100000000 ∷ 0 ∷ [])
    ∷ made RQ 1 (1 ∷ 256 ∷ 999 ∷ 2 ∷ [])
    ∷ [])

pub late-printed : (prints (0 ∷ 0 ∷ 1 ∷ 0 ∷ late) ≡ 114 ∷ 101 ∷ 102 ∷ 117 ∷ 115 ∷ 101 ∷ 100 ∷ 32 ∷ 50 ∷ 48 ∷ 32 ∷ 97 ∷ 116 ∷ 32 ∷ 48 ∷ 10 ∷ [])
    × (prints (0 ∷ 0 ∷ 1 ∷ 44 ∷ late) ≡ lines)
unfolding computed
late-printed = (refl, refl)

pub late-answered : (report_answer late (query 299 1) 0 ≡ Refused 20 0) × (report_answer late (query 300 1) 43 ≡ Refused 15 0)
    × (report_answer late (query 300 1) 44 ≡ Accepted)
unfolding computed
late-answered = (refl, refl, refl)

pub late-buffered : (buffer_after late (query 299 1) (replicate 46 7) ≡ replicate 46 7)
    × (buffer_after late (query 300 1) (replicate 46 7) ≡ lines ++ (7 ∷ 7 ∷ []))
unfolding computed
late-buffered = (refl, refl)

-- of 46 bytes two stay, and of 43 all
pub buffered : (buffer_after reactor (query 256 1) (replicate 46 7) ≡ lines ++ (7 ∷ 7 ∷ []))
    × (buffer_after reactor (query 256 1) (replicate 43 7) ≡ replicate 43 7)
    × (buffer_after [] (query 256 1) (7 ∷ []) ≡ 7 ∷ [])
unfolding computed
buffered = (refl, refl, refl)
