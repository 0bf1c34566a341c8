-- The report's lines as bytes; 15 and 16; what the program `levels` prints.
use Rattle.std.specs.Prelude.{cond, List, [], ◌∷◌, ◌++◌, map, ℕ, ltb, eqb, length, drop, Ok, Err}
use Rattle.fields.specs.Numbers.{number}
use Rattle.records.specs.Answers.{Answer, or_else, refuse_if, is_accepted}
use Rattle.station.specs.InForce.{Query, query}
use Rattle.rules.specs.Fit.{energy, start, no_load}
use Rattle.formulas.specs.Levels.{parameters_at, profile, query_answer, levels, Shown, shown, retired}
use Rattle.layout.specs.Written.{Written, Bytes}
use Rattle.text.specs.Text.{decimal, tenths, hundredths, refusal_line, profile_word, energy_word, start_word, no_load_word, reserve_word, retired_word}
use Rattle.text.specs.Text.{space, newline, over}

-- ---- the lines, "each line ended by byte 10"

-- a line with a word and a whole number
unfoldable pub number_line : List ℕ → ℕ → List ℕ
number_line word n = word ++ decimal n ++ newline

-- the profile's line
abbrev pub profile_line : ℕ → List ℕ
profile_line p = number_line profile_word p

-- "Energy lines: lamination, from, to, level."
unfoldable pub energy_line : ℕ → ℕ → ℕ → ℕ → List ℕ
energy_line i a b x = energy_word ++ decimal i ++ space ++ tenths a ++ space ++ tenths b ++ space ++ hundredths x ++ newline

-- any other line: its word and level
unfoldable pub amount_line : List ℕ → ℕ → List ℕ
amount_line word x = word ++ hundredths x ++ newline

-- the line of a level, by its kind
unfoldable pub level_line : Shown → List ℕ
level_line x =
    cond (eqb x.level energy) (energy_line x.lamination x.from x.to x.cents)
    (cond (eqb x.level start) (amount_line start_word x.cents)
    (cond (eqb x.level no_load) (amount_line no_load_word x.cents)
    (amount_line reserve_word x.cents)))

-- "line by line"; "Levels a technology lacks have no line."
unfoldable pub level_lines : List Shown → List ℕ
level_lines [] = []
level_lines (x ∷ l) = level_line x ++ level_lines l

-- the last line: "The report ends with `retired N`", "`retired 0` too"
abbrev pub retired_line : ℕ → List ℕ
retired_line n = number_line retired_word n

-- a report of a profile, what its levels show, and how many payments are retired
unfoldable pub report_text : ℕ → List Shown → ℕ → List ℕ
report_text p l n = profile_line p ++ level_lines l ++ retired_line n

-- the report of a dossier for a query, "a text report"
unfoldable pub report : List ℕ → Query → List ℕ
report d q = let s = parameters_at d q in report_text (profile s q.hour) (map shown (levels d q)) (retired s (profile s q.hour))

-- ---- written to a lent buffer

-- a buffer of so many bytes holds every report, and every refusal's line (the laws `report-fits` and `prints-fits`)
abbrev pub longest_report : ℕ
longest_report = 2312

-- "15 report buffer too short", of a buffer of n bytes
unfoldable pub short_for : List ℕ → ℕ → Answer
short_for text n = refuse_if (ltb n (length text)) 15 0

-- "the first line starts at byte 0, and bytes past its length stay"; a refused call keeps every byte
unfoldable pub buffer_with : Answer → List ℕ → List ℕ → List ℕ
buffer_with a text buf = cond (is_accepted a) (over text buf) buf

-- what the caller is told: how many bytes the report has, or the refusal
unfoldable pub written : Answer → ℕ → Written
written (Ok x) n = Bytes n
written (Err r) n = Err r

-- "a definition gives this paper's number and values for each case": 0 written, with the report's length; 2 refused, with number and place
unfoldable pub written_numbers : Written → List ℕ
written_numbers (Ok n) = 0 ∷ n ∷ []
written_numbers (Err r) = 2 ∷ r.number ∷ r.place ∷ []

-- the answer to a report into a buffer of n bytes: "10, 11, 15"
unfoldable pub report_answer : List ℕ → Query → ℕ → Answer
report_answer d q n = or_else (query_answer d q) (short_for (report d q) n)

-- the buffer after it: "so does the report buffer to its last byte"
unfoldable pub buffer_after : List ℕ → Query → List ℕ → List ℕ
buffer_after d q buf = buffer_with (report_answer d q (length buf)) (report d q) buf

-- ---- the program

-- "A refusal prints `refused N at P`"; or else the text
unfoldable pub printed : Answer → List ℕ → List ℕ
printed (Ok x) text = text
printed (Err r) text = refusal_line r.number r.place

-- what its standard input asks for, "a big-endian 4-byte hour, then the dossier"; "the program names owner 1"
abbrev pub program_query : List ℕ → Query
program_query i = query (number 0 4 i) 1

-- what `levels` prints for its standard input; "16 under four bytes of input" comes first
unfoldable pub prints : List ℕ → List ℕ
prints i = printed (or_else (refuse_if (ltb (length i) 4) 16 0) (query_answer (drop 4 i) (program_query i))) (report (drop 4 i) (program_query i))
